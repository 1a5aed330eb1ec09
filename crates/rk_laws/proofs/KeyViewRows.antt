-- The rows of a family are what is shown of its keys.
use Rattle.std.proofs.Common.{◌≡◌, ◌≢◌, ℕ, Bool, true, false, not, List, [], ◌∷◌, map, cond, refl, sym, ap, ◌∙◌}
use Rattle.std.proofs.lemmas.Slice.Eq.{bytes_eq-Decides}
use Rattle.std.specs.Prelude.{Option, Some, None, filter, filter_map, bytes_eq, ◌&&◌, ◌||◌, ◌==◌}
use Rattle.std.specs.List.{AllByRecursion, cons_option, list_any, dedup, dedup_from}
use Rattle.std.specs.FinMap.{values}
use Rattle.rk_bytes.specs.declared.model.key.Record.{Record}
use Rattle.rk_bytes.specs.declared.model.view.Tomb.{Tomb}
use Rattle.rk_bytes.specs.Model.KeyView.{State, Answer, found, absent, merge, Row, is_point, is_covered, uncovered, deciding, shown, view_records, answer, keys_in, is_between, row_of, rows}

-- what a row of this key may be
abbrev IsShown : (List ℕ → Bool) → (List ℕ → Answer) → Row → Type 0
IsShown between shows row = (between row.key ≡ true) × (row.answer ≡ shows row.key) × (row.answer ≢ absent)

-- the row of a key alone
row_shown : (between : List ℕ → Bool) (shows : List ℕ → Answer) (key : List ℕ) (a : Answer) → between key ≡ true → shows key ≡ a → (rest : List Row) → AllByRecursion (IsShown between shows) rest → AllByRecursion (IsShown between shows) (cons_option (row_of key a) rest)
row_shown between shows key (found value) is e rest later = ((is, sym e, λ no. cc), later)
row_shown between shows key absent is e rest later = later
row_shown between shows key (merge operands base) is e rest later = ((is, sym e, λ no. cc), later)

each_shown : (between : List ℕ → Bool) (shows : List ℕ → Answer) (keys : List (List ℕ)) → AllByRecursion (IsShown between shows) (filter_map (λ key. row_of key (shows key)) (filter between keys))
each_shown between shows [] = tt
each_shown between shows (key ∷ keys) = by (between key) refl (each_shown between shows keys)
  where
    by : (b : Bool) → between key ≡ b → AllByRecursion (IsShown between shows) (filter_map (λ k. row_of k (shows k)) (filter between keys))
        → AllByRecursion (IsShown between shows) (filter_map (λ k. row_of k (shows k)) (cond b (key ∷ filter between keys) (filter between keys)))
    by false is later = later
    by true is later = row_shown between shows key (shows key) is refl (filter_map (λ k. row_of k (shows k)) (filter between keys)) later

pub rows-each : (state : State) (family : ℕ) (from to : Option (List ℕ)) → AllByRecursion (λ row. (is_between from to row.key ≡ true) × (row.answer ≡ answer state family row.key) × (row.answer ≢ absent)) (rows state family from to)
unfolding rows
rows-each state family from to = each_shown (is_between from to) (answer state family) (keys_in (values state.records) family)

same_key : (a b : List ℕ) → bytes_eq a b ≡ true → a ≡ b
same_key a b e = (bytes_eq-Decides a b).0 e

-- a key that stands in a list, and that is between the bounds and shown, has a row
row_there : (key : List ℕ) (a : Answer) → a ≢ absent → (rest : List Row) → list_any (λ row. bytes_eq row.key key) (cons_option (row_of key a) rest) ≡ true
row_there key (found value) some rest = ap (λ b. b || list_any (λ row. bytes_eq row.key key) rest) ((bytes_eq-Decides key key).1 refl)
row_there key absent some rest = absurd (some refl)
row_there key (merge operands base) some rest = ap (λ b. b || list_any (λ row. bytes_eq row.key key) rest) ((bytes_eq-Decides key key).1 refl)

row_later : (test : Row → Bool) (o : Option Row) (rest : List Row) → list_any test rest ≡ true → list_any test (cons_option o rest) ≡ true
row_later test None rest e = e
row_later test (Some row) rest e = by (test row) e
  where
    by : (b : Bool) → list_any test rest ≡ true → (b || list_any test rest) ≡ true
    by true e = refl
    by false e = e

every_shown : (between : List ℕ → Bool) (shows : List ℕ → Answer) (key : List ℕ) → between key ≡ true → shows key ≢ absent → (keys : List (List ℕ)) → list_any (λ k. bytes_eq k key) keys ≡ true
    → list_any (λ row. bytes_eq row.key key) (filter_map (λ k. row_of k (shows k)) (filter between keys)) ≡ true
every_shown between shows key is some [] there = cc
every_shown between shows key is some (k ∷ keys) there = by (bytes_eq k key) refl there (every_shown between shows key is some keys)
  where
    skipped : (b : Bool) → list_any (λ row. bytes_eq row.key key) (filter_map (λ x. row_of x (shows x)) (filter between keys)) ≡ true
        → list_any (λ row. bytes_eq row.key key) (filter_map (λ x. row_of x (shows x)) (cond b (k ∷ filter between keys) (filter between keys))) ≡ true
    skipped true later = row_later (λ row. bytes_eq row.key key) (row_of k (shows k)) _ later
    skipped false later = later

    by : (b : Bool) → bytes_eq k key ≡ b → (b || list_any (λ x. bytes_eq x key) keys) ≡ true
        → (list_any (λ x. bytes_eq x key) keys ≡ true → list_any (λ row. bytes_eq row.key key) (filter_map (λ x. row_of x (shows x)) (filter between keys)) ≡ true)
        → list_any (λ row. bytes_eq row.key key) (filter_map (λ x. row_of x (shows x)) (cond (between k) (k ∷ filter between keys) (filter between keys))) ≡ true
    by false other there later = skipped (between k) (later there)
    by true same there later =
        let one : k ≡ key = same_key k key same in
        ap (λ b. list_any (λ row. bytes_eq row.key key) (filter_map (λ x. row_of x (shows x)) (cond b (k ∷ filter between keys) (filter between keys)))) (ap between one ∙ is)
        ∙ ap (λ x. list_any (λ row. bytes_eq row.key key) (cons_option (row_of x (shows x)) (filter_map (λ x. row_of x (shows x)) (filter between keys)))) one
        ∙ row_there key (shows key) some (filter_map (λ x. row_of x (shows x)) (filter between keys))

-- no key is lost with those that stand twice
or_same : (a b : Bool) → (a || b) ≡ (a || (a || b))
or_same true b = refl
or_same false b = refl

any-dedup_from : (key k : List ℕ) (keys : List (List ℕ)) → list_any (λ x. bytes_eq x key) (dedup_from bytes_eq k keys) ≡ (bytes_eq k key || list_any (λ x. bytes_eq x key) keys)
any-dedup_from key k [] = refl
any-dedup_from key k (x ∷ keys) = by (bytes_eq x k) refl (any-dedup_from key k keys) (any-dedup_from key x keys)
  where
    by : (b : Bool) → bytes_eq x k ≡ b
        → list_any (λ y. bytes_eq y key) (dedup_from bytes_eq k keys) ≡ (bytes_eq k key || list_any (λ y. bytes_eq y key) keys)
        → list_any (λ y. bytes_eq y key) (dedup_from bytes_eq x keys) ≡ (bytes_eq x key || list_any (λ y. bytes_eq y key) keys)
        → list_any (λ y. bytes_eq y key) (cond b (dedup_from bytes_eq k keys) (k ∷ dedup_from bytes_eq x keys)) ≡ (bytes_eq k key || (bytes_eq x key || list_any (λ y. bytes_eq y key) keys))
    by true same kept more =
        kept ∙ or_same (bytes_eq k key) (list_any (λ y. bytes_eq y key) keys) ∙ ap (λ z. bytes_eq k key || (bytes_eq z key || list_any (λ y. bytes_eq y key) keys)) (sym (same_key x k same))
    by false other kept more = ap (λ b. bytes_eq k key || b) more

any-dedup : (key : List ℕ) (keys : List (List ℕ)) → list_any (λ x. bytes_eq x key) (dedup bytes_eq keys) ≡ list_any (λ x. bytes_eq x key) keys
any-dedup key [] = refl
any-dedup key (k ∷ keys) = any-dedup_from key k keys

-- where no key of the family is this one, none of its records is left
none_left : (tombs : List Tomb) (family : ℕ) (key : List ℕ) (records : List Record) → list_any (λ x. bytes_eq x key) (map (λ r. r.key) (filter (λ r. r.family == family) records)) ≡ false → uncovered tombs family key records ≡ []
none_left tombs family key [] none = refl
none_left tombs family key (r ∷ records) none = by (r.family == family) (bytes_eq r.key key) refl none (none_left tombs family key records)
  where
    by : (f k : Bool) → bytes_eq r.key key ≡ k
        → list_any (λ x. bytes_eq x key) (map (λ s. s.key) (cond f (r ∷ filter (λ s. s.family == family) records) (filter (λ s. s.family == family) records))) ≡ false
        → (list_any (λ x. bytes_eq x key) (map (λ s. s.key) (filter (λ s. s.family == family) records)) ≡ false → uncovered tombs family key records ≡ [])
        → cond ((f && bytes_eq r.key key && is_point r.kind) && not (is_covered tombs r)) (r ∷ uncovered tombs family key records) (uncovered tombs family key records) ≡ []
    by false k is none later = later none
    by true true is none later = cc
    by true false is none later =
        ap (λ b. cond ((b && is_point r.kind) && not (is_covered tombs r)) (r ∷ uncovered tombs family key records) (uncovered tombs family key records)) is
        ∙ later (sym (ap (λ b. b || list_any (λ x. bytes_eq x key) (map (λ s. s.key) (filter (λ s. s.family == family) records))) is) ∙ none)

key_there : (state : State) (family : ℕ) (key : List ℕ) → answer state family key ≢ absent → list_any (λ x. bytes_eq x key) (keys_in (values state.records) family) ≡ true
unfolding view_records
key_there state family key some = any-dedup key (map (λ r. r.key) (filter (λ r. r.family == family) (values state.records))) ∙ by (list_any (λ x. bytes_eq x key) (map (λ r. r.key) (filter (λ r. r.family == family) (values state.records)))) refl
  where
    by : (b : Bool) → list_any (λ x. bytes_eq x key) (map (λ r. r.key) (filter (λ r. r.family == family) (values state.records))) ≡ b → b ≡ true
    by true is = refl
    by false is = absurd (some (ap (λ records. shown (deciding records)) (none_left state.tombs family key (values state.records) is)))

pub rows-every : (state : State) (family : ℕ) (from to : Option (List ℕ)) (key : List ℕ) → is_between from to key ≡ true → answer state family key ≢ absent → list_any (λ row. bytes_eq row.key key) (rows state family from to) ≡ true
unfolding rows
rows-every state family from to key is some = every_shown (is_between from to) (answer state family) key is some (keys_in (values state.records) family) (key_there state family key some)
