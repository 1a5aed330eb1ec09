-- The records that are admitted, and those that the kept tables hold.
use Rattle.std.proofs.Common.{◌≡◌, ℕ, ◌<◌, Bool, true, false, not, List, [], ◌∷◌, ◌++◌, map, length, reverse, cond, refl, sym, ap, ◌∙◌, arith}
use Rattle.std.specs.Prelude.{Option, Some, None, filter, bytes_eq}
use Rattle.std.specs.Option.{option_or, option_map_or}
use Rattle.std.specs.declared.cmp.Ordering.{Ordering}
use Rattle.std.specs.declared.cmp.Ordering.TheVariants.{Less, Equal, Greater}
use Rattle.std.specs.Ordering.{eq_by_cmp, is_eq}
use Rattle.std.specs.FinMap.{entries, empty, get, get-entries, len-empty, len-entries, entries-insert, same_map, from_entries}
use Rattle.std.specs.FinMap.Entries.{find, put}
use Rattle.std.proofs.lemmas.Slice.Eq.{bytes_eq-Decides}
use Rattle.rk_bytes.specs.declared.model.key.Kind.{Kind}
use Rattle.rk_bytes.specs.declared.model.key.Kind.TheVariants.{Deletion, Value, Merge, SingleDeletion, RangeDeletion}
use Rattle.rk_bytes.specs.declared.model.key.Record.{Record}
use Rattle.rk_bytes.specs.Model.InternalKey.{kind_number, kind_of, packed_of}
use Rattle.rk_bytes.specs.Model.DiskImages.{Directory}
use Rattle.rk_bytes.specs.Model.Records.{Slot, slot_cmp, slot_of, last_records}
use Rattle.rk_bytes.specs.Model.Salvage.{placed, last_placed, is_held, not_held, kept_records, found_files, remainder, salvage_records, tables_alone}
use Rattle.rk_laws.proofs.Orders.{slot_cmp-total, slot_cmp-only_equal}
use Rattle.rk_laws.proofs.RecordMaps.{entry_of, get-last_records, get-over, last_records-append}

no_entries : {A : Type 0} (es : List A) → length es ≡ 0 → es ≡ []
no_entries [] e = refl
no_entries (x ∷ es) e = absurd (omega arith)

entries-empty : entries (empty {X = Record} {R = slot_cmp}) ≡ []
entries-empty = no_entries _ (sym (len-entries (empty {X = Record} {R = slot_cmp})) ∙ len-empty slot_cmp Record)

-- entries that are put in order are those of their map
entries-from_entries : (es : List (Slot × Record)) → entries (from_entries {R = slot_cmp} es) ≡ placed es
unfolding placed
entries-from_entries [] = entries-empty
entries-from_entries (e ∷ es) = entries-insert slot_cmp-total (from_entries es) e.0 e.1 ∙ ap (put slot_cmp e.0 e.1) (entries-from_entries es)

pub last_placed-entries : (records : List Record) → last_placed records ≡ entries (last_records records)
unfolding last_records
last_placed-entries records = sym (entries-from_entries (map entry_of (reverse records)))

get-last_placed : (records : List Record) (q : Slot) → find slot_cmp q (last_placed records) ≡ get (last_records records) q
get-last_placed records q = ap (find slot_cmp q) (last_placed-entries records) ∙ sym (get-entries (last_records records) q)

is_equal : (r : Ordering) → is_eq r ≡ true → r ≡ Equal
is_equal Less e = cc
is_equal Equal e = refl
is_equal Greater e = cc

equal_of : (p q : Slot) → eq_by_cmp slot_cmp p q ≡ true → p ≡ q
equal_of p q e = slot_cmp-only_equal p q (is_equal (slot_cmp p q) e)

-- what is found at a slot of a list of records has that slot
found_at : (records : List Record) (q : Slot) (r : Record) → find slot_cmp q (map entry_of records) ≡ Some r → slot_of r ≡ q
found_at [] q r e = cc
found_at (x ∷ records) q r e = by (eq_by_cmp slot_cmp q (slot_of x)) refl (found_at records q r) e
  where
    by : (b : Bool) → eq_by_cmp slot_cmp q (slot_of x) ≡ b → (find slot_cmp q (map entry_of records) ≡ Some r → slot_of r ≡ q)
        → cond b (Some x) (find slot_cmp q (map entry_of records)) ≡ Some r → slot_of r ≡ q
    by true same later e = let is : x ≡ r = cc in ap slot_of (sym is) ∙ sym (equal_of q (slot_of x) same)
    by false other later e = later e

pub found_in : (records : List Record) (q : Slot) (r : Record) → find slot_cmp q (last_placed records) ≡ Some r → slot_of r ≡ q
found_in records q r e = found_at (reverse records) q r (sym (get-last_placed records q ∙ get-last_records records q) ∙ e)

-- a record is known by its slot and its value
kind_of-kind_number : (kind : Kind) → kind_of (kind_number kind) ≡ Some kind
kind_of-kind_number Deletion = refl
kind_of-kind_number Value = refl
kind_of-kind_number Merge = refl
kind_of-kind_number SingleDeletion = refl
kind_of-kind_number RangeDeletion = refl

pub kind_number-small : (kind : Kind) → kind_number kind < 256
kind_number-small Deletion = omega arith
kind_number-small Value = omega arith
kind_number-small Merge = omega arith
kind_number-small SingleDeletion = omega arith
kind_number-small RangeDeletion = omega arith

same_kind : (a b : Kind) → kind_number a ≡ kind_number b → a ≡ b
same_kind a b e = let s : Some a ≡ Some b = sym (kind_of-kind_number a) ∙ ap kind_of e ∙ kind_of-kind_number b in cc

same_record : (r s : Record) → slot_of r ≡ slot_of s → r.value ≡ s.value → r ≡ s
same_record r s place value =
    let packed : packed_of r.sequence r.kind ≡ packed_of s.sequence s.kind = ap (λ (p : Slot). p.packed) place in
    let small = kind_number-small r.kind in
    let other = kind_number-small s.kind in
    let sequence : r.sequence ≡ s.sequence = omega arith in
    let number : kind_number r.kind ≡ kind_number s.kind = omega arith in
    let family : r.family ≡ s.family = ap (λ (p : Slot). p.family) place in
    let key : r.key ≡ s.key = ap (λ (p : Slot). p.user) place in
    let kind = same_kind r.kind s.kind number in
    λ i. record { family = family i; key = key i; sequence = sequence i; kind = kind i; value = value i }

same_bytes : (a b : List ℕ) → bytes_eq a b ≡ true → a ≡ b
same_bytes a b e = (bytes_eq-Decides a b).0 e

-- what is held stands there
held_found : (records : List Record) (r : Record) → is_held (last_placed records) r ≡ true → find slot_cmp (slot_of r) (last_placed records) ≡ Some r
held_found records r e = by (find slot_cmp (slot_of r) (last_placed records)) refl e
  where
    by : (o : Option Record) → find slot_cmp (slot_of r) (last_placed records) ≡ o → option_map_or (λ other. bytes_eq other.value r.value) o false ≡ true → o ≡ Some r
    by None none e = cc
    by (Some other) some e = ap (λ x. Some x) (same_record other r (found_in records (slot_of r) other some) (same_bytes other.value r.value e))

-- where nothing is left, all that stands in the list is held
all_held : (held : Record → Bool) (es : List (Slot × Record)) → filter (λ r. not (held r)) (map (λ e. e.1) es) ≡ [] → (q : Slot) (r : Record) → find slot_cmp q es ≡ Some r → held r ≡ true
all_held held [] none q r e = cc
all_held held (x ∷ es) none q r e = by (held x.1) refl none (eq_by_cmp slot_cmp q x.0) (λ none e. all_held held es none q r e) e
  where
    by : (h : Bool) → held x.1 ≡ h → cond (not h) (x.1 ∷ filter (λ r. not (held r)) (map (λ e. e.1) es)) (filter (λ r. not (held r)) (map (λ e. e.1) es)) ≡ []
        → (b : Bool) → (filter (λ r. not (held r)) (map (λ e. e.1) es) ≡ [] → find slot_cmp q es ≡ Some r → held r ≡ true)
        → cond b (Some x.1) (find slot_cmp q es) ≡ Some r → held r ≡ true
    by true is none true later e = let same : x.1 ≡ r = cc in ap held (sym same) ∙ is
    by true is none false later e = later none e
    by false is none b later e = cc

-- a list with others before it and after it: where it has a record, the whole has one
none_within : (before kept after : List Record) (q : Slot) → get (last_records (before ++ (kept ++ after))) q ≡ None → get (last_records kept) q ≡ None
none_within before kept after q e = by (get (last_records after) q) (get (last_records kept) q) (sym parts ∙ e)
  where
    parts : get (last_records (before ++ (kept ++ after))) q ≡ option_or (option_or (get (last_records after) q) (get (last_records kept) q)) (get (last_records before) q)
    parts =
        ap (λ m. get m q) (last_records-append before (kept ++ after)) ∙ get-over (last_records before) (last_records (kept ++ after)) q
        ∙ ap (λ o. option_or o (get (last_records before) q)) (ap (λ m. get m q) (last_records-append kept after) ∙ get-over (last_records kept) (last_records after) q)

    by : (a k : Option Record) → option_or (option_or a k) (get (last_records before) q) ≡ None → k ≡ None
    by None None e = refl
    by None (Some x) e = cc
    by (Some x) k e = cc

pub nothing_left : (before kept after : List Record) → not_held kept (before ++ (kept ++ after)) ≡ [] → last_records (before ++ (kept ++ after)) ≡ last_records kept
nothing_left before kept after none =
    same_map slot_cmp-total slot_cmp-only_equal _ _ (λ q. by q (get (last_records (before ++ (kept ++ after))) q) refl)
  where
    by : (q : Slot) (o : Option Record) → get (last_records (before ++ (kept ++ after))) q ≡ o → get (last_records (before ++ (kept ++ after))) q ≡ get (last_records kept) q
    by q None e = e ∙ sym (none_within before kept after q e)
    by q (Some r) e =
        let stands = get-last_placed (before ++ (kept ++ after)) q ∙ e in
        let at = found_in (before ++ (kept ++ after)) q r stands in
        let held = held_found kept r (all_held (is_held (last_placed kept)) (last_placed (before ++ (kept ++ after))) none q r stands) in
        e ∙ sym (sym (get-last_placed kept q) ∙ ap (λ p. find slot_cmp p (last_placed kept)) (sym at) ∙ held)

pub records-tables_alone : (d : Directory) → remainder d ≡ [] → salvage_records d ≡ tables_alone d
unfolding remainder salvage_records tables_alone
records-tables_alone d none = nothing_left _ (kept_records (found_files (entries d))) _ none
