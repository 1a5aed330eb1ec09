-- What stays of a salvage where a log goes and nothing has to be added.
use Rattle.std.proofs.Common.{◌≡◌, ℕ, Bool, true, false, not, ◌&&◌, List, [], ◌∷◌, ◌++◌, map, cond, refl, sym, ap, subst, ◌∙◌}
use Rattle.std.specs.Prelude.{T, Option, Some, None, filter, flat_map, bytes_eq}
use Rattle.std.specs.List.{AllByRecursion}
use Rattle.std.specs.Option.{option_or, option_map_or}
use Rattle.std.specs.declared.cmp.Ordering.{Ordering}
use Rattle.std.specs.declared.cmp.Ordering.TheVariants.{Less, Equal, Greater}
use Rattle.std.specs.Ordering.{eq_by_cmp, is_eq, is_lt, ordering_reverse}
use Rattle.std.specs.Cmp.{tied_itself}
use Rattle.std.specs.FinMap.{entries, entries_sorted, get, same_map}
use Rattle.std.specs.FinMap.Entries.{find, is_sorted, below_all}
use Rattle.std.proofs.lemmas.Slice.Eq.{bytes_eq-Decides}
use Rattle.std.proofs.lemmas.List.Elements.{filter-append}
use Rattle.rk_bytes.specs.declared.model.key.Record.{Record}
use Rattle.rk_bytes.specs.Model.LogItems.{Item}
use Rattle.rk_bytes.specs.Model.Records.{Slot, slot_cmp, slot_of, last_records, slot_cmp-total, get-over}
use Rattle.rk_bytes.specs.Model.Salvage.{Files, TableFile, FoundFiles, last_placed, is_held, not_held, item_records, is_known, log_records, all_records, partly_read, known_families, kept_records, taken_records, remainder_of}
use Rattle.rk_laws.proofs.Orders.{slot_cmp-only_equal}
use Rattle.rk_laws.proofs.RecordMaps.{last_records-append}
use Rattle.rk_laws.proofs.SalvageLemmas.{last_placed-entries, found_in, nothing_left}

-- what is below another isn't tied with it
not_tied : (o : Ordering) (r : Ordering) → r ≡ ordering_reverse o → T (is_lt o) → is_eq r ≡ false
not_tied Less r is below = ap is_eq is
not_tied Equal r is below = absurd below
not_tied Greater r is below = absurd below

both : (a b : Bool) → T (a && b) → T a × T b
both true b h = (tt, h)
both false b h = absurd h

-- what is found in a list is found behind an entry that is below it
behind : (e : Slot × Record) (es fs : List (Slot × Record)) → T (below_all slot_cmp e.0 fs) → AllByRecursion (λ f. find slot_cmp f.0 es ≡ Some f.1) fs
    → AllByRecursion (λ f. find slot_cmp f.0 (e ∷ es) ≡ Some f.1) fs
behind e es [] below all = tt
behind e es (f ∷ fs) below all =
    let parts = both (is_lt (slot_cmp e.0 f.0)) (below_all slot_cmp e.0 fs) below in
    let apart : eq_by_cmp slot_cmp f.0 e.0 ≡ false = not_tied (slot_cmp e.0 f.0) (slot_cmp f.0 e.0) (slot_cmp-total.antisymm f.0 e.0) parts.0 in
    (ap (λ b. cond b (Some e.1) (find slot_cmp f.0 es)) apart ∙ all.0, behind e es fs parts.1 all.1)

-- each entry of a list in order is found at its slot
all_found : (es : List (Slot × Record)) → T (is_sorted slot_cmp es) → AllByRecursion (λ e. find slot_cmp e.0 es ≡ Some e.1) es
all_found [] sorted = tt
all_found (e ∷ es) sorted =
    let parts = both (below_all slot_cmp e.0 es) (is_sorted slot_cmp es) sorted in
    (ap (λ r. cond (is_eq r) (Some e.1) (find slot_cmp e.0 es)) (tied_itself slot_cmp-total e.0), behind e es es parts.0 (all_found es parts.1))

same_bytes : (a : List ℕ) → bytes_eq a a ≡ true
same_bytes a = (bytes_eq-Decides a a).1 refl

-- what stands in a list is held by the list
held_by_itself : (records : List Record) (e : Slot × Record) → find slot_cmp e.0 (last_placed records) ≡ Some e.1 → is_held (last_placed records) e.1 ≡ true
held_by_itself records e found =
    let at : slot_of e.1 ≡ e.0 = found_in records e.0 e.1 found in
    ap (λ o. option_map_or (λ other. bytes_eq other.value e.1.value) o false) (ap (λ q. find slot_cmp q (last_placed records)) at ∙ found) ∙ same_bytes e.1.value

none_left : (held : Record → Bool) (es : List (Slot × Record)) → AllByRecursion (λ e. held e.1 ≡ true) es → filter (λ r. not (held r)) (map (λ e. e.1) es) ≡ []
none_left held [] all = refl
none_left held (e ∷ es) all = ap (λ b. cond (not b) (e.1 ∷ filter (λ r. not (held r)) (map (λ e. e.1) es)) (filter (λ r. not (held r)) (map (λ e. e.1) es))) all.0 ∙ none_left held es all.1

each_held : (records : List Record) (es : List (Slot × Record)) → AllByRecursion (λ e. find slot_cmp e.0 (last_placed records) ≡ Some e.1) es → AllByRecursion (λ e. is_held (last_placed records) e.1 ≡ true) es
each_held records [] all = tt
each_held records (e ∷ es) all = (held_by_itself records e all.0, each_held records es all.1)

sorted_records : (records : List Record) → T (is_sorted slot_cmp (last_placed records))
sorted_records records = subst (λ es. T (is_sorted slot_cmp es)) (sym (last_placed-entries records)) (entries_sorted (last_records records))

nothing_of_itself : (records : List Record) → not_held records records ≡ []
nothing_of_itself records =
    none_left (is_held (last_placed records)) (last_placed records) (each_held records (last_placed records) (all_found (last_placed records) (sorted_records records)))

-- a list of the same last records has nothing that isn't held
pub nothing_of_same : (held records : List Record) → last_records records ≡ last_records held → not_held held records ≡ []
nothing_of_same held records same =
    let listed : last_placed records ≡ last_placed held = last_placed-entries records ∙ ap entries same ∙ sym (last_placed-entries held) in
    ap (λ (es : List (Slot × Record)). filter (λ r. not (is_held (last_placed held) r)) (map (λ e. e.1) es)) listed ∙ nothing_of_itself held

-- what stands in a slot of three lists and of four, the last first
at_three : (before kept after : List Record) (q : Slot)
    → get (last_records (before ++ (kept ++ after))) q ≡ option_or (option_or (get (last_records after) q) (get (last_records kept) q)) (get (last_records before) q)
at_three before kept after q =
    ap (λ m. get m q) (last_records-append before (kept ++ after)) ∙ get-over (last_records before) (last_records (kept ++ after)) q
    ∙ ap (λ o. option_or o (get (last_records before) q)) (ap (λ m. get m q) (last_records-append kept after) ∙ get-over (last_records kept) (last_records after) q)

at_two : (front rest : List Record) (q : Slot) → get (last_records (front ++ rest)) q ≡ option_or (get (last_records rest) q) (get (last_records front) q)
at_two front rest q = ap (λ m. get m q) (last_records-append front rest) ∙ get-over (last_records front) (last_records rest) q

without_front : (b k f r : Option Record) → option_or (option_or (option_or r f) k) b ≡ k → option_or (option_or r k) b ≡ k
without_front b k f (Some x) e = e
without_front b None None None e = e
without_front b None (Some y) None e = cc
without_front b (Some z) f None e = refl

-- where the whole is what is kept, it is so without a front of what comes after
pub same_without_front : (before kept front rest : List Record) → last_records (before ++ (kept ++ (front ++ rest))) ≡ last_records kept → last_records (before ++ (kept ++ rest)) ≡ last_records kept
same_without_front before kept front rest same = same_map slot_cmp-total slot_cmp-only_equal _ _ at
  where
    at : (q : Slot) → get (last_records (before ++ (kept ++ rest))) q ≡ get (last_records kept) q
    at q =
        at_three before kept rest q
        ∙ without_front (get (last_records before) q) (get (last_records kept) q) (get (last_records front) q) (get (last_records rest) q)
        (ap (λ o. option_or (option_or o (get (last_records kept) q)) (get (last_records before) q)) (sym (at_two front rest q)) ∙ sym (at_three before kept (front ++ rest) q) ∙ ap (λ m. get m q) same)

module _ (files : Files) (tables : List TableFile) (log : ℕ × List Item) (more : List (ℕ × List Item)) where
  abbrev whole : FoundFiles
  whole = record { files = files; tables = tables; logs = log ∷ more }

  abbrev rest : FoundFiles
  rest = record { files = files; tables = tables; logs = more }

  -- the records of the first log, and of the others
  front : List Record
  front = filter (is_known (known_families whole)) (flat_map item_records log.1)

  parts : log_records (known_families whole) (log ∷ more) ≡ front ++ log_records (known_families whole) more
  unfolding front
  parts = filter-append (is_known (known_families whole)) (flat_map item_records log.1) (flat_map (λ other. flat_map item_records other.1) more)

  same_as_kept : remainder_of whole ≡ [] → last_records (taken_records whole) ≡ last_records (kept_records whole)
  same_as_kept none = nothing_left (all_records (partly_read whole)) (kept_records whole) (log_records (known_families whole) (log ∷ more)) none

  rest_as_kept : remainder_of whole ≡ [] → last_records (taken_records rest) ≡ last_records (kept_records whole)
  rest_as_kept none =
      same_without_front (all_records (partly_read whole)) (kept_records whole) front (log_records (known_families whole) more)
      (ap (λ after. last_records (all_records (partly_read whole) ++ (kept_records whole ++ after))) (sym parts) ∙ same_as_kept none)

  pub records-without_first_log : remainder_of whole ≡ [] → last_records (taken_records rest) ≡ last_records (taken_records whole)
  records-without_first_log none = rest_as_kept none ∙ sym (same_as_kept none)

  pub remainder-without_first_log : remainder_of whole ≡ [] → remainder_of rest ≡ []
  remainder-without_first_log none = nothing_of_same (kept_records whole) (taken_records rest) (rest_as_kept none)
