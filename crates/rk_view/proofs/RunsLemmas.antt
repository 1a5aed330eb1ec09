-- Runs in turn, and what is counted of them.
use Rattle.std.proofs.Common.{◌≡◌, ℕ, zero, suc, ◌+◌, ◌<◌, ◌≤◌, Bool, true, false, cond, T, List, [], ◌∷◌, ◌++◌, length, map, reverse, take, get_or, refl, sym, ap, subst, ◌∙◌, add-one, arith, length-take, length-append, get_or-take}
use Rattle.std.proofs.Math.Seq.{take-suc}
use Rattle.std.proofs.Math.ListN.{get_or-append}
use Rattle.std.proofs.lemmas.List.Elements.{All-append, All-cons, All-nil}
use Rattle.std.proofs.lemmas.List.{map-append, reverse-append}
use Rattle.std.specs.Prelude.{◌||◌, min, if◌then◌else◌, Option, Some, None, is_some}
use Rattle.std.specs.Option.{option_or}
use Rattle.std.specs.List.{All, AllByRecursion}
use Rattle.std.specs.declared.cmp.Ordering.{Ordering}
use Rattle.std.specs.declared.cmp.Ordering.TheVariants.{Less, Equal, Greater}
use Rattle.std.specs.Ordering.{is_lt, is_eq, eq_by_cmp, ordering_reverse}
use Rattle.std.specs.FinMap.{get, insert, from_entries, contains_key, len, len-insert, len-empty, from_entries_push}
use Rattle.std.specs.FinMap.Entries.{find as find_in, put, by_order, below_all}
use Rattle.rk_bytes.specs.declared.model.key.Record.{Record}
use Rattle.rk_bytes.specs.Model.InternalKey.{top_sequence}
use Rattle.rk_bytes.specs.Model.Records.{Slot, RecordMap, slot_cmp, slot_cmp-total, slot_of, entry_of, slotted, last_records, over, find-append, get-last_records, get-over}
use Rattle.rk_view.specs.Maps.{IsRun, AreNumbered, map_of}
use Rattle.rk_view.specs.Kept.{AreCounted, most}
use Rattle.rk_view.proofs.SlotOrder.{slot_cmp-only_equal}
use Rattle.rk_view.proofs.RunLemmas.{both_true, lt-Less, Rises, unheld, rises_at}
use Rattle.rk_view.proofs.MapLemmas.{run_map, same_records, get-run_map, map_of-more, over-assoc, over-insert}
use Rattle.rk_view.proofs.FirstLemmas.{equal}

-- the runs up to one, and that one
pub runs-more : (runs : List (List Record)) (i : ℕ) (run : List Record) → i < length runs → run ≡ get_or runs i run → take (i + 1) runs ≡ take i runs ++ run ∷ []
runs-more runs i run within is = ap (λ k. take k runs) (add-one i) ∙ take-suc runs i run within ∙ ap (λ r. take i runs ++ r ∷ []) (sym is)

pub or_first : (a b : Bool) → a ≡ true → a ≡ (a || b)
or_first true b e = refl
or_first false b e = cc

pub or_second : (a b : Bool) → a ≡ false → b ≡ (a || b)
or_second true b e = cc
or_second false b e = refl

abbrev pub NumberedEntries : List (Slot × Record) → Type 0
NumberedEntries es = AllByRecursion (λ (e : Slot × Record). e.1.sequence ≤ top_sequence) es

pub numbered_entries : (run : List Record) → AreNumbered run → NumberedEntries (map entry_of run)
numbered_entries [] all = tt
numbered_entries (r ∷ run) all = (all.0, numbered_entries run all.1)

pub put_numbered : (q : Slot) (r : Record) (es : List (Slot × Record)) → r.sequence ≤ top_sequence → NumberedEntries es → NumberedEntries (put slot_cmp q r es)
put_numbered q r [] here all = (here, tt)
put_numbered q r (e ∷ es) here all = by (slot_cmp q e.0) (put_numbered q r es here all.1)
  where
    by : (o : Ordering) → NumberedEntries (put slot_cmp q r es) → NumberedEntries (by_order o ((q, r) ∷ e ∷ es) ((e.0, r) ∷ es) (e ∷ put slot_cmp q r es))
    by Less later = (here, all)
    by Equal later = (here, all.1)
    by Greater later = (all.0, later)

pub unfound : (q : Slot) (r : Record) (run : List Record) → T (below_all slot_cmp q (map entry_of run)) → find_in slot_cmp q (map entry_of run) ≡ None
unfound q r [] below = refl
unfound q r (x ∷ run) below =
    ap (λ o. cond (is_eq o) (Some x) (find_in slot_cmp q (map entry_of run))) (lt-Less _ (both_true _ _ below).0) ∙ unfound q r run (both_true (is_lt (slot_cmp q (slot_of x))) _ below).1

pub or_one : {A : Type 0} (o p : Option A) (b : Bool) (x : A) → (b ≡ true → o ≡ None) → option_or o (cond b (Some x) p) ≡ cond b (Some x) (option_or o p)
or_one o p true x none = ap (λ a. option_or a (Some x)) (none refl)
or_one o p false x none = refl

pub tied_none : (q : Slot) (r : Record) (run : List Record) → T (below_all slot_cmp (slot_of r) (map entry_of run)) → eq_by_cmp slot_cmp q (slot_of r) ≡ true → find_in slot_cmp q (map entry_of run) ≡ None
tied_none q r run below same = subst (λ s. find_in slot_cmp s (map entry_of run) ≡ None) (sym (slot_cmp-only_equal q (slot_of r) (equal _ same))) (unfound (slot_of r) r run below)

-- in a run there is one record of a slot, so it doesn't matter where a search begins
either_end : (q : Slot) (run : List Record) → Rises run → find_in slot_cmp q (slotted run) ≡ find_in slot_cmp q (map entry_of run)
either_end q [] rises = refl
either_end q (r ∷ run) rises =
    ap (find_in slot_cmp q) (ap (map entry_of) (reverse-append (r ∷ []) run) ∙ map-append entry_of (reverse run) (r ∷ []))
    ∙ find-append q (slotted run) (entry_of r ∷ [])
    ∙ ap (λ o. option_or o (find_in slot_cmp q (entry_of r ∷ []))) (either_end q run (both_true (below_all slot_cmp (slot_of r) (map entry_of run)) _ rises).1)
    ∙ or_one (find_in slot_cmp q (map entry_of run)) None (eq_by_cmp slot_cmp q (slot_of r)) r (tied_none q r run (both_true _ _ rises).0)
    ∙ ap (cond (eq_by_cmp slot_cmp q (slot_of r)) (Some r)) (or_nothing (find_in slot_cmp q (map entry_of run)))
  where
    or_nothing : {A : Type 0} (o : Option A) → option_or o None ≡ o
    or_nothing None = refl
    or_nothing (Some x) = refl

pub last_records-run : (run : List Record) → Rises run → last_records run ≡ run_map run
last_records-run run rises = same_records (last_records run) (run_map run) (λ q. get-last_records run q ∙ either_end q run rises ∙ sym (get-run_map run q))

-- one more record of a run over a map: how many there are then
pub run_map-more : (run : List Record) (r : Record) → find_in slot_cmp (slot_of r) (map entry_of run) ≡ None → run_map (run ++ r ∷ []) ≡ insert (run_map run) (slot_of r) r
run_map-more run r none = ap from_entries (map-append entry_of run (r ∷ [])) ∙ from_entries_push slot_cmp-total slot_cmp-only_equal (map entry_of run) (slot_of r) r none

pub len-more : (m : RecordMap) (run : List Record) (r : Record) → find_in slot_cmp (slot_of r) (map entry_of run) ≡ None
    → len (over m (run_map (run ++ r ∷ []))) ≡ cond (contains_key m (slot_of r)) (len (over m (run_map run))) (len (over m (run_map run)) + 1)
len-more m run r none =
    ap len (ap (over m) (run_map-more run r none) ∙ over-insert m (run_map run) (slot_of r) r) ∙ len-insert slot_cmp-total (over m (run_map run)) (slot_of r) r
    ∙ ap (λ o. cond (is_some o) (len (over m (run_map run))) (len (over m (run_map run)) + 1)) (get-over m (run_map run) (slot_of r) ∙ ap (λ o. option_or o (get m (slot_of r))) (get-run_map run (slot_of r) ∙ none))

get_or-any : (run : List Record) (i : ℕ) (e d : Record) → i < length run → get_or run i e ≡ get_or run i d
get_or-any [] i e d inside = absurd (omega arith)
get_or-any (x ∷ run) zero e d inside = refl
get_or-any (x ∷ run) (suc i) e d inside = get_or-any run i e d (omega arith)

rises_before : (run : List Record) (i : ℕ) (d : Record) → Rises run → i < length run → find_in slot_cmp (slot_of (get_or run i d)) (map entry_of (take i run)) ≡ None
rises_before run i d rises within = unheld (slot_of (get_or run i d)) (take i run) (λ k e inside.
    let low : k < i = omega (arith, length-take i run) in
    let far : k < length run = omega arith in
    let same : get_or (take i run) k e ≡ get_or run k d = get_or-take i run k e low ∙ get_or-any run k e d far in
    ap is_eq (slot_cmp-total.antisymm (slot_of (get_or run i d)) (slot_of (get_or (take i run) k e)) ∙ ap ordering_reverse (ap (λ x. slot_cmp (slot_of x) (slot_of (get_or run i d))) same ∙ rises_at run rises k i d low within)))

-- counting goes on
pub counted-more : (m : RecordMap) (run : List Record) (i : ℕ) (r : Record) → Rises run → i < length run → r ≡ get_or run i r
    → len (over m (run_map (take (i + 1) run))) ≡ cond (contains_key m (slot_of r)) (len (over m (run_map (take i run)))) (len (over m (run_map (take i run))) + 1)
counted-more m run i r rises within is =
    ap (λ rs. len (over m (run_map rs))) (ap (λ k. take k run) (add-one i) ∙ take-suc run i r within ∙ ap (λ x. take i run ++ x ∷ []) (sym is))
    ∙ len-more m (take i run) r (ap (λ x. find_in slot_cmp (slot_of x) (map entry_of (take i run))) is ∙ rises_before run i r rises within)

-- a count that goes up by one where nothing was held before
pub count_up : (held : Bool) (n k : ℕ) → k ≡ min n most → (if held then k else min (k + 1) most) ≡ min (cond held n (n + 1)) most
count_up true n k is = is
count_up false n k is = omega (arith, is)

pub counted_none : (runs : List (List Record)) → runs ≡ [] → AreCounted runs 0
unfolding map_of
counted_none runs e = subst (λ rs. AreCounted rs 0) (sym e) (record { each = λ k d inside. absurd (omega arith); count = sym (ap (λ n. min n most) (len-empty slot_cmp Record)) })

-- no runs hold nothing
pub map_of-none : map_of [] ≡ last_records []
unfolding map_of last_records
map_of-none = refl

-- one more run
pub all-more : (runs : List (List Record)) (run : List Record) → All (λ (r : List Record). IsRun r) runs → IsRun run → All (λ (r : List Record). IsRun r) (runs ++ run ∷ [])
all-more runs run all is = let P = λ (r : List Record). IsRun r in All-append P runs (run ∷ []) all (All-cons P run [] is (All-nil P))

-- a map with a run over it
pub map_of-run : (runs : List (List Record)) (run : List Record) → Rises run → map_of (runs ++ run ∷ []) ≡ over (map_of runs) (last_records run)
map_of-run runs run rises = map_of-more runs run ∙ ap (over (map_of runs)) (sym (last_records-run run rises))

-- nothing over a map
pub over-none : (m : RecordMap) → over m (run_map []) ≡ m
over-none m = same_records (over m (run_map [])) m (λ q. get-over m (run_map []) q ∙ ap (λ o. option_or o (get m q)) (get-run_map [] q))

-- two runs that became one
pub map_of-joined : (rest : List (List Record)) (older younger merged : List Record) → run_map merged ≡ over (run_map older) (run_map younger)
    → map_of (rest ++ merged ∷ []) ≡ map_of ((rest ++ older ∷ []) ++ younger ∷ [])
map_of-joined rest older younger merged e =
    map_of-more rest merged ∙ ap (over (map_of rest)) e ∙ sym (over-assoc (map_of rest) (run_map older) (run_map younger))
    ∙ ap (λ m. over m (run_map younger)) (sym (map_of-more rest older)) ∙ sym (map_of-more (rest ++ older ∷ []) younger)

pub all-front : (rest : List (List Record)) (run : List Record) → All (λ (r : List Record). IsRun r) (rest ++ run ∷ []) → All (λ (r : List Record). IsRun r) rest
all-front rest run all k d low =
    let P = λ (r : List Record). IsRun r in
    subst P (get_or-append rest (run ∷ []) d k low) (all k d (omega (arith, length-append rest (run ∷ []))))
