-- Records in the order of their internal keys are in that of their slots.
use Rattle.std.proofs.Common.{◌≡◌, ℕ, ◌-◌, ◌<◌, ◌≤◌, Bool, true, false, T, List, [], ◌∷◌, ◌++◌, length, map, take, drop, refl, sym, ap, subst, ◌∙◌, arith, length-append}
use Rattle.std.proofs.Math.Seq.{take-append_seam, drop-append_seam}
use Rattle.std.specs.Prelude.{◌&&◌}
use Rattle.std.specs.List.{AllByRecursion}
use Rattle.std.specs.List.Sorted.{IsStrictlySortedBy}
use Rattle.std.specs.declared.cmp.Ordering.{Ordering}
use Rattle.std.specs.declared.cmp.Ordering.TheVariants.{Less, Equal, Greater}
use Rattle.std.specs.Ordering.{nat_cmp, ordering_then, is_lt}
use Rattle.std.specs.Cmp.{nat_cmp_total, tied_itself}
use Rattle.std.specs.Cmp.Lexicographic.{slice_cmp}
use Rattle.std.specs.FinMap.Entries.{below_all}
use Rattle.rk_bytes.specs.declared.model.key.Kind.{Kind}
use Rattle.rk_bytes.specs.declared.model.key.Kind.TheVariants.{Deletion, Value, Merge, SingleDeletion, RangeDeletion}
use Rattle.rk_bytes.specs.declared.model.key.Record.{Record}
use Rattle.rk_bytes.specs.Model.Numbers.{little_endian, fixed_of}
use Rattle.rk_bytes.specs.Model.InternalKey.{kind_number, packed_of, user_key, packed, internal_key, key_cmp, top_sequence}
use Rattle.rk_bytes.specs.Model.Records.{slot_cmp, slot_of, entry_of, end_of}
use Rattle.rk_bytes.specs.Model.KeyView.{is_point, key_of}
use Rattle.rk_bytes.proofs.Callers.FixedNumbers.{little_endian-fixed_of, length-fixed_of}
use Rattle.rk_view.specs.Maps.{IsRun}
use Rattle.rk_view.specs.Kept.{IsTableRun}
use Rattle.rk_view.proofs.RunLemmas.{Rises}

pub kind_number-byte : (kind : Kind) → kind_number kind < 256
kind_number-byte Deletion = omega arith
kind_number-byte Value = omega arith
kind_number-byte Merge = omega arith
kind_number-byte SingleDeletion = omega arith
kind_number-byte RangeDeletion = omega arith

without_number : (user : List ℕ) (n : ℕ) → length (user ++ fixed_of 8 n) - 8 ≡ length user
without_number user n = let eight = length-fixed_of 8 n in omega (arith, length-append user (fixed_of 8 n))

user_of : (user : List ℕ) (sequence : ℕ) (kind : Kind) → user_key (internal_key user sequence kind) ≡ user
unfolding internal_key
user_of user sequence kind =
    let end : List ℕ = fixed_of 8 (packed_of sequence kind) in
    ap (λ len. take len (user ++ end)) (without_number user (packed_of sequence kind)) ∙ take-append_seam user end

number_of : (user : List ℕ) (sequence : ℕ) (kind : Kind) → sequence ≤ top_sequence → packed (internal_key user sequence kind) ≡ packed_of sequence kind
unfolding internal_key
number_of user sequence kind few =
    let n : ℕ = packed_of sequence kind in
    let end : List ℕ = fixed_of 8 n in
    let byte : kind_number kind < 256 = kind_number-byte kind in
    ap (λ len. little_endian (drop len (user ++ end))) (without_number user n) ∙ ap little_endian (drop-append_seam user end) ∙ little_endian-fixed_of 8 n (omega arith)

-- what a table says of each of its records
abbrev IsOfTable : ℕ → Record → Type 0
IsOfTable family r = (r.family ≡ family) × (is_point r.kind ≡ true) × (r.sequence ≤ top_sequence)

pub key_order : (r s : Record) → r.sequence ≤ top_sequence → s.sequence ≤ top_sequence → key_cmp (key_of r) (key_of s) ≡ ordering_then (slice_cmp nat_cmp r.key s.key) (nat_cmp (packed_of s.sequence s.kind) (packed_of r.sequence r.kind))
key_order r s a b = λ i. ordering_then (slice_cmp nat_cmp (user_of r.key r.sequence r.kind i) (user_of s.key s.sequence s.kind i)) (nat_cmp (number_of s.key s.sequence s.kind b i) (number_of r.key r.sequence r.kind a i))

less_then : (o p e : Ordering) → ordering_then o p ≡ Less → ordering_then o (ordering_then p e) ≡ Less
less_then Less p e h = refl
less_then Equal Less e h = refl
less_then Equal Equal e h = cc
less_then Equal Greater e h = cc
less_then Greater p e h = cc

slot_less : (family : ℕ) (r s : Record) → IsOfTable family r → IsOfTable family s → key_cmp (key_of r) (key_of s) ≡ Less → slot_cmp (slot_of r) (slot_of s) ≡ Less
unfolding slot_cmp
slot_less family r s a b less =
    let same : nat_cmp r.family s.family ≡ Equal = ap (nat_cmp r.family) (b.0 ∙ sym a.0) ∙ tied_itself nat_cmp_total r.family in
    let key : ordering_then (slice_cmp nat_cmp r.key s.key) (nat_cmp (packed_of s.sequence s.kind) (packed_of r.sequence r.kind)) ≡ Less = sym (key_order r s a.2 b.2) ∙ less in
    ap (λ o. ordering_then o (ordering_then (slice_cmp nat_cmp r.key s.key) (ordering_then (nat_cmp (packed_of s.sequence s.kind) (packed_of r.sequence r.kind)) (slice_cmp nat_cmp (end_of r.kind r.value) (end_of s.kind s.value))))) same
    ∙ less_then (slice_cmp nat_cmp r.key s.key) (nat_cmp (packed_of s.sequence s.kind) (packed_of r.sequence r.kind)) _ key

both : (a b : Bool) → T a → T b → T (a && b)
both true b s t = t
both false b s t = absurd s

slots_below : (family : ℕ) (r : Record) (run : List Record) → IsOfTable family r → AllByRecursion (IsOfTable family) run → AllByRecursion (λ y. key_cmp (key_of r) y ≡ Less) (map key_of run) → T (below_all slot_cmp (slot_of r) (map entry_of run))
slots_below family r [] here each less = tt
slots_below family r (s ∷ run) here each less =
    both (is_lt (slot_cmp (slot_of r) (slot_of s))) _ (subst (λ o. T (is_lt o)) (sym (slot_less family r s here each.0 less.0)) tt) (slots_below family r run here each.1 less.1)

table_rises : (family : ℕ) (run : List Record) → AllByRecursion (IsOfTable family) run → IsStrictlySortedBy key_cmp (map key_of run) → Rises run
unfolding IsStrictlySortedBy
table_rises family [] each rises = tt
table_rises family (r ∷ run) each rises =
    both (below_all slot_cmp (slot_of r) (map entry_of run)) _ (slots_below family r run each.0 each.1 rises.0) (table_rises family run each.1 rises.1)

numbered : (family : ℕ) (run : List Record) → AllByRecursion (IsOfTable family) run → AllByRecursion (λ (r : Record). r.sequence ≤ top_sequence) run
numbered family [] each = tt
numbered family (r ∷ run) each = (each.0.2, numbered family run each.1)

pub run_of_table : (run : List Record) → IsTableRun run → IsRun run
run_of_table run is = record { rises = table_rises is.family run is.each is.rises; numbered = numbered is.family run is.each }
