-- Record maps of lists of records that follow one another, and the greatest sequence number in them.
use Rattle.std.proofs.Common.{◌≡◌, ℕ, ◌≤◌, List, [], ◌∷◌, ◌++◌, map, reverse, refl, sym, ap, ◌∙◌, arith}
use Rattle.std.proofs.lemmas.List.{reverse-append, map-append}
use Rattle.std.specs.Prelude.{max, fold, Option, Some, None}
use Rattle.std.specs.declared.cmp.Ordering.{Ordering}
use Rattle.std.specs.declared.cmp.Ordering.TheVariants.{Less, Equal, Greater}
use Rattle.std.specs.List.{AllByRecursion}
use Rattle.std.specs.Option.{option_or}
use Rattle.std.specs.Ordering.{ordering_then, nat_cmp}
use Rattle.std.specs.Cmp.Lexicographic.{slice_cmp}
use Rattle.std.specs.FinMap.{IsAntisymmetric, nat_cmp-IsAntisymmetric, slice_cmp-IsAntisymmetric, get, same_map}
use Rattle.std.specs.FinMap.Entries.{find}
use Rattle.rk_bytes.specs.declared.model.key.Record.{Record}
use Rattle.rk_bytes.specs.Model.InternalKey.{top_sequence}
use Rattle.rk_bytes.specs.Model.Records.{Slot, RecordMap, slot_cmp, slot_cmp-total, slotted, entry_of, last_records, over, find-append, get-last_records, get-over}
use Rattle.rk_bytes.specs.Model.Opening.{greatest_sequence}

both_equal : (r s : Ordering) → ordering_then r s ≡ Equal → (r ≡ Equal) × (s ≡ Equal)
both_equal Less s e = cc
both_equal Equal s e = (refl, e)
both_equal Greater s e = cc

same_text : IsAntisymmetric (slice_cmp nat_cmp)
same_text = slice_cmp-IsAntisymmetric nat_cmp-IsAntisymmetric

-- slots that compare alike are one
slot_cmp-only_equal : IsAntisymmetric slot_cmp
unfolding slot_cmp
slot_cmp-only_equal p q e =
    let a = both_equal (nat_cmp p.family q.family) _ e in
    let b = both_equal (slice_cmp nat_cmp p.user q.user) _ a.1 in
    let c = both_equal (nat_cmp q.packed p.packed) _ b.1 in
    let family = nat_cmp-IsAntisymmetric p.family q.family a.0 in
    let user = same_text p.user q.user b.0 in
    let number = sym (nat_cmp-IsAntisymmetric q.packed p.packed c.0) in
    let end = same_text p.end q.end c.1 in
    λ i. record { family = family i; user = user i; packed = number i; end = end i }

same_records : (a b : RecordMap) → ((q : Slot) → get a q ≡ get b q) → a ≡ b
same_records a b alike = same_map slot_cmp-total slot_cmp-only_equal a b alike

get-append : (a b : List Record) (q : Slot) → get (last_records (a ++ b)) q ≡ get (over (last_records a) (last_records b)) q
get-append a b q =
    get-last_records (a ++ b) q
    ∙ ap (find slot_cmp q) (ap (map entry_of) (reverse-append a b) ∙ map-append entry_of (reverse b) (reverse a))
    ∙ find-append q (slotted b) (slotted a)
    ∙ (λ i. option_or (sym (get-last_records b q) i) (sym (get-last_records a q) i))
    ∙ sym (get-over (last_records a) (last_records b) q)

-- the last records of two lists, one after the other
pub last_records-append : (a b : List Record) → last_records (a ++ b) ≡ over (last_records a) (last_records b)
last_records-append a b = same_records (last_records (a ++ b)) (over (last_records a) (last_records b)) (get-append a b)

or_assoc : {A : Type 0} (a b c : Option A) → option_or a (option_or b c) ≡ option_or (option_or a b) c
or_assoc None b c = refl
or_assoc (Some x) b c = refl

pub over-assoc : (a b c : RecordMap) → over (over a b) c ≡ over a (over b c)
over-assoc a b c = same_records (over (over a b) c) (over a (over b c)) (λ q.
    get-over (over a b) c q ∙ ap (option_or (get c q)) (get-over a b q) ∙ or_assoc (get c q) (get b q) (get a q)
    ∙ ap (λ o. option_or o (get a q)) (sym (get-over b c q)) ∙ sym (get-over a (over b c) q))

or_none : {A : Type 0} (o : Option A) → option_or None o ≡ o
or_none o = refl

-- no record over a map
pub over-none : (m : RecordMap) → over m (last_records []) ≡ m
over-none m = same_records (over m (last_records [])) m (λ q. get-over m (last_records []) q ∙ ap (λ o. option_or o (get m q)) (get-last_records [] q))

-- the greatest of numbers after others
pub max_from : (a : ℕ) (ns : List ℕ) → fold max a ns ≡ max a (fold max 0 ns)
max_from a [] = omega arith
max_from a (n ∷ ns) = let one = max_from (max a n) ns in let other = max_from (max 0 n) ns in omega arith

pub greatest-cons : (r : Record) (records : List Record) → greatest_sequence (r ∷ records) ≡ max r.sequence (greatest_sequence records)
greatest-cons r records = let from = max_from (max 0 r.sequence) (map (λ x. x.sequence) records) in omega arith

pub greatest-append : (a b : List Record) → greatest_sequence (a ++ b) ≡ max (greatest_sequence a) (greatest_sequence b)
greatest-append [] b = omega arith
greatest-append (r ∷ a) b =
    let whole = greatest-cons r (a ++ b) in let part = greatest-cons r a in let later = greatest-append a b in omega arith

pub greatest_fits : (records : List Record) → AllByRecursion (λ r. r.sequence ≤ top_sequence) records → greatest_sequence records ≤ top_sequence
greatest_fits [] fit = omega arith
greatest_fits (r ∷ records) fit = let one = greatest-cons r records in let later = greatest_fits records fit.1 in omega (arith, fit.0)
