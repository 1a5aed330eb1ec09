use Rattle.std.proofs.Common.{◌≡◌, Bool, sym, ap, ◌∙◌}
use Rattle.std.specs.Prelude.{◌&&◌}
use Rattle.std.specs.Ordering.{nat_cmp, ordering_then, is_le}
use Rattle.std.specs.Cmp.Lexicographic.{slice_cmp}
use Rattle.rk_bytes.specs.Model.InternalKey.{packed_of, user_key, packed}
use Rattle.rk_open.proofs.BoundLemmas.{within_parts}
use Rattle.rk_open.proofs.bounds.is_within.Goals as goal

pub returns-then-is_le : goal.returns-then-is_le
returns-then-is_le c =
    let file = c.args.file.now in
    let one = c.args.one.now in
    let number = packed_of one.sequence one.kind in
    let low : Bool = is_le (ordering_then (slice_cmp nat_cmp (user_key file.smallest) one.key) (nat_cmp number (packed file.smallest))) in
    let high : Bool = is_le (ordering_then (slice_cmp nat_cmp one.key (user_key file.largest)) (nat_cmp (packed file.largest) number)) in
    let least = c.split_key-least_number.ensures in
    let most = c.split_key-most_number.ensures in
    let first : c.is_le.result ≡ low = c.is_le.ensures ∙ ap is_le (c.cmp_parts.ensures ∙ (λ i. ordering_then (slice_cmp nat_cmp ((least.user ∙ ap user_key c.as_slice.ensures) i) (c.as_slice-key.ensures i)) (nat_cmp (c.number_of-number.ensures i) ((least.packed ∙ ap packed c.as_slice.ensures) i)))) in
    let second : c.is_le-then-is_le.result ≡ high = c.is_le-then-is_le.ensures ∙ ap is_le (c.cmp_parts-then-is_le.ensures ∙ (λ i. ordering_then (slice_cmp nat_cmp (c.as_slice-key.ensures i) ((most.user ∙ ap user_key c.as_slice-2.ensures) i)) (nat_cmp ((most.packed ∙ ap packed c.as_slice-2.ensures) i) (c.number_of-number.ensures i)))) in
    second ∙ ap (λ b. b && high) (sym c.if-is_le.true ∙ first) ∙ sym (within_parts file.smallest file.largest one c.requires.sequence)

pub returns-else-is_le : goal.returns-else-is_le
returns-else-is_le c =
    let file = c.args.file.now in
    let one = c.args.one.now in
    let number = packed_of one.sequence one.kind in
    let low : Bool = is_le (ordering_then (slice_cmp nat_cmp (user_key file.smallest) one.key) (nat_cmp number (packed file.smallest))) in
    let high : Bool = is_le (ordering_then (slice_cmp nat_cmp one.key (user_key file.largest)) (nat_cmp (packed file.largest) number)) in
    let least = c.split_key-least_number.ensures in
    let first : c.is_le.result ≡ low = c.is_le.ensures ∙ ap is_le (c.cmp_parts.ensures ∙ (λ i. ordering_then (slice_cmp nat_cmp ((least.user ∙ ap user_key c.as_slice.ensures) i) (c.as_slice-key.ensures i)) (nat_cmp (c.number_of-number.ensures i) ((least.packed ∙ ap packed c.as_slice.ensures) i)))) in
    c.if-is_le.false ∙ ap (λ b. b && high) (sym c.if-is_le.false ∙ first) ∙ sym (within_parts file.smallest file.largest one c.requires.sequence)
