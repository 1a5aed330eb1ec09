-- Edges are in a total order; a range deletion that covers a record starts up to it and ends after it.
use Rattle.std.proofs.Common.{◌≡◌, ℕ, Bool, true, false, List, [], length, get_or, refl, sym, ap, ◌∙◌}
use Rattle.std.specs.Prelude.{◌&&◌, ◌<◌, None}
use Rattle.std.specs.declared.cmp.Ordering.{Ordering}
use Rattle.std.specs.declared.cmp.Ordering.TheVariants.{Less, Equal, Greater}
use Rattle.std.specs.Ordering.{nat_cmp, ordering_then, ordering_reverse, is_gt, is_le, is_lt}
use Rattle.std.specs.Cmp.{IsTotalOrder}
use Rattle.std.specs.Cmp.Lexicographic.{slice_cmp}
use Rattle.std.proofs.lemmas.Bool.{false≢true, eqb-true, ltb-true}
use Rattle.std.proofs.lemmas.List.{get_or_read}
use Rattle.std.proofs.lemmas.Cmp.{upto, tied_itself, on_total, then_total, nat_cmp_total, nat_list_cmp_total}
use Rattle.rk_bytes.specs.declared.model.key.Record.{Record}
use Rattle.rk_bytes.specs.declared.model.view.Tomb.{Tomb}
use Rattle.rk_bytes.specs.Model.KeyView.{is_from, is_before, is_uncut, key_of, covers}
use Rattle.rk_tomb.specs.Spans.{start_of, end_of, edge_cmp, IsUpTo, tomb_at}

-- what is read in a place
pub tomb_at-read : (tombs : List Tomb) (place : ℕ) (tomb : Tomb) → place < length tombs → tomb ≡ get_or tombs place tomb → tomb ≡ tomb_at tombs place
tomb_at-read tombs place tomb lt is = get_or_read tombs place tomb lt is (record { family = 0; start = []; end = []; sequence = 0; cut = None })

pub edge_cmp-total : IsTotalOrder edge_cmp
unfolding edge_cmp
edge_cmp-total = then_total (on_total (λ (e : ℕ × List ℕ). e.0) nat_cmp_total) (on_total (λ (e : ℕ × List ℕ). e.1) nat_list_cmp_total)

pub IsUpTo-refl : (a : ℕ × List ℕ) → IsUpTo a a
IsUpTo-refl a = ap is_gt (tied_itself edge_cmp-total a)

pub IsUpTo-trans : (a b c : ℕ × List ℕ) → IsUpTo a b → IsUpTo b c → IsUpTo a c
IsUpTo-trans a b c = upto edge_cmp-total a b c

antisymm : (a b : ℕ × List ℕ) → edge_cmp a b ≡ ordering_reverse (edge_cmp b a)
antisymm = (edge_cmp-total).antisymm

turned : (o p : Ordering) → p ≡ ordering_reverse o → is_gt o ≡ true → is_gt p ≡ false
turned Less p e gt = absurd (false≢true gt)
turned Equal p e gt = absurd (false≢true gt)
turned Greater p e gt = ap is_gt e

-- of two edges the one is up to the other where it isn't the other way round
pub IsUpTo-turned : (a b : ℕ × List ℕ) → is_gt (edge_cmp a b) ≡ true → IsUpTo b a
IsUpTo-turned a b gt = turned (edge_cmp a b) (edge_cmp b a) (antisymm b a) gt

above_is_not_up_to : (o p : Ordering) → p ≡ ordering_reverse o → is_lt o ≡ true → is_gt p ≡ true
above_is_not_up_to Less p e lt = ap is_gt e
above_is_not_up_to Equal p e lt = absurd (false≢true lt)
above_is_not_up_to Greater p e lt = absurd (false≢true lt)

and_left : (a b : Bool) → (a && b) ≡ true → a ≡ true
and_left true b h = refl
and_left false b h = h

and_right : (a b : Bool) → (a && b) ≡ true → b ≡ true
and_right true b h = h
and_right false b h = absurd (false≢true h)

not_above : (o : Ordering) → is_le o ≡ true → is_gt o ≡ false
not_above Less le = refl
not_above Equal le = refl
not_above Greater le = absurd (false≢true le)

-- edges of one family are in the order of their keys
edge_cmp-same : (f g : ℕ) (x y : List ℕ) → f ≡ g → edge_cmp (f, x) (g, y) ≡ slice_cmp nat_cmp x y
unfolding edge_cmp
edge_cmp-same f g x y e = ap (λ n. ordering_then (nat_cmp f n) (slice_cmp nat_cmp x y)) (sym e) ∙ ap (λ o. ordering_then o (slice_cmp nat_cmp x y)) (tied_itself nat_cmp_total f)

-- what is said of a range deletion that covers a record
pub record Covers (tomb : Tomb) (r : Record) : Type 0 where
  pub family : tomb.family ≡ r.family
  pub from : is_from tomb.start r.key ≡ true
  pub before : is_before tomb.end r.key ≡ true
  pub newer : r.sequence < tomb.sequence

pub Covers-from : (tomb : Tomb) (r : Record) → covers tomb r ≡ true → Covers tomb r
unfolding covers
Covers-from tomb r h =
    let newer_part = and_left _ (is_uncut tomb.cut (key_of r)) h in
    let before_part = and_left _ _ newer_part in
    let from_part = and_left _ _ before_part in
    record {
      family = eqb-true _ _ (and_left _ _ from_part);
      from = and_right _ _ from_part;
      before = and_right _ _ before_part;
      newer = ltb-true _ _ (and_right _ _ newer_part);
    }

pub starts_up_to : (tomb : Tomb) (r : Record) → Covers tomb r → IsUpTo (start_of tomb) (r.family, r.key)
starts_up_to tomb r h = ap is_gt (edge_cmp-same tomb.family r.family tomb.start r.key h.family) ∙ not_above _ h.from

pub ends_above : (tomb : Tomb) (r : Record) → Covers tomb r → is_gt (edge_cmp (end_of tomb) (r.family, r.key)) ≡ true
ends_above tomb r h =
    above_is_not_up_to (edge_cmp (r.family, r.key) (end_of tomb)) (edge_cmp (end_of tomb) (r.family, r.key)) (antisymm (end_of tomb) (r.family, r.key))
    (ap is_lt (edge_cmp-same r.family tomb.family r.key tomb.end (sym h.family)) ∙ h.before)
