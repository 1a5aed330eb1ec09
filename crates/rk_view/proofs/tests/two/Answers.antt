use Rattle.std.proofs.Common.{◌≡◌, ◌∙◌, ◌<◌, ◌++◌, ◌∷◌, [], ℕ, List, true, cond, refl, sym, ap, subst, arith}
use Rattle.std.specs.Prelude.{nat_lt, ◌==◌}
use Rattle.std.specs.declared.cmp.Ordering.{Ordering}
use Rattle.std.specs.declared.cmp.Ordering.TheVariants.{Less, Equal, Greater}
use Rattle.std.specs.Ordering.{nat_cmp, ordering_then}
use Rattle.std.specs.List.Sorted.{IsStrictlySortedBy}
use Rattle.std.proofs.lemmas.Bool.Decides.{nat_tests}
use Rattle.rk_bytes.specs.declared.model.key.Kind.TheVariants.{Value}
use Rattle.rk_bytes.specs.declared.model.key.Record.{Record}
use Rattle.rk_bytes.specs.Model.InternalKey.{key_cmp}
use Rattle.rk_bytes.specs.Model.KeyView.{key_of}
use Rattle.rk_view.specs.Kept.{IsTableRun}
use Rattle.rk_view.proofs.TableLemmas.{key_order}
use Rattle.rk_view.proofs.tests.two.Goals as goal

-- a put of a key of one letter
abbrev put_of : ℕ → List ℕ → Record
put_of letter value = record { family = 0; key = letter ∷ []; sequence = 1; kind = Value; value = value }

lesser : (a b : ℕ) → a < b → nat_cmp a b ≡ Less
lesser a b less = let test : nat_lt a b ≡ true = grind (arith, nat_tests) in ap (λ t. cond t Less (cond (a == b) Equal Greater)) test

in_order : (a b : ℕ) (value : List ℕ) → a < b → key_cmp (key_of (put_of a value)) (key_of (put_of b value)) ≡ Less
in_order a b value less = key_order (put_of a value) (put_of b value) (omega arith) (omega arith) ∙ ap (λ o. ordering_then (ordering_then o Equal) Equal) (lesser a b less)

pair : (a b : ℕ) (value : List ℕ) → a < b → IsTableRun (put_of a value ∷ put_of b value ∷ [])
unfolding IsStrictlySortedBy
pair a b value less = record { family = 0; each = ((refl, refl, omega arith), ((refl, refl, omega arith), tt)); rises = ((in_order a b value less, tt), (tt, tt)) }

pub returns : goal.returns
returns c =
    let value : List ℕ = c.args.value.now in
    let records : c.push-2.new.self ≡ c.in_ok-first.first ∷ c.in_ok-second.second ∷ [] =
    c.in_ok-push-2.ensures.ok ∙ ap (λ rs. rs ++ c.in_ok-second.second ∷ []) (c.in_ok-push.ensures.ok ∙ ap (λ rs. rs ++ c.in_ok-first.first ∷ []) c.new-records.ensures) in
    let made : c.in_ok-first.first ∷ c.in_ok-second.second ∷ [] ≡ put_of c.args.first value ∷ put_of c.args.second value ∷ [] = λ i. c.in_ok-first.ensures i ∷ c.in_ok-second.ensures i ∷ [] in
    subst IsTableRun (sym (records ∙ made)) (pair c.args.first c.args.second value c.requires)
