-- The front of a key's records that decides.
use Rattle.std.proofs.Common.{◌≡◌, Bool, true, false, cond, List, [], ◌∷◌, ◌++◌, length, map, take, drop, ◌+◌, refl, ap, ◌∙◌, one-add}
use Rattle.std.specs.Prelude.{Some, find, take_while, option_map}
use Rattle.std.specs.List.{prefix_len}
use Rattle.rk_bytes.specs.declared.model.key.Kind.TheVariants.{Merge}
use Rattle.rk_bytes.specs.declared.model.key.Record.{Record}
use Rattle.rk_bytes.specs.Model.KeyView.{is_merge, is_put, deciding, front_merges, operands, base_value}

-- the front of what passes a test
pub while_first : (p : Record → Bool) (r : Record) (rest : List Record) → take_while p (r ∷ rest) ≡ cond (p r) (r ∷ take_while p rest) []
while_first p r rest = by (p r)
  where
    by : (b : Bool) → take (cond b (1 + prefix_len p rest) 0) (r ∷ rest) ≡ cond b (r ∷ take (prefix_len p rest) rest) []
    by true = ap (λ k. take k (r ∷ rest)) (one-add (prefix_len p rest))
    by false = refl

-- what decides, after merges
abbrev with_front : Record → List Record → List Record → List Record
with_front r rest front = front ++ take_while (λ (x : Record). is_put x.kind) (take 1 (drop (length front) (r ∷ rest)))

by_first : (r : Record) (rest : List Record) (b : Bool) → is_merge r.kind ≡ b → deciding (r ∷ rest) ≡ with_front r rest (cond b (r ∷ front_merges rest) [])
by_first r rest b e = ap (with_front r rest) (while_first (λ (x : Record). is_merge x.kind) r rest ∙ ap (λ c. cond c (r ∷ front_merges rest) []) e)

pub deciding-merge : (r : Record) (rest : List Record) → r.kind ≡ Merge → deciding (r ∷ rest) ≡ r ∷ deciding rest
deciding-merge r rest e = by_first r rest true (ap is_merge e)

pub operands-merge : (r : Record) (rest : List Record) → r.kind ≡ Merge → operands (r ∷ rest) ≡ r.value ∷ operands rest
operands-merge r rest e = ap (map (λ (x : Record). x.value)) (while_first (λ (x : Record). is_merge x.kind) r rest ∙ ap (λ k. cond (is_merge k) (r ∷ front_merges rest) []) e)

pub base-merge : (r : Record) (rest : List Record) → r.kind ≡ Merge → base_value (r ∷ rest) ≡ base_value rest
base-merge r rest e = ap (λ k. option_map (λ (x : Record). x.value) (cond (is_put k) (Some r) (find (λ (x : Record). is_put x.kind) rest))) e
