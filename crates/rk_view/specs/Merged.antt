-- How two runs become one: the records of both in the order of their slots, and of one slot the younger run's.
use Rattle.std.specs.Prelude.{◌≡◌, ◌<◌, List, [], ◌∷◌, ◌++◌, length, drop, reverse, Option, slice_get}
use Rattle.std.specs.List.{AllByRecursion}
use Rattle.std.specs.declared.vec.Vec.{Vec}
use Rattle.std.specs.declared.alloc.Global.{Global}
use Rattle.std.specs.declared.cmp.Ordering.{Ordering}
use Rattle.std.specs.declared.cmp.Ordering.TheVariants.{Less, Equal, Greater}
use Rattle.rk_bytes.specs.declared.model.key.Record.{Record}
use Rattle.rk_bytes.specs.Model.Records.{slot_cmp, slot_of}
use Rattle.rk_view.specs.declared.merge.Rest.{Rest}
use Rattle.rk_view.specs.Parts.{joined}

-- none of the parts is empty
abbrev pub AreFilled : List (Vec Record Global) → Type 0
AreFilled parts = AllByRecursion (λ part. 0 < length part.items) parts

-- the records that are left of a run, in their order
abbrev pub left_of : Rest → List Record
left_of rest = reverse rest.turned.items ++ joined (reverse rest.parts.items)

-- What is left of a run begins in the part that is turned round.
pub record IsRest (rest : Rest) : Type 0 where
  pub filled : AreFilled rest.parts.items
  pub begun : rest.turned.items ≡ [] → rest.parts.items ≡ []

-- how the first records of two lists are ordered; a list without any comes last
abbrev pub order_of : List Record → List Record → Ordering
order_of [] [] = Equal
order_of (r ∷ older) [] = Less
order_of [] (s ∷ younger) = Greater
order_of (r ∷ older) (s ∷ younger) = slot_cmp (slot_of r) (slot_of s)

-- the record that comes first, if there is one, and what is left of both lists
abbrev pub taken : Ordering → List Record → List Record → Option Record × List Record × List Record
taken Less older younger = (slice_get older 0, drop 1 older, younger)
taken Equal older younger = (slice_get younger 0, drop 1 older, drop 1 younger)
taken Greater older younger = (slice_get younger 0, older, drop 1 younger)

abbrev pub first_taken : List Record → List Record → Option Record × List Record × List Record
first_taken older younger = taken (order_of older younger) older younger
