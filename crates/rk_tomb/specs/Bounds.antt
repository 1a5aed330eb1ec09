-- What the bounds of a table's file have to be.
use Rattle.std.specs.Prelude.{◌≤◌, length, Option}
use Rattle.std.specs.Option.{ForSome}
use Rattle.rk_bytes.specs.declared.model.view.Cut.{Cut}

-- the bounds, if there are any, are long enough for internal keys
abbrev pub HasWholeBounds : Option Cut → Type 0
HasWholeBounds cut = ForSome cut (λ bounds. (8 ≤ length bounds.smallest) × (8 ≤ length bounds.largest))
