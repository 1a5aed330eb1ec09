-- What a block says of its file.
use Rattle.std.specs.Prelude.{ℕ, Bool, false, if◌then◌else◌, List, Option, Some, None}
use Rattle.rk_bytes.specs.Model.LogMarks.{block_type, is_recyclable}

-- what a block's first header says of the file: whether it is recycled. The last block says that it isn't, if
-- no header did.
abbrev pub block_says : List ℕ → Bool → Option Bool
block_says block is_last = elim (block_type block) [ Some kind ↦ Some (is_recyclable kind) | None ↦ (if is_last then Some false else None) ]

abbrev pub or_says : Option Bool → List ℕ → Bool → Option Bool
or_says (Some known) block is_last = Some known
or_says None block is_last = block_says block is_last
