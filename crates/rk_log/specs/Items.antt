-- What contracts see of an item.
use Rattle.std.specs.Prelude.{ℕ, Bool, true, false, List}
use Rattle.rk_bytes.specs.Model.LogItems.{Item as Told, rec, gap, end}
use Rattle.rk_log.specs.declared.item.Piece.{Piece}
use Rattle.rk_log.specs.declared.item.Piece.TheVariants.{Whole, Joined}
use Rattle.rk_log.specs.declared.item.Item.{Item}
use Rattle.rk_log.specs.declared.item.Item.TheVariants.{Rec, Gap, End}

abbrev pub piece_bytes : Piece → List ℕ
piece_bytes (Whole bytes) = bytes.now
piece_bytes (Joined bytes) = bytes

abbrev pub item_of : Item → Told
item_of (Rec piece place) = rec (piece_bytes piece) place
item_of (Gap why place) = gap why place
item_of (End kind place) = end kind place

abbrev pub is_end : Told → Bool
is_end (rec payload place) = false
is_end (gap why place) = false
is_end (end kind place) = true
