-- What stands at a place of a block, as the definition of a log's marks has it.
use Rattle.std.specs.Prelude.{ℕ}
use Rattle.rk_bytes.specs.Model.LogMarks.{full, first, middle, last, fault, cut, stale, unsupported, nothing, whole_rest, fragment}
use Rattle.rk_bytes.specs.Model.LogMarks as definition
use Rattle.rk_log.specs.declared.fragment.Mark.{Mark}
use Rattle.rk_log.specs.declared.fragment.Mark.TheVariants.{Full, First, Middle, Last, Fault, Cut, Stale, Unsupported}
use Rattle.rk_log.specs.declared.fragment.Found.{Found}
use Rattle.rk_log.specs.declared.fragment.Found.TheVariants.{Nothing, WholeRest, Fragment}

abbrev pub mark_at : ℕ → Mark → definition.Mark
mark_at place (Full payload) = full payload.now place
mark_at place (First payload) = first payload.now place
mark_at place (Middle payload) = middle payload.now place
mark_at place (Last payload) = last payload.now place
mark_at place (Fault why) = fault why place
mark_at place Cut = cut place
mark_at place Stale = stale place
mark_at place (Unsupported kind) = unsupported kind place

abbrev pub found_at : ℕ → Found → definition.Found
found_at place Nothing = nothing
found_at place (WholeRest mark) = whole_rest (mark_at place mark)
found_at place (Fragment mark len) = fragment (mark_at place mark) len
