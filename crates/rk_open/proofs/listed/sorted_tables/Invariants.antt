use Rattle.std.proofs.Common.{◌≡◌, map, take}
use Rattle.std.specs.Prelude.{flat_map}
use Rattle.rk_bytes.specs.Model.Opening.{listed_by}
use Rattle.rk_open.specs.Tables.{listed_of}
use Rattle.rk_open.proofs.listed.sorted_tables.Given as goal

-- the tables of the families so far are there
abbrev pub invariant-loop-live : goal.invariant-loop-live
invariant-loop-live l = map listed_of l.tables.items ≡ flat_map listed_by (take l.live-index l.families)
