use Rattle.std.proofs.Common.{◌≡◌, ◌++◌, map, take}
use Rattle.rk_open.specs.Tables.{listed_of}
use Rattle.rk_open.proofs.ListedLemmas.{listed_with}
use Rattle.rk_open.proofs.listed.push_tables.Given as goal

-- the tables so far are there
abbrev pub invariant-loop-file : goal.invariant-loop-file
invariant-loop-file l = map listed_of l.tables.items ≡ map listed_of l.fn.tables.items ++ map (listed_with l.live.id) (take l.file-index l.file-items)
