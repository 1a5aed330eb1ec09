use Rattle.std.proofs.Common.{◌≡◌, take}
use Rattle.std.specs.Prelude.{filter_map}
use Rattle.rk_bytes.specs.Model.BestEfforts.{number_of_manifest}
use Rattle.rk_bytes.specs.Model.FileNames.{name_of}
use Rattle.rk_open.proofs.manifests.numbers_among.Given as goal

-- the numbers among the names so far
abbrev pub invariant-loop-name : goal.invariant-loop-name
invariant-loop-name l = l.numbers.items ≡ filter_map (λ name. number_of_manifest (name_of name)) (take l.name-index l.names)
