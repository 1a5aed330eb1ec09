use Rattle.std.proofs.Common.{◌≡◌, take}
use Rattle.std.specs.Prelude.{filter_map}
use Rattle.rk_bytes.specs.Model.FileNames.{name_of}
use Rattle.rk_open.specs.Logs.{log_number}
use Rattle.rk_open.proofs.logs.numbers_among.Given as goal

-- the numbers among the names so far
abbrev pub invariant-loop-name : goal.invariant-loop-name
invariant-loop-name l = l.numbers.items ≡ filter_map (λ name. log_number (name_of name)) (take l.name-index l.names)
