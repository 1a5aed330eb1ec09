use Rattle.std.proofs.Common.{◌≡◌, map, string_bytes}
use Rattle.rk_disk.proofs.files.Files.names.Given as goal

abbrev pub invariant-loop-name : goal.invariant-loop-name
invariant-loop-name l = l.names ≡ map (λ name. string_bytes name.now) l.yielded
