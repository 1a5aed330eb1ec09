use Rattle.std.proofs.Common.{◌≤◌, length, take}
use Rattle.std.specs.Io.KnownBytes.{Consumes}
use Rattle.rk_folder.proofs.folder.fill.Given as goal

abbrev pub invariant-loop : goal.invariant-loop
invariant-loop g l = record {
  within : l.filled ≤ length l.buf;
  bytes : Consumes (g.F.Read.remaining l.initial.from) (g.F.Read.remaining l.from) (take l.filled l.buf);
}
