use Rattle.std.proofs.Common.{◌≤◌, length, take}
use Rattle.std.specs.Io.KnownBytes.{Appends}
use Rattle.rk_folder.proofs.held.write_whole.Given as goal

abbrev pub invariant-loop : goal.invariant-loop
invariant-loop g l = record {
  within : l.taken ≤ length l.bytes;
  bytes : Appends (g.W.Write.contents l.initial.to) (g.W.Write.contents l.to) (take l.taken l.bytes);
}
