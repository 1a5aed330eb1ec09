use Rattle.std.proofs.Common.{map, flat_map, refl}
use Rattle.rk_bytes.specs.Model.Opening.{family_line, table_records}
use Rattle.rk_open.proofs.directory.with_replayed.Goals as goal

pub returns-in-Ok-clause-filled : goal.returns-in-Ok-clause-filled
returns-in-Ok-clause-filled c = λ version tables loaded. record {
  state = c.in-Ok.ensures.told tables (map family_line version.families) loaded.state;
  expected = refl;
  stopped = refl;
  greatest = c.in-Ok.ensures.top (flat_map table_records tables) loaded.greatest;
}
