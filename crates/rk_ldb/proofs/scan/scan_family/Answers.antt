use Rattle.std.proofs.Common.{map}
use Rattle.std.specs.Option.{option_copied, option_map}
use Rattle.rk_bytes.specs.Model.Output.{Output, written}
use Rattle.rk_ldb.specs.Commands.{told_key}
use Rattle.rk_ldb.specs.Stops.{TookUpTo}
use Rattle.rk_ldb.proofs.ViewLemmas.{of_live, of_absent}
use Rattle.rk_bytes.specs.Model.Grammar.{key_bytes}
use Rattle.rk_bytes.specs.Model.KeyView.{rows}
use Rattle.rk_bytes.specs.Model.Lines.{row_line}
use Rattle.rk_ldb.proofs.scan.scan_family.Goals as goal

pub returns-in-Some-clause-lines : goal.returns-in-Some-clause-lines
returns-in-Some-clause-lines g c =
    of_live (option_copied c.args.family) (λ id. written (map (row_line c.args.hex) (rows c.args.state.now.state id (option_map key_bytes (option_map told_key c.args.from)) (option_map key_bytes (option_map told_key c.args.to))))) c.args.state.now.state c.family_name-name.result.now (λ (o : Output). TookUpTo (g.S.Sink.taken c.args.out.now) (g.S.Sink.taken c.scan_keys.new.out) o.lines c.scan_keys.result) c.family_name-name.ensures
    c.in-Some.id c.in-Some.ensures c.scan_keys.ensures.lines

pub returns-in-None-clause-lines : goal.returns-in-None-clause-lines
returns-in-None-clause-lines g c =
    of_absent (option_copied c.args.family) (λ id. written (map (row_line c.args.hex) (rows c.args.state.now.state id (option_map key_bytes (option_map told_key c.args.from)) (option_map key_bytes (option_map told_key c.args.to))))) c.args.state.now.state c.family_name-name.result.now (λ (o : Output). TookUpTo (g.S.Sink.taken c.args.out.now) (g.S.Sink.taken c.refuse_family.new.out) o.lines c.refuse_family.result) c.family_name-name.ensures
    c.in-None.ensures c.refuse_family.ensures.lines
