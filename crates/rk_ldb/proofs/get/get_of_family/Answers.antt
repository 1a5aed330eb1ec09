use Rattle.std.specs.Option.{option_copied}
use Rattle.rk_bytes.specs.Model.Output.{Output}
use Rattle.rk_ldb.specs.Commands.{told_key}
use Rattle.rk_ldb.specs.Stops.{TookUpTo}
use Rattle.rk_ldb.proofs.ViewLemmas.{of_live, of_absent}
use Rattle.rk_bytes.specs.Model.Grammar.{key_bytes}
use Rattle.rk_bytes.specs.Model.KeyView.{answer}
use Rattle.rk_ldb.specs.Views.{answer_output}
use Rattle.rk_ldb.proofs.get.get_of_family.Goals as goal

pub returns-in-Some-clause-lines : goal.returns-in-Some-clause-lines
returns-in-Some-clause-lines g c =
    of_live (option_copied c.args.family) (λ id. answer_output c.args.hex (answer c.args.state.now.state id (key_bytes (told_key c.args.key)))) c.args.state.now.state c.family_name-name.result.now (λ (o : Output). TookUpTo (g.S.Sink.taken c.args.out.now) (g.S.Sink.taken c.get_key.new.out) o.lines c.get_key.result) c.family_name-name.ensures
    c.in-Some.id c.in-Some.ensures c.get_key.ensures.lines

pub returns-in-None-clause-lines : goal.returns-in-None-clause-lines
returns-in-None-clause-lines g c =
    of_absent (option_copied c.args.family) (λ id. answer_output c.args.hex (answer c.args.state.now.state id (key_bytes (told_key c.args.key)))) c.args.state.now.state c.family_name-name.result.now (λ (o : Output). TookUpTo (g.S.Sink.taken c.args.out.now) (g.S.Sink.taken c.refuse_family.new.out) o.lines c.refuse_family.result) c.family_name-name.ensures
    c.in-None.ensures c.refuse_family.ensures.lines
