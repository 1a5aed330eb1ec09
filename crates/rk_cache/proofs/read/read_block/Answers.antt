use Rattle.std.proofs.Common.{Bool, sym, ◌∙◌, subst}
use Rattle.rk_bytes.specs.Model.DiskImages.{Counts, contents_told}
use Rattle.rk_cache.specs.Answers.{table_in}
use Rattle.rk_cache.proofs.ReadLemmas.{each, given_alone}
use Rattle.rk_cache.proofs.TrailerLemmas.{past_size}
use Rattle.rk_cache.proofs.read.read_block.Goals as goal

pub returns-in_default-clause-answer : goal.returns-in_default-clause-answer
returns-in_default-clause-answer g c =
    each (contents_told (g.D.Disk.told c.args.disk.now)) (λ files. past_size (table_in files c.args.key.number) c.args.key.handle c.args.key.size c.args.key.sum c.in_default.ensures.none)

pub returns-clause-answer : goal.returns-clause-answer
returns-clause-answer g c =
    given_alone (contents_told (g.D.Disk.told c.args.disk.now)) c.as_str.result.now c.in_ok-stored.stored.items c.args.key.number c.in-Some.len c.args.key.size c.args.key.handle c.args.key.sum c.without_trailer.result
    (c.as_str.ensures ∙ c.in_ok-name.ensures.printed) c.in-Some.ensures.some c.in_ok-stored.ensures.part c.without_trailer.ensures.answer

pub returns-clause-faults : goal.returns-clause-faults
returns-clause-faults g c = subst (λ (failed : Bool). Counts failed (g.D.Disk.faults c.args.disk.now) (g.D.Disk.faults c.read_part.new.disk)) (sym c.without_trailer.ensures.disk) c.in_ok-stored.ensures.faults
