use Rattle.rk_bytes.specs.Reading.{rest_of}
use Rattle.rk_batch.proofs.PartLemmas.{tagged_bad}
use Rattle.rk_batch.proofs.part.read_tagged.Goals as goal

pub returns-in-Err-clause-part : goal.returns-in-Err-clause-part
returns-in-Err-clause-part c = λ sequence.
    tagged_bad c.args.place sequence c.args.tag c.in-Some.kind c.in-Some.named (rest_of c.args.cursor.now) c.in-Err.field-0 (c.in-Some.ensures) (c.in-Err.ensures.value c.args.place sequence)
