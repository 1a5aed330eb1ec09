use Rattle.rk_batch.specs.Seen.{part_of}
use Rattle.rk_walmode.proofs.BatchLemmas.{adds_more, low_parted}
use Rattle.rk_walmode.proofs.batch.add_records.Goals as goal

pub loop-part-preserved : goal.loop-part-preserved
loop-part-preserved c =
    let before = c.loop-part.invariant in
    let given = c.in-Some.ensures.given in
    let part = part_of c.in-Some.part in
    let later = c.next_record.new.self.left in
    record {
      added = adds_more c.args.version.now c.args.log c.loop-part.records c.add_part.new.records c.loop-part.batch.left part later _ given before.added c.in_ok-add_part.ensures.added;
      low = λ low old. (low_parted c.loop-part.batch.left part later given (before.low low old)).1;
      kept = λ low old. c.in_ok-add_part.ensures.low (low_parted c.loop-part.batch.left part later given (before.low low old)).0 (before.kept low old);
    }

pub returns-in_err-add_part-clause-low : goal.returns-in_err-add_part-clause-low
returns-in_err-add_part-clause-low c = λ low old.
    let before = c.loop-part.invariant in
    let parted = low_parted c.loop-part.batch.left (part_of c.in-Some.part) c.next_record.new.self.left c.in-Some.ensures.given (before.low low old) in
    c.in_err-add_part.ensures.low parted.0 (before.kept low old)
