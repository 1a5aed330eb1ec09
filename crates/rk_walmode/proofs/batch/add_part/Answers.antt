use Rattle.std.proofs.Common.{ap, sym, ◌∙◌, subst}
use Rattle.std.specs.List.{All}
use Rattle.std.proofs.lemmas.List.Elements.{All-push}
use Rattle.rk_batch.specs.Seen.{part_of}
use Rattle.rk_walmode.specs.Low.{IsLow}
use Rattle.rk_walmode.proofs.BatchLemmas.{adds_wanted, adds_none, low_alone}
use Rattle.rk_walmode.proofs.batch.add_part.Goals as goal

pub returns-in_ok-push-clause-added : goal.returns-in_ok-push-clause-added
returns-in_ok-push-clause-added c =
    adds_wanted c.args.version.now c.args.log c.args.records.now c.push.new.self (part_of c.args.part) c.in-Change.place (record {
      family = c.in-Change.family;
      key = c.in-Change.key.now;
      sequence = c.in-Change.sequence;
      kind = c.in-Change.kind;
      value = c.in-Change.value.now;
    })
    (record {
      family = c.in-Change.family;
      key = c.in_ok-copy_of.field-0;
      sequence = c.in-Change.sequence;
      kind = c.in-Change.kind;
      value = c.in_ok-copy_of-2.field-0;
    }) (ap part_of c.in-Change.is)
    (λ i. record {
      family = c.in-Change.family;
      key = c.in_ok-copy_of.ensures i;
      sequence = c.in-Change.sequence;
      kind = c.in-Change.kind;
      value = c.in_ok-copy_of-2.ensures i;
    }) (sym c.is_wanted.ensures ∙ c.if-is_wanted.true) c.in_ok-push.ensures.ok

pub returns-in_ok-push-clause-low : goal.returns-in_ok-push-clause-low
returns-in_ok-push-clause-low c = λ low old.
    let alone = low_alone (part_of c.args.part) c.in-Change.place _ (ap part_of c.in-Change.is) low in
    subst (All IsLow) (sym c.in_ok-push.ensures.ok) (All-push IsLow c.args.records.now (record {
      family = c.in-Change.family;
      key = c.in_ok-copy_of.field-0;
      sequence = c.in-Change.sequence;
      kind = c.in-Change.kind;
      value = c.in_ok-copy_of-2.field-0;
    }) old alone)

pub returns-else-is_wanted-clause-added : goal.returns-else-is_wanted-clause-added
returns-else-is_wanted-clause-added c =
    adds_none c.args.version.now c.args.log c.args.records.now (part_of c.args.part) c.in-Change.place _ (ap part_of c.in-Change.is) (sym c.is_wanted.ensures ∙ c.if-is_wanted.false)
