use Rattle.std.proofs.Common.{Some, sym, ap, ◌∙◌}
use Rattle.rk_bytes.specs.Model.InternalKey.{internal_key}
use Rattle.rk_sst.proofs.RisingLemmas.{last_is}
use Rattle.rk_sst.proofs.records.keep_last.Goals as goal

pub returns-in_ok-key-clause-ok : goal.returns-in_ok-key-clause-ok
returns-in_ok-key-clause-ok c =
    let one = c.in-Some.record.now in
    ap Some (c.in_ok-key.ensures ∙ ap (λ user. internal_key user one.sequence one.kind) c.as_slice.ensures) ∙ sym (last_is c.args.last.now c.args.records.now one (sym c.in-Some.ensures.value))
