use Rattle.std.proofs.Common.{◌≡◌, Ok, sym, ap, ◌∙◌}
use Rattle.rk_bytes.specs.declared.model.block.Handle.{Handle}
use Rattle.rk_bytes.specs.Model.TableFooter.{checked_block}
use Rattle.rk_bytes.specs.Reading.{slice_read}
use Rattle.rk_cache.proofs.TrailerLemmas.{block_is}
use Rattle.rk_cache.proofs.read.without_trailer.Goals as goal

pub returns-clause-answer : goal.returns-clause-answer
returns-clause-answer c =
    let stored = c.args.stored.items in
    let handle : Handle = record { offset = 0; size = c.args.block_len } in
    let passed : checked_block stored handle c.args.sum ≡ Ok c.in_default.field-0.now =
    ap (λ bytes. checked_block bytes handle c.args.sum) (sym c.as_slice.ensures.value) ∙ sym c.checked_block.ensures ∙ ap slice_read c.in_default.is in
    passed ∙ ap Ok (block_is stored handle c.args.sum c.in_default.field-0.now passed ∙ sym (c.from_vec.ensures ∙ c.truncate.ensures.items))
