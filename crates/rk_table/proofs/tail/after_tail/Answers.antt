use Rattle.std.proofs.Common.{◌≡◌, ◌-◌, ℕ, Err, min, sym, subst, ap, ◌∙◌, arith}
use Rattle.rk_bytes.specs.Model.TableFooter.{footer_len}
use Rattle.rk_bytes.specs.Model.TableStatus.{footer_status}
use Rattle.rk_table.proofs.TailLemmas.{IsTail, is_tail, footer_read, footer_faulty, start_within}
use Rattle.rk_table.proofs.tail.after_tail.Goals as goal

pub overflow_add-result : goal.overflow_add-result
overflow_add-result c = let within = start_within c.args.bytes.now c.in-Ok.footer (sym c.read_footer.ensures ∙ c.in-Ok.is) in omega (arith, within)

pub returns-in-Ok-clause-ok : goal.returns-in-Ok-clause-ok
returns-in-Ok-clause-ok c = λ table len is.
    let before : c.args.file_len - min 53 c.args.file_len ≡ c.args.file_len - c.min-wanted.result = omega arith in
    let tail = subst (λ (k : ℕ). IsTail table k c.args.bytes.now) before (is_tail table c.args.bytes.now c.args.file_len len is) in
    sym (footer_read table c.args.bytes.now (c.args.file_len - c.min-wanted.result) c.in-Ok.footer tail (sym c.read_footer.ensures ∙ c.in-Ok.is))

pub returns-in-Err-clause-ok : goal.returns-in-Err-clause-ok
returns-in-Err-clause-ok c = λ table len is.
    let bytes = c.args.bytes.now in
    let tail = is_tail table bytes c.args.file_len len is in
    c.ended.ensures.left table (footer_status c.footer_place.result c.in-Err.fault) c.footer_fault.ensures
    ∙ ap (λ (place : ℕ). Err (footer_status place c.in-Err.fault)) (c.footer_place.ensures ∙ ap (λ (len : ℕ). len - footer_len bytes) (sym len))
    ∙ sym (footer_faulty table bytes _ c.in-Err.fault tail (sym c.read_footer.ensures ∙ c.in-Err.is))
