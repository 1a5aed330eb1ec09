use Rattle.std.proofs.Common.{◌⊎◌, ◌≢◌, ◌<◌, ◌+◌, length, Ok, Err, refl, sym, ap, ◌∙◌, subst, inl, inr}
use Rattle.std.proofs.lemmas.Result.{err_from_is_err_and}
use Rattle.rk_bytes.specs.Model.InternalKey.{top_sequence}
use Rattle.rk_bytes.specs.Model.WriteBatch.{batch_of, batch_sequence}
use Rattle.rk_bytes.specs.Reading.{Reading, rest_of}
use Rattle.rk_batch.specs.Seen.{parts_left, parts_or_none, batch_or_none}
use Rattle.rk_batch.specs.Read.{IsRead, ReadAs}
use Rattle.rk_batch.proofs.ReadLemmas.{short_batch, counted_at_header, faulty_batch, wrong_count, past_top, Good, good_batch, Good-IsRead, Good-seen}
use Rattle.rk_batch.proofs.view.BatchView.read.Goals as goal
use Rattle.rk_batch.proofs.view.BatchView.read.Goals.{then-sequence-gt-TOP-via-then-sequence-gt-TOP, then-sequence-gt-TOP-via-else-sequence-gt-TOP+then-sequence-found}

pub returns-then-bytes-lt-HEADER_LEN : goal.returns-then-bytes-lt-HEADER_LEN
returns-then-bytes-lt-HEADER_LEN c = subst (ReadAs (Err _)) (sym (short_batch c.args.bytes.now c.if-bytes-lt-HEADER_LEN.true)) refl

pub returns-in_err-found : goal.returns-in_err-found
returns-in_err-found c =
    let bytes = c.args.bytes.now in
    let counts = counted_at_header bytes c.after_header.result (Err c.in_err-found.field-0.0) c.after_header.ensures (c.in_err-found.ensures (batch_sequence bytes)) in
    let told = err_from_is_err_and c.from_residual.result c.from_residual.ensures.1 in
    subst (λ read. ReadAs read (batch_of bytes)) (sym (told.1 ∙ ap Err told.2)) (subst (ReadAs (Err _)) (sym (faulty_batch bytes c.in_err-found.field-0.0 c.if-bytes-lt-HEADER_LEN.false counts)) refl)

pub returns-then-from-found : goal.returns-then-from-found
returns-then-from-found c =
    let bytes = c.args.bytes.now in
    let counts = counted_at_header bytes c.after_header.result (Ok c.in_ok-found.found) c.after_header.ensures (c.in_ok-found.ensures (batch_sequence bytes)) in
    let other : c.stated_count-count.result ≢ c.in_ok-found.found = λ same. c.if-from-found.true (c.from.ensures ∙ same) in
    subst (ReadAs (Err _)) (sym (wrong_count bytes c.stated_count-count.result c.in_ok-found.found c.if-bytes-lt-HEADER_LEN.false c.stated_count-count.ensures other counts)) refl

pub returns-then-sequence-gt-TOP : goal.returns-then-sequence-gt-TOP
returns-then-sequence-gt-TOP c =
    let bytes = c.args.bytes.now in
    let counts = counted_at_header bytes c.after_header.result (Ok c.in_ok-found.found) c.after_header.ensures (c.in_ok-found.ensures (batch_sequence bytes)) in
    let above : (top_sequence < c.stated_sequence-sequence.result) ⊎ (top_sequence + 1 < c.stated_sequence-sequence.result + c.in_ok-found.found) =
    elim c.then-sequence-gt-TOP.branch [ then-sequence-gt-TOP-via-then-sequence-gt-TOP w ↦ inl w.if-sequence-gt-TOP.true | then-sequence-gt-TOP-via-else-sequence-gt-TOP+then-sequence-found w ↦ inr w.if-sequence-found.true ] in
    subst (ReadAs (Err _))
    (sym (past_top bytes c.stated_sequence-sequence.result c.stated_count-count.result c.in_ok-found.found c.if-bytes-lt-HEADER_LEN.false c.stated_sequence-sequence.ensures c.stated_count-count.ensures (sym c.from.ensures ∙ c.if-from-found.false) above counts)) refl

good : (c : goal.After-after_header-2) → Good c.args.bytes.now c.stated_sequence-sequence.result c.stated_count-count.result
good c =
    let bytes = c.args.bytes.now in
    good_batch bytes c.stated_sequence-sequence.result c.stated_count-count.result c.in_ok-found.found c.if-bytes-lt-HEADER_LEN.false c.stated_sequence-sequence.ensures c.stated_count-count.ensures
    (sym c.from.ensures ∙ c.if-from-found.false) c.if-sequence-gt-TOP.false c.if-sequence-found.false
    (counted_at_header bytes c.after_header.result (Ok c.in_ok-found.found) c.after_header.ensures (c.in_ok-found.ensures (batch_sequence bytes)))

pub invariant_of-result : goal.invariant_of-result
invariant_of-result c =
    subst (λ cursor. IsRead c.args.bytes.now cursor c.stated_sequence-sequence.result c.stated_sequence-sequence.result c.stated_count-count.result) (sym c.after_header-2.ensures)
    (Good-IsRead c.args.bytes.now c.stated_sequence-sequence.result c.stated_count-count.result (good c))

pub returns : goal.returns
returns c =
    let bytes = c.args.bytes.now in
    subst (λ (cursor : Reading). ReadAs (Ok (record { batch = batch_or_none (batch_of bytes); left = parts_or_none (parts_left (length bytes) c.stated_sequence-sequence.result (rest_of cursor)) })) (batch_of bytes)) (sym c.after_header-2.ensures)
    (Good-seen bytes c.stated_sequence-sequence.result c.stated_count-count.result (good c))
