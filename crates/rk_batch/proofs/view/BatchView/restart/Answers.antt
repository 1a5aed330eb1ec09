use Rattle.std.proofs.Common.{length, sym, ap, ◌∙◌, subst}
use Rattle.rk_bytes.specs.Model.WriteBatch.{batch_of}
use Rattle.rk_bytes.specs.Reading.{Reading, rest_of}
use Rattle.rk_batch.specs.Seen.{BatchSeen, parts_left, parts_or_none, batch_or_none, seen_whole}
use Rattle.rk_batch.specs.Read.{IsRead}
use Rattle.rk_batch.proofs.ReadLemmas.{Good-IsRead, IsRead-Good, whole_left}
use Rattle.rk_batch.proofs.view.BatchView.restart.Goals as goal

pub invariant_of-self : goal.invariant_of-self
invariant_of-self c =
    let v = c.self.inside in
    subst (λ cursor. IsRead v.bytes.now cursor v.sequence v.sequence v.count) (sym c.after_header-self-inside.ensures)
    (Good-IsRead v.bytes.now v.sequence v.count (IsRead-Good v.bytes.now v.cursor v.next v.sequence v.count c.self.invariant))

pub returns : goal.returns
returns c =
    let v = c.self.inside in
    let left = ap (λ (cursor : Reading). parts_or_none (parts_left (length v.bytes.now) v.sequence (rest_of cursor))) c.after_header-self-inside.ensures ∙ whole_left v.bytes.now v.cursor v.next v.sequence v.count c.self.invariant in
    (λ i. record { batch = batch_or_none (batch_of v.bytes.now); left = left i }) ∙ ap (λ (seen : BatchSeen). seen_whole seen.batch) c.self.view_is
