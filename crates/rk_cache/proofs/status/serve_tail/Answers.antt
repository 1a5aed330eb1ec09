use Rattle.std.proofs.Common.{◌≡◌, length, take, drop, sym, ◌∙◌, subst, rules}
use Rattle.std.proofs.lemmas.List.{take_at}
use Rattle.std.proofs.lemmas.Option.{IfSome_then}
use Rattle.rk_bytes.specs.Model.DiskImages.{contents_told}
use Rattle.rk_meta.specs.declared.want.Want.{Want}
use Rattle.rk_table.specs.Runs.{HandsTail}
use Rattle.rk_cache.specs.Answers.{table_in}
use Rattle.rk_cache.proofs.StatusLemmas.{tail_read}
use Rattle.rk_cache.proofs.status.serve_tail.Goals as goal

pub returns-clause-follows : goal.returns-clause-follows
returns-clause-follows g c =
    let told = contents_told (g.D.Disk.told c.args.disk.now) in
    let long : length c.read_piece.new.buf ≡ c.in_ok-bytes.bytes.len = search rules in
    let same : c.deref.result.now ≡ c.read_piece.new.buf = c.deref.ensures.value ∙ take_at c.read_piece.new.buf (drop (length c.read_piece.new.buf) c.in_ok-bytes.bytes.items) c.in_ok-bytes.bytes.len long in
    let buffer : length c.deref_mut.result.now ≡ c.args.most = c.deref_mut.ensures.len ∙ c.in_ok-bytes.ensures.len in
    IfSome_then told
    (tail_read told c.as_str.result.now c.deref_mut.result.now c.read_piece.new.buf c.deref.result.now c.args.number c.args.file_len c.args.most c.saturating_sub-at.result c.in_ok-got.got
    (c.as_str.ensures ∙ c.in_ok-name.ensures.printed) c.saturating_sub-at.ensures buffer same c.in_ok-got.ensures.part)
    (λ files tail len follows. c.in_ok-give_tail.ensures.follows (table_in files c.args.number) follows
    (subst (λ (want : Want). HandsTail (table_in files c.args.number) want (take c.in_ok-got.got c.deref.result.now)) (sym c.requires.wanted) (tail len)))
