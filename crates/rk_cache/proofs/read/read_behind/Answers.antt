use Rattle.std.proofs.Common.{◌≡◌, ◌+◌, ◌≤◌, ◌++◌, length, take, ap, ◌∙◌, rules}
use Rattle.rk_disk.proofs.Pieces.{grown, front_kept}
use Rattle.rk_cache.proofs.PieceLemmas.{told_behind}
use Rattle.rk_cache.proofs.read.read_behind.Given as given
use Rattle.rk_cache.proofs.read.read_behind.Goals as goal

module _ (g : given.Over) (c : goal.After-truncate g) where
  end : c.len-filled.result ≡ length c.args.bytes.now.items
  end = search rules

  within : c.in_ok-got.got ≤ length c.read_piece.new.buf
  within = search rules

  kept : take c.len-filled.result c.deref_mut.result.now ≡ c.args.bytes.now.items
  kept = ap (take c.len-filled.result) (c.deref_mut.ensures.value ∙ c.in_ok-resize.ensures.items) ∙ front_kept c.args.bytes.now.items _ c.len-filled.result c.args.wanted end

  items : c.truncate.new.self.items ≡ c.args.bytes.now.items ++ take c.in_ok-got.got c.read_piece.new.buf
  items = c.truncate.ensures.items ∙ grown c.args.bytes.now.items c.deref_mut.result.now c.read_piece.new.buf _ c.len-filled.result _ c.in_ok-got.got _ end kept (search rules) within

pub returns-clause-part : goal.returns-clause-part
returns-clause-part g c =
    told_behind c.args.name.now c.args.bytes.now.items _ c.read_piece.new.buf c.args.at _ c.in_ok-got.got c.args.wanted _ _ (ap (λ n. c.args.at + n) (end g c)) (search rules) (items g c) c.in_ok-got.ensures.part
