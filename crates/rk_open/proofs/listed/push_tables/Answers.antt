use Rattle.std.proofs.Common.{◌++◌, map, ap, ◌∙◌, refl}
use Rattle.std.proofs.lemmas.List.{take_all}
use Rattle.rk_open.specs.Tables.{listed_of}
use Rattle.rk_open.proofs.ListedLemmas.{one_more, listed_with}
use Rattle.rk_open.proofs.listed.push_tables.Goals as goal

pub loop-file-preserved : goal.loop-file-preserved
loop-file-preserved c =
    one_more c.loop-file.tables.items c.push.new.self.items _ (map listed_of c.args.tables.now.items) c.args.live.now.id c.as_slice-file-items.result.now c.loop-file.file-index
    c.in_ok-push.ensures.items refl c.file-item.is c.loop-file-test.true c.loop-file.invariant

pub returns : goal.returns
returns c =
    c.loop-file.invariant
    ∙ ap (λ files. map listed_of c.args.tables.now.items ++ map (listed_with c.args.live.now.id) files) (take_all c.loop-file.file-index c.as_slice-file-items.result.now c.loop-file-test.false ∙ c.as_slice-file-items.ensures)
