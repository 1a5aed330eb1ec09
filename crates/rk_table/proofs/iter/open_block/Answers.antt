use Rattle.std.proofs.Common.{◌≡◌, ◌∷◌, ℕ, suc, List, Ok, get_or, drop, sym, ap, ◌∙◌, drop-cons}
use Rattle.rk_bytes.specs.Model.TableFooter.{checked_block}
use Rattle.rk_bytes.specs.Reading.{slice_read}
use Rattle.rk_table.specs.Told.{value_of}
use Rattle.rk_table.specs.Walks.{block_told}
use Rattle.rk_table.proofs.Callers.GoodTables.{next_block}
use Rattle.rk_table.proofs.LeftLemmas.{opened}
use Rattle.rk_table.proofs.iter.open_block.Goals as goal

pub returns-in-Ok-new : goal.returns-in-Ok-new
returns-in-Ok-new c =
    let (entries, read) = c.requires.reads in
    let bytes = c.args.bytes.now in
    let table = c.args.table.now in
    let at = c.index-as_slice-number.result in
    let is : at ≡ get_or table.index c.args.number at = cc in
    let dropped = drop-cons table.index c.args.number at c.requires.within ∙ (λ i. sym is i ∷ drop (suc c.args.number) table.index) in
    let next = next_block bytes table c.args.number (value_of c.args.before) at _ entries dropped read in
    let handed : Ok c.in-Ok.block.now ≡ Ok next.block = ap slice_read (sym c.in-Ok.is) ∙ c.checked_block.ensures ∙ ap (λ (bytes : List ℕ). checked_block bytes at.block table.sum) c.front.ensures ∙ next.handed in
    let same : next.block ≡ c.in-Ok.block.now = cc in
    let (walk, told, before) = c.in-Ok-new.ensures in
    opened bytes table c.args.number (value_of c.args.before) at entries c.in-Ok-new.walk read next walk (ap (block_told at.block.offset (value_of c.args.before)) same ∙ told) before
