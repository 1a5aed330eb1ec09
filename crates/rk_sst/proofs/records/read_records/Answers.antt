use Rattle.std.proofs.Common.{◌≡◌, ℕ, List, get_or, Option, Some, Ok, Err, IfSome, sym, ap, ◌∙◌, subst}
use Rattle.std.specs.Prelude.{slice_get}
use Rattle.std.specs.Borrow.{Bor}
use Rattle.std.proofs.lemmas.Option.{IfSome_then, slice_get-get_or}
use Rattle.rk_bytes.specs.declared.model.block.IndexEntry.{IndexEntry}
use Rattle.rk_bytes.specs.Model.DiskImages.{contents_told}
use Rattle.rk_bytes.specs.Model.TableStatus.{DataEntry}
use Rattle.rk_table.specs.Left.{from_block}
use Rattle.rk_cache.specs.Answers.{table_in}
use Rattle.rk_sst.specs.declared.error.SstErr.{SstErr}
use Rattle.rk_sst.specs.Taken.{TakesNext}
use Rattle.rk_sst.proofs.TakenLemmas.{no_fault}
use Rattle.rk_sst.proofs.records.read_records.Goals as goal

pub returns-in-Ok-clause-records : goal.returns-in-Ok-clause-records
returns-in-Ok-clause-records g c =
    let table = c.args.table.now in
    let found = c.index-as_slice-block.result in
    let at = get_or c.as_slice.result.now c.args.block found in
    let there : slice_get table.index c.args.block ≡ Some at =
    slice_get-get_or table.index c.args.block found c.requires.within ∙ ap (λ (index : List IndexEntry). Some (get_or index c.args.block found)) (sym c.as_slice.ensures) in
    IfSome_then (contents_told (g.D.Disk.told c.args.disk.now)) c.in-Ok.ensures.answer (λ files handed entries read.
    subst (λ (last : Option (List ℕ)). TakesNext (table_in files c.args.number) table c.args.block last entries c.records_in.result) c.key_slice.ensures
    (c.records_in.ensures.records (table_in files c.args.number) at entries there handed (subst (λ (last : Option (List ℕ)). from_block (table_in files c.args.number) table c.args.block last ≡ Ok entries) (sym c.key_slice.ensures) read)))

pub returns-in-Err-clause-records : goal.returns-in-Err-clause-records
returns-in-Err-clause-records g c =
    let told = contents_told (g.D.Disk.told c.args.disk.now) in
    let table = c.args.table.now in
    let number = c.args.number in
    let found = c.index-as_slice-block.result in
    let at = get_or c.as_slice.result.now c.args.block found in
    let there : slice_get table.index c.args.block ≡ Some at =
    slice_get-get_or table.index c.args.block found c.requires.within ∙ ap (λ (index : List IndexEntry). Some (get_or index c.args.block found)) (sym c.as_slice.ensures) in
    subst (λ (error : SstErr). IfSome told (λ files. (entries : List DataEntry) → from_block (table_in files number) table c.args.block c.args.last.now ≡ Ok entries → TakesNext (table_in files number) table c.args.block c.args.last.now entries (Err error)))
    (sym c.block_err.ensures) (no_fault (λ (bytes : Bor (List ℕ)). bytes.now) told number c.args.block table c.args.last.now at c.in-Err.fault there c.in-Err.ensures.answer)
