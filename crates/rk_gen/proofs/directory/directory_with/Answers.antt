use Rattle.std.proofs.Common.{◌≡◌, List, ℕ, length, ap, ◌∙◌}
use Rattle.std.specs.FinMap.{empty, insert}
use Rattle.rk_bytes.specs.Model.FileNames.{current_name, current_text, log_name, manifest_name, table_name}
use Rattle.rk_bytes.specs.Model.Drill.{drill_torn_log, drill_log}
use Rattle.rk_gen.specs.Files.{manifest_with_size, directory_with}
use Rattle.rk_gen.proofs.directory.directory_with.Goals as goal

pub returns : goal.returns
unfolding directory_with
returns c =
    let n = c.args.number in
    let table : List ℕ = c.args.table.now in
    let none : c.in_ok-disk.disk ≡ empty = c.in_ok-disk.ensures in
    let manifest : c.in_ok-manifest.field-0 ≡ manifest_with_size n (length table) = c.in_ok-manifest.ensures ∙ ap (λ (bytes : List ℕ). manifest_with_size n (length bytes)) c.as_slice.ensures in
    let current : c.in_ok-current.field-0 ≡ current_text 2 = c.in_ok-current.ensures in
    let later : c.in_ok-later_log.field-0 ≡ drill_log n = c.in_ok-later_log.ensures in
    let torn : c.in_ok-torn_log.field-0 ≡ drill_torn_log n = c.in_ok-torn_log.ensures in
    let with_manifest = c.in_ok-put.ensures.ok ∙ (λ i. insert (none i) (manifest_name 2) (manifest i)) in
    let with_current = c.in_ok-put-2.ensures.ok ∙ (λ i. insert (with_manifest i) current_name (current i)) in
    let with_later = c.in_ok-put-3.ensures.ok ∙ (λ i. insert (with_current i) (log_name 6) (later i)) in
    let with_torn = c.in_ok-put-4.ensures.ok ∙ (λ i. insert (with_later i) (log_name 5) (torn i)) in
    c.in_ok-put-5.ensures.ok ∙ (λ i. insert (with_torn i) (table_name 4) table)
