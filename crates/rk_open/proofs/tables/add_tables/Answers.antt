use Rattle.std.proofs.Common.{List, map, ap, ◌∙◌, subst}
use Rattle.std.specs.Prelude.{IfSome}
use Rattle.std.specs.FinMap.{get}
use Rattle.rk_bytes.specs.Model.BlockEntries.{collected}
use Rattle.rk_bytes.specs.Model.DiskImages.{contents_told}
use Rattle.rk_bytes.specs.Model.Opening.{Listed, family_line, listed_tables, table_file}
use Rattle.rk_open.specs.Answers.{RefusesAs}
use Rattle.rk_open.specs.Tables.{listed_of}
use Rattle.rk_open.proofs.TablesLemmas.{listed_whole, loads, top_of}
use Rattle.rk_open.proofs.VersionLemmas.{last_whole}
use Rattle.rk_open.proofs.tables.add_tables.Goals as goal

pub add_each-requires-clause-bounds : goal.add_each-requires-clause-bounds
add_each-requires-clause-bounds g c =
    let same = ap (map listed_of) c.as_slice-2.ensures.value ∙ c.in-Ok.ensures ∙ ap listed_tables c.as_slice.ensures in
    listed_whole listed_of c.as_slice-2.result.now c.args.version.now.families same (last_whole c.args.version.now c.requires.last)

pub returns-in-Ok-add_each-clause-loaded : goal.returns-in-Ok-add_each-clause-loaded
returns-in-Ok-add_each-clause-loaded g c =
    let families = c.args.version.now.families in
    let same = ap (map listed_of) c.as_slice-2.ensures.value ∙ c.in-Ok.ensures ∙ ap listed_tables c.as_slice.ensures in
    loads (contents_told (g.D.Disk.told c.args.disk.now)) (map listed_of c.as_slice-2.result.now) (listed_tables families) (map family_line families) c.args.state.state c.add_each.new.state.state c.in-Ok-add_each.top same
    c.requires.state c.in-Ok-add_each.ensures.tables

pub returns-in-Ok-add_each-clause-top : goal.returns-in-Ok-add_each-clause-top
returns-in-Ok-add_each-clause-top g c =
    top_of (contents_told (g.D.Disk.told c.args.disk.now)) (map listed_of c.as_slice-2.result.now) (map family_line c.args.version.now.families) c.args.state.state c.add_each.new.state.state c.in-Ok-add_each.top
    c.requires.state c.in-Ok-add_each.ensures.tables

pub returns-in-Err-clause-loaded : goal.returns-in-Err-clause-loaded
returns-in-Err-clause-loaded g c =
    let same = ap (map listed_of) c.as_slice-2.ensures.value ∙ c.in-Ok.ensures ∙ ap listed_tables c.as_slice.ensures in
    subst (λ (listed : List Listed). IfSome (contents_told (g.D.Disk.told c.args.disk.now)) (λ d. RefusesAs (collected (table_file (get d)) listed) c.in-Err.why)) same c.in-Err.ensures.tables
