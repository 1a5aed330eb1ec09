use Rattle.std.proofs.Common.{◌≡◌, List, [], map, Option, Some, None, Ok, ap, ◌∙◌, subst}
use Rattle.std.specs.Prelude.{IfSome}
use Rattle.std.specs.FinMap.{get}
use Rattle.rk_bytes.specs.declared.model.view.FamilyLine.{FamilyLine}
use Rattle.rk_bytes.specs.Model.BlockEntries.{collected}
use Rattle.rk_bytes.specs.Model.DiskImages.{Directory, contents_told}
use Rattle.rk_bytes.specs.Model.KeyView.{State}
use Rattle.rk_bytes.specs.Model.Opening.{Listed, TableFile, family_line, listed_tables, state_with, table_file}
use Rattle.rk_open.specs.Answers.{RefusesAs}
use Rattle.rk_open.specs.Tables.{listed_of}
use Rattle.rk_open.proofs.TablesLemmas.{Loads, listed_whole, loads}
use Rattle.rk_open.proofs.best_manifest.load_tables.Goals as goal

state_alone : (o : Option Directory) (wanted : List Listed) (lines : List FamilyLine) (new : State) (top : _) → IfSome o (λ d. (tables : List TableFile) × (collected (table_file (get d)) wanted ≡ Ok tables) × Loads lines new top tables)
    → IfSome o (λ d. (tables : List TableFile) × (collected (table_file (get d)) wanted ≡ Ok tables) × (new ≡ state_with lines tables []))
state_alone None wanted lines new top loaded = tt
state_alone (Some d) wanted lines new top loaded = let (tables, are, is) = loaded in (tables, are, is.0)

pub add_each-requires-clause-bounds : goal.add_each-requires-clause-bounds
add_each-requires-clause-bounds g c =
    let same = ap (map listed_of) c.as_slice.ensures.value ∙ c.in-Ok.ensures in
    listed_whole listed_of c.as_slice.result.now c.args.families.now same c.requires.bounds

pub returns-in-Ok-add_each-clause-loaded : goal.returns-in-Ok-add_each-clause-loaded
returns-in-Ok-add_each-clause-loaded g c =
    let families = c.args.families.now in
    let o = contents_told (g.D.Disk.told c.args.disk.now) in
    let same = ap (map listed_of) c.as_slice.ensures.value ∙ c.in-Ok.ensures in
    state_alone o (listed_tables families) (map family_line families) c.add_each.new.state.state c.in-Ok-add_each.field-0 (
    loads o (map listed_of c.as_slice.result.now) (listed_tables families) (map family_line families) c.args.state.state c.add_each.new.state.state c.in-Ok-add_each.field-0 same c.requires.state c.in-Ok-add_each.ensures.tables
    )

pub returns-clause-loaded : goal.returns-clause-loaded
returns-clause-loaded g c =
    let same = ap (map listed_of) c.as_slice.ensures.value ∙ c.in-Ok.ensures in
    subst (λ (listed : List Listed). IfSome (contents_told (g.D.Disk.told c.args.disk.now)) (λ d. RefusesAs (collected (table_file (get d)) listed) c.in-Err.why)) same c.in-Err.ensures.tables
