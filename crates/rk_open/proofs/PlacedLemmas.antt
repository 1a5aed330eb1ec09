-- The families of a manifest at their points.
use Rattle.std.specs.Prelude.{◌==◌, flat_map, IfSome}
use Rattle.std.proofs.Common.{◌≡◌, ℕ, suc, ◌<◌, cond, List, [], ◌∷◌, ◌++◌, length, map, filter, filter_map, drop, Option, Some, None, Result, Ok, Err, refl, sym, ap, ◌∙◌, subst, arith, eq-eqb}
use Rattle.std.specs.FinMap.{get}
use Rattle.std.specs.List.{AllByRecursion}
use Rattle.std.proofs.lemmas.Bool.{ne_eqb}
use Rattle.rk_bytes.specs.declared.model.edit.EditFault.{EditFault}
use Rattle.rk_bytes.specs.declared.model.manifest.FamilyState.{FamilyState}
use Rattle.rk_bytes.specs.declared.model.manifest.FileMeta.{FileMeta}
use Rattle.rk_bytes.specs.declared.model.manifest.ManifestFault.{ManifestFault}
use Rattle.rk_bytes.specs.declared.model.manifest.Version.{Version}
use Rattle.rk_bytes.specs.declared.model.open.OpenErr.{OpenErr}
use Rattle.rk_bytes.specs.declared.model.view.Point.{Point}
use Rattle.rk_bytes.specs.Model.Numbers.{◌>>=◌}
use Rattle.rk_bytes.specs.Model.BlockEntries.{collected}
use Rattle.rk_bytes.specs.Model.DiskImages.{Directory}
use Rattle.rk_bytes.specs.Model.KeyView.{State}
use Rattle.rk_bytes.specs.Model.VersionEdit.{Field, added_in, edit_fields}
use Rattle.rk_bytes.specs.Model.Manifest.{ManifestUnit, has_id, file_meta, version_at}
use Rattle.rk_bytes.specs.Model.Opening.{Best, Listed, TableFile, in_order, family_line, listed_by, listed_tables, state_with, table_file}
use Rattle.rk_bytes.specs.Model.BestEfforts.{last_families, files_at, listed, point_tables, tables_at, files_of, best_line, best_with}
use Rattle.rk_edit.specs.Read.{fields_or_none}
use Rattle.rk_log.specs.declared.item.Piece.{Piece}
use Rattle.rk_log.specs.Items.{piece_bytes}
use Rattle.rk_points.specs.Lists.{files_in}
use Rattle.rk_points.proofs.ListLemmas.{listed-cons}
use Rattle.rk_version.specs.declared.unit.Unit.{Unit as LentUnit}
use Rattle.rk_version.specs.Bounds.{HasWholeBounds, IsInOrder}
use Rattle.rk_version.specs.Places.{Rises}
use Rattle.rk_version.specs.Units.{edits_of, meaning}
use Rattle.rk_open.specs.Answers.{RefusesAs}
use Rattle.rk_open.specs.Best.{placed, placed_at, with_files}
use Rattle.rk_open.specs.Tables.{HaveWholeBounds}
use Rattle.rk_open.proofs.RunLemmas.{refuses_on}
use Rattle.rk_open.proofs.SoundFields.{IsSound, HasWholeKeys, edit_sound}
use Rattle.rk_open.proofs.SoundUnits.{AreSoundUnits}
use Rattle.rk_open.proofs.TablesLemmas.{each_flat, each_kept}
use Rattle.rk_open.proofs.VersionLemmas.{at_whole, found_sound, added_in_sound}

-- families with the files that are given for them
abbrev pub given : List FamilyState → List (List FileMeta) → List FamilyState
given (live ∷ families) (files ∷ each) = with_files live files ∷ given families each
given _ _ = []

pub given_none : (families : List FamilyState) → given families [] ≡ []
given_none [] = refl
given_none (live ∷ families) = refl

pub given_more : (families : List FamilyState) (each : List (List FileMeta)) (live : FamilyState) (more : List FamilyState) (files : List FileMeta) → drop (length each) families ≡ live ∷ more
    → given families (each ++ files ∷ []) ≡ given families each ++ with_files live files ∷ []
given_more [] [] live more files parts = absurd cc
given_more (one ∷ families) [] live more files parts = let same : one ≡ live = cc in λ i. with_files (same i) files ∷ given_none families i
given_more [] (own ∷ each) live more files parts = absurd cc
given_more (one ∷ families) (own ∷ each) live more files parts = ap (λ rest. with_files one own ∷ rest) (given_more families each live more files parts)

pub rest_more : (families : List FamilyState) (each : List (List FileMeta)) (live : FamilyState) (more : List FamilyState) (files : List FileMeta) → drop (length each) families ≡ live ∷ more
    → more ≡ drop (length (each ++ files ∷ [])) families
rest_more [] [] live more files parts = absurd cc
rest_more (one ∷ families) [] live more files parts = cc
rest_more [] (own ∷ each) live more files parts = absurd cc
rest_more (one ∷ families) (own ∷ each) live more files parts = rest_more families each live more files parts

pub given_placed : (units : List ManifestUnit) (families : List FamilyState) (points : List Point) → given families (map (λ (point : Point). files_at units point.family point.at) points) ≡ placed units families points
given_placed units [] points = refl
given_placed units (live ∷ families) [] = refl
given_placed units (live ∷ families) (point ∷ points) = ap (λ rest. placed_at units live point ∷ rest) (given_placed units families points)

-- numbers that rise, of things with the same numbers
all_alike : {A B : Type 0} (f : A → ℕ) (g : B → ℕ) (n : ℕ) (xs : List A) (ys : List B) → map f xs ≡ map g ys → AllByRecursion (λ x. n < f x) xs → AllByRecursion (λ y. n < g y) ys
all_alike f g n [] [] e all = tt
all_alike f g n [] (y ∷ ys) e all = absurd cc
all_alike f g n (x ∷ xs) [] e all = absurd cc
all_alike f g n (x ∷ xs) (y ∷ ys) e all =
    let head : f x ≡ g y = cc in let tail : map f xs ≡ map g ys = cc in (subst (λ m. n < m) head all.0, all_alike f g n xs ys tail all.1)

pub rises_alike : {A B : Type 0} (f : A → ℕ) (g : B → ℕ) (xs : List A) (ys : List B) → map f xs ≡ map g ys → Rises f xs → Rises g ys
rises_alike f g [] [] e up = tt
rises_alike f g [] (y ∷ ys) e up = absurd cc
rises_alike f g (x ∷ xs) [] e up = absurd cc
rises_alike f g (x ∷ xs) (y ∷ ys) e up =
    let head : f x ≡ g y = cc in let tail : map f xs ≡ map g ys = cc in (subst (λ m. AllByRecursion (λ y. m < g y) ys) head (all_alike f g (f x) xs ys tail up.0), rises_alike f g xs ys tail up.1)

pub same_length : {A B : Type 0} (f : A → ℕ) (g : B → ℕ) (xs : List A) (ys : List B) → map f xs ≡ map g ys → length xs ≡ length ys
same_length f g [] [] e = refl
same_length f g [] (y ∷ ys) e = absurd cc
same_length f g (x ∷ xs) [] e = absurd cc
same_length f g (x ∷ xs) (y ∷ ys) e = let tail : map f xs ≡ map g ys = cc in ap suc (same_length f g xs ys tail)

-- families whose ids are those of the points
module _ (units : List ManifestUnit) where
  abbrev Pairs : List FamilyState → List Point → Type 0
  Pairs families points = map (λ (point : Point). point.family) points ≡ map (λ (live : FamilyState). live.id) families

  pub placed_ids : (families : List FamilyState) (points : List Point) → Pairs families points → map (λ (live : FamilyState). live.id) families ≡ map (λ (live : FamilyState). live.id) (placed units families points)
  placed_ids [] points e = refl
  placed_ids (live ∷ families) [] e = absurd cc
  placed_ids (live ∷ families) (point ∷ points) e = let tail : Pairs families points = cc in ap (λ l. live.id ∷ l) (placed_ids families points tail)

  abbrev table_of : ℕ → FileMeta → Listed
  table_of family file = record { family = family; file = file }

  placed_listed : (families : List FamilyState) (points : List Point) → Pairs families points → flat_map listed_by (placed units families points) ≡ flat_map (point_tables units) points
  placed_listed [] [] e = refl
  placed_listed [] (point ∷ points) e = absurd cc
  placed_listed (live ∷ families) [] e = absurd cc
  placed_listed (live ∷ families) (point ∷ points) e =
      let head : point.family ≡ live.id = cc in let tail : Pairs families points = cc in
      λ i. map (table_of (sym head i)) (files_at units point.family point.at) ++ placed_listed families points tail i

  pub placed_tables : (families : List FamilyState) (points : List Point) → Pairs families points → listed_tables (placed units families points) ≡ tables_at units points
  placed_tables families points e = ap (in_order (λ (table : Listed). table.file.number)) (placed_listed families points e)

  length_made : {A B : Type 0} (f : A → B) (xs : List A) → length (map f xs ++ []) ≡ length xs
  length_made f [] = refl
  length_made f (x ∷ xs) = ap suc (length_made f xs)

  -- the point of a family stands alone
  abbrev Alone : List Point → Point → Type 0
  Alone all point = filter (λ (other : Point). other.family == point.family) all ≡ point ∷ []

  none_of : (n : ℕ) (points : List Point) → AllByRecursion (λ (point : Point). n < point.family) points → filter (λ (other : Point). other.family == n) points ≡ []
  none_of n [] all = refl
  none_of n (point ∷ points) all =
      ap (λ b. cond b (point ∷ filter (λ (other : Point). other.family == n) points) (filter (λ (other : Point). other.family == n) points)) (ne_eqb point.family n (λ same. absurd (omega (arith, same, all.0))))
      ∙ none_of n points all.1

  still_alone : (first : Point) (all points : List Point) → AllByRecursion (λ (point : Point). first.family < point.family) points → AllByRecursion (Alone all) points → AllByRecursion (Alone (first ∷ all)) points
  still_alone first all [] above alone = tt
  still_alone first all (point ∷ points) above alone = (
    ap (λ b. cond b (first ∷ filter (λ (other : Point). other.family == point.family) all) (filter (λ (other : Point). other.family == point.family) all)) (ne_eqb first.family point.family (λ same. absurd (omega (arith, same, above.0))))
        ∙ alone.0,
    still_alone first all points above.1 alone.1,
  )

  all_alone : (points : List Point) → Rises (λ (point : Point). point.family) points → AllByRecursion (Alone points) points
  all_alone [] up = tt
  all_alone (point ∷ points) up = (
    ap (λ b. cond b (point ∷ filter (λ (other : Point). other.family == point.family) points) (filter (λ (other : Point). other.family == point.family) points)) (eq-eqb point.family point.family refl)
        ∙ ap (λ l. point ∷ l) (none_of point.family points up.0),
    still_alone point points points up.0 (all_alone points up.1),
  )

  lines_of : (all : List Point) (families : List FamilyState) (points : List Point) → AllByRecursion (Alone all) points → Pairs families points → map family_line (placed units families points) ≡ map (best_line units all) families
  lines_of all [] points alone e = refl
  lines_of all (live ∷ families) [] alone e = absurd cc
  lines_of all (live ∷ families) (point ∷ points) alone e =
      let head : point.family ≡ live.id = cc in let tail : Pairs families points = cc in
      let files : length (files_at units point.family point.at) ≡ files_of units all live.id =
      sym (
      ap (files_of units all) (sym head)
      ∙ ap (λ points. length (flat_map (point_tables units) points)) alone.0
      ∙ length_made (table_of point.family) (files_at units point.family point.at)
      ) in
      λ i. record { id = live.id; name = live.name; log = live.log; files = files i } ∷ lines_of all families points alone.1 tail i

  pub placed_lines : (families : List FamilyState) (points : List Point) → Pairs families points → Rises (λ (live : FamilyState). live.id) families → map family_line (placed units families points) ≡ map (best_line units points) families
  placed_lines families points e up =
      lines_of points families points (all_alone points (rises_alike (λ (live : FamilyState). live.id) (λ (point : Point). point.family) families points (sym e) up)) e

  -- the bounds of the files at a point
  files_whole : AreSoundUnits units → (id at : ℕ) → AllByRecursion HasWholeBounds (files_at units id at)
  files_whole sound id at = by (version_at units at) refl
    where
      by : (told : Result Version ManifestFault) → version_at units at ≡ told
          → AllByRecursion HasWholeBounds (flat_map (λ (live : FamilyState). live.files) (filter (has_id id) (elim told as (λ told. List FamilyState) [ Ok version ↦ version.families | Err why ↦ [] ])))
      by (Ok version) is =
          each_flat HasWholeBounds (λ (live : FamilyState). live.files) (filter (has_id id) version.families)
          (each_kept (λ (live : FamilyState). AllByRecursion HasWholeBounds live.files) (has_id id) version.families (at_whole units sound at version is).1)
      by (Err why) is = tt

  pub placed_whole : AreSoundUnits units → (families : List FamilyState) (points : List Point) → HaveWholeBounds (placed units families points)
  placed_whole sound [] points = tt
  placed_whole sound (live ∷ families) [] = tt
  placed_whole sound (live ∷ families) (point ∷ points) = (files_whole sound point.family point.at, placed_whole sound families points)

-- units that are handed in
edit_meant : (bytes : List ℕ) (told : Result (List Field) EditFault) → edit_fields bytes ≡ told → AllByRecursion IsSound (fields_or_none told)
edit_meant bytes (Ok edit) is = edit_sound bytes edit is
edit_meant bytes (Err why) is = tt

edits_meant : (pieces : List Piece) → AllByRecursion (AllByRecursion IsSound) (edits_of pieces)
edits_meant [] = tt
edits_meant (piece ∷ pieces) = (edit_meant (piece_bytes piece) (edit_fields (piece_bytes piece)) refl, edits_meant pieces)

pub units_meant : (units : List LentUnit) → AreSoundUnits (map meaning units)
units_meant [] = tt
units_meant (unit ∷ units) = (edits_meant unit.pieces, units_meant units)

-- the files that units add have whole bounds
metas_whole : (edit : List Field) → AllByRecursion IsSound edit → AllByRecursion HasWholeBounds (files_in edit)
metas_whole edit sound = each_meta (filter_map added_in edit) (found_sound added_in HasWholeKeys added_in_sound edit sound)
  where
    each_meta : (news : _) → AllByRecursion HasWholeKeys news → AllByRecursion HasWholeBounds (map file_meta news)
    each_meta [] all = tt
    each_meta (new ∷ news) all = (all.0, each_meta news all.1)

each_metas : (edits : List (List Field)) → AllByRecursion (AllByRecursion IsSound) edits → AllByRecursion (λ edit. AllByRecursion HasWholeBounds (files_in edit)) edits
each_metas [] all = tt
each_metas (edit ∷ edits) all = (metas_whole edit all.0, each_metas edits all.1)

each_both : {A : Type 0} (P : A → Type 0) (xs ys : List A) → AllByRecursion P xs → AllByRecursion P ys → AllByRecursion P (xs ++ ys)
each_both P [] ys a b = b
each_both P (x ∷ xs) ys a b = (a.0, each_both P xs ys a.1 b)

listed_sound : (units : List ManifestUnit) → AreSoundUnits units → AllByRecursion HasWholeBounds (listed units)
listed_sound [] all = tt
listed_sound (unit ∷ units) all =
    subst (AllByRecursion HasWholeBounds) (sym (listed-cons unit units))
    (each_both HasWholeBounds (flat_map files_in unit.edits) (listed units) (each_flat HasWholeBounds files_in unit.edits (each_metas unit.edits all.0)) (listed_sound units all.1))

pub listed_whole_bounds : (units : List LentUnit) → AllByRecursion HasWholeBounds (listed (map meaning units))
listed_whole_bounds units = listed_sound (map meaning units) (units_meant units)

-- the tables of families are loaded, or refused
abbrev pub Loaded : Option Directory → List FamilyState → State → Type 0
Loaded o each state = IfSome o (λ d. (tables : List TableFile) × (collected (table_file (get d)) (listed_tables each) ≡ Ok tables) × (state ≡ state_with (map family_line each) tables []))

abbrev pub Refused : Option Directory → List FamilyState → OpenErr → Type 0
Refused o each why = IfSome o (λ d. RefusesAs (collected (table_file (get d)) (listed_tables each)) why)

-- What is opened at points, where the tables of families at their points are loaded.
module _ (number : ℕ) (units : List ManifestUnit) (version : Version) (points : List Point) (whole : version_at units (length units) ≡ Ok version)
    (pairs : map (λ (point : Point). point.family) points ≡ map (λ (live : FamilyState). live.id) (last_families units)) (order : IsInOrder version) (each : List FamilyState) (each_is : each ≡ placed units version.families points) where
  families_are : last_families units ≡ version.families
  families_are = ap (λ (told : Result Version ManifestFault). elim told as (λ told. List FamilyState) [ Ok version ↦ version.families | Err why ↦ [] ]) whole

  pub pairs_with : map (λ (point : Point). point.family) points ≡ map (λ (live : FamilyState). live.id) version.families
  pairs_with = pairs ∙ ap (map (λ (live : FamilyState). live.id)) families_are

  pub each_rises : Rises (λ (live : FamilyState). live.id) each
  each_rises = rises_alike (λ (live : FamilyState). live.id) (λ (live : FamilyState). live.id) version.families each (placed_ids units version.families points pairs_with ∙ ap (map (λ (live : FamilyState). live.id)) (sym each_is)) order.ids

  tables_are : listed_tables each ≡ tables_at units points
  tables_are = ap listed_tables each_is ∙ placed_tables units version.families points pairs_with

  lines_are : map family_line each ≡ map (best_line units points) (last_families units)
  lines_are = ap (map family_line) each_is ∙ placed_lines units version.families points pairs_with order.ids ∙ ap (map (best_line units points)) (sym families_are)

  abbrev best_at : State → Best
  best_at state = record { state = state; manifest = number; units = length units; points = points }

  pub points_loaded : (o : Option Directory) (state : State) → Loaded o each state
      → (count : ℕ) → length units ≡ count → IfSome o (λ d. best_with (get d) number units points ≡ Ok (record { state = state; manifest = number; units = count; points = points }))
  unfolding best_with
  points_loaded None state loaded count is = tt
  points_loaded (Some d) state loaded count is =
      let (tables, are, state_is) = loaded in
      ap (λ (told : Result (List TableFile) OpenErr). told >>= λ tables. Ok (best_at (state_with (map (best_line units points) (last_families units)) tables []))) (ap (collected (table_file (get d))) (sym tables_are) ∙ are)
      ∙ ap (λ state. Ok (best_at state)) (ap (λ lines. state_with lines tables []) (sym lines_are) ∙ sym state_is)
      ∙ (λ i. Ok (record { state = state; manifest = number; units = is i; points = points }))

  pub points_refused : (o : Option Directory) (why : OpenErr) → Refused o each why → IfSome o (λ d. RefusesAs (best_with (get d) number units points) why)
  unfolding best_with
  points_refused None why refuses = tt
  points_refused (Some d) why refuses =
      refuses_on (collected (table_file (get d)) (listed_tables each)) (best_with (get d) number units points) why
      (λ why e. ap (λ (told : Result (List TableFile) OpenErr). told >>= λ tables. Ok (best_at (state_with (map (best_line units points) (last_families units)) tables []))) (ap (collected (table_file (get d))) (sym tables_are) ∙ e)) refuses
