-- How far a walk is, from one edit and one unit to the next.
use Rattle.std.proofs.Common.{◌≡◌, ℕ, suc, ◌+◌, ◌<◌, ◌≤◌, Bool, true, false, not, List, [], ◌∷◌, ◌++◌, length, map, filter, take, drop, get_or, Option, Some, None, Result, Ok, Err, refl, sym, ap, subst, ◌∙◌, inl, inr, append_assoc, arith}
use Rattle.std.specs.Prelude.{◌==◌, ◌⊎◌, flat_map, filter_map, zip}
use Rattle.std.specs.List.{list_any, list_all}
use Rattle.std.proofs.lemmas.Bool.{cases_lt, eqb-true}
use Rattle.std.proofs.lemmas.List.{append_cancel_right, take-append-drop}
use Rattle.std.proofs.lemmas.Grind.{flat_map-append}
use Rattle.rk_bytes.specs.declared.model.manifest.ManifestFault.{ManifestFault}
use Rattle.rk_bytes.specs.declared.model.manifest.FileMeta.{FileMeta}
use Rattle.rk_bytes.specs.declared.model.manifest.FamilyState.{FamilyState}
use Rattle.rk_bytes.specs.declared.model.manifest.Version.{Version}
use Rattle.rk_bytes.specs.Model.VersionEdit.{Field, added_in, drops_family, edit_fields}
use Rattle.rk_log.specs.Items.{piece_bytes}
use Rattle.rk_log.specs.declared.item.Piece.{Piece}
use Rattle.rk_edit.specs.Read.{fields_or_none}
use Rattle.rk_version.specs.Units.{edits_of}
use Rattle.rk_points.proofs.ListLemmas.{left_at}
use Rattle.rk_bytes.specs.Model.Manifest.{ManifestUnit, edit_family, has_id, steps_in_order, edit_step, version_at}
use Rattle.rk_bytes.specs.Model.BestEfforts.{families_at, added_by, added_files, answers_pass, answer_for}
use Rattle.rk_bytes.proofs.Callers.Readings.{both_steps}
use Rattle.rk_points.specs.declared.course.Turn.{Turn}
use Rattle.rk_points.specs.declared.walk.Walk.{Walk}
use Rattle.rk_points.specs.Courses.{turn_at, is_live_in, is_whole_in}
use Rattle.rk_points.specs.Tallies.{Asked, lives, tally_of, turns_of, counted, answers_after, WalksEdit}
use Rattle.rk_points.specs.Walks.{Tallied, Kept, Reached}
use Rattle.rk_points.proofs.MarkedFiles.{One}
use Rattle.rk_points.proofs.MarkedEdits.{Adds, Mid, After, edit_marked}
use Rattle.rk_points.proofs.TurnLemmas.{turn_now, settled, marked_whole}

module _ (units : List ManifestUnit) (answers : List Bool) (enough : length answers ≡ length (added_files units)) where
  -- the walk at an edit is within it
  kept_mid : (at : ℕ) (families : List FamilyState) (coming : Adds) (walk : Walk) (own : ℕ) → (k : Kept units answers at families coming walk)
      → Mid units answers enough own (λ id. (tally_of id walk.tallies).now.live) (λ id. (tally_of id walk.tallies).broken) families k.asked (tally_of own walk.tallies).broken
  kept_mid at families coming walk own k = record {
    ids = k.ids;
    live = λ id apart. (k.each id).live;
    others = λ id apart. (k.each id).marks;
    marks = (k.each own).marks;
  }

  -- an edit is walked over
  kept_edit : (at : ℕ) (edit : List Field) (version next : Version) (coming : Adds) (old new : Walk) → edit_step edit version ≡ Ok next → WalksEdit at edit old new
      → Kept units answers at version.families (added_by edit ++ coming) old → Kept units answers at next.families coming new
  kept_edit at edit version next coming old new e walks k = by (edit_marked units answers enough own live_of broken_of k.asked old.left.now coming (tally_of own old.tallies).broken edit version next refl e (record { files = k.files; answers_left = k.left }) (kept_mid at version.families (added_by edit ++ coming) old own k))
    where
      own : ℕ
      own = edit_family edit

      live_of : ℕ → Bool
      live_of id = (tally_of id old.tallies).now.live

      broken_of : ℕ → List ℕ
      broken_of id = (tally_of id old.tallies).broken

      drops : Bool
      drops = list_any drops_family edit

      files : List ℕ
      files = (counted (list_any drops_family edit) edit old.left.now (tally_of (edit_family edit) old.tallies)).broken

      by : After units answers enough (edit_family edit) (λ id. (tally_of id old.tallies).now.live) (λ id. (tally_of id old.tallies).broken) next.families (answers_after (filter_map added_in edit) old.left.now) coming
          (counted (list_any drops_family edit) edit old.left.now (tally_of (edit_family edit) old.tallies)).broken (not (list_any drops_family edit))
          → Kept units answers at next.families coming new
      by after = record {
        asked = after.asked;
        ids = after.mid.ids;
        files = after.supplied.files;
        left = ap (λ left. map (λ (one : One). one.1) after.asked ++ left) walks.answers ∙ after.supplied.answers_left;
        each = λ id. one id (id == edit_family edit) refl;
      }
        where
          one : (id : ℕ) (told : Bool) → (id == edit_family edit) ≡ told → Tallied units answers at next.families after.asked id (tally_of id new.tallies)
          one id false apart =
              let was = k.each id in
              subst (Tallied units answers at next.families after.asked id) (sym (walks.others id apart)) (record {
                rising = was.rising;
                within = was.within;
                was_live = was.was_live;
                was_whole = was.was_whole;
                live = after.mid.live id apart;
                whole = was.whole;
                marks = after.mid.others id apart;
              })
          one id true same =
              subst (λ id. Tallied units answers at next.families after.asked id (tally_of id new.tallies)) (sym (eqb-true id (edit_family edit) same)) own_tally
            where
              own_tally : Tallied units answers at next.families after.asked (edit_family edit) (tally_of (edit_family edit) new.tallies)
              own_tally =
                  let was = k.each (edit_family edit) in
                  let now = settled at (not (list_any drops_family edit)) (counted (list_any drops_family edit) edit old.left.now (tally_of (edit_family edit) old.tallies)) (tally_of (edit_family edit) new.tallies) was.rising was.within walks.own in
                  record {
                    rising = now.rising;
                    within = now.within;
                    was_live = λ point less. ap (λ (o : Option Turn). elim o [ Some turn ↦ turn.live | None ↦ false ]) (now.before point less) ∙ was.was_live point less;
                    was_whole = λ point less. ap (λ (o : Option Turn). elim o [ Some turn ↦ turn.whole | None ↦ true ]) (now.before point less) ∙ was.was_whole point less;
                    live = now.is_live ∙ sym after.own_live;
                    whole = now.whole;
                    marks = λ number. ap (list_any (λ other. other == number)) now.broken ∙ after.mid.marks number;
                  }

  -- the edits of a unit
  pub reached_edit : (at : ℕ) (last : Version) (coming : Adds) (edit : List Field) (edits : List (List Field)) (old new : Walk) → WalksEdit at edit old new
      → Reached units answers at last coming (edit ∷ edits) old → Reached units answers at last coming edits new
  unfolding steps_in_order
  reached_edit at last coming edit edits old new walks r =
      both_steps (edit_step edit r.version) (λ middle. steps_in_order edit_step edits middle) last r.leads λ middle middle_is e1.
      record {
        version = middle;
        leads = e1;
        kept = kept_edit at edit r.version middle (flat_map added_by edits ++ coming) old new middle_is walks
            (subst (λ coming. Kept units answers at r.version.families coming old) (append_assoc (added_by edit) (flat_map added_by edits) coming) r.kept);
      }

  pub reaches_edit : (at : ℕ) (pieces : List Piece) (i : ℕ) (piece : Piece) (edit : List Field) (last : Version) (coming : Adds) (old new : Walk) → i < length pieces → piece ≡ get_or pieces i piece → edit_fields (piece_bytes piece) ≡ Ok edit
      → WalksEdit at edit old new → Reached units answers at last coming (edits_of (drop i pieces)) old → Reached units answers at last coming (edits_of (drop (i + 1) pieces)) new
  reaches_edit at pieces i piece edit last coming old new in' is reads walks r =
      reached_edit at last coming edit (edits_of (drop (i + 1) pieces)) old new walks (subst (λ edits. Reached units answers at last coming edits old) edits_left r)
    where
      edits_left : edits_of (drop i pieces) ≡ edit ∷ edits_of (drop (i + 1) pieces)
      edits_left = ap edits_of (left_at pieces i piece in' is) ∙ ap (λ r. fields_or_none r ∷ edits_of (drop (i + 1) pieces)) reads

  pub reached_end : (at : ℕ) (last : Version) (coming : Adds) (walk : Walk) → Reached units answers at last coming [] walk → Kept units answers at last.families coming walk
  unfolding steps_in_order
  reached_end at last coming walk r = let same : r.version ≡ last = let e = r.leads in cc in subst (λ (version : Version). Kept units answers at version.families coming walk) same r.kept

  -- the asked files are those of the units so far
  zip_back : (asked : Asked) (left : List Bool) → zip (map (λ one. one.0) asked) (map (λ one. one.1) asked ++ left) ≡ asked
  zip_back [] left = refl
  zip_back (one ∷ asked) left = ap (λ rest. one ∷ rest) (zip_back asked left)

  asked_so_far : (k : ℕ) (asked : Asked) (left : List Bool) → map (λ one. one.0) asked ++ added_files (drop k units) ≡ added_files units → map (λ one. one.1) asked ++ left ≡ answers → asked ≡ zip (added_files (take k units)) answers
  asked_so_far k asked left files told =
      let whole : added_files (take k units) ++ added_files (drop k units) ≡ added_files units =
      sym (flat_map-append (λ (unit : ManifestUnit). flat_map added_by unit.edits) (take k units) (drop k units)) ∙ ap added_files (take-append-drop k units) in
      let front = append_cancel_right (map (λ (one : One). one.0) asked) (added_files (take k units)) (added_files (drop k units)) (files ∙ sym whole) in
      sym (zip_back asked left) ∙ (λ i. zip (front i) (told i))

  -- what the tallies tell now is what was after so many units
  pub turned_on : (k : ℕ) (version : Version) (walk : Walk) → version_at units k ≡ Ok version → Kept units answers k version.families (added_files (drop k units)) walk
      → Kept units answers (suc k) version.families (added_files (drop k units)) walk
  turned_on k version walk told kept = record {
    asked = kept.asked;
    ids = kept.ids;
    files = kept.files;
    left = kept.left;
    each = λ id. one id (kept.each id);
  }
    where
      there : version.families ≡ families_at units k
      there = ap (λ (r : Result Version ManifestFault). elim r [ Ok version ↦ version.families | Err why ↦ [] ]) (sym told)

      one : (id : ℕ) → Tallied units answers k version.families kept.asked id (tally_of id walk.tallies) → Tallied units answers (suc k) version.families kept.asked id (tally_of id walk.tallies)
      one id was = record {
        rising = was.rising;
        within = let within = was.within in omega arith;
        was_live = λ point less. live_at point (cases_lt point k) less;
        was_whole = λ point less. whole_at point (cases_lt point k) less;
        live = was.live;
        whole = was.whole;
        marks = was.marks;
      }
        where
          turns : List Turn
          turns = turns_of (tally_of id walk.tallies)

          now : Turn
          now = (tally_of id walk.tallies).now

          here : turn_at (turns_of (tally_of id walk.tallies)) k ≡ Some (tally_of id walk.tallies).now
          here = turn_now (tally_of id walk.tallies).turns (tally_of id walk.tallies).now k was.within

          live_here : is_live_in (turns_of (tally_of id walk.tallies)) k ≡ lives id (families_at units k)
          live_here = ap (λ (o : Option Turn). elim o [ Some turn ↦ turn.live | None ↦ false ]) here ∙ was.live ∙ ap (lives id) there

          whole_here : is_whole_in (turns_of (tally_of id walk.tallies)) k ≡ answers_pass answers units id k
          whole_here =
              ap (λ (o : Option Turn). elim o [ Some turn ↦ turn.whole | None ↦ true ]) here ∙ was.whole ∙ marked_whole kept.asked version.families id (tally_of id walk.tallies).broken was.marks
              ∙ (λ i. list_all (λ (file : FileMeta). answer_for (asked_so_far k kept.asked walk.left.now kept.files kept.left i) file.number) (flat_map (λ (live : FamilyState). live.files) (filter (has_id id) (there i))))

          live_at : (point : ℕ) → (point < k) ⊎ (k ≤ point) → point < suc k → is_live_in (turns_of (tally_of id walk.tallies)) point ≡ lives id (families_at units point)
          live_at point (inl less) within = was.was_live point less
          live_at point (inr more) within =
              let same : k ≡ point = omega arith in
              subst (λ point. is_live_in (turns_of (tally_of id walk.tallies)) point ≡ lives id (families_at units point)) same live_here

          whole_at : (point : ℕ) → (point < k) ⊎ (k ≤ point) → point < suc k → is_whole_in (turns_of (tally_of id walk.tallies)) point ≡ answers_pass answers units id point
          whole_at point (inl less) within = was.was_whole point less
          whole_at point (inr more) within =
              let same : k ≡ point = omega arith in
              subst (λ point. is_whole_in (turns_of (tally_of id walk.tallies)) point ≡ answers_pass answers units id point) same whole_here
