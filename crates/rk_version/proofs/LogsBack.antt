-- The tracked logs that are kept of an edit are put back.
use Rattle.std.proofs.Common.{◌≡◌, ℕ, ◌<◌, ◌≤◌, Bool, true, false, not, cond, ◌⊎◌, inl, inr, List, [], ◌∷◌, ◌++◌, filter, filter_map, Option, Some, None, refl, sym, ap, subst, ◌∙◌, arith}
use Rattle.std.specs.Prelude.{◌==◌, nat_lt, nat_le}
use Rattle.std.specs.List.{AllByRecursion}
use Rattle.std.specs.Option.{option_or}
use Rattle.std.proofs.lemmas.Bool.{lt-ltb, leb-false, eq-eqb, ne_eqb, eqb-true, or_right}
use Rattle.std.proofs.lemmas.List.Folds.{find-append}
use Rattle.rk_bytes.specs.declared.model.manifest.Tracked.{Tracked}
use Rattle.rk_bytes.specs.Model.VersionEdit.{Field, comparator, log_number, next_file, last_sequence, compact_cursor, delete_file, add_file, previous_log, least_log, family, family_add, family_drop, greatest_family, group, wal_add, wal_delete, ignored}
use Rattle.rk_bytes.specs.Model.Manifest.{track_field, tracked_after}
use Rattle.rk_version.specs.Keeping.{tracked_in, least_kept}
use Rattle.rk_version.specs.Keyed.{put_all, is_among, without_all, with_number, found_all}
use Rattle.rk_version.specs.Places.{Rises}
use Rattle.rk_version.proofs.Keyed.{Holds, own_among, other_number, found_holds, found_has, found_left, found_put, put_back, of_found, not_kept}
use Rattle.rk_version.proofs.Rising.{rises_filter}

-- the tracked logs
abbrev pub log_of : Tracked → ℕ
log_of tracked = tracked.log

-- A log that the edit doesn't track is as it was, or is forgotten, as all below some log.
abbrev Stays : List ℕ → ℕ → List Tracked → List Tracked → Type 0
Stays tracks least before after = (m : ℕ) → is_among tracks m ≡ false → (with_number log_of m after ≡ with_number log_of m before) ⊎ ((with_number log_of m after ≡ None) × (m < least))

stays_then : (tracks : List ℕ) (least : ℕ) (a b c : List Tracked) → Stays tracks least a b → Stays tracks least b c → Stays tracks least a c
stays_then tracks least a b c first second m free = elim (second m free) [
  | inl same ↦ elim (first m free) [ inl same' ↦ inl (same ∙ same') | inr gone ↦ inr (same ∙ gone.0, gone.1) ]
  | inr gone ↦ inr gone
]

stays_tracked : (tracks : List ℕ) (least log : ℕ) (synced : Option ℕ) → is_among tracks log ≡ true → (wals : List Tracked) → Stays tracks least wals (track_field wals (wal_add log synced))
stays_tracked tracks least log synced there wals m free =
    inl (found_put log_of _ m wals ∙ rw (ne_eqb log m (λ e. other_number tracks log m there free e)) refl)

stays_forgotten : (tracks : List ℕ) (least log : ℕ) → log ≤ least → (wals : List Tracked) → Stays tracks least wals (track_field wals (wal_delete log))
stays_forgotten tracks least log below wals m free = by (nat_le log m) refl
  where
    found : with_number log_of m (filter (λ tracked. nat_le log tracked.log) wals) ≡ cond (nat_le log m) (with_number log_of m wals) None
    found = found_left log_of (nat_le log) m wals

    by : (told : Bool) → nat_le log m ≡ told → (with_number log_of m (filter (λ tracked. nat_le log tracked.log) wals) ≡ with_number log_of m wals) ⊎ ((with_number log_of m (filter (λ tracked. nat_le log tracked.log) wals) ≡ None) × (m < least))
    by true is = inl (found ∙ rw is refl)
    by false is = inr (found ∙ rw is refl, omega (arith, below, leb-false log m is))

stays_same : (tracks : List ℕ) (least : ℕ) (wals : List Tracked) → Stays tracks least wals wals
stays_same tracks least wals m free = inl refl

stays_after : (tracks : List ℕ) (least : ℕ) (edit : List Field) → Holds tracks (filter_map tracked_in edit) → least_kept edit ≤ least → (wals : List Tracked) → Stays tracks least wals (tracked_after edit wals)
stays_after tracks least [] holds below wals = stays_same tracks least wals
stays_after tracks least (wal_add log synced ∷ edit) holds below wals =
    stays_then tracks least wals (track_field wals (wal_add log synced)) (tracked_after edit (track_field wals (wal_add log synced)))
    (stays_tracked tracks least log synced (holds log (own_among log (filter_map tracked_in edit))) wals)
    (stays_after tracks least edit (λ m there. holds m (or_right (m == log) (is_among (filter_map tracked_in edit) m) there)) below (track_field wals (wal_add log synced)))
stays_after tracks least (wal_delete log ∷ edit) holds below wals =
    stays_then tracks least wals (track_field wals (wal_delete log)) (tracked_after edit (track_field wals (wal_delete log)))
    (stays_forgotten tracks least log (omega (arith, below)) wals)
    (stays_after tracks least edit holds (omega (arith, below)) (track_field wals (wal_delete log)))
stays_after tracks least (comparator name ∷ edit) holds below wals = stays_after tracks least edit holds below wals
stays_after tracks least (log_number n ∷ edit) holds below wals = stays_after tracks least edit holds below wals
stays_after tracks least (next_file n ∷ edit) holds below wals = stays_after tracks least edit holds below wals
stays_after tracks least (last_sequence n ∷ edit) holds below wals = stays_after tracks least edit holds below wals
stays_after tracks least (compact_cursor level key ∷ edit) holds below wals = stays_after tracks least edit holds below wals
stays_after tracks least (delete_file level number ∷ edit) holds below wals = stays_after tracks least edit holds below wals
stays_after tracks least (add_file file ∷ edit) holds below wals = stays_after tracks least edit holds below wals
stays_after tracks least (previous_log n ∷ edit) holds below wals = stays_after tracks least edit holds below wals
stays_after tracks least (least_log n ∷ edit) holds below wals = stays_after tracks least edit holds below wals
stays_after tracks least (family id ∷ edit) holds below wals = stays_after tracks least edit holds below wals
stays_after tracks least (family_add name ∷ edit) holds below wals = stays_after tracks least edit holds below wals
stays_after tracks least (family_drop ∷ edit) holds below wals = stays_after tracks least edit holds below wals
stays_after tracks least (greatest_family id ∷ edit) holds below wals = stays_after tracks least edit holds below wals
stays_after tracks least (group left ∷ edit) holds below wals = stays_after tracks least edit holds below wals
stays_after tracks least (ignored tag value ∷ edit) holds below wals = stays_after tracks least edit holds below wals

-- each thing of a list in rising number is the one that its number finds
all_found : {A : Type 0} (number : A → ℕ) (all xs : List A) → Rises number xs → ((m : ℕ) (x : A) → with_number number m xs ≡ Some x → with_number number m all ≡ Some x) → AllByRecursion (λ k. with_number number (number k) all ≡ Some k) xs
all_found {A} number all [] rises so = tt
all_found {A} number all (x ∷ xs) rises so = (
  so (number x) x (rw (eq-eqb (number x) (number x) refl) refl),
  all_found number all xs rises.1 (λ m y found. so m y (later m y found (number x == m) refl)),
)
  where
    later : (m : ℕ) (y : A) → with_number number m xs ≡ Some y → (told : Bool) → (number x == m) ≡ told → cond told (Some x) (with_number number m xs) ≡ Some y
    later m y found true is =
        let above = found_holds (λ z. number x < number z) (λ z. number z == m) xs y rises.0 found in
        absurd (omega (arith, above, found_has number m xs y found, eqb-true (number x) m is))
    later m y found false is = found

each_of_both : {A : Type 0} (P : A → Type 0) (xs ys : List A) → AllByRecursion P xs → AllByRecursion P ys → AllByRecursion P (xs ++ ys)
each_of_both P [] ys p q = q
each_of_both P (x ∷ xs) ys p q = (p.0, each_of_both P xs ys p.1 q)

pub logs_back : (edit : List Field) (before after kept : List Tracked) (tracks : List ℕ) → Rises log_of before → Rises log_of after → tracks ≡ filter_map tracked_in edit
    → kept ≡ filter (λ tracked. nat_lt tracked.log (least_kept edit)) before ++ found_all log_of before tracks → after ≡ tracked_after edit before → put_all log_of kept (without_all log_of tracks after) ≡ before
logs_back edit before after kept tracks rises rises_after tracks_are kept_are after_is =
    ap (λ kept. put_all log_of kept (without_all log_of tracks after)) kept_are
    ∙ put_back log_of before (below ++ found_all log_of before tracks) (without_all log_of tracks after) rises (rises_filter log_of (λ tracked. not (is_among tracks tracked.log)) after rises_after)
    (each_of_both (λ k. with_number log_of (log_of k) before ≡ Some k) below (found_all log_of before tracks)
    (all_found log_of before below (rises_filter log_of (λ tracked. nat_lt tracked.log (least_kept edit)) before rises) of_below) (of_found log_of before tracks))
    left
  where
    below : List Tracked
    below = filter (λ tracked. nat_lt tracked.log (least_kept edit)) before

    found_below : (m : ℕ) → with_number log_of m below ≡ cond (nat_lt m (least_kept edit)) (with_number log_of m before) None
    found_below m = found_left log_of (λ n. nat_lt n (least_kept edit)) m before

    of_below : (m : ℕ) (x : Tracked) → with_number log_of m below ≡ Some x → with_number log_of m before ≡ Some x
    of_below m x found = by (nat_lt m (least_kept edit)) (sym (found_below m) ∙ found)
      where
        by : (told : Bool) → cond told (with_number log_of m before) None ≡ Some x → with_number log_of m before ≡ Some x
        by true e = e
        by false e = absurd cc

    stays : Stays tracks (least_kept edit) before after
    stays = subst (λ after. Stays tracks (least_kept edit) before after) (sym after_is)
        (subst (λ tracks. Stays tracks (least_kept edit) before (tracked_after edit before)) (sym tracks_are) (stays_after (filter_map tracked_in edit) (least_kept edit) edit (λ n there. there) (omega arith) before))

    first_none : (a b : Option Tracked) → option_or a b ≡ None → (a ≡ None) × (b ≡ None)
    first_none None b e = (refl, e)
    first_none (Some x) b e = absurd cc

    left : (m : ℕ) → with_number log_of m (below ++ found_all log_of before tracks) ≡ None → with_number log_of m (without_all log_of tracks after) ≡ with_number log_of m before
    left m none = found_left log_of (λ n. not (is_among tracks n)) m after ∙ by (is_among tracks m) refl
      where
        parts : (with_number log_of m below ≡ None) × (with_number log_of m (found_all log_of before tracks) ≡ None)
        parts = first_none (with_number log_of m below) (with_number log_of m (found_all log_of before tracks)) (sym (find-append (λ x. log_of x == m) below (found_all log_of before tracks)) ∙ none)

        by : (told : Bool) → is_among tracks m ≡ told → cond (not told) (with_number log_of m after) None ≡ with_number log_of m before
        by true is = sym (not_kept log_of before tracks m is parts.1)
        by false is = elim (stays m is) [
          | inl same ↦ same
          | inr gone ↦ gone.0 ∙ sym (sym (found_below m ∙ rw (lt-ltb m (least_kept edit) gone.1) refl) ∙ parts.0)
        ]
