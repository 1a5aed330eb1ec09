-- What a stop leaves of a disk.
use Rattle.std.proofs.Common.{◌≡◌, ◌↔◌, ℕ, zero, suc, true, IsTrue, List, [], ◌∷◌, map, get_or, length, refl, sym, ap, subst, ◌∙◌, arith}
use Rattle.std.specs.List.{AllByRecursion, enumerate_from}
use Rattle.std.specs.FinMap.{entries, from_entries}
use Rattle.rk_bytes.specs.Model.DiskImages.{Directory, Names, NameChange, File, DiskState, synced_file, IsSublist, nothing, kept, left_out, Survive, IsImage, IsAtRest, contents, directory, names_now, after_changes, resting, folder_synced}
use Rattle.rk_bytes.proofs.Callers.DiskLemmas.{contents-resting}

-- every change is one of them, and of none there is none
whole : (changes : List NameChange) → IsSublist changes changes
whole [] = nothing
whole (change ∷ changes) = kept (whole changes)

none_of_none : (changes all : List NameChange) → all ≡ [] → IsSublist changes all → changes ≡ []
none_of_none changes all is nothing = refl
none_of_none changes all is (kept rest) = let long = ap length is in absurd (omega (arith, long))
none_of_none changes all is (left_out rest) = let long = ap length is in absurd (omega (arith, long))

own : (files : List File) → Survive files (map (λ file. file.bytes) files)
own [] = tt
own (file ∷ files) = ((λ _. refl), own files)

-- a synced file has its own bytes
same_bytes : (files : List File) (bytes : List (List ℕ)) (number : ℕ) → Survive files bytes → IsTrue (get_or (map (λ file. file.synced) files) number true)
    → get_or bytes number [] ≡ get_or (map (λ file. file.bytes) files) number []
same_bytes [] [] number survive synced = refl
same_bytes [] (after ∷ bytes) number survive synced = absurd survive
same_bytes (file ∷ files) [] number survive synced = absurd survive
same_bytes (file ∷ files) (after ∷ bytes) zero survive synced = survive.0 synced
same_bytes (file ∷ files) (after ∷ bytes) (suc number) survive synced = same_bytes files bytes number survive.1 synced

-- the entries of the directory of these names
abbrev entries_of : Names → List (List ℕ) → List (List ℕ × List ℕ)
entries_of names bytes = map (λ entry. (entry.0, get_or bytes entry.1 [])) names

same_entries : (names : Names) (files : List File) (bytes : List (List ℕ)) → Survive files bytes → AllByRecursion (λ (entry : List ℕ × ℕ). IsTrue (get_or (map (λ file. file.synced) files) entry.1 true)) names
    → entries_of names bytes ≡ entries_of names (map (λ file. file.bytes) files)
same_entries [] files bytes survive synced = refl
same_entries (entry ∷ names) files bytes survive synced =
    let first = same_bytes files bytes entry.1 survive synced.0 in
    let rest = same_entries names files bytes survive synced.1 in
    λ i. (entry.0, first i) ∷ rest i

-- each file of a disk that was made at rest is synced
always_synced : (files : List (List ℕ × List ℕ)) (number : ℕ) → IsTrue (get_or (map (λ file. file.synced) (map (λ entry. synced_file entry.1) files)) number true)
always_synced [] number = refl
always_synced (e ∷ files) zero = refl
always_synced (e ∷ files) (suc number) = always_synced files number

names_synced : (all es : List (List ℕ × List ℕ)) (n : ℕ)
    → AllByRecursion (λ (entry : List ℕ × ℕ). IsTrue (get_or (map (λ file. file.synced) (map (λ e. synced_file e.1) all)) entry.1 true)) (map (λ e. (e.1.0, e.0)) (enumerate_from n es))
names_synced all [] n = tt
names_synced all (e ∷ es) n = (always_synced all n, names_synced all es _)

pub resting-IsAtRest : (files : Directory) → IsAtRest (resting files)
unfolding resting
resting-IsAtRest files = record { settled = refl; synced = names_synced (entries files) (entries files) 0 }

pub contents-IsImage : (state : DiskState) → IsImage state (contents state)
unfolding contents
contents-IsImage state = record { changes = state.pending; bytes = map (λ file. file.bytes) state.files; some = whole state.pending; survive = own state.files; is = refl }

pub image_at_rest : (state : DiskState) (image : Directory) → IsAtRest state → IsImage state image → image ≡ contents state
unfolding contents directory
image_at_rest state image rest stop =
    let none = none_of_none stop.changes state.pending rest.settled stop.some in
    stop.is
    ∙ ap (λ changes. directory (after_changes changes state.stable) stop.bytes) none
    ∙ ap from_entries (same_entries state.stable state.files stop.bytes stop.survive rest.synced)
    ∙ ap (λ changes. directory (after_changes changes state.stable) (map (λ file. file.bytes) state.files)) (sym rest.settled)

pub image_of_resting : (image other : Directory) → IsImage (resting image) other ↔ (other ≡ image)
image_of_resting image other = (
  (λ stop. image_at_rest (resting image) other (resting-IsAtRest image) stop ∙ contents-resting image),
  (λ same. subst (IsImage (resting image)) (contents-resting image ∙ sym same) (contents-IsImage (resting image))),
)

pub image_of_synced_names : (state : DiskState) (image : Directory) → IsImage (folder_synced state) image ↔ ((bytes : List (List ℕ)) × Survive state.files bytes × (image ≡ directory (names_now state) bytes))
unfolding folder_synced
image_of_synced_names state image = (
  (λ stop. (stop.bytes, stop.survive, stop.is ∙ ap (λ changes. directory (after_changes changes (names_now state)) stop.bytes) (none_of_none stop.changes [] refl stop.some))),
  (λ stop. record { changes = []; bytes = stop.0; some = nothing; survive = stop.1; is = stop.2 }),
)
