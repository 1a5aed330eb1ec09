-- A directory descends from itself, and descent goes through.
use Rattle.std.proofs.Common.{◌≡◌, ◌⊎◌, inl, inr, ℕ, zero, suc, Bool, false, not, List, [], ◌∷◌, map, refl, sym, ap, subst, ◌∙◌}
use Rattle.std.specs.Prelude.{Option, Some, None, Result, filter, IsTrue}
use Rattle.std.specs.FinMap.{get, values}
use Rattle.std.proofs.lemmas.Bool.{false≢true}
use Rattle.rk_bytes.specs.declared.model.name.FileName.TheVariants.{Lost}
use Rattle.rk_bytes.specs.declared.model.open.OpenErr.{OpenErr}
use Rattle.std.specs.List.{AllByRecursion}
use Rattle.rk_bytes.specs.Model.DiskImages.{Directory, Names, NameChange, DiskState, after_changes, IsImage, IsAtRest, is_synced, unsynced, resting}
use Rattle.rk_laws.proofs.DiskLaw.{resting-IsAtRest, image_of_resting}
use Rattle.rk_bytes.specs.Model.TableStatus.{is_range_deletion}
use Rattle.rk_bytes.specs.Model.FileNames.{name_of, lost_name}
use Rattle.rk_bytes.specs.Model.KeyView.{State, tomb_of, is_covered}
use Rattle.rk_bytes.specs.Model.Records.{RecordMap}
use Rattle.rk_bytes.specs.Model.Salvage.{refuses_file, salvage_families, salvage_records, IsSalvage}
use Rattle.rk_bytes.specs.Model.Descent.{state_in, GivesSalvage, may_go, may_move, OpensAlike, BestAlike, HasMoved, IsStillThere, Descends, is_temporary, IsReady}

pub Descends-itself : (d : Directory) → refuses_file d ≡ false → Descends d d
Descends-itself d readable = record {
  readable = readable;
  families = refl;
  records = refl;
  remainder_of = λ r there. there;
  opens = inl (λ mode. refl);
  best = inl refl;
  files = λ name bytes there stays. inl there;
}

-- a salvage of a descendant is one of the directory
IsSalvage-of : {state : State} (x d : Directory) → salvage_families x ≡ salvage_families d → salvage_records x ≡ salvage_records d → IsSalvage state x → IsSalvage state d
IsSalvage-of {state} x d families records is = record {
  families = is.families ∙ families;
  records = is.records ∙ records;
  tombs = λ r. is.tombs r ∙ ap (λ (records : RecordMap). is_covered (map (tomb_of None) (filter (λ r. is_range_deletion r.kind) (values records))) r) records;
}

GivesSalvage-of : {answer : Result State OpenErr} (x d : Directory) → Descends x d → GivesSalvage answer x → GivesSalvage answer d
GivesSalvage-of x d descends gives = (gives.0, gives.1, IsSalvage-of x d descends.families descends.records gives.2)

GivesSalvage-as : {answer other : Result State OpenErr} (d : Directory) → answer ≡ other → GivesSalvage other d → GivesSalvage answer d
GivesSalvage-as d same gives = (gives.0, same ∙ gives.1, gives.2)

opens-through : (d x y : Directory) → Descends x d → OpensAlike y x → OpensAlike x d → OpensAlike y d
opens-through d x y descends (inl same) (inl first) = inl (λ mode. same mode ∙ first mode)
opens-through d x y descends (inl same) (inr gives) = inr (λ mode. GivesSalvage-as d (same mode) (gives mode))
opens-through d x y descends (inr gives) _ = inr (λ mode. GivesSalvage-of x d descends (gives mode))

best-through : (d x y : Directory) → Descends x d → BestAlike y x → BestAlike x d → BestAlike y d
best-through d x y descends (inl same) (inl first) = inl (same ∙ first)
best-through d x y descends (inl same) (inr gives) = inr (GivesSalvage-as d (ap (state_in (λ best. best.state)) same) gives)
best-through d x y descends (inr gives) _ = inr (GivesSalvage-of x d descends gives)

-- names below `lost/`
name_of-lost_name : (name : List ℕ) (k : ℕ) → name_of (lost_name name k) ≡ Lost
unfolding name_of
name_of-lost_name name zero = refl
name_of-lost_name name (suc k) = refl

lost_stays : (name : List ℕ) (k : ℕ) → may_go (name_of (lost_name name k)) ≡ false
lost_stays name k = ap may_go (name_of-lost_name name k)

lost_moves_not : {A : Type 0} (name : List ℕ) (k : ℕ) → IsTrue (may_move (name_of (lost_name name k))) → A
lost_moves_not name k may = absurd (false≢true (rw (name_of-lost_name name k) at may))

-- what x keeps of a file of d at a name below `lost/` is there under that name
kept_lost : (d x : Directory) (name : List ℕ) (k : ℕ) (bytes : List ℕ) → Descends x d → get d (lost_name name k) ≡ Some bytes → get x (lost_name name k) ≡ Some bytes
kept_lost d x name k bytes descends there = by (descends.files (lost_name name k) bytes there (lost_stays name k))
  where
    by : (get x (lost_name name k) ≡ Some bytes) ⊎ HasMoved x d (lost_name name k) bytes → get x (lost_name name k) ≡ Some bytes
    by (inl kept) = kept
    by (inr moved) = lost_moves_not name k moved.may

free_before : (d x : Directory) (name : List ℕ) (k : ℕ) → Descends x d → get x (lost_name name k) ≡ None → get d (lost_name name k) ≡ None
free_before d x name k descends free = by (get d (lost_name name k)) refl
  where
    by : (o : Option (List ℕ)) → get d (lost_name name k) ≡ o → get d (lost_name name k) ≡ None
    by None is = is
    by (Some bytes) is = let kept = kept_lost d x name k bytes descends is in cc

files-through : (d x y : Directory) → Descends x d → Descends y x → (name bytes : List ℕ) → get d name ≡ Some bytes → may_go (name_of name) ≡ false → IsStillThere y d name bytes
files-through d x y descends later name bytes there stays = by (descends.files name bytes there stays)
  where
    kept : IsStillThere y x name bytes → IsStillThere y d name bytes
    kept (inl is) = inl is
    kept (inr moved) = inr (record { may = moved.may; tried = moved.tried; free = free_before d x name moved.tried descends moved.free; is = moved.is })

    by : IsStillThere x d name bytes → IsStillThere y d name bytes
    by (inl is) = kept (later.files name bytes is stays)
    by (inr moved) = inr (record { may = moved.may; tried = moved.tried; free = moved.free; is = kept_lost x y name moved.tried bytes later moved.is })

pub Descends-through : (d x y : Directory) → Descends x d → Descends y x → Descends y d
Descends-through d x y descends later = record {
  readable = later.readable;
  families = later.families ∙ descends.families;
  records = later.records ∙ descends.records;
  remainder_of = λ r there. descends.remainder_of r (later.remainder_of r there);
  opens = opens-through d x y descends later.opens descends.opens;
  best = best-through d x y descends later.best descends.best;
  files = files-through d x y descends later;
}

-- no name of a disk at rest leads to an unsynced file
none_unsynced : (test : List ℕ × ℕ → Bool) (names : Names) → AllByRecursion (λ entry. IsTrue (test entry)) names → filter (λ entry. not (test entry)) names ≡ []
none_unsynced test [] all = refl
none_unsynced test (entry ∷ names) all = rw all.0 (none_unsynced test names all.1)

unsynced-at_rest : (disk : DiskState) → IsAtRest disk → unsynced disk ≡ []
unfolding unsynced
unsynced-at_rest disk rest =
    ap (λ (changes : List NameChange). map (λ entry. entry.0) (filter (λ entry. not (is_synced disk entry.1)) (after_changes changes disk.stable))) rest.settled
    ∙ ap (map (λ entry. entry.0)) (none_unsynced (λ entry. is_synced disk entry.1) disk.stable rest.synced)

pub IsReady-resting : (disk : DiskState) (d image : Directory) → IsReady disk d → IsImage disk image → IsReady (resting image) d
IsReady-resting disk d image ready stop = record {
  images = λ other left. subst (λ x. Descends x d) (sym ((image_of_resting image other).0 left)) (ready.images image stop);
  unsynced_names = subst (AllByRecursion (λ name. IsTrue (is_temporary (name_of name)))) (sym (unsynced-at_rest (resting image) (resting-IsAtRest image))) tt;
}
