-- The records of a batch that are added, one after another.
use Rattle.std.proofs.Common.{◌≡◌, ℕ, suc, ◌<◌, Bool, true, false, cond, List, [], ◌∷◌, ◌++◌, length, get_or, take, drop, filter, Option, Some, None, refl, sym, ◌∙◌, ap, subst, append_assoc, arith}
use Rattle.std.specs.Prelude.{slice_get, ◌&&◌, ◌==◌}
use Rattle.std.specs.List.{All, cons_option}
use Rattle.std.proofs.lemmas.Bool.{true≢false, lt-ltb}
use Rattle.std.proofs.lemmas.List.{append-nil, take-append-drop}
use Rattle.std.proofs.lemmas.List.Elements.{filter-append, All-nil, All-cons}
use Rattle.std.proofs.Math.Seq.{drop-cons}
use Rattle.rk_bytes.specs.declared.model.key.Record.{Record}
use Rattle.rk_bytes.specs.declared.model.manifest.FamilyState.{FamilyState}
use Rattle.rk_bytes.specs.declared.model.manifest.FileMeta.{FileMeta}
use Rattle.rk_bytes.specs.declared.model.manifest.Version.{Version}
use Rattle.rk_bytes.specs.Model.WriteBatch.{Part, change, log_bytes, noop, change_in, changes}
use Rattle.rk_bytes.specs.Model.Replay.{is_wanted, is_ahead}
use Rattle.rk_walmode.specs.Low.{IsLow}

-- a record that is wanted
pub adds_wanted : (version : Version) (log : ℕ) (old new : List Record) (part : Part) (place : ℕ) (r pushed : Record) → part ≡ change place r → pushed ≡ r → is_wanted version log r ≡ true → new ≡ old ++ pushed ∷ []
    → new ≡ old ++ filter (is_wanted version log) (changes (part ∷ []))
adds_wanted version log old new part place r pushed told same wanted pushes =
    pushes ∙ ap (λ (r : Record). old ++ r ∷ []) same ∙ ap (λ (b : Bool). old ++ cond b (r ∷ []) []) (sym wanted) ∙ ap (λ (part : Part). old ++ filter (is_wanted version log) (changes (part ∷ []))) (sym told)

-- one that isn't
pub adds_none : (version : Version) (log : ℕ) (old : List Record) (part : Part) (place : ℕ) (r : Record) → part ≡ change place r → is_wanted version log r ≡ false → old ≡ old ++ filter (is_wanted version log) (changes (part ∷ []))
adds_none version log old part place r told unwanted =
    sym (append-nil old) ∙ ap (λ (b : Bool). old ++ cond b (r ∷ []) []) (sym unwanted) ∙ ap (λ (part : Part). old ++ filter (is_wanted version log) (changes (part ∷ []))) (sym told)

-- the first that passes
pub first_passing : {A : Type 0} (p : A → Bool) (xs : List A) (i : ℕ) (x : A) → i < length xs → x ≡ get_or xs i x → filter p (take i xs) ≡ [] → p x ≡ true → slice_get (filter p xs) 0 ≡ Some x
first_passing p xs i x within is none passes =
    let parts : xs ≡ take i xs ++ (x ∷ drop (suc i) xs) = sym (take-append-drop i xs) ∙ ap (λ (rest : List _). take i xs ++ rest) (drop-cons xs i x within ∙ ap (λ (y : _). y ∷ drop (suc i) xs) (sym is)) in
    let kept : filter p xs ≡ filter p (x ∷ drop (suc i) xs) = ap (filter p) parts ∙ filter-append p (take i xs) (x ∷ drop (suc i) xs) ∙ ap (λ (front : List _). front ++ filter p (x ∷ drop (suc i) xs)) none in
    ap (λ (ys : List _). slice_get ys 0) (kept ∙ ap (λ (b : Bool). cond b (x ∷ filter p (drop (suc i) xs)) (filter p (drop (suc i) xs))) passes)

-- a part and those behind it
pub changes-cons : (part : Part) (parts : List Part) → changes (part ∷ parts) ≡ changes (part ∷ []) ++ changes parts
changes-cons part parts = by (change_in part)
  where
    by : (r : Option Record) → cons_option r (changes parts) ≡ cons_option r [] ++ changes parts
    by (Some r) = refl
    by None = refl

pub adds_more : (version : Version) (log : ℕ) (now new : List Record) (some : List Part) (part : Part) (parts : List Part) (all : List Record)
    → some ≡ part ∷ parts → now ++ filter (is_wanted version log) (changes some) ≡ all → new ≡ now ++ filter (is_wanted version log) (changes (part ∷ [])) → new ++ filter (is_wanted version log) (changes parts) ≡ all
adds_more version log now new some part parts all is before adds =
    ap (λ (rs : List Record). rs ++ filter (is_wanted version log) (changes parts)) adds
    ∙ append_assoc now (filter (is_wanted version log) (changes (part ∷ []))) (filter (is_wanted version log) (changes parts))
    ∙ ap (λ (rs : List Record). now ++ rs) (sym (ap (filter (is_wanted version log)) (changes-cons part parts) ∙ filter-append (is_wanted version log) (changes (part ∷ [])) (changes parts)))
    ∙ ap (λ (parts : List Part). now ++ filter (is_wanted version log) (changes parts)) (sym is)
    ∙ before

-- the record that a part is, if its records are low
pub low_alone : (part : Part) (place : ℕ) (r : Record) → part ≡ change place r → All IsLow (changes (part ∷ [])) → IsLow r
low_alone part place r told low = (subst (λ (part : Part). All IsLow (changes (part ∷ []))) told low) 0 r (omega arith)

low_front : (part : Part) (parts : List Part) → All IsLow (changes (part ∷ parts)) → All IsLow (changes (part ∷ []))
low_front (change place r) parts low = All-cons IsLow r [] (low 0 r (omega arith)) (All-nil IsLow)
low_front (log_bytes place bytes) parts low = All-nil IsLow
low_front (noop place) parts low = All-nil IsLow

low_rest : (part : Part) (parts : List Part) → All IsLow (changes (part ∷ parts)) → All IsLow (changes parts)
low_rest (change place r) parts low = λ k d within. low (suc k) d (omega (arith, within))
low_rest (log_bytes place bytes) parts low = low
low_rest (noop place) parts low = low

-- Of parts whose records are low, the first and the others.
pub low_parted : (some : List Part) (part : Part) (parts : List Part) → some ≡ part ∷ parts → All IsLow (changes some) → All IsLow (changes (part ∷ [])) × All IsLow (changes parts)
low_parted some part parts is low = let all = subst (λ (parts : List Part). All IsLow (changes parts)) is low in (low_front part parts all, low_rest part parts all)

-- a family that has a log number above this one and a table
pub ahead_from : (log : ℕ) (live : FamilyState) (files : List FileMeta) → files ≡ live.files → log < live.log → (length files == 0) ≡ false → is_ahead log live ≡ true
ahead_from log live files same above some =
    let known : 0 < length live.files = subst (λ (files : List FileMeta). 0 < length files) same (not_none files some) in
    (λ i. lt-ltb log live.log above i && lt-ltb 0 (length live.files) known i)
  where
    not_none : (files : List FileMeta) → (length files == 0) ≡ false → 0 < length files
    not_none [] some = absurd (true≢false some)
    not_none (file ∷ files) some = omega arith
