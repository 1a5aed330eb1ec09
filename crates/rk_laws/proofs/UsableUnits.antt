-- The usable units are those before the first that is refused.
use Rattle.std.proofs.Common.{◌≡◌, ℕ, zero, suc, ◌<◌, true, false, List, [], ◌∷◌, length, take, Result, Ok, Err, refl, ◌∙◌, ap, arith}
use Rattle.std.specs.Prelude.{is_ok}
use Rattle.rk_bytes.specs.declared.model.manifest.ApplyFault.{ApplyFault}
use Rattle.rk_bytes.specs.declared.model.manifest.ManifestFault.{ManifestFault}
use Rattle.rk_bytes.specs.declared.model.manifest.Version.{Version}
use Rattle.rk_bytes.specs.Model.Numbers.{◌>>=◌}
use Rattle.rk_bytes.specs.Model.Manifest.{ManifestUnit, first_version, unit_step, in_unit, version_after, version_at}
use Rattle.rk_bytes.specs.Model.BestEfforts.{applied_to, usable}

-- the units that are applied after one that is, or is refused
abbrev applied_by : Result Version ApplyFault → ManifestUnit → List ManifestUnit → List ManifestUnit
applied_by told unit units = elim told [ Ok next ↦ unit ∷ applied_to next units | Err why ↦ [] ]

front : (version : Version) (units : List ManifestUnit) → applied_to version units ≡ take (length (applied_to version units)) units
front version [] = refl
front version (unit ∷ units) = by (unit_step unit version) (λ next. front next units)
  where
    by : (told : Result Version ApplyFault) → ((next : Version) → applied_to next units ≡ take (length (applied_to next units)) units) → applied_by told unit units ≡ take (length (applied_by told unit units)) (unit ∷ units)
    by (Ok next) later = ap (λ more. unit ∷ more) (later next)
    by (Err why) later = refl

-- the version after a unit and others
abbrev after_unit : ℕ → Result Version ApplyFault → List ManifestUnit → Result Version ManifestFault
after_unit number told units = in_unit number told >>= λ next. version_after (suc number) units next

one_more_unit : (number : ℕ) (unit : ManifestUnit) (units : List ManifestUnit) (version : Version) → version_after number (unit ∷ units) version ≡ after_unit number (unit_step unit version) units
unfolding version_after
one_more_unit number unit units version = refl

no_unit : (number : ℕ) (version : Version) → is_ok (version_after number [] version) ≡ true
unfolding version_after
no_unit number version = refl

apply : (number : ℕ) (version : Version) (units : List ManifestUnit) (point : ℕ) → is_ok (version_after number (take point (applied_to version units)) version) ≡ true
apply number version units zero = no_unit number version
apply number version [] (suc point) = no_unit number version
apply number version (unit ∷ units) (suc point) = by (unit_step unit version) refl (λ next. apply (suc number) next units point)
  where
    by : (told : Result Version ApplyFault) → unit_step unit version ≡ told → ((next : Version) → is_ok (version_after (suc number) (take point (applied_to next units)) next) ≡ true)
        → is_ok (version_after number (take (suc point) (applied_by told unit units)) version) ≡ true
    by (Ok next) e later =
        ap is_ok (one_more_unit number unit (take point (applied_to next units)) version)
        ∙ ap (λ told. is_ok (after_unit number told (take point (applied_to next units)))) e
        ∙ later next
    by (Err why) e later = no_unit number version

refused : (number : ℕ) (version : Version) (units : List ManifestUnit) → length (applied_to version units) < length units → is_ok (version_after number (take (suc (length (applied_to version units))) units) version) ≡ false
refused number version [] fewer = absurd (omega arith)
refused number version (unit ∷ units) fewer = by (unit_step unit version) refl (λ next. refused (suc number) next units) fewer
  where
    by : (told : Result Version ApplyFault) → unit_step unit version ≡ told
        → ((next : Version) → length (applied_to next units) < length units → is_ok (version_after (suc number) (take (suc (length (applied_to next units))) units) next) ≡ false) → length (applied_by told unit units) < length (unit ∷ units) → is_ok (version_after number (take (suc (length (applied_by told unit units))) (unit ∷ units)) version) ≡ false
    by (Ok next) e later fewer =
        ap is_ok (one_more_unit number unit (take (suc (length (applied_to next units))) units) version)
        ∙ ap (λ told. is_ok (after_unit number told (take (suc (length (applied_to next units))) units))) e
        ∙ later next (omega arith)
    by (Err why) e later fewer =
        ap is_ok (one_more_unit number unit (take 0 units) version)
        ∙ ap (λ told. is_ok (after_unit number told (take 0 units))) e

pub usable-front : (units : List ManifestUnit) → usable units ≡ take (length (usable units)) units
usable-front units = front first_version units

pub usable-apply : (units : List ManifestUnit) (point : ℕ) → is_ok (version_at (usable units) point) ≡ true
usable-apply units point = apply 1 first_version units point

pub usable-refused : (units : List ManifestUnit) → length (usable units) < length units → is_ok (version_at units (suc (length (usable units)))) ≡ false
usable-refused units fewer = refused 1 first_version units fewer
