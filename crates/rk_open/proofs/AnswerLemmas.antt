-- What an answer of opening says of what is made of it.
use Rattle.std.proofs.Common.{ℕ, List, Option, Some, None, Result, Ok, Err, sym, ap, subst}
use Rattle.std.specs.Prelude.{IfSome}
use Rattle.std.specs.FinMap.{get}
use Rattle.rk_bytes.specs.declared.model.open.OpenErr.{OpenErr}
use Rattle.rk_bytes.specs.declared.model.open.OpenErr.TheVariants.{NoCurrent, BadCurrent, NoManifest, Manifest, MissingTable, SizeMismatch, DamagedTable, UnsupportedTable, OutOfBounds, MissingLog, ShortLog, Wal, NoUsableManifest, DiskFault, Memory}
use Rattle.rk_bytes.specs.Model.Numbers.{◌>>=◌}
use Rattle.rk_bytes.specs.Model.DiskImages.{Directory}
use Rattle.rk_open.specs.Answers.{Answers, RefusesAs}

module _ {T U : Type 0} where
  -- a refusal is that of all that goes on from what is refused
  pub Answers-refused : (why : OpenErr) (wanted : Result T OpenErr) (on : T → Result U OpenErr) → RefusesAs wanted why → RefusesAs (wanted >>= on) why
  Answers-refused NoCurrent wanted on is = ap (λ (answer : Result T OpenErr). answer >>= on) is
  Answers-refused (BadCurrent cause) wanted on is = ap (λ (answer : Result T OpenErr). answer >>= on) is
  Answers-refused (NoManifest n) wanted on is = ap (λ (answer : Result T OpenErr). answer >>= on) is
  Answers-refused (Manifest cause) wanted on is = ap (λ (answer : Result T OpenErr). answer >>= on) is
  Answers-refused (MissingTable n) wanted on is = ap (λ (answer : Result T OpenErr). answer >>= on) is
  Answers-refused (SizeMismatch n stated actual) wanted on is = ap (λ (answer : Result T OpenErr). answer >>= on) is
  Answers-refused (DamagedTable n cause place) wanted on is = ap (λ (answer : Result T OpenErr). answer >>= on) is
  Answers-refused (UnsupportedTable n what) wanted on is = ap (λ (answer : Result T OpenErr). answer >>= on) is
  Answers-refused (OutOfBounds n) wanted on is = ap (λ (answer : Result T OpenErr). answer >>= on) is
  Answers-refused (MissingLog n) wanted on is = ap (λ (answer : Result T OpenErr). answer >>= on) is
  Answers-refused (ShortLog n stated actual) wanted on is = ap (λ (answer : Result T OpenErr). answer >>= on) is
  Answers-refused (Wal cause) wanted on is = ap (λ (answer : Result T OpenErr). answer >>= on) is
  Answers-refused NoUsableManifest wanted on is = ap (λ (answer : Result T OpenErr). answer >>= on) is
  Answers-refused DiskFault wanted on is = tt
  Answers-refused Memory wanted on is = tt

  -- the same over a directory
  pub refused_in : (o : Option Directory) (why : OpenErr) (wanted : (List ℕ → Option (List ℕ)) → Result T OpenErr) (on : (List ℕ → Option (List ℕ)) → T → Result U OpenErr)
      → IfSome o (λ d. Answers (wanted (get d)) (Err why)) → IfSome o (λ d. Answers (wanted (get d) >>= on (get d)) (Err why))
  refused_in None why wanted on is = tt
  refused_in (Some d) why wanted on is = Answers-refused why (wanted (get d)) (on (get d)) is

  -- what goes on from what was found
  pub found_in : (o : Option Directory) (found : T) (wanted : (List ℕ → Option (List ℕ)) → Result T OpenErr) (on : (List ℕ → Option (List ℕ)) → T → Result U OpenErr) (result : Result U OpenErr)
      → IfSome o (λ d. Answers (wanted (get d)) (Ok found)) → IfSome o (λ d. Answers (on (get d) found) result) → IfSome o (λ d. Answers (wanted (get d) >>= on (get d)) result)
  found_in None found wanted on result is then = tt
  found_in (Some d) found wanted on result is then = subst (λ (answer : Result T OpenErr). Answers (answer >>= on (get d)) result) (sym is) then
