-- Why nothing is opened: the definition's refusal, unless the disk failed or memory ran out.
use Rattle.std.proofs.Common.{◌≡◌, Option, Some, None, Result, Ok, Err, sym, subst}
use Rattle.std.specs.Prelude.{IfSome}
use Rattle.std.specs.FinMap.{get}
use Rattle.rk_bytes.specs.declared.model.open.OpenErr.{OpenErr}
use Rattle.rk_bytes.specs.declared.model.open.OpenErr.TheVariants.{NoCurrent, BadCurrent, NoManifest, Manifest, MissingTable, SizeMismatch, DamagedTable, UnsupportedTable, OutOfBounds, MissingLog, ShortLog, Wal, NoUsableManifest, DiskFault, Memory}
use Rattle.rk_bytes.specs.Model.DiskImages.{Directory}
use Rattle.rk_bytes.specs.Model.Lines.{open_err_words}
use Rattle.rk_bytes.specs.Model.Opening.{Files}
use Rattle.rk_bytes.specs.Model.Output.{Output, refused, written_or_refused}
use Rattle.rk_open.specs.Answers.{Answers, AnswersBy, RefusesAs}
use Rattle.rk_ldb.specs.declared.refusal.Refusal.{Refusal}
use Rattle.rk_ldb.specs.declared.refusal.Refusal.TheVariants.{Open}
use Rattle.rk_ldb.specs.Refusals.{words_of, open_stop}

pub refused_as : (T : Type 0) (why : OpenErr) (refusal : Refusal) (wanted : Result T OpenErr) → Ok refusal ≡ open_stop why → RefusesAs wanted why → (wanted ≡ Err why) × (Open why ≡ refusal)
refused_as T NoCurrent refusal wanted is answers = (answers, cc)
refused_as T (BadCurrent cause) refusal wanted is answers = (answers, cc)
refused_as T (NoManifest n) refusal wanted is answers = (answers, cc)
refused_as T (Manifest cause) refusal wanted is answers = (answers, cc)
refused_as T (MissingTable n) refusal wanted is answers = (answers, cc)
refused_as T (SizeMismatch n stated actual) refusal wanted is answers = (answers, cc)
refused_as T (DamagedTable n cause place) refusal wanted is answers = (answers, cc)
refused_as T (UnsupportedTable n what) refusal wanted is answers = (answers, cc)
refused_as T (OutOfBounds n) refusal wanted is answers = (answers, cc)
refused_as T (MissingLog n) refusal wanted is answers = (answers, cc)
refused_as T (ShortLog n stated actual) refusal wanted is answers = (answers, cc)
refused_as T (Wal cause) refusal wanted is answers = (answers, cc)
refused_as T NoUsableManifest refusal wanted is answers = (answers, cc)
refused_as T DiskFault refusal wanted is answers = absurd cc
refused_as T Memory refusal wanted is answers = absurd cc

-- ---- what a command writes of what is opened

module _ {T : Type 0} (wanted : Files → Result T OpenErr) (write : T → Output) (P : Output → Type 0) where
  pub lines_of_found : (o : Option Directory) (found : T) → IfSome o (λ d. Answers (wanted (get d)) (Ok found)) → P (write found) → IfSome o (λ d. P (written_or_refused open_err_words write (wanted (get d))))
  lines_of_found None found is h = tt
  lines_of_found (Some d) found is h = subst (λ (opened : Result T OpenErr). P (written_or_refused open_err_words write opened)) (sym is) h

  pub lines_of_unopened : (o : Option Directory) (why : OpenErr) (refusal : Refusal) → IfSome o (λ d. Answers (wanted (get d)) (Err why)) → Ok refusal ≡ open_stop why → P (refused (words_of refusal))
      → IfSome o (λ d. P (written_or_refused open_err_words write (wanted (get d))))
  lines_of_unopened None why refusal is stops h = tt
  lines_of_unopened (Some d) why refusal is stops h =
      let same = refused_as T why refusal (wanted (get d)) stops is in
      subst (λ (opened : Result T OpenErr). P (written_or_refused open_err_words write opened)) (sym same.0) (subst (λ refusal. P (refused (words_of refusal))) (sym same.1) h)

-- the same of what is made of a directory, where the code's answer means it
module _ {T U : Type 0} (means : U → T) (wanted : Directory → Result T OpenErr) (write : T → Output) (P : Output → Type 0) where
  pub lines_of_opened : (o : Option Directory) (found : U) → IfSome o (λ d. AnswersBy means (wanted d) (Ok found)) → P (write (means found)) → IfSome o (λ d. P (written_or_refused open_err_words write (wanted d)))
  lines_of_opened None found is h = tt
  lines_of_opened (Some d) found is h = subst (λ (opened : Result T OpenErr). P (written_or_refused open_err_words write opened)) (sym is) h

  pub lines_of_refused : (o : Option Directory) (why : OpenErr) (refusal : Refusal) → IfSome o (λ d. AnswersBy means (wanted d) (Err why)) → Ok refusal ≡ open_stop why → P (refused (words_of refusal))
      → IfSome o (λ d. P (written_or_refused open_err_words write (wanted d)))
  lines_of_refused None why refusal is stops h = tt
  lines_of_refused (Some d) why refusal is stops h =
      let same = refused_as T why refusal (wanted d) stops is in
      subst (λ (opened : Result T OpenErr). P (written_or_refused open_err_words write opened)) (sym same.0) (subst (λ refusal. P (refused (words_of refusal))) (sym same.1) h)
