-- What the answers of opening say.
use Rattle.std.specs.Prelude.{◌≡◌, Bool, true, false, Result, Ok, Err, MatchResult, IsOk}
use Rattle.rk_bytes.specs.declared.model.open.OpenErr.{OpenErr}
use Rattle.rk_bytes.specs.declared.model.open.OpenErr.TheVariants.{DiskFault, Memory}
use Rattle.rk_disk.specs.declared.disk.DiskErr.{DiskErr}
use Rattle.rk_disk.specs.declared.disk.DiskErr.TheVariants as disk

-- the fault of a disk's call
abbrev pub open_fault : DiskErr → OpenErr
open_fault disk.Failed = DiskFault
open_fault disk.Memory = Memory

-- the disk failed
abbrev pub open_failed : {T : Type 0} → Result T OpenErr → Bool
open_failed (Err DiskFault) = true
open_failed _ = false

-- the error says nothing of the directory
abbrev pub IsCause : OpenErr → Type 0
IsCause DiskFault = Unit {0}
IsCause Memory = Unit {0}
IsCause _ = ⊥

-- The refusal is this one, unless the disk failed or memory ran out.
abbrev pub RefusesAs : {T : Type 0} → Result T OpenErr → OpenErr → Type 0
RefusesAs wanted DiskFault = Unit {0}
RefusesAs wanted Memory = Unit {0}
RefusesAs wanted why = wanted ≡ Err why

-- The answer is this one, unless the disk failed or memory ran out.
abbrev pub Answers : {T : Type 0} → Result T OpenErr → Result T OpenErr → Type 0
Answers wanted result = MatchResult result (λ one. wanted ≡ Ok one) (RefusesAs wanted)

-- The answer means this one, unless the disk failed or memory ran out.
abbrev pub AnswersBy : {T U : Type 0} → (U → T) → Result T OpenErr → Result U OpenErr → Type 0
AnswersBy means wanted result = MatchResult result (λ one. wanted ≡ Ok (means one)) (RefusesAs wanted)

-- The answer stands for this one, unless the disk failed or memory ran out.
abbrev pub AnswersAs : {T U : Type 0} → (T → U → Type 0) → Result T OpenErr → Result U OpenErr → Type 0
AnswersAs Means wanted result = MatchResult result (λ one. (means : _) × (wanted ≡ Ok means) × Means means one) (RefusesAs wanted)

-- The test passes where there is this, unless the disk failed or memory ran out.
abbrev pub Passes : {T U : Type 0} → Result T OpenErr → Result U OpenErr → Type 0
Passes wanted result = MatchResult result (λ _. IsOk wanted) (RefusesAs wanted)
