-- What is read of a batch, step by step.
use Rattle.std.proofs.Common.{◌≡◌, ℕ, Bool, List, refl, ap, ◌∙◌, Option, Some, None, Result, Err}
use Rattle.rk_bytes.specs.declared.model.number.NumFault.{NumFault}
use Rattle.std.specs.Prelude.{option_map}
use Rattle.rk_bytes.specs.declared.model.batch.BatchFault.{BatchFault}
use Rattle.rk_bytes.specs.declared.model.batch.BatchFault.TheVariants.{BadRecord}
use Rattle.rk_bytes.specs.declared.model.key.Kind.{Kind}
use Rattle.rk_bytes.specs.Model.Numbers.{reads_or}
use Rattle.rk_bytes.specs.Model.WriteBatch.{Part, kind_of_tag, names_family, change_at}
use Rattle.rk_batch.specs.Parts.{change_read, kind_with_tag, tagged_read}
use Rattle.rk_bytes.specs.Reading.{Reading, IsFurther}

pub IsFurther-same : (reading : Reading) → IsFurther reading reading
IsFurther-same reading = record { same = refl; within = λ within. within }

pub IsFurther-then : (a b c : Reading) → IsFurther a b → IsFurther b c → IsFurther a c
IsFurther-then a b c first second = record { same = second.same ∙ first.same; within = λ within. second.within (first.within within) }

-- a change that doesn't read is a bad record
pub tagged_bad : (place sequence tag : ℕ) (kind : Kind) (named : Bool) (bytes : List ℕ) (fault : NumFault) → ◌≡◌ {A = Option (Kind × Bool)} (Some (kind, named)) (kind_with_tag tag) → Err fault ≡ change_read place sequence named kind bytes → Err (BadRecord place) ≡ tagged_read place sequence tag bytes
tagged_bad place sequence tag kind named bytes fault is bad = by (kind_of_tag tag) is
  where
    by : (found : Option Kind) → ◌≡◌ {A = Option (Kind × Bool)} (Some (kind, named)) (option_map (λ kind. (kind, names_family tag)) found)
        → Err (BadRecord place) ≡ elim found as (λ found. Result (Part × List ℕ) BatchFault) [ Some kind ↦ reads_or (BadRecord place) (change_at place sequence tag kind bytes) | None ↦ Err (BadRecord place) ]
    by None same = refl
    by (Some other) same =
        let both : ◌≡◌ {A = Kind × Bool} (kind, named) (other, names_family tag) = cc in
        let kinds : kind ≡ other = ap (λ (both : Kind × Bool). both.0) both in
        let names : named ≡ names_family tag = ap (λ (both : Kind × Bool). both.1) both in
        ap (reads_or (BadRecord place)) (bad ∙ (λ i. change_read place sequence (names i) (kinds i) bytes))
