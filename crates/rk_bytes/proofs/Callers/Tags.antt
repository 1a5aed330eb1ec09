-- The two tags of each kind of change.
use Rattle.std.proofs.Common.{◌≡◌, ℕ, List, refl}
use Rattle.rk_bytes.specs.declared.model.batch.BatchFault.TheVariants.{BadRecord}
use Rattle.rk_bytes.specs.declared.model.key.Kind.{Kind}
use Rattle.rk_bytes.specs.declared.model.key.Kind.TheVariants.{Deletion, Value, Merge, SingleDeletion, RangeDeletion}
use Rattle.rk_bytes.specs.Model.Numbers.{reads_or}
use Rattle.rk_bytes.specs.Model.WriteBatch.{plain_tag, family_tag, change_at, part_of_tag}

-- what is read behind a tag of the default family
pub plain_change : (place sequence : ℕ) (kind : Kind) (bytes : List ℕ) → part_of_tag place sequence (plain_tag kind) bytes ≡ reads_or (BadRecord place) (change_at place sequence (plain_tag kind) kind bytes)
plain_change place sequence Deletion bytes = refl
plain_change place sequence Value bytes = refl
plain_change place sequence Merge bytes = refl
plain_change place sequence SingleDeletion bytes = refl
plain_change place sequence RangeDeletion bytes = refl

-- what is read behind a tag that a family follows
pub named_change : (place sequence : ℕ) (kind : Kind) (bytes : List ℕ) → part_of_tag place sequence (family_tag kind) bytes ≡ reads_or (BadRecord place) (change_at place sequence (family_tag kind) kind bytes)
named_change place sequence Deletion bytes = refl
named_change place sequence Value bytes = refl
named_change place sequence Merge bytes = refl
named_change place sequence SingleDeletion bytes = refl
named_change place sequence RangeDeletion bytes = refl
