-- What is kept of an edit's fields of which the last counts.
use Rattle.std.specs.Prelude.{◌≡◌, ◌||◌, true, List, Some, option_map, filter_map}
use Rattle.std.specs.List.{list_any, last_or}
use Rattle.rk_edit.specs.declared.fields.Field.{Field as LentField}
use Rattle.rk_edit.specs.declared.fields.Field.TheVariants.{Comparator, LogNumber, NextFile, LastSequence, LeastLog, Family, FamilyAdd, FamilyDrop, GreatestFamily}
use Rattle.rk_bytes.specs.Model.VersionEdit.{Field, comparator_in, log_number_in, next_file_in, last_sequence_in, least_log_in, family_in, family_add_in, drops_family, greatest_family_in}
use Rattle.rk_bytes.specs.Model.Manifest.{stated}
use Rattle.rk_version.specs.declared.stated.Stated.{Stated}

-- with one more field
abbrev pub with_field : Stated → LentField → Stated
with_field kept (Comparator name) = record kept { comparator = Some name }
with_field kept (LogNumber n) = record kept { log_number = Some n }
with_field kept (NextFile n) = record kept { next_file = Some n }
with_field kept (LastSequence n) = record kept { last_sequence = Some n }
with_field kept (LeastLog n) = record kept { least_log = Some n }
with_field kept (Family id) = record kept { family = Some id }
with_field kept (FamilyAdd name) = record kept { family_add = Some name }
with_field kept FamilyDrop = record kept { drops_family = true }
with_field kept (GreatestFamily id) = record kept { greatest_family = Some id }
with_field kept _ = kept

-- what is kept, and the fields that are left, make what the edit states
pub record Continues (kept : Stated) (left edit : List Field) : Type 0 where
  pub comparator : last_or (option_map (λ name. name.now) kept.comparator) (filter_map comparator_in left) ≡ stated comparator_in edit
  pub log_number : last_or kept.log_number (filter_map log_number_in left) ≡ stated log_number_in edit
  pub next_file : last_or kept.next_file (filter_map next_file_in left) ≡ stated next_file_in edit
  pub last_sequence : last_or kept.last_sequence (filter_map last_sequence_in left) ≡ stated last_sequence_in edit
  pub least_log : last_or kept.least_log (filter_map least_log_in left) ≡ stated least_log_in edit
  pub family : last_or kept.family (filter_map family_in left) ≡ stated family_in edit
  pub family_add : last_or (option_map (λ name. name.now) kept.family_add) (filter_map family_add_in left) ≡ stated family_add_in edit
  pub drops_family : (kept.drops_family || list_any drops_family left) ≡ list_any drops_family edit
  pub greatest_family : last_or kept.greatest_family (filter_map greatest_family_in left) ≡ stated greatest_family_in edit

-- what is kept of all fields
pub record Tells (kept : Stated) (edit : List Field) : Type 0 where
  pub comparator : option_map (λ name. name.now) kept.comparator ≡ stated comparator_in edit
  pub log_number : kept.log_number ≡ stated log_number_in edit
  pub next_file : kept.next_file ≡ stated next_file_in edit
  pub last_sequence : kept.last_sequence ≡ stated last_sequence_in edit
  pub least_log : kept.least_log ≡ stated least_log_in edit
  pub family : kept.family ≡ stated family_in edit
  pub family_add : option_map (λ name. name.now) kept.family_add ≡ stated family_add_in edit
  pub drops_family : kept.drops_family ≡ list_any drops_family edit
  pub greatest_family : kept.greatest_family ≡ stated greatest_family_in edit
