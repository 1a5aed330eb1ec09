-- What contracts see of a disk and of an output in memory. This project's own rule.
use Rattle.std.specs.Prelude.{ℕ, ◌+◌, ◌-◌, ◌^◌, min, Bool, false, ◌&&◌, nat_le, List, [], Option, Some, None, unwrap_or, refl}
use Rattle.std.specs.Coded.{Coded, code_by, coded×, coded_ℕ, coded_list}
use Rattle.std.specs.List.{list_any}
use Rattle.std.specs.Str.{bytes_eq}
use Rattle.std.specs.FinMap as map
use Rattle.rk_bytes.specs.Model.DiskImages.{Directory}
use Rattle.rk_disk.specs.Named.{ByName}
use Rattle.rk_disk.specs.CallPlan.{CallPlan, unused_plan, after_call, coded_plan}

-- what an output took, and which of its writes are to fail
pub record SinkInMemory : Type 0 where
  pub taken : List ℕ
  pub plan : CallPlan

-- files by name, and a number beside each
pub record NumberedFiles : Type 0 where
  pub contents : Directory
  pub numbers : ByName ℕ

-- The files of a disk, how many bytes were read of each name that has one, the names and the offsets from
-- which on a read fails, and which calls are to fail.
pub record DiskInMemory : Type 0 where
  pub files : Directory
  pub bytes_read : ByName ℕ
  pub refused : List (List ℕ × ℕ)
  pub plan : CallPlan

-- an output that took nothing
abbrev pub new_sink : SinkInMemory
new_sink = record { taken = []; plan = unused_plan }

-- no file
abbrev pub no_files : NumberedFiles
no_files = record { contents = map.empty; numbers = map.empty }

-- a disk with no file
abbrev pub new_disk : DiskInMemory
new_disk = record { files = map.empty; bytes_read = map.empty; refused = []; plan = unused_plan }

-- the file that is put under a name, and the number beside it
abbrev pub with_file : List ℕ → List ℕ → ℕ → NumberedFiles → NumberedFiles
with_file name bytes number files = record { contents = map.insert files.contents name bytes; numbers = map.insert files.numbers name number }

-- another number for a name that has one
abbrev pub renumbered : List ℕ → ℕ → Option ℕ → ByName ℕ → ByName ℕ
renumbered name number None numbers = numbers
renumbered name number (Some before) numbers = map.insert numbers name number

abbrev pub with_number : List ℕ → ℕ → ByName ℕ → ByName ℕ
with_number name number numbers = renumbered name number (map.get numbers name) numbers

-- n bytes more were read of a name; the sum stands still at the last value of a u64
abbrev pub more_read : List ℕ → ℕ → ByName ℕ → ByName ℕ
more_read name n bytes_read = with_number name (min (unwrap_or (map.get bytes_read name) 0 + n) (2 ^ 64 - 1)) bytes_read

-- whether a read of that name at that offset is set to fail
abbrev pub refuses : List ℕ → ℕ → List (List ℕ × ℕ) → Bool
refuses name at refused = list_any (λ r. bytes_eq r.0 name && nat_le r.1 at) refused

-- after a call that changed nothing but the counts of calls
abbrev pub after_reading : Bool → DiskInMemory → DiskInMemory
after_reading fails disk = record disk { plan = after_call fails disk.plan }

-- after a read that gave n bytes
abbrev pub after_read : List ℕ → ℕ → DiskInMemory → DiskInMemory
after_read name n disk = record disk { bytes_read = more_read name n disk.bytes_read; plan = after_call false disk.plan }

abbrev pub coded_directory : Coded Directory
coded_directory = map.code (coded_list coded_ℕ) (coded_list coded_ℕ)

abbrev pub coded_numbers : Coded (ByName ℕ)
coded_numbers = map.code (coded_list coded_ℕ) coded_ℕ

-- as the tuples of their fields
abbrev pub coded_files : Coded NumberedFiles
coded_files = code_by (Directory × ByName ℕ) (coded× coded_directory coded_numbers) (λ files. (files.contents, files.numbers)) (λ p. record { contents = p.0; numbers = p.1 }) (λ _. refl)

abbrev pub coded_sink : Coded SinkInMemory
coded_sink = code_by (List ℕ × CallPlan) (coded× (coded_list coded_ℕ) coded_plan) (λ sink. (sink.taken, sink.plan)) (λ p. record { taken = p.0; plan = p.1 }) (λ _. refl)

abbrev pub coded_disk : Coded DiskInMemory
coded_disk =
    code_by ((Directory × ByName ℕ) × (List (List ℕ × ℕ) × CallPlan)) (coded× (coded× coded_directory coded_numbers) (coded× (coded_list (coded× (coded_list coded_ℕ) coded_ℕ)) coded_plan))
    (λ disk. ((disk.files, disk.bytes_read), (disk.refused, disk.plan)))
    (λ p. record { files = p.0.0; bytes_read = p.0.1; refused = p.1.0; plan = p.1.1 })
    (λ _. refl)
