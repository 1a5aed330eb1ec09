-- What is known of a table that is opened, and what is left of it.
use Rattle.std.proofs.Common.{◌≡◌, ℕ, ◌+◌, List, [], ◌++◌, length, map, Option, Some, None, IfSome, unwrap_or, Result, Ok, Err, refl, sym, ◌∙◌, ap, subst}
use Rattle.std.specs.Prelude.{option_map}
use Rattle.std.specs.FinMap.{get}
use Rattle.rk_bytes.specs.declared.model.key.Record.{Record}
use Rattle.rk_bytes.specs.declared.model.table.TableRef.{TableRef}
use Rattle.rk_bytes.specs.Model.DiskImages.{Directory}
use Rattle.rk_bytes.specs.Model.FileNames.{table_name}
use Rattle.rk_bytes.specs.Model.TableStatus.{TableFault, DataEntry, Good, record_in, table_status}
use Rattle.rk_table.specs.declared.status.Status.{Status}
use Rattle.rk_table.specs.declared.status.Status.TheVariants as status
use Rattle.rk_table.specs.Told.{found, known}
use Rattle.rk_table.specs.Runs.{IsStatus}
use Rattle.rk_table.specs.Left.{from_block, records_told}
use Rattle.rk_cache.specs.Kept.{CacheSeen}
use Rattle.rk_cache.specs.Answers.{table_in, HoldsFor}
use Rattle.rk_sst.specs.declared.error.SstErr.{SstErr}
use Rattle.rk_sst.specs.Seen.{OpenSeen}
use Rattle.rk_sst.specs.Taken.{TakesNext}
use Rattle.rk_sst.specs.Rising.{last_given}
use Rattle.rk_sst.specs.Opened.{records_left, IsOpen, HasLength, OpensGood, GivesNext}
use Rattle.rk_table.proofs.Callers.GoodTables.{good_entries}

-- where a file has a size it is there
file_there : (file : Option (List ℕ)) (len : ℕ) → Some len ≡ option_map length file → (bytes : List ℕ) × (file ≡ Some bytes)
file_there None len e = absurd cc
file_there (Some bytes) len e = (bytes, refl)

-- what a good status says
good_of : (told : Result Good TableFault) (table : TableRef) → Ok table ≡ known told → (good : Good) × (told ≡ Ok good) × (table ≡ good.table)
good_of (Ok good) table e = (good, refl, cc)
good_of (Err fault) table e = absurd cc

both : {P Q R : Directory → Type 0} (told : Option Directory) → IfSome told P → IfSome told Q → ((files : Directory) → P files → Q files → R files) → IfSome told R
both None p q f = tt
both (Some files) p q f = f files p q

-- a table that has a length is there, and its status is that of its bytes
there_with : (files : Directory) (number len : ℕ) (is : Status) → HasLength number len files → IsStatus is (table_in files number) → (bytes : List ℕ) × (get files (table_name number) ≡ Some bytes) × (found is ≡ known (table_status bytes))
there_with files number len is sized told =
    let (bytes, file) = file_there (get files (table_name number)) len (sym sized) in
    (bytes, file, told ∙ ap (λ (file : Option (List ℕ)). known (table_status (unwrap_or file []))) file)

-- its length is that of its bytes
pub same_length : (number len : ℕ) (files : Directory) → HasLength number len files → length (table_in files number) ≡ len
same_length number len files sized = by (get files (table_name number)) sized
  where
    by : (file : Option (List ℕ)) → option_map length file ≡ Some len → length (unwrap_or file []) ≡ len
    by None e = absurd cc
    by (Some bytes) e = cc

-- a table whose status is good is opened with all of its records
pub opens_good : (told : Option Directory) (number len : ℕ) (table : TableRef) (cache : CacheSeen) → IfSome told (HasLength number len)
    → IfSome told (λ files. IsStatus (status.Good table) (table_in files number)) → IfSome told (HoldsFor cache.kept)
    → IfSome told (λ files. OpensGood files number (record { number = number; table = table; block = 0; last = None; cache = cache }))
opens_good told number len table cache sized is holds = both told (both told sized is (λ files sized is. there_with files number len (status.Good table) sized is)) holds (λ files there holds. made files there holds)
  where
    made : (files : Directory) → (bytes : List ℕ) × (get files (table_name number) ≡ Some bytes) × (found (status.Good table) ≡ known (table_status bytes)) → HoldsFor cache.kept files
        → OpensGood files number (record { number = number; table = table; block = 0; last = None; cache = cache })
    made files (bytes, file, is) holds =
        let (good, status_is, same) = good_of (table_status bytes) table is in
        let (entries, read, records) = good_entries bytes good status_is in
        let here : table_in files number ≡ bytes = ap (λ (file : Option (List ℕ)). unwrap_or file []) file in
        let told : from_block (table_in files number) table 0 None ≡ Ok entries = (λ i. from_block (here i) (same i) 0 None) ∙ read in
        record {
          bytes = bytes;
          file = file;
          good = good;
          status = status_is;
          table = same;
          records = ap (records_told table.family) told ∙ ap (λ (table : TableRef). map (record_in table.family) entries) same ∙ sym records;
          opened = record { entries = entries; told = told; holds = holds };
        }

-- where the records of the next block are taken, the others are left
module _ (told : Option Directory) (old : OpenSeen) (cache : CacheSeen) (last : Option (List ℕ)) where
  -- the table with its next block after this one, and with this last key
  abbrev pub further : OpenSeen
  further = record { number = old.number; table = old.table; block = old.block + 1; last = last; cache = cache }

  abbrev pub Took : Result (List Record) SstErr → Directory → Type 0
  Took result files = (entries : List DataEntry) → from_block (table_in files old.number) old.table old.block old.last ≡ Ok entries → TakesNext (table_in files old.number) old.table old.block old.last entries result

  -- the entries that are left after this block read
  abbrev IsFurther : Directory → Type 0
  IsFurther files = (rest : List DataEntry) × (from_block (table_in files old.number) old.table (old.block + 1) last ≡ Ok rest)

  pub gives_records : (records : List Record) → last ≡ last_given old.last records → IfSome told (IsOpen old) → IfSome told (Took (Ok records)) → IfSome told (λ files. records_left old files ≡ records ++ records_left further files)
  gives_records records is_last is took = both told is took (λ files is took.
      let first = took is.entries is.told in
      let after = ap (from_block (table_in files old.number) old.table (old.block + 1)) is_last ∙ first.after in
      ap (records_told old.table.family) is.told ∙ first.all ∙ ap (λ l. records ++ l) (sym (ap (records_told old.table.family) after)))

  pub goes_on : (records : List Record) → last ≡ last_given old.last records → IfSome told (IsOpen old) → IfSome told (Took (Ok records)) → IfSome told (HoldsFor cache.kept) → IfSome told (IsOpen further)
  goes_on records is_last is took holds =
      both told (both {R = IsFurther} told is took (λ files is took. let first = took is.entries is.told in (first.rest, ap (from_block (table_in files old.number) old.table (old.block + 1)) is_last ∙ first.after))) holds
      (λ files first holds. record { entries = first.0; told = first.1; holds = holds })

  pub only_causes : (error : SstErr) (answer : Result (Option (List Record)) SstErr) (new : OpenSeen) → answer ≡ Err error → IfSome told (IsOpen old) → IfSome told (Took (Err error)) → IfSome told (λ files. GivesNext old files answer new)
  only_causes error answer new is_err is took = both told is took (λ files is took. subst (λ (answer : Result (Option (List Record)) SstErr). GivesNext old files answer new) (sym is_err) (took is.entries is.told))
