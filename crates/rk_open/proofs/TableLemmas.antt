-- What is known of a listed table as far as it is opened.
use Rattle.std.proofs.Common.{◌≡◌, ℕ, Bool, false, cond, List, [], ◌∷◌, length, map, Option, Some, None, IfSome, Result, Ok, Err, refl, sym, ◌∙◌, ap, subst}
use Rattle.std.specs.Prelude.{◌==◌, IfErr, MatchResult, OnOk, option_map, ok_or, if◌then◌else◌}
use Rattle.std.specs.FinMap.{get}
use Rattle.std.proofs.lemmas.Bool.Decides.{Decides-eqb}
use Rattle.rk_bytes.specs.declared.model.open.OpenErr.{OpenErr}
use Rattle.rk_bytes.specs.declared.model.open.OpenErr.TheVariants as open_err
use Rattle.rk_bytes.specs.Model.Numbers.{◌>>=◌}
use Rattle.rk_bytes.specs.Model.BlockEntries.{with_fault}
use Rattle.rk_bytes.specs.Model.DiskImages.{Directory}
use Rattle.rk_bytes.specs.Model.FileNames.{table_name}
use Rattle.rk_bytes.specs.Model.Opening.{Files, Listed, TableFile, are_within, of_family, table_file}
use Rattle.rk_bytes.specs.Model.Opening as opening
use Rattle.rk_bytes.specs.Model.TableStatus.{TableFault, damaged, unsupported, DataEntry, Good, record_in, table_status}
use Rattle.rk_table.specs.Left.{records_told}
use Rattle.rk_sst.specs.declared.error.SstErr.{SstErr}
use Rattle.rk_sst.specs.declared.error.SstErr.TheVariants.{NoTable, Damaged, Unsupported, DiskFault, Memory}
use Rattle.rk_sst.specs.Seen.{OpenSeen, under_family}
use Rattle.rk_sst.specs.Opened.{HasLength, Opens, OpensGood}
use Rattle.rk_open.specs.Answers.{RefusesAs}
use Rattle.rk_open.specs.Faults.{table_fault}
use Rattle.rk_open.specs.Tables.{IsListed}

-- what is told of a good table in the end
abbrev pub tested : Listed → Good → Result TableFile OpenErr
tested listed good = if are_within listed.file good.records then Ok (record { listed = listed; good = good }) else Err (open_err.OutOfBounds listed.file.number)

-- the steps of a table's file after its bytes, and after its length
abbrev from_bytes : Listed → List ℕ → Result TableFile OpenErr
from_bytes listed bytes =
    (if length bytes == listed.file.size then Ok bytes else Err (open_err.SizeMismatch listed.file.number listed.file.size (length bytes)))
    >>= (λ whole. with_fault (opening.table_fault listed.file.number) (table_status whole) >>= tested listed)

missing : (files : Files) (listed : Listed) → files (table_name listed.file.number) ≡ None → table_file files listed ≡ Err (open_err.MissingTable listed.file.number)
unfolding table_file
missing files listed none = ap (λ (file : Option (List ℕ)). ok_or file (open_err.MissingTable listed.file.number) >>= from_bytes listed) none

there : (files : Files) (listed : Listed) (bytes : List ℕ) → files (table_name listed.file.number) ≡ Some bytes → table_file files listed ≡ from_bytes listed bytes
unfolding table_file
there files listed bytes some = ap (λ (file : Option (List ℕ)). ok_or file (open_err.MissingTable listed.file.number) >>= from_bytes listed) some

mismatched : (listed : Listed) (bytes : List ℕ) → length bytes == listed.file.size ≡ false → from_bytes listed bytes ≡ Err (open_err.SizeMismatch listed.file.number listed.file.size (length bytes))
mismatched listed bytes e =
    ap (λ (b : Bool). cond b (Ok bytes) (Err (open_err.SizeMismatch listed.file.number listed.file.size (length bytes))) >>= (λ whole. with_fault (opening.table_fault listed.file.number) (table_status whole) >>= tested listed)) e

sized : (listed : Listed) (bytes : List ℕ) (told : Result Good TableFault) → length bytes ≡ listed.file.size → table_status bytes ≡ told → from_bytes listed bytes ≡ (with_fault (opening.table_fault listed.file.number) told >>= tested listed)
sized listed bytes told same status =
    ap (λ (b : Bool). cond b (Ok bytes) (Err (open_err.SizeMismatch listed.file.number listed.file.size (length bytes))) >>= (λ whole. with_fault (opening.table_fault listed.file.number) (table_status whole) >>= tested listed))
    ((Decides-eqb (length bytes) listed.file.size).1 same)
    ∙ ap (λ (r : Result Good TableFault). with_fault (opening.table_fault listed.file.number) r >>= tested listed) status

-- a file that has a length
long_file : (file : Option (List ℕ)) (len : ℕ) (bytes : List ℕ) → option_map length file ≡ Some len → file ≡ Some bytes → length bytes ≡ len
long_file file len bytes e is = let both : Some (length bytes) ≡ Some len = ap (option_map length) (sym is) ∙ e in cc

-- The test of a table's length says what the definition does.
pub size_told : (d : Directory) (listed : Listed) (name : List ℕ) (found : ℕ) (result : Result (Unit {0}) OpenErr) → name ≡ table_name listed.file.number → Some found ≡ option_map length (get d name) → OnOk result (found ≡ listed.file.size)
    → IfErr result (λ why. (why ≡ open_err.SizeMismatch listed.file.number listed.file.size found) × (found == listed.file.size ≡ false)) → MatchResult result (λ _. HasLength listed.file.number listed.file.size d) (RefusesAs (table_file (get d) listed))
size_told d listed name found (Ok one) named size same differs = ap (λ name. option_map length (get d name)) (sym named) ∙ sym size ∙ ap Some same
size_told d listed name found (Err why) named size same differs =
    subst (RefusesAs (table_file (get d) listed)) (sym differs.0) (by (get d (table_name listed.file.number)) refl (size ∙ ap (λ name. option_map length (get d name)) named))
  where
    by : (file : Option (List ℕ)) → get d (table_name listed.file.number) ≡ file → Some found ≡ option_map length file → table_file (get d) listed ≡ Err (open_err.SizeMismatch listed.file.number listed.file.size found)
    by None is e = absurd cc
    by (Some bytes) is e =
        let len : found ≡ length bytes = cc in
        there (get d) listed bytes is ∙ mismatched listed bytes (ap (λ n. n == listed.file.size) (sym len) ∙ differs.1) ∙ ap (λ n. Err (open_err.SizeMismatch listed.file.number listed.file.size n)) (sym len)

pub absent_told : (d : Directory) (listed : Listed) (name : List ℕ) → name ≡ table_name listed.file.number → None ≡ option_map length (get d name) → table_file (get d) listed ≡ Err (open_err.MissingTable listed.file.number)
absent_told d listed name named size = by (get d (table_name listed.file.number)) refl (size ∙ ap (λ name. option_map length (get d name)) named)
  where
    by : (file : Option (List ℕ)) → get d (table_name listed.file.number) ≡ file → None ≡ option_map length file → table_file (get d) listed ≡ Err (open_err.MissingTable listed.file.number)
    by None is e = missing (get d) listed is
    by (Some bytes) is e = absurd cc

-- A table that isn't opened is refused so.
pub refused : (d : Directory) (listed : Listed) (why : SstErr) → HasLength listed.file.number listed.file.size d → Opens d listed.file.number (Err why) → RefusesAs (table_file (get d) listed) (table_fault listed.file.number why)
refused d listed NoTable len none = missing (get d) listed none
refused d listed (Damaged why place) len is = there (get d) listed is.bytes is.file ∙ sized listed is.bytes (Err (damaged why place)) (long_file (get d (table_name listed.file.number)) listed.file.size is.bytes len is.file) is.status
refused d listed (Unsupported what) len is = there (get d) listed is.bytes is.file ∙ sized listed is.bytes (Err (unsupported what)) (long_file (get d (table_name listed.file.number)) listed.file.size is.bytes len is.file) is.status
refused d listed DiskFault len is = tt
refused d listed Memory len is = tt

same_records : (own other : ℕ) (entries : List DataEntry) → map (record_in own) entries ≡ map (of_family own) (map (record_in other) entries)
same_records own other [] = refl
same_records own other (entry ∷ entries) = ap (λ l. record_in own entry ∷ l) (same_records own other entries)

-- A table that is opened has what the definition says.
pub opens_listed : (d : Directory) (listed : Listed) (seen : OpenSeen) → HasLength listed.file.number listed.file.size d → OpensGood d listed.file.number seen → IsListed d listed (under_family listed.family seen)
opens_listed d listed seen len opens =
    let entries = opens.opened.entries in
    let told = opens.opened.told in
    let own : map (record_in seen.table.family) entries ≡ opens.good.records = sym (ap (records_told seen.table.family) told) ∙ opens.records in
    record {
      good = opens.good;
      is = there (get d) listed opens.bytes opens.file ∙ sized listed opens.bytes (Ok opens.good) (long_file (get d (table_name listed.file.number)) listed.file.size opens.bytes len opens.file) opens.status;
      left = ap (records_told listed.family) told ∙ same_records listed.family seen.table.family entries ∙ ap (map (of_family listed.family)) own;
      ranges = ap (λ table. table.ranges) opens.table;
      opened = record { entries = entries; told = told; holds = opens.opened.holds };
    }

-- the same where the disk tells its files
pub size_in : (o : Option Directory) (listed : Listed) (name : List ℕ) (found : ℕ) (result : Result (Unit {0}) OpenErr) → name ≡ table_name listed.file.number → IfSome o (λ d. Some found ≡ option_map length (get d name)) → OnOk result (found ≡ listed.file.size)
    → IfErr result (λ why. (why ≡ open_err.SizeMismatch listed.file.number listed.file.size found) × (found == listed.file.size ≡ false)) → IfSome o (λ d. MatchResult result (λ _. HasLength listed.file.number listed.file.size d) (RefusesAs (table_file (get d) listed)))
size_in None listed name found result named size same differs = tt
size_in (Some d) listed name found result named size same differs = size_told d listed name found result named size same differs

pub absent_in : (o : Option Directory) (listed : Listed) (name : List ℕ) → name ≡ table_name listed.file.number → IfSome o (λ d. None ≡ option_map length (get d name)) → IfSome o (λ d. table_file (get d) listed ≡ Err (open_err.MissingTable listed.file.number))
absent_in None listed name named size = tt
absent_in (Some d) listed name named size = absent_told d listed name named size

pub refused_in : (o : Option Directory) (listed : Listed) (why : SstErr) → IfSome o (HasLength listed.file.number listed.file.size) → IfSome o (λ d. Opens d listed.file.number (Err why)) → IfSome o (λ d. RefusesAs (table_file (get d) listed) (table_fault listed.file.number why))
refused_in None listed why len is = tt
refused_in (Some d) listed why len is = refused d listed why len is

pub opens_in : (o : Option Directory) (listed : Listed) (seen : OpenSeen) → IfSome o (HasLength listed.file.number listed.file.size) → IfSome o (λ d. OpensGood d listed.file.number seen) → IfSome o (λ d. IsListed d listed (under_family listed.family seen))
opens_in None listed seen len opens = tt
opens_in (Some d) listed seen len opens = opens_listed d listed seen len opens
