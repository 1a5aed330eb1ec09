-- The names of a database's files, and the text of CURRENT (file/filename.cc). Names below `lost/`, and that
-- a name counts only as it is printed here, are this project's own rules.
use Rattle.std.specs.Prelude.{◌≡◌, ℕ, zero, suc, ◌+◌, ◌-◌, ◌^◌, ◌<◌, ◌&&◌, List, [], ◌∷◌, ◌++◌, length, map, take, drop, replicate, position, nat_eq, nat_lt, ◌==◌, if◌then◌else◌, Option, Some, None, option_map, unwrap_or, ok_or, Result, Ok, Err, Contains, bytes_eq, codes, refl}
use Rattle.std.proofs.Common.{sym, subst}
use Rattle.std.proofs.Math.Arith.{lt-one}
use Rattle.std.proofs.Math.Nat.{zero-lt-suc}
use Rattle.std.proofs.lemmas.Bool.{false≢true}
use Rattle.std.proofs.lemmas.Cmp.{nat_list_eq_equiv}
use Rattle.std.proofs.lemmas.Map.Views.{list_any-from_Contains}
use Rattle.std.specs.List.{starts_with}
use Rattle.std.specs.Option.{option_or}
use Rattle.std.specs.Fmt.{digits, decimal}
use Rattle.std.specs.Str.Parse.{digits_value}
use Rattle.rk_bytes.specs.Model.Numbers.{◌>>=◌}
use Rattle.rk_bytes.specs.declared.model.name.FileName.{FileName}
use Rattle.rk_bytes.specs.declared.model.name.FileName.TheVariants.{Current, Manifest, Log, Table, Temp, Lost, Other}
use Rattle.rk_bytes.specs.declared.model.name.CurrentFault.{CurrentFault}
use Rattle.rk_bytes.specs.declared.model.name.CurrentFault.TheVariants.{NoNewline, Trailing, NotManifest}

-- a file's number: in decimal, with zeros before it to six digits at least
abbrev pub six_digits : ℕ → List ℕ
six_digits n = replicate (6 - length (decimal n)) 48 ++ decimal n

-- the file that names the manifest
abbrev pub current_name : List ℕ
current_name = codes "CURRENT"

-- a manifest's name
abbrev pub manifest_name : ℕ → List ℕ
manifest_name n = codes "MANIFEST-" ++ six_digits n

-- a log's name
abbrev pub log_name : ℕ → List ℕ
log_name n = six_digits n ++ codes ".log"

-- a table's name
abbrev pub table_name : ℕ → List ℕ
table_name n = six_digits n ++ codes ".sst"

-- a temporary file's name
abbrev pub temp_name : ℕ → List ℕ
temp_name n = six_digits n ++ codes ".dbtmp"

-- how the name is printed; nothing where it isn't one of a number's or `CURRENT`
abbrev pub printed_name : FileName → List ℕ
printed_name Current = current_name
printed_name (Manifest n) = manifest_name n
printed_name (Log n) = log_name n
printed_name (Table n) = table_name n
printed_name (Temp n) = temp_name n
printed_name _ = []

-- The name is printed: it is `CURRENT`, or that of a number below 2 ^ 64.
abbrev pub IsPrinted : FileName → Type 0
IsPrinted Current = Unit
IsPrinted (Manifest n) = n < 2 ^ 64
IsPrinted (Log n) = n < 2 ^ 64
IsPrinted (Table n) = n < 2 ^ 64
IsPrinted (Temp n) = n < 2 ^ 64
IsPrinted _ = ⊥

-- the number below 2 ^ 64 that these digits write, where its name is the text
abbrev pub named_number : (ℕ → List ℕ) → List ℕ → List ℕ → Option ℕ
named_number name number text =
    let n = digits_value 10 number in
    if nat_lt n (2 ^ 64) && bytes_eq (name n) text then Some n else None

-- the number of a manifest's name
abbrev pub manifest_number : List ℕ → Option ℕ
manifest_number text = named_number manifest_name (drop 9 text) text

-- the number of a name that is a number and an ending of so many bytes
abbrev pub number_with_ending : ℕ → (ℕ → List ℕ) → List ℕ → Option ℕ
number_with_ending ending_len name text = named_number name (take (length text - ending_len) text) text

-- what stands before the names of the files that repair moved away
abbrev pub lost_prefix : List ℕ
lost_prefix = codes "lost/"

-- the name with a number that the text is
abbrev pub numbered_name : List ℕ → Option FileName
numbered_name text =
    option_or (option_map Manifest (manifest_number text))
    (option_or (option_map Log (number_with_ending 4 log_name text))
    (option_or (option_map Table (number_with_ending 4 table_name text))
    (option_map Temp (number_with_ending 6 temp_name text))))

-- the name that the text is
unfoldable pub name_of : List ℕ → FileName
name_of text =
    if starts_with nat_eq text lost_prefix then Lost
    else (if bytes_eq text current_name then Current else unwrap_or (numbered_name text) Other)

-- what CURRENT holds where it names the manifest with this number
abbrev pub current_text : ℕ → List ℕ
current_text n = manifest_name n ++ 10 ∷ []

-- the number of the manifest that CURRENT names by this text
unfoldable pub current_manifest : List ℕ → Result ℕ CurrentFault
current_manifest text = do
  newline ← ok_or (position (λ b. b == 10) text) NoNewline
  if nat_lt (newline + 1) (length text) then Err Trailing else ok_or (manifest_number (take newline text)) NotManifest

-- the names below `lost/` that a file may be moved to, in the order in which they are tried
abbrev pub lost_name : List ℕ → ℕ → List ℕ
lost_name name zero = lost_prefix ++ name
lost_name name (suc k) = lost_prefix ++ name ++ codes "." ++ decimal (suc k)

-- the first of them that isn't taken
pub record IsFreeLostName (name : List ℕ) (taken : List (List ℕ)) (free : List ℕ) : Type 0 where
  pub tried : ℕ
  pub is : free ≡ lost_name name tried
  pub absent : ¬ (Contains taken free)
  pub before : (k : ℕ) → k < tried → Contains taken (lost_name name k)

of_numbers : map log_name (3 ∷ 999999 ∷ 12345678 ∷ []) ≡ codes "000003.log" ∷ codes "999999.log" ∷ codes "12345678.log" ∷ []
unfolding digits
of_numbers = refl

of_a_table : name_of (codes "000012.sst") ≡ Table 12
unfolding name_of digits
of_a_table = refl

of_other_digits : map name_of (codes "12.sst" ∷ codes "0000012.sst" ∷ []) ≡ Other ∷ Other ∷ []
unfolding name_of digits
of_other_digits = refl

of_the_greatest_number : map name_of (codes "18446744073709551615.log" ∷ codes "18446744073709551616.log" ∷ []) ≡ Log (2 ^ 64 - 1) ∷ Other ∷ []
unfolding name_of digits
of_the_greatest_number = refl

of_a_short_manifest : name_of (codes "MANIFEST-12") ≡ Other
unfolding name_of digits
of_a_short_manifest = refl

of_a_lost_table : name_of (codes "lost/000012.sst") ≡ Lost
unfolding name_of digits
of_a_lost_table = refl

of_a_temporary_file : name_of (codes "1234567.dbtmp") ≡ Temp 1234567
unfolding name_of digits
of_a_temporary_file = refl

of_a_manifest : map current_text (2 ∷ 1234567 ∷ []) ≡ codes "MANIFEST-000002\n" ∷ codes "MANIFEST-1234567\n" ∷ []
unfolding digits
of_a_manifest = refl

named_by_current : map current_manifest (codes "MANIFEST-000002\n" ∷ codes "MANIFEST-1234567\n" ∷ []) ≡ Ok 2 ∷ Ok 1234567 ∷ []
unfolding current_manifest digits
named_by_current = refl

-- no newline, a second line, a log's name, and no name
named_by_no_current : map current_manifest (codes "MANIFEST-000002" ∷ codes "MANIFEST-000002\n\n" ∷ codes "000002.log\n" ∷ codes "\n" ∷ [])
    ≡ Err NoNewline ∷ Err Trailing ∷ Err NotManifest ∷ Err NotManifest ∷ []
unfolding current_manifest digits
named_by_no_current = refl

of_lost_names : map (lost_name (codes "000005.log")) (0 ∷ 1 ∷ 10 ∷ []) ≡ codes "lost/000005.log" ∷ codes "lost/000005.log.1" ∷ codes "lost/000005.log.10" ∷ []
unfolding digits
of_lost_names = refl

-- The first name is taken, and the third.
of_a_free_lost_name : IsFreeLostName (codes "000005.log") (codes "lost/000005.log" ∷ codes "lost/000005.log.2" ∷ []) (codes "lost/000005.log.1")
unfolding digits
of_a_free_lost_name = record {
  tried = 1;
  is = refl;
  absent = λ there. false≢true (list_any-from_Contains nat_list_eq_equiv (codes "lost/000005.log.1") (codes "lost/000005.log" ∷ codes "lost/000005.log.2" ∷ []) there);
  before = λ k below. subst (λ k. Contains (codes "lost/000005.log" ∷ codes "lost/000005.log.2" ∷ []) (lost_name (codes "000005.log") k)) (sym (lt-one below)) (0, zero-lt-suc 1, refl);
}
