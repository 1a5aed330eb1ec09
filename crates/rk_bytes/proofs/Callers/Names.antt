-- A printed name is read again, and a name that is read was printed.
use Rattle.std.proofs.Common.{◌≡◌, ◌≢◌, ℕ, zero, suc, ◌-◌, ◌^◌, ◌<◌, ◌≤◌, Bool, true, false, cond, List, [], ◌∷◌, ◌++◌, length, take, drop, Option, Some, None, refl, sym, ◌∙◌, ap, subst, arith, append_assoc}
use Rattle.std.specs.Prelude.{slice_index, nat_eq, nat_lt, ◌&&◌, bytes_eq, codes, replicate, option_map, unwrap_or, decimal}
use Rattle.std.specs.List.{starts_with}
use Rattle.std.specs.Option.{option_or}
use Rattle.std.specs.Str.Parse.{IsNumeral, digits_value}
use Rattle.std.specs.Char.{digit_value}
use Rattle.std.proofs.lemmas.Bool.{lt-ltb, ltb-true, ne_eqb, cond-true, cond-false, and_parts, and_from, and_left, and_right, false_from_ne_true}
use Rattle.std.proofs.lemmas.Option.{cond_some}
use Rattle.std.proofs.lemmas.List.{length-append, take_at, drop_at}
use Rattle.std.proofs.lemmas.Slice.Eq.{bytes_eq-Decides}
use Rattle.std.proofs.lemmas.Fmt.{decimal_is_IsNumeral}
use Rattle.rk_bytes.specs.declared.model.name.FileName.{FileName}
use Rattle.rk_bytes.specs.declared.model.name.FileName.TheVariants.{Current, Manifest, Log, Table, Temp, Lost, Other}
use Rattle.rk_bytes.specs.Model.FileNames.{six_digits, current_name, manifest_name, log_name, table_name, temp_name, printed_name, IsPrinted, named_number, manifest_number, number_with_ending, lost_prefix, numbered_name, name_of}

-- zeros before digits change nothing of their number
zeros : (k : ℕ) (ds : List ℕ) → IsNumeral 10 ds → IsNumeral 10 (replicate k 48 ++ ds) × (digits_value 10 (replicate k 48 ++ ds) ≡ digits_value 10 ds)
zeros zero ds is = (is, refl)
zeros (suc k) ds is = let (more, value) = zeros k ds is in ((omega arith, (omega arith, more.1)), value)

six_digits-number : (n : ℕ) → n < 2 ^ 64 → IsNumeral 10 (six_digits n) × (digits_value 10 (six_digits n) ≡ n)
six_digits-number n fits =
    let (is, value) = decimal_is_IsNumeral n fits in
    let (more, same) = zeros (6 - length (decimal n)) (decimal n) is in
    (more, same ∙ value)

-- no name of this kind is the text
no_number : (name : ℕ → List ℕ) (number text : List ℕ) → ((m : ℕ) → name m ≢ text) → named_number name number text ≡ None
no_number name number text none =
    let m = digits_value 10 number in
    cond-false _ _ _ (and_right (nat_lt m (2 ^ 64)) _ (false_from_ne_true (bytes_eq (name m) text) (λ same. none m ((bytes_eq-Decides (name m) text).0 same))))

no_ending : (ending_len : ℕ) (name : ℕ → List ℕ) (text : List ℕ) → ((m : ℕ) → name m ≢ text) → number_with_ending ending_len name text ≡ None
no_ending ending_len name text = no_number name (take (length text - ending_len) text) text

-- the digits of the name are those of its number
right_number : (name : ℕ → List ℕ) (number : List ℕ) (n : ℕ) → n < 2 ^ 64 → digits_value 10 number ≡ n → named_number name number (name n) ≡ Some n
right_number name number n fits is =
    let chosen : ℕ → Option ℕ = λ m. cond (nat_lt m (2 ^ 64) && bytes_eq (name m) (name n)) (Some m) None in
    ap chosen is ∙ cond-true _ _ _ (and_from _ _ (lt-ltb n (2 ^ 64) fits) ((bytes_eq-Decides (name n) (name n)).1 refl))

number_read : (name : ℕ → List ℕ) (number text : List ℕ) (n : ℕ) → named_number name number text ≡ Some n → (n < 2 ^ 64) × (name n ≡ text)
number_read name number text n is =
    let m = digits_value 10 number in
    let (told, same) = cond_some (nat_lt m (2 ^ 64) && bytes_eq (name m) text) m n is in
    let tests = and_parts (nat_lt m (2 ^ 64)) (bytes_eq (name m) text) told in
    subst (λ n. (n < 2 ^ 64) × (name n ≡ text)) same (ltb-true m (2 ^ 64) tests.0, (bytes_eq-Decides (name m) text).0 tests.1)

-- lists with ends of one length that differ
ends_differ : (xs ys a b : List ℕ) → length a ≡ length b → a ≢ b → xs ++ a ≢ ys ++ b
ends_differ xs ys a b len differ same =
    let lens : length xs ≡ length ys = omega (arith, ap length same, length-append xs a, length-append ys b) in
    differ (sym (drop_at xs a (length xs) refl) ∙ ap (drop (length xs)) same ∙ drop_at ys b (length xs) (sym lens))

-- the endings
log≢table : codes ".log" ≢ codes ".sst"
log≢table same = let second : 108 ≡ 115 = ap (λ xs. slice_index xs 1) same in absurd (omega (arith, second))

log≢temp : codes ".log" ≢ codes "btmp"
log≢temp same = let first : 46 ≡ 98 = ap (λ xs. slice_index xs 0) same in absurd (omega (arith, first))

table≢temp : codes ".sst" ≢ codes "btmp"
table≢temp same = let first : 46 ≡ 98 = ap (λ xs. slice_index xs 0) same in absurd (omega (arith, first))

-- A text that begins with a digit is nothing below `lost/`, isn't `CURRENT`, and names no manifest.
record Digits (text : List ℕ) : Type 0 where
  lost : starts_with nat_eq text lost_prefix ≡ false
  current : bytes_eq text current_name ≡ false
  manifest : manifest_number text ≡ None

not_byte : (b c : ℕ) → digit_value c < 10 → 10 ≤ digit_value b → b ≢ c
not_byte b c digit none same = let e : digit_value b ≡ digit_value c = ap digit_value same in omega arith

begins_with_digits : (ds rest : List ℕ) → IsNumeral 10 ds → Digits (ds ++ rest)
begins_with_digits [] rest is = absurd (omega (arith, is.0))
begins_with_digits (c ∷ ds) rest is = record {
  lost = and_left (nat_eq 108 c) _ (ne_eqb 108 c (not_byte 108 c is.1.0 (omega arith)));
  current = false_from_ne_true _ (λ told. let same : c ∷ (ds ++ rest) ≡ 67 ∷ codes "URRENT" = (bytes_eq-Decides (c ∷ (ds ++ rest)) current_name).0 told in not_byte 67 c is.1.0 (omega arith) cc);
  manifest = no_number manifest_name (drop 9 (c ∷ (ds ++ rest))) (c ∷ (ds ++ rest)) (λ m same. let same : 77 ∷ (codes "ANIFEST-" ++ six_digits m) ≡ c ∷ (ds ++ rest) = same in not_byte 77 c is.1.0 (omega arith) cc);
}

-- a number before an ending of so many bytes
before_ending : (ending_len : ℕ) (name : ℕ → List ℕ) (n : ℕ) (ending : List ℕ) → n < 2 ^ 64 → name n ≡ six_digits n ++ ending → length ending ≡ ending_len → number_with_ending ending_len name (name n) ≡ Some n
before_ending ending_len name n ending fits is len =
    let number : take (length (name n) - ending_len) (name n) ≡ six_digits n = ap (take (length (name n) - ending_len)) is ∙ take_at (six_digits n) ending (length (name n) - ending_len) (omega (arith, ap length is, length-append (six_digits n) ending)) in
    right_number name (take (length (name n) - ending_len) (name n)) n fits (ap (digits_value 10) number ∙ (six_digits-number n fits).1)

log_of : (n : ℕ) → n < 2 ^ 64 → name_of (log_name n) ≡ Log n
unfolding name_of
log_of n fits =
    let first = begins_with_digits (six_digits n) (codes ".log") (six_digits-number n fits).0 in
    rw (first.lost, first.current, first.manifest, before_ending 4 log_name n (codes ".log") fits refl refl) refl

table_of : (n : ℕ) → n < 2 ^ 64 → name_of (table_name n) ≡ Table n
unfolding name_of
table_of n fits =
    let first = begins_with_digits (six_digits n) (codes ".sst") (six_digits-number n fits).0 in
    let no_log : number_with_ending 4 log_name (table_name n) ≡ None =
    no_ending 4 log_name (table_name n) (λ m. ends_differ (six_digits m) (six_digits n) (codes ".log") (codes ".sst") refl log≢table) in
    rw (first.lost, first.current, first.manifest, no_log, before_ending 4 table_name n (codes ".sst") fits refl refl) refl

temp_of : (n : ℕ) → n < 2 ^ 64 → name_of (temp_name n) ≡ Temp n
unfolding name_of
temp_of n fits =
    let first = begins_with_digits (six_digits n) (codes ".dbtmp") (six_digits-number n fits).0 in
    let split : temp_name n ≡ (six_digits n ++ codes ".d") ++ codes "btmp" = sym (append_assoc (six_digits n) (codes ".d") (codes "btmp")) in
    let no_log : number_with_ending 4 log_name (temp_name n) ≡ None =
    no_ending 4 log_name (temp_name n) (λ m same. ends_differ (six_digits m) (six_digits n ++ codes ".d") (codes ".log") (codes "btmp") refl log≢temp (same ∙ split)) in
    let no_table : number_with_ending 4 table_name (temp_name n) ≡ None =
    no_ending 4 table_name (temp_name n) (λ m same. ends_differ (six_digits m) (six_digits n ++ codes ".d") (codes ".sst") (codes "btmp") refl table≢temp (same ∙ split)) in
    rw (first.lost, first.current, first.manifest, no_log, no_table, before_ending 6 temp_name n (codes ".dbtmp") fits refl refl) refl

manifest_of : (n : ℕ) → n < 2 ^ 64 → name_of (manifest_name n) ≡ Manifest n
unfolding name_of
manifest_of n fits =
    let number : manifest_number (manifest_name n) ≡ Some n = right_number manifest_name (six_digits n) n fits (six_digits-number n fits).1 in
    rw number refl

pub name_of-printed : (name : FileName) → IsPrinted name → name_of (printed_name name) ≡ name
unfolding name_of
name_of-printed Current is = refl
name_of-printed (Manifest n) is = manifest_of n is
name_of-printed (Log n) is = log_of n is
name_of-printed (Table n) is = table_of n is
name_of-printed (Temp n) is = temp_of n is
name_of-printed Lost is = absurd is
name_of-printed Other is = absurd is

-- the first of four numbers that is there, under its kind of name
abbrev first_of_four : Option ℕ → Option ℕ → Option ℕ → Option ℕ → FileName
first_of_four manifest log table temp =
    unwrap_or (option_or (option_map Manifest manifest) (option_or (option_map Log log) (option_or (option_map Table table) (option_map Temp temp)))) Other

-- a name that is printed as this text
abbrev IsText : List ℕ → FileName → Type 0
IsText text name = IsPrinted name × (printed_name name ≡ text)

numbered : (text : List ℕ) (manifest log table temp : Option ℕ) → ((n : ℕ) → manifest ≡ Some n → IsText text (Manifest n)) → ((n : ℕ) → log ≡ Some n → IsText text (Log n))
    → ((n : ℕ) → table ≡ Some n → IsText text (Table n)) → ((n : ℕ) → temp ≡ Some n → IsText text (Temp n)) → first_of_four manifest log table temp ≢ Other → IsText text (first_of_four manifest log table temp)
numbered text (Some n) log table temp m l t p known = m n refl
numbered text None (Some n) table temp m l t p known = l n refl
numbered text None None (Some n) temp m l t p known = t n refl
numbered text None None None (Some n) m l t p known = p n refl
numbered text None None None None m l t p known = absurd (known refl)

pub printed-name_of : (text : List ℕ) → name_of text ≢ Lost → name_of text ≢ Other → IsText text (name_of text)
unfolding name_of
printed-name_of text kept known = by (starts_with nat_eq text lost_prefix) (bytes_eq text current_name) refl kept known
  where
    by : (lost current : Bool) → bytes_eq text current_name ≡ current → cond lost Lost (cond current Current (unwrap_or (numbered_name text) Other)) ≢ Lost
        → cond lost Lost (cond current Current (unwrap_or (numbered_name text) Other)) ≢ Other → IsText text (cond lost Lost (cond current Current (unwrap_or (numbered_name text) Other)))
    by true current told kept known = absurd (kept refl)
    by false true told kept known = (tt, sym ((bytes_eq-Decides text current_name).0 told))
    by false false told kept known =
        numbered text (manifest_number text) (number_with_ending 4 log_name text) (number_with_ending 4 table_name text) (number_with_ending 6 temp_name text)
        (number_read manifest_name (drop 9 text) text) (number_read log_name (take (length text - 4) text) text) (number_read table_name (take (length text - 4) text) text)
        (number_read temp_name (take (length text - 6) text) text) known
