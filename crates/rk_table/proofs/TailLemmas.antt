-- The footer of a table is that of its last bytes.
use Rattle.std.proofs.Common.{◌≡◌, ℕ, ◌+◌, ◌-◌, ◌<◌, ◌≤◌, Bool, true, false, cond, List, length, drop, nat_lt, min, Result, Ok, Err, refl, sym, ap, subst, ◌∙◌, arith, length-drop}
use Rattle.std.specs.Prelude.{◌==◌, ◌||◌, take, slice_index}
use Rattle.std.proofs.lemmas.Bool.{le-ltb, ltb-true, ltb-false}
use Rattle.std.proofs.lemmas.List.{drop-drop}
use Rattle.rk_bytes.specs.declared.model.block.Handle.{Handle}
use Rattle.rk_bytes.specs.declared.model.table.Footer.{Footer}
use Rattle.rk_bytes.specs.declared.model.table.SumKind.{SumKind}
use Rattle.rk_bytes.specs.declared.model.table.SumKind.TheVariants.{Crc32c}
use Rattle.rk_bytes.specs.declared.model.table.FooterFault.{FooterFault}
use Rattle.rk_bytes.specs.declared.model.table.FooterFault.TheVariants.{FooterShort, BadMagic, UnsupportedVersion}
use Rattle.rk_bytes.specs.Model.Numbers.{little_endian, ◌>>=◌}
use Rattle.rk_bytes.specs.Model.BlockEntries.{with_fault}
use Rattle.rk_bytes.specs.Model.TableFooter.{footer_of, footer_len, footer_start, magic_of, newer_magic, legacy_magic, sum_kind, footer_handles, footer_with, newer_footer}
use Rattle.rk_bytes.specs.Model.TableStatus.{footer_status, reader_of, table_with, table_status}
use Rattle.rk_bytes.proofs.Callers.Readings.{both_steps, passed}
use Rattle.rk_table.specs.Told.{known}
use Rattle.rk_table.specs.Runs.{moved}

-- the footer of a table of this length, by the tests of its magic number
footer_at : ℕ → List ℕ → Bool → Bool → Result Footer FooterFault
footer_at n table true legacy = cond (nat_lt n 53) (Err FooterShort) (newer_footer (n - 53) (drop (n - 53) table))
footer_at n table false legacy = cond (nat_lt n 48) (Err FooterShort) (cond legacy (footer_with 0 Crc32c (n - 48) (drop (n - 48) table)) (Err BadMagic))

footer_as : (table : List ℕ) (newer legacy : Bool) → (magic_of table == newer_magic) ≡ newer → (magic_of table == legacy_magic) ≡ legacy → footer_of table ≡ footer_at (length table) table newer legacy
unfolding footer_of footer_at
footer_as table true legacy is is' = rw is refl
footer_as table false legacy is is' = rw (is, is') refl

with_moved : (version : ℕ) (sum : SumKind) (k s : ℕ) (bytes : List ℕ) → footer_with version sum (k + s) bytes ≡ moved k (footer_with version sum s bytes)
with_moved version sum k s bytes = by (footer_handles bytes)
  where
    by : (r : Result (Handle × Handle) FooterFault) → (r >>= (λ handles. Ok (record { version = version; sum = sum; metaindex = handles.0; index = handles.1; start = k + s }))) ≡ moved k (r >>= (λ handles. Ok (record { version = version; sum = sum; metaindex = handles.0; index = handles.1; start = s })))
    by (Ok handles) = refl
    by (Err fault) = refl

newer_moved : (k s : ℕ) (bytes : List ℕ) → newer_footer (k + s) bytes ≡ moved k (newer_footer s bytes)
newer_moved k s bytes = let version = little_endian (take 4 (drop 41 bytes)) in by version (version == 0 || nat_lt 5 version) (sum_kind (slice_index bytes 0))
  where
    by : (version : ℕ) (test : Bool) (r : Result SumKind FooterFault) → cond test (Err (UnsupportedVersion version)) (r >>= (λ sum. footer_with version sum (k + s) (drop 1 bytes))) ≡ moved k (cond test (Err (UnsupportedVersion version)) (r >>= (λ sum. footer_with version sum s (drop 1 bytes))))
    by version true r = refl
    by version false (Ok sum) = with_moved version sum k s (drop 1 bytes)
    by version false (Err fault) = refl

-- the magic number is within the last bytes
magic_within : (table : List ℕ) → 53 ≤ length table → magic_of (drop (length table - 53) table) ≡ magic_of table
magic_within table long =
    let k : ℕ = length table - 53 in
    let inner : length (drop k table) - 8 ≡ 45 = omega (arith, length-drop k table) in
    let whole : k + 45 ≡ length table - 8 = omega arith in
    ap (λ n. little_endian (drop n (drop k table))) inner ∙ ap little_endian (drop-drop 45 k table) ∙ ap (λ n. little_endian (drop n table)) whole

at_moved : (n : ℕ) (table : List ℕ) (newer legacy : Bool) → 53 ≤ n → footer_at n table newer legacy ≡ moved (n - 53) (footer_at 53 (drop (n - 53) table) newer legacy)
unfolding footer_at
at_moved n table true legacy long =
    let same : n - 53 ≡ (n - 53) + 0 = omega arith in
    ap (λ test. cond test (Err FooterShort) (newer_footer (n - 53) (drop (n - 53) table))) (le-ltb n 53 long)
    ∙ ap (λ start. newer_footer start (drop (n - 53) table)) same ∙ newer_moved (n - 53) 0 (drop (n - 53) table)
at_moved n table false true long =
    let same : n - 48 ≡ (n - 53) + 5 = omega arith in
    ap (λ test. cond test (Err FooterShort) (footer_with 0 Crc32c (n - 48) (drop (n - 48) table))) (le-ltb n 48 (omega arith))
    ∙ ap (λ start. footer_with 0 Crc32c start (drop start table)) same
    ∙ ap (λ bytes. footer_with 0 Crc32c ((n - 53) + 5) bytes) (sym (drop-drop 5 (n - 53) table))
    ∙ with_moved 0 Crc32c (n - 53) 5 (drop 5 (drop (n - 53) table))
at_moved n table false false long = ap (λ test. cond test (Err FooterShort) (Err BadMagic)) (le-ltb n 48 (omega arith))

moved_none : (r : Result Footer FooterFault) → moved 0 r ≡ r
moved_none (Ok footer) = let same : 0 + footer.start ≡ footer.start = omega arith in λ i. Ok (record footer { start = same i })
moved_none (Err fault) = refl

-- the last bytes of a table say where and what its footer is
pub record IsTail (table : List ℕ) (before : ℕ) (bytes : List ℕ) : Type 0 where
  pub footer : footer_of table ≡ moved before (footer_of bytes)
  pub magic : magic_of table ≡ magic_of bytes

short_tail : (table bytes : List ℕ) (k : ℕ) → k ≡ 0 → drop k table ≡ bytes → IsTail table k bytes
short_tail table bytes k none is =
    let same : table ≡ bytes = subst (λ k. drop k table ≡ bytes) none is in
    record {
      footer = ap footer_of same ∙ sym (moved_none (footer_of bytes)) ∙ ap (λ k. moved k (footer_of bytes)) (sym none);
      magic = ap magic_of same;
    }

long_tail : (table bytes : List ℕ) → 53 ≤ length table → drop (length table - 53) table ≡ bytes → IsTail table (length table - 53) bytes
long_tail table bytes long is =
    let k : ℕ = length table - 53 in
    let inner = drop k table in
    let len : 53 ≡ length inner = omega (arith, length-drop k table) in
    let magic = magic_within table long in
    let newer = magic_of table == newer_magic in
    let legacy = magic_of table == legacy_magic in
    let whole = footer_as table newer legacy refl refl ∙ at_moved (length table) table newer legacy long in
    let part = footer_as inner newer legacy (ap (λ n. n == newer_magic) magic) (ap (λ n. n == legacy_magic) magic) in
    record {
      footer = whole ∙ ap (moved k) (ap (λ n. footer_at n inner newer legacy) len ∙ sym part) ∙ ap (λ bytes. moved k (footer_of bytes)) is;
      magic = sym magic ∙ ap magic_of is;
    }

pub is_tail : (table bytes : List ℕ) (n : ℕ) → length table ≡ n → drop (length table - min 53 n) table ≡ bytes → IsTail table (n - min 53 n) bytes
is_tail table bytes n len is = cases_le (length table) 53
    (λ short. let none : length table - min 53 n ≡ 0 = omega arith in subst (λ k. IsTail table k bytes) (omega arith) (short_tail table bytes (length table - min 53 n) none is))
    (λ long. let same : length table - min 53 n ≡ length table - 53 = omega arith in subst (λ k. IsTail table k bytes) (omega arith) (long_tail table bytes (omega arith) (subst (λ k. drop k table ≡ bytes) same is)))
  where
    cases_le : {C : Type 0} (a b : ℕ) → (a ≤ b → C) → (b < a → C) → C
    cases_le a b f g = by (nat_lt b a) refl f g
      where
        by : {C : Type 0} (test : Bool) → nat_lt b a ≡ test → (a ≤ b → C) → (b < a → C) → C
        by true told f g = g (ltb-true b a told)
        by false told f g = f (ltb-false b a told)

-- what is left of a table whose footer reads
pub footer_read : (table bytes : List ℕ) (before : ℕ) (footer : Footer) → IsTail table before bytes → footer_of bytes ≡ Ok footer → known (table_status table) ≡ known (table_with (reader_of table (record footer { start = before + footer.start })) (record footer { start = before + footer.start }))
unfolding table_status
footer_read table bytes before footer is read =
    ap (λ r. known (with_fault (footer_status (footer_start table)) r >>= (λ footer. table_with (reader_of table footer) footer))) (is.footer ∙ ap (moved before) read)

pub footer_faulty : (table bytes : List ℕ) (before : ℕ) (fault : FooterFault) → IsTail table before bytes → footer_of bytes ≡ Err fault → known (table_status table) ≡ Err (footer_status (length table - footer_len bytes) fault)
unfolding table_status
footer_faulty table bytes before fault is read =
    ap (λ r. known (with_fault (footer_status (footer_start table)) r >>= (λ footer. table_with (reader_of table footer) footer))) (is.footer ∙ ap (moved before) read)
    ∙ ap (λ magic. Err (footer_status (length table - cond (magic == newer_magic) 53 48) fault)) is.magic

-- a footer stands within its bytes
with_start : (version : ℕ) (sum : SumKind) (start : ℕ) (bytes : List ℕ) (footer : Footer) → footer_with version sum start bytes ≡ Ok footer → footer.start ≡ start
with_start version sum start bytes footer e = both_steps (footer_handles bytes) _ footer e λ handles read e1. sym (ap (λ (r : Result Footer FooterFault). elim r [ Ok footer ↦ footer.start | Err fault ↦ 0 ]) e1)

newer_start : (start : ℕ) (bytes : List ℕ) (footer : Footer) → newer_footer start bytes ≡ Ok footer → footer.start ≡ start
newer_start start bytes footer e =
    let version = little_endian (take 4 (drop 41 bytes)) in
    let supported = passed (version == 0 || nat_lt 5 version) (UnsupportedVersion version) _ footer e in
    both_steps (sum_kind (slice_index bytes 0)) _ footer supported.1 λ sum read e1. with_start version sum start (drop 1 bytes) footer e1

at_within : (n : ℕ) (bytes : List ℕ) (newer legacy : Bool) (footer : Footer) → footer_at n bytes newer legacy ≡ Ok footer → footer.start ≤ n
unfolding footer_at
at_within n bytes true legacy footer e = let is = newer_start (n - 53) (drop (n - 53) bytes) footer (passed (nat_lt n 53) FooterShort _ footer e).1 in omega arith
at_within n bytes false true footer e = let is = with_start 0 Crc32c (n - 48) (drop (n - 48) bytes) footer (passed (nat_lt n 48) FooterShort _ footer e).1 in omega arith
at_within n bytes false false footer e = let no = (passed (nat_lt n 48) FooterShort (Err BadMagic) footer e).1 in absurd cc

pub start_within : (bytes : List ℕ) (footer : Footer) → footer_of bytes ≡ Ok footer → footer.start ≤ length bytes
start_within bytes footer e =
    let newer = magic_of bytes == newer_magic in
    let legacy = magic_of bytes == legacy_magic in
    at_within (length bytes) bytes newer legacy footer (sym (footer_as bytes newer legacy refl refl) ∙ e)

-- a footer is longer than the magic number
pub no_place : (n : ℕ) (bytes : List ℕ) → n < 8 → n - footer_len bytes ≡ 0
no_place n bytes short = by (magic_of bytes == newer_magic)
  where
    by : (newer : Bool) → n - cond newer 53 48 ≡ 0
    by true = omega arith
    by false = omega arith
