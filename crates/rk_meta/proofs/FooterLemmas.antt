-- The footer that a table's last bytes are, by its magic number.
use Rattle.std.proofs.Common.{◌≡◌, ℕ, ◌-◌, ◌<◌, ◌≤◌, Bool, true, false, cond, List, length, drop, nat_lt, Result, Err, refl, ap, ◌∙◌, arith}
use Rattle.std.specs.Prelude.{◌==◌}
use Rattle.std.proofs.lemmas.Bool.{lt-ltb, le-ltb, eq-eqb, cond-true}
use Rattle.rk_bytes.specs.declared.model.table.Footer.{Footer}
use Rattle.rk_bytes.specs.declared.model.table.SumKind.TheVariants.{Crc32c}
use Rattle.rk_bytes.specs.declared.model.table.FooterFault.{FooterFault}
use Rattle.rk_bytes.specs.declared.model.table.FooterFault.TheVariants.{FooterShort, BadMagic}
use Rattle.rk_bytes.specs.Model.TableFooter.{footer_of, magic_of, newer_magic, legacy_magic, footer_with, newer_footer}

-- what a table's footer is where its kinds of footers have this length, and these tests of the magic number answer so
footer_by : List ℕ → ℕ → Bool → Bool → Result Footer FooterFault
footer_by table len newer legacy =
    cond (nat_lt (length table) len) (Err FooterShort)
    (cond newer (newer_footer (length table - len) (drop (length table - len) table))
    (cond legacy (footer_with 0 Crc32c (length table - len) (drop (length table - len) table))
    (Err BadMagic)))

by_magic : (table : List ℕ) (newer legacy : Bool) → (magic_of table == newer_magic) ≡ newer → (magic_of table == legacy_magic) ≡ legacy → footer_of table ≡ footer_by table (cond newer 53 48) newer legacy
unfolding footer_of footer_by
by_magic table newer legacy is is' = rw (is, is') refl

pub footer-short : (table : List ℕ) → length table < 48 → footer_of table ≡ Err FooterShort
unfolding footer_by
footer-short table short = by (magic_of table == newer_magic) (magic_of table == legacy_magic) refl refl
  where
    by : (newer legacy : Bool) → (magic_of table == newer_magic) ≡ newer → (magic_of table == legacy_magic) ≡ legacy → footer_of table ≡ Err FooterShort
    by true legacy is is' = by_magic table true legacy is is' ∙ cond-true _ _ _ (lt-ltb (length table) 53 (omega arith))
    by false legacy is is' = by_magic table false legacy is is' ∙ cond-true _ _ _ (lt-ltb (length table) 48 short)

pub newer-short : (table : List ℕ) → magic_of table ≡ newer_magic → length table < 53 → footer_of table ≡ Err FooterShort
unfolding footer_by
newer-short table is short = by_magic table true _ (eq-eqb _ _ is) refl ∙ cond-true _ _ _ (lt-ltb (length table) 53 short)

pub newer-whole : (table : List ℕ) → magic_of table ≡ newer_magic → 53 ≤ length table → footer_of table ≡ newer_footer (length table - 53) (drop (length table - 53) table)
unfolding footer_by
newer-whole table is long = by_magic table true _ (eq-eqb _ _ is) refl ∙ rw (le-ltb (length table) 53 long) refl

pub legacy-whole : (table : List ℕ) → magic_of table ≡ legacy_magic → 48 ≤ length table → footer_of table ≡ footer_with 0 Crc32c (length table - 48) (drop (length table - 48) table)
unfolding footer_by
legacy-whole table is long = by_magic table false true (ap (λ n. n == newer_magic) is) (eq-eqb _ _ is) ∙ rw (le-ltb (length table) 48 long) refl

pub no-magic : (table : List ℕ) → 48 ≤ length table → (magic_of table == newer_magic) ≡ false → (magic_of table == legacy_magic) ≡ false → footer_of table ≡ Err BadMagic
unfolding footer_by
no-magic table long is is' = by_magic table false false is is' ∙ rw (le-ltb (length table) 48 long) refl
