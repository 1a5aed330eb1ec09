use Rattle.std.proofs.Common.{◌≡◌, sym, ◌∙◌}
use Rattle.std.proofs.lemmas.Bool.{ne_eqb}
use Rattle.rk_bytes.specs.declared.model.table.SumKind.TheVariants.{Crc32c}
use Rattle.rk_bytes.specs.Model.TableFooter.{magic_of, newer_magic, legacy_magic, newer_footer, footer_with}
use Rattle.rk_meta.proofs.FooterLemmas.{footer-short, newer-short, newer-whole, legacy-whole, no-magic}
use Rattle.rk_meta.proofs.footer.read_footer.Goals as goal

pub returns-then-bytes-lt-LEGACY_LEN : goal.returns-then-bytes-lt-LEGACY_LEN
returns-then-bytes-lt-LEGACY_LEN c = sym (footer-short c.args.bytes.now c.if-bytes-lt-LEGACY_LEN.true)

pub returns-then-bytes-lt-NEWER_LEN : goal.returns-then-bytes-lt-NEWER_LEN
returns-then-bytes-lt-NEWER_LEN c = sym (newer-short c.args.bytes.now (sym c.magic_of-magic.ensures ∙ c.if-magic.true) c.if-bytes-lt-NEWER_LEN.true)

pub returns-then-magic : goal.returns-then-magic
returns-then-magic c =
    c.read_newer.ensures ∙ (λ i. newer_footer (c.split_at.ensures.front_len i) (c.split_at.ensures.back i))
    ∙ sym (newer-whole c.args.bytes.now (sym c.magic_of-magic.ensures ∙ c.if-magic.true) c.if-bytes-lt-NEWER_LEN.false)

pub returns-then-magic-2 : goal.returns-then-magic-2
returns-then-magic-2 c =
    c.read_handles.ensures ∙ (λ i. footer_with 0 Crc32c (c.split_at-then-magic-2.ensures.front_len i) (c.split_at-then-magic-2.ensures.back i))
    ∙ sym (legacy-whole c.args.bytes.now (sym c.magic_of-magic.ensures ∙ c.if-magic-2.true) c.if-bytes-lt-LEGACY_LEN.false)

pub returns : goal.returns
returns c =
    let other : magic_of c.args.bytes.now ≡ newer_magic → ⊥ = λ is. c.if-magic.false (c.magic_of-magic.ensures ∙ is) in
    let other' : magic_of c.args.bytes.now ≡ legacy_magic → ⊥ = λ is. c.if-magic-2.false (c.magic_of-magic.ensures ∙ is) in
    sym (no-magic c.args.bytes.now c.if-bytes-lt-LEGACY_LEN.false (ne_eqb _ _ other) (ne_eqb _ _ other'))
