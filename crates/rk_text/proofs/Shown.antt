-- What the table shows each byte as.
use Rattle.std.proofs.Common.{◌≡◌, ◌≢◌, ℕ, ◌<◌, cond, nat_eq, List, [], length, take, get_or, map, zero-add, refl, sym, ap, ◌∙◌}
use Rattle.std.specs.List.{range_with_len}
use Rattle.std.proofs.lemmas.Bool.{cond-false, ne_eqb}
use Rattle.std.proofs.lemmas.List.{get_or-map}
use Rattle.std.proofs.lemmas.List.FromFn.{get_or-range_with_len, length-range_with_len}
use Rattle.hex.specs.Hex.{encode_with}
use Rattle.rk_bytes.specs.Model.Lines.{shown_byte}
use Rattle.rk_text.specs.declared.quote.table.TheConstants.{SHOWN}

-- the byte alone before a zero, or all four bytes
front : List ℕ → List ℕ
front text = cond (nat_eq (get_or text 1 0) 0) (take 1 text) (take 4 text)

fronts : map front SHOWN ≡ map shown_byte (range_with_len 0 256)
unfolding front encode_with
fronts = refl

entry : (i : ℕ) → i < 256 → front (get_or SHOWN i []) ≡ shown_byte i
entry i within =
    let bytes : List ℕ = range_with_len 0 256 in
    let long : length bytes ≡ 256 = length-range_with_len 0 256 in
    sym (get_or-map front SHOWN i [] [] within) ∙ ap (λ texts. get_or texts i []) fronts ∙ get_or-map shown_byte bytes i 0 [] (rw long within)
    ∙ ap shown_byte (get_or-range_with_len 0 256 i 0 within ∙ zero-add i)

alone : (text : List ℕ) → get_or text 1 0 ≡ 0 → front text ≡ take 1 text
unfolding front
alone text is = ap (λ second. cond (nat_eq second 0) (take 1 text) (take 4 text)) is

whole : (text : List ℕ) → get_or text 1 0 ≢ 0 → front text ≡ take 4 text
unfolding front
whole text is = cond-false _ _ _ (ne_eqb _ _ is)

pub shown_alone : (i : ℕ) → i < 256 → get_or (get_or SHOWN i []) 1 0 ≡ 0 → take 1 (get_or SHOWN i []) ≡ shown_byte i
shown_alone i within is = sym (alone (get_or SHOWN i []) is) ∙ entry i within

pub shown_escaped : (i : ℕ) → i < 256 → get_or (get_or SHOWN i []) 1 0 ≢ 0 → take 4 (get_or SHOWN i []) ≡ shown_byte i
shown_escaped i within is = sym (whole (get_or SHOWN i []) is) ∙ entry i within
