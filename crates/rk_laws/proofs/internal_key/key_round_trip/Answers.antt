use Rattle.std.proofs.Common.{◌≡◌, ℕ, Bool, true, false, ◌-◌, ◌/◌, ◌%◌, ◌≤◌, List, ◌++◌, length, drop, refl, sym, ap, subst, ◌∙◌, arith, take-append-drop}
use Rattle.std.specs.Prelude.{Option, Some, None, Ok, nat_lt, ◌==◌}
use Rattle.std.proofs.lemmas.Bool.{ltb-false, eqb-true}
use Rattle.rk_bytes.specs.declared.model.key.Kind.{Kind}
use Rattle.rk_bytes.specs.Model.Numbers.{AreBytes, fixed_of}
use Rattle.rk_bytes.specs.Model.InternalKey.{kind_number, all_kinds, kind_of, packed_of, user_key, packed, internal_key, KeyParts}
use Rattle.rk_bytes.proofs.Callers.FixedNumbers.{fixed_of-little_endian}
use Rattle.rk_laws.proofs.KeyParts.{answer, key_parts-internal_key}
use Rattle.rk_laws.proofs.Orders.{AreBytes-drop, length-end}
use Rattle.rk_bytes.proofs.Callers.Readings.{found_passes}
use Rattle.rk_laws.proofs.internal_key.key_round_trip.Goals as goal

pub returns-clause-key : goal.returns-clause-key
returns-clause-key c = key_parts-internal_key

made_again : (key : List ℕ) (kind : Kind) → 8 ≤ length key → AreBytes key → kind_number kind ≡ packed key % 256 → internal_key (user_key key) (packed key / 256) kind ≡ key
unfolding internal_key
made_again key kind long bytes kind_is =
    let end : List ℕ = drop (length key - 8) key in
    let number : packed_of (packed key / 256) kind ≡ packed key = omega arith in
    let ends : fixed_of 8 (packed key) ≡ end =
    ap (λ len. fixed_of len (packed key)) (sym (length-end key long)) ∙ fixed_of-little_endian end (AreBytes-drop (length key - 8) key bytes) in
    ap (λ end. user_key key ++ end) (ap (fixed_of 8) number ∙ ends) ∙ take-append-drop (length key - 8) key

pub returns-clause-parts : goal.returns-clause-parts
returns-clause-parts c key parts bytes read = by_length (nat_lt (length key) 8) refl read
  where
    by_kind : (found : Option Kind) → 8 ≤ length key → kind_of (packed key % 256) ≡ found
        → answer false (user_key key) (packed key / 256) found (packed key % 256) ≡ Ok parts → internal_key parts.user parts.sequence parts.kind ≡ key
    by_kind None long found read = cc
    by_kind (Some kind) long found read =
        let same : record { user = user_key key; sequence = packed key / 256; kind = kind } ≡ parts = cc in
        subst (λ (parts : KeyParts). internal_key parts.user parts.sequence parts.kind ≡ key) same
        (made_again key kind long bytes (eqb-true (kind_number kind) (packed key % 256) (found_passes (λ kind. kind_number kind == packed key % 256) all_kinds kind found)))

    by_length : (is_short : Bool) → nat_lt (length key) 8 ≡ is_short
        → answer is_short (user_key key) (packed key / 256) (kind_of (packed key % 256)) (packed key % 256) ≡ Ok parts → internal_key parts.user parts.sequence parts.kind ≡ key
    by_length true told read = cc
    by_length false told read = by_kind (kind_of (packed key % 256)) (ltb-false (length key) 8 told) refl read
