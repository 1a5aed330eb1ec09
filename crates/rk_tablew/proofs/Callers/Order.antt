-- The order in which records are added.
use Rattle.std.proofs.Common.{◌≡◌, List, ℕ, [], ◌∷◌, ◌++◌, length, sym, ap, ◌∙◌, subst, arith}
use Rattle.std.specs.declared.cmp.Ordering.TheVariants.{Less}
use Rattle.std.proofs.lemmas.List.{length_push, same_from_push}
use Rattle.rk_bytes.specs.declared.model.key.Record.{Record}
use Rattle.rk_bytes.specs.Model.InternalKey.{key_cmp}
use Rattle.rk_tablew.specs.Writing.{ComesNext, record_key}

-- any key may come first
pub ComesNext-first : (records : List Record) (key : List ℕ) → records ≡ [] → ComesNext records key
ComesNext-first records key none = λ before last is.
    let some = length_push before last in
    absurd (omega (arith, ap length none, ap length is, some))

-- a key comes after the last record's
pub ComesNext-after : (records front : List Record) (r : Record) (key : List ℕ) → records ≡ front ++ r ∷ [] → key_cmp (record_key r) key ≡ Less → ComesNext records key
ComesNext-after records front r key ends less = λ before last is.
    let same = same_from_push front before r last (sym ends ∙ is) in
    subst (λ (last : Record). key_cmp (record_key last) key ≡ Less) same.1 less
