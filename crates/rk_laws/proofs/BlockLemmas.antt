-- The entries that are read are those that are spelled, in each form of entry.
use Rattle.std.proofs.Common.{◌≡◌, ℕ, zero, suc, ◌+◌, ◌-◌, ◌≤◌, List, [], ◌∷◌, length, Result, Ok, refl, sym, ◌∙◌, ap, subst, arith}
use Rattle.std.proofs.lemmas.List.{length-append}
use Rattle.rk_bytes.specs.Model.Numbers.{AreBytes}
use Rattle.rk_bytes.specs.Model.BlockEntries.{Entry, entries_after, Spelling, AreEntries}
use Rattle.rk_bytes.proofs.Callers.Readings.{both_steps, first_step}
use Rattle.rk_laws.proofs.Readers.{Exact}

-- The bytes are an entry at this place, after another.
abbrev pub SpelledAt : {V : Type 0} → Spelling V → ℕ → Entry V → List ℕ → Entry V → Type 0
SpelledAt Spells place before part entry = (entry.place ≡ place) × Spells before part entry

-- In a form of entries, reading at a place gives just what is spelled, and an entry takes a byte at least.
pub record Form {V F : Type 0} (next : ℕ → Entry V → List ℕ → Result (Entry V × List ℕ) F) (Spells : Spelling V) : Type 0 where
  pub at : ℕ → Entry V → List ℕ → Result (Entry V × List ℕ) F
  pub next_is : (len : ℕ) (before : Entry V) (bytes : List ℕ) → next len before bytes ≡ at (len - length bytes) before bytes
  pub exact : (place : ℕ) (before : Entry V) → Exact (at place before) (SpelledAt Spells place before)
  pub some : (before : Entry V) (part : List ℕ) (entry : Entry V) → Spells before part entry → 1 ≤ length part

-- the entries that are read are spelled
pub entries_ok : {V F : Type 0} (next : ℕ → Entry V → List ℕ → Result (Entry V × List ℕ) F) (Spells : Spelling V) → Form next Spells → (n len place : ℕ) (before : Entry V) (bytes : List ℕ) (entries : List (Entry V)) → AreBytes bytes → length bytes ≤ n → len ≡ place + length bytes → entries_after (next len) n before bytes ≡ Ok entries → AreEntries Spells place before bytes entries
unfolding entries_after
entries_ok next Spells form n len place before [] entries are few is e = let none : [] ≡ entries = cc in subst (λ entries. AreEntries Spells place before [] entries) none refl
entries_ok next Spells form zero len place before (b ∷ bytes) entries are few is e = absurd (omega arith)
entries_ok next Spells form (suc n) len place before (b ∷ bytes) entries are few is e =
    both_steps (next len before (b ∷ bytes)) _ entries e λ r read e1.
    both_steps (entries_after (next len) n r.0 r.1) _ entries e1 λ more more_read e2.
    let place_is : len - length (b ∷ bytes) ≡ place = omega arith in
    let at_place : form.at place before (b ∷ bytes) ≡ Ok r = ap (λ place. form.at place before (b ∷ bytes)) (sym place_is) ∙ sym (form.next_is len before (b ∷ bytes)) ∙ read in
    let s = (form.exact place before).reads (b ∷ bytes) r are at_place in
    let some = form.some before s.part r.0 s.spells.1 in
    let lens : length (b ∷ bytes) ≡ length s.part + length r.1 = ap length s.whole ∙ length-append s.part r.1 in
    let whole : r.0 ∷ more ≡ entries = cc in
    subst (λ entries. AreEntries Spells place before (b ∷ bytes) entries) whole (
      s.part,
      r.1,
      s.whole,
      s.spells.0,
      s.spells.1,
      entries_ok next Spells form n len (place + length s.part) r.0 r.1 more s.after (omega arith) (omega arith) more_read,
    )

-- the entries that are spelled are read
pub entries-spelled : {V F : Type 0} (next : ℕ → Entry V → List ℕ → Result (Entry V × List ℕ) F) (Spells : Spelling V) → Form next Spells → (n len place : ℕ) (before : Entry V) (bytes : List ℕ) (entries : List (Entry V)) → length bytes ≤ n → len ≡ place + length bytes → AreEntries Spells place before bytes entries → entries_after (next len) n before bytes ≡ Ok entries
unfolding entries_after
entries-spelled next Spells form n len place before bytes [] few is none = rw none refl
entries-spelled next Spells form n len place before [] (entry ∷ entries) few is (part, rest, whole, place_is, s, more) =
    absurd (omega (arith, form.some before part entry s, ap length whole, length-append part rest))
entries-spelled next Spells form zero len place before (b ∷ bytes) (entry ∷ entries) few is (part, rest, whole, place_is, s, more) = absurd (omega arith)
entries-spelled next Spells form (suc n) len place before (b ∷ bytes) (entry ∷ entries) few is (part, rest, whole, place_is, s, more) =
    let some = form.some before part entry s in
    let lens : length (b ∷ bytes) ≡ length part + length rest = ap length whole ∙ length-append part rest in
    let here : len - length (b ∷ bytes) ≡ place = omega arith in
    let read : next len before (b ∷ bytes) ≡ Ok (entry, rest) =
    form.next_is len before (b ∷ bytes)
    ∙ ap (λ place. form.at place before (b ∷ bytes)) here
    ∙ ap (form.at place before) whole
    ∙ (form.exact place before).spelled part rest entry (place_is, s) in
    first_step (next len before (b ∷ bytes)) _ _ read
    ∙ first_step _ _ entries (entries-spelled next Spells form n len (place + length part) entry rest entries (omega arith) (omega arith) more)
