-- The parts that are left of a batch, one after another.
use Rattle.std.specs.Prelude.{slice_index}
use Rattle.std.proofs.Common.{◌≡◌, ℕ, zero, suc, ◌+◌, ◌-◌, ◌<◌, List, [], ◌∷◌, length, drop, Result, Ok, Err, refl, ap, ◌∙◌, arith}
use Rattle.rk_bytes.specs.declared.model.batch.BatchFault.{BatchFault}
use Rattle.rk_bytes.specs.Model.Numbers.{◌>>=◌, in_turn}
use Rattle.rk_bytes.specs.Model.WriteBatch.{Part, change, log_bytes, noop, change_count, part_of_tag, batch_part_at}
use Rattle.rk_bytes.proofs.Callers.InTurn.{in_turn-room}
use Rattle.rk_batch.specs.Seen.{parts_left}
use Rattle.rk_batch.proofs.Shorter.{batch_shortens, part_shorter}

pub change_count-cons : (part : Part) (parts : List Part) → change_count (part ∷ parts) ≡ change_count (part ∷ []) + change_count parts
change_count-cons (change place r) parts = omega arith
change_count-cons (log_bytes place bytes) parts = omega arith
change_count-cons (noop place) parts = omega arith

same_then : {A B F : Type 0} (r s : Result A F) (f g : A → Result B F) → r ≡ s → ((a : A) → f a ≡ g a) → r >>= f ≡ s >>= g
same_then (Ok a) s f g e same = same a ∙ ap (λ r. r >>= g) e
same_then (Err why) s f g e same = ap (λ r. r >>= g) e

-- only how many changes stand before counts
shifted : (len s t n : ℕ) (before other : List Part) (bytes : List ℕ) → s + change_count before ≡ t + change_count other → in_turn (batch_part_at len s) n before bytes ≡ in_turn (batch_part_at len t) n other bytes
unfolding in_turn
shifted len s t zero before other [] e = refl
shifted len s t zero before other (b ∷ bytes) e = ap (λ q. part_of_tag (len - 0) q 0 [] >>= (λ one. Ok (one.0 ∷ []))) e
shifted len s t (suc n) before other [] e = refl
shifted len s t (suc n) before other (b ∷ bytes) e =
    same_then (batch_part_at len s before (b ∷ bytes)) (batch_part_at len t other (b ∷ bytes)) _ _ (ap (λ q. part_of_tag (len - length (b ∷ bytes)) q b bytes) e)
    (λ one. ap (λ more. more >>= (λ more. Ok (one.0 ∷ more))) (shifted len s t n (one.0 ∷ before) (one.0 ∷ other) one.1 (omega (arith, e, change_count-cons one.0 before, change_count-cons one.0 other))))

pub parts_left-nothing : (len sequence : ℕ) → parts_left len sequence [] ≡ Ok []
unfolding parts_left in_turn
parts_left-nothing len sequence = refl

-- a part, and those after it
pub parts_left-more : (len sequence : ℕ) (bytes : List ℕ) (part : Part) (rest : List ℕ) → 0 < length bytes
    → part_of_tag (len - length bytes) sequence (slice_index bytes 0) (drop 1 bytes) ≡ Ok (part, rest)
    → parts_left len sequence bytes ≡ parts_left len (sequence + change_count (part ∷ [])) rest >>= (λ more. Ok (part ∷ more))
unfolding parts_left in_turn
parts_left-more len sequence [] part rest some is = absurd (omega arith)
parts_left-more len sequence (b ∷ bytes) part rest some is =
    let first : batch_part_at len sequence [] (b ∷ bytes) ≡ Ok (part, rest) = ap (λ q. part_of_tag (len - length (b ∷ bytes)) q b bytes) (omega arith) ∙ is in
    let shorter : length rest < length (b ∷ bytes) = part_shorter len sequence [] (b ∷ bytes) (part, rest) first in
    let next = sequence + change_count (part ∷ []) in
    ap (λ r. r >>= (λ one. in_turn (batch_part_at len sequence) (length bytes) (one.0 ∷ []) one.1 >>= (λ more. Ok (one.0 ∷ more)))) first
    ∙ ap (λ r. r >>= (λ more. Ok (part ∷ more)))
    (shifted len sequence next (length bytes) (part ∷ []) [] rest (omega arith)
    ∙ in_turn-room (batch_part_at len next) (batch_shortens len next) (length bytes) (length rest) [] rest (omega arith) (omega arith))

-- the first fault
pub parts_left-fault : (len sequence : ℕ) (bytes : List ℕ) (why : BatchFault) → 0 < length bytes
    → part_of_tag (len - length bytes) sequence (slice_index bytes 0) (drop 1 bytes) ≡ Err why
    → parts_left len sequence bytes ≡ Err why
unfolding parts_left in_turn
parts_left-fault len sequence [] why some is = absurd (omega arith)
parts_left-fault len sequence (b ∷ bytes) why some is =
    let first : batch_part_at len sequence [] (b ∷ bytes) ≡ Err why = ap (λ q. part_of_tag (len - length (b ∷ bytes)) q b bytes) (omega arith) ∙ is in
    ap (λ r. r >>= (λ one. in_turn (batch_part_at len sequence) (length bytes) (one.0 ∷ []) one.1 >>= (λ more. Ok (one.0 ∷ more)))) first
