-- The changes of a batch, counted part after part.
use Rattle.std.specs.Prelude.{slice_index}
use Rattle.std.proofs.Common.{◌≡◌, ℕ, ◌+◌, ◌-◌, ◌<◌, ◌≤◌, List, [], ◌∷◌, ◌++◌, length, drop, Result, Ok, Err, refl, sym, ap, ◌∙◌, arith, length-drop, append_assoc}
use Rattle.std.proofs.lemmas.List.{append-nil, nil_from_length}
use Rattle.rk_bytes.specs.declared.model.batch.BatchFault.{BatchFault}
use Rattle.rk_bytes.specs.Model.Numbers.{◌>>=◌}
use Rattle.rk_bytes.specs.Model.WriteBatch.{Part, change_count, part_of_tag}
use Rattle.rk_bytes.specs.Reading.{Reading, IsFurther, rest_of}
use Rattle.rk_bytes.proofs.Callers.Cursors.{place_of_rest}
use Rattle.rk_batch.specs.Seen.{parts_left, counted}
use Rattle.rk_batch.proofs.ViewLemmas.{change_count-cons, parts_left-nothing, parts_left-more, parts_left-fault}
use Rattle.rk_batch.proofs.Shorter.{rest_shorter}

-- the parts so far, and what is read of those that are left
pub record Front (len sequence : ℕ) (start now : List ℕ) (count : ℕ) : Type 0 where
  pub front : List Part
  pub changes : change_count front ≡ count
  pub whole : parts_left len sequence start ≡ parts_left len (sequence + count) now >>= (λ more. Ok (front ++ more))

-- so many changes stand between two places of a batch
pub record Counting (start now : Reading) (count : ℕ) : Type 0 where
  pub same : now.bytes ≡ start.bytes
  pub within : now.place ≤ length now.bytes
  pub few : count ≤ now.place
  pub so_far : (sequence : ℕ) → Front (length start.bytes) sequence (rest_of start) (rest_of now) count

whole_start : {F : Type 0} (r : Result (List Part) F) → r ≡ r >>= (λ more. Ok ([] ++ more))
whole_start (Ok parts) = refl
whole_start (Err why) = refl

pub Counting-start : (start : Reading) → start.place ≤ length start.bytes → Counting start start 0
Counting-start start within = record {
  same = refl;
  within = within;
  few = omega arith;
  so_far = λ sequence. record {
    front = [];
    changes = refl;
    whole = whole_start (parts_left (length start.bytes) sequence (rest_of start)) ∙ ap (λ q. parts_left (length start.bytes) q (rest_of start) >>= (λ more. Ok ([] ++ more))) (omega arith);
  };
}

change_count-append : (front : List Part) (part : Part) → change_count (front ++ part ∷ []) ≡ change_count front + change_count (part ∷ [])
change_count-append [] part = omega arith
change_count-append (one ∷ front) part = omega (arith, change_count-cons one (front ++ part ∷ []), change_count-cons one front, change_count-append front part)

then_one : {F : Type 0} (r : Result (List Part) F) (front : List Part) (part : Part) → (r >>= (λ more. Ok (part ∷ more))) >>= (λ more. Ok (front ++ more)) ≡ r >>= (λ more. Ok ((front ++ part ∷ []) ++ more))
then_one (Ok parts) front part = ap Ok (sym (append_assoc front (part ∷ []) parts))
then_one (Err why) front part = refl

-- the place of a part, by what is left
pub placed : (start now : Reading) → now.bytes ≡ start.bytes → now.place ≤ length now.bytes → length start.bytes - length (rest_of now) ≡ now.place
placed start now same within = ap (λ len. len - length (rest_of now)) (ap length (sym same)) ∙ place_of_rest now within

one_further : (start now after : Reading) (count more : ℕ) (part : ℕ → Part) → Counting start now count → 0 < length (rest_of now)
    → ((sequence : ℕ) → ◌≡◌ {A = Result (Part × List ℕ) BatchFault} (Ok (part sequence, rest_of after)) (part_of_tag now.place sequence (slice_index (rest_of now) 0) (drop 1 (rest_of now))))
    → ((sequence : ℕ) → more ≡ change_count (part sequence ∷ [])) → (sequence : ℕ) → Front (length start.bytes) sequence (rest_of start) (rest_of after) (count + more)
one_further start now after count more part c some reads counts sequence =
    let f = c.so_far sequence in
    let len = length start.bytes in
    let q = sequence + count in
    let read : part_of_tag (len - length (rest_of now)) q (slice_index (rest_of now) 0) (drop 1 (rest_of now)) ≡ Ok (part q, rest_of after) =
    ap (λ place. part_of_tag place q (slice_index (rest_of now) 0) (drop 1 (rest_of now))) (placed start now c.same c.within) ∙ sym (reads q) in
    let next : q + change_count (part q ∷ []) ≡ sequence + (count + more) = omega (arith, counts q) in record {
      front = f.front ++ part q ∷ [];
      changes = omega (arith, change_count-append f.front (part q), f.changes, counts q);
      whole =
          f.whole ∙ ap (λ r. r >>= (λ more. Ok (f.front ++ more))) (parts_left-more len q (rest_of now) (part q) (rest_of after) some read)
          ∙ then_one (parts_left len (q + change_count (part q ∷ [])) (rest_of after)) f.front (part q)
          ∙ ap (λ q'. parts_left len q' (rest_of after) >>= (λ more. Ok ((f.front ++ part q ∷ []) ++ more))) next;
    }

pub Counting-more : (start now after : Reading) (count more : ℕ) (part : ℕ → Part) → Counting start now count → IsFurther now after → 0 < length (rest_of now)
    → ((sequence : ℕ) → ◌≡◌ {A = Result (Part × List ℕ) BatchFault} (Ok (part sequence, rest_of after)) (part_of_tag now.place sequence (slice_index (rest_of now) 0) (drop 1 (rest_of now))))
    → ((sequence : ℕ) → more ≡ change_count (part sequence ∷ [])) → more ≤ 1 → Counting start after (count + more)
Counting-more start now after count more part c further some reads counts few =
    let shorter : length (rest_of after) < length (rest_of now) = rest_shorter now.place 0 (rest_of now) (part 0) (rest_of after) some (sym (reads 0)) in
    let as_long : length after.bytes ≡ length now.bytes = ap length further.same in
    let within : after.place ≤ length after.bytes = further.within c.within in record {
      same = further.same ∙ c.same;
      within = within;
      few = omega (arith, c.few, few, shorter, as_long, within, c.within, length-drop now.place now.bytes, length-drop after.place after.bytes);
      so_far = λ sequence. one_further start now after count more part c some reads counts sequence;
    }

pub Counting-end : (start now : Reading) (count sequence : ℕ) → Counting start now count → length (rest_of now) ≡ 0 → Ok count ≡ counted (parts_left (length start.bytes) sequence (rest_of start))
Counting-end start now count sequence c ended =
    let f = c.so_far sequence in
    let nothing : rest_of now ≡ [] = nil_from_length (rest_of now) ended in
    let whole = f.whole ∙ ap (λ r. r >>= (λ more. Ok (f.front ++ more))) (ap (parts_left (length start.bytes) (sequence + count)) nothing ∙ parts_left-nothing (length start.bytes) (sequence + count)) in
    ap Ok (sym f.changes ∙ ap change_count (sym (append-nil f.front))) ∙ ap counted (sym whole)

pub Counting-fault : (start now : Reading) (count sequence : ℕ) (why : BatchFault) → Counting start now count → 0 < length (rest_of now)
    → ((sequence : ℕ) → ◌≡◌ {A = Result (Part × List ℕ) BatchFault} (Err why) (part_of_tag now.place sequence (slice_index (rest_of now) 0) (drop 1 (rest_of now))))
    → Err why ≡ counted (parts_left (length start.bytes) sequence (rest_of start))
Counting-fault start now count sequence why c some reads =
    let f = c.so_far sequence in
    let q = sequence + count in
    let read : part_of_tag (length start.bytes - length (rest_of now)) q (slice_index (rest_of now) 0) (drop 1 (rest_of now)) ≡ Err why =
    ap (λ place. part_of_tag place q (slice_index (rest_of now) 0) (drop 1 (rest_of now))) (placed start now c.same c.within) ∙ sym (reads q) in
    ap counted (sym (f.whole ∙ ap (λ r. r >>= (λ more. Ok (f.front ++ more))) (parts_left-fault (length start.bytes) q (rest_of now) why some read)))
