-- A batch that is read, from its header on.
use Rattle.std.specs.Prelude.{not, ◌==◌, ◌||◌, slice_index}
use Rattle.std.proofs.Common.{◌≡◌, ◌⊎◌, ℕ, ◌+◌, ◌-◌, ◌^◌, ◌<◌, ◌≤◌, ◌≢◌, Bool, true, false, cond, List, [], ◌∷◌, length, drop, Result, Ok, Err, refl, sym, ap, ◌∙◌, subst, inl, inr, arith, length-drop}
use Rattle.std.proofs.lemmas.Bool.{lt-ltb, le-ltb, cond-true, cond-false, ne_eqb, eq-eqb}
use Rattle.std.proofs.lemmas.List.{nil_from_length}
use Rattle.rk_bytes.specs.declared.model.batch.BatchFault.{BatchFault}
use Rattle.rk_bytes.specs.declared.model.batch.BatchFault.TheVariants.{TooSmall, WrongCount, SequenceTop}
use Rattle.rk_bytes.specs.Model.Numbers.{◌>>=◌}
use Rattle.rk_bytes.specs.Model.InternalKey.{top_sequence}
use Rattle.rk_bytes.specs.Model.WriteBatch.{Part, Batch, change_count, batch_part_at, batch_sequence, stated_count, parts_after_header, passes_top, batch_with, part_of_tag, batch_of}
use Rattle.rk_bytes.specs.Reading.{Reading, IsFurther, rest_of}
use Rattle.rk_bytes.proofs.Callers.InTurn.{in_turn-room}
use Rattle.rk_batch.specs.Seen.{parts_left, parts_or_none, batch_or_none, counted}
use Rattle.rk_batch.specs.Read.{IsRead, ReadAs}
use Rattle.rk_batch.proofs.Shorter.{batch_shortens}
use Rattle.rk_batch.proofs.ViewLemmas.{change_count-cons, parts_left-nothing, parts_left-more, parts_left-fault}
use Rattle.rk_batch.proofs.CountLemmas.{placed}

abbrev at_header : List ℕ → Reading
at_header bytes = record { bytes = bytes; place = 12 }

abbrev pub header_left : List ℕ → Result (List Part) BatchFault
header_left bytes = parts_left (length bytes) (batch_sequence bytes) (drop 12 bytes)

-- what was counted from a cursor after the header
pub counted_at_header : (bytes : List ℕ) (cursor : Reading) (count : Result ℕ BatchFault) → cursor ≡ at_header bytes → count ≡ counted (parts_left (length cursor.bytes) (batch_sequence bytes) (rest_of cursor)) → count ≡ counted (header_left bytes)
counted_at_header bytes cursor count is counts = counts ∙ ap (λ (c : Reading). counted (parts_left (length c.bytes) (batch_sequence bytes) (rest_of c))) is

header_parts : (bytes : List ℕ) → parts_after_header bytes ≡ header_left bytes
unfolding parts_left
header_parts bytes =
    in_turn-room (batch_part_at (length bytes) (batch_sequence bytes)) (batch_shortens (length bytes) (batch_sequence bytes)) (length bytes) (length (drop 12 bytes)) [] (drop 12 bytes)
    (omega (arith, length-drop 12 bytes)) (omega arith)

long_batch : (bytes : List ℕ) → 12 ≤ length bytes → batch_of bytes ≡ header_left bytes >>= batch_with bytes
unfolding batch_of
long_batch bytes long = cond-false _ _ _ (le-ltb (length bytes) 12 long) ∙ ap (λ parts. parts >>= batch_with bytes) (header_parts bytes)

pub short_batch : (bytes : List ℕ) → length bytes < 12 → batch_of bytes ≡ Err TooSmall
unfolding batch_of
short_batch bytes short = cond-true _ _ _ (lt-ltb (length bytes) 12 short)

-- a fault of a part is the batch's
pub faulty_batch : (bytes : List ℕ) (why : BatchFault) → 12 ≤ length bytes → Err why ≡ counted (header_left bytes) → batch_of bytes ≡ Err why
faulty_batch bytes why long is = long_batch bytes long ∙ by (header_left bytes) is
  where
    by : (parts : Result (List Part) BatchFault) → Err why ≡ counted parts → parts >>= batch_with bytes ≡ Err why
    by (Ok parts) is = absurd cc
    by (Err other) is = let same : why ≡ other = cc in ap Err (sym same)

-- the parts that were counted
pub record Found (bytes : List ℕ) (count : ℕ) : Type 0 where
  pub parts : List Part
  pub read : header_left bytes ≡ Ok parts
  pub changes : change_count parts ≡ count

pub found_parts : (bytes : List ℕ) (count : ℕ) → Ok count ≡ counted (header_left bytes) → Found bytes count
found_parts bytes count is = by (header_left bytes) refl is
  where
    by : (parts : Result (List Part) BatchFault) → header_left bytes ≡ parts → Ok count ≡ counted parts → Found bytes count
    by (Ok parts) read is = record { parts = parts; read = read; changes = let same : count ≡ change_count parts = cc in sym same }
    by (Err why) read is = absurd cc

with_parts : (bytes : List ℕ) (count : ℕ) → 12 ≤ length bytes → (f : Found bytes count) → batch_of bytes ≡ batch_with bytes f.parts
with_parts bytes count long f = long_batch bytes long ∙ ap (λ parts. parts >>= batch_with bytes) f.read

pub wrong_count : (bytes : List ℕ) (stated count : ℕ) → 12 ≤ length bytes → stated ≡ stated_count bytes → stated ≢ count → Ok count ≡ counted (header_left bytes) → batch_of bytes ≡ Err (WrongCount stated count)
wrong_count bytes stated count long is other counts =
    let f = found_parts bytes count counts in
    let differs : not (stated_count bytes == change_count f.parts) ≡ true = ap not (ne_eqb (stated_count bytes) (change_count f.parts) (λ same. other (is ∙ same ∙ f.changes))) in
    with_parts bytes count long f ∙ cond-true _ _ _ differs ∙ (λ i. Err (WrongCount (sym is i) (f.changes i)))

right_count : (bytes : List ℕ) (stated count : ℕ) (f : Found bytes count) → stated ≡ stated_count bytes → stated ≡ count → not (stated_count bytes == change_count f.parts) ≡ false
right_count bytes stated count f is same = ap not (eq-eqb (stated_count bytes) (change_count f.parts) (sym is ∙ same ∙ sym f.changes))

either : (a b : Bool) → (a ≡ true) ⊎ (b ≡ true) → (a || b) ≡ true
either true b is = refl
either false b (inl is) = absurd cc
either false b (inr is) = is

neither : (a b : Bool) → a ≡ false → b ≡ false → (a || b) ≡ false
neither true b is other = absurd cc
neither false b is other = other

above_top : (sequence count : ℕ) → (top_sequence < sequence) ⊎ (top_sequence + 1 < sequence + count) → passes_top sequence count ≡ true
above_top sequence count (inl above) = either _ _ (inl (lt-ltb top_sequence sequence above))
above_top sequence count (inr above) = either _ _ (inr (lt-ltb (top_sequence + 1) (sequence + count) above))

below_top : (sequence count : ℕ) → sequence ≤ top_sequence → sequence + count ≤ top_sequence + 1 → passes_top sequence count ≡ false
below_top sequence count below last = neither _ _ (le-ltb top_sequence sequence below) (le-ltb (top_sequence + 1) (sequence + count) last)

pub past_top : (bytes : List ℕ) (sequence stated count : ℕ) → 12 ≤ length bytes → sequence ≡ batch_sequence bytes → stated ≡ stated_count bytes → stated ≡ count
    → (top_sequence < sequence) ⊎ (top_sequence + 1 < sequence + count) → Ok count ≡ counted (header_left bytes) → batch_of bytes ≡ Err SequenceTop
past_top bytes sequence stated count long seq is same above counts =
    let f = found_parts bytes count counts in
    let above : passes_top (batch_sequence bytes) (change_count f.parts) ≡ true = (λ i. passes_top (sym seq i) (f.changes i)) ∙ above_top sequence count above in
    with_parts bytes count long f ∙ cond-false _ _ _ (right_count bytes stated count f is same) ∙ cond-true _ _ _ above

-- a good batch: its parts, its sequence number and its count of changes
pub record Good (bytes : List ℕ) (sequence count : ℕ) : Type 0 where
  pub parts : List Part
  pub long : 12 ≤ length bytes
  pub read : parts_left (length bytes) sequence (drop 12 bytes) ≡ Ok parts
  pub batch : batch_of bytes ≡ Ok (record { sequence = sequence; parts = parts })
  pub changes : change_count parts ≡ count
  pub fits : sequence + count ≤ 2 ^ 56

pub good_batch : (bytes : List ℕ) (sequence stated count : ℕ) → 12 ≤ length bytes → sequence ≡ batch_sequence bytes → stated ≡ stated_count bytes → stated ≡ count
    → sequence ≤ top_sequence → sequence + count ≤ top_sequence + 1 → Ok count ≡ counted (header_left bytes) → Good bytes sequence stated
good_batch bytes sequence stated count long seq is same below fits counts =
    let f = found_parts bytes count counts in
    let within : passes_top (batch_sequence bytes) (change_count f.parts) ≡ false = (λ i. passes_top (sym seq i) (f.changes i)) ∙ below_top sequence count below fits in record {
      parts = f.parts;
      long = long;
      read = ap (λ q. parts_left (length bytes) q (drop 12 bytes)) seq ∙ f.read;
      batch = with_parts bytes count long f ∙ cond-false _ _ _ (right_count bytes stated count f is same) ∙ cond-false _ _ _ within ∙ ap (λ q. Ok (record { sequence = q; parts = f.parts })) (sym seq);
      changes = f.changes ∙ sym same;
      fits = omega (arith, same, fits);
    }

pub Good-IsRead : (bytes : List ℕ) (sequence count : ℕ) → Good bytes sequence count → IsRead bytes (at_header bytes) sequence sequence count
Good-IsRead bytes sequence count g =
    let batch = ap batch_or_none g.batch in
    let parts = ap parts_or_none g.read in record {
      same = refl;
      within = g.long;
      long = g.long;
      whole = g.batch ∙ ap Ok (sym batch);
      left = g.read ∙ ap Ok (sym parts);
      first = ap (λ (b : Batch). b.sequence) (sym batch);
      changes = sym g.changes ∙ ap (λ (b : Batch). change_count b.parts) (sym batch);
      numbered = ap (λ parts. sequence + change_count parts) parts ∙ ap (λ n. sequence + n) g.changes;
      fits = g.fits;
    }

pub Good-seen : (bytes : List ℕ) (sequence count : ℕ) → Good bytes sequence count
    → ReadAs (Ok (record { batch = batch_or_none (batch_of bytes); left = parts_or_none (parts_left (length bytes) sequence (drop 12 bytes)) })) (batch_of bytes)
Good-seen bytes sequence count g = subst (λ read. ReadAs (Ok (record { batch = batch_or_none (batch_of bytes); left = parts_or_none (parts_left (length bytes) sequence (drop 12 bytes)) })) read) (sym g.batch)
    (λ i. record { batch = batch_or_none (g.batch i); left = parts_or_none (g.read i) })

-- a batch that reads has these parts after its header
pub batch_parts : (bytes : List ℕ) (batch : Batch) → 12 ≤ length bytes → batch_of bytes ≡ Ok batch → (batch.sequence ≡ batch_sequence bytes) × (header_left bytes ≡ Ok batch.parts)
batch_parts bytes batch long is = by (header_left bytes) refl (sym (long_batch bytes long) ∙ is)
  where
    chosen : (parts : List Part) (test above : Bool) (why other : BatchFault) → cond test (Err why) (cond above (Err other) (Ok (record { sequence = batch_sequence bytes; parts = parts }))) ≡ Ok batch
        → (batch.sequence ≡ batch_sequence bytes) × (parts ≡ batch.parts)
    chosen parts true above why other e = absurd cc
    chosen parts false true why other e = absurd cc
    chosen parts false false why other e = let same : record { sequence = batch_sequence bytes; parts = parts } ≡ batch = cc in (ap (λ (b : Batch). b.sequence) (sym same), ap (λ (b : Batch). b.parts) same)

    by : (parts : Result (List Part) BatchFault) → header_left bytes ≡ parts → parts >>= batch_with bytes ≡ Ok batch → (batch.sequence ≡ batch_sequence bytes) × (header_left bytes ≡ Ok batch.parts)
    by (Ok parts) read e = let both = chosen parts (not (stated_count bytes == change_count parts)) (passes_top (batch_sequence bytes) (change_count parts)) (WrongCount (stated_count bytes) (change_count parts)) SequenceTop e in (both.0, read ∙ ap Ok both.1)
    by (Err why) read e = absurd cc

-- what a view was before its first part
pub IsRead-Good : (bytes : List ℕ) (cursor : Reading) (next sequence count : ℕ) → IsRead bytes cursor next sequence count → Good bytes sequence count
IsRead-Good bytes cursor next sequence count r =
    let batch = batch_or_none (batch_of bytes) in
    let both = batch_parts bytes batch r.long r.whole in record {
      parts = batch.parts;
      long = r.long;
      read = ap (λ q. parts_left (length bytes) q (drop 12 bytes)) (r.first ∙ both.0) ∙ both.1;
      batch = r.whole ∙ ap (λ q. Ok (record { sequence = q; parts = batch.parts })) (sym r.first);
      changes = sym r.changes;
      fits = r.fits;
    }

-- after the header stand all parts of the batch
pub whole_left : (bytes : List ℕ) (cursor : Reading) (next sequence count : ℕ) → IsRead bytes cursor next sequence count
    → parts_or_none (parts_left (length bytes) sequence (drop 12 bytes)) ≡ (batch_or_none (batch_of bytes)).parts
whole_left bytes cursor next sequence count r =
    let both = batch_parts bytes (batch_or_none (batch_of bytes)) r.long r.whole in
    ap parts_or_none (ap (λ q. parts_left (length bytes) q (drop 12 bytes)) (r.first ∙ both.0) ∙ both.1)

then_more : (r : Result (List Part) BatchFault) (part : Part) (left : List Part) → r >>= (λ more. Ok (part ∷ more)) ≡ Ok left → (r ≡ Ok (parts_or_none r)) × (left ≡ part ∷ parts_or_none r)
then_more (Ok parts) part left is = let same : part ∷ parts ≡ left = cc in (refl, sym same)
then_more (Err why) part left is = absurd cc

-- one part more is handed out
pub IsRead-more : (bytes : List ℕ) (cursor after : Reading) (next sequence count then : ℕ) (part : Part) → IsRead bytes cursor next sequence count → IsFurther cursor after → 0 < length (rest_of cursor)
    → ◌≡◌ {A = Result (Part × List ℕ) BatchFault} (Ok (part, rest_of after)) (part_of_tag cursor.place next (slice_index (rest_of cursor) 0) (drop 1 (rest_of cursor)))
    → then ≡ next + change_count (part ∷ [])
    → IsRead bytes after then sequence count × (parts_or_none (parts_left (length bytes) next (rest_of cursor)) ≡ part ∷ parts_or_none (parts_left (length bytes) then (rest_of after)))
IsRead-more bytes cursor after next sequence count then part r further some reads is =
    let len = length bytes in
    let place : len - length (rest_of cursor) ≡ cursor.place = placed (record { bytes = bytes; place = 0 }) cursor r.same (omega (arith, r.within, ap length r.same)) in
    let read : part_of_tag (len - length (rest_of cursor)) next (slice_index (rest_of cursor) 0) (drop 1 (rest_of cursor)) ≡ Ok (part, rest_of after) =
    ap (λ place. part_of_tag place next (slice_index (rest_of cursor) 0) (drop 1 (rest_of cursor))) place ∙ sym reads in
    let more : parts_left len next (rest_of cursor) ≡ parts_left len then (rest_of after) >>= (λ more. Ok (part ∷ more)) =
    parts_left-more len next (rest_of cursor) part (rest_of after) some read ∙ ap (λ q. parts_left len q (rest_of after) >>= (λ more. Ok (part ∷ more))) (sym is) in
    let both = then_more (parts_left len then (rest_of after)) part (parts_or_none (parts_left len next (rest_of cursor))) (sym more ∙ r.left) in
    let fewer = ap change_count both.1 in
    let within : after.place ≤ length after.bytes = further.within (omega (arith, r.within, ap length r.same)) in (
      record {
        same = further.same ∙ r.same;
        within = omega (arith, within, ap length further.same, ap length r.same);
        long = r.long;
        whole = r.whole;
        left = both.0;
        first = r.first;
        changes = r.changes;
        numbered = omega (arith, r.numbered, fewer, is, change_count-cons part (parts_or_none (parts_left len then (rest_of after))));
        fits = r.fits;
      },
      both.1,
    )

-- no part fails to read
pub IsRead-never : (bytes : List ℕ) (cursor : Reading) (next sequence count : ℕ) (why : BatchFault) → IsRead bytes cursor next sequence count → 0 < length (rest_of cursor)
    → ◌≡◌ {A = Result (Part × List ℕ) BatchFault} (Err why) (part_of_tag cursor.place next (slice_index (rest_of cursor) 0) (drop 1 (rest_of cursor))) → ⊥
IsRead-never bytes cursor next sequence count why r some reads =
    let len = length bytes in
    let place : len - length (rest_of cursor) ≡ cursor.place = placed (record { bytes = bytes; place = 0 }) cursor r.same (omega (arith, r.within, ap length r.same)) in
    let fault = parts_left-fault len next (rest_of cursor) why some (ap (λ place. part_of_tag place next (slice_index (rest_of cursor) 0) (drop 1 (rest_of cursor))) place ∙ sym reads) in
    let both : ◌≡◌ {A = Result (List Part) BatchFault} (Err why) (Ok (parts_or_none (parts_left len next (rest_of cursor)))) = sym fault ∙ r.left in cc

-- nothing is left where no byte is
pub nothing_left : (bytes : List ℕ) (cursor : Reading) (next : ℕ) → length (rest_of cursor) ≡ 0 → parts_or_none (parts_left (length bytes) next (rest_of cursor)) ≡ []
nothing_left bytes cursor next none = ap (λ rest. parts_or_none (parts_left (length bytes) next rest)) (nil_from_length (rest_of cursor) none) ∙ ap parts_or_none (parts_left-nothing (length bytes) next)
