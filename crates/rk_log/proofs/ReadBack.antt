-- The records of a written log are read again.
use Rattle.std.proofs.Common.{◌≡◌, ℕ, zero, suc, ◌+◌, ◌-◌, ◌%◌, ◌^◌, ◌<◌, ◌≤◌, Bool, true, false, cond, ◌&&◌, ◌||◌, List, [], ◌∷◌, ◌++◌, length, take, drop, Option, Some, None, Result, Ok, Err, refl, sym, ap, subst, ◌∙◌, arith, inl, inr, length-append, length-drop, length-take, append_assoc}
use Rattle.std.specs.Prelude.{nat_lt, ◌==◌, fold, is_some, OnOk}
use Rattle.std.proofs.Math.Seq.{take-append-add}
use Rattle.std.proofs.lemmas.List.{append-nil, take-append-drop, length-replicate}
use Rattle.std.proofs.lemmas.List.Sums.{fold-append}
use Rattle.std.proofs.lemmas.Bool.{cases_lt, le-ltb, false≢true}
use Rattle.rk_bytes.specs.declared.model.log.EndKind.TheVariants.{Clean}
use Rattle.rk_bytes.specs.Model.LogMarks.{Mark, LogFile, up_to_end, block_len, blocks_marks, file_blocks, block_type, first_type, is_recycled, is_recyclable, is_zero_header, payload_len, log_marks}
use Rattle.rk_bytes.specs.Model.LogItems.{Item, rec, end, parting, log_items}
use Rattle.rk_bytes.specs.Model.WrittenLogs.{written_type, written_header_len, fragment_bytes, written_record, written_log}
use Rattle.rk_bytes.specs.declared.memory.Memory.{Memory}
use Rattle.rk_log.specs.Writing.{Writing, Extends, part_type, padding, SameLow, GivesBack}
use Rattle.rk_log.proofs.WriteLemmas.{block_len-is, payload_room, room_is, header_len-range, length-fragment_bytes, left_fragments, left_fragments-last, left_fragments-more, padding-some, padding-none, padded_place, padded_record, fills}
use Rattle.rk_log.proofs.BlockLemmas.{file_blocks-none, first_type-first, type_or}
use Rattle.rk_log.proofs.RoundTrip.{spells, kind_says, file_with, part_mark, found_written}
use Rattle.rk_log.proofs.Stream.{left_at, ahead, ahead-start, ahead-none, ahead-fragment, ahead-padding}

-- a written fragment gives its mark
ahead-written : (reader : ℕ) (number : Option ℕ) (begins ends : Bool) (pos : ℕ) (payload rest : List ℕ) → SameLow reader number → written_header_len number + length payload ≤ left_at pos
    → ahead (file_with reader number) pos (fragment_bytes number (part_type begins ends) payload ++ rest)
    ≡ part_mark begins ends payload pos ∷ ahead (file_with reader number) (pos + (written_header_len number + length payload)) rest
ahead-written reader number begins ends pos payload rest same fits =
    let header = header_len-range number in
    ahead-fragment (file_with reader number) pos (written_header_len number + length payload) (fragment_bytes number (part_type begins ends) payload) rest (part_mark begins ends payload pos)
    (length-fragment_bytes number (part_type begins ends) payload) (omega (arith, header.0)) fits
    (λ is_full more. found_written reader number begins ends is_full pos payload more same (omega (arith, header.0, fits)))

-- what is read from a place on
unfoldable pub read : LogFile → ℕ → ℕ → Option (List ℕ × ℕ) → List ℕ → List Item
read file file_len pos begun bytes = parting begun (up_to_end file_len (ahead file pos bytes))

-- a record of which this was read, or none
begun_by : Bool → List ℕ → ℕ → Option (List ℕ × ℕ)
begun_by true front from = None
begun_by false front from = Some (front, from)

part_last : (file : LogFile) (file_len pos from : ℕ) (begins : Bool) (front payload : List ℕ) (marks : List Mark) → (begins ≡ true → (front ≡ []) × (from ≡ pos))
    → parting (begun_by begins front from) (up_to_end file_len (part_mark begins true payload pos ∷ marks)) ≡ rec (front ++ payload) from ∷ parting None (up_to_end file_len marks)
unfolding begun_by
part_last file file_len pos from true front payload marks fresh =
    let is = fresh refl in
    λ i. rec (sym is.0 i ++ payload) (sym is.1 i) ∷ parting None (up_to_end file_len marks)
part_last file file_len pos from false front payload marks fresh = refl

part_more : (file_len pos from : ℕ) (begins : Bool) (front payload : List ℕ) (marks : List Mark) → (begins ≡ true → (front ≡ []) × (from ≡ pos))
    → parting (begun_by begins front from) (up_to_end file_len (part_mark begins false payload pos ∷ marks)) ≡ parting (begun_by false (front ++ payload) from) (up_to_end file_len marks)
unfolding begun_by
part_more file_len pos from true front payload marks fresh =
    let is = fresh refl in
    λ i. parting (Some (sym is.0 i ++ payload, sym is.1 i)) (up_to_end file_len marks)
part_more file_len pos from false front payload marks fresh = refl

-- the last fragment of a record is read
last_read : (reader : ℕ) (number : Option ℕ) (begins : Bool) (front : List ℕ) (from pos : ℕ) (payload rest : List ℕ) (file_len : ℕ) → SameLow reader number
    → (begins ≡ false → pos % 32768 ≡ 0) → (begins ≡ false → 0 < length payload)
    → length payload ≤ payload_room number pos → written_header_len number ≤ left_at pos → (begins ≡ true → (front ≡ []) × (from ≡ pos))
    → read (file_with reader number) file_len pos (begun_by begins front from) (left_fragments number begins pos payload ++ rest)
    ≡ rec (front ++ payload) from ∷ read (file_with reader number) file_len (pos + length (left_fragments number begins pos payload)) None rest
unfolding read
last_read reader number begins front from pos payload rest file_len same filled some fits place fresh =
    let file = file_with reader number in
    let is = left_fragments-last number begins pos payload fits filled some in
    let len : pos + (written_header_len number + length payload) ≡ pos + length (left_fragments number begins pos payload) = omega (arith, ap length is, length-fragment_bytes number (part_type begins true) payload) in
    ap (λ bytes. parting (begun_by begins front from) (up_to_end file_len (ahead file pos (bytes ++ rest)))) is
    ∙ (ap (λ marks. parting (begun_by begins front from) (up_to_end file_len marks)) (ahead-written reader number begins true pos payload rest same (omega (arith, room_is number pos)))
    ∙ (part_last file file_len pos from begins front payload (ahead file (pos + (written_header_len number + length payload)) rest) fresh
    ∙ ap (λ p. rec (front ++ payload) from ∷ parting None (up_to_end file_len (ahead file p rest))) len))

-- a fragment that fills its block is read, and then the others
more_read : (reader : ℕ) (number : Option ℕ) (begins : Bool) (front : List ℕ) (from pos : ℕ) (payload rest : List ℕ) (file_len : ℕ) → SameLow reader number
    → (begins ≡ false → pos % 32768 ≡ 0)
    → payload_room number pos < length payload → written_header_len number ≤ left_at pos → (begins ≡ true → (front ≡ []) × (from ≡ pos))
    → let room = payload_room number pos in
    let next = pos + written_header_len number + room in
    read (file_with reader number) file_len pos (begun_by begins front from) (left_fragments number begins pos payload ++ rest)
    ≡ read (file_with reader number) file_len next (begun_by false (front ++ take room payload) from) (left_fragments number false next (drop room payload) ++ rest)
unfolding read
more_read reader number begins front from pos payload rest file_len same filled more place fresh =
    let file = file_with reader number in
    let room = payload_room number pos in
    let later = left_fragments number false (pos + written_header_len number + room) (drop room payload) in
    let own = fragment_bytes number (part_type begins false) (take room payload) in
    let taken : length (take room payload) ≡ room = length-take room payload ∙ omega arith in
    let next : pos + (written_header_len number + length (take room payload)) ≡ pos + written_header_len number + room = omega (arith, taken) in
    ap (λ bytes. parting (begun_by begins front from) (up_to_end file_len (ahead file pos bytes)))
    (ap (λ bytes. bytes ++ rest) (left_fragments-more number begins pos payload more filled) ∙ append_assoc own later rest)
    ∙ (ap (λ marks. parting (begun_by begins front from) (up_to_end file_len marks)) (ahead-written reader number begins false pos (take room payload) (later ++ rest) same (omega (arith, taken, room_is number pos)))
    ∙ (part_more file_len pos from begins front (take room payload) (ahead file (pos + (written_header_len number + length (take room payload))) (later ++ rest)) fresh
    ∙ ap (λ p. parting (begun_by false (front ++ take room payload) from) (up_to_end file_len (ahead file p (later ++ rest)))) next))

-- how much is left to be read: its bytes, and one more before the first fragment, which may be empty
abbrev to_read : Bool → List ℕ → ℕ
to_read true payload = 1 + length payload
to_read false payload = length payload

none_to_read : (begins : Bool) (payload : List ℕ) → to_read begins payload ≤ 0 → (begins ≡ false → 0 < length payload) → ⊥
none_to_read true payload none some = omega arith
none_to_read false payload none some = omega (arith, some refl)

less_to_read : (number : Option ℕ) (n : ℕ) (begins : Bool) (pos : ℕ) (payload : List ℕ) → to_read begins payload ≤ suc n → (begins ≡ false → pos % 32768 ≡ 0)
    → length payload - payload_room number pos ≤ n
less_to_read number n true pos payload enough filled = omega arith
less_to_read number n false pos payload enough filled = let header = header_len-range number in omega (arith, room_is number pos, filled refl, header.1)

fragments_read : (reader : ℕ) (number : Option ℕ) (n : ℕ) (begins : Bool) (front : List ℕ) (from pos : ℕ) (payload rest : List ℕ) (file_len : ℕ) → SameLow reader number
    → to_read begins payload ≤ n → (begins ≡ false → pos % 32768 ≡ 0) → (begins ≡ false → 0 < length payload)
    → written_header_len number ≤ left_at pos → (begins ≡ true → (front ≡ []) × (from ≡ pos))
    → read (file_with reader number) file_len pos (begun_by begins front from) (left_fragments number begins pos payload ++ rest)
    ≡ rec (front ++ payload) from ∷ read (file_with reader number) file_len (pos + length (left_fragments number begins pos payload)) None rest
fragments_read reader number zero begins front from pos payload rest file_len same enough filled some place fresh = absurd (none_to_read begins payload enough some)
fragments_read reader number (suc n) begins front from pos payload rest file_len same enough filled some place fresh = elim (cases_lt (payload_room number pos) (length payload)) [
  | inr fits ↦ last_read reader number begins front from pos payload rest file_len same filled some fits place fresh
  | inl more ↦
      let file = file_with reader number in
      let room = payload_room number pos in
      let header = header_len-range number in
      let next = pos + written_header_len number + room in
      let later = left_fragments number false next (drop room payload) in
      let start : next % 32768 ≡ 0 = fills pos (written_header_len number) room next (room_is number pos) place (omega arith) in
      let taken : length (take room payload) ≡ room = length-take room payload ∙ omega arith in
      let left : length (drop room payload) ≡ length payload - room = length-drop room payload in
      let less : to_read false (drop room payload) ≤ n = omega (arith, left, less_to_read number n begins pos payload enough filled) in
      let len : next + length later ≡ pos + length (left_fragments number begins pos payload) =
      omega (arith, ap length (left_fragments-more number begins pos payload more filled), length-append (fragment_bytes number (part_type begins false) (take room payload)) later, length-fragment_bytes number (part_type begins false) (take room payload), taken) in
      more_read reader number begins front from pos payload rest file_len same filled more place fresh
      ∙ (fragments_read reader number n false (front ++ take room payload) from next (drop room payload) rest file_len same less
      (λ _. start) (λ _. omega (arith, left, more)) (omega (arith, start, header.1)) (λ begins_no. absurd (false≢true begins_no))
      ∙ (λ i. rec ((append_assoc front (take room payload) (drop room payload) ∙ ap (λ bytes. front ++ bytes) (take-append-drop room payload)) i) from ∷ read file file_len (len i) None rest))
]

padding_read : (file : LogFile) (number : Option ℕ) (pos : ℕ) (bytes : List ℕ) → ahead file pos (padding number pos ++ bytes) ≡ ahead file (pos + length (padding number pos)) bytes
padding_read file number pos bytes = elim (cases_lt (left_at pos) (written_header_len number)) [
  | inl short ↦
      let header = header_len-range number in
      let is = padding-some number pos short in
      let len : pos + left_at pos ≡ pos + length (padding number pos) = ap (λ n. pos + n) (sym (length-replicate (left_at pos) 0) ∙ ap length (sym is)) in
      ap (λ zeros. ahead file pos (zeros ++ bytes)) is
      ∙ (ahead-padding file pos bytes (omega (arith, header.1)) (omega arith)
      ∙ ap (λ p. ahead file p bytes) len)
  | inr enough ↦
      let is = padding-none number pos enough in
      let len : pos ≡ pos + length (padding number pos) = omega (arith, ap length is) in
      ap (λ zeros. ahead file pos (zeros ++ bytes)) is ∙ ap (λ p. ahead file p bytes) len
]

-- a record is read, and then what follows it
pub record_read : (reader : ℕ) (number : Option ℕ) (pos : ℕ) (payload rest : List ℕ) (file_len : ℕ) → SameLow reader number
    → read (file_with reader number) file_len pos None (written_record number pos payload ++ rest)
    ≡ rec payload (pos + length (padding number pos)) ∷ read (file_with reader number) file_len (pos + length (written_record number pos payload)) None rest
unfolding read begun_by left_fragments
record_read reader number pos payload rest file_len same =
    let file = file_with reader number in
    let pad = padding number pos in
    let place = pos + length pad in
    let fragments = left_fragments number true place payload in
    let is : written_record number pos payload ≡ pad ++ fragments = sym (padded_record number pos payload) in
    let len : place + length fragments ≡ pos + length (written_record number pos payload) = omega (arith, ap length is, length-append pad fragments) in
    ap (λ bytes. parting None (up_to_end file_len (ahead file pos bytes))) (ap (λ bytes. bytes ++ rest) is ∙ append_assoc pad fragments rest)
    ∙ (ap (λ marks. parting None (up_to_end file_len marks)) (padding_read file number pos (fragments ++ rest))
    ∙ (fragments_read reader number (1 + length payload) true [] place place payload rest file_len same (omega arith)
    (λ begins. absurd (false≢true (sym begins))) (λ begins. absurd (false≢true (sym begins))) (padded_place number pos) (λ _. (refl, refl))
    ∙ ap (λ p. rec payload place ∷ parting None (up_to_end file_len (ahead file p rest))) len))

-- ---- the whole log

add_record : Option ℕ → List ℕ → List ℕ → List ℕ
add_record number log payload = log ++ written_record number (length log) payload

-- the records that follow a log
records_after : Option ℕ → List ℕ → List (List ℕ) → List ℕ
records_after number log [] = []
records_after number log (payload ∷ payloads) = written_record number (length log) payload ++ records_after number (add_record number log payload) payloads

log_extends : (number : Option ℕ) (log : List ℕ) (payloads : List (List ℕ)) → fold (λ log payload. log ++ written_record number (length log) payload) log payloads ≡ log ++ records_after number log payloads
unfolding records_after add_record
log_extends number log [] = sym (append-nil log)
log_extends number log (payload ∷ payloads) =
    log_extends number (log ++ written_record number (length log) payload) payloads
    ∙ append_assoc log (written_record number (length log) payload) (records_after number (log ++ written_record number (length log) payload) payloads)

GivesBack-after : (reader : ℕ) (number : Option ℕ) (payloads : List (List ℕ)) (log : List ℕ) (file_len : ℕ) → SameLow reader number
    → GivesBack payloads (read (file_with reader number) file_len (length log) None (records_after number log payloads))
unfolding read records_after add_record
GivesBack-after reader number [] log file_len same =
    (file_len, ap (λ marks. parting None (up_to_end file_len marks)) (ahead-none (file_with reader number) (length log)))
GivesBack-after reader number (payload ∷ payloads) log file_len same =
    let file = file_with reader number in
    let next = log ++ written_record number (length log) payload in
    let is = record_read reader number (length log) payload (records_after number next payloads) file_len same in
    let len : length log + length (written_record number (length log) payload) ≡ length next = sym (length-append log (written_record number (length log) payload)) in (
      length log + length (padding number (length log)),
      read file file_len (length next) None (records_after number next payloads),
      is ∙ ap (λ p. rec payload (length log + length (padding number (length log))) ∷ read file file_len p None (records_after number next payloads)) len,
      GivesBack-after reader number payloads next file_len same,
    )

-- the first fragment of a record
record Begins (number : Option ℕ) (bytes : List ℕ) : Type 0 where
  ends : Bool
  part : List ℕ
  more : List ℕ
  short : written_header_len number + length part ≤ 32768
  is : bytes ≡ fragment_bytes number (part_type true ends) part ++ more

record_begins : (number : Option ℕ) (payload rest : List ℕ) → Begins number (written_record number 0 payload ++ rest)
unfolding left_fragments
record_begins number payload rest =
    let header = header_len-range number in
    let room = payload_room number 0 in
    let none = padding-none number 0 (omega (arith, header.1)) in
    let own : written_record number 0 payload ≡ left_fragments number true 0 payload =
    sym (padded_record number 0 payload) ∙ (λ i. none i ++ left_fragments number true (0 + length (none i)) payload) in
    elim (cases_lt room (length payload)) [
      | inr fits ↦ record {
        ends = true;
        part = payload;
        more = rest;
        short = omega (arith, room_is number 0, header.1);
        is = ap (λ bytes. bytes ++ rest) (own ∙ left_fragments-last number true 0 payload fits (λ begins. absurd (false≢true (sym begins))) (λ begins. absurd (false≢true (sym begins))));
      }
      | inl longer ↦ record {
        ends = false;
        part = take room payload;
        more = left_fragments number false (0 + written_header_len number + room) (drop room payload) ++ rest;
        short = omega (arith, length-take room payload, room_is number 0, header.1);
        is = ap (λ bytes. bytes ++ rest) (own ∙ left_fragments-more number true 0 payload longer (λ begins. absurd (false≢true (sym begins))))
            ∙ append_assoc (fragment_bytes number (part_type true false) (take room payload)) _ rest;
      }
    ]

recyclable_type : (number : Option ℕ) (ends : Bool) → is_recyclable (written_type number (part_type true ends)) ≡ is_some number
recyclable_type None true = refl
recyclable_type None false = refl
recyclable_type (Some number) true = refl
recyclable_type (Some number) false = refl

block_type-written : (number : Option ℕ) (ends : Bool) (part more : List ℕ) → length part < 2 ^ 16 → block_type (fragment_bytes number (part_type true ends) part ++ more) ≡ Some (written_type number (part_type true ends))
block_type-written number ends part more short =
    let bytes = fragment_bytes number (part_type true ends) part ++ more in
    let s = spells number (part_type true ends) part more short in
    let says = kind_says number true ends in
    let header = header_len-range number in
    let long : nat_lt (length bytes) 7 ≡ false = le-ltb _ _ (omega (arith, s.whole, header.0)) in
    let kept : is_zero_header bytes ≡ false = ap (λ one. one == 0 && payload_len bytes == 0) s.type_is ∙ ap (λ one. one && payload_len bytes == 0) says.not_zero in
    λ i. cond (long i || kept i) None (Some (s.type_is i))

recycled-written : (number : Option ℕ) (bytes : List ℕ) → Begins number bytes → is_recycled (first_type (file_blocks bytes)) ≡ is_some number
unfolding type_or
recycled-written number bytes b =
    let own = fragment_bytes number (part_type true b.ends) b.part in
    let header = header_len-range number in
    let len : length own ≡ written_header_len number + length b.part = length-fragment_bytes number (part_type true b.ends) b.part in
    let front : take block_len bytes ≡ own ++ take (block_len - length own) b.more =
    ap (take block_len) b.is ∙ (ap (λ n. take n (own ++ b.more)) (let parts : block_len ≡ length own + (block_len - length own) = omega (arith, len, b.short, header.1, block_len-is) in parts) ∙ take-append-add own b.more (block_len - length own)) in
    let kind = written_type number (part_type true b.ends) in
    ap is_recycled (first_type-first bytes ∙ ap (λ one. type_or one (first_type (file_blocks (drop block_len bytes))))
    (ap block_type front ∙ block_type-written number b.ends b.part (take (block_len - length own) b.more) (omega (arith, b.short))))
    ∙ recyclable_type number b.ends

items-read : (reader : ℕ) (number : Option ℕ) (bytes : List ℕ) → is_recycled (first_type (file_blocks bytes)) ≡ is_some number
    → log_items reader bytes ≡ read (file_with reader number) (length bytes) 0 None bytes
unfolding read log_marks file_with
items-read reader number bytes recycled =
    (λ i. parting None (up_to_end (length bytes) (blocks_marks (record { number = reader; recycled = recycled i }) 0 (file_blocks bytes))))
    ∙ ap (λ marks. parting None (up_to_end (length bytes) marks)) (sym (ahead-start (record { number = reader; recycled = is_some number }) 0 bytes refl))

items-none : (reader : ℕ) → log_items reader [] ≡ end Clean 0 ∷ []
unfolding log_marks blocks_marks
items-none reader =
    ap (λ blocks. parting None (up_to_end 0 (blocks_marks (record { number = reader; recycled = is_recycled (first_type blocks) }) 0 blocks))) (file_blocks-none [] refl)

-- a written log gives its records back
pub GivesBack-written : (reader : ℕ) (number : Option ℕ) (payloads : List (List ℕ)) → SameLow reader number → GivesBack payloads (log_items reader (written_log number payloads))
unfolding written_log log_marks records_after
GivesBack-written reader number [] same = (0, items-none reader)
GivesBack-written reader number (payload ∷ payloads) same =
    let bytes = records_after number [] (payload ∷ payloads) in
    subst (λ written. GivesBack (payload ∷ payloads) (log_items reader written)) (sym (log_extends number [] (payload ∷ payloads)))
    (subst (GivesBack (payload ∷ payloads)) (sym (items-read reader number bytes (recycled-written number bytes (record_begins number payload _))))
    (GivesBack-after reader number (payload ∷ payloads) [] (length bytes) same))

-- a record more
pub written_log-add : (number : Option ℕ) (payloads : List (List ℕ)) (payload log : List ℕ) → log ≡ written_log number payloads → written_log number (payloads ++ payload ∷ []) ≡ log ++ written_record number (length log) payload
unfolding written_log
written_log-add number payloads payload log is =
    fold-append (λ log payload. log ++ written_record number (length log) payload) [] payloads (payload ∷ [])
    ∙ ap (λ one. one ++ written_record number (length one) payload) (sym is)

pub written_log-none : (number : Option ℕ) → [] ≡ written_log number []
unfolding written_log
written_log-none number = refl

pub added_log : (result : Result (Unit {0}) Memory) (view self : Writing) (payload new : List ℕ) → view ≡ self → Extends view.bytes (written_record view.number (length view.bytes) payload) result new
    → OnOk result ((payloads : List (List ℕ)) → self.bytes ≡ written_log self.number payloads → new ≡ written_log self.number (payloads ++ payload ∷ []))
added_log (Ok done) view self payload new same extends =
    subst (λ (one : Writing). (payloads : List (List ℕ)) → one.bytes ≡ written_log one.number payloads → new ≡ written_log one.number (payloads ++ payload ∷ [])) same
    (λ payloads is. extends ∙ sym (written_log-add view.number payloads payload view.bytes is))
added_log (Err memory) view self payload new same extends = tt
