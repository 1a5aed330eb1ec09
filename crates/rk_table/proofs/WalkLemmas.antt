-- The steps of a walk over a data block.
use Rattle.std.proofs.Common.{◌≡◌, ℕ, zero, suc, ◌+◌, ◌-◌, ◌^◌, ◌≤◌, Bool, true, false, cond, List, [], ◌∷◌, ◌++◌, length, map, take, drop, min, max, Option, Some, None, IfSome, Result, Ok, Err, refl, sym, ◌∙◌, ap, subst, arith}
use Rattle.std.specs.Prelude.{unwrap_or, OnOk, not, ◌&&◌}
use Rattle.std.specs.Result.{is_err}
use Rattle.std.specs.List.{last_or}
use Rattle.std.specs.Ordering.{is_gt, nat_cmp, ordering_then}
use Rattle.std.specs.declared.cmp.Ordering.TheVariants.{Equal}
use Rattle.std.specs.Cmp.{nat_cmp_is}
use Rattle.std.specs.Cmp.Lexicographic.{slice_cmp}
use Rattle.std.proofs.Math.Seq.{take-append-add, drop-append-add}
use Rattle.std.proofs.lemmas.List.{length-append, length-take-le, take-append-drop}
use Rattle.rk_bytes.specs.Model.Numbers.{little_endian}
use Rattle.rk_bytes.specs.declared.model.block.IndexEntry.{IndexEntry}
use Rattle.rk_bytes.specs.declared.model.key.KeyFault.{KeyFault}
use Rattle.rk_bytes.specs.declared.model.key.KeyFault.TheVariants.{Short, UnsupportedKind, UnknownKind}
use Rattle.rk_bytes.specs.declared.model.table.TableWhy.TheVariants.{BadKey, BadOrder, BadSeparator}
use Rattle.rk_bytes.specs.Model.Numbers.{◌>>=◌}
use Rattle.rk_bytes.specs.declared.model.block.BlockFault.{BlockFault}
use Rattle.rk_bytes.specs.Model.BlockEntries.{Entry}
use Rattle.rk_bytes.specs.Model.InternalKey.{KeyParts, user_key, packed, key_parts, key_cmp}
use Rattle.rk_bytes.specs.Model.TableStatus.{TableFault, damaged, DataEntry, block_status, is_range_deletion, is_above, entry_after, records_after, last_key, separator_cmp, are_separated}
use Rattle.rk_bytes.proofs.Callers.Readings.{passed, taken}
use Rattle.rk_block.specs.declared.entry.RawEntry.{RawEntry}
use Rattle.rk_block.specs.Raw.{key_after, entry_of}
use Rattle.rk_table.specs.declared.status.WalkErr.{WalkErr}
use Rattle.rk_table.specs.declared.status.WalkErr.TheVariants as err
use Rattle.rk_table.specs.declared.walk.Checked.{Checked}
use Rattle.rk_table.specs.declared.walk.Walk.{Walk}
use Rattle.rk_table.specs.Told.{Tells}
use Rattle.rk_table.specs.declared.walk.LastKey.TheVariants.{Here}
use Rattle.rk_block.specs.Tested.{TestedSeen, preceded as first_of, Gives}
use Rattle.rk_table.specs.Walks.{entry_made, key_kept, before_of, IsFresh, IsFault, told_with, walk_left, IsWalk, handed_out, preceded, HandsOut, block_told}
use Rattle.rk_table.specs.declared.records.Records.{Records}
use Rattle.rk_table.specs.Blocks.{Rise, top_with, Counted, AreRecords, data_told}

-- what two lists begin with doesn't tell them apart
same_front : (front a b : List ℕ) → slice_cmp nat_cmp (front ++ a) (front ++ b) ≡ slice_cmp nat_cmp a b
same_front [] a b = refl
same_front (x ∷ front) a b = ap (λ o. ordering_then o (slice_cmp nat_cmp (front ++ a) (front ++ b))) (sym (nat_cmp_is x x Equal refl)) ∙ same_front front a b

-- the parts of a key of which the last bytes are these
user_behind : (front a : List ℕ) → 8 ≤ length a → user_key (front ++ a) ≡ front ++ user_key a
user_behind front a long =
    let n : length (front ++ a) - 8 ≡ length front + (length a - 8) = omega (arith, length-append front a, long) in
    ap (λ n. take n (front ++ a)) n ∙ take-append-add front a (length a - 8)

packed_behind : (front a : List ℕ) → 8 ≤ length a → packed (front ++ a) ≡ packed a
packed_behind front a long =
    let n : length (front ++ a) - 8 ≡ length front + (length a - 8) = omega (arith, length-append front a, long) in
    ap (λ n. little_endian (drop n (front ++ a))) n ∙ ap little_endian (drop-append-add front a (length a - 8))

-- what two keys begin with doesn't tell them apart
cmp_behind : (front a b : List ℕ) → 8 ≤ length a → 8 ≤ length b → key_cmp (front ++ a) (front ++ b) ≡ key_cmp a b
cmp_behind front a b a_long b_long =
    (λ i. ordering_then (slice_cmp nat_cmp (user_behind front a a_long i) (user_behind front b b_long i)) (nat_cmp (packed_behind front b b_long i) (packed_behind front a a_long i)))
    ∙ ap (λ o. ordering_then o (nat_cmp (packed b) (packed a))) (same_front front (user_key a) (user_key b))

-- how the key of an entry stands to the key before it
pub cmp_rests : (key : List ℕ) (raw : RawEntry) → 8 ≤ length raw.rest.now → 8 ≤ length (drop raw.shared key) → key_cmp (key_after key raw) key ≡ key_cmp raw.rest.now (drop raw.shared key)
cmp_rests key raw rest_long long =
    ap (key_cmp (key_after key raw)) (sym (take-append-drop raw.shared key))
    ∙ cmp_behind (take raw.shared key) raw.rest.now (drop raw.shared key) rest_long long

-- a key is rebuilt of what it shares as well
pub after_front : (key : List ℕ) (raw : RawEntry) → key_after (take raw.shared key) raw ≡ key_after key raw
after_front key raw = ap (λ front. front ++ raw.rest.now) (take_twice raw.shared key)
  where
    take_twice : (n : ℕ) (l : List ℕ) → take n (take n l) ≡ take n l
    take_twice zero l = refl
    take_twice (suc n) [] = refl
    take_twice (suc n) (x ∷ l) = ap (λ l. x ∷ l) (take_twice n l)

-- what may follow a key is above it
above_of : (place : ℕ) (before : Option (List ℕ)) (entry : Entry (List ℕ)) (r : Result KeyParts KeyFault) (made : DataEntry) → entry_after place before entry r ≡ Ok made → is_above key_cmp entry.key before ≡ true
above_of place before entry (Err Short) made e = absurd cc
above_of place before entry (Err (UnsupportedKind kind)) made e = absurd cc
above_of place before entry (Err (UnknownKind kind)) made e = absurd cc
above_of place before entry (Ok parts) made e =
    let kind = passed (is_range_deletion parts.kind) (damaged BadKey place) _ made e in
    (taken (is_above key_cmp entry.key before) (damaged BadOrder place) (record { key = entry.key; parts = parts; value = entry.value }) made kind.1).0

-- the records after one that was made
rest_made : (place : ℕ) (before : Option (List ℕ)) (entry : Entry (List ℕ)) (entries : List (Entry (List ℕ))) (made : DataEntry) → entry_after place before entry (key_parts entry.key) ≡ Ok made → records_after place before (entry ∷ entries) ≡ preceded (made ∷ []) (records_after place (Some entry.key) entries)
rest_made place before entry entries made e = ap (λ r. r >>= (λ first. records_after place (Some entry.key) entries >>= (λ more. Ok (first ∷ more)))) e ∙ by (records_after place (Some entry.key) entries)
  where
    by : (r : Result (List DataEntry) TableFault) → (r >>= (λ more. Ok (made ∷ more))) ≡ preceded (made ∷ []) r
    by (Ok more) = refl
    by (Err fault) = refl

-- how long a rebuilt key is
after_len : (key : List ℕ) (raw : RawEntry) → raw.shared ≤ length key → length (key_after key raw) ≡ raw.shared + length raw.rest.now
after_len key raw within = length-append (take raw.shared key) raw.rest.now ∙ ap (λ n. n + length raw.rest.now) (length-take-le raw.shared key within)

-- a walk hands out the next record
module _ (old new : Walk) (checked : Checked) (raw : RawEntry) (walk : IsWalk old) (gives : Gives old.entries raw new.entries) (stepped : new.key ≡ key_after old.key raw)
    (told : (entry : Entry (List ℕ)) → entry.key ≡ new.key → entry_after old.place (before_of old) entry (key_parts new.key) ≡ Ok (record { key = entry.key; parts = record { user = user_key entry.key; sequence = checked.sequence; kind = checked.kind }; value = entry.value }))
    (value : checked.value.now ≡ raw.value.now) (here : new.last ≡ Here) (place : new.place ≡ old.place) (long : 8 ≤ length new.key) where
  abbrev front : List DataEntry
  front = handed_out checked new.key ∷ []

  before_is : before_of new ≡ Some new.key
  before_is = ap (λ last. key_kept last new.before new.key) here

  abbrev handed : Entry (List ℕ)
  handed = entry_of old.entries.place old.entries.key raw

  -- what was left, by what is left
  was_left : (r : Result (List (Entry (List ℕ))) BlockFault) → new.entries.left ≡ r → old.entries.left ≡ first_of handed r
  was_left r e = gives.left ∙ ap (first_of handed) e

  left_is : (r : Result (List (Entry (List ℕ))) BlockFault) → new.entries.left ≡ r → walk_left old ≡ preceded front (walk_left new)
  left_is (Err fault) e =
      ap (λ l. told_with old.place l (records_after old.place (before_of old))) (was_left (Err fault) e)
      ∙ (λ i. Err (block_status (sym place i) fault))
      ∙ sym (ap (λ l. preceded front (told_with new.place l (records_after new.place (before_of new)))) e)
  left_is (Ok more) e =
      let key_is : handed.key ≡ new.key = ap (λ key. key_after key raw) (walk.same (handed ∷ more) (was_left (Ok more) e)) ∙ sym stepped in
      let made : entry_after old.place (before_of old) handed (key_parts handed.key) ≡ Ok (record { key = handed.key; parts = record { user = user_key handed.key; sequence = checked.sequence; kind = checked.kind }; value = handed.value }) = ap (λ key. entry_after old.place (before_of old) handed (key_parts key)) key_is ∙ told handed key_is in
      ap (λ l. told_with old.place l (records_after old.place (before_of old))) (was_left (Ok more) e)
      ∙ rest_made old.place (before_of old) handed more _ made
      ∙ (λ i. preceded (record { key = key_is i; parts = record { user = user_key (key_is i); sequence = checked.sequence; kind = checked.kind }; value = sym value i } ∷ []) (records_after (sym place i) (Some (key_is i)) more))
      ∙ ap (λ before. preceded front (records_after new.place before more)) (sym before_is)
      ∙ sym (ap (λ l. preceded front (told_with new.place l (records_after new.place (before_of new)))) e)

  is_walk : IsWalk new
  is_walk = record {
    same = λ more e. gives.key (handed ∷ more) (was_left (Ok more) e) ∙ ap (λ key. key_after key raw) (walk.same (handed ∷ more) (was_left (Ok more) e)) ∙ sym stepped;
    len = gives.key_len ∙ sym (ap length stepped ∙ after_len old.key raw (subst (λ n. raw.shared ≤ n) walk.len gives.shared));
    long = subst (λ (o : Option (List ℕ)). IfSome o (λ key. 8 ≤ length key)) (sym before_is) long;
    fresh = subst (λ last. IsFresh last new.key) (sym here) tt;
  }

  is_above_before : is_above key_cmp new.key (before_of old) ≡ true
  is_above_before =
      let any : Entry (List ℕ) = record { place = 0; shared = 0; key = new.key; value = [] } in
      above_of old.place (before_of old) any (key_parts new.key) _ (told any refl)

  pub hands_out : HandsOut old checked new
  hands_out = record {
    walk = is_walk;
    left = left_is new.entries.left refl;
    shorter = gives.shorter;
    before = before_is;
    above = is_above_before;
    long = long;
    place = place;
  }

-- an entry that isn't a record's, before any others
pub told_error : (place : ℕ) (before : Option (List ℕ)) (entry : Entry (List ℕ)) (error : WalkErr) (more : List (Entry (List ℕ))) → Tells (entry_made entry (Err error)) (entry_after place before entry (key_parts entry.key)) → IsFault error (records_after place before (entry ∷ more))
told_error place before entry (err.Damaged why at) more e = ap (λ r. r >>= (λ first. records_after place (Some entry.key) more >>= (λ more. Ok (first ∷ more)))) e
told_error place before entry (err.Unsupported what) more e = ap (λ r. r >>= (λ first. records_after place (Some entry.key) more >>= (λ more. Ok (first ∷ more)))) e
told_error place before entry err.Memory more e = tt

-- Where an entry isn't a record's, the first fault of what is left is that of the others, or its own.
module _ (old : Walk) (next : TestedSeen) (raw : RawEntry) (key : List ℕ) (error found : WalkErr) (walk : IsWalk old) (gives : Gives old.entries raw next) (key_is : key ≡ key_after old.key raw)
    (none : (entry : Entry (List ℕ)) → entry.key ≡ key → Tells (entry_made entry (Err error)) (entry_after old.place (before_of old) entry (key_parts key)))
    (first : (told : List (Entry (List ℕ)) → Result (List DataEntry) TableFault) → ((more : List (Entry (List ℕ))) → IsFault error (told more)) → IsFault found (told_with old.place next.left told)) where
  abbrev under : List ℕ → Entry (List ℕ)
  under key = record { place = old.entries.place; shared = raw.shared; key = key; value = raw.value.now }

  abbrev behind : List (Entry (List ℕ)) → Result (List DataEntry) TableFault
  behind more = records_after old.place (before_of old) (under key ∷ more)

  abbrev all_of : Result (List (Entry (List ℕ))) BlockFault → Result (List DataEntry) TableFault
  all_of l = told_with old.place l (records_after old.place (before_of old))

  had_left : (r : Result (List (Entry (List ℕ))) BlockFault) → next.left ≡ r → old.entries.left ≡ first_of (under (key_after old.entries.key raw)) r
  had_left r e = gives.left ∙ ap (first_of (under (key_after old.entries.key raw))) e

  same_told : (r : Result (List (Entry (List ℕ))) BlockFault) → next.left ≡ r → told_with old.place next.left behind ≡ walk_left old
  same_told (Err fault) e = ap (λ l. told_with old.place l behind) e ∙ sym (ap all_of (had_left (Err fault) e))
  same_told (Ok more) e =
      let same : key ≡ key_after old.entries.key raw = key_is ∙ ap (λ key. key_after key raw) (sym (walk.same (under (key_after old.entries.key raw) ∷ more) (had_left (Ok more) e))) in
      ap (λ l. told_with old.place l behind) e
      ∙ ap (λ key. records_after old.place (before_of old) (under key ∷ more)) same
      ∙ sym (ap all_of (had_left (Ok more) e))

  pub fault_behind : IsFault found (walk_left old)
  fault_behind = subst (IsFault found) (same_told next.left refl) (first behind (λ more. told_error old.place (before_of old) (under key) error more (none (under key) refl)))

-- the key of the last of more records
pub last_of_more : (k d : List ℕ) (keys : List (List ℕ)) → unwrap_or (last_or (Some k) keys) d ≡ unwrap_or (last_or None keys) k
last_of_more k d [] = refl
last_of_more k d (x ∷ []) = refl
last_of_more k d (x ∷ y ∷ keys) = last_of_more y d keys ∙ sym (last_of_more y k keys)

-- what is counted after one record is counted with it
pub counted_with : (old new : Walk) (checked : Checked) (entries top : ℕ) (counted : ℕ × ℕ) (key : List ℕ) → HandsOut old checked new → Counted new (min (entries + 1) (2 ^ 64 - 1)) (max top checked.sequence) counted key → Counted old entries top counted key
counted_with old new checked entries top counted key out rest =
    let first = handed_out checked new.key in
    record {
      more = first ∷ rest.more;
      left = out.left ∙ ap (preceded (first ∷ [])) rest.left;
      entries_are = rest.entries_are ∙ omega arith;
      top_is = rest.top_is;
      last = rest.last ∙ sym (last_of_more new.key old.key (map (λ (entry : DataEntry). entry.key) rest.more));
      rise = (out.long, out.above, subst (λ before. Rise before rest.more) out.before rest.rise);
    }

-- an error after one record is one with it
pub faulty_with : (old new : Walk) (checked : Checked) (error : WalkErr) → HandsOut old checked new → Tells {A = List DataEntry} (Err error) (walk_left new) → Tells {A = List DataEntry} (Err error) (walk_left old)
faulty_with old new checked (err.Damaged why place) out e = out.left ∙ ap (preceded (handed_out checked new.key ∷ [])) e
faulty_with old new checked (err.Unsupported what) out e = out.left ∙ ap (preceded (handed_out checked new.key ∷ [])) e
faulty_with old new checked err.Memory out e = tt

-- the end of a walk
pub counted_none : (walk : Walk) (entries top : ℕ) → entries ≤ 2 ^ 64 - 1 → walk_left walk ≡ Ok [] → Counted walk entries top (entries, top) walk.key
counted_none walk entries top fits e = record {
  more = [];
  left = e;
  entries_are = omega arith;
  top_is = refl;
  last = refl;
  rise = tt;
}

-- How far the counting has come: what is counted to the end of the walk is what was to be counted.
pub record Counting (first : Walk) (entries_first top_first : ℕ) (walk : Walk) (entries top : ℕ) : Type 0 where
  pub is : IsWalk walk
  pub fits : entries ≤ 2 ^ 64 - 1
  pub counted : (counted : ℕ × ℕ) (key : List ℕ) → Counted walk entries top counted key → Counted first entries_first top_first counted key
  pub faulty : (error : WalkErr) → Tells {A = List DataEntry} (Err error) (walk_left walk) → Tells {A = List DataEntry} (Err error) (walk_left first)

pub counting_on : (first : Walk) (entries_first top_first : ℕ) (walk : Walk) (entries top : ℕ) (checked : Checked) (new : Walk) → Counting first entries_first top_first walk entries top → HandsOut walk checked new → Counting first entries_first top_first new (min (entries + 1) (2 ^ 64 - 1)) (max top checked.sequence)
counting_on first entries_first top_first walk entries top checked new so_far out = record {
  is = out.walk;
  fits = omega arith;
  counted = λ counted key rest. so_far.counted counted key (counted_with walk new checked entries top counted key out rest);
  faulty = λ error told. so_far.faulty error (faulty_with walk new checked error out told);
}

-- what is true of an answer that is no error
pub on_ok : {A E : Type 0} {P : Type 0} (r : Result A E) → is_err r ≡ false → OnOk r P → P
on_ok (Ok x) is p = p
on_ok (Err e) is p = absurd cc

-- the last of rising keys is long too
last_long : (key : List ℕ) (more : List DataEntry) → 8 ≤ length key → Rise (Some key) more → 8 ≤ length (unwrap_or (last_key more) key)
last_long key [] long rise = long
last_long key (entry ∷ more) long rise =
    subst (λ last. 8 ≤ length last) (sym (last_of_more entry.key key (map (λ (entry : DataEntry). entry.key) more))) (last_long entry.key more rise.0 rise.2)

-- what was counted after the first record is kept of all of them
pub records_are : (before : Option (List ℕ)) (told : Result (List DataEntry) TableFault) (walk new : Walk) (checked : Checked) (counted : ℕ × ℕ) (key : List ℕ) (records : Records)
    → told ≡ walk_left walk → before_of walk ≡ before → HandsOut walk checked new → Counted new 1 checked.sequence counted key
    → records.entries ≡ counted.0 → records.top ≡ counted.1 → records.first ≡ new.key → records.last ≡ key
    → AreRecords before told records
records_are before told walk new checked counted key records is before_is out rest entries top first last =
    let rise' = subst (λ before. Rise before rest.more) out.before rest.rise in
    let top' : checked.sequence ≡ max 0 checked.sequence = omega arith in
    record {
      first = handed_out checked new.key;
      more = rest.more;
      is = is ∙ out.left ∙ ap (preceded (handed_out checked new.key ∷ [])) rest.left;
      entries_are = entries ∙ rest.entries_are ∙ omega arith;
      top_is = top ∙ rest.top_is ∙ ap (λ top. top_with top rest.more) top';
      first_is = first;
      last_is = last ∙ rest.last;
      rise = (out.long, subst (λ before. is_above key_cmp new.key before ≡ true) before_is out.above, rise');
      last_long = subst (λ last. 8 ≤ length last) (sym (last ∙ rest.last)) (last_long new.key rest.more out.long rise');
    }

-- the records of a block, whether they are separated
told_by : (by_user : Bool) (before lower : Option (List ℕ)) (at : IndexEntry) (block : List ℕ) (records : List DataEntry) (separated : Bool) → block_told at.block.offset before block ≡ Ok records → are_separated by_user lower at.separator records ≡ separated → data_told by_user before lower at block ≡ cond separated (Ok records) (Err (damaged BadSeparator at.block.offset))
told_by by_user before lower at block records separated is test =
    ap (λ r. r >>= (λ records. cond (are_separated by_user lower at.separator records) (Ok records) (Err (damaged BadSeparator at.block.offset)))) is
    ∙ ap (λ test. cond test (Ok records) (Err (damaged BadSeparator at.block.offset))) test

separated_as : (by_user : Bool) (lower : Option (List ℕ)) (at : IndexEntry) (first : DataEntry) (more : List DataEntry) (records : Records) → records.first ≡ first.key → records.last ≡ unwrap_or (last_key more) first.key
    → are_separated by_user lower at.separator (first ∷ more) ≡ (is_above (separator_cmp by_user) records.first lower && not (is_gt (separator_cmp by_user records.last at.separator)))
separated_as by_user lower at first more records first_is last_is = λ i. is_above (separator_cmp by_user) (sym first_is i) lower && not (is_gt (separator_cmp by_user (sym last_is i) at.separator))

pub separated : (by_user : Bool) (before lower : Option (List ℕ)) (at : IndexEntry) (block : List ℕ) (records : Records) → AreRecords before (block_told at.block.offset before block) records
    → (is_above (separator_cmp by_user) records.first lower && not (is_gt (separator_cmp by_user records.last at.separator))) ≡ true → AreRecords before (data_told by_user before lower at block) records
separated by_user before lower at block records are test = record {
  first = are.first;
  more = are.more;
  is = told_by by_user before lower at block (are.first ∷ are.more) true are.is (separated_as by_user lower at are.first are.more records are.first_is are.last_is ∙ test);
  entries_are = are.entries_are;
  top_is = are.top_is;
  first_is = are.first_is;
  last_is = are.last_is;
  rise = are.rise;
  last_long = are.last_long;
}

pub not_separated : (by_user : Bool) (before lower : Option (List ℕ)) (at : IndexEntry) (block : List ℕ) (records : Records) → AreRecords before (block_told at.block.offset before block) records
    → (is_above (separator_cmp by_user) records.first lower && not (is_gt (separator_cmp by_user records.last at.separator))) ≡ false → data_told by_user before lower at block ≡ Err (damaged BadSeparator at.block.offset)
not_separated by_user before lower at block records are test = told_by by_user before lower at block (are.first ∷ are.more) false are.is (separated_as by_user lower at are.first are.more records are.first_is are.last_is ∙ test)

pub none_separated : (by_user : Bool) (before lower : Option (List ℕ)) (at : IndexEntry) (block : List ℕ) → block_told at.block.offset before block ≡ Ok [] → data_told by_user before lower at block ≡ Err (damaged BadSeparator at.block.offset)
none_separated by_user before lower at block is = told_by by_user before lower at block [] false is refl
