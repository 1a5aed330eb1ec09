-- The data records of a good table, from one block to the next.
use Rattle.std.proofs.Common.{◌≡◌, ℕ, zero, suc, ◌+◌, ◌≤◌, List, [], ◌∷◌, ◌++◌, length, get_or, map, take, Option, Some, Result, Ok, Err, refl, sym, ◌∙◌, ap, None}
use Rattle.std.specs.Prelude.{slice_get}
use Rattle.std.specs.List.{last_or}
use Rattle.std.proofs.lemmas.List.{drop_all}
use Rattle.rk_bytes.specs.declared.model.block.IndexEntry.{IndexEntry}
use Rattle.rk_bytes.specs.declared.model.key.Record.{Record}
use Rattle.rk_bytes.specs.declared.model.table.TableRef.{TableRef}
use Rattle.rk_bytes.specs.Model.Numbers.{◌>>=◌}
use Rattle.rk_bytes.specs.Model.TableFooter.{checked_block}
use Rattle.rk_bytes.specs.Model.TableStatus.{TableFault, damaged, unsupported, DataEntry, last_key, data_records, record_in}
use Rattle.rk_bytes.proofs.Callers.Readings.{both_steps}
use Rattle.rk_table.specs.declared.status.WalkErr.{WalkErr}
use Rattle.rk_table.specs.declared.status.WalkErr.TheVariants as err
use Rattle.rk_table.specs.declared.walk.Checked.{Checked}
use Rattle.rk_table.specs.declared.walk.Walk.{Walk}
use Rattle.rk_table.specs.Told.{Tells}
use Rattle.rk_table.specs.Walks.{before_of, walk_left, block_told, IsWalk, handed_out, preceded, HandsOut}
use Rattle.rk_table.specs.Stages.{separator_before}
use Rattle.rk_table.specs.Left.{blocks_of, from_block, after_walk, entries_left, records_told, Opened, RecordOf, StepsOn, TakesBlock}
use Rattle.rk_table.specs.Rows.{GivesRecords}
use Rattle.rk_table.proofs.Callers.GoodTables.{NextBlock, block_at}

-- a walk that was opened over the next block
pub opened : (bytes : List ℕ) (table : TableRef) (number : ℕ) (before : Option (List ℕ)) (at : IndexEntry) (entries : List DataEntry) (walk : Walk) → from_block bytes table number before ≡ Ok entries → (next : NextBlock bytes table number before at entries)
    → IsWalk walk → block_told at.block.offset before next.block ≡ walk_left walk → before_of walk ≡ before → Opened bytes table number before walk
opened bytes table number before at entries walk read next is told before_is =
    let here : walk_left walk ≡ Ok (next.first ∷ next.more) = sym told ∙ next.told in
    record {
      is = is;
      first = next.first;
      more = next.more;
      here = here;
      all = ap (after_walk bytes table (number + 1) (before_of walk)) here
          ∙ ap (λ r. r >>= (λ later. Ok ((next.first ∷ next.more) ++ later))) next.rest
          ∙ ap Ok (sym next.all) ∙ sym read;
    }

-- the entries after one that was handed out
after_one : (bytes : List ℕ) (table : TableRef) (number : ℕ) (before : Option (List ℕ)) (first : DataEntry) (r : Result (List DataEntry) TableFault) → after_walk bytes table number before (preceded (first ∷ []) r) ≡ preceded (first ∷ []) (after_walk bytes table number (Some first.key) r)
after_one bytes table number before first (Err fault) = refl
after_one bytes table number before first (Ok more) = by (from_block bytes table number (last_or (Some first.key) (map (λ (entry : DataEntry). entry.key) more)))
  where
    by : (r : Result (List DataEntry) TableFault) → (r >>= (λ later. Ok ((first ∷ more) ++ later))) ≡ preceded (first ∷ []) (r >>= (λ later. Ok (more ++ later)))
    by (Ok later) = refl
    by (Err fault) = refl

pub handed_left : (bytes : List ℕ) (table : TableRef) (number : ℕ) (old new : Walk) (checked : Checked) → HandsOut old checked new → entries_left bytes table number (Some old) ≡ preceded (handed_out checked new.key ∷ []) (entries_left bytes table number (Some new))
handed_left bytes table number old new checked out =
    ap (after_walk bytes table number (before_of old)) out.left
    ∙ after_one bytes table number (before_of old) (handed_out checked new.key) (walk_left new)
    ∙ ap (λ before. preceded (handed_out checked new.key ∷ []) (after_walk bytes table number before (walk_left new))) (sym out.before)

-- what is left after a record that was handed out
pub one_out : (family : ℕ) (told rest : Result (List DataEntry) TableFault) (first : DataEntry) (entries : List DataEntry) → told ≡ preceded (first ∷ []) rest → told ≡ Ok entries → (later : List DataEntry) × (rest ≡ Ok later) × (records_told family told ≡ record_in family first ∷ records_told family rest)
one_out family told (Ok later) first entries is e = (later, refl, ap (records_told family) is)
one_out family told (Err fault) first entries is e = let no : Err fault ≡ Ok entries = sym is ∙ e in absurd cc

-- a walk at its end leaves the blocks after it
pub walked : (bytes : List ℕ) (table : TableRef) (number : ℕ) (walk : Walk) → walk_left walk ≡ Ok [] → entries_left bytes table number (Some walk) ≡ from_block bytes table number (before_of walk)
walked bytes table number walk e = ap (after_walk bytes table number (before_of walk)) e ∙ by (from_block bytes table number (before_of walk))
  where
    by : (r : Result (List DataEntry) TableFault) → (r >>= (λ later. Ok ([] ++ later))) ≡ r
    by (Ok later) = refl
    by (Err fault) = refl

pub none_left : (bytes : List ℕ) (table : TableRef) (number : ℕ) (before : Option (List ℕ)) → length table.index ≤ number → from_block bytes table number before ≡ Ok []
none_left bytes table number before all = ap (λ (index : List IndexEntry). data_records (blocks_of bytes table) table.user_keys before (separator_before number table.index) index) (drop_all number table.index all)

-- a walk over what reads has no fault
pub reads_on : (told : Result (List DataEntry) TableFault) (entries : List DataEntry) (error : WalkErr) → told ≡ Ok entries → Tells {A = List DataEntry} (Err error) told → (error ≡ err.Memory → ⊥) → ⊥
reads_on told entries (err.Damaged why place) e told_is other = let no : Ok entries ≡ Err (damaged why place) = sym e ∙ told_is in absurd cc
reads_on told entries (err.Unsupported what) e told_is other = let no : Ok entries ≡ Err (unsupported what) = sym e ∙ told_is in absurd cc
reads_on told entries err.Memory e told_is other = other refl

-- what a block's records are, of a good table
pub takes_block : (bytes : List ℕ) (table : TableRef) (number : ℕ) (before : Option (List ℕ)) (at : IndexEntry) (block : List ℕ) (entries : List DataEntry) (result : Result (List Record) WalkErr) → slice_get table.index number ≡ Some at → checked_block (take table.start bytes) at.block table.sum ≡ Ok block
    → from_block bytes table number before ≡ Ok entries → GivesRecords table.family at.block.offset before block result → TakesBlock bytes table number entries result
takes_block bytes table number before at block entries result there handed read gives =
    let next = block_at bytes table number before at entries there read in
    let same : next.block ≡ block = let e : Ok next.block ≡ Ok block = sym next.handed ∙ handed in cc in
    let told = ap (block_told at.block.offset before) (sym same) ∙ next.told in
    by result told gives (next.rest) next.all
  where
    by : {first : DataEntry} {more rest : List DataEntry} (result : Result (List Record) WalkErr) → block_told at.block.offset before block ≡ Ok (first ∷ more) → GivesRecords table.family at.block.offset before block result → from_block bytes table (number + 1) (last_key (first ∷ more)) ≡ Ok rest → entries ≡ (first ∷ more) ++ rest → TakesBlock bytes table number entries result
    by {first} {more} {rest} (Ok records) told gives after all =
        let same : gives.entries ≡ first ∷ more = let e : Ok gives.entries ≡ Ok (first ∷ more) = sym gives.told ∙ told in cc in
        record { front = first ∷ more; rest = rest; all = all; are = gives.are ∙ ap (map (record_in table.family)) same; after = after }
    by {first} {more} {rest} (Err (err.Damaged why place)) told gives after all = let no : Ok (first ∷ more) ≡ Err (damaged why place) = sym told ∙ gives in absurd cc
    by {first} {more} {rest} (Err (err.Unsupported what)) told gives after all = let no : Ok (first ∷ more) ≡ Err (unsupported what) = sym told ∙ gives in absurd cc
    by {first} {more} {rest} (Err err.Memory) told gives after all = refl

pub same_at : (n : ℕ) (index : List IndexEntry) (at other : IndexEntry) → slice_get index n ≡ Some at → get_or index n other ≡ at
same_at n [] at other e = absurd cc
same_at zero (first ∷ index) at other e = cc
same_at (suc n) (first ∷ index) at other e = same_at n index at other e

-- where what is left of a table reads, so does what is left of its walk
pub walk_reads : (bytes : List ℕ) (table : TableRef) (number : ℕ) (walk : Walk) (entries : List DataEntry) → entries_left bytes table number (Some walk) ≡ Ok entries → (more : List DataEntry) × (walk_left walk ≡ Ok more)
walk_reads bytes table number walk entries e = both_steps (walk_left walk) _ entries e λ more read e1. (more, read)

-- the first record of a block that was opened, before which nothing was left of the block before
pub opened_steps : (bytes : List ℕ) (table : TableRef) (number : ℕ) (walk : Option Walk) (before : Option (List ℕ)) (next new : Walk) (one : Option Record) (entries : List DataEntry)
    → entries_left bytes table number walk ≡ from_block bytes table number before → entries_left bytes table number walk ≡ Ok entries
    → Opened bytes table number before next → RecordOf table.family next (Ok one) new → StepsOn bytes table number walk (Ok one) (number + 1) (Some new)
opened_steps bytes table number walk before next new (Some one) entries same told is (checked, out, are) =
    let (later, rest, split) = one_out table.family (entries_left bytes table (number + 1) (Some next)) (entries_left bytes table (number + 1) (Some new)) (handed_out checked new.key) entries (handed_left bytes table (number + 1) next new checked out) (is.all ∙ sym same ∙ told) in (
      record { entries = later; told = rest; walks = out.walk },
      ap (records_told table.family) (same ∙ sym is.all) ∙ split ∙ ap (λ (one : Record). one ∷ records_told table.family (entries_left bytes table (number + 1) (Some new))) (sym are),
    )
opened_steps bytes table number walk before next new None entries same told is none =
    let no : Ok [] ≡ Ok (is.first ∷ is.more) = sym none.0 ∙ is.here in absurd cc
