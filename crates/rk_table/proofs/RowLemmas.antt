-- The records of a data block, one after another.
use Rattle.std.proofs.Common.{◌≡◌, ℕ, List, [], ◌∷◌, ◌++◌, map, Option, Ok, Err, sym, ◌∙◌, ap, subst, append_assoc, append-nil}
use Rattle.rk_bytes.specs.declared.model.key.Record.{Record}
use Rattle.rk_bytes.specs.Model.TableStatus.{DataEntry, record_in}
use Rattle.rk_table.specs.declared.status.WalkErr.{WalkErr}
use Rattle.rk_table.specs.declared.walk.Checked.{Checked}
use Rattle.rk_table.specs.declared.walk.Walk.{Walk}
use Rattle.rk_table.specs.Told.{Tells}
use Rattle.rk_table.specs.Walks.{before_of, walk_left, block_told, IsWalk, handed_out, preceded, HandsOut}
use Rattle.rk_table.specs.Blocks.{Rise}
use Rattle.rk_table.specs.Rows.{AreBlockRecords}
use Rattle.rk_table.proofs.WalkLemmas.{faulty_with}

-- the records so far, and those that are left of a walk
pub record Gathered (family : ℕ) (walk : Walk) (so_far all : List Record) : Type 0 where
  pub more : List DataEntry
  pub left : walk_left walk ≡ Ok more
  pub are : all ≡ so_far ++ map (record_in family) more
  pub rise : Rise (before_of walk) more

pub gathered_with : (family : ℕ) (old new : Walk) (checked : Checked) (so_far all : List Record) → HandsOut old checked new → Gathered family new (so_far ++ record_in family (handed_out checked new.key) ∷ []) all → Gathered family old so_far all
gathered_with family old new checked so_far all out rest =
    let first = handed_out checked new.key in
    record {
      more = first ∷ rest.more;
      left = out.left ∙ ap (preceded (first ∷ [])) rest.left;
      are = rest.are ∙ append_assoc so_far (record_in family first ∷ []) (map (record_in family) rest.more);
      rise = (out.long, out.above, subst (λ (before : Option (List ℕ)). Rise before rest.more) out.before rest.rise);
    }

pub gathered_none : (family : ℕ) (walk : Walk) (so_far : List Record) → walk_left walk ≡ Ok [] → Gathered family walk so_far so_far
gathered_none family walk so_far e = record { more = []; left = e; are = sym (append-nil so_far); rise = tt }

-- How far the gathering has come: what is gathered to the end of the walk is what was to be gathered.
pub record Gathering (family : ℕ) (first : Walk) (walk : Walk) (so_far : List Record) : Type 0 where
  pub is : IsWalk walk
  pub all : (all : List Record) → Gathered family walk so_far all → Gathered family first [] all
  pub faulty : (error : WalkErr) → Tells {A = List DataEntry} (Err error) (walk_left walk) → Tells {A = List DataEntry} (Err error) (walk_left first)

pub gathering_on : (family : ℕ) (first walk new : Walk) (so_far : List Record) (checked : Checked) → Gathering family first walk so_far → HandsOut walk checked new → Gathering family first new (so_far ++ record_in family (handed_out checked new.key) ∷ [])
gathering_on family first walk new so_far checked on out = record {
  is = out.walk;
  all = λ all rest. on.all all (gathered_with family walk new checked so_far all out rest);
  faulty = λ error told. on.faulty error (faulty_with walk new checked error out told);
}

pub block_records_are : (family place : ℕ) (before : Option (List ℕ)) (block : List ℕ) (walk : Walk) (all : List Record) → block_told place before block ≡ walk_left walk → before_of walk ≡ before → Gathered family walk [] all → AreBlockRecords family place before block all
block_records_are family place before block walk all told before_is g = record {
  entries = g.more;
  told = told ∙ g.left;
  are = g.are;
  rise = subst (λ (before : Option (List ℕ)). Rise before g.more) before_is g.rise;
}
