-- What a command has written so far of its lines, and what a part of it writes.
use Rattle.std.specs.Prelude.{◌≡◌, ℕ, Bool, true, false, List, ◌++◌, flat_map, Option, Some, None, Result, Ok, Err, codes}
use Rattle.rk_bytes.specs.Model.LogItems.{Item, log_items}
use Rattle.rk_bytes.specs.Model.VersionEdit.{Field}
use Rattle.rk_bytes.specs.Model.Lines.{batch_lines, edit_lines, inner_line, field_words}
use Rattle.rk_bytes.specs.Model.Output.{Output, Took, joined, item_lines, written, refused}
use Rattle.rk_log.specs.declared.feed.LogFeed.{LogFeed}
use Rattle.rk_log.specs.Left.{left}
use Rattle.rk_log.specs.Steps.{MayFollow}
use Rattle.rk_ldb.specs.declared.items.Records.{Records}
use Rattle.rk_ldb.specs.declared.items.Records.TheVariants.{Batches, Edits}
use Rattle.rk_ldb.specs.declared.items.Form.{Form}
use Rattle.rk_ldb.specs.declared.stop.Stop.{Stop}
use Rattle.rk_ldb.specs.Stops.{TookUpTo}

-- The lines that were written so far, and those that are left. The output took the first.
pub record Wrote (before now : Option (List ℕ)) (all rest : List (List ℕ)) : Type 0 where
  pub given : List (List ℕ)
  pub whole : all ≡ given ++ rest
  pub taken : Took before now (joined given)

-- what a record is called
abbrev pub record_word : Records → List ℕ
record_word Batches = codes "record"
record_word Edits = codes "edit"

-- the line of a field of an edit
abbrev pub field_line : Bool → Field → List ℕ
field_line hex field = inner_line (field_words hex field)

-- the lines of a record's payload
abbrev pub record_lines : Records → Bool → List ℕ → List (List ℕ)
record_lines Batches hex payload = batch_lines hex payload
record_lines Edits hex payload = edit_lines hex payload

-- the lines of an item of a log's file
abbrev pub form_lines : Form → Item → List (List ℕ)
form_lines form item = item_lines (record_word form.records) (record_lines form.records form.hex) item

-- the lines of all its items
abbrev pub dump_lines : Form → List Item → List (List ℕ)
dump_lines form items = flat_map (form_lines form) items

-- what is written of a log's file, which is refused with these words where it isn't there
abbrev pub file_output : List ℕ → Form → ℕ → Option (List ℕ) → Output
file_output why form number None = refused why
file_output why form number (Some bytes) = written (dump_lines form (log_items number bytes))

-- After a block: all lines were written, or those of the next blocks are left, or a stop came.
abbrev pub BlockWritten : Option (List ℕ) → Option (List ℕ) → Form → List (List ℕ) → List ℕ → Result Bool Stop → LogFeed → Type 0
BlockWritten start now form all rest (Ok true) new = Took start now (joined all)
BlockWritten start now form all rest (Ok false) new = Wrote start now all (dump_lines form (left new rest).items)
BlockWritten start now form all rest (Err stop) new = TookUpTo {T = Unit {0}} start now all (Err stop)

-- A block's items are written, whatever lines were written before and whatever follows the block.
abbrev pub WritesBlock : Option (List ℕ) → Option (List ℕ) → Form → LogFeed → List ℕ → Bool → Result Bool Stop → LogFeed → Type 0
WritesBlock taken now form old block is_last result new =
    (start : Option (List ℕ)) (all : List (List ℕ)) (rest : List ℕ) → MayFollow is_last rest
    → Wrote start taken all (dump_lines form (left old (block ++ rest)).items) → BlockWritten start now form all rest result new
