-- What range deletions are worth to a record, in numbers: of those that cover it, the newest counts.
use Rattle.std.specs.Prelude.{ℕ, [], List, max, fold, if◌then◌else◌}
use Rattle.rk_bytes.specs.declared.model.key.Record.{Record}
use Rattle.rk_bytes.specs.declared.model.view.Tomb.{Tomb}
use Rattle.rk_bytes.specs.Model.KeyView.{covers}
use Rattle.rk_tomb.specs.declared.lookup.Lookup.{Lookup}

-- the record that is asked about; its value doesn't count
abbrev pub record_of : Lookup → Record
record_of lookup = record { family = lookup.family; key = lookup.user.now; sequence = lookup.sequence; kind = lookup.kind; value = [] }

-- the sequence number of a range deletion that covers the record, and 0 of any other
unfoldable pub weight : Record → Tomb → ℕ
weight r tomb = if covers tomb r then tomb.sequence else 0

-- the greatest of these and of a number
abbrev pub newest : Record → ℕ → List Tomb → ℕ
newest r floor tombs = fold (λ most tomb. max most (weight r tomb)) floor tombs
