-- How far a dump has come, block by block.
use Rattle.std.proofs.Common.{◌≡◌, ℕ, ◌+◌, Bool, false, List, length, drop, Option, Result, Ok, sym, ap, ◌∙◌, subst}
use Rattle.rk_log.specs.declared.feed.LogFeed.{LogFeed}
use Rattle.rk_log.specs.Left.{left, bytes_before}
use Rattle.rk_ldb.specs.declared.items.Form.{Form}
use Rattle.rk_ldb.specs.declared.stop.Stop.{Stop}
use Rattle.rk_disk.specs.Parts.{IsPart}
use Rattle.rk_ldb.specs.Wrote.{Wrote, dump_lines, BlockWritten, WritesBlock}
use Rattle.rk_ldb.proofs.Taken.{Wrote-nothing}

-- The lines of the blocks before this one are written.
abbrev pub InLog : Option (List ℕ) → Option (List ℕ) → Form → LogFeed → LogFeed → List ℕ → Type 0
InLog from now form first feed bytes = Wrote from now (dump_lines form (left first bytes).items) (dump_lines form (left feed (drop (bytes_before feed) bytes)).items)

pub InLog-start : (taken : Option (List ℕ)) (form : Form) (feed : LogFeed) (bytes : List ℕ) → bytes_before feed ≡ 0 → InLog taken taken form feed feed bytes
InLog-start taken form feed bytes begin =
    subst (λ at. Wrote taken taken (dump_lines form (left feed bytes).items) (dump_lines form (left feed (drop at bytes)).items)) (sym begin)
    (Wrote-nothing taken (dump_lines form (left feed bytes).items))

-- one block more
pub InLog-block : (from between now : Option (List ℕ)) (form : Form) (first old new : LogFeed) (at : ℕ) (block : List ℕ) (is_last : Bool) (result : Result Bool Stop) → bytes_before old ≡ at
    → WritesBlock between now form old block is_last result new
    → (bytes : List ℕ) → InLog from between form first old bytes → IsPart at bytes block is_last
    → BlockWritten from now form (dump_lines form (left first bytes).items) (drop (at + length block) bytes) result new
InLog-block from between now form first old new at block is_last result before writes bytes h is =
    writes from (dump_lines form (left first bytes).items) (drop (at + length block) bytes) is.follows
    (subst (λ rest. Wrote from between (dump_lines form (left first bytes).items) (dump_lines form (left old rest).items)) (ap (λ at. drop at bytes) before ∙ is.whole) h)

-- the blocks up to the next one
pub InLog-next : (from now : Option (List ℕ)) (form : Form) (first new : LogFeed) (at : ℕ) (block : List ℕ) (bytes : List ℕ) → bytes_before new ≡ at + length block
    → BlockWritten from now form (dump_lines form (left first bytes).items) (drop (at + length block) bytes) (Ok false) new → InLog from now form first new bytes
InLog-next from now form first new at block bytes before wrote =
    subst (λ at. Wrote from now (dump_lines form (left first bytes).items) (dump_lines form (left new (drop at bytes)).items)) (sym before) wrote
