-- Why the units of a manifest's file can be counted.
use Rattle.std.specs.Prelude.{ℕ, ◌+◌, ◌≤◌, List, length}
use Rattle.rk_log.specs.declared.feed.LogFeed.{LogFeed}
use Rattle.rk_log.specs.Left.{left, bytes_before}
use Rattle.rk_manifest.specs.Records.{records}

-- so many records were read, and a record takes a byte at least
abbrev pub HasRoom : LogFeed → ℕ → Type 0
HasRoom feed count = (rest : List ℕ) → count + records (left feed rest).items ≤ bytes_before feed + length rest
