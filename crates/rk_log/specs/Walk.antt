-- What a reader has still to give, which walks over a log's bytes with a feed.
use Rattle.std.specs.Prelude.{ℕ, ◌+◌, ◌^◌, ◌<◌, List, Option, Some, None}
use Rattle.rk_log.specs.declared.feed.LogFeed.{LogFeed}
use Rattle.rk_log.specs.Left.{Left, log_left, left, bytes_before}

-- the bytes are those from the block on that is read
abbrev pub walk_left : Option LogFeed → ℕ → List ℕ → Left
walk_left None number bytes = log_left number bytes
walk_left (Some feed) number bytes = left feed bytes

-- the file is a slice
abbrev pub WalkFits : Option LogFeed → ℕ → Type 0
WalkFits None len = len < 2 ^ 64
WalkFits (Some feed) len = bytes_before feed + len < 2 ^ 64
