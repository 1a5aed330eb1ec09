-- The bytes of a key, as the code has them.
use Rattle.std.specs.Prelude.{ℕ, List}
use Rattle.rk_ldb.specs.declared.keys.KeyBytes.{KeyBytes}
use Rattle.rk_ldb.specs.declared.keys.KeyBytes.TheVariants.{Lent, Decoded}

-- the bytes, whichever memory they lie in
abbrev pub bytes_of : KeyBytes → List ℕ
bytes_of (Lent text) = text.now
bytes_of (Decoded bytes) = bytes
