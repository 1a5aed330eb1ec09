-- What the table and the logs put.
use Rattle.std.specs.Prelude.{ℕ, ◌+◌, List, map}
use Rattle.rk_bytes.specs.declared.model.key.Record.{Record}
use Rattle.rk_bytes.specs.Model.Drill.{drill_put, up_to}

-- the put with a number above that of its key, and above that of its value and its sequence number
abbrev pub put_above : ℕ → ℕ → ℕ → Record
put_above sequences keys j = drill_put (sequences + j) (keys + j) (sequences + j)

-- the puts of a table of so many keys
abbrev pub own_puts : ℕ → List Record
own_puts n = map (λ i. drill_put i i i) (up_to n)
