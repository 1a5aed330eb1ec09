use Rattle.std.proofs.Common.{◌≡◌, drop}
use Rattle.rk_table.specs.Steps.{meta_named}
use Rattle.rk_table.proofs.head.handle_named.Given as goal

-- none of the entries so far has the name
abbrev pub invariant-loop-meta : goal.invariant-loop-meta
invariant-loop-meta l = meta_named l.name l.metas ≡ meta_named l.name (drop l.meta-index l.metas)
