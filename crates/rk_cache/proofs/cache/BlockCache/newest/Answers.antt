use Rattle.std.proofs.Common.{Some, sym, ap, ◌∙◌}
use Rattle.std.specs.Prelude.{map, option_map}
use Rattle.rk_cache.specs.Kept.{CacheSeen, kept_of, newest}
use Rattle.rk_cache.proofs.KeptLemmas.{empty_of, newest_of}
use Rattle.rk_cache.proofs.cache.BlockCache.newest.Goals as goal

pub unreachable-requires : goal.unreachable-requires
unreachable-requires c =
    let none = ap (option_map (λ p. (p.0.now, p.1.now))) (sym c.in-None.is) ∙ c.peek_mru.ensures in
    c.requires (ap (λ (seen : CacheSeen). seen.kept) (sym c.self.view_is) ∙ ap (map kept_of) (empty_of c.self.inside.by_key.entries none))

pub returns : goal.returns
returns c =
    let at = sym c.peek_mru.ensures ∙ ap (option_map (λ p. (p.0.now, p.1.now))) c.in-Some.is in
    ap (λ (seen : CacheSeen). newest seen.kept) (sym c.self.view_is) ∙ newest_of c.self.inside.by_key.entries (c.in-Some.field-0-0.now, c.in-Some.block.now) at ∙ ap Some (sym c.as_slice.ensures)
