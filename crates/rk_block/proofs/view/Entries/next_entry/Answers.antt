use Rattle.std.proofs.Common.{◌+◌, ◌≤◌, ◌∷◌, length, subst, sym, ap, ◌∙◌}
use Rattle.rk_block.specs.Raw.{entry_of, key_after}
use Rattle.rk_block.specs.Seen.{EntriesSeen, entries_or_none, seen_from}
use Rattle.rk_block.specs.Parts.{entries_in}
use Rattle.rk_block.proofs.ReadLemmas.{next_none, next_out, never_unread}
use Rattle.rk_block.proofs.view.Entries.next_entry.Goals as goal

pub returns-then-is_empty-clause-none : goal.returns-then-is_empty-clause-none
returns-then-is_empty-clause-none c =
    sym (ap (λ (seen : EntriesSeen). seen.left) c.self.view_is) ∙ next_none c.self.inside.part.now c.self.inside.place c.is_empty.result c.self.invariant c.is_empty.ensures c.if-is_empty.true

pub invariant_of-self : goal.invariant_of-self
invariant_of-self c =
    let out = next_out c.self.inside.part.now c.self.inside.place c.is_empty.result c.in-Ok.entry c.in-Ok.len c.self.invariant c.is_empty.ensures c.if-is_empty.false c.in-Ok.ensures.entry c.in-Ok.ensures.some c.in-Ok.ensures.within in
    out.further

pub unreachable-requires : goal.unreachable-requires
unreachable-requires c = never_unread c.self.inside.part.now c.self.inside.place c.is_empty.result c.in-Err.field-0 c.self.invariant c.is_empty.ensures c.if-is_empty.false c.in-Err.ensures.entry

pub returns-clause-entry : goal.returns-clause-entry
returns-clause-entry c =
    let out = next_out c.self.inside.part.now c.self.inside.place c.is_empty.result c.in-Ok.entry c.in-Ok.len c.self.invariant c.is_empty.ensures c.if-is_empty.false c.in-Ok.ensures.entry c.in-Ok.ensures.some c.in-Ok.ensures.within in
    let left = (seen_from (c.self.inside.place + c.in-Ok.len) (entries_or_none (entries_in c.self.inside.part.now))).left in
    sym (ap (λ (seen : EntriesSeen). seen.left) c.self.view_is) ∙ out.left ∙ ap (λ (seen : EntriesSeen). entry_of seen.place seen.key c.in-Ok.entry ∷ left) c.self.view_is

pub returns-clause-key : goal.returns-clause-key
returns-clause-key c =
    let out = next_out c.self.inside.part.now c.self.inside.place c.is_empty.result c.in-Ok.entry c.in-Ok.len c.self.invariant c.is_empty.ensures c.if-is_empty.false c.in-Ok.ensures.entry c.in-Ok.ensures.some c.in-Ok.ensures.within in
    out.key ∙ ap (λ (seen : EntriesSeen). key_after seen.key c.in-Ok.entry) c.self.view_is

pub returns-clause-shared : goal.returns-clause-shared
returns-clause-shared c =
    let out = next_out c.self.inside.part.now c.self.inside.place c.is_empty.result c.in-Ok.entry c.in-Ok.len c.self.invariant c.is_empty.ensures c.if-is_empty.false c.in-Ok.ensures.entry c.in-Ok.ensures.some c.in-Ok.ensures.within in
    subst (λ (seen : EntriesSeen). c.in-Ok.entry.shared ≤ length seen.key) c.self.view_is out.shared
