use Rattle.std.proofs.Common.{◌≡◌, ◌≤◌, List, ℕ, Option, Ok, length, refl, sym, ap, subst, ◌∙◌}
use Rattle.rk_bytes.specs.Model.InternalKey.{key_parts, key_cmp}
use Rattle.rk_bytes.specs.Model.TableStatus.{is_above, entry_after}
use Rattle.rk_block.specs.declared.entry.RawEntry.{RawEntry}
use Rattle.rk_block.specs.Raw.{key_after}
use Rattle.rk_block.specs.Tested.{GivesEntry}
use Rattle.rk_table.specs.Walks.{key_kept, before_of}
use Rattle.rk_table.proofs.WalkLemmas.{hands_out, fault_behind, on_ok}
use Rattle.rk_table.proofs.walk.Walk.next.Goals as goal

pub returns-in-Ok : goal.returns-in-Ok
returns-in-Ok c =
    let old = c.args.self.now in
    let raw = c.in-Ok-Some.entry in
    let gives = subst (λ (o : Option RawEntry). GivesEntry old.entries (Ok o) c.next_entry.new.self) c.in-Ok-Some.field-0-is c.in-Ok-Some.ensures in
    let stepped = on_ok c.step.result (sym c.is_err.ensures.value ∙ c.if-is_err.false) c.step.ensures.ok in
    let key : c.as_slice-2.result.now ≡ key_after c.as_slice.result.now raw = c.as_slice-2.ensures ∙ stepped ∙ ap (λ (key : List ℕ). key_after key raw) (sym c.as_slice.ensures) in
    let later : 8 ≤ length c.as_slice-2.result.now → c.in_ok-is_later.is_later ≡ is_above key_cmp c.as_slice-2.result.now (before_of old) = λ long.
    c.in_ok-is_later.ensures.later (subst (λ (key : List ℕ). 8 ≤ length key) key long)
    ∙ (λ i. is_above key_cmp (sym key i) (key_kept old.last old.before (c.as_slice.ensures i))) in
    hands_out old _ _ raw c.requires gives stepped
    (λ entry key_is. ap (λ (key : List ℕ). entry_after old.place (before_of old) entry (key_parts key)) (sym c.as_slice-2.ensures) ∙ c.in-Ok.ensures.told (before_of old) entry (key_is ∙ sym c.as_slice-2.ensures) later)
    refl refl refl (subst (λ (key : List ℕ). 8 ≤ length key) c.as_slice-2.ensures c.in-Ok.ensures.long)

pub returns-in-Err-checked_key : goal.returns-in-Err-checked_key
returns-in-Err-checked_key c =
    let old = c.args.self.now in
    let raw = c.in-Ok-Some.entry in
    let gives = subst (λ (o : Option RawEntry). GivesEntry old.entries (Ok o) c.next_entry.new.self) c.in-Ok-Some.field-0-is c.in-Ok-Some.ensures in
    let stepped = on_ok c.step.result (sym c.is_err.ensures.value ∙ c.if-is_err.false) c.step.ensures.ok in
    let whole = c.as_slice-2.ensures ∙ stepped in
    let key : c.as_slice-2.result.now ≡ key_after c.as_slice.result.now raw = whole ∙ ap (λ (key : List ℕ). key_after key raw) (sym c.as_slice.ensures) in
    let later : 8 ≤ length c.as_slice-2.result.now → c.in_ok-is_later.is_later ≡ is_above key_cmp c.as_slice-2.result.now (before_of old) = λ long.
    c.in_ok-is_later.ensures.later (subst (λ (key : List ℕ). 8 ≤ length key) key long)
    ∙ (λ i. is_above key_cmp (sym key i) (key_kept old.last old.before (c.as_slice.ensures i))) in
    fault_behind old c.next_entry.new.self raw c.as_slice-2.result.now c.in-Err-checked_key.error c.first_fault.result c.requires gives whole
    (λ entry key_is. c.in-Err-checked_key.ensures.told (before_of old) entry key_is later) c.first_fault.ensures
