use Rattle.std.proofs.Common.{◌≡◌, ◌∙◌, ◌<◌, ℕ, Bool, List, true, false, length, subst, sym, find}
use Rattle.std.specs.Prelude.{Vec, Option, Some, None, IfSome, slice_get}
use Rattle.std.specs.Borrow.{Bor}
use Rattle.std.specs.declared.alloc.Global.{Global}
use Rattle.std.specs.List.{AllWithin}
use Rattle.std.proofs.lemmas.List.Elements.{recursion_from_All}
use Rattle.rk_bytes.specs.declared.model.key.Record.{Record}
use Rattle.rk_bytes.specs.Model.Records.{slot_of}
use Rattle.rk_view.specs.Maps.{IsRun}
use Rattle.rk_view.specs.Parts.{joined}
use Rattle.rk_view.specs.Places.{is_from}
use Rattle.rk_view.proofs.SeekLemmas.{from_upward}
use Rattle.rk_view.proofs.PartLemmas.{part_run_at, found_near}
use Rattle.rk_view.proofs.parts.first_near.Goals as goal

pub seek-hint-requires : goal.seek-hint-requires
seek-hint-requires c =
    let here = c.in-Some.ensures.lookup.3 in
    subst IsRun (sym c.as_slice.ensures.value) (part_run_at c.args.parts.now _ c.in-Some.part.now here.0 here.1 c.requires.run)

-- what lies behind the first record of its part
near : (o : Option (Bor Record)) (p : Record → Bool) (xs all : List Record) (k : ℕ) → (0 < k → k < length xs → slice_get xs k ≡ find p all) → IfSome o (λ found. (0 < k) × (k < length xs) × (Some found.now ≡ slice_get xs k)) → IfSome o (λ found. Some found.now ≡ find p all)
near None p xs all k found h = h
near (Some x) p xs all k found h = h.2 ∙ found h.0 h.1

pub returns-in-Some : goal.returns-in-Some
returns-in-Some c =
    let q = slot_of c.args.sought.now in
    let p = is_from q in
    let here = c.in-Some.ensures.lookup.3 in
    let part = c.in-Some.part.now in
    let full = recursion_from_All (λ (part : Vec Record Global). 0 < length part.items) c.args.parts.now c.requires.filled in
    let k = c.seek-hint.result in
    let before = subst (λ xs. AllWithin (λ y. p y ≡ false) xs 0 k) c.as_slice.ensures.value c.seek-hint.ensures.before in
    let after = subst (λ xs. AllWithin (λ y. p y ≡ true) xs k (length xs)) c.as_slice.ensures.value c.seek-hint.ensures.after in
    near c.behind_first.result p part.items (joined c.args.parts.now) k
    (λ some within. found_near p (from_upward q) c.args.parts.now _ part c.requires.run.rises full here.0 here.1 k some within before after)
    (subst (λ xs. IfSome c.behind_first.result (λ found. (0 < k) × (k < length xs) × (Some found.now ≡ slice_get xs k))) c.as_slice-in-Some.ensures.value c.behind_first.ensures)
