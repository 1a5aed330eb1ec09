use Rattle.std.specs.Prelude.{not}
use Rattle.std.proofs.Common.{◌+◌, ◌<◌, ◌≤◌, true, false, List, ℕ, length, refl, arith, sym, ap, ◌∙◌, subst, length-drop}
use Rattle.std.proofs.lemmas.List.{take_rest}
use Rattle.rk_bytes.specs.declared.model.block.BlockFault.TheVariants.{BadEntry}
use Rattle.rk_block.specs.Tested.{TestedSeen, GivesEntry, Gives, tested_from}
use Rattle.rk_block.proofs.ReadLemmas.{some_left, none_left}
use Rattle.rk_block.proofs.WalkLemmas.{ReadsHere, ReadsNothing, IsWalked-more, IsWalked-fault, IsWalked-shares}
use Rattle.rk_block.proofs.TestedLemmas.{tested_left, tested_key, tested_end, tested_fault}
use Rattle.rk_block.proofs.tested.TestedEntries.next_entry.Goals as goal
use Rattle.rk_block.proofs.tested.TestedEntries.next_entry.Goals.{then-are_met, else-are_met}

pub returns-then-is_empty : goal.returns-then-is_empty
returns-then-is_empty c =
    let e = c.self.inside in
    let seen = c.args.self.now in
    let here = ap (λ (seen : TestedSeen). seen.left) (sym c.self.view_is) in
    let none = none_left e.part.now e.place c.is_empty.result c.is_empty.ensures c.if-is_empty.true in
    let has = not c.is_empty-then-is_empty.result in
    let is = ap not c.is_empty-then-is_empty.ensures in
    elim c.if-are_met.branch [
      | then-are_met w ↦
          subst (λ result. GivesEntry seen result seen) (sym w.result-is)
          (here ∙ tested_end e.part.now e.all.left e.place e.key_len e.restarts has true c.self.invariant none is (sym w.if-are_met.true ∙ c.are_met.ensures), refl)
      | else-are_met w ↦
          subst (λ result. GivesEntry seen result seen) (sym w.result-is)
          (here ∙ tested_end e.part.now e.all.left e.place e.key_len e.restarts has false c.self.invariant none is (sym w.if-are_met.false ∙ c.are_met.ensures), refl)
    ]

pub returns-in_default : goal.returns-in_default
returns-in_default c =
    let e = c.self.inside in
    let some = some_left e.part.now e.place c.is_empty.result c.is_empty.ensures c.if-is_empty.false in
    let within : e.place < length e.part.now = omega (arith, some, length-drop e.place e.part.now) in
    let reads = subst (λ (bytes : List ℕ). ReadsNothing bytes c.in_default.field-0) (take_rest e.part.now e.place) c.in_default.ensures.entry in (
      ap (λ (seen : TestedSeen). seen.left) (sym c.self.view_is)
          ∙ tested_fault e.part.now e.all.left e.place (BadEntry e.place) (IsWalked-fault e.part.now e.all.left e.place e.key_len e.restarts c.in_default.field-0 c.self.invariant within reads),
      refl,
    )

pub returns-then-entry-self : goal.returns-then-entry-self
returns-then-entry-self c =
    let e = c.self.inside in
    let some = some_left e.part.now e.place c.is_empty.result c.is_empty.ensures c.if-is_empty.false in
    let within : e.place < length e.part.now = omega (arith, some, length-drop e.place e.part.now) in
    let reads = subst (λ (bytes : List ℕ). ReadsHere bytes c.in-Ok.entry c.in-Ok.len) (take_rest e.part.now e.place) c.in-Ok.ensures.entry in (
      ap (λ (seen : TestedSeen). seen.left) (sym c.self.view_is)
          ∙ tested_fault e.part.now e.all.left e.place (BadEntry e.place) (IsWalked-shares e.part.now e.all.left e.place e.key_len e.restarts c.in-Ok.entry c.in-Ok.len c.self.invariant within reads c.if-entry-self.true),
      refl,
    )

pub invariant_of-self : goal.invariant_of-self
invariant_of-self c =
    let e = c.self.inside in
    let some = some_left e.part.now e.place c.is_empty.result c.is_empty.ensures c.if-is_empty.false in
    let within : e.place < length e.part.now = omega (arith, some, length-drop e.place e.part.now) in
    let reads = subst (λ (bytes : List ℕ). ReadsHere bytes c.in-Ok.entry c.in-Ok.len) (take_rest e.part.now e.place) c.in-Ok.ensures.entry in
    let fits = subst (λ (bytes : List ℕ). c.in-Ok.len ≤ length bytes) (take_rest e.part.now e.place) c.in-Ok.ensures.within in
    IsWalked-more e.part.now e.all.left e.place e.key_len e.restarts c.in-Ok.entry c.in-Ok.len (c.in-Ok.entry.shared + length c.in-Ok.entry.rest.now) c.pass.new.self c.self.invariant within reads c.if-entry-self.false
    (omega (arith, c.in-Ok.ensures.some)) c.in-Ok.ensures.rest fits refl c.pass.ensures

pub returns : goal.returns
returns c =
    let e = c.self.inside in
    let some = some_left e.part.now e.place c.is_empty.result c.is_empty.ensures c.if-is_empty.false in
    let reads = subst (λ (bytes : List ℕ). ReadsHere bytes c.in-Ok.entry c.in-Ok.len) (take_rest e.part.now e.place) c.in-Ok.ensures.entry in
    let fits = subst (λ (bytes : List ℕ). c.in-Ok.len ≤ length bytes) (take_rest e.part.now e.place) c.in-Ok.ensures.within in
    let longer : 0 < c.in-Ok.len = omega (arith, c.in-Ok.ensures.some) in
    subst (λ (seen : TestedSeen). Gives seen c.in-Ok.entry (tested_from e.part.now e.all.left (e.place + c.in-Ok.len) (c.in-Ok.entry.shared + length c.in-Ok.entry.rest.now))) c.self.view_is
    (record {
      left = tested_left e.part.now e.all.left e.place e.key_len e.restarts c.in-Ok.entry c.in-Ok.len c.self.invariant some reads longer fits;
      key = tested_key e.part.now e.all.left e.place e.key_len e.restarts c.in-Ok.entry c.in-Ok.len c.self.invariant some reads longer fits;
      shared = c.if-entry-self.false;
      key_len = refl;
      shorter = omega (arith, longer, some, length-drop e.place e.part.now);
    })
