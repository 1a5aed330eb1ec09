use Rattle.std.proofs.Common.{◌≤◌, length, subst, sym, ap, ◌∙◌}
use Rattle.rk_bytes.specs.Reading.{Reading, rest_of}
use Rattle.rk_block.proofs.EntryLemmas.{long_lengths, three_spelled}
use Rattle.rk_block.proofs.entry.read_long_lengths.Goals as goal

pub returns-clause-some : goal.returns-clause-some
returns-clause-some c =
    let start = c.new-cursor.result in
    let one = c.varint32.new.self in
    let two = c.varint32-2.new.self in
    let three = c.varint32-3.new.self in
    let lengths = long_lengths (rest_of start) (rest_of one) (rest_of two) (rest_of three) c.in_ok-shared.shared c.in_ok-rest.rest c.in_ok-value.value c.in_ok-shared.ensures.value c.in_ok-rest.ensures.value c.in_ok-value.ensures.value in
    let at = three_spelled start three (c.in_ok-value.ensures.after.same ∙ c.in_ok-rest.ensures.after.same ∙ c.in_ok-shared.ensures.after.same) (ap (λ (at : Reading). at.place) c.new-cursor.ensures)
    (subst (λ place. place ≤ length three.bytes) c.place.ensures.value c.place.ensures.within) lengths.1 in
    subst (λ place. 3 ≤ place) (sym c.place.ensures.value) at
