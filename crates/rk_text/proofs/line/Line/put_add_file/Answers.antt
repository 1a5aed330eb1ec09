use Rattle.std.proofs.Common.{ℕ, List, ◌++◌}
use Rattle.std.specs.Prelude.{codes}
use Rattle.std.proofs.lemmas.Result.{on_ok_weaker}
use Rattle.rk_bytes.specs.Model.Lines.{key_text, then_number, seqs_words}
use Rattle.rk_text.proofs.EditLemmas.{then_put, then_both_put}
use Rattle.rk_text.proofs.line.Line.put_add_file.Goals as goal

pub returns : goal.returns
returns c =
    let start = c.args.self.now in
    let file = c.args.file.now in
    let level : List ℕ = codes "add_file" ++ then_number file.level in
    let number : List ℕ = level ++ then_number file.number in
    let size : List ℕ = number ++ then_number file.size in
    let low = key_text c.args.hex file.smallest.now in
    let high = key_text c.args.hex file.largest.now in
    let smallest : List ℕ = size ++ codes " " ++ low in
    let largest : List ℕ = smallest ++ codes " " ++ high in
    let line-2 = then_put start level (then_number file.number) c.put_with_id.new.self c.put_number.new.self c.in_ok-put_with_id.ensures c.in_ok-put_number.ensures in
    let line-3 = then_put start number (then_number file.size) c.put_number.new.self c.put_number-2.new.self line-2 c.in_ok-put_number-2.ensures in
    let line-4 = then_both_put start size (codes " ") low c.put_number-2.new.self c.put_bound.new.self line-3 c.in_ok-put_bound.ensures in
    let line-5 = then_both_put start smallest (codes " ") high c.put_bound.new.self c.put_bound-2.new.self line-4 c.in_ok-put_bound-2.ensures in
    on_ok_weaker c.put_seqs.result (λ put. then_put start largest (seqs_words file.seqs) c.put_bound-2.new.self c.put_seqs.new.self line-5 put) c.put_seqs.ensures
