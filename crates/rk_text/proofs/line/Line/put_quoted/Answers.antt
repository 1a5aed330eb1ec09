use Rattle.rk_text.proofs.QuoteLemmas.{quoted_hex, quoted_shown}
use Rattle.std.proofs.lemmas.Result.{on_ok_weaker}
use Rattle.rk_text.proofs.line.Line.put_quoted.Goals as goal

pub returns-in_ok-put : goal.returns-in_ok-put
returns-in_ok-put c = on_ok_weaker c.put_hex.result (λ put. quoted_hex c.args.self.now c.put.new.self c.put_hex.new.self c.args.bytes.now c.args.hex c.if-hex.true c.in_ok-put.ensures put) c.put_hex.ensures

pub returns-in_ok-put_shown : goal.returns-in_ok-put_shown
returns-in_ok-put_shown c = on_ok_weaker c.put-else-hex-2.result (λ put. quoted_shown c.args.self.now c.put-else-hex.new.self c.put_shown.new.self c.put-else-hex-2.new.self c.args.bytes.now c.args.hex c.if-hex.false c.in_ok-put-2.ensures c.in_ok-put_shown.ensures put) c.put-else-hex-2.ensures
