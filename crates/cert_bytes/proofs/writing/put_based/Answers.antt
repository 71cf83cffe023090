use Rattle.std.proofs.Common.{◌+◌, ◌%◌, ◌∷◌, [], arith}
use Rattle.cert_bytes.proofs.Fronts.{front_more}
use Rattle.cert_bytes.proofs.Digits.{fewer_left, one_written, last_written}
use Rattle.cert_bytes.proofs.writing.put_based.Goals as goal

pub loop-rest-preserved : goal.loop-rest-preserved
loop-rest-preserved c =
    let t = c.loop-rest-test.true in
    let i = c.loop-rest.invariant in
    let l = fewer_left c.loop-rest.left c.loop-rest.rest t i.room in
    record {
      some = l.0;
      room = l.1;
      spelled = one_written c.loop-rest.out.items c.push.new.self.items _ c.loop-rest.left
          c.loop-rest.rest t i.room c.in_ok-push.ensures.items i.spelled;
      front = front_more _ c.loop-rest.out.items ((c.loop-rest.rest % 128 + 128) ∷ [])
          c.push.new.self.items i.front c.in_ok-push.ensures.items;
    }

pub returns-clause-ok : goal.returns-clause-ok
returns-clause-ok c =
    let t = c.loop-rest-test.false in
    let i = c.loop-rest.invariant in
    last_written c.loop-rest.out.items c.push-2.new.self.items _ c.loop-rest.left c.loop-rest.rest
    (omega (arith, t)) i.some c.in_ok-push-2.ensures.items i.spelled
