use Rattle.std.proofs.Common.{rules, ◌≢◌, [], ◌∷◌, length-append, arith}
use Rattle.history_reading.proofs.Readings.{bad-history, empty, read-step, read-all, shorter}
use Rattle.history_reading.proofs.reading.read_history.Goals as goal

pub returns-in-Err-clause-only : goal.returns-in-Err-clause-only
returns-in-Err-clause-only c = bad-history c.args.text.now c.loop-rest.history.items c.loop-rest.rest.now c.loop-rest.invariant.read (search rules) c.in-Err.ensures.only

pub loop-rest-preserved : goal.loop-rest-preserved
loop-rest-preserved c =
    let old = c.loop-rest.history.items in
    let rest = c.loop-rest.rest.now in
    let less = shorter c.in-Ok.found.0 rest c.in-Ok.found.1.now c.in-Ok.ensures.ok in
    let more = length-append old (c.in-Ok.found.0 ∷ []) in
    let some : rest ≢ [] = search rules in
    record {
      read = rw c.in_ok-push.ensures.items (read-step c.args.text.now old rest c.in-Ok.found.0 c.in-Ok.found.1.now c.loop-rest.invariant.read some c.in-Ok.ensures.ok c.in-Ok.ensures.there c.in-Ok.ensures.only);
      line = rw c.in_ok-push.ensures.items (omega (arith, more, c.loop-rest.invariant.line));
      fits = rw c.in_ok-push.ensures.items (omega (arith, more, less, c.loop-rest.invariant.fits));
    }

pub returns-clause-only : goal.returns-clause-only
returns-clause-only c = read-all c.args.text.now c.loop-rest.history.items c.loop-rest.rest.now c.loop-rest.invariant.read (empty c.loop-rest.rest.now (search rules))
