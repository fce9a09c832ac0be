-- One part more was taken, or refused.
use Rattle.std.proofs.Common.{◌≤◌, ◌∙◌, List, drop, length, length-drop, length-take, take, ap, sym, subst, arith}
use Rattle.evt_types.specs.declared.event.Event.{Event}
use Rattle.event_ports.specs.Desks.{Bursts}
use Rattle.event_ports.proofs.Chains.{behind, chained, not_refused, part_ended, part_taken}
use Rattle.event_ports.proofs.desk.Desk.submit_events.Goals as goal

pub returns-then-is_some-clause-chain : goal.returns-then-is_some-clause-chain
returns-then-is_some-clause-chain c =
    let es = c.args.events.now in
    let n = c.loop-taken.taken in
    let k = c.pack-count.result in
    let m = c.submit_burst-sent.result.0 in
    let few : m ≤ k = omega (arith, c.submit_burst-sent.ensures.count, length-take k c.pack-count.new.replies) in
    let part : Bursts c.loop-taken.self (take k (drop n es)) m c.submit_burst-sent.result.1 c.submit_burst-sent.new.self =
    subst (λ (xs : List Event). Bursts c.loop-taken.self xs m c.submit_burst-sent.result.1 c.submit_burst-sent.new.self)
    (c.pack-count.ensures.packed ∙ ap (take k) (behind n es c.loop-taken.invariant.1)) c.submit_burst-sent.ensures.chain in
    part_ended es n k m c.args.self.now c.loop-taken.self c.submit_burst-sent.new.self few c.loop-taken.invariant.0 c.submit_burst-sent.result.1 (sym c.is_some.ensures ∙ c.if-is_some.true) part

pub loop-taken-preserved : goal.loop-taken-preserved
loop-taken-preserved c =
    let es = c.args.events.now in
    let n = c.loop-taken.taken in
    let k = c.pack-count.result in
    let m = c.submit_burst-sent.result.0 in
    let few : m ≤ k = omega (arith, c.submit_burst-sent.ensures.count, length-take k c.pack-count.new.replies) in
    let part : Bursts c.loop-taken.self (take k (drop n es)) m c.submit_burst-sent.result.1 c.submit_burst-sent.new.self =
    subst (λ (xs : List Event). Bursts c.loop-taken.self xs m c.submit_burst-sent.result.1 c.submit_burst-sent.new.self)
    (c.pack-count.ensures.packed ∙ ap (take k) (behind n es c.loop-taken.invariant.1)) c.submit_burst-sent.ensures.chain in (
      part_taken es n k m c.args.self.now c.loop-taken.self c.submit_burst-sent.new.self few c.loop-taken.invariant.0 c.submit_burst-sent.new.self
          (chained (take k (drop n es)) m c.submit_burst-sent.result.1 c.loop-taken.self c.submit_burst-sent.new.self (not_refused _ (sym c.is_some.ensures ∙ c.if-is_some.false)) part),
      omega (arith, few, c.pack-count.ensures.count, ap length (behind n es c.loop-taken.invariant.1), length-drop n es, c.loop-taken.invariant.1),
    )
