use Rattle.std.proofs.Common.{◌∙◌, ◌++◌, ◌∷◌, [], ap, arith, length}
use Rattle.history_judge.proofs.Answering.{found_more}
use Rattle.history_judge.proofs.InOrder.{entry_at, port_known}
use Rattle.history_judge.specs.Answers.{answer_of}
use Rattle.history_judge.proofs.answers.all_answers.Goals as goal

pub count_got-number-requires-clause-port : goal.count_got-number-requires-clause-port
count_got-number-requires-clause-port c =
    omega (
      arith,
      port_known c.args.ports c.args.history.now c.loop-seen.seen-index c.seen-item.result c.requires
          (entry_at c.args.history.now c.loop-seen.seen-index c.seen-item.result c.loop-seen-test.true c.seen-item.is),
      c.loop-seen.invariant.each_port,
    )

pub answer_of-requires : goal.answer_of-requires
answer_of-requires c =
    omega (
      arith,
      port_known c.args.ports c.args.history.now c.loop-seen.seen-index c.seen-item.result c.requires
          (entry_at c.args.history.now c.loop-seen.seen-index c.seen-item.result c.loop-seen-test.true c.seen-item.is),
      c.in_ok-places.ensures.sized,
      ap length c.deref.ensures.value,
    )

pub loop-seen-preserved : goal.loop-seen-preserved
loop-seen-preserved c =
    let at = entry_at c.args.history.now c.loop-seen.seen-index c.seen-item.result c.loop-seen-test.true c.seen-item.is in
    found_more c.args.ports c.args.history.now c.loop-seen.seen-index c.count_got-number.result c.seen-item.result c.in_ok-places.places.items c.loop-seen.got.items
    c.count_got-number.new.got.items c.loop-seen.answers.items c.push.new.self.items at
    (port_known c.args.ports c.args.history.now c.loop-seen.seen-index c.seen-item.result c.requires at) c.in_ok-places.ensures c.loop-seen.invariant
    c.count_got-number.ensures.before c.count_got-number.ensures.counted
    (c.in_ok-push.ensures.items
    ∙ ap (λ o. c.loop-seen.answers.items ++ o ∷ []) (c.answer_of.ensures ∙ ap (λ places. answer_of places c.seen-item.result c.count_got-number.result) c.deref.ensures.value))
