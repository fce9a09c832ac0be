use Rattle.std.proofs.Common.{◌≡◌, ◌+◌, length, ap, subst, sym, arith}
use Rattle.sched_core.proofs.Members.{sets_none, sets_more}
use Rattle.sched_core.specs.Links.{AreLinks, Serves}
use Rattle.sched_core.specs.Service.{AreAhead, IsAhead}
use Rattle.sched_core.proofs.new.queue_sets.Goals as goal

pub loop-queue-init : goal.loop-queue-init
loop-queue-init c = (
  subst (AreLinks c.args.shape.now 0) (sym c.in_ok-links.ensures.items) (sets_none (Serves c.args.shape.now) (length c.args.shape.now.ports)),
  subst (AreAhead c.args.shape.now 0) (sym c.in_ok-ahead.ensures.items) (sets_none (IsAhead c.args.shape.now) (length c.args.shape.now.queues)),
)

pub loop-queue-preserved : goal.loop-queue-preserved
loop-queue-preserved c = (
  subst (AreLinks c.args.shape.now (c.loop-queue.queue + 1)) (sym c.in_ok-push.ensures.items)
      (sets_more (Serves c.args.shape.now) (length c.args.shape.now.ports) c.loop-queue.queue c.loop-queue.links.items c.links_of.result c.loop-queue.invariant.0 c.links_of.ensures),
  subst (AreAhead c.args.shape.now (c.loop-queue.queue + 1)) (sym c.in_ok-push-2.ensures.items)
      (sets_more (IsAhead c.args.shape.now) (length c.args.shape.now.queues) c.loop-queue.queue c.loop-queue.ahead.items c.ahead_of.result c.loop-queue.invariant.1 c.ahead_of.ensures),
)

pub returns-clause-links : goal.returns-clause-links
returns-clause-links c =
    let e : c.loop-queue.queue ≡ length c.args.shape.now.queues = omega (arith, ap length c.queues-count.ensures.value) in
    subst (λ n. AreLinks c.args.shape.now n c.loop-queue.links.items) e c.loop-queue.invariant.0

pub returns-clause-ahead : goal.returns-clause-ahead
returns-clause-ahead c =
    let e : c.loop-queue.queue ≡ length c.args.shape.now.queues = omega (arith, ap length c.queues-count.ensures.value) in
    subst (λ n. AreAhead c.args.shape.now n c.loop-queue.ahead.items) e c.loop-queue.invariant.1
