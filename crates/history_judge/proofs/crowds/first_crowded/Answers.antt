use Rattle.std.proofs.Common.{◌≡◌, ◌∙◌, Some, ap, arith, false, slice_get, sym, true}
use Rattle.evt_types.specs.Plan.{bound_of}
use Rattle.history_judge.proofs.Crowded.{all_rise, counted_up, crowded_by, crowded_is, crowded_within, known_past, never_crowded}
use Rattle.history_judge.proofs.Holdings.{port_there}
use Rattle.history_judge.proofs.InOrder.{entry_at, none_at_all}
use Rattle.history_judge.specs.Crowds.{IsCrowdedBy, exceeds}
use Rattle.history_judge.proofs.crowds.first_crowded.Goals as goal

pub count_got-before-requires-clause-port : goal.count_got-before-requires-clause-port
count_got-before-requires-clause-port c =
    let at : slice_get c.args.history.now c.loop-at.at ≡ Some c.index-history-at.result =
    entry_at c.args.history.now c.loop-at.at c.index-history-at.result c.loop-at-test.true c.index-history-at.is in
    omega (arith, port_there c.args.shape.now c.args.history.now c.args.times.now c.loop-at.at c.index-history-at.result c.requires at, c.loop-at.invariant.ports)

pub exceeds-requires-clause-rising : goal.exceeds-requires-clause-rising
exceeds-requires-clause-rising c = all_rise c.args.shape.now c.args.history.now c.args.times.now c.requires

pub exceeds-requires-clause-known : goal.exceeds-requires-clause-known
exceeds-requires-clause-known c =
    known_past c.args.shape.now c.args.history.now c.args.times.now c.requires c.loop-at.at c.index-history-at.result c.loop-at.got.items c.loop-at.begun.items
    (entry_at c.args.history.now c.loop-at.at c.index-history-at.result c.loop-at-test.true c.index-history-at.is) c.loop-at.invariant

pub returns-then-exceeds-clause-some : goal.returns-then-exceeds-clause-some
returns-then-exceeds-clause-some c =
    crowded_is c.args.shape.now c.args.history.now c.loop-at.at c.requires.sorted
    (crowded_by c.args.shape.now c.args.history.now c.args.times.now c.requires c.loop-at.at c.index-history-at.result c.loop-at.got.items c.loop-at.begun.items c.count_got-before.new.got.items
    (entry_at c.args.history.now c.loop-at.at c.index-history-at.result c.loop-at-test.true c.index-history-at.is) c.loop-at.invariant c.count_got-before.ensures.counted
    more)
  where
    more : exceeds (bound_of c.args.shape.now) c.index-history-at.result c.count_got-before.new.got.items c.args.times.now ≡ true
    more =
        ap (λ n. exceeds n c.index-history-at.result c.count_got-before.new.got.items c.args.times.now) (sym c.bound-bound.ensures.value)
        ∙ (ap (λ xs. exceeds c.bound-bound.result c.index-history-at.result xs c.args.times.now) (sym c.deref.ensures.value) ∙ (sym c.exceeds.ensures.value ∙ c.if-exceeds.true))

pub loop-at-preserved : goal.loop-at-preserved
loop-at-preserved c =
    counted_up c.args.shape.now c.args.history.now c.args.times.now c.requires c.loop-at.at c.index-history-at.result c.loop-at.got.items c.loop-at.begun.items c.count_got-before.new.got.items
    (entry_at c.args.history.now c.loop-at.at c.index-history-at.result c.loop-at-test.true c.index-history-at.is) c.loop-at.invariant c.count_got-before.ensures.counted c.exceeds.new.begun.items
    c.exceeds.ensures.begun less
  where
    less : exceeds (bound_of c.args.shape.now) c.index-history-at.result c.count_got-before.new.got.items c.args.times.now ≡ false
    less =
        ap (λ n. exceeds n c.index-history-at.result c.count_got-before.new.got.items c.args.times.now) (sym c.bound-bound.ensures.value)
        ∙ (ap (λ xs. exceeds c.bound-bound.result c.index-history-at.result xs c.args.times.now) (sym c.deref.ensures.value) ∙ (sym c.exceeds.ensures.value ∙ c.if-exceeds.false))

pub returns-clause-none : goal.returns-clause-none
returns-clause-none c =
    never_crowded c.args.shape.now c.args.history.now c.requires.sorted
    (none_at_all (IsCrowdedBy c.args.shape.now c.args.history.now) c.args.history.now c.loop-at.at c.loop-at-test.false
    (crowded_within c.args.shape.now c.args.history.now) c.loop-at.invariant.none)
