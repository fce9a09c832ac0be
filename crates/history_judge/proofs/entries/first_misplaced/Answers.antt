use Rattle.std.proofs.Common.{◌∙◌, ap, arith, length, sym}
use Rattle.history_judge.proofs.InOrder.{disorder_within, entry_at, is_misplaced, last_more, none_at_all, port_known}
use Rattle.history_judge.specs.Entries.{IsOutOfOrder, misplaced}
use Rattle.history_judge.proofs.entries.first_misplaced.Goals as goal

pub is_misplaced-requires : goal.is_misplaced-requires
is_misplaced-requires c =
    omega (
      arith,
      port_known c.args.ports c.args.history.now c.loop-at.at c.index-history-at.result c.requires
          (entry_at c.args.history.now c.loop-at.at c.index-history-at.result c.loop-at-test.true c.index-history-at.is),
      c.loop-at.invariant.sized,
      ap length c.deref.ensures.value,
    )

pub returns-then-is_misplaced-clause-some : goal.returns-then-is_misplaced-clause-some
returns-then-is_misplaced-clause-some c =
    is_misplaced c.args.ports c.args.history.now c.loop-at.at c.index-history-at.result c.loop-at.last.items
    (entry_at c.args.history.now c.loop-at.at c.index-history-at.result c.loop-at-test.true c.index-history-at.is)
    (port_known c.args.ports c.args.history.now c.loop-at.at c.index-history-at.result c.requires
    (entry_at c.args.history.now c.loop-at.at c.index-history-at.result c.loop-at-test.true c.index-history-at.is))
    c.loop-at.invariant
    (ap (λ xs. misplaced xs c.index-history-at.result) (sym c.deref.ensures.value) ∙ (sym c.is_misplaced.ensures ∙ c.if-is_misplaced.true))

pub index_mut-requires : goal.index_mut-requires
index_mut-requires c =
    omega (
      arith,
      port_known c.args.ports c.args.history.now c.loop-at.at c.index-history-at.result c.requires
          (entry_at c.args.history.now c.loop-at.at c.index-history-at.result c.loop-at-test.true c.index-history-at.is),
      c.loop-at.invariant.sized,
      c.loop-at.last.ok,
    )

pub loop-at-preserved : goal.loop-at-preserved
loop-at-preserved c =
    last_more c.args.ports c.args.history.now c.loop-at.at c.index-history-at.result c.loop-at.last.items
    (entry_at c.args.history.now c.loop-at.at c.index-history-at.result c.loop-at-test.true c.index-history-at.is)
    (port_known c.args.ports c.args.history.now c.loop-at.at c.index-history-at.result c.requires
    (entry_at c.args.history.now c.loop-at.at c.index-history-at.result c.loop-at-test.true c.index-history-at.is))
    c.loop-at.invariant
    (ap (λ xs. misplaced xs c.index-history-at.result) (sym c.deref.ensures.value) ∙ (sym c.is_misplaced.ensures ∙ c.if-is_misplaced.false))

pub returns-clause-none : goal.returns-clause-none
returns-clause-none c =
    none_at_all (IsOutOfOrder c.args.history.now) c.args.history.now c.loop-at.at c.loop-at-test.false (disorder_within c.args.history.now) c.loop-at.invariant.ordered
