use Rattle.std.proofs.Common.{◌≡◌, ◌++◌, drop}
use Rattle.lists.specs.Lists.{upto}
use Rattle.judge_app.proofs.orders.upto.Given as goal

abbrev pub invariant-loop-other : goal.invariant-loop-other
invariant-loop-other l = l.front.items ++ upto l.number (drop l.other-index l.numbers) ≡ upto l.number l.numbers
