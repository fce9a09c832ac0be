use Rattle.std.proofs.Common.{◌≡◌, arith, subst}
use Rattle.lane_rings.proofs.LaneSets.{IsLeft, lowest_taken, one_taken}
use Rattle.lane_rings.proofs.hints.LaneSet.lowest.Goals as goal

pub loop-taken-preserved : goal.loop-taken-preserved
loop-taken-preserved c =
    let taken = c.take_lowest.ensures in
    one_taken c.args.self c.loop-taken.left c.take_lowest.new.self c.loop-taken._taken c.take_lowest.result taken.first taken.gone taken.others taken.fewer taken.none
    (omega (arith, c.count.ensures, c.if-count-most.false, c.loop-taken-test.true))
    c.loop-taken.invariant

pub returns-clause-lowest : goal.returns-clause-lowest
returns-clause-lowest c =
    let all : c.loop-taken._taken ≡ c.args.most = omega (arith, c.loop-taken-test.false, c.loop-taken.auto._taken-end) in
    lowest_taken c.args.self c.loop-taken.left c.except.result c.args.most
    (omega (arith, c.count.ensures, c.if-count-most.false))
    (subst (λ n. IsLeft c.args.self n c.loop-taken.left) all c.loop-taken.invariant)
    c.except.ensures
