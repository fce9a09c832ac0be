use Rattle.std.proofs.Common.{◌≡◌, ◌+◌, ◌-◌, ap, sym, ◌∙◌, arith}
use Rattle.lane_rings.specs.LaneSets.{lanes_below}
use Rattle.lane_rings.proofs.LaneSets.{below_first, below_joined, members_within}
use Rattle.lane_rings.proofs.hints.LaneSet.count_below.Goals as goal

pub returns-then-lane-lt-WORD : goal.returns-then-lane-lt-WORD
returns-then-lane-lt-WORD c = let first = below_first c.args.self c.args.lane (omega (arith, c.if-lane-lt-WORD.true)) in c.count_below.ensures ∙ sym first

pub overflow_add-result : goal.overflow_add-result
overflow_add-result c =
    let low = c.count-low.ensures 64 (omega arith) in
    let few = (members_within c.args.self 64).0 in
    let high = (members_within c.args.self (c.args.lane - 64)).1 in
    omega (arith, c.count_below-then-lane-lt-HINTED.ensures, c.if-lane-lt-HINTED.true)

pub returns-then-lane-lt-HINTED : goal.returns-then-lane-lt-HINTED
returns-then-lane-lt-HINTED c =
    let low = c.count-low.ensures 64 (omega arith) in
    let at : 64 + (c.args.lane - 64) ≡ c.args.lane = omega (arith, c.if-lane-lt-WORD.false) in
    let all = sym (ap (lanes_below c.args.self) at) ∙ below_joined c.args.self (c.args.lane - 64) in
    omega (arith, c.count_below-then-lane-lt-HINTED.ensures)

pub overflow_add-result-2 : goal.overflow_add-result-2
overflow_add-result-2 c =
    let low = c.count-low.ensures 64 (omega arith) in
    let high = c.count.ensures 64 (omega arith) in
    let few = members_within c.args.self 64 in
    omega (arith, few.0, few.1)

pub returns : goal.returns
returns c =
    let low = c.count-low.ensures 64 (omega arith) in
    let high = c.count.ensures (c.args.lane - 64) (omega (arith, c.if-lane-lt-HINTED.false)) in
    let at : 64 + (c.args.lane - 64) ≡ c.args.lane = omega (arith, c.if-lane-lt-WORD.false) in
    let all = sym (ap (lanes_below c.args.self) at) ∙ below_joined c.args.self (c.args.lane - 64) in
    omega arith
