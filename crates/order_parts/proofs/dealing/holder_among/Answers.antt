-- The slot's holder, where it is one of the lanes.
use Rattle.std.proofs.Common.{◌∙◌, ◌<◌, ◌^◌, arith, rules, sym}
use Rattle.order_parts.specs.Pins.{pin_at}
use Rattle.order_parts.proofs.Fewest.{has_low}
use Rattle.order_parts.proofs.Holders.{may_is_holder}
use Rattle.order_parts.proofs.dealing.holder_among.Goals as goal

pub returns-in-Some-2-2 : goal.returns-in-Some-2-2
returns-in-Some-2-2 c m has may =
    let same = may_is_holder (pin_at c.args.pins.now c.args.slot) c.in-Some.lane m (sym c.holder.ensures ∙ c.in-Some.is) may in
    let fits : c.args.lanes.bits < 2 ^ 64 = search rules in
    let low = has_low c.args.lanes m fits has in
    let past = c.if-lane-lt-MAX_MEMBERS.false in
    omega arith
