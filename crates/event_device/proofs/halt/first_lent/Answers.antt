use Rattle.std.proofs.Common.{refl, arith}
use Rattle.std.proofs.lemmas.Option.{slice_get_read}
use Rattle.event_device.proofs.Stopping.{filled_more}
use Rattle.event_device.proofs.halt.first_lent.Goals as goal

pub loop-number-preserved : goal.loop-number-preserved
loop-number-preserved c =
    let home = c.index-homes-number.result in
    let here = slice_get_read c.args.homes.now _ c.loop-number.number home refl (omega arith) c.index-homes-number.is in
    filled_more c.args.homes.now c.loop-number.number home c.loop-number.invariant here c.if-is_none.ensures

pub returns : goal.returns
returns c = λ n low. c.loop-number.invariant n (omega (arith, low, c.loop-number-test.false))
