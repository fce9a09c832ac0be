use Rattle.std.proofs.Common.{◌≡◌, arith}
use Rattle.log_reading.proofs.Arity.{seven-new, eight-of}
use Rattle.log_reading.proofs.words.step_of.Goals as goal

pub returns-in-len7 : goal.returns-in-len7
returns-in-len7 c = seven-new c.new_step.result c.args.words.now _ _ _ _ (omega (arith, c.in-len7.len_at_least, c.in-len7.len_below)) c.new_step.ensures

pub returns-in-len8 : goal.returns-in-len8
returns-in-len8 c = eight-of c.of_step.result c.args.words.now _ _ _ _ _ (omega (arith, c.in-len8.len_at_least, c.in-len8.len_below)) c.of_step.ensures
