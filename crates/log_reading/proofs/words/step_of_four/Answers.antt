use Rattle.std.proofs.Common.{◌≡◌, ◌∙◌, codes, rules, sym}
use Rattle.std.proofs.lemmas.Bool.{false≢true}
use Rattle.std.proofs.lemmas.Bool.Decides.{Decides-eqb}
use Rattle.std.proofs.lemmas.Slice.Eq.{slice_eq-Decides}
use Rattle.log_reading.proofs.Arity.{four-give, four-lane}
use Rattle.log_reading.proofs.words.step_of_four.Goals as goal

pub returns-then-eq : goal.returns-then-eq
returns-then-eq c = four-give c.give_step.result c.args.name.now c.args.lane.now c.args.second.now c.args.third.now c.give_step.ensures (search rules)

pub returns-else-eq : goal.returns-else-eq
returns-else-eq c =
    four-lane c.lane_step.result c.args.name.now c.args.lane.now c.args.second.now c.args.third.now c.lane_step.ensures.more c.lane_step.ensures.turned
    (λ e. false≢true (sym c.if-eq.false ∙ (slice_eq-Decides Decides-eqb _ _ _ c.eq.ensures).1 e))
