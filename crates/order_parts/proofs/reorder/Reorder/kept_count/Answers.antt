use Rattle.std.proofs.Common.{length, option_copied, ap, sym, ◌∙◌}
use Rattle.evt_types.specs.Place.{Place}
use Rattle.order_parts.proofs.Kept.{count_is, count_few, none_there}
use Rattle.order_parts.proofs.reorder.Reorder.kept_count.Goals as goal

pub returns-in-Some-clause-value : goal.returns-in-Some-clause-value
returns-in-Some-clause-value c = sym (count_is c.self.inside c.args.self.now c.self.view_is c.args.index c.self.invariant c.in-Some.handed.now (sym c.get.ensures ∙ ap option_copied c.in-Some.is))

pub returns-in-Some-clause-within : goal.returns-in-Some-clause-within
returns-in-Some-clause-within c = count_few c.self.inside c.args.self.now c.self.view_is c.args.index c.self.invariant c.in-Some.handed.now (sym c.get.ensures ∙ ap option_copied c.in-Some.is)

pub returns-in-None-clause-value : goal.returns-in-None-clause-value
returns-in-None-clause-value c = sym (ap (λ (x : Place). length x.forwards) (none_there c.self.inside c.args.self.now c.self.view_is c.args.index (sym c.get.ensures ∙ ap option_copied c.in-None.is)))
