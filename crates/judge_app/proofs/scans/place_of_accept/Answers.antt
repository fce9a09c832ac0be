use Rattle.std.proofs.Common.{rules, tests, sym, ◌∙◌}
use Rattle.std.proofs.lemmas.Iterator.{YieldsList-from_slice}
use Rattle.std.proofs.lemmas.Iterator.Adapters.{option_map_id}
use Rattle.std.proofs.lemmas.Iterator.Consumers.{nth_from_yields_List, YieldsList-from_enumerate, YieldsList-from_filter_map}
use Rattle.judge_app.specs.Scans.{place_if}
use Rattle.judge_app.specs.Steps.{accepts}
use Rattle.judge_app.proofs.scans.place_of_accept.Goals as goal

pub returns : goal.returns
returns c =
    sym (option_map_id c.nth.result) ∙ nth_from_yields_List c.nth.result _ _ c.nth.ensures.ran (YieldsList-from_filter_map _ (place_if (accepts c.args.queue)) (YieldsList-from_enumerate (YieldsList-from_slice c.args.past.now cc) cc) c.filter_map.ensures.closure (λ x r q k. search (rules, tests)))
