use Rattle.std.proofs.Common.{ap, ◌∙◌}
use Rattle.std.specs.BTreeSet.{contains}
use Rattle.std.specs.List.{find}
use Rattle.std.specs.Ordering.{nat_cmp}
use Rattle.std.specs.Prelude.{filter, not, option_map}
use Rattle.evt_types.specs.declared.event.Numbered.{Numbered}
use Rattle.lists.specs.Lists.{has}
use Rattle.transcripts.specs.Transcript.{numbered}
use Rattle.judge_app.specs.Gifts.{goes_before}
use Rattle.judge_app.proofs.Walks.{waits_by}
use Rattle.judge_app.proofs.gifts.passed_over.Goals as goal

pub returns : goal.returns
returns c =
    c.first_before.ensures
    ∙ ap (λ ws. option_map (λ (v : Numbered). v.number) (find (goes_before c.args.shape.now c.args.gift.queue c.args.gift.number c.args.event.now) ws))
    (ap (λ es. filter (λ (w : Numbered). not (contains nat_cmp c.in_ok-given.given w.number)) (numbered 0 es)) c.requires
    ∙ waits_by c.args.past.now c.args.gift.queue c.in_ok-given.given (λ n. c.in_ok-given.ensures n ∙ ap (has n) (c.deref.ensures.value ∙ c.in_ok-hand_of.ensures)))
