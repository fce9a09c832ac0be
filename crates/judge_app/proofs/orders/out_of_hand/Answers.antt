use Rattle.std.proofs.Common.{◌<◌, length, ap, ◌∙◌, sym, subst}
use Rattle.std.specs.Prelude.{All}
use Rattle.lists.specs.Lists.{upto}
use Rattle.transcripts.specs.Transcript.{accepted}
use Rattle.judge_app.proofs.Given.{given_below}
use Rattle.judge_app.proofs.orders.out_of_hand.Goals as goal

pub kept-requires : goal.kept-requires
kept-requires c =
    subst (All (λ m. m < length (accepted c.args.past.now c.args.queue)))
    (sym (c.deref-4.ensures.value ∙ (c.in_ok-front.ensures ∙ ap (upto c.args.number) (c.deref.ensures.value ∙ c.in_ok-hand_of.ensures))))
    (given_below c.args.shape.now c.args.past.now c.args.queue c.args.number c.requires)
