use Rattle.std.proofs.Common.{◌∙◌, ap, subst, sym}
use Rattle.evt_types.specs.declared.event.Numbered.{Numbered}
use Rattle.sched_core.proofs.Offers.{choice_is_offer}
use Rattle.sched_core.proofs.Runs.{made_in_turn}
use Rattle.sched_core.specs.Offered.{numbered_in}
use Rattle.transcripts.specs.Choice.{IsOffer}
use Rattle.transcripts.specs.Standing.{after_give}
use Rattle.sched_core.proofs.state.Core.hand_next.Goals as goal

pub hand_out-requires-clause-offer : goal.hand_out-requires-clause-offer
hand_out-requires-clause-offer c =
    let v = c.args.self.now in
    let o = c.in_ok-offer.offer in
    let choice = made_in_turn v c.args.skips.now c.args.queue c.args.level.number o c.requires.turn c.requires.quota c.in_ok-offer.ensures.offer in
    subst (λ u. IsOffer u o.lane c.args.queue c.numbered-waiting.result) (sym c.in_ok-offer.ensures.same)
    (subst (IsOffer v o.lane c.args.queue) (sym c.numbered-waiting.ensures)
    (subst (λ n. IsOffer v o.lane n (numbered_in o.delivery)) c.in_ok-offer.ensures.offer.0 (choice_is_offer v c.args.skips.now o.lane o.delivery.queue (numbered_in o.delivery) choice)))

pub returns-clause-given : goal.returns-clause-given
returns-clause-given c =
    let v = c.args.self.now in
    let o = c.in_ok-offer.offer in
    record {
      choice = made_in_turn v c.args.skips.now c.args.queue c.args.level.number o c.requires.turn c.requires.quota c.in_ok-offer.ensures.offer;
      named = c.in_ok-offer.ensures.offer.0;
      view =
          c.hand_out.ensures.view
          ∙ (ap (λ u. after_give u o.lane c.args.queue c.numbered-waiting.result.number) c.in_ok-offer.ensures.same
          ∙ (ap (λ (w : Numbered). after_give v o.lane c.args.queue w.number) c.numbered-waiting.ensures
          ∙ ap (λ q. after_give v o.lane q o.delivery.number) (sym c.in_ok-offer.ensures.offer.0)));
      passed = c.given.ensures.value;
    }
