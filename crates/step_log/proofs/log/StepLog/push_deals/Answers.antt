use Rattle.std.proofs.Common.{rules, ◌≡◌, ℕ, ◌+◌, ◌<◌, List, [], ◌∷◌, ◌++◌, ap, arith, get_or, length, sym, take, ◌∙◌}
use Rattle.evt_types.specs.declared.event.Delivery.{Delivery}
use Rattle.evt_types.specs.declared.step.Step.{Step}
use Rattle.evt_types.specs.declared.step.Step.TheVariants.{Give}
use Rattle.step_log.specs.Gives.{deals_of, give_of}
use Rattle.step_log.proofs.Deals.{deal_behind}
use Rattle.step_log.proofs.log.StepLog.push_deals.Goals as goal

deal_pushed : (q : ℕ) (ds : List Delivery) (ls : List ℕ) (i l n : ℕ) (d : Delivery) (start old new : List Step) → i < length ds → i < length ls → d ≡ get_or ds i d → l ≡ get_or ls i l
    → old ≡ start ++ deals_of q (take i ds) (take i ls) → n ≡ d.number → new ≡ old ++ Give l q n ∷ [] → new ≡ start ++ deals_of q (take (i + 1) ds) (take (i + 1) ls)
deal_pushed q ds ls i l n d start old new within there this is before number pushed =
    pushed
    ∙ (ap (λ m. old ++ Give l q m ∷ []) number
    ∙ (ap (λ ss. ss ++ give_of l q d ∷ []) before ∙ sym (deal_behind q ds ls i l d start within there this is)))

pub loop-position-preserved : goal.loop-position-preserved
loop-position-preserved g c =
    let i = c.loop-position.position in
    let ds = c.args.row.now in
    let ls = c.args.lanes.now in
    let within : i < length ds = c.loop-position-test.true in
    let there : i < length ls = omega (arith, within, c.requires.lanes) in (
      deal_pushed c.args.queue ds ls i (get_or ls i 0) c.number.result c.index-row-position.result (g.Self.StepLog.steps c.args.self.now) (g.Self.StepLog.steps c.loop-position.self)
          (g.Self.StepLog.steps c.push_step.new.self) within there c.index-row-position.is (search rules) c.loop-position.invariant.0 c.number.ensures c.push_step.ensures.steps,
      omega (arith, c.loop-position.invariant.1, c.push_step.ensures.room),
    )
