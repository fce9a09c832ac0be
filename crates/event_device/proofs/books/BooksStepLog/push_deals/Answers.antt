use Rattle.std.proofs.Common.{◌≡◌, ℕ, List, [], ◌∷◌, ◌++◌, ap, append-nil, append_assoc, refl, sym, ◌∙◌}
use Rattle.evt_types.specs.declared.event.Delivery.{Delivery}
use Rattle.evt_types.specs.declared.step.Step.{Step}
use Rattle.lists.proofs.Lists.{more_none}
use Rattle.step_log.specs.Gives.{deals_of, give_of}
use Rattle.event_device.specs.Listed.{turned_all, turned_by}
use Rattle.event_device.proofs.books.BooksStepLog.push_deals.Goals as goal

-- no gift of a deal turns an event away
deals_turn_none : (T : List Step) (q : ℕ) (ds : List Delivery) (ls : List ℕ) → turned_all (T ++ deals_of q ds ls) ≡ turned_all T
deals_turn_none T q [] ls = ap turned_all (append-nil T)
deals_turn_none T q (d ∷ ds) [] = ap turned_all (append-nil T)
deals_turn_none T q (d ∷ ds) (l ∷ ls) =
    ap turned_all (sym (append_assoc T (give_of l q d ∷ []) (deals_of q ds ls)))
    ∙ (deals_turn_none (T ++ give_of l q d ∷ []) q ds ls ∙ more_none turned_by T (give_of l q d) refl)

pub invariant_of-self : goal.invariant_of-self
invariant_of-self g c =
    record {
      turned_are = c.args.self.now.turned_are ∙ sym (ap turned_all c.push_deals.ensures.steps ∙ deals_turn_none (g.L.StepLog.steps c.args.self.now.log) c.args.queue c.args.row.now c.args.lanes.now);
    }
