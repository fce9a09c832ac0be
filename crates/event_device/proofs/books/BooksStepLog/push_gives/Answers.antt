use Rattle.std.proofs.Common.{◌≡◌, ℕ, List, [], ◌∷◌, ◌++◌, ap, append-nil, append_assoc, refl, sym, ◌∙◌}
use Rattle.evt_types.specs.declared.event.Delivery.{Delivery}
use Rattle.evt_types.specs.declared.step.Step.{Step}
use Rattle.lists.proofs.Lists.{more_none}
use Rattle.step_log.specs.Gives.{give_of, gives_of}
use Rattle.event_device.specs.Listed.{turned_all, turned_by}
use Rattle.event_device.proofs.books.BooksStepLog.push_gives.Goals as goal

-- no gift turns an event away
gives_turn_none : (T : List Step) (l q : ℕ) (ds : List Delivery) → turned_all (T ++ gives_of l q ds) ≡ turned_all T
gives_turn_none T l q [] = ap turned_all (append-nil T)
gives_turn_none T l q (d ∷ ds) =
    ap turned_all (sym (append_assoc T (give_of l q d ∷ []) (gives_of l q ds)))
    ∙ (gives_turn_none (T ++ give_of l q d ∷ []) l q ds ∙ more_none turned_by T (give_of l q d) refl)

pub invariant_of-self : goal.invariant_of-self
invariant_of-self g c =
    record {
      turned_are = c.args.self.now.turned_are ∙ sym (ap turned_all c.push_gives.ensures.steps ∙ gives_turn_none (g.L.StepLog.steps c.args.self.now.log) c.args.lane c.args.queue c.args.row.now);
    }
