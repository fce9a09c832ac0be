use Rattle.std.proofs.Common.{◌≡◌, ◌≢◌, ℕ, None, ap, refl, sym, ◌∙◌}
use Rattle.std.specs.Prelude.{[], ◌∷◌, ◌++◌}
use Rattle.evt_types.specs.declared.event.Event.{Event}
use Rattle.evt_types.specs.declared.step.Step.{Step}
use Rattle.evt_types.specs.declared.step.Step.TheVariants.{Accept, Bounced, Done, Give, More, Shut, Turned}
use Rattle.lists.proofs.Lists.{more_none, more_some}
use Rattle.event_device.specs.Listed.{turned_all, turned_by}
use Rattle.event_device.proofs.books.BooksStepLog.push_step.Goals.{in-Turned, in_default}
use Rattle.event_device.proofs.books.BooksStepLog.push_step.Goals as goal

-- no other step turns an event away
other_turns_none : (s : Step) → ((l : ℕ) (e : Event) → s ≢ Turned l e) → turned_by s ≡ None
other_turns_none (Turned l e) other = absurd (other l e refl)
other_turns_none (Accept q e c) other = refl
other_turns_none (Give l q n) other = refl
other_turns_none (Done l o) other = refl
other_turns_none (More l e) other = refl
other_turns_none (Bounced l) other = refl
other_turns_none Shut other = refl

pub invariant_of-self : goal.invariant_of-self
invariant_of-self g c =
    let before = g.L.StepLog.steps c.args.self.now.log in
    let come = sym (ap turned_all c.push_step.ensures.steps) in
    record {
      turned_are =
          elim c.match-step.branch [
            | in-Turned w ↦
                ap (λ x. x.1.1.0.items) w.self-is
                ∙ (w.push_reserved.ensures.items
                ∙ (ap (λ ts. ts ++ record { lane = w.in-Turned.lane; event = w.in-Turned.event } ∷ []) c.args.self.now.turned_are
                ∙ (sym (more_some turned_by before c.match-step.step _ (ap turned_by w.step-is)) ∙ come)))
            | in_default w ↦
                ap (λ x. x.1.1.0.items) w.self-is
                ∙ (c.args.self.now.turned_are ∙ (sym (more_none turned_by before c.match-step.step (other_turns_none _ (λ l e is. w.in_default.not-Turned l e (sym w.step-is ∙ is)))) ∙ come))
          ];
    }
