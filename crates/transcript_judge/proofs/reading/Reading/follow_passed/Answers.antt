use Rattle.std.proofs.Common.{drop, map, ap, ◌∙◌, arith, refl, subst}
use Rattle.evt_types.specs.declared.step.Source.TheVariants.{Of}
use Rattle.evt_types.specs.declared.step.Step.TheVariants.{Accept}
use Rattle.transcript_judge.proofs.Moves.{read_passed}
use Rattle.transcript_judge.proofs.Readings.{sized}
use Rattle.transcript_judge.proofs.Walks.{rest_slice}
use Rattle.transcript_judge.specs.Ledger.{accept_of}
use Rattle.transcript_judge.specs.Scans.{IsNext}
use Rattle.transcript_judge.proofs.reading.Reading.follow_passed.Goals as goal

pub enter-requires-clause-queue : goal.enter-requires-clause-queue
enter-requires-clause-queue c = let size = sized c.args.shape.now c.args.past.now c.args.self.now c.requires.read in omega (arith, size.waiting, c.requires.formed.entry.queue)

pub returns : goal.returns
returns c =
    read_passed c.args.shape.now c.args.past.now c.args.self.now _ c.args.queue c.args.event.now c.args.from c.args.number c.requires.read c.requires.formed
    (subst (λ ks. IsNext (map accept_of ks) (Accept (c.args.event.now).queue c.args.event.now (Of c.args.from c.args.number)))
    (rest_slice c.args.self.now.taken c.deref.result.now ∙ ap (drop c.args.self.now.taken) c.deref.ensures.value) (c.if-not-is_next.ensures.yes refl))
    (c.in_ok-enter.ensures.view c.args.shape.now) c.in_ok-enter.ensures.kinds refl refl refl
