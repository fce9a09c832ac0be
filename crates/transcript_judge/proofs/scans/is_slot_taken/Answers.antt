use Rattle.std.proofs.Common.{refl, sym, ◌∙◌, subst}
use Rattle.transcript_judge.proofs.RowLists.{row_now}
use Rattle.transcript_judge.proofs.Walks.{slots_more}
use Rattle.transcript_judge.specs.Ledger.{rows}
use Rattle.transcript_judge.specs.Scans.{AreOtherSlots}
use Rattle.transcript_judge.proofs.scans.is_slot_taken.Goals.{else-other-lane-via-then-other-lane+else-has_slot, else-other-lane-via-else-other-lane}
use Rattle.transcript_judge.proofs.scans.is_slot_taken.Goals as goal

pub returns-then-has_slot-clause-some : goal.returns-then-has_slot-clause-some
returns-then-has_slot-clause-some c = λ _ leaves. c.if-has_slot.ensures.some refl (subst (AreOtherSlots c.args.queue c.args.slot) ((row_now c.args.unanswered.now c.loop-other.other c.index-unanswered-other.result c.loop-other-test.true c.index-unanswered-other.is) ∙ sym c.deref.ensures.value) (leaves c.loop-other.other c.if-other-lane.true))

pub loop-other-preserved : goal.loop-other-preserved
loop-other-preserved c =
    elim c.else-other-lane.branch [
      | else-other-lane-via-then-other-lane+else-has_slot w ↦ slots_more (rows c.args.unanswered.now) c.args.lane c.args.queue c.args.slot c.loop-other.other c.loop-other.invariant (λ _. subst (AreOtherSlots c.args.queue c.args.slot) (sym ((row_now c.args.unanswered.now c.loop-other.other c.index-unanswered-other.result c.loop-other-test.true c.index-unanswered-other.is) ∙ sym w.deref.ensures.value)) (w.has_slot.ensures.none w.if-has_slot.false))
      | else-other-lane-via-else-other-lane w ↦ slots_more (rows c.args.unanswered.now) c.args.lane c.args.queue c.args.slot c.loop-other.other c.loop-other.invariant (λ differs. absurd (differs w.if-other-lane.false))
    ]
