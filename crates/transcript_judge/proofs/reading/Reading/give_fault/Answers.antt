use Rattle.std.proofs.Common.{refl, sym, ap, ◌∙◌, subst, arith}
use Rattle.evt_types.specs.Plan.{serves}
use Rattle.transcript_judge.proofs.Faults.{give_apart, give_deep, give_offer, give_overtaking, give_placeless, give_unlinked}
use Rattle.transcript_judge.proofs.Readings.{sized}
use Rattle.transcript_judge.proofs.RowLists.{apart_in, apart_out, row_len}
use Rattle.transcript_judge.specs.Ledger.{rows}
use Rattle.transcript_judge.specs.Scans.{LeavesSlot}
use Rattle.transcript_judge.proofs.reading.Reading.give_fault.Goals as goal

pub index-held-requires : goal.index-held-requires
index-held-requires c = let size = sized c.args.shape.now c.args.past.now c.args.self.now c.requires.read in omega (arith, size.unanswered, c.requires.formed.lane)

pub index-places-requires : goal.index-places-requires
index-places-requires c = let size = sized c.args.shape.now c.args.past.now c.args.self.now c.requires.read in omega (arith, size.places, c.requires.formed.queue)

pub returns-then-not-serves : goal.returns-then-not-serves
returns-then-not-serves c = give_unlinked c.args.shape.now c.args.past.now c.args.self.now c.args.lane c.args.queue c.args.number c.args.event.now (record { read = c.requires.read; none = c.requires.none; formed = c.requires.formed; found = c.requires.waits }) (ap (serves c.args.shape.now c.args.lane c.args.queue) (sym c.slot_of-slot.ensures) ∙ (sym c.serves.ensures ∙ c.if-not-serves.true))

pub returns-then-len-depth_of : goal.returns-then-len-depth_of
returns-then-len-depth_of c =
    let size = sized c.args.shape.now c.args.past.now c.args.self.now c.requires.read in
    give_deep c.args.shape.now c.args.past.now c.args.self.now c.args.lane c.args.queue c.args.number c.args.event.now (record { read = c.requires.read; none = c.requires.none; formed = c.requires.formed; found = c.requires.waits }) (omega (arith, c.if-len-depth_of.true, c.depth_of.ensures.value, c.len.ensures, row_len c.args.self.now.ledger.unanswered.items c.args.lane c.index-held.result.now (omega (arith, size.unanswered, c.requires.formed.lane)) c.index-held.ensures))

pub returns-then-lacks_place : goal.returns-then-lacks_place
returns-then-lacks_place c =
    let size = sized c.args.shape.now c.args.past.now c.args.self.now c.requires.read in
    give_placeless c.args.shape.now c.args.past.now c.args.self.now c.args.lane c.args.queue c.args.number c.args.event.now (record { read = c.requires.read; none = c.requires.none; formed = c.requires.formed; found = c.requires.waits }) (c.if-lacks_place.ensures.ordered refl) (omega (arith, c.if-lacks_place.ensures.yes refl, c.len-count.ensures, row_len c.args.self.now.ledger.places.items c.args.queue c.index-places.result.now (omega (arith, size.places, c.requires.formed.queue)) c.index-places.ensures))

pub returns-then-is_overtaking : goal.returns-then-is_overtaking
returns-then-is_overtaking c =
    let size = sized c.args.shape.now c.args.past.now c.args.self.now c.requires.read in
    give_overtaking c.args.shape.now c.args.past.now c.args.self.now c.args.lane c.args.queue c.args.number c.args.event.now (record { read = c.requires.read; none = c.requires.none; formed = c.requires.formed; found = c.requires.waits })
    (λ lets. c.if-is_overtaking.ensures.some refl (apart_in c.args.shape.now c.args.self.now.ledger c.args.queue c.index-waiting.result.now c.args.number c.args.event.now size.waiting c.requires.read.kinds c.requires.formed.queue c.index-waiting.ensures lets))

pub returns-then-is_pinned : goal.returns-then-is_pinned
returns-then-is_pinned c =
    give_apart c.args.shape.now c.args.past.now c.args.self.now c.args.lane c.args.queue c.args.number c.args.event.now (record { read = c.requires.read; none = c.requires.none; formed = c.requires.formed; found = c.requires.waits }) (c.if-is_pinned.ensures.atomic refl)
    (subst (λ s. ¬ LeavesSlot (rows c.args.self.now.ledger.unanswered.items) c.args.lane c.args.queue s) c.slot_of-slot.ensures
    (subst (λ us. ¬ LeavesSlot (rows us) c.args.lane c.args.queue c.slot_of-slot.result) c.deref.ensures.value (c.if-is_pinned.ensures.some refl)))

pub returns : goal.returns
returns c =
    let size = sized c.args.shape.now c.args.past.now c.args.self.now c.requires.read in
    give_offer c.args.shape.now c.args.past.now c.args.self.now c.args.lane c.args.queue c.args.number c.args.event.now (record { read = c.requires.read; none = c.requires.none; formed = c.requires.formed; found = c.requires.waits }) (ap (serves c.args.shape.now c.args.lane c.args.queue) (sym c.slot_of-slot.ensures) ∙ (sym c.serves.ensures ∙ c.if-not-serves.false))
    (omega (arith, c.if-len-depth_of.false, c.depth_of.ensures.value, c.len.ensures, row_len c.args.self.now.ledger.unanswered.items c.args.lane c.index-held.result.now (omega (arith, size.unanswered, c.requires.formed.lane)) c.index-held.ensures))
    (λ ordered. let low = c.if-lacks_place.ensures.no refl ordered in omega (arith, low, c.len-count.ensures, row_len c.args.self.now.ledger.places.items c.args.queue c.index-places.result.now (omega (arith, size.places, c.requires.formed.queue)) c.index-places.ensures))
    (apart_out c.args.shape.now c.args.self.now.ledger c.args.queue c.index-waiting.result.now c.args.number c.args.event.now size.waiting c.requires.read.kinds c.requires.formed.queue c.index-waiting.ensures (c.if-is_overtaking.ensures.none refl))
    (λ atomic. subst (λ s. LeavesSlot (rows c.args.self.now.ledger.unanswered.items) c.args.lane c.args.queue s) c.slot_of-slot.ensures
    (subst (λ us. LeavesSlot (rows us) c.args.lane c.args.queue c.slot_of-slot.result) c.deref.ensures.value (c.if-is_pinned.ensures.none refl atomic)))
