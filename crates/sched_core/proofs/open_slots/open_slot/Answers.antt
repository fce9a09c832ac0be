use Rattle.std.proofs.Common.{◌<◌, length, sym, subst}
use Rattle.std.proofs.lemmas.List.{get_or_default}
use Rattle.sched_core.proofs.OpenSlots.{opened_at, opened_none}
use Rattle.sched_core.proofs.open_slots.open_slot.Goals as goal

pub returns-in-Some : goal.returns-in-Some
returns-in-Some c =
    let h : c.in-Some.field-0.queue < length c.args.open_slots.now = subst (λ n. c.in-Some.field-0.queue < n) (sym c.requires.count) c.in-Some.ensures.within.0 in
    opened_at c.args.shape.now c.args.lane c.in-Some.field-0 c.args.open_slots.now _ c.add.new.self c.in-Some.ensures.flow.0 c.in-Some.ensures.flow.1 h
    (get_or_default c.args.open_slots.now c.in-Some.field-0.queue _ _ h) c.add.ensures.there c.add.ensures.others

pub returns-in_default : goal.returns-in_default
returns-in_default c = opened_none c.args.shape.now c.args.lane c.args.open_slots.now c.in_default.ensures.none
