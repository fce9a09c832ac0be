-- The oldest of the parked events whose slots are allowed is the first of all.
use Rattle.std.proofs.Common.{◌∙◌, refl, sym}
use Rattle.parked_queue.specs.Marks.{marks_at}
use Rattle.parked_queue.specs.Parkings.{parted_by, waits_by}
use Rattle.parked_queue.specs.Parted.{HasNoneParked, IsFirstParked}
use Rattle.parked_queue.specs.Waits.{HasNoneAllowed, IsFirstAllowed}
use Rattle.parked_queue.specs.declared.first.Found.{Found}
use Rattle.parked_queue.proofs.Calls.{marks_are, unchanged}
use Rattle.parked_queue.proofs.Firsts.{none_is}
use Rattle.parked_queue.proofs.Options.{if_more, if_there, of_none}
use Rattle.parked_queue.proofs.Slots.{none_marked, none_parked, parked_first}
use Rattle.parked_queue.proofs.parking.Parking.first.Goals as goal

pub first_main-requires-clause-none : goal.first_main-requires-clause-none
first_main-requires-clause-none c =
    none_marked (parted_by c.args.lists.now c.args.self.now) c.args.level.number (marks_at c.args.self.now.parked c.args.level.number) c.args.allowed c.both-marked.result
    (marks_are c.args.lists.now c.args.self.now c.requires c.args.level.number) c.both-marked.ensures (c.if-is_empty.ensures.0 refl)

pub returns-then-is_empty : goal.returns-then-is_empty
returns-then-is_empty c = c.first_main.ensures

pub first_parked-parked-requires-clause-there : goal.first_parked-parked-requires-clause-there
first_parked-parked-requires-clause-there c k has = (marks_are c.args.lists.now c.args.self.now c.requires c.args.level.number).there k ((c.both-marked.ensures k).0 has).0

pub returns-then-is_some-clause-changed : goal.returns-then-is_some-clause-changed
returns-then-is_some-clause-changed c = unchanged c.args.lists.now c.args.self.now c.requires

pub returns-then-is_some-clause-first : goal.returns-then-is_some-clause-first
returns-then-is_some-clause-first c =
    let v = parted_by c.args.lists.now c.args.self.now in
    if_more c.first_parked-parked.result
    (λ (f : Found). IsFirstParked v c.args.level.number c.both-marked.result f.waiting)
    (λ (f : Found). IsFirstAllowed (waits_by c.args.lists.now c.args.self.now) c.args.level.number c.args.allowed f.waiting)
    (λ (f : Found). parked_first v c.args.level.number (marks_at c.args.self.now.parked c.args.level.number) c.args.allowed c.both-marked.result
    (marks_are c.args.lists.now c.args.self.now c.requires c.args.level.number) c.both-marked.ensures f.waiting)
    c.first_parked-parked.ensures.first

pub returns-then-is_some-clause-slot : goal.returns-then-is_some-clause-slot
returns-then-is_some-clause-slot c = c.first_parked-parked.ensures.slot

pub returns-then-is_some-clause-none : goal.returns-then-is_some-clause-none
returns-then-is_some-clause-none c =
    if_there c.first_parked-parked.result (HasNoneAllowed (waits_by c.args.lists.now c.args.self.now) c.args.level.number c.args.allowed) (sym c.is_some.ensures ∙ c.if-is_some.true)

pub first_main-requires-2-clause-none : goal.first_main-requires-2-clause-none
first_main-requires-2-clause-none c =
    let v = parted_by c.args.lists.now c.args.self.now in
    none_parked v c.args.level.number (marks_at c.args.self.now.parked c.args.level.number) c.args.allowed c.both-marked.result
    (marks_are c.args.lists.now c.args.self.now c.requires c.args.level.number) c.both-marked.ensures
    (of_none c.first_parked-parked.result (HasNoneParked v c.args.level.number c.both-marked.result) (none_is c.first_parked-parked.result (sym c.is_some.ensures ∙ c.if-is_some.false)) c.first_parked-parked.ensures.none)
