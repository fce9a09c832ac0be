use Rattle.std.proofs.Common.{◌≡◌, ◌∙◌, [], ap, append-nil, arith, refl, sym}
use Rattle.evt_types.specs.declared.event.Numbered.{Numbered}
use Rattle.parked_queue.specs.Marks.{marks_at}
use Rattle.parked_queue.specs.Parkings.{parted_by}
use Rattle.parked_queue.specs.Rows.{at_level}
use Rattle.parked_queue.specs.Waits.{waits_at}
use Rattle.parked_queue.proofs.Calls.{level_list, list_fits, list_is, list_there, marks_are}
use Rattle.parked_queue.proofs.LevelHeads.{heads_named, own_list}
use Rattle.parked_queue.proofs.Parkings.{asked}
use Rattle.parked_queue.proofs.Seen.{names_here}
use Rattle.std.proofs.lemmas.List.Elements.{All-nil}
use Rattle.parked_queue.proofs.queues.ParkedQueues.push_heads.Goals as goal

pub bounds-asked-level : goal.bounds-asked-level
bounds-asked-level c = c.args.level.few

pub overflow_add-asked : goal.overflow_add-asked
overflow_add-asked c =
    let a = asked c.self.inside.lists c.self.inside.queues.items c.args.self.now c.args.queue c.self.invariant.parkings c.self.view_is c.requires.there c.index-asked.result.now c.index-asked.ensures in
    omega (arith, list_fits c.self.inside.lists c.index-asked.result.now a.part c.args.level.number (level_list c.self.inside.lists c.index-asked.result.now a.part c.args.level.number c.args.level.few))

pub push_heads-requires-clause-list : goal.push_heads-requires-clause-list
push_heads-requires-clause-list c =
    let a = asked c.self.inside.lists c.self.inside.queues.items c.args.self.now c.args.queue c.self.invariant.parkings c.self.view_is c.requires.there c.index-asked.result.now c.index-asked.ensures in
    list_there c.self.inside.lists c.index-asked.result.now a.part c.args.level.number (level_list c.self.inside.lists c.index-asked.result.now a.part c.args.level.number c.args.level.few)

pub returns-then-is_empty : goal.returns-then-is_empty
returns-then-is_empty c =
    let a = asked c.self.inside.lists c.self.inside.queues.items c.args.self.now c.args.queue c.self.invariant.parkings c.self.view_is c.requires.there c.index-asked.result.now c.index-asked.ensures in
    let v = parted_by c.self.inside.lists c.index-asked.result.now in
    let q = c.args.queue in
    let k = c.args.level.number in
    let went = c.push_heads.ensures in
    let whole = ap (at_level k) (sym a.waits)
    ∙ (sym (own_list v k (marks_at c.index-asked.result.now.parked k) c.args.level.few (marks_are c.self.inside.lists c.index-asked.result.now a.part k) (c.is_empty.ensures.0 c.if-is_empty.true))
    ∙ (sym (list_is c.self.inside.lists c.index-asked.result.now a.part k (level_list c.self.inside.lists c.index-asked.result.now a.part k c.args.level.few)) ∙ went.2)) in
    record {
      heads = went.0;
      rest = went.1;
      whole = whole;
      longer_is = went.3;
      few = went.4;
      named = heads_named q k (waits_at c.args.self.now q) went.0 went.1 (names_here _ c.args.self.now c.self.inside.levels.items c.self.inside.busy q c.self.invariant.noted c.self.view_is c.requires.there) whole;
    }

pub returns-else-is_empty : goal.returns-else-is_empty
returns-else-is_empty c =
    record {
      heads = [];
      rest = at_level c.args.level.number (waits_at c.args.self.now c.args.queue);
      whole = refl;
      longer_is = sym (append-nil c.args.into.now.items);
      few = omega arith;
      named = All-nil (λ (w : Numbered). w.event.queue ≡ c.args.queue);
    }
