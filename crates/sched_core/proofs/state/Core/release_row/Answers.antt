use Rattle.std.proofs.Common.{◌-◌, ◌≤◌, All, arith, length, subst, take}
use Rattle.std.proofs.lemmas.List.Elements.{All-take}
use Rattle.std.proofs.Math.Seq.{take-take}
use Rattle.std.specs.Vec.{with_items}
use Rattle.evt_types.specs.declared.event.Reply.{Reply}
use Rattle.sched_core.proofs.Released.{alone_here, opened_in, queue_known, some_released}
use Rattle.sched_core.proofs.ReleasedRows.{HasReleasedRow, IsBareRow, row_released}
use Rattle.sched_core.specs.Rows.{IsLike}
use Rattle.sched_core.proofs.state.Core.release_row.Goals as goal
use Rattle.sched_core.proofs.state.Core.release_row.Goals.{After-drop_oldest, After-release_oldest-count}

-- ---- what holds of the row

few : (c : After-release_oldest-count) → c.release_oldest-count.result ≤ length c.args.replies.now
few c = omega (arith, c.release_oldest-count.ensures.few, c.like-most.ensures.few)

row : (c : After-release_oldest-count) → IsBareRow c.self.inside c.args.self.now c.args.lane c.args.queue c.release_oldest-count.result
row c =
    record {
      some = some_released c.release_oldest-count.result c.like-most.result c.self.inside c.args.self.now c.args.lane c.args.queue c.requires.oldest.0 c.self.invariant c.self.view_is c.requires.lane c.requires.oldest.1 c.requires.oldest.2
          (omega (arith, c.if-most-lt2.false)) (c.release_oldest-count.ensures.last ((c.is_bare.ensures.0 c.if-not-is_bare.false).0));
      few = omega (arith, few c, c.requires.most);
      there = queue_known c.self.inside c.args.self.now c.args.lane c.args.queue c.requires.oldest.0 c.self.invariant c.self.view_is c.requires.lane c.requires.oldest.1 c.requires.oldest.2;
      all = c.release_oldest-count.ensures.each;
      alone = alone_here c.self.inside c.args.self.now c.args.lane _ c.self.invariant c.self.view_is c.requires.lane c.index.ensures (omega (arith, c.if-index-gt0.false));
      restoring = (c.is_bare.ensures.0 c.if-not-is_bare.false).0;
      bare = (c.is_bare.ensures.0 c.if-not-is_bare.false).1;
    }

-- ---- the core that it leaves

left : (c : After-drop_oldest) → IsBareRow c.self.inside c.args.self.now c.args.lane c.args.queue c.release_oldest-count.result
    → HasReleasedRow (record c.self.inside { orders = c.release_oldest-count.new.self; lanes = c.drop_oldest.new.self; open_slots = with_items c.self.inside.open_slots c.open_slot.new.open_slots; inside = c.self.inside.inside - c.release_oldest-count.result })
    c.args.self.now c.args.lane c.release_oldest-count.result
left c of =
    row_released c.self.inside c.args.self.now c.args.lane c.args.queue c.release_oldest-count.result (with_items c.self.inside.open_slots c.open_slot.new.open_slots) c.release_oldest-count.new.self c.drop_oldest.new.self c.self.invariant c.self.view_is c.requires.lane of
    (opened_in c.self.inside.shape c.args.lane c.self.inside.open_slots c.deref_mut.result.now c.open_slot.new.open_slots c.deref_mut.ensures.value c.deref_mut.ensures.len c.open_slot.ensures) c.release_oldest-count.ensures.released c.drop_oldest.ensures

-- ---- its goals

pub drop_oldest-requires-clause-some : goal.drop_oldest-requires-clause-some
drop_oldest-requires-clause-some c = (row (goal.at.drop_oldest-requires-clause-some c).After-release_oldest-count).some

pub invariant_of-self : goal.invariant_of-self
invariant_of-self c =
    let at = goal.at.invariant_of-self c in
    (left at.After-drop_oldest (row at.After-release_oldest-count)).core

pub returns : goal.returns
returns c =
    let at = goal.at.returns c in
    let n = c.release_oldest-count.result in
    let now = left at.After-drop_oldest (row at.After-release_oldest-count) in
    record {
      few = few at.After-release_oldest-count;
      like = subst (All (λ (r : Reply). IsLike c.args.first.now r.event)) (take-take n c.like-most.result c.args.replies.now c.release_oldest-count.ensures.few)
          (All-take (λ (r : Reply). IsLike c.args.first.now r.event) n (take c.like-most.result c.args.replies.now) c.like-most.ensures.each);
      let_go = now.let_go;
      view = now.view;
      kept = now.kept;
    }
