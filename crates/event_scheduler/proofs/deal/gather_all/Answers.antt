-- One delivery more is gathered at its lane.
use Rattle.std.proofs.Common.{◌≡◌, ◌<◌, get_or, length, refl, ◌∙◌, arith}
use Rattle.std.proofs.lemmas.List.{get_or_default, length-set}
use Rattle.std.proofs.lemmas.List.Elements.{All-get_or}
use Rattle.event_scheduler.proofs.Dealing.{all_gathered, gathered_next, hidden_beside, room_first, room_here, room_left}
use Rattle.small_set.specs.SmallSets.{Has}
use Rattle.event_scheduler.proofs.deal.gather_all.Goals as goal

pub loop-position-init : goal.loop-position-init
loop-position-init c = record { gathered = refl; count = refl; room = c.requires.room; others = λ l out. c.requires.shown l }

pub index_mut-requires : goal.index_mut-requires
index_mut-requires c =
    let was = c.loop-position.invariant in
    let i = c.loop-position.position in
    let has : Has c.args.among (get_or c.args.to.now i 0) = All-get_or (Has c.args.among) c.args.to.now i 0 (omega (arith, c.requires.counts, c.loop-position-test.true)) c.requires.lanes in
    omega (arith, c.loop-position.lanes.ok, c.requires.there (get_or c.args.to.now i 0) has, was.count)

pub gather-requires : goal.gather-requires
gather-requires c =
    let was = c.loop-position.invariant in
    let i = c.loop-position.position in
    let to = c.args.to.now in
    let l = get_or to i 0 in
    let within : i < length to = omega (arith, c.requires.counts, c.loop-position-test.true) in
    let has : Has c.args.among l = All-get_or (Has c.args.among) to i 0 within c.requires.lanes in
    let there : l < length c.loop-position.lanes.items = omega (arith, c.requires.there l has, was.count) in
    omega (arith, room_first to i l within (get_or_default to i 0 l within), was.room l has, room_here c.loop-position.lanes.items l c.index_mut.result.now there c.index_mut.ensures.value)

pub loop-position-preserved : goal.loop-position-preserved
loop-position-preserved c =
    let was = c.loop-position.invariant in
    let i = c.loop-position.position in
    let row = c.args.row.now in
    let to = c.args.to.now in
    let lanes = c.loop-position.lanes.items in
    let near = c.index_mut.result.now in
    let later = c.gather.new.self in
    let l = get_or to i 0 in
    let within : i < length to = omega (arith, c.requires.counts, c.loop-position-test.true) in
    let has : Has c.args.among l = All-get_or (Has c.args.among) to i 0 within c.requires.lanes in
    let there : l < length lanes = omega (arith, c.requires.there l has, was.count) in
    let same : l ≡ get_or to i l = get_or_default to i 0 l within in
    let at = c.index_mut.ensures.value in
    let put = c.gather.ensures in
    record {
      gathered = gathered_next c.args.lanes.now.items row to i lanes c.index-row-position.result l near later c.loop-position-test.true within c.index-row-position.is same was.gathered at
          (record { lane = put.lane; offers = put.offered; takings = put.replies.0; seens = put.replies.1 });
      count = length-set _ _ _ ∙ was.count;
      room = λ m its. room_left lanes to i l near later m within same there at put.room (was.room m its);
      others = hidden_beside lanes l later c.args.among has was.others;
    }

pub returns-clause-gathered : goal.returns-clause-gathered
returns-clause-gathered c =
    let all : c.loop-position.position ≡ length c.args.row.now = omega (arith, c.loop-position-test.false, c.loop-position.auto.position-end) in
    all_gathered c.args.lanes.now.items c.args.row.now c.args.to.now c.loop-position.position c.loop-position.lanes.items all c.requires.counts c.loop-position.invariant.gathered

pub returns-clause-lanes : goal.returns-clause-lanes
returns-clause-lanes c = c.loop-position.invariant.count

pub returns-clause-others : goal.returns-clause-others
returns-clause-others c = c.loop-position.invariant.others
