use Rattle.std.proofs.Common.{◌≡◌, ◌≤◌, arith, subst, ℕ, Some}
use Rattle.std.proofs.lemmas.Option.{slice_get_within}
use Rattle.lists.proofs.Lists.{slice_get-some}
use Rattle.history_judge.proofs.Arriving.{getter_within}
use Rattle.history_judge.proofs.Crossing.{crossed_by_call, crossed_by_place, firsts_more, firsts_skip, not_crossed}
use Rattle.history_judge.proofs.InOrder.{entry_at}
use Rattle.history_judge.specs.Streams.{IsNoted, first_in}
use Rattle.history_judge.proofs.order.follow.Goals as goal

pub returns-in_default-clause-kept : goal.returns-in_default-clause-kept
returns-in_default-clause-kept c = firsts_skip c.args.shape.now c.args.history.now c.args.course c.args.at c.args.firsts.now c.in_default.ensures.none c.requires.so_far

pub offset_bounds-history-getter : goal.offset_bounds-history-getter
offset_bounds-history-getter c = omega (arith, (getter_within c.args.shape.now c.args.history.now c.args.course c.args.at c.in-Some.arrival c.in-Some.ensures.some))

pub bounds-history-getter : goal.bounds-history-getter
bounds-history-getter c = (getter_within c.args.shape.now c.args.history.now c.args.course c.args.at c.in-Some.arrival c.in-Some.ensures.some)

pub returns-in-Some-place_before-clause-crossed : goal.returns-in-Some-place_before-clause-crossed
returns-in-Some-place_before-clause-crossed c =
    crossed_by_place c.args.shape.now c.args.history.now c.args.course c.args.tables.now c.requires.ready c.args.at (slice_get-some c.args.history.now c.args.at c.requires.place).0 (slice_get-some c.args.history.now c.args.at c.requires.place).1 c.in-Some.arrival c.in-Some.ensures.some c.index-history-getter.result (entry_at c.args.history.now c.in-Some.arrival.getter c.index-history-getter.result (getter_within c.args.shape.now c.args.history.now c.args.course c.args.at c.in-Some.arrival c.in-Some.ensures.some) c.index-history-getter.is) c.args.firsts.now c.requires.so_far c.in-Some-place_before.other
    (subst (λ k. first_in c.args.firsts.now k ≡ Some c.in-Some-place_before.other) c.of_port-own.ensures c.in-Some-place_before.ensures.some.0) c.in-Some-place_before.ensures.some.1

pub call_before-requires : goal.call_before-requires
call_before-requires c i is =
    let first = (c.requires.so_far.each c.in-Some.arrival.stream i is).there in slice_get_within c.args.history.now i first.getter first.there

pub returns-in-Some-call_before-clause-crossed : goal.returns-in-Some-call_before-clause-crossed
returns-in-Some-call_before-clause-crossed c =
    crossed_by_call c.args.shape.now c.args.history.now c.args.course c.args.tables.now c.requires.ready c.args.at (slice_get-some c.args.history.now c.args.at c.requires.place).0 (slice_get-some c.args.history.now c.args.at c.requires.place).1 c.in-Some.arrival c.in-Some.ensures.some c.index-history-getter.result (entry_at c.args.history.now c.in-Some.arrival.getter c.index-history-getter.result (getter_within c.args.shape.now c.args.history.now c.args.course c.args.at c.in-Some.arrival c.in-Some.ensures.some) c.index-history-getter.is) c.args.firsts.now c.requires.so_far c.in-Some-call_before.other c.in-Some-call_before.ensures.flow c.in-Some-call_before.ensures.some.0 c.in-Some-call_before.ensures.some.1

pub returns-clause-kept : goal.returns-clause-kept
returns-clause-kept c =
    firsts_more c.args.shape.now c.args.history.now c.args.course c.args.tables.now c.requires.ready c.args.at (slice_get-some c.args.history.now c.args.at c.requires.place).0 (slice_get-some c.args.history.now c.args.at c.requires.place).1 c.in-Some.arrival c.in-Some.ensures.some c.index-history-getter.result (entry_at c.args.history.now c.in-Some.arrival.getter c.index-history-getter.result (getter_within c.args.shape.now c.args.history.now c.args.course c.args.at c.in-Some.arrival c.in-Some.ensures.some) c.index-history-getter.is) c.args.firsts.now c.note_first.new.firsts c.note_first-2.new.firsts c.requires.so_far c.in_ok-note_first.ensures
    (subst (λ k. IsNoted c.note_first.new.firsts c.note_first-2.new.firsts k c.in-Some.arrival.getter) c.of_port-own.ensures c.in_ok-note_first-2.ensures)
    (not_crossed c.args.shape.now c.args.history.now c.args.course c.args.tables.now c.requires.ready c.args.at (slice_get-some c.args.history.now c.args.at c.requires.place).0 (slice_get-some c.args.history.now c.args.at c.requires.place).1 c.in-Some.arrival c.in-Some.ensures.some c.index-history-getter.result (entry_at c.args.history.now c.in-Some.arrival.getter c.index-history-getter.result (getter_within c.args.shape.now c.args.history.now c.args.course c.args.at c.in-Some.arrival c.in-Some.ensures.some) c.index-history-getter.is) c.args.firsts.now c.requires.so_far
    (subst (λ k. (i : ℕ) → first_in c.args.firsts.now k ≡ Some i → c.in-Some.arrival.getter ≤ i) c.of_port-own.ensures c.in_default-place_before.ensures.none)
    c.in_default-call_before.ensures.none)
