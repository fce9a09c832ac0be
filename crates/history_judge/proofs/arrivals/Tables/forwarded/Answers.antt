use Rattle.std.proofs.Common.{rules, ◌∙◌, arith, ap, refl, sym, length, Some}
use Rattle.std.proofs.lemmas.Option.{slice_get_read, slice_get_within}
use Rattle.history_judge.proofs.Arriving.{came_forwarded, holder_there, none_answered, none_by, none_came, none_forwarded, none_held}
use Rattle.history_judge.proofs.InOrder.{entry_at}
use Rattle.history_judge.proofs.arrivals.Tables.forwarded.Goals as goal

pub returns-in_err-holder-clause-none : goal.returns-in_err-holder-clause-none
returns-in_err-holder-clause-none c = none_by c.from_residual-in_err-holder.result (none_held c.args.shape.now c.args.history.now c.args.self.now c.requires.ready c.args.at c.index-history-at.result (entry_at c.args.history.now c.args.at c.index-history-at.result c.requires.place c.index-history-at.is) c.in_ok-event.event (sym c.only_new.ensures ∙ c.in_ok-event.was) (sym c.getter_of.ensures ∙ c.in_err-holder.was))

pub index-requires : goal.index-requires
index-requires c = let there = holder_there c.args.shape.now c.args.history.now c.args.self.now c.requires.ready c.args.at c.index-history-at.result (entry_at c.args.history.now c.args.at c.index-history-at.result c.requires.place c.index-history-at.is) c.in_ok-event.event (sym c.only_new.ensures ∙ c.in_ok-event.was) c.in_ok-holder.holder (sym c.getter_of.ensures ∙ c.in_ok-holder.was) in search rules

pub returns-in_err-answer-clause-none : goal.returns-in_err-answer-clause-none
returns-in_err-answer-clause-none c =
    none_by c.from_residual-in_err-answer.result
    (none_answered c.args.shape.now c.args.history.now c.args.self.now c.requires.ready c.args.at c.index-history-at.result (entry_at c.args.history.now c.args.at c.index-history-at.result c.requires.place c.index-history-at.is) c.in_ok-event.event (sym c.only_new.ensures ∙ c.in_ok-event.was) c.in_ok-holder.holder (sym c.getter_of.ensures ∙ c.in_ok-holder.was)
    (slice_get_read c.args.self.now.answers.items (length c.args.self.now.answers.items) c.in_ok-holder.holder c.index.result.now refl (holder_there c.args.shape.now c.args.history.now c.args.self.now c.requires.ready c.args.at c.index-history-at.result (entry_at c.args.history.now c.args.at c.index-history-at.result c.requires.place c.index-history-at.is) c.in_ok-event.event (sym c.only_new.ensures ∙ c.in_ok-event.was) c.in_ok-holder.holder (sym c.getter_of.ensures ∙ c.in_ok-holder.was)) c.index.ensures ∙ ap Some c.in_err-answer.was))

pub offset_bounds-history-answer : goal.offset_bounds-history-answer
offset_bounds-history-answer c =
    let there = c.requires.ready.answered.each c.in_ok-holder.holder c.in_ok-answer.answer (slice_get_read c.args.self.now.answers.items (length c.args.self.now.answers.items) c.in_ok-holder.holder c.index.result.now refl (holder_there c.args.shape.now c.args.history.now c.args.self.now c.requires.ready c.args.at c.index-history-at.result (entry_at c.args.history.now c.args.at c.index-history-at.result c.requires.place c.index-history-at.is) c.in_ok-event.event (sym c.only_new.ensures ∙ c.in_ok-event.was) c.in_ok-holder.holder (sym c.getter_of.ensures ∙ c.in_ok-holder.was)) c.index.ensures ∙ ap Some c.in_ok-answer.was) in
    omega (arith, slice_get_within c.args.history.now c.in_ok-answer.answer there.answerer there.there)

pub bounds-history-answer : goal.bounds-history-answer
bounds-history-answer c =
    let there = c.requires.ready.answered.each c.in_ok-holder.holder c.in_ok-answer.answer (slice_get_read c.args.self.now.answers.items (length c.args.self.now.answers.items) c.in_ok-holder.holder c.index.result.now refl (holder_there c.args.shape.now c.args.history.now c.args.self.now c.requires.ready c.args.at c.index-history-at.result (entry_at c.args.history.now c.args.at c.index-history-at.result c.requires.place c.index-history-at.is) c.in_ok-event.event (sym c.only_new.ensures ∙ c.in_ok-event.was) c.in_ok-holder.holder (sym c.getter_of.ensures ∙ c.in_ok-holder.was)) c.index.ensures ∙ ap Some c.in_ok-answer.was) in
    slice_get_within c.args.history.now c.in_ok-answer.answer there.answerer there.there

pub returns-in_err-onward-clause-none : goal.returns-in_err-onward-clause-none
returns-in_err-onward-clause-none c =
    let there = c.requires.ready.answered.each c.in_ok-holder.holder c.in_ok-answer.answer (slice_get_read c.args.self.now.answers.items (length c.args.self.now.answers.items) c.in_ok-holder.holder c.index.result.now refl (holder_there c.args.shape.now c.args.history.now c.args.self.now c.requires.ready c.args.at c.index-history-at.result (entry_at c.args.history.now c.args.at c.index-history-at.result c.requires.place c.index-history-at.is) c.in_ok-event.event (sym c.only_new.ensures ∙ c.in_ok-event.was) c.in_ok-holder.holder (sym c.getter_of.ensures ∙ c.in_ok-holder.was)) c.index.ensures ∙ ap Some c.in_ok-answer.was) in
    none_by c.from_residual-in_err-onward.result
    (none_forwarded c.args.shape.now c.args.history.now c.args.self.now c.requires.ready c.args.at c.index-history-at.result (entry_at c.args.history.now c.args.at c.index-history-at.result c.requires.place c.index-history-at.is) c.in_ok-event.event (sym c.only_new.ensures ∙ c.in_ok-event.was) c.in_ok-holder.holder (sym c.getter_of.ensures ∙ c.in_ok-holder.was) c.in_ok-answer.answer c.index-history-answer.result (slice_get_read c.args.self.now.answers.items (length c.args.self.now.answers.items) c.in_ok-holder.holder c.index.result.now refl (holder_there c.args.shape.now c.args.history.now c.args.self.now c.requires.ready c.args.at c.index-history-at.result (entry_at c.args.history.now c.args.at c.index-history-at.result c.requires.place c.index-history-at.is) c.in_ok-event.event (sym c.only_new.ensures ∙ c.in_ok-event.was) c.in_ok-holder.holder (sym c.getter_of.ensures ∙ c.in_ok-holder.was)) c.index.ensures ∙ ap Some c.in_ok-answer.was) (entry_at c.args.history.now c.in_ok-answer.answer c.index-history-answer.result (slice_get_within c.args.history.now c.in_ok-answer.answer there.answerer there.there) c.index-history-answer.is) (sym c.only_forward.ensures ∙ c.in_err-onward.was))

pub returns-clause-some : goal.returns-clause-some
returns-clause-some c =
    let there = c.requires.ready.answered.each c.in_ok-holder.holder c.in_ok-answer.answer (slice_get_read c.args.self.now.answers.items (length c.args.self.now.answers.items) c.in_ok-holder.holder c.index.result.now refl (holder_there c.args.shape.now c.args.history.now c.args.self.now c.requires.ready c.args.at c.index-history-at.result (entry_at c.args.history.now c.args.at c.index-history-at.result c.requires.place c.index-history-at.is) c.in_ok-event.event (sym c.only_new.ensures ∙ c.in_ok-event.was) c.in_ok-holder.holder (sym c.getter_of.ensures ∙ c.in_ok-holder.was)) c.index.ensures ∙ ap Some c.in_ok-answer.was) in
    came_forwarded c.args.shape.now c.args.history.now c.args.self.now c.requires.ready c.args.at c.index-history-at.result (entry_at c.args.history.now c.args.at c.index-history-at.result c.requires.place c.index-history-at.is) c.in_ok-event.event (sym c.only_new.ensures ∙ c.in_ok-event.was) c.in_ok-holder.holder (sym c.getter_of.ensures ∙ c.in_ok-holder.was) c.in_ok-answer.answer c.index-history-answer.result (slice_get_read c.args.self.now.answers.items (length c.args.self.now.answers.items) c.in_ok-holder.holder c.index.result.now refl (holder_there c.args.shape.now c.args.history.now c.args.self.now c.requires.ready c.args.at c.index-history-at.result (entry_at c.args.history.now c.args.at c.index-history-at.result c.requires.place c.index-history-at.is) c.in_ok-event.event (sym c.only_new.ensures ∙ c.in_ok-event.was) c.in_ok-holder.holder (sym c.getter_of.ensures ∙ c.in_ok-holder.was)) c.index.ensures ∙ ap Some c.in_ok-answer.was) (entry_at c.args.history.now c.in_ok-answer.answer c.index-history-answer.result (slice_get_within c.args.history.now c.in_ok-answer.answer there.answerer there.there) c.index-history-answer.is) c.in_ok-origin.origin (sym c.order_of.ensures ∙ c.in_ok-origin.was) c.in_ok-onward.onward
    (sym c.only_forward.ensures ∙ c.in_ok-onward.was) c.arrival.result c.arrival.ensures

pub returns-clause-none : goal.returns-clause-none
returns-clause-none c =
    let there = c.requires.ready.answered.each c.in_ok-holder.holder c.in_ok-answer.answer (slice_get_read c.args.self.now.answers.items (length c.args.self.now.answers.items) c.in_ok-holder.holder c.index.result.now refl (holder_there c.args.shape.now c.args.history.now c.args.self.now c.requires.ready c.args.at c.index-history-at.result (entry_at c.args.history.now c.args.at c.index-history-at.result c.requires.place c.index-history-at.is) c.in_ok-event.event (sym c.only_new.ensures ∙ c.in_ok-event.was) c.in_ok-holder.holder (sym c.getter_of.ensures ∙ c.in_ok-holder.was)) c.index.ensures ∙ ap Some c.in_ok-answer.was) in
    none_came c.args.shape.now c.args.history.now c.args.self.now c.requires.ready c.args.at c.index-history-at.result (entry_at c.args.history.now c.args.at c.index-history-at.result c.requires.place c.index-history-at.is) c.in_ok-event.event (sym c.only_new.ensures ∙ c.in_ok-event.was) c.in_ok-holder.holder (sym c.getter_of.ensures ∙ c.in_ok-holder.was) c.in_ok-answer.answer c.index-history-answer.result (slice_get_read c.args.self.now.answers.items (length c.args.self.now.answers.items) c.in_ok-holder.holder c.index.result.now refl (holder_there c.args.shape.now c.args.history.now c.args.self.now c.requires.ready c.args.at c.index-history-at.result (entry_at c.args.history.now c.args.at c.index-history-at.result c.requires.place c.index-history-at.is) c.in_ok-event.event (sym c.only_new.ensures ∙ c.in_ok-event.was) c.in_ok-holder.holder (sym c.getter_of.ensures ∙ c.in_ok-holder.was)) c.index.ensures ∙ ap Some c.in_ok-answer.was) (entry_at c.args.history.now c.in_ok-answer.answer c.index-history-answer.result (slice_get_within c.args.history.now c.in_ok-answer.answer there.answerer there.there) c.index-history-answer.is) c.in_ok-origin.origin (sym c.order_of.ensures ∙ c.in_ok-origin.was) c.in_ok-onward.onward
    (sym c.only_forward.ensures ∙ c.in_ok-onward.was) c.arrival.result c.arrival.ensures
