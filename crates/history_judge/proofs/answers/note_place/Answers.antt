use Rattle.std.proofs.Common.{◌∙◌, sym}
use Rattle.history_judge.proofs.AnswerTimes.{noted_push}
use Rattle.history_judge.proofs.answers.note_place.Goals as goal

-- it is noted as a time is: as if the call had begun then
pub returns-in_ok-push : goal.returns-in_ok-push
returns-in_ok-push c =
    noted_push c.args.places.now.items (record { port = c.args.seen.now.port; began = c.args.at; ended = c.args.seen.now.ended; deed = c.args.seen.now.deed })
    c.index_mut.result.now c.push.new.self c.requires (sym c.is_answer.ensures ∙ c.if-is_answer.true) c.index_mut.ensures.value c.in_ok-push.ensures.items
