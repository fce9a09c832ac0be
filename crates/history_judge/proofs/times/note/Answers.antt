use Rattle.std.proofs.Common.{◌∙◌, sym}
use Rattle.history_judge.proofs.AnswerTimes.{noted_push}
use Rattle.history_judge.proofs.times.note.Goals as goal

pub returns-in_ok-push : goal.returns-in_ok-push
returns-in_ok-push c =
    noted_push c.args.times.now.items c.args.seen.now c.index_mut.result.now c.push.new.self c.requires (sym c.is_answer.ensures ∙ c.if-is_answer.true)
    c.index_mut.ensures.value c.in_ok-push.ensures.items
