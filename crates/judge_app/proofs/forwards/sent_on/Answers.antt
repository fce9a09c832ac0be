use Rattle.std.proofs.Common.{◌≡◌, ◌+◌, ◌++◌, ◌∷◌, [], length, take, refl, ap, ◌∙◌, sym, arith}
use Rattle.std.specs.List.{cons_option}
use Rattle.std.specs.Prelude.{slice_get}
use Rattle.std.proofs.lemmas.List.{length-append, length-take}
use Rattle.lists.proofs.Lists.{with_past-push}
use Rattle.transcripts.specs.Transcript.{answer_of, answers, given_to, next_pair, out}
use Rattle.transcripts.proofs.Pushes.{answers-push, out-push}
use Rattle.evt_types.specs.declared.step.Step.{Step}
use Rattle.judge_app.specs.Forwards.{sent_by, sent_from, sent_on}
use Rattle.judge_app.proofs.Walks.{front_more, answers_few}
use Rattle.judge_app.proofs.forwards.sent_on.Goals as goal

pub loop-step-init : goal.loop-step-init
unfolding out answers
loop-step-init c = record { given = c.new-given.ensures.items; answered = refl; numbers = c.new-numbers.ensures.items }

pub answers_after-answered-requires : goal.answers_after-answered-requires
answers_after-answered-requires c =
    omega (arith, answers_few (take c.loop-step.step-index c.args.past.now) c.args.lane, c.loop-step.invariant.answered, length-take {A = Step})

pub loop-step-preserved : goal.loop-step-preserved
loop-step-preserved c =
    let P = take c.loop-step.step-index c.args.past.now in
    let s = c.step-item.result in
    let l = c.args.lane in
    let q = c.args.queue in
    let front : take (c.loop-step.step-index + 1) c.args.past.now ≡ P ++ s ∷ [] = front_more c.args.past.now c.loop-step.step-index s c.loop-step-test.true c.step-item.is in
    let next : c.pair_at-next.result ≡ next_pair P l =
    c.pair_at-next.ensures
    ∙ (ap (λ xs. slice_get xs c.loop-step.answered) (c.deref.ensures.value ∙ c.loop-step.invariant.given) ∙ ap (slice_get (out P l)) c.loop-step.invariant.answered) in
    record {
      given = c.in_ok-push_pair.ensures
          ∙ (ap (λ x. c.loop-step.given.items ++ cons_option x []) c.given_to.ensures
          ∙ (ap (λ xs. xs ++ cons_option (given_to l s) []) c.loop-step.invariant.given ∙ (sym (out-push P l s) ∙ ap (λ T. out T l) (sym front))));
      answered = c.answers_after-answered.ensures
          ∙ (ap (λ n. n + length (cons_option (answer_of l s) [])) c.loop-step.invariant.answered
          ∙ (sym (length-append (answers P l) (cons_option (answer_of l s) [])) ∙ ap length (sym (answers-push P l s) ∙ ap (λ T. answers T l) (sym front))));
      numbers = c.in_ok-push_number.ensures
          ∙ (ap (λ x. c.loop-step.numbers.items ++ cons_option x []) (c.sent_from.ensures ∙ ap (λ o. sent_from l q o s) next)
          ∙ (ap (λ xs. xs ++ cons_option (sent_by l q P s) []) c.loop-step.invariant.numbers ∙ (sym (with_past-push (sent_by l q) [] P s) ∙ ap (λ T. sent_on T l q) (sym front))));
    }
