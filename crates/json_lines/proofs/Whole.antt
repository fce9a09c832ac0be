-- No object has a float.
use Rattle.std.proofs.Common.{◌≡◌, ℕ, false, List, [], ◌∷◌, refl}
use Rattle.std.specs.Prelude.{map, Ok, Err}
use Rattle.std.specs.declared.alloc.Global.{Global}
use Rattle.std.specs.declared.vec.Vec.{Vec}
use Rattle.serde_json.specs.Data.{Data}
use Rattle.serde_json.specs.View.{items_of}
use Rattle.serde_json.specs.Written.{has_float, items_have_float}
use Rattle.evt_types.specs.declared.draft.QueueDraft.{QueueDraft}
use Rattle.evt_types.specs.declared.step.Outcome.TheVariants.{Forwarded, Released}
use Rattle.evt_types.specs.declared.step.Source.TheVariants.{New, Of}
use Rattle.evt_types.specs.declared.step.Step.{Step}
use Rattle.evt_types.specs.declared.step.Step.TheVariants.{Accept, Give, Done, More, Turned, Bounced, Shut}
use Rattle.event_answers.specs.declared.answer.Refused.TheVariants.{Stopped, BadQueue, NothingHeld, TooMany, Backpressure, Raced, Full}
use Rattle.event_answers.specs.declared.report.Report.{Report}
use Rattle.play_text.specs.declared.answer.Answer.{Answer}
use Rattle.play_text.specs.declared.answer.Answer.TheVariants as answers
use Rattle.json_lines.specs.Lines.{answer_object, count, credits_object, delivery_object, step_object}

items-whole : {A : Type 0} (f : A → Data) → ((x : A) → has_float (f x) ≡ false) → (xs : List A) → items_have_float (items_of (map f xs)) ≡ false
items-whole f whole [] = refl
items-whole f whole (x ∷ xs) = rw (whole x) (items-whole f whole xs)

pub answer-whole : (qs : List QueueDraft) (a : Answer) → has_float (answer_object qs a) ≡ false
answer-whole qs (answers.Enqueued port op (Ok u)) = refl
answer-whole qs (answers.Enqueued port op (Err Stopped)) = refl
answer-whole qs (answers.Enqueued port op (Err BadQueue)) = refl
answer-whole qs (answers.Enqueued port op (Err NothingHeld)) = refl
answer-whole qs (answers.Enqueued port op (Err TooMany)) = refl
answer-whole qs (answers.Enqueued port op (Err (Backpressure free))) = refl
answer-whole qs (answers.Enqueued port op (Err (Raced first second))) = refl
answer-whole qs (answers.Enqueued port op (Err Full)) = refl
answer-whole qs (answers.Dequeued port (Ok deliveries)) = rw (items-whole (delivery_object qs) (λ d. refl) deliveries.items) refl
answer-whole qs (answers.Dequeued port (Err behind)) = refl
answer-whole qs (answers.Swept swept) = refl
answer-whole qs answers.Shut = refl

pub step-whole : (qs : List QueueDraft) (n : ℕ) (s : Step) → has_float (step_object qs n s) ≡ false
step-whole qs n (Accept queue e (New lane)) = refl
step-whole qs n (Accept queue e (Of from number)) = refl
step-whole qs n (Give lane queue number) = refl
step-whole qs n (Done lane Released) = refl
step-whole qs n (Done lane (Forwarded e)) = refl
step-whole qs n (More lane e) = refl
step-whole qs n (Turned lane e) = refl
step-whole qs n (Bounced lane) = refl
step-whole qs n Shut = refl

pub credits-whole : (limit : ℕ) (r : Report (Vec Step Global)) → has_float (credits_object limit r) ≡ false
credits-whole limit r = rw (items-whole count (λ n. refl) r.pockets.items) refl
