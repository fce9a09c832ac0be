-- The words of a step's line.
use Rattle.std.specs.Prelude.{ℕ, List, [], ◌∷◌, ◌++◌, codes, decimal}
use Rattle.evt_types.specs.Plan.{queue_in}
use Rattle.evt_types.specs.Word.{word_of}
use Rattle.evt_types.specs.declared.draft.QueueDraft.{QueueDraft}
use Rattle.evt_types.specs.declared.event.Event.{Event}
use Rattle.evt_types.specs.declared.step.Outcome.TheVariants.{Forwarded, Released}
use Rattle.evt_types.specs.declared.step.Source.TheVariants.{New, Of}
use Rattle.evt_types.specs.declared.step.Step.{Step}
use Rattle.evt_types.specs.declared.step.Step.TheVariants.{Accept, Give, Done, More, Turned, Bounced, Shut}
use Rattle.play_text.specs.Text.{hex_word}

abbrev pub event_words : List QueueDraft → Event → List (List ℕ)
event_words qs e = hex_word (word_of e (queue_in qs e.queue).kind) ∷ decimal e.payload ∷ []

-- n is the number of an accepted event
abbrev pub step_words : List QueueDraft → ℕ → Step → List (List ℕ)
step_words qs n (Accept queue e (New lane)) =
    codes "accept" ∷ (codes "q" ++ decimal queue) ∷ (codes "#" ++ decimal n) ∷ codes "new" ∷ (codes "l" ++ decimal lane) ∷ event_words qs e
step_words qs n (Accept queue e (Of from number)) =
    codes "accept" ∷ (codes "q" ++ decimal queue) ∷ (codes "#" ++ decimal n) ∷ codes "of" ∷ (codes "q" ++ decimal from) ∷ (codes "#" ++ decimal number) ∷ event_words qs e
step_words qs n (Give lane queue number) = codes "give" ∷ (codes "l" ++ decimal lane) ∷ (codes "q" ++ decimal queue) ∷ (codes "#" ++ decimal number) ∷ []
step_words qs n (Done lane Released) = codes "done" ∷ (codes "l" ++ decimal lane) ∷ codes "release" ∷ []
step_words qs n (Done lane (Forwarded e)) = codes "done" ∷ (codes "l" ++ decimal lane) ∷ codes "forward" ∷ event_words qs e
step_words qs n (More lane e) = codes "more" ∷ (codes "l" ++ decimal lane) ∷ event_words qs e
step_words qs n (Turned lane e) = codes "turned" ∷ (codes "l" ++ decimal lane) ∷ event_words qs e
step_words qs n (Bounced lane) = codes "bounced" ∷ (codes "l" ++ decimal lane) ∷ []
step_words qs n Shut = codes "shut" ∷ []
