use Rattle.std.proofs.Common.{◌≡◌, ◌∙◌, ℕ, ◌-◌, ◌^◌, Option, Some, None, sym, ap}
use Rattle.std.specs.Prelude.{option_map}
use Rattle.std.specs.Result.{result_ok}
use Rattle.evt_types.specs.Word.{word_of}
use Rattle.evt_types.specs.declared.event.Event.{Event}
use Rattle.evt_types.specs.declared.event.Kind.{Kind}
use Rattle.play_documents.specs.Words.{number}
use Rattle.log_reading.proofs.Numbers.{number-decimal, word-small}
use Rattle.log_reading.proofs.words.event_of.Goals as goal

some_same : (x y : ℕ) → Some x ≡ Some y → x ≡ y
some_same x y e = cc

no_number : (x : ℕ) → None ≡ Some x → ⊥
no_number x e = cc

first_same : (x y : Event) (j k : Kind) → ◌≡◌ {A = Option (Event × Kind)} (Some (x, j)) (Some (y, k)) → Some x ≡ Some y
first_same x y j k e = ap {A = Option (Event × Kind)} (option_map (λ p. p.0)) e

pub returns-in_err-payload : goal.returns-in_err-payload
returns-in_err-payload c = λ e k is w p. absurd (no_number e.payload (c.in_err-payload.ensures.value ∙ ap (number (2 ^ 64 - 1)) p ∙ number-decimal e.payload is.payload))

pub returns : goal.returns
returns c = λ e k is w p.
    let word : c.in_ok-word.word ≡ word_of e k = some_same _ _ (c.in_ok-word.ensures (word_of e k) (word-small e k is.fits) w) in
    let payload : c.in_ok-payload.payload ≡ e.payload = some_same _ _ (c.in_ok-payload.ensures.value ∙ ap (number (2 ^ 64 - 1)) p ∙ number-decimal e.payload is.payload) in
    first_same c.in_ok-event.event e c.in_ok-event.field-0-1 k (sym c.in_ok-event.was ∙ c.ok.ensures.value ∙ ap result_ok (c.from_word.ensures.only e k is.fits word payload))
