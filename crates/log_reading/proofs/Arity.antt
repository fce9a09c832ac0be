-- Which step so many words say.
use Rattle.std.proofs.Common.{◌≡◌, ◌≢◌, ℕ, ◌<◌, ◌≤◌, ◌^◌, List, [], ◌∷◌, ◌++◌, Bor, length, get_or, map, Option, Some, refl, sym, ap, ◌∙◌, arith}
use Rattle.std.specs.Prelude.{codes, decimal}
use Rattle.evt_types.specs.Plan.{queue_in}
use Rattle.evt_types.specs.Word.{word_of}
use Rattle.evt_types.specs.declared.draft.QueueDraft.{QueueDraft}
use Rattle.evt_types.specs.declared.event.Event.{Event}
use Rattle.evt_types.specs.declared.event.Kind.{Kind}
use Rattle.evt_types.specs.declared.step.Outcome.TheVariants.{Forwarded, Released}
use Rattle.evt_types.specs.declared.step.Source.TheVariants.{New, Of}
use Rattle.evt_types.specs.declared.step.Step.{Step}
use Rattle.evt_types.specs.declared.step.Step.TheVariants.{Accept, Give, Done, More, Turned, Bounced, Shut}
use Rattle.play_text.specs.Text.{hex_word}
use Rattle.log_reading.specs.Logs.{IsEvent, IsStep}
use Rattle.log_reading.specs.Words.{event_words, step_words}
use Rattle.log_reading.proofs.Lines.{heads}

-- what is read of four words that begin with `give`
abbrev pub ReadsGive : Option Step → List ℕ → List ℕ → List ℕ → Type 0
ReadsGive r a b c =
    (l q n : ℕ) → l < 2 ^ 64 → q < 2 ^ 64 → n < 2 ^ 64 → a ≡ codes "l" ++ decimal l → b ≡ codes "q" ++ decimal q → c ≡ codes "#" ++ decimal n → r ≡ Some (Give l q n)

-- and of four others
abbrev pub ReadsLane : Option Step → (ℕ → Event → Step) → List ℕ → List ℕ → List ℕ → List ℕ → List ℕ → Type 0
ReadsLane r step named name a b c =
    (l : ℕ) (e : Event) (k : Kind) → l < 2 ^ 64 → IsEvent e → name ≡ named → a ≡ codes "l" ++ decimal l → b ≡ hex_word (word_of e k) → c ≡ decimal e.payload → r ≡ Some (step l e)

give-more : codes "give" ≡ codes "more" → ⊥
give-more x = let e : 103 ≡ 109 = heads 103 109 (codes "ive") (codes "ore") x in omega (arith, e)

give-turned : codes "give" ≡ codes "turned" → ⊥
give-turned x = let e : 103 ≡ 116 = heads 103 116 (codes "ive") (codes "urned") x in omega (arith, e)

pub four-give : (r : Option Step) (name a b c : List ℕ) → ReadsGive r a b c → name ≡ codes "give" → (qs : List QueueDraft) (n : ℕ) (s : Step) → IsStep s → name ∷ a ∷ b ∷ c ∷ [] ≡ step_words qs n s → r ≡ Some s
four-give r name a b c reads is qs n (Accept q e (New l)) fits h = absurd cc
four-give r name a b c reads is qs n (Accept q e (Of f m)) fits h = absurd cc
four-give r name a b c reads is qs n (Give l q m) fits h =
    let ea : a ≡ codes "l" ++ decimal l = cc in
    let eb : b ≡ codes "q" ++ decimal q = cc in
    let ec : c ≡ codes "#" ++ decimal m = cc in reads l q m fits.0 fits.1 fits.2 ea eb ec
four-give r name a b c reads is qs n (Done l Released) fits h = absurd cc
four-give r name a b c reads is qs n (Done l (Forwarded e)) fits h = absurd cc
four-give r name a b c reads is qs n (More l e) fits h = let en : name ≡ codes "more" = cc in absurd (give-more (sym is ∙ en))
four-give r name a b c reads is qs n (Turned l e) fits h = let en : name ≡ codes "turned" = cc in absurd (give-turned (sym is ∙ en))
four-give r name a b c reads is qs n (Bounced l) fits h = absurd cc
four-give r name a b c reads is qs n Shut fits h = absurd cc

pub four-lane : (r : Option Step) (name a b c : List ℕ) → ReadsLane r More (codes "more") name a b c → ReadsLane r Turned (codes "turned") name a b c → name ≢ codes "give"
    → (qs : List QueueDraft) (n : ℕ) (s : Step) → IsStep s → name ∷ a ∷ b ∷ c ∷ [] ≡ step_words qs n s → r ≡ Some s
four-lane r name a b c more turned other qs n (Accept q e (New l)) fits h = absurd cc
four-lane r name a b c more turned other qs n (Accept q e (Of f m)) fits h = absurd cc
four-lane r name a b c more turned other qs n (Give l q m) fits h = let en : name ≡ codes "give" = cc in absurd (other en)
four-lane r name a b c more turned other qs n (Done l Released) fits h = absurd cc
four-lane r name a b c more turned other qs n (Done l (Forwarded e)) fits h = absurd cc
four-lane r name a b c more turned other qs n (More l e) fits h =
    let en : name ≡ codes "more" = cc in
    let ea : a ≡ codes "l" ++ decimal l = cc in
    let eb : b ≡ hex_word (word_of e (queue_in qs e.queue).kind) = cc in
    let ec : c ≡ decimal e.payload = cc in more l e (queue_in qs e.queue).kind fits.0 fits.1 en ea eb ec
four-lane r name a b c more turned other qs n (Turned l e) fits h =
    let en : name ≡ codes "turned" = cc in
    let ea : a ≡ codes "l" ++ decimal l = cc in
    let eb : b ≡ hex_word (word_of e (queue_in qs e.queue).kind) = cc in
    let ec : c ≡ decimal e.payload = cc in turned l e (queue_in qs e.queue).kind fits.0 fits.1 en ea eb ec
four-lane r name a b c more turned other qs n (Bounced l) fits h = absurd cc
four-lane r name a b c more turned other qs n Shut fits h = absurd cc

-- what is read of seven words, and of eight
abbrev pub ReadsNew : Option Step → List ℕ → List ℕ → List ℕ → List ℕ → Type 0
ReadsNew r a b c d =
    (q l : ℕ) (e : Event) (k : Kind) → q < 2 ^ 64 → l < 2 ^ 64 → IsEvent e → a ≡ codes "q" ++ decimal q → b ≡ codes "l" ++ decimal l → c ≡ hex_word (word_of e k) → d ≡ decimal e.payload → r ≡ Some (Accept q e (New l))

abbrev pub ReadsOf : Option Step → List ℕ → List ℕ → List ℕ → List ℕ → List ℕ → Type 0
ReadsOf r a b c d x =
    (q f m : ℕ) (e : Event) (k : Kind) → q < 2 ^ 64 → f < 2 ^ 64 → m < 2 ^ 64 → IsEvent e → a ≡ codes "q" ++ decimal q → b ≡ codes "q" ++ decimal f → c ≡ codes "#" ++ decimal m → d ≡ hex_word (word_of e k) → x ≡ decimal e.payload
    → r ≡ Some (Accept q e (Of f m))

pub seven-words : (r : Option Step) (name a number new b c d : List ℕ) → ReadsNew r a b c d → (qs : List QueueDraft) (n : ℕ) (s : Step) → IsStep s → name ∷ a ∷ number ∷ new ∷ b ∷ c ∷ d ∷ [] ≡ step_words qs n s → r ≡ Some s
seven-words r name a number new b c d reads qs n (Accept q e (New l)) fits h =
    let ea : a ≡ codes "q" ++ decimal q = cc in
    let eb : b ≡ codes "l" ++ decimal l = cc in
    let ec : c ≡ hex_word (word_of e (queue_in qs e.queue).kind) = cc in
    let ed : d ≡ decimal e.payload = cc in reads q l e (queue_in qs e.queue).kind fits.0 fits.2 fits.1 ea eb ec ed
seven-words r name a number new b c d reads qs n (Accept q e (Of f m)) fits h = absurd cc
seven-words r name a number new b c d reads qs n (Give l q m) fits h = absurd cc
seven-words r name a number new b c d reads qs n (Done l Released) fits h = absurd cc
seven-words r name a number new b c d reads qs n (Done l (Forwarded e)) fits h = absurd cc
seven-words r name a number new b c d reads qs n (More l e) fits h = absurd cc
seven-words r name a number new b c d reads qs n (Turned l e) fits h = absurd cc
seven-words r name a number new b c d reads qs n (Bounced l) fits h = absurd cc
seven-words r name a number new b c d reads qs n Shut fits h = absurd cc

pub eight-words : (r : Option Step) (name a number of b c d x : List ℕ) → ReadsOf r a b c d x → (qs : List QueueDraft) (n : ℕ) (s : Step) → IsStep s → name ∷ a ∷ number ∷ of ∷ b ∷ c ∷ d ∷ x ∷ [] ≡ step_words qs n s → r ≡ Some s
eight-words r name a number of b c d x reads qs n (Accept q e (New l)) fits h = absurd cc
eight-words r name a number of b c d x reads qs n (Accept q e (Of f m)) fits h =
    let ea : a ≡ codes "q" ++ decimal q = cc in
    let eb : b ≡ codes "q" ++ decimal f = cc in
    let ec : c ≡ codes "#" ++ decimal m = cc in
    let ed : d ≡ hex_word (word_of e (queue_in qs e.queue).kind) = cc in
    let ex : x ≡ decimal e.payload = cc in reads q f m e (queue_in qs e.queue).kind fits.0 fits.2.0 fits.2.1 fits.1 ea eb ec ed ex
eight-words r name a number of b c d x reads qs n (Give l q m) fits h = absurd cc
eight-words r name a number of b c d x reads qs n (Done l Released) fits h = absurd cc
eight-words r name a number of b c d x reads qs n (Done l (Forwarded e)) fits h = absurd cc
eight-words r name a number of b c d x reads qs n (More l e) fits h = absurd cc
eight-words r name a number of b c d x reads qs n (Turned l e) fits h = absurd cc
eight-words r name a number of b c d x reads qs n (Bounced l) fits h = absurd cc
eight-words r name a number of b c d x reads qs n Shut fits h = absurd cc

-- the same of a list of words
pub seven-new : (r : Option Step) (ws : List (Bor (List ℕ))) (d1 d4 d5 d6 : Bor (List ℕ)) → length ws ≡ 7 → ReadsNew r (get_or ws 1 d1).now (get_or ws 4 d4).now (get_or ws 5 d5).now (get_or ws 6 d6).now
    → (qs : List QueueDraft) (n : ℕ) (s : Step) → IsStep s → map (λ w. w.now) ws ≡ step_words qs n s → r ≡ Some s
seven-new r [] d1 d4 d5 d6 len reads qs n s is e = absurd (omega (arith, len))
seven-new r (w0 ∷ []) d1 d4 d5 d6 len reads qs n s is e = absurd (omega (arith, len))
seven-new r (w0 ∷ w1 ∷ []) d1 d4 d5 d6 len reads qs n s is e = absurd (omega (arith, len))
seven-new r (w0 ∷ w1 ∷ w2 ∷ []) d1 d4 d5 d6 len reads qs n s is e = absurd (omega (arith, len))
seven-new r (w0 ∷ w1 ∷ w2 ∷ w3 ∷ []) d1 d4 d5 d6 len reads qs n s is e = absurd (omega (arith, len))
seven-new r (w0 ∷ w1 ∷ w2 ∷ w3 ∷ w4 ∷ []) d1 d4 d5 d6 len reads qs n s is e = absurd (omega (arith, len))
seven-new r (w0 ∷ w1 ∷ w2 ∷ w3 ∷ w4 ∷ w5 ∷ []) d1 d4 d5 d6 len reads qs n s is e = absurd (omega (arith, len))
seven-new r (w0 ∷ w1 ∷ w2 ∷ w3 ∷ w4 ∷ w5 ∷ w6 ∷ []) d1 d4 d5 d6 len reads qs n s is e = seven-words r w0.now w1.now w2.now w3.now w4.now w5.now w6.now reads qs n s is e
seven-new r (w0 ∷ w1 ∷ w2 ∷ w3 ∷ w4 ∷ w5 ∷ w6 ∷ w7 ∷ ws) d1 d4 d5 d6 len reads qs n s is e = absurd (omega (arith, len))

pub eight-of : (r : Option Step) (ws : List (Bor (List ℕ))) (d1 d4 d5 d6 d7 : Bor (List ℕ)) → length ws ≡ 8 → ReadsOf r (get_or ws 1 d1).now (get_or ws 4 d4).now (get_or ws 5 d5).now (get_or ws 6 d6).now (get_or ws 7 d7).now
    → (qs : List QueueDraft) (n : ℕ) (s : Step) → IsStep s → map (λ w. w.now) ws ≡ step_words qs n s → r ≡ Some s
eight-of r [] d1 d4 d5 d6 d7 len reads qs n s is e = absurd (omega (arith, len))
eight-of r (w0 ∷ []) d1 d4 d5 d6 d7 len reads qs n s is e = absurd (omega (arith, len))
eight-of r (w0 ∷ w1 ∷ []) d1 d4 d5 d6 d7 len reads qs n s is e = absurd (omega (arith, len))
eight-of r (w0 ∷ w1 ∷ w2 ∷ []) d1 d4 d5 d6 d7 len reads qs n s is e = absurd (omega (arith, len))
eight-of r (w0 ∷ w1 ∷ w2 ∷ w3 ∷ []) d1 d4 d5 d6 d7 len reads qs n s is e = absurd (omega (arith, len))
eight-of r (w0 ∷ w1 ∷ w2 ∷ w3 ∷ w4 ∷ []) d1 d4 d5 d6 d7 len reads qs n s is e = absurd (omega (arith, len))
eight-of r (w0 ∷ w1 ∷ w2 ∷ w3 ∷ w4 ∷ w5 ∷ []) d1 d4 d5 d6 d7 len reads qs n s is e = absurd (omega (arith, len))
eight-of r (w0 ∷ w1 ∷ w2 ∷ w3 ∷ w4 ∷ w5 ∷ w6 ∷ []) d1 d4 d5 d6 d7 len reads qs n s is e = absurd (omega (arith, len))
eight-of r (w0 ∷ w1 ∷ w2 ∷ w3 ∷ w4 ∷ w5 ∷ w6 ∷ w7 ∷ []) d1 d4 d5 d6 d7 len reads qs n s is e = eight-words r w0.now w1.now w2.now w3.now w4.now w5.now w6.now w7.now reads qs n s is e
eight-of r (w0 ∷ w1 ∷ w2 ∷ w3 ∷ w4 ∷ w5 ∷ w6 ∷ w7 ∷ w8 ∷ ws) d1 d4 d5 d6 d7 len reads qs n s is e = absurd (omega (arith, len))
