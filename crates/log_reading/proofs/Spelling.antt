-- A step's line as its words.
use Rattle.std.proofs.Common.{◌≡◌, ◌≢◌, ℕ, ◌<◌, Bool, true, false, ◌&&◌, ◌==◌, List, [], ◌∷◌, ◌++◌, refl, sym, ap, ◌∙◌, arith, append_assoc}
use Rattle.std.specs.Prelude.{codes, decimal}
use Rattle.std.specs.List.{AllByRecursion, list_all, slice_split, onto_first}
use Rattle.std.specs.Str.{IsAscii, IsUtf8}
use Rattle.std.proofs.lemmas.Bool.{and_parts, ltb-true, ne_eqb}
use Rattle.std.proofs.lemmas.List.{append_cancel_right}
use Rattle.std.proofs.lemmas.List.Folds.{list_all-append}
use Rattle.std.proofs.lemmas.List.Splits.{slice_split-cons_no}
use Rattle.std.proofs.lemmas.Str.{IsUtf8-from_ascii, IsAscii-append}
use Rattle.std.proofs.lemmas.Str.Ascii.{IsAscii-nil, IsAscii-cons}
use Rattle.evt_types.specs.Plan.{queue_in}
use Rattle.evt_types.specs.Word.{word_of}
use Rattle.evt_types.specs.declared.draft.QueueDraft.{QueueDraft}
use Rattle.evt_types.specs.declared.event.Event.{Event}
use Rattle.evt_types.specs.declared.step.Outcome.TheVariants.{Forwarded, Released}
use Rattle.evt_types.specs.declared.step.Source.TheVariants.{New, Of}
use Rattle.evt_types.specs.declared.step.Step.{Step}
use Rattle.evt_types.specs.declared.step.Step.TheVariants.{Accept, Give, Done, More, Turned, Bounced, Shut}
use Rattle.play_text.specs.Text.{hex_word, step_line}
use Rattle.log_reading.specs.Logs.{IsLine}
use Rattle.log_reading.specs.Words.{event_words, step_words}
use Rattle.log_reading.proofs.Numbers.{is_plain, IsPlain, decimal-plain, hex_word-plain}

-- ---- plain words, with a space between two

abbrev pub spaced : List (List ℕ) → List ℕ
spaced [] = []
spaced (w ∷ []) = w
spaced (w ∷ v ∷ vs) = w ++ 32 ∷ spaced (v ∷ vs)

plain-bounds : (c : ℕ) → is_plain c ≡ true → (32 < c) × (c < 128)
plain-bounds c h = let two = and_parts _ _ h in (ltb-true 32 c two.0, ltb-true c 128 two.1)

abbrev is_space : ℕ → Bool
is_space = λ b. b == 32

no-space : (c : ℕ) → is_plain c ≡ true → (c == 32) ≡ false
no-space c h = let two = plain-bounds c h in ne_eqb c 32 (λ e. omega (arith, two.0, e))

split-word : (w ys : List ℕ) → IsPlain w → slice_split is_space (w ++ 32 ∷ ys) ≡ w ∷ slice_split is_space ys
split-word [] ys h = refl
split-word (c ∷ w) ys h =
    let two = and_parts (is_plain c) (list_all is_plain w) h in
    slice_split-cons_no is_space c (w ++ 32 ∷ ys) (no-space c two.0) ∙ ap (onto_first c) (split-word w ys two.1)

split-last : (w : List ℕ) → IsPlain w → slice_split is_space w ≡ w ∷ []
split-last [] h = refl
split-last (c ∷ w) h =
    let two = and_parts (is_plain c) (list_all is_plain w) h in
    slice_split-cons_no is_space c w (no-space c two.0) ∙ ap (onto_first c) (split-last w two.1)

pub split-spaced : (w : List ℕ) (ws : List (List ℕ)) → AllByRecursion IsPlain (w ∷ ws) → slice_split is_space (spaced (w ∷ ws)) ≡ w ∷ ws
split-spaced w [] h = split-last w h.0
split-spaced w (v ∷ vs) h = split-word w (spaced (v ∷ vs)) h.0 ∙ ap (λ rest. w ∷ rest) (split-spaced v vs h.1)

plain-ascii : (w : List ℕ) → IsPlain w → IsAscii w
plain-ascii [] h = IsAscii-nil
plain-ascii (c ∷ w) h =
    let two = and_parts (is_plain c) (list_all is_plain w) h in
    IsAscii-cons c w (plain-bounds c two.0).1 (plain-ascii w two.1)

spaced-ascii : (ws : List (List ℕ)) → AllByRecursion IsPlain ws → IsAscii (spaced ws)
spaced-ascii [] h = IsAscii-nil
spaced-ascii (w ∷ []) h = plain-ascii w h.0
spaced-ascii (w ∷ v ∷ vs) h = IsAscii-append w (32 ∷ spaced (v ∷ vs)) (plain-ascii w h.0) (IsAscii-cons 32 (spaced (v ∷ vs)) (omega arith) (spaced-ascii (v ∷ vs) h.1))

line-append : (a b : List ℕ) → IsLine a → IsLine b → IsLine (a ++ b)
line-append [] b ha hb = hb
line-append (c ∷ a) b ha hb = (ha.0, line-append a b ha.1 hb)

plain-line : (w : List ℕ) → IsPlain w → IsLine w
plain-line [] h = tt
plain-line (c ∷ w) h =
    let two = and_parts (is_plain c) (list_all is_plain w) h in
    let low = (plain-bounds c two.0).0 in (λ e. omega (arith, low, e), plain-line w two.1)

spaced-line : (ws : List (List ℕ)) → AllByRecursion IsPlain ws → IsLine (spaced ws)
spaced-line [] h = tt
spaced-line (w ∷ []) h = plain-line w h.0
spaced-line (w ∷ v ∷ vs) h = line-append w (32 ∷ spaced (v ∷ vs)) (plain-line w h.0) (λ e. omega (arith, e), spaced-line (v ∷ vs) h.1)

-- ---- a step's words are plain

signed-plain : (sign : ℕ) (n : ℕ) → is_plain sign ≡ true → IsPlain (sign ∷ decimal n)
signed-plain sign n h = rw (h, decimal-plain n) refl

event-plain : (qs : List QueueDraft) (e : Event) → AllByRecursion IsPlain (event_words qs e)
event-plain qs e = (hex_word-plain (word_of e (queue_in qs e.queue).kind), (decimal-plain e.payload, tt))

pub words-plain : (qs : List QueueDraft) (n : ℕ) (s : Step) → AllByRecursion IsPlain (step_words qs n s)
words-plain qs n (Accept q e (New l)) = (refl, (signed-plain 113 q refl, (signed-plain 35 n refl, (refl, (signed-plain 108 l refl, event-plain qs e)))))
words-plain qs n (Accept q e (Of f m)) = (refl, (signed-plain 113 q refl, (signed-plain 35 n refl, (refl, (signed-plain 113 f refl, (signed-plain 35 m refl, event-plain qs e))))))
words-plain qs n (Give l q m) = (refl, (signed-plain 108 l refl, (signed-plain 113 q refl, (signed-plain 35 m refl, tt))))
words-plain qs n (Done l Released) = (refl, (signed-plain 108 l refl, (refl, tt)))
words-plain qs n (Done l (Forwarded e)) = (refl, (signed-plain 108 l refl, (refl, event-plain qs e)))
words-plain qs n (More l e) = (refl, (signed-plain 108 l refl, event-plain qs e))
words-plain qs n (Turned l e) = (refl, (signed-plain 108 l refl, event-plain qs e))
words-plain qs n (Bounced l) = (refl, (signed-plain 108 l refl, tt))
words-plain qs n Shut = (refl, tt)

-- ---- and its line is these words

-- the words behind the first, each with a space before it, and then z
abbrev behind_words : List (List ℕ) → List ℕ → List ℕ
behind_words [] z = z
behind_words (v ∷ vs) z = 32 ∷ (v ++ behind_words vs z)

spaced-end : (w : List ℕ) (ws : List (List ℕ)) (z : List ℕ) → spaced (w ∷ ws) ++ z ≡ w ++ behind_words ws z
spaced-end w [] z = refl
spaced-end w (v ∷ vs) z = append_assoc w (32 ∷ spaced (v ∷ vs)) z ∙ ap (λ r. w ++ 32 ∷ r) (spaced-end v vs z)

-- the same texts, however they are grouped
four-texts : (a b c d : List ℕ) → a ++ b ++ c ++ d ≡ a ++ (b ++ (c ++ d))
four-texts a b c d = simp append_assoc refl

lane-texts : (a l s x t p z : List ℕ) → a ++ l ++ s ++ (x ++ t ++ p) ++ z ≡ a ++ (l ++ (s ++ (x ++ (t ++ (p ++ z)))))
lane-texts a l s x t p z = simp append_assoc refl

forward-texts : (a l s f x t p z : List ℕ) → a ++ l ++ s ++ (f ++ (x ++ t ++ p) ++ z) ≡ a ++ (l ++ (s ++ (f ++ (x ++ (t ++ (p ++ z))))))
forward-texts a l s f x t p z = simp append_assoc refl

give-texts : (a l s q d h n z : List ℕ) → a ++ l ++ s ++ (q ++ d ++ h ++ n) ++ z ≡ a ++ (l ++ (s ++ (q ++ (d ++ (h ++ (n ++ z))))))
give-texts a l s q d h n z = simp append_assoc refl

new-texts : (a q d h n s w l u x t p z : List ℕ) → a ++ (q ++ d ++ h ++ n) ++ s ++ (w ++ l) ++ u ++ (x ++ t ++ p) ++ z ≡ a ++ (q ++ (d ++ (h ++ (n ++ (s ++ (w ++ (l ++ (u ++ (x ++ (t ++ (p ++ z)))))))))))
new-texts a q d h n s w l u x t p z = simp append_assoc refl

of-texts : (a q d h n s o r e i m u x t p z : List ℕ) → a ++ (q ++ d ++ h ++ n) ++ s ++ (o ++ (r ++ e ++ i ++ m)) ++ u ++ (x ++ t ++ p) ++ z ≡ a ++ (q ++ (d ++ (h ++ (n ++ (s ++ (o ++ (r ++ (e ++ (i ++ (m ++ (u ++ (x ++ (t ++ (p ++ z))))))))))))))
of-texts a q d h n s o r e i m u x t p z = simp append_assoc refl

pub line-spaced : (qs : List QueueDraft) (n : ℕ) (s : Step) → step_line qs n s ≡ spaced (step_words qs n s) ++ codes "\n"
line-spaced qs n (Accept q e (New l)) =
    new-texts (codes "accept ") (codes "q") (decimal q) (codes " #") (decimal n) (codes " ") (codes "new l") (decimal l) (codes " ") (hex_word (word_of e (queue_in qs e.queue).kind)) (codes " ") (decimal e.payload) (codes "\n")
    ∙ sym (spaced-end (codes "accept") ((codes "q" ++ decimal q) ∷ (codes "#" ++ decimal n) ∷ codes "new" ∷ (codes "l" ++ decimal l) ∷ event_words qs e) (codes "\n"))
line-spaced qs n (Accept q e (Of f m)) =
    of-texts (codes "accept ") (codes "q") (decimal q) (codes " #") (decimal n) (codes " ") (codes "of ") (codes "q") (decimal f) (codes " #") (decimal m) (codes " ") (hex_word (word_of e (queue_in qs e.queue).kind)) (codes " ") (decimal e.payload) (codes "\n")
    ∙ sym (spaced-end (codes "accept") ((codes "q" ++ decimal q) ∷ (codes "#" ++ decimal n) ∷ codes "of" ∷ (codes "q" ++ decimal f) ∷ (codes "#" ++ decimal m) ∷ event_words qs e) (codes "\n"))
line-spaced qs n (Give l q m) =
    give-texts (codes "give l") (decimal l) (codes " ") (codes "q") (decimal q) (codes " #") (decimal m) (codes "\n")
    ∙ sym (spaced-end (codes "give") ((codes "l" ++ decimal l) ∷ (codes "q" ++ decimal q) ∷ (codes "#" ++ decimal m) ∷ []) (codes "\n"))
line-spaced qs n (Done l Released) =
    four-texts (codes "done l") (decimal l) (codes " ") (codes "release\n")
    ∙ sym (spaced-end (codes "done") ((codes "l" ++ decimal l) ∷ codes "release" ∷ []) (codes "\n"))
line-spaced qs n (Done l (Forwarded e)) =
    forward-texts (codes "done l") (decimal l) (codes " ") (codes "forward ") (hex_word (word_of e (queue_in qs e.queue).kind)) (codes " ") (decimal e.payload) (codes "\n")
    ∙ sym (spaced-end (codes "done") ((codes "l" ++ decimal l) ∷ codes "forward" ∷ event_words qs e) (codes "\n"))
line-spaced qs n (More l e) =
    lane-texts (codes "more l") (decimal l) (codes " ") (hex_word (word_of e (queue_in qs e.queue).kind)) (codes " ") (decimal e.payload) (codes "\n")
    ∙ sym (spaced-end (codes "more") ((codes "l" ++ decimal l) ∷ event_words qs e) (codes "\n"))
line-spaced qs n (Turned l e) =
    lane-texts (codes "turned l") (decimal l) (codes " ") (hex_word (word_of e (queue_in qs e.queue).kind)) (codes " ") (decimal e.payload) (codes "\n")
    ∙ sym (spaced-end (codes "turned") ((codes "l" ++ decimal l) ∷ event_words qs e) (codes "\n"))
line-spaced qs n (Bounced l) =
    append_assoc (codes "bounced l") (decimal l) (codes "\n")
    ∙ sym (spaced-end (codes "bounced") ((codes "l" ++ decimal l) ∷ []) (codes "\n"))
line-spaced qs n Shut = refl

-- ---- what a line says

words-split : (ws : List (List ℕ)) → ws ≢ [] → AllByRecursion IsPlain ws → slice_split is_space (spaced ws) ≡ ws
words-split [] some h = absurd (some refl)
words-split (w ∷ ws) some h = split-spaced w ws h

some-words : (qs : List QueueDraft) (n : ℕ) (s : Step) → step_words qs n s ≢ []
some-words qs n (Accept q e (New l)) h = absurd cc
some-words qs n (Accept q e (Of f m)) h = absurd cc
some-words qs n (Give l q m) h = absurd cc
some-words qs n (Done l Released) h = absurd cc
some-words qs n (Done l (Forwarded e)) h = absurd cc
some-words qs n (More l e) h = absurd cc
some-words qs n (Turned l e) h = absurd cc
some-words qs n (Bounced l) h = absurd cc
some-words qs n Shut h = absurd cc

line-words : (qs : List QueueDraft) (n : ℕ) (s : Step) (line : List ℕ) → line ++ codes "\n" ≡ step_line qs n s → line ≡ spaced (step_words qs n s)
line-words qs n s line e = append_cancel_right line (spaced (step_words qs n s)) (codes "\n") (e ∙ line-spaced qs n s)

pub line-split : (qs : List QueueDraft) (n : ℕ) (s : Step) (line : List ℕ) → line ++ codes "\n" ≡ step_line qs n s → slice_split (λ b. b == 32) line ≡ step_words qs n s
line-split qs n s line e = ap (slice_split is_space) (line-words qs n s line e) ∙ words-split (step_words qs n s) (some-words qs n s) (words-plain qs n s)

pub line-utf8 : (qs : List QueueDraft) (n : ℕ) (s : Step) (line : List ℕ) → line ++ codes "\n" ≡ step_line qs n s → IsUtf8 line
line-utf8 qs n s line e = rw (line-words qs n s line e) (IsUtf8-from_ascii _ (spaced-ascii (step_words qs n s) (words-plain qs n s)))

-- its line is a line with its end
pub step_line-whole : (qs : List QueueDraft) (n : ℕ) (s : Step) → (line : List ℕ) × IsLine line × (step_line qs n s ≡ line ++ codes "\n")
step_line-whole qs n s = (spaced (step_words qs n s), spaced-line (step_words qs n s) (words-plain qs n s), line-spaced qs n s)
