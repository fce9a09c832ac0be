-- Texts over a range of numbers, one more.
use Rattle.std.proofs.Common.{◌≡◌, ℕ, zero, suc, ◌+◌, ◌<◌, List, [], ◌∷◌, ◌++◌, length, map, refl, sym, ap, ◌∙◌, arith, add-one, add-zero, append-nil, append_assoc}
use Rattle.std.specs.Prelude.{flat_map, All, Result, Ok, Err, OnOk, is_ok, if◌then◌else◌}
use Rattle.std.specs.List.{range_with_len}
use Rattle.std.proofs.lemmas.Grind.{flat_map-append}
use Rattle.std.proofs.lemmas.List.Elements.{All-weaker}
use Rattle.evt_types.specs.Plan.{Plan, lanes_of}
use Rattle.evt_types.specs.declared.step.Source.TheVariants.{New, Of}
use Rattle.evt_types.specs.declared.step.Step.{Step}
use Rattle.evt_types.specs.declared.step.Step.TheVariants.{Accept, Give, Done, More, Turned, Bounced, Shut}
use Rattle.timelines.specs.Links.{IsPlaced}
use Rattle.timelines.specs.Marks.{Mark}
use Rattle.transcripts.specs.Lawful.{IsFormed}

range_suc : (a n : ℕ) → range_with_len a (suc n) ≡ range_with_len a n ++ (a + n) ∷ []
range_suc a zero = ap (λ k. k ∷ []) (sym (add-zero a))
range_suc a (suc n) =
    let same : a + 1 + n ≡ a + suc n = omega arith in
    ap (λ xs. a ∷ xs) (range_suc (a + 1) n ∙ ap (λ k. range_with_len (a + 1) n ++ k ∷ []) same)

range_more : (n : ℕ) → range_with_len 0 (n + 1) ≡ range_with_len 0 n ++ n ∷ []
range_more n = let same : 0 + n ≡ n = omega arith in rw add-one (range_suc 0 n ∙ ap (λ k. range_with_len 0 n ++ k ∷ []) same)

pub flat_map_more : (f : ℕ → List ℕ) (n : ℕ) → flat_map f (range_with_len 0 (n + 1)) ≡ flat_map f (range_with_len 0 n) ++ f n
flat_map_more f n =
    ap (flat_map f) (range_more n) ∙ (flat_map-append f (range_with_len 0 n) (n ∷ []) ∙ ap (λ xs. flat_map f (range_with_len 0 n) ++ xs) (append-nil (f n)))

pub one_more : (f : ℕ → List ℕ) (n : ℕ) (init out new : List ℕ) → out ≡ init ++ flat_map f (range_with_len 0 n) → new ≡ out ++ f n → new ≡ init ++ flat_map f (range_with_len 0 (n + 1))
one_more f n init out new was is =
    is ∙ (ap (λ xs. xs ++ f n) was ∙ (append_assoc init (flat_map f (range_with_len 0 n)) (f n) ∙ sym (ap (λ xs. init ++ xs) (flat_map_more f n))))

-- a text behind a text
pub more : (o o1 o2 a b : List ℕ) → o1 ≡ o ++ a → o2 ≡ o1 ++ b → o2 ≡ o ++ (a ++ b)
more o o1 o2 a b e h = h ∙ (ap (λ xs. xs ++ b) e ∙ append_assoc o a b)

pub on_more : {X E : Type 0} (r : Result X E) (o o1 o2 a b : List ℕ) → o1 ≡ o ++ a → OnOk r (o2 ≡ o1 ++ b) → OnOk r (o2 ≡ o ++ (a ++ b))
on_more (Ok x) o o1 o2 a b e h = more o o1 o2 a b e h
on_more (Err x) o o1 o2 a b e h = tt

pub on_pushed : {X E : Type 0} (r : Result X E) (o o1 b : List ℕ) → o1 ≡ (if is_ok r then o ++ b else o) → OnOk r (o1 ≡ o ++ b)
on_pushed (Ok x) o o1 b h = h
on_pushed (Err x) o o1 b h = tt

-- each number once
pub map_same : (f : ℕ → Mark) (a n : ℕ) → ((k : ℕ) → (f k).step ≡ k) → map (λ (m : Mark). m.step) (map f (range_with_len a n)) ≡ range_with_len a n
map_same f a zero h = refl
map_same f a (suc n) h = ap (λ k. k ∷ map (λ (m : Mark). m.step) (map f (range_with_len (a + 1) n))) (h a) ∙ ap (λ xs. a ∷ xs) (map_same f (a + 1) n h)

-- what a step names is there
turned_placed : (p : Plan) (l : ℕ) → l < length p.ports → l < lanes_of p
unfolding lanes_of
turned_placed p l h = omega (arith, h)

formed_placed : (p : Plan) (s : Step) → IsFormed p s → IsPlaced (length p.queues) (lanes_of p) s
formed_placed p (Accept q e (New l)) h = h.entry.queue
formed_placed p (Accept q e (Of r n)) h = h.entry.queue
formed_placed p (Give l q n) h = h.lane
formed_placed p (Done l o) h = h.0
formed_placed p (More l e) h = h.0
formed_placed p (Turned l e) h = turned_placed p l h.lane
formed_placed p (Bounced l) h = h
formed_placed p Shut h = tt

pub all_placed : (p : Plan) (T : List Step) → All (IsFormed p) T → All (IsPlaced (length p.queues) (lanes_of p)) T
all_placed p T h = All-weaker (IsFormed p) (IsPlaced (length p.queues) (lanes_of p)) (formed_placed p) T h
