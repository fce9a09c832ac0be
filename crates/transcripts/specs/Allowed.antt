-- One step more: what a step needs of the steps before it. A transcript is lawful exactly where each of its steps was allowed
-- and it is settled at its end; `lawful_by_steps` and the calls beside it, in src/laws.rt, say so.
use Rattle.std.specs.Prelude.{ℕ, ◌≡◌, ◌≢◌, ◌<◌, ◌≤◌, true, false, List, [], ◌∷◌, ◌++◌, length, All, Contains, Some, slice_get}
use Rattle.evt_types.specs.Plan.{Plan, depth_of, bound_of, queue_of, slot_of, serves, is_atomic, is_ordered}
use Rattle.lists.specs.Lists.{has}
use Rattle.transcripts.specs.Transcript.{unanswered, unanswered_slots, Held, hand, sources, taken, forwards, extras, waiting, open_of, inside, is_answered, has_shut, is_from_of}
use Rattle.lists.specs.Lists.{upto}
use Rattle.transcripts.specs.Lawful.{IsFormed, IsSettled, keeps_order, keeps_with}
use Rattle.evt_types.specs.declared.event.Event.{Event}
use Rattle.evt_types.specs.Limits.{most_extras}
use Rattle.evt_types.specs.declared.event.Numbered.{Numbered}
use Rattle.evt_types.specs.declared.step.Source.TheVariants.{New, Of}
use Rattle.evt_types.specs.declared.step.Step.{Step}
use Rattle.evt_types.specs.declared.step.Step.TheVariants.{Accept, Give, Done, More, Turned, Bounced, Shut}

pub record MayAcceptNew (p : Plan) (P : List Step) : Type 0 where
  pub closed : has_shut P ≡ false
  pub room : inside p P < bound_of p

-- the event may be accepted from the number n of r
pub record MayAcceptOf (p : Plan) (P : List Step) (e : Event) (r n : ℕ) : Type 0 where
  pub origin : slice_get (forwards P r n) (length (taken P r n)) ≡ Some e
  pub order : is_ordered (queue_of p r).kind ≡ true → All (λ m. has m (upto n (hand P r)) ≡ true) (sources P r)
  pub answered : is_ordered (queue_of p r).kind ≡ true → All (λ m. is_answered P r m ≡ true) (upto n (hand P r))
  pub rises : is_atomic (queue_of p r).kind ≡ true → All (λ m. keeps_with p P r m n ≡ true → m ≤ n) (sources P r)

-- the waiting event w of q may be given to the lane
pub record MayGive (p : Plan) (P : List Step) (l q : ℕ) (w : Numbered) : Type 0 where
  pub once : Contains (waiting P q) w
  pub linked : serves p l q (slot_of p q w.event.flow) ≡ true
  pub room : length (unanswered P l) < depth_of p l
  pub places : is_ordered (queue_of p q).kind ≡ true → length (open_of P q) < (queue_of p q).order
  pub flow : All (λ (v : Numbered). v.number < w.number → keeps_order p q v.event w.event ≡ false) (waiting P q)
  pub alone : is_atomic (queue_of p q).kind ≡ true → (m : ℕ) → m ≢ l → All (λ (y : Held). y.queue ≡ q → y.slot ≢ slot_of p q w.event.flow) (unanswered_slots p P m)

abbrev pub MayGiveNumber : Plan → List Step → ℕ → ℕ → ℕ → Type 0
MayGiveNumber p P l q n = (w : Numbered) × (w.number ≡ n) × MayGive p P l q w

-- an event may be added beside the lane's oldest unanswered one
pub record MayAdd (p : Plan) (P : List Step) (l : ℕ) : Type 0 where
  pub beside : 0 < length (unanswered P l)
  pub few : length (extras P l) < most_extras
  pub room : inside p P < bound_of p

-- what each kind of step needs
abbrev pub Needs : Plan → List Step → Step → Type 0
Needs p P (Accept q e (New l)) = MayAcceptNew p P
Needs p P (Accept q e (Of r n)) = MayAcceptOf p P e r n
Needs p P (Give l q n) = MayGiveNumber p P l q n
Needs p P (Done l o) = 0 < length (unanswered P l)
Needs p P (More l e) = MayAdd p P l
Needs p P (Turned l e) = has_shut P ≡ true
Needs p P (Bounced l) = Unit {0}
Needs p P Shut = has_shut P ≡ false

pub record Allowed (p : Plan) (P : List Step) (s : Step) : Type 0 where
  pub formed : IsFormed p s
  pub prompt : is_from_of s ≡ false → IsSettled p P
  pub needs : Needs p P s

-- each step is allowed after those before it
abbrev pub AllowedAfter : Plan → List Step → List Step → Type 0
AllowedAfter p past [] = Unit {0}
AllowedAfter p past (s ∷ rest) = Allowed p past s × AllowedAfter p (past ++ s ∷ []) rest

pub record StepsLawful (p : Plan) (T : List Step) : Type 0 where
  pub steps : AllowedAfter p [] T
  pub end : IsSettled p T
