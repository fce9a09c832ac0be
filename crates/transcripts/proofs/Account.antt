-- The account of a transcript whose steps were allowed: what is inside and what was released are what was accepted as new and what
-- was added.
use Rattle.std.specs.Prelude.{ℕ, ◌≡◌, ◌<◌, ◌≤◌, ◌+◌, List, [], ◌∷◌, ◌++◌, length, All, Option, Some, None, sum_by, cond}
use Rattle.std.proofs.Common.{refl, ap, subst, arith}
use Rattle.std.proofs.lemmas.List.{length-append, length_push}
use Rattle.std.proofs.lemmas.List.Elements.{All-nil, All-push, All-weaker}
use Rattle.std.proofs.lemmas.List.Sums.{sum_by_push}
use Rattle.std.proofs.lemmas.Option.{slice_get_within}
use Rattle.evt_types.proofs.FlowLanes.{port_is_lane}
use Rattle.transcripts.proofs.Facts.{Facts, Facts-none, Facts-push, AllowedAfter_keeps}
use Rattle.transcripts.proofs.Insides.{inside_new, inside_of, inside_give, inside_release, inside_forward, inside_added, inside_turned, inside_bounced, inside_shut}
use Rattle.transcripts.proofs.Pushes.{taken_in_is, taken-some, taken-none, forwards-push}
use Rattle.transcripts.specs.Allowed.{Allowed, AllowedAfter}
use Rattle.transcripts.specs.Lawful.{IsFormed}
use Rattle.evt_types.specs.Plan.{Plan, queues, lanes, lanes_of}
use Rattle.transcripts.specs.Replies.{new_count, release_count, more_count}
use Rattle.transcripts.specs.Transcript.{accepted, out, answers, unanswered, forwards, hand, waiting, taken, taken_in, kept, inside, is_new, is_release, is_more}
use Rattle.evt_types.specs.declared.event.Event.{Event}
use Rattle.evt_types.specs.declared.step.Outcome.TheVariants.{Forwarded, Released}
use Rattle.evt_types.specs.declared.step.Source.TheVariants.{New, Of}
use Rattle.evt_types.specs.declared.step.Step.{Step}
use Rattle.evt_types.specs.declared.step.Step.TheVariants.{Accept, Give, Done, More, Turned, Bounced, Shut}

-- ---- no more is accepted from a number than it was passed on as

abbrev pub TakesWhatItHas : List Step → Type 0
TakesWhatItHas T = (q n : ℕ) → length (taken T q n) ≤ length (forwards T q n)

taken_none : TakesWhatItHas []
unfolding taken
taken_none q n = omega arith

pub taken_push : (p : Plan) (P : List Step) (s : Step) → TakesWhatItHas P → Allowed p P s → TakesWhatItHas (P ++ s ∷ [])
taken_push p P s h a q n = by_case (taken_in q n s) refl
  where
    grows : length (forwards P q n) ≤ length (forwards (P ++ s ∷ []) q n)
    grows = rw (forwards-push P q n s, length-append) (omega arith)

    by_case : (o : Option Event) → taken_in q n s ≡ o → length (taken (P ++ s ∷ []) q n) ≤ length (forwards (P ++ s ∷ []) q n)
    by_case None is = omega (arith, ap length (taken-none P q n s is), h q n, grows)
    by_case (Some e) is =
        let origin = taken_in_is q n s e is in
        let may = subst (λ t. Allowed p P t) origin.1 a in
        omega (arith, ap length (taken-some P q n s e is), length_push (taken P q n) e, slice_get_within (forwards P q n) (length (taken P q n)) e may.needs.origin, grows)

pub taken_allowed : (p : Plan) (T : List Step) → AllowedAfter p [] T → TakesWhatItHas T
taken_allowed p T all = AllowedAfter_keeps p TakesWhatItHas (taken_push p) [] T taken_none all

-- ---- one step

-- what one step releases, and what it brings in
releases : Step → ℕ
releases s = cond (is_release s) 1 0

news : Step → ℕ
news s = cond (is_new s) 1 0

mores : Step → ℕ
mores s = cond (is_more s) 1 0

inside_push : (p : Plan) (P : List Step) (s : Step) → Facts p P → TakesWhatItHas P → Allowed p P s → inside p (P ++ s ∷ []) + releases s ≡ inside p P + news s + mores s
unfolding releases news mores
inside_push p P (Accept q e (New l)) f h a = omega (arith, inside_new p P q e l f a.formed.entry.queue)
inside_push p P (Accept q e (Of r n)) f h a = omega (arith, inside_of p P q e r n f a.formed a.needs)
inside_push p P (Give l q n) f h a = omega (arith, inside_give p P l q n f a.formed a.needs)
inside_push p P (Done l (Forwarded e)) f h a = omega (arith, inside_forward p P l e f h a.formed.0 a.needs)
inside_push p P (Done l Released) f h a = omega (arith, inside_release p P l f a.formed.0 a.needs)
inside_push p P (More l e) f h a = omega (arith, inside_added p P l e f h a.needs.beside)
inside_push p P (Turned l e) f h a = omega (arith, inside_turned p P l e)
inside_push p P (Bounced l) f h a = omega (arith, inside_bounced p P l)
inside_push p P Shut f h a = omega (arith, inside_shut p P)

release_count-push : (P : List Step) (s : Step) → release_count (P ++ s ∷ []) ≡ release_count P + releases s
unfolding releases
release_count-push P s = sum_by_push (λ t. cond (is_release t) 1 0) P s

new_count-push : (P : List Step) (s : Step) → new_count (P ++ s ∷ []) ≡ new_count P + news s
unfolding news
new_count-push P s = sum_by_push (λ t. cond (is_new t) 1 0) P s

more_count-push : (P : List Step) (s : Step) → more_count (P ++ s ∷ []) ≡ more_count P + mores s
unfolding mores
more_count-push P s = sum_by_push (λ t. cond (is_more t) 1 0) P s

-- ---- all steps

-- at the start nothing is inside
sum_of_none : (xs : List ℕ) → sum_by (λ x. 0) xs ≡ 0
sum_of_none [] = refl
sum_of_none (x ∷ xs) = sum_of_none xs

inside_none : (p : Plan) → inside p [] ≡ 0
unfolding inside waiting kept unanswered accepted hand out answers
inside_none p = omega (arith, sum_of_none (queues p), sum_of_none (lanes p))

record Account (p : Plan) (T : List Step) : Type 0 where
  facts : Facts p T
  taken : TakesWhatItHas T
  same : inside p T + release_count T ≡ new_count T + more_count T

Account-push : (p : Plan) (P : List Step) (s : Step) → Account p P → Allowed p P s → Account p (P ++ s ∷ [])
Account-push p P s h a =
    record {
      facts = Facts-push p P s h.facts a;
      taken = taken_push p P s h.taken a;
      same = omega (arith, inside_push p P s h.facts h.taken a, release_count-push P s, new_count-push P s, more_count-push P s);
    }

Account-none : (p : Plan) → Account p []
Account-none p = record { facts = Facts-none p; taken = taken_none; same = omega (arith, inside_none p) }

-- what is inside and what was released are what was accepted as new and what was added
pub settled : (p : Plan) (T : List Step) → AllowedAfter p [] T → inside p T + release_count T ≡ new_count T + more_count T
settled p T all = (AllowedAfter_keeps p (Account p) (Account-push p) [] T (Account-none p) all).same

-- ---- each step names lanes and queues that are there

pub formed_allowed : (p : Plan) (T : List Step) → AllowedAfter p [] T → All (IsFormed p) T
formed_allowed p T all =
    AllowedAfter_keeps p (All (IsFormed p)) (λ P s formed a. All-push (IsFormed p) P s formed a.formed) [] T (All-nil (IsFormed p)) all

-- a step's lane is there, and its queues are
abbrev pub HasLane : Plan → Step → Type 0
HasLane p (Accept q e (New l)) = l < lanes_of p
HasLane p (Accept q e (Of r n)) = Unit {0}
HasLane p (Give l q n) = l < lanes_of p
HasLane p (Done l o) = l < lanes_of p
HasLane p (More l e) = l < lanes_of p
HasLane p (Turned l e) = l < lanes_of p
HasLane p (Bounced l) = l < lanes_of p
HasLane p Shut = Unit {0}

pub formed_lane : (p : Plan) (s : Step) → IsFormed p s → HasLane p s
formed_lane p (Accept q e (New l)) f = port_is_lane p l f.lane
formed_lane p (Accept q e (Of r n)) f = tt
formed_lane p (Give l q n) f = f.lane
formed_lane p (Done l o) f = f.0
formed_lane p (More l e) f = f.0
formed_lane p (Turned l e) f = port_is_lane p l f.lane
formed_lane p (Bounced l) f = f
formed_lane p Shut f = tt

pub formed_lanes : (p : Plan) (T : List Step) → All (IsFormed p) T → All (HasLane p) T
formed_lanes p T formed = All-weaker (IsFormed p) (HasLane p) (formed_lane p) T formed
