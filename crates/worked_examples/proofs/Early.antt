-- Another order of moves, each checked by computing.
use Rattle.std.specs.Prelude.{ℕ, ◌≡◌, ◌≢◌, Bool, true, false, cond, List, [], ◌∷◌, ◌==◌}
use Rattle.std.proofs.Common.{refl}
use Rattle.std.proofs.Math.Dec.{lit<}
use Rattle.std.proofs.lemmas.Bool.{false≢true}
use Rattle.std.proofs.lemmas.List.Elements.{All-nil}
use Rattle.evt_types.specs.Event.{release_event}
use Rattle.evt_types.specs.Plan.{Plan, bound_of, depth_of, flow_lanes, lanes_of, serves}
use Rattle.evt_types.specs.declared.event.Reply.{Reply}
use Rattle.evt_types.specs.declared.step.Step.{Step}
use Rattle.evt_types.specs.declared.step.Step.TheVariants.{Give}
use Rattle.transcripts.proofs.Whole.{Lawful-steps}
use Rattle.transcripts.specs.Lawful.{Lawful}
use Rattle.transcripts.specs.Replies.{replies_in}
use Rattle.transcripts.specs.Transcript.{accepted, answers, ended, entries, forwards, hand, inside, is_from_of, kept, open_of, out, sent, sources, taken, unanswered, waiting}
use Rattle.worked_examples.proofs.Sound.{StepsLawful-test}
use Rattle.worked_examples.specs.Check.{is_lawful}
use Rattle.worked_examples.specs.Logs.{brought, entry, one_worker}
use Rattle.world_laws.proofs.Worlds.{same_worlds}
use Rattle.world_laws.specs.Logged.{as_logged}
use Rattle.world_laws.specs.World.{LeadsTo, MaySubmit, World, empty}
use Rattle.worked_examples.specs.Worlds.{early_log, early_moves, early_world, reply}

pub by_test : (p : Plan) (T : List Step) → is_lawful p T ≡ true → Lawful p T
by_test p T h = Lawful-steps p T (StepsLawful-test p T h)

-- a NEW may come on port 0's lane
new : (w : World) (payload : ℕ) → MaySubmit one_worker w 0 (reply (brought payload))
new w payload = record { own = λ _. lit< tt; held = λ answers_it. absurd (false≢true answers_it); beside = λ adds. absurd (false≢true adds) }

-- one entry for each lane, which was written twice
written_twice : (b c : Bool) (xs ys zs : List Reply) → cond b xs (cond c ys (cond c zs [])) ≡ cond b xs (cond c ys [])
written_twice true c xs ys zs = refl
written_twice false true xs ys zs = refl
written_twice false false xs ys zs = refl

pub early_run : LeadsTo one_worker empty early_moves early_world
unfolding accepted answers bound_of depth_of ended entries flow_lanes forwards hand inside kept lanes_of open_of out replies_in sent serves sources taken unanswered waiting
early_run = (
  new _ 1,
  (
    new _ 2,
    (
      record { reply = reply (brought 1); next = refl; may = refl; are = record { form = refl; lawful = by_test one_worker (entry (brought 1) ∷ []) refl } },
      (
        by_test one_worker (entry (brought 1) ∷ Give 1 0 0 ∷ []) refl,
        (
          lit< tt,
          (
            record { own = λ is_new. absurd (false≢true is_new); held = λ _. lit< tt; beside = λ adds. absurd (false≢true adds) },
            (
              record {
                reply = reply (brought 2);
                next = refl;
                may = refl;
                are = record { form = refl; lawful = by_test one_worker (entry (brought 1) ∷ Give 1 0 0 ∷ entry (brought 2) ∷ []) refl };
              },
              (
                record {
                  reply = reply release_event;
                  next = refl;
                  may = refl;
                  are = record { form = ([], refl, All-nil (λ s. is_from_of s ≡ true)); lawful = by_test one_worker early_log refl };
                },
                same_worlds _ early_world refl (λ m. refl)
                    (λ m. written_twice (m == 1) (m == 0) (reply release_event ∷ []) (reply (brought 1) ∷ reply (brought 2) ∷ []) (reply (brought 1) ∷ [])),
              ),
            ),
          ),
        ),
      ),
    ),
  ),
)

-- the log's order takes the first NEW before the second is submitted
pub early_differs : as_logged one_worker early_world ≢ early_moves
unfolding flow_lanes lanes_of out replies_in
early_differs same = cc
