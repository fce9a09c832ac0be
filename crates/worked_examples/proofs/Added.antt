-- An event that is added beside a held one, each move checked by computing.
use Rattle.std.specs.Prelude.{◌≡◌, true, [], ◌∷◌}
use Rattle.std.proofs.Common.{refl}
use Rattle.std.proofs.Math.Dec.{lit<}
use Rattle.std.proofs.lemmas.Bool.{false≢true}
use Rattle.std.proofs.lemmas.List.Elements.{All-nil, All-cons}
use Rattle.evt_types.specs.Plan.{bound_of, depth_of, flow_lanes, lanes_of, serves}
use Rattle.evt_types.specs.declared.step.Source.TheVariants.{Of}
use Rattle.evt_types.specs.declared.step.Step.TheVariants.{Accept, Give}
use Rattle.transcripts.specs.Replies.{replies_in}
use Rattle.transcripts.specs.Transcript.{accepted, answers, ended, entries, extras, forwards, hand, inside, is_from_of, kept, open_of, out, sent, sources, taken, unanswered, waiting}
use Rattle.worked_examples.specs.Logs.{added, atomic_stages, brought, entry}
use Rattle.world_laws.proofs.Worlds.{same_worlds}
use Rattle.world_laws.specs.Logged.{as_logged}
use Rattle.world_laws.specs.World.{LeadsTo, empty, in_hand}
use Rattle.worked_examples.proofs.Early.{by_test}
use Rattle.worked_examples.specs.Worlds.{added_log, added_moves, added_world, reply}

pub added_run : LeadsTo atomic_stages empty added_moves added_world
unfolding accepted answers bound_of depth_of ended entries extras flow_lanes forwards hand inside kept lanes_of open_of out replies_in sent serves sources taken unanswered waiting
added_run = (
  record { own = λ _. lit< tt; held = λ answers_it. absurd (false≢true answers_it); beside = λ adds. absurd (false≢true adds) },
  (
    record { reply = reply (brought 1); next = refl; may = refl; are = record { form = refl; lawful = by_test atomic_stages (entry (brought 1) ∷ []) refl } },
    (
      by_test atomic_stages (entry (brought 1) ∷ Give 1 0 0 ∷ []) refl,
      (
        lit< tt,
        (
          record { own = λ is_new. absurd (false≢true is_new); held = λ answers_it. absurd (false≢true answers_it); beside = λ _. (lit< tt, lit< tt) },
          (
            record {
              reply = reply (added 10);
              next = refl;
              may = refl;
              are = record {
                form = (
                  Accept 1 (added 10) (Of 0 0) ∷ [],
                  refl,
                  All-cons (λ s. is_from_of s ≡ true) (Accept 1 (added 10) (Of 0 0)) [] refl (All-nil (λ s. is_from_of s ≡ true)),
                );
                lawful = by_test atomic_stages added_log refl;
              };
            },
            same_worlds _ added_world refl (λ m. refl) (λ m. refl),
          ),
        ),
      ),
    ),
  ),
)

-- its Accept comes with its Take
pub added_moves_are : as_logged atomic_stages added_world ≡ added_moves
unfolding out replies_in flow_lanes lanes_of
added_moves_are = refl

pub added_hand : in_hand added_world 1 ≡ (0, 0) ∷ []
unfolding out
added_hand = refl
