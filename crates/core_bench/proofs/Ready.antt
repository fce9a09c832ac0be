-- A run stays ready.
use Rattle.std.proofs.Common.{◌≡◌, ℕ, ◌<◌, ◌≤◌, List, [], ◌∷◌, ◌++◌, length, ap, refl, sym, subst, append-nil, append_assoc, arith}
use Rattle.std.proofs.lemmas.List.Elements.{All-head, All-tail}
use Rattle.evt_types.specs.Plan.{Plan, lanes_of}
use Rattle.evt_types.specs.declared.event.Delivery.{Delivery}
use Rattle.evt_types.specs.declared.event.Event.{Event}
use Rattle.evt_types.specs.declared.step.Step.{Step}
use Rattle.sched_core.proofs.Offers.{choice_is_offer}
use Rattle.sched_core.specs.Offered.{numbered_in}
use Rattle.sched_core.specs.Runs.{AreDeals, gift_of, gifts_to, given_once}
use Rattle.transcripts.proofs.Fewness.{kept_fit, steps_fit}
use Rattle.transcripts.proofs.WholeStands.{stands_give}
use Rattle.transcripts.specs.Choice.{Passed}
use Rattle.transcripts.specs.Standing.{View, Stands, after, steps_of}
use Rattle.transcripts.specs.Sweep.{sweep_room}
use Rattle.core_bench.specs.Run.{IsReady, AreLanes}

module _ (v : View) (held : List ℕ) (capacity : ℕ) (ready : IsReady v held capacity) where
  -- the steps of a reply fit into its log
  pub reply_fits : (l : ℕ) (e : Event) → l < lanes_of v.shape → length (steps_of v l e) ≤ capacity
  reply_fits l e lane =
      omega (arith, steps_fit v ready.stands.0 l e ready.stands.1 lane, kept_fit v ready.stands.0 ready.stands.1, ready.room, lane)

  -- the oldest of the held events is of a lane, and leaves
  module _ (l : ℕ) (rest : List ℕ) (split : held ≡ l ∷ rest) where
    lanes_split : AreLanes v.shape (l ∷ rest)
    lanes_split = subst (AreLanes v.shape) split ready.lanes

    pub oldest_lane : l < lanes_of v.shape
    oldest_lane = All-head (λ m. m < lanes_of v.shape) l rest lanes_split

    pub ready_without : IsReady v rest capacity
    ready_without = record { lanes = All-tail (λ m. m < lanes_of v.shape) l rest lanes_split; room = ready.room; gifts = ready.gifts; stands = ready.stands }

  -- the core stands at another transcript
  pub ready_after : (w : View) (after : ℕ) → w.shape ≡ v.shape → capacity ≤ after → ((T : List Step) × Stands T w) → IsReady w held after
  ready_after w after shape room stands =
      record {
        lanes = subst (λ (p : Plan). AreLanes p held) (sym shape) ready.lanes;
        room = omega (arith, ready.room, room, ap sweep_room shape);
        gifts = omega (arith, ready.gifts, room, ap (λ (p : Plan). p.sweep) shape);
        stands = stands;
      }

-- once events are dealt the core stands at a transcript still
pub deals_stand : (v : View) (s : Passed) (ds : List Delivery) (to : List ℕ) (w : View) (t : Passed) (T : List Step) → AreDeals v s ds to w t → Stands T v → Stands (T ++ gifts_to ds to) w
deals_stand v s [] [] w t T h stands = subst (Stands (T ++ [])) (sym h.0) (subst (λ U. Stands U v) (sym (append-nil T)) stands)
deals_stand v s [] (l ∷ to) w t T h stands = absurd h
deals_stand v s (d ∷ ds) [] w t T h stands = absurd h
deals_stand v s (d ∷ ds) (l ∷ to) w t T h stands =
    subst (λ U. Stands U w) (append_assoc T (gift_of l d ∷ []) (gifts_to ds to))
    (deals_stand (after v (gift_of l d ∷ [])) (given_once s d.queue) ds to w t (T ++ gift_of l d ∷ []) h.1
    (stands_give v T l d.queue (numbered_in d) stands (choice_is_offer v s l d.queue (numbered_in d) h.0)))

-- each event has its step
pub gifts_count : (v : View) (s : Passed) (ds : List Delivery) (to : List ℕ) (w : View) (t : Passed) → AreDeals v s ds to w t → length (gifts_to ds to) ≡ length ds
gifts_count v s [] [] w t h = refl
gifts_count v s [] (l ∷ to) w t h = absurd h
gifts_count v s (d ∷ ds) [] w t h = absurd h
gifts_count v s (d ∷ ds) (l ∷ to) w t h = omega (arith, gifts_count (after v (gift_of l d ∷ [])) (given_once s d.queue) ds to w t h.1)
