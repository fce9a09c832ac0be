-- Events whose queue keeps their order, got in the other order than those that they were forwarded from were sent, to a queue that keeps
-- theirs, fit no run.
use Rattle.std.specs.Prelude.{ℕ, ◌≡◌, ◌/◌, ◌<◌, ◌≤◌, Bool, true, false, ◌&&◌, List, ◌∷◌, ◌++◌, ◌==◌, length, All, Some, slice_get, if◌then◌else◌, ◌⊎◌}
use Rattle.std.proofs.Common.{refl, sym, ap, ◌∙◌, subst, arith, inl, inr, ⊎_elim, append_assoc}
use Rattle.std.proofs.lemmas.Bool.{and_parts, cases_lt, false≢true}
use Rattle.std.proofs.lemmas.List.{take_all}
use Rattle.std.proofs.lemmas.Option.{same_Some}
use Rattle.evt_types.specs.Plan.{Plan, is_atomic, is_ordered, level_of, queue_of}
use Rattle.evt_types.specs.declared.event.Event.{Event}
use Rattle.evt_types.specs.declared.step.Source.{Source}
use Rattle.evt_types.specs.declared.step.Source.TheVariants.{Of}
use Rattle.evt_types.specs.declared.step.Step.{Step}
use Rattle.evt_types.specs.declared.step.Step.TheVariants.{Accept}
use Rattle.lists.proofs.Lists.{eqb_comm}
use Rattle.lists.specs.Lists.{has}
use Rattle.transcripts.proofs.HandOrder.{sources_in_hand_order}
use Rattle.transcripts.proofs.Pushes.{accepted_in_is, source_in-same}
use Rattle.transcripts.proofs.WholeStands.{facts_of}
use Rattle.transcripts.specs.Lawful.{KeepsOrder, Lawful, keeps_order, keeps_some, keeps_with}
use Rattle.transcripts.specs.Laws.{IsHandedNoLater}
use Rattle.transcripts.specs.Transcript.{accepted, accepted_in, event_at, given_of, hand, out, source_in, sources}
use Rattle.world_laws.proofs.Consistent.{consistent_end, consistent_none}
use Rattle.world_laws.specs.World.{IsConsistent, empty}
use Rattle.history_judge.proofs.Forwards.{forwarded_from}
use Rattle.history_judge.proofs.Handed.{handed_low}
use Rattle.history_judge.proofs.Numbers.{numbers_rise, same_fields}
use Rattle.history_judge.proofs.Precedence.{Precedes, precedes_mapped, precedes_pair}
use Rattle.history_judge.proofs.Received.{WasReceived, first_is_lower, was_received}
use Rattle.history_judge.proofs.Traced.{AreMapped, has_place, mapped_in_order}
use Rattle.history_judge.specs.Breaches.{IsReordered}
use Rattle.history_judge.specs.Histories.{IsImpossible, IsSameBut, got_before}
use Rattle.history_judge.specs.Values.{is_same_but}
use Rattle.history_judge.specs.declared.seen.Seen.{Seen}

-- ---- events that keep their order

-- others of their values do, either of them first
keeps_turned : (p : Plan) (q : ℕ) (d e f g : Event) → is_same_but d f ≡ true → is_same_but e g ≡ true → keeps_order p q d e ≡ keeps_order p q g f
keeps_turned p q d e f g first second =
    ap (λ a. if a then (if is_ordered (queue_of p q).kind then true else is_atomic (queue_of p q).kind && (d.flow == e.flow)) else false) level
    ∙ ap (λ a. if level_of g == level_of f then (if is_ordered (queue_of p q).kind then true else is_atomic (queue_of p q).kind && a) else false) flow
  where
    df : IsSameBut d f
    df = same_fields d f first

    eg : IsSameBut e g
    eg = same_fields e g second

    level : (level_of d == level_of e) ≡ (level_of g == level_of f)
    level = eqb_comm (level_of d) (level_of e) ∙ (λ i. (eg.priority i / 64) == (df.priority i / 64))

    flow : (d.flow == e.flow) ≡ (g.flow == f.flow)
    flow = eqb_comm d.flow e.flow ∙ (λ i. eg.flow i == df.flow i)

-- they are of one level, and their queue is ordered or atomic
record HasKept (p : Plan) (q : ℕ) (d e : Event) : Type 0 where
  level : (level_of d == level_of e) ≡ true
  kind : (is_ordered (queue_of p q).kind ≡ true) ⊎ (is_atomic (queue_of p q).kind ≡ true)

has_kept : (p : Plan) (q : ℕ) (d e : Event) → keeps_order p q d e ≡ true → HasKept p q d e
has_kept p q d e keeps = by_tests (level_of d == level_of e) (is_ordered (queue_of p q).kind) refl refl keeps
  where
    by_tests : (a b : Bool) → (level_of d == level_of e) ≡ a → is_ordered (queue_of p q).kind ≡ b → (if a then (if b then true else is_atomic (queue_of p q).kind && (d.flow == e.flow)) else false) ≡ true
        → HasKept p q d e
    by_tests false b level ordered is = absurd (false≢true is)
    by_tests true true level ordered is = record { level = level; kind = inl ordered }
    by_tests true false level ordered is = record { level = level; kind = inr (and_parts (is_atomic (queue_of p q).kind) (d.flow == e.flow) is).0 }

-- ---- their numbers

-- Where two numbers' events keep their order, what they were passed on as is accepted by rising number.
module _ (p : Plan) (T : List Step) (q m n : ℕ) (d e : Event) (lawful : Lawful p T) (at : event_at T q m ≡ Some d) (there : event_at T q n ≡ Some e) (keeps : keeps_order p q d e ≡ true)
    (order : Precedes (sources T q) m n) where
  kept : HasKept p q d e
  kept = has_kept p q d e keeps

  in_atomic : is_atomic (queue_of p q).kind ≡ true → m ≤ n
  in_atomic atomic =
      precedes_pair (λ i j. keeps_with p T q i j ≡ true → i ≤ j) (sources T q) m n order (whole.atomic q atomic)
      (ap (λ o. keeps_some p q o (event_at T q n)) at ∙ (ap (keeps_some p q (Some d)) there ∙ keeps))
    where
      whole : KeepsOrder p T
      whole = subst (KeepsOrder p) (take_all (length T) T (omega arith)) (lawful.order (length T) (omega arith))

  -- the numbers are handed out by rising number
  rises : is_ordered (queue_of p q).kind ≡ true → (i j : ℕ) → i < j → slice_get (hand T q) i ≡ Some m → slice_get (hand T q) j ≡ Some n → m < n
  unfolding hand
  rises ordered i j lt first second = handed_low p T q m n d e lawful at there kept.level ordered handed
    where
      gives : AreMapped (given_of q) T m n
      gives = mapped_in_order (given_of q) T i j m n lt first second

      handed : Precedes (hand T q) m n
      handed = precedes_mapped (given_of q) T gives.first gives.second m n gives.order gives.one gives.other

  in_ordered : is_ordered (queue_of p q).kind ≡ true → m ≤ n
  in_ordered ordered = ⊎_elim (λ lt. absurd (falls lt)) (λ le. le) (cases_lt n m)
    where
      -- both were handed out
      handed : (has m (hand T q) ≡ true) × (has n (hand T q) ≡ true)
      handed =
          precedes_pair (λ i j. (has i (hand T q) ≡ true) × (has j (hand T q) ≡ true)) (sources T q) m n order
          (λ i j c lt within. (all i c (omega (arith, lt, within)), all j c within))
        where
          all : All (λ k. has k (hand T q) ≡ true) (sources T q)
          all = (facts_of p T lawful).sources q

      falls : n < m → ⊥
      falls lt = ⊎_elim (λ less. omega (arith, lt, rises ordered i j less first.1 second.1)) (λ ge. together (omega (arith, ge, later))) (cases_lt i j)
        where
          first : (i : ℕ) × (slice_get (hand T q) i ≡ Some m)
          first = has_place m (hand T q) handed.0

          second : (j : ℕ) × (slice_get (hand T q) j ≡ Some n)
          second = has_place n (hand T q) handed.1

          i : ℕ
          i = first.0

          j : ℕ
          j = second.0

          later : i ≤ j
          later = precedes_pair (IsHandedNoLater T q) (sources T q) m n order (sources_in_hand_order p T q ordered lawful) i j first.1 second.1

          together : i ≡ j → ⊥
          together same = omega (arith, lt, same_Some m n (sym first.1 ∙ (ap (slice_get (hand T q)) same ∙ second.1)))

  sources_rise : m ≤ n
  sources_rise = ⊎_elim in_ordered in_atomic kept.kind

-- ---- two events that were passed on

-- Of two events that a queue accepts, each from one number of another queue, the lower one's number stands first among the sources.
in_order_of_sources : (T : List Step) (q r m n i j : ℕ) (d e : Event) → i < j → event_at T r i ≡ Some d → event_at T r j ≡ Some e
    → ((P rest : List Step) (c : Source) → P ++ Accept r d c ∷ rest ≡ T → c ≡ Of q m) → ((P rest : List Step) (c : Source) → P ++ Accept r e c ∷ rest ≡ T → c ≡ Of q n)
    → Precedes (sources T q) m n
unfolding accepted sources
in_order_of_sources T q r m n i j d e lt at there one other =
    precedes_mapped (source_in q) T are.first are.second m n are.order (ap (source_in q) first ∙ source_in-same r q m d) (ap (source_in q) second ∙ source_in-same r q n e)
  where
    are : AreMapped (accepted_in r) T d e
    are = mapped_in_order (accepted_in r) T i j d e lt at there

    within : (are.order.front ++ are.first ∷ are.order.middle) ++ are.second ∷ are.order.rest ≡ T
    within = sym are.order.same

    first : are.first ≡ Accept r d (Of q m)
    first =
        let accept : (c : Source) × (are.first ≡ Accept r d c) = accepted_in_is r are.first d are.one in
        accept.1
        ∙ ap (Accept r d)
        (one are.order.front (are.order.middle ++ are.second ∷ are.order.rest) accept.0
        (ap (λ s. are.order.front ++ s ∷ (are.order.middle ++ are.second ∷ are.order.rest)) (sym accept.1)
        ∙ (sym (append_assoc are.order.front (are.first ∷ are.order.middle) (are.second ∷ are.order.rest)) ∙ within)))

    second : are.second ≡ Accept r e (Of q n)
    second =
        let accept : (c : Source) × (are.second ≡ Accept r e c) = accepted_in_is r are.second e are.other in
        accept.1
        ∙ ap (Accept r e)
        (other (are.order.front ++ are.first ∷ are.order.middle) are.order.rest accept.0
        (ap (λ s. (are.order.front ++ are.first ∷ are.order.middle) ++ s ∷ are.order.rest) (sym accept.1) ∙ within))

pub reordered_fits_none : (p : Plan) (hs : List Seen) (i j : ℕ) → IsReordered p hs i j → IsImpossible p hs
reordered_fits_none p hs i j b moves v clock x =
    omega (
      arith,
      numbers_rise p hs moves v clock x b.one_at b.other_at b.one b.other b.ports b.sender b.later d.queue one.pair.1 other.pair.1 one.event other.event one.accepted one.value there other.value,
      sources_rise p v.log d.queue other.pair.1 one.pair.1 other.event one.event world.lawful there one.accepted keeps order,
    )
  where
    d : Event
    d = b.one.reply.event

    e : Event
    e = b.other.reply.event

    world : IsConsistent p v
    world = consistent_end p empty v moves x.run (consistent_none p)

    one : WasReceived hs moves v clock b.one_at b.one.getter d
    one = was_received p hs moves v clock x b.one_at b.one

    other : WasReceived hs moves v clock b.other_at b.other.getter e
    other = was_received p hs moves v clock x b.other_at b.other

    there : event_at v.log d.queue other.pair.1 ≡ Some other.event
    there = ap (λ q. event_at v.log q other.pair.1) b.kept.queue ∙ other.accepted

    keeps : keeps_order p d.queue other.event one.event ≡ true
    keeps = sym (keeps_turned p d.queue d e one.event other.event one.value other.value) ∙ b.kept.kept

    -- what they were forwarded as
    f : Event
    f = b.one_on.onward.reply.event

    g : Event
    g = b.other_on.onward.reply.event

    one_on : WasReceived hs moves v clock i b.one_on.onward.getter f
    one_on = was_received p hs moves v clock x i b.one_on.onward

    other_on : WasReceived hs moves v clock j b.other_on.onward.getter g
    other_on = was_received p hs moves v clock x j b.other_on.onward

    lower : other_on.pair.1 < one_on.pair.1
    lower = first_is_lower p hs moves v clock x i j b.one_on.onward.getter b.other_on.onward.getter f g b.other_on.onward.dequeued one_on other_on b.same b.before

    accepted_there : event_at v.log f.queue other_on.pair.1 ≡ Some other_on.event
    accepted_there = ap (λ q. event_at v.log q other_on.pair.1) b.same.queue ∙ other_on.accepted

    from_one : (P rest : List Step) (c : Source) → P ++ Accept f.queue one_on.event c ∷ rest ≡ v.log → c ≡ Of d.queue one.pair.1
    from_one P rest c whole =
        forwarded_from p hs moves v clock x b.ports b.one_at i b.one_on one.pair
        (subst (λ (s : Seen). slice_get (out v.log s.port) (got_before hs s.port b.one_at) ≡ Some one.pair) (same_Some b.one.getter b.one_on.answer.holder (sym b.one.dequeued ∙ b.one_on.answer.taken)) one.received)
        P rest f.queue one_on.event c whole one_on.value
        ∙ ap (λ q. Of q one.pair.1) one.named

    from_other : (P rest : List Step) (c : Source) → P ++ Accept f.queue other_on.event c ∷ rest ≡ v.log → c ≡ Of d.queue other.pair.1
    from_other P rest c whole =
        forwarded_from p hs moves v clock x b.ports b.other_at j b.other_on other.pair
        (subst (λ (s : Seen). slice_get (out v.log s.port) (got_before hs s.port b.other_at) ≡ Some other.pair) (same_Some b.other.getter b.other_on.answer.holder (sym b.other.dequeued ∙ b.other_on.answer.taken)) other.received)
        P rest f.queue other_on.event c whole other_on.value
        ∙ ap (λ q. Of q other.pair.1) (other.named ∙ sym b.kept.queue)

    order : Precedes (sources v.log d.queue) other.pair.1 one.pair.1
    order =
        in_order_of_sources v.log d.queue f.queue other.pair.1 one.pair.1 other_on.pair.1 one_on.pair.1 other_on.event one_on.event lower accepted_there one_on.accepted from_other from_one
