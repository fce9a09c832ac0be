-- A test of a transcript, step by step: what passes it is lawful. It looks at the queues and lanes of the plan alone.
use Rattle.std.specs.Prelude.{ℕ, Bool, true, false, not, ◌&&◌, ◌||◌, List, [], ◌∷◌, ◌++◌, ◌==◌, nat_lt, nat_le, length, Option, Some, None, slice_get}
use Rattle.std.specs.List.{list_all, list_any}
use Rattle.evt_types.specs.Plan.{Plan, lanes, queues, lanes_of, depth_of, bound_of, queue_of, slot_of, serves, is_atomic, is_ordered}
use Rattle.lists.specs.Lists.{has}
use Rattle.transcripts.specs.Transcript.{unanswered, unanswered_slots, Held, hand, sources, taken, forwards, extras, kept, waiting, open_of, inside, is_answered, has_shut, is_from_of}
use Rattle.lists.specs.Lists.{upto}
use Rattle.transcripts.specs.Lawful.{keeps_order, keeps_with}
use Rattle.evt_types.specs.Operation.{is_new_op, is_more_op, passes_on}
use Rattle.evt_types.specs.Word.{op_code}
use Rattle.evt_types.specs.declared.event.Event.{Event}
use Rattle.evt_types.specs.declared.event.Numbered.{Numbered}
use Rattle.evt_types.specs.declared.event.Op.{Op}
use Rattle.evt_types.specs.declared.event.Op.TheVariants as ops
use Rattle.evt_types.specs.Limits.{most_extras}
use Rattle.evt_types.specs.declared.step.Outcome.{Outcome}
use Rattle.evt_types.specs.declared.step.Outcome.TheVariants.{Forwarded, Released}
use Rattle.evt_types.specs.declared.step.Source.TheVariants.{New, Of}
use Rattle.evt_types.specs.declared.step.Step.{Step}
use Rattle.evt_types.specs.declared.step.Step.TheVariants.{Accept, Give, Done, More, Turned, Bounced, Shut}

-- whether all of these tests pass
abbrev pub pass : List Bool → Bool
pass tests = list_all (λ t. t) tests

-- where the first test passes the second does
abbrev pub implies : Bool → Bool → Bool
implies true t = t
implies false t = true

abbrev pub is_forward_op : Op → Bool
is_forward_op ops.New = false
is_forward_op ops.Forward = true
is_forward_op ops.Release = false
is_forward_op ops.ForwardMore = false

-- whether two events have the same fields
abbrev pub same_event_tests : Event → Event → List Bool
same_event_tests d e =
    (d.flow == e.flow) ∷ (d.sub_type == e.sub_type) ∷ (d.event_type == e.event_type) ∷ (op_code d.op == op_code e.op) ∷ (d.queue == e.queue)
    ∷ (d.priority == e.priority) ∷ (d.impl_opaque == e.impl_opaque) ∷ (d.payload == e.payload) ∷ []

abbrev pub is_some_of : Event → Option Event → Bool
is_some_of e None = false
is_some_of e (Some d) = pass (same_event_tests d e)

-- ---- the form of a step

abbrev pub outcome_tests : Plan → Outcome → List Bool
outcome_tests p (Forwarded e) = nat_lt e.queue (length p.queues) ∷ is_forward_op e.op ∷ []
outcome_tests p Released = []

abbrev pub form_tests : Plan → Step → List Bool
form_tests p (Accept q e (New l)) = nat_lt q (length p.queues) ∷ (e.queue == q) ∷ is_new_op e.op ∷ nat_lt l (length p.ports) ∷ []
form_tests p (Accept q e (Of r n)) = nat_lt q (length p.queues) ∷ (e.queue == q) ∷ passes_on e.op ∷ nat_lt r (length p.queues) ∷ []
form_tests p (Give l q n) = nat_lt l (lanes_of p) ∷ nat_lt q (length p.queues) ∷ []
form_tests p (Done l o) = nat_lt l (lanes_of p) ∷ outcome_tests p o
form_tests p (More l e) = nat_lt l (lanes_of p) ∷ nat_lt e.queue (length p.queues) ∷ is_more_op e.op ∷ []
form_tests p (Turned l e) = nat_lt e.queue (length p.queues) ∷ is_new_op e.op ∷ nat_lt l (length p.ports) ∷ []
form_tests p (Bounced l) = nat_lt l (lanes_of p) ∷ []
form_tests p Shut = []

-- ---- what a step needs of those before it

-- whether the kept event waits for one that was handed out before it, or for its own
abbrev pub is_waiting_for : Plan → List Step → ℕ → ℕ × Event → Bool
is_waiting_for p P q x = is_ordered (queue_of p q).kind && list_any (λ m. not (is_answered P q m)) (upto x.0 (hand P q))

abbrev pub is_settled : Plan → List Step → Bool
is_settled p P = list_all (λ q. list_all (is_waiting_for p P q) (kept P q)) (queues p)

abbrev pub of_tests : Plan → List Step → Event → ℕ → ℕ → List Bool
of_tests p P e r n =
    is_some_of e (slice_get (forwards P r n) (length (taken P r n))) ∷ implies (is_ordered (queue_of p r).kind) (list_all (λ m. has m (upto n (hand P r))) (sources P r))
    ∷ implies (is_ordered (queue_of p r).kind) (list_all (is_answered P r) (upto n (hand P r)))
    ∷ implies (is_atomic (queue_of p r).kind) (list_all (λ m. implies (keeps_with p P r m n) (nat_le m n)) (sources P r)) ∷ []

-- whether the waiting event v lets the event w go before it
abbrev pub lets_pass : Plan → ℕ → Numbered → Numbered → Bool
lets_pass p q w v = implies (nat_lt v.number w.number) (not (keeps_order p q v.event w.event))

-- whether the lane m has nothing of the slot, or is the lane l itself
abbrev pub is_other_slot : ℕ → ℕ → Held → Bool
is_other_slot q slot y = implies (y.queue == q) (not (y.slot == slot))

abbrev pub leaves_slot : Plan → List Step → ℕ → ℕ → ℕ → ℕ → Bool
leaves_slot p P l q slot m = (m == l) || list_all (is_other_slot q slot) (unanswered_slots p P m)

abbrev pub give_tests : Plan → List Step → ℕ → ℕ → ℕ → Numbered → List Bool
give_tests p P l q n w =
    (w.number == n) ∷ serves p l q (slot_of p q w.event.flow) ∷ nat_lt (length (unanswered P l)) (depth_of p l)
    ∷ implies (is_ordered (queue_of p q).kind) (nat_lt (length (open_of P q)) (queue_of p q).order) ∷ list_all (lets_pass p q w) (waiting P q)
    ∷ implies (is_atomic (queue_of p q).kind) (list_all (leaves_slot p P l q (slot_of p q w.event.flow)) (lanes p)) ∷ []

abbrev pub need_tests : Plan → List Step → Step → List Bool
need_tests p P (Accept q e (New l)) = not (has_shut P) ∷ nat_lt (inside p P) (bound_of p) ∷ []
need_tests p P (Accept q e (Of r n)) = of_tests p P e r n
need_tests p P (Give l q n) = list_any (λ (w : Numbered). pass (give_tests p P l q n w)) (waiting P q) ∷ []
need_tests p P (Done l o) = nat_lt 0 (length (unanswered P l)) ∷ []
need_tests p P (More l e) =
    nat_lt 0 (length (unanswered P l)) ∷ nat_lt (length (extras P l)) most_extras ∷ nat_lt (inside p P) (bound_of p) ∷ []
need_tests p P (Turned l e) = has_shut P ∷ []
need_tests p P (Bounced l) = []
need_tests p P Shut = not (has_shut P) ∷ []

-- ---- the test

abbrev pub step_tests : Plan → List Step → Step → List Bool
step_tests p P s = pass (form_tests p s) ∷ (is_from_of s || is_settled p P) ∷ pass (need_tests p P s) ∷ []

abbrev pub is_allowed_after : Plan → List Step → List Step → Bool
is_allowed_after p past [] = is_settled p past
is_allowed_after p past (s ∷ rest) = pass (step_tests p past s) && is_allowed_after p (past ++ s ∷ []) rest

abbrev pub is_lawful : Plan → List Step → Bool
is_lawful p T = is_allowed_after p [] T
