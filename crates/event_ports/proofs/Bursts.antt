-- Several events are submitted, one after the other.
use Rattle.std.proofs.Common.{◌≡◌, ℕ, zero, suc, ◌+◌, ◌<◌, length, get_or, List, [], ◌∷◌, ◌++◌, take, slice_get, Option, Some, refl, sym, ap, subst, arith}
use Rattle.std.proofs.lemmas.List.{take-map}
use Rattle.std.proofs.lemmas.List.Elements.{All-push}
use Rattle.lists.proofs.Parts.{take_next}
use Rattle.evt_types.specs.declared.event.Event.{Event}
use Rattle.evt_types.specs.declared.event.Reply.{Reply}
use Rattle.event_ports.specs.declared.lane.Lane.{Lane}
use Rattle.event_ports.specs.Lanes.{Hand, Rests, SubmitsTo, SubmitsAll, lane_for, reply_of}
use Rattle.event_ports.specs.declared.desk.Desk.{Desk}
use Rattle.event_ports.specs.Desks.{Enqueues, EnqueuesAll, events_of}
use Rattle.event_ports.specs.Queues.{AllNameQueues, NamesQueue}
use Rattle.event_ports.proofs.Refusing.{submits_after}

pub rests_same : (h : Hand) → Rests h h
rests_same h = record { said = λ l. refl; got = λ l. refl; holding = refl }

-- one event more
pub all_more : (es : List Event) (e : Event) (h k m : Hand) → SubmitsAll es h k → SubmitsTo (lane_for e.op k.holding) (reply_of e) k m → SubmitsAll (es ++ e ∷ []) h m
all_more [] e h k m a b =
    let To : Option Lane → Type 0 = λ o. SubmitsTo o (reply_of e) h m in
    (m, subst To (ap (lane_for e.op) a.holding) (submits_after (lane_for e.op k.holding) (reply_of e) h k m a b), rests_same m)
all_more (x ∷ es) e h k m a b = (a.0, a.1, all_more es e a.0 k m a.2 b)

pub taken_more : (es : List Event) (n : ℕ) (e : Event) (h k m : Hand) → slice_get es n ≡ Some e → SubmitsAll (take n es) h k → SubmitsTo (lane_for e.op k.holding) (reply_of e) k m
    → SubmitsAll (take (n + 1) es) h m
taken_more es n e h k m at a b =
    subst (λ (xs : List Event). SubmitsAll xs h m) (sym (take_next es n e at)) (all_more (take n es) e h k m a b)

pub read_next : {X : Type 0} (es : List X) (n : ℕ) (e : X) → n < length es → e ≡ get_or es n e → slice_get es n ≡ Some e
read_next [] n e lt same = absurd (omega (arith, lt))
read_next (x ∷ es) zero e lt same = ap Some (sym same)
read_next (x ∷ es) (suc n) e lt same = read_next es n e (omega (arith, lt)) same

-- one more was taken
chain_more : (es : List Event) (e : Event) (p q r : Desk) → EnqueuesAll es p q → Enqueues e q r → EnqueuesAll (es ++ e ∷ []) p r
chain_more [] e p q r same one = (r, subst (λ (d : Desk). Enqueues e d r) same one, refl)
chain_more (x ∷ es) e p q r a one = (a.0, a.1, chain_more es e a.0 q r a.2 one)

pub chain_taken : (es : List Event) (n : ℕ) (e : Event) (p q r : Desk) → slice_get es n ≡ Some e → EnqueuesAll (take n es) p q → Enqueues e q r → EnqueuesAll (take (n + 1) es) p r
chain_taken es n e p q r at a one =
    subst (λ (xs : List Event). EnqueuesAll xs p r) (sym (take_next es n e at)) (chain_more (take n es) e p q r a one)

-- the first of what replies bring
pub events_taken : (rs : List Reply) (n : ℕ) (p q : Desk) → EnqueuesAll (events_of (take n rs)) p q → EnqueuesAll (take n (events_of rs)) p q
events_taken rs n p q chain = subst (λ (es : List Event). EnqueuesAll es p q) (sym (take-map (λ (r : Reply). r.event) n rs)) chain

-- and names a queue
pub names_more : (queues : ℕ) (es : List Event) (n : ℕ) (e : Event) → slice_get es n ≡ Some e → AllNameQueues queues (take n es) → NamesQueue queues e → AllNameQueues queues (take (n + 1) es)
names_more queues es n e at names one = subst (AllNameQueues queues) (sym (take_next es n e at)) (All-push (NamesQueue queues) (take n es) e names one)
