-- Events that are submitted in several goes.
use Rattle.std.proofs.Common.{◌≡◌, ℕ, ◌+◌, ◌-◌, ◌≤◌, List, [], ◌∷◌, ◌++◌, length, take, drop, Option, sym, ap, subst, arith}
use Rattle.std.proofs.lemmas.List.{length-drop, take_all}
use Rattle.std.proofs.Math.Seq.{take-add}
use Rattle.event_ports.proofs.Refusing.{rests_more, submits_after}
use Rattle.event_ports.specs.Lanes.{Hand, Rests, SubmitsAll, SubmitsTo, lane_for, reply_of}
use Rattle.event_ports.specs.declared.lane.Lane.{Lane}
use Rattle.evt_types.specs.declared.event.Event.{Event}

-- after calls that submitted nothing
all_after : (es : List Event) (h k m : Hand) → Rests h k → SubmitsAll es k m → SubmitsAll es h m
all_after [] h k m r s = rests_more h k m r s
all_after (e ∷ es) h k m r s = (
  s.0,
  subst (λ (l : Option Lane). SubmitsTo l (reply_of e) h s.0) (ap (lane_for e.op) r.holding) (submits_after (lane_for e.op k.holding) (reply_of e) h k s.0 r s.1),
  s.2,
)

-- and before such calls
pub all_before : (es : List Event) (h k m : Hand) → SubmitsAll es h k → Rests k m → SubmitsAll es h m
all_before [] h k m s r = rests_more h k m s r
all_before (e ∷ es) h k m s r = (s.0, s.1, all_before es s.0 k m s.2 r)

all_then : (xs ys : List Event) (h k m : Hand) → SubmitsAll xs h k → SubmitsAll ys k m → SubmitsAll (xs ++ ys) h m
all_then [] ys h k m a b = all_after ys h k m a b
all_then (x ∷ xs) ys h k m a b = (a.0, a.1, all_then xs ys a.0 k m a.2 b)

-- the first of these events, and then the next ones
pub front_then : (es : List Event) (i n : ℕ) (h k m : Hand) → SubmitsAll (take i es) h k → SubmitsAll (take n (drop i es)) k m → SubmitsAll (take (i + n) es) h m
front_then es i n h k m a b = subst (λ (xs : List Event). SubmitsAll xs h m) (sym (take-add i n es)) (all_then (take i es) (take n (drop i es)) h k m a b)

-- A burst of what is left of these events: its first n, and all of them.
pub burst_then : (es : List Event) (i n : ℕ) (h k m : Hand) → i ≤ length es → n ≤ length (take (length es - i) (drop i es)) → SubmitsAll (take i es) h k
    → SubmitsAll (take n (take (length es - i) (drop i es))) k m → (i + n ≤ length es) × SubmitsAll (take (i + n) es) h m
burst_then es i n h k m there few a b =
    let whole : take (length es - i) (drop i es) ≡ drop i es = take_all (length es - i) (drop i es) (omega (arith, length-drop i es)) in
    (omega (arith, there, few, ap length whole, length-drop i es), front_then es i n h k m a (subst (λ (xs : List Event). SubmitsAll (take n xs) k m) whole b))

pub burst_last : (es : List Event) (i n : ℕ) (h m : Hand) → i ≤ length es → n ≡ length (take (length es - i) (drop i es)) → SubmitsAll (take (i + n) es) h m → SubmitsAll es h m
burst_last es i n h m there all s =
    let whole : take (length es - i) (drop i es) ≡ drop i es = take_all (length es - i) (drop i es) (omega (arith, length-drop i es)) in
    subst (λ (xs : List Event). SubmitsAll xs h m) (take_all (i + n) es (omega (arith, there, all, ap length whole, length-drop i es))) s
