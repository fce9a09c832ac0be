-- What a port's own calls leave of its count of dequeued events, and what its thread's looks found.
use Rattle.std.proofs.Common.{◌≡◌, ℕ, zero, suc, ◌+◌, ◌++◌, List, [], length, Option, Some, None, refl, sym, ap, subst, ◌∙◌, arith}
use Rattle.std.proofs.lemmas.List.{length-append}
use Rattle.event_answers.specs.declared.answer.Refused.{Refused}
use Rattle.event_answers.specs.declared.answer.Refused.TheVariants.{Stopped, BadQueue, NothingHeld, Backpressure, Raced, Full, TooMany}
use Rattle.event_ports.specs.Counts.{after_burst, after_enqueues, after_refused, after_taken, no_counts, plus}
use Rattle.event_ports.specs.Ports.{counts_of, links}
use Rattle.event_ports.specs.declared.lane.Lane.TheVariants.{Own}
use Rattle.event_ports.specs.declared.counts.PortCounts.{PortCounts}
use Rattle.event_ports.specs.declared.port.Port.{Port}
use Rattle.event_device.specs.Device.{PortSite, site_of}
use Rattle.evt_types.specs.declared.event.Delivery.{Delivery}
use Rattle.pipeline_threads.specs.Ports.{HasCounted, IsIdle, received_by}
use Rattle.run_counts.proofs.Looking.{looks_more}
use Rattle.run_counts.specs.Looking.{HasLooked, looked}
use Rattle.run_counts.specs.declared.looks.Looks.{Looks}

enqueues_dequeued : (n : ℕ) (c : PortCounts) → (after_enqueues n c).dequeued ≡ c.dequeued
enqueues_dequeued zero c = refl
enqueues_dequeued (suc n) c = enqueues_dequeued n (after_taken 1 c)

refused_dequeued : (why : Refused) (c : PortCounts) → (after_refused why c).dequeued ≡ c.dequeued
refused_dequeued Stopped c = refl
refused_dequeued BadQueue c = refl
refused_dequeued NothingHeld c = refl
refused_dequeued (Backpressure free) c = refl
refused_dequeued (Raced first second) c = refl
refused_dequeued Full c = refl
refused_dequeued TooMany c = refl

after_dequeued : (n : ℕ) (end : Option Refused) (c : PortCounts) → (after_burst n end c).dequeued ≡ c.dequeued
after_dequeued n None c = enqueues_dequeued n c
after_dequeued n (Some why) c = refused_dequeued why (after_enqueues n c) ∙ enqueues_dequeued n c

-- a burst that is enqueued
pub burst_dequeued : (n : ℕ) (end : Option Refused) (before after : PortCounts) → after ≡ after_burst n end before → after.dequeued ≡ before.dequeued
burst_dequeued n end before after is = ap (λ (c : PortCounts). c.dequeued) is ∙ after_dequeued n end before

-- one look more
pub look_more : (between after : PortCounts) (l m : Looks) → HasLooked no_counts between l → (came : ℕ) × (m ≡ looked came l) × (after.dequeued ≡ plus between.dequeued came) → HasLooked no_counts after m
look_more between after l m h look = subst (HasLooked no_counts after) (sym look.1) (looks_more no_counts between after look.0 l h look.2)

-- ---- what a port received from its own lane

-- an idle port counted nothing, and received nothing
pub idle_counted : (p : Port) → IsIdle p → HasCounted p
idle_counted p idle none = ap (λ (c : PortCounts). c.dequeued) idle.1 ∙ sym (ap (λ (ds : List Delivery). plus 0 (length ds)) (idle.0.got Own))

add_up : (before came n now all : ℕ) → now ≡ plus before came → before ≡ plus 0 n → all ≡ n + came → now ≡ plus 0 all
add_up before came n now all now_is before_is all_is = omega (arith, now_is, before_is, all_is)

-- it counts what it receives
pub counted_more : (p q : Port) (ds : List Delivery) → site_of q ≡ site_of p → HasCounted p → (links p ≡ [] → received_by q ≡ received_by p ++ ds)
    → (counts_of q).dequeued ≡ plus (counts_of p).dequeued (length ds) → HasCounted q
counted_more p q ds site was got dequeued none =
    let alone : links p ≡ [] = sym (ap (λ (s : PortSite). s.links) site) ∙ none in
    add_up (counts_of p).dequeued (length ds) (length (received_by p)) (counts_of q).dequeued (length (received_by q)) dequeued (was alone)
    (ap length (got alone) ∙ length-append (received_by p) ds)
