-- Enqueues of single events, counted one after the other and all at once.
use Rattle.std.proofs.Common.{◌≡◌, ℕ, zero, suc, ◌-◌, ◌≤◌, ◌^◌, refl, sym, ap, ◌∙◌, arith}
use Rattle.event_answers.specs.declared.answer.Refused.{Refused}
use Rattle.event_answers.specs.declared.answer.Refused.TheVariants.{Stopped, BadQueue, NothingHeld, Backpressure, Raced, Full, TooMany}
use Rattle.event_ports.specs.declared.counts.PortCounts.{PortCounts}
use Rattle.event_ports.specs.Counts.{plus, after_enqueues, after_refused, after_taken}

-- the count of what was taken is this
abbrev pub with_taken : PortCounts → ℕ → PortCounts
with_taken c k = record c { enqueued = k }

-- none more, and one more before the others
plus_none : (k : ℕ) → k ≤ 2 ^ 64 - 1 → plus k 0 ≡ k
plus_none k fits = omega arith

plus_one : (k n : ℕ) → plus (plus k 1) n ≡ plus k (suc n)
plus_one k n = omega arith

plus_within : (k n : ℕ) → plus k n ≤ 2 ^ 64 - 1
plus_within k n = omega arith

pub each_taken : (n : ℕ) (c : PortCounts) → c.enqueued ≤ 2 ^ 64 - 1 → after_enqueues n c ≡ after_taken n c
each_taken zero c fits = ap (with_taken c) (sym (plus_none c.enqueued fits))
each_taken (suc n) c fits = each_taken n (after_taken 1 c) (plus_within c.enqueued 1) ∙ ap (with_taken c) (plus_one c.enqueued n)

-- a refusal is no enqueue
pub refused_none : (e : Refused) (c : PortCounts) → (after_refused e c).enqueued ≡ c.enqueued
refused_none Stopped c = refl
refused_none BadQueue c = refl
refused_none NothingHeld c = refl
refused_none (Backpressure free) c = refl
refused_none (Raced first second) c = refl
refused_none Full c = refl
refused_none TooMany c = refl
