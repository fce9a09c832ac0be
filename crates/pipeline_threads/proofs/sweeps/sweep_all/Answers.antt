use Rattle.std.proofs.Common.{◌≡◌, ◌∙◌, ℕ, suc, refl, ap, arith}
use Rattle.event_answers.specs.declared.answer.Swept.{Swept}
use Rattle.event_device.specs.Lent.{Keeps, SweepsOnce}
use Rattle.event_device.specs.Parts.{Parts}
use Rattle.event_ports.specs.Counts.{plus}
use Rattle.pipeline_threads.specs.Run.{SweepsMany}
use Rattle.pipeline_threads.proofs.sweeps.sweep_all.Goals as goal

-- so many sweeps, which are counted
abbrev Counted : ℕ → Parts → Parts → Type 0
Counted n r q = (k : ℕ) × (n ≡ plus 0 k) × SweepsMany k r q

pub loop-init : goal.loop-init
loop-init g c = (tt, tt, refl, refl, (0, refl, refl))

one_more : (k n m : ℕ) → n ≡ plus 0 k → m ≡ plus n 1 → m ≡ plus 0 (suc k)
one_more k n m is more = omega (arith, is, more)

counted_more : (n m : ℕ) (r between q : Parts) (swept : Swept) → Counted n r between → m ≡ plus n 1 → SweepsOnce swept between q → Counted m r q
counted_more n m r between q swept was more once = (suc was.0, one_more was.0 n m was.1 more, (between, swept, was.2, once))

kept : (r between q : Parts) → Keeps r between → Keeps between q → Keeps r q
kept r between q first next = next ∙ ap (λ (x : Parts). record x { recorded = q.recorded }) first

pub returns-then-inside-eq0-clause-sweeps : goal.returns-then-inside-eq0-clause-sweeps
returns-then-inside-eq0-clause-sweeps g c =
    counted_more c.loop.sweeps c.saturating_add-sweeps.result c.args.device.now c.loop.device c.sweep.new.self c.in_ok-swept.swept c.loop.invariant.4 c.saturating_add-sweeps.ensures
    record { sweeps = c.in_ok-swept.ensures.sweeps; others = c.sweep.ensures.others }

pub loop-preserved-then-swept-eq0-2 : goal.loop-preserved-then-swept-eq0-2
loop-preserved-then-swept-eq0-2 g c = (
  tt,
  tt,
  kept c.args.device.now c.loop.device c.sweep.new.self c.loop.invariant.2 c.sweep.ensures.others,
  c.sweep.ensures.device ∙ c.loop.invariant.3,
  counted_more c.loop.sweeps c.saturating_add-sweeps.result c.args.device.now c.loop.device c.sweep.new.self c.in_ok-swept.swept c.loop.invariant.4 c.saturating_add-sweeps.ensures
      record { sweeps = c.in_ok-swept.ensures.sweeps; others = c.sweep.ensures.others },
)

pub loop-preserved : goal.loop-preserved
loop-preserved g c = (
  tt,
  tt,
  kept c.args.device.now c.loop.device c.sweep.new.self c.loop.invariant.2 c.sweep.ensures.others,
  c.sweep.ensures.device ∙ c.loop.invariant.3,
  counted_more c.loop.sweeps c.saturating_add-sweeps.result c.args.device.now c.loop.device c.sweep.new.self c.in_ok-swept.swept c.loop.invariant.4 c.saturating_add-sweeps.ensures
      record { sweeps = c.in_ok-swept.ensures.sweeps; others = c.sweep.ensures.others },
)
