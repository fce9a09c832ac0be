use Rattle.std.proofs.Common.{◌≡◌, add-one, arith, refl, rules, subst, sym, suc, ◌∙◌, inl}
use Rattle.event_device.specs.Lent.{IsBusy, SweepsOn}
use Rattle.event_device.proofs.running.Device.sweep_all.Goals as goal

pub returns-in_err-sweep-clause-memory : goal.returns-in_err-sweep-clause-memory
returns-in_err-sweep-clause-memory g c =
    let was = c.loop-swept.invariant in
    let same : c.sweep.new.self ≡ c.loop-swept.self = search rules in
    λ failed. record {
      count = c.loop-swept._swept;
      few = omega (arith, c.loop-swept-test.true);
      sweeps = subst (SweepsOn c.loop-swept._swept c.args.self.now) (sym same) was.sweeps;
      busy = subst (IsBusy c.loop-swept._swept) (sym same) was.busy;
    }

pub returns-then-inside-eq0-clause-sweeps : goal.returns-then-inside-eq0-clause-sweeps
returns-then-inside-eq0-clause-sweeps g c =
    let was = c.loop-swept.invariant in
    let sweeps : SweepsOn (suc c.loop-swept._swept) c.args.self.now c.sweep.new.self =
    (c.loop-swept.self, c.in_ok-sweep.field-0, was.sweeps, was.busy, record { sweeps = c.in_ok-sweep.ensures.sweeps; others = c.sweep.ensures.others }) in
    record { count = suc c.loop-swept._swept; few = omega (arith, c.loop-swept-test.true); sweeps = sweeps; left_is = sym c.if-inside-eq0.true ∙ c.inside.ensures.value; ends = inl refl }

pub loop-swept-preserved : goal.loop-swept-preserved
loop-swept-preserved g c =
    let was = c.loop-swept.invariant in
    let sweeps : SweepsOn (suc c.loop-swept._swept) c.args.self.now c.sweep.new.self =
    (c.loop-swept.self, c.in_ok-sweep.field-0, was.sweeps, was.busy, record { sweeps = c.in_ok-sweep.ensures.sweeps; others = c.sweep.ensures.others }) in
    let busy : IsBusy (suc c.loop-swept._swept) c.sweep.new.self = λ none. c.if-inside-eq0.false (c.inside.ensures.value ∙ none) in
    record { sweeps = rw add-one sweeps; busy = rw add-one busy; device = c.sweep.ensures.device ∙ was.device }
