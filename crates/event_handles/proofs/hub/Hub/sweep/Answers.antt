use Rattle.std.proofs.Common.{◌≡◌, ◌+◌, refl, ap, subst, inl, w64, to_z, rules}
use Rattle.std.proofs.lemmas.Int.{to_z_pos}
use Rattle.std.proofs.lemmas.Option.{same_Some}
use Rattle.event_handles.specs.Hands.{MaySweep}
use Rattle.event_handles.specs.Numbers.{no_device}
use Rattle.event_handles.specs.Sweeps.{AreSentBy}
use Rattle.event_handles.specs.declared.sweep_counts.SweepCounts.{SweepCounts}
use Rattle.event_handles.proofs.Changed.{while_running}
use Rattle.event_handles.proofs.Sweeps.{answer_fits, last_after, sent_after}
use Rattle.event_handles.proofs.hub.Hub.sweep.Goals as goal

pub overflow_add-count : goal.overflow_add-count
overflow_add-count c =
    let few = answer_fits c.in-Ok.swept _ _ _ _ c.in-Ok.ensures.sweeps c.log-log.result.now c.log-log.ensures in search rules

pub overflow_cast-count : goal.overflow_cast-count
overflow_cast-count c = record { sfits = answer_fits c.in-Ok.swept _ _ _ _ c.in-Ok.ensures.sweeps c.log-log.result.now c.log-log.ensures }

pub invariant_of-self-2-clause-are_sent : goal.invariant_of-self-2-clause-are_sent
invariant_of-self-2-clause-are_sent c =
    let sent = c.args.self.now.are_sent c.in-Some.device c.in-Some.is in
    let kept = sent_after c.in-Ok.swept c.in-Some.device c.sweep.new.self c.in-Ok.ensures.sweeps c.args.self.now.sweeps c.count.new.self sent c.count.ensures.noted in
    λ x same. subst (λ r. AreSentBy r c.count.new.self.sent) (same_Some _ x same) kept

pub returns : goal.returns
returns c =
    let n = c.in-Ok.swept in
    let before = c.args.self.now.sweeps in
    let answer = to_z w64 (n.taken + n.given) in
    let sent = c.args.self.now.are_sent c.in-Some.device c.in-Some.is in
    record {
      device = while_running (MaySweep answer before c.count.new.self) ((answer ≡ no_device) × (c.count.new.self ≡ before)) c.args.self.now.device _ c.in-Some.device c.sweep.new.self c.in-Some.is refl
          (inl (record {
            swept = n;
            sweeps = record { sweeps = c.in-Ok.ensures.sweeps; others = c.sweep.ensures.others };
            answered = to_z_pos w64 (n.taken + n.given) (answer_fits n _ _ _ _ c.in-Ok.ensures.sweeps c.log-log.result.now c.log-log.ensures);
            counted = c.count.ensures.counted;
            last = last_after n c.in-Some.device c.sweep.new.self c.in-Ok.ensures.sweeps before c.count.new.self sent (ap (λ (d : SweepCounts). d.gave) c.count.ensures.counted) c.count.ensures.noted;
          }));
      stopped = refl;
      why = refl;
    }
