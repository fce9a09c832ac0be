use Rattle.std.proofs.Common.{◌≡◌, ℕ, ◌-◌, List, [], ◌∙◌, Result, Ok, Err, length, ap, rules, arith, sym, subst}
use Rattle.std.specs.Prelude.{OnOk}
use Rattle.std.proofs.lemmas.Result.{on_ok_weaker}
use Rattle.event_ports.specs.declared.port.Port.{Port}
use Rattle.pipeline_threads.proofs.Runs.{idle_others, idle_port, none_away, none_run, one_more, still_empty, works_more}
use Rattle.pipeline_threads.specs.Ports.{Returns}
use Rattle.event_device.specs.Parts.{Parts}
use Rattle.run_counts.specs.declared.looks.PortWork.{PortWork}
use Rattle.pipeline_threads.specs.Run.{ArePortWorks, HasRun}
use Rattle.pipeline_threads.specs.declared.promise.Returned.{Returned}
use Rattle.pipeline_threads.proofs.threads.+run_ports.Goals as goal

pub returns-then-count-eq0-clause-ran : goal.returns-then-count-eq0-clause-ran
returns-then-count-eq0-clause-ran g t c =
    let swept = c.sweep_all-swept in
    subst (λ n. OnOk swept.result (HasRun c.args.actions.now c.args.trace.now n c.args.device.now c.shut.new.self)) (sym c.if-count-eq0.true)
    (on_ok_weaker swept.result (none_run c.args.actions.now c.args.trace.now c.args.device.now swept.new.device c.shut.new.self c.shut.result swept.ensures.others swept.ensures.device c.shut.ensures.shut)
    swept.ensures.done)

on_ok_of : {A E P : Type 0} (r : Result A E) → P → OnOk r P
on_ok_of (Ok x) p = p
on_ok_of (Err e) p = tt

none_work : (count : ℕ) (r : Parts) (works : List PortWork) → works ≡ [] → count ≡ 0 → ArePortWorks count r works
none_work count r works none zero = record { count_is = ap length none ∙ sym zero; each = λ n d port low. absurd (omega (arith, low, zero)) }

pub returns-then-count-eq0-clause-works : goal.returns-then-count-eq0-clause-works
returns-then-count-eq0-clause-works g t c = on_ok_of c.sweep_all-swept.result (none_work c.args.count c.shut.new.self c.args.works.now.items c.requires.none c.if-count-eq0.true)

pub unreachable-requires : goal.unreachable-requires
unreachable-requires g t c = none_away c.args.count (c.args.count - 1) c.args.device.now c.requires.idle (omega arith) c.in_default.ensures.lent.0

pub spawn_with-requires-clause-runs : goal.spawn_with-requires-clause-runs
spawn_with-requires-clause-runs g t c κs within =
    let idle = idle_port (c.args.count - 1) c.args.device.now c.take_port.new.self c.in-Some.port c.in-Some.ensures.lent c.args.count c.requires.idle (omega arith) in
    ((c.requires.actions, c.requires.few, idle), search rules)

pub run_ports-ran-requires-clause-idle : goal.run_ports-ran-requires-clause-idle
run_ports-ran-requires-clause-idle g t c κs within =
    idle_others (c.args.count - 1) c.args.device.now c.take_port.new.self c.in-Some.port c.in-Some.ensures.lent c.args.count c.requires.idle (omega arith)

pub put_home-requires-clause-empty : goal.put_home-requires-clause-empty
put_home-requires-clause-empty g t c =
    let back = c.join-back.result in
    let kept = subst (λ (p : Returned). Returns p.actions.now p.trace.now p.start.value back) c.in-Ok.ensures.ok c.join-back.ensures in
    let returns = subst (λ (p : Port). Returns c.args.actions.now c.args.trace.now p back) c.of.ensures kept in
    still_empty (c.args.count - 1) c.args.device.now c.take_port.new.self c.in-Some.port c.in-Some.ensures.lent c.args.actions.now c.args.trace.now c.run_ports-ran.new.device c.in-Ok-ran.ensures.ran back returns

pub push-requires : goal.push-requires
push-requires g t c = (omega arith, omega (arith, c.in-Ok-ran.ensures.works.count_is, c.requires.fits))

pub returns-clause-works : goal.returns-clause-works
returns-clause-works g t c =
    let back = c.join-back.result in
    let kept = subst (λ (p : Returned). Returns p.actions.now p.trace.now p.start.value back) c.in-Ok.ensures.ok c.join-back.ensures in
    let returns = subst (λ (p : Port). Returns c.args.actions.now c.args.trace.now p back) c.of.ensures kept in
    subst (ArePortWorks c.args.count c.put_home.new.device) (sym c.push.ensures.items)
    (works_more (c.args.count - 1) c.args.device.now c.take_port.new.self c.in-Some.port c.in-Some.ensures.lent c.args.actions.now c.args.trace.now c.run_ports-ran.new.device c.in-Ok-ran.ensures.ran back returns c.args.count
    c.put_home.new.device c.run_ports-ran.new.works.items c.work_of.result (omega arith) c.put_home.ensures.back c.in-Ok-ran.ensures.works c.work_of.ensures.port c.work_of.ensures.counts c.work_of.ensures.looks)

pub returns-clause-ran : goal.returns-clause-ran
returns-clause-ran g t c =
    let back = c.join-back.result in
    let kept = subst (λ (p : Returned). Returns p.actions.now p.trace.now p.start.value back) c.in-Ok.ensures.ok c.join-back.ensures in
    let returns = subst (λ (p : Port). Returns c.args.actions.now c.args.trace.now p back) c.of.ensures kept in
    one_more (c.args.count - 1) c.args.device.now c.take_port.new.self c.in-Some.port c.in-Some.ensures.lent c.args.actions.now c.args.trace.now c.run_ports-ran.new.device c.in-Ok-ran.ensures.ran back returns c.args.count c.put_home.new.device (omega arith) c.put_home.ensures.back
