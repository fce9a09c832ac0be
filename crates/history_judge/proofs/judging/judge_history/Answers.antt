use Rattle.std.proofs.Common.{rules, ℕ, IfNone, IfSome, subst, sym}
use Rattle.std.proofs.lemmas.Bool.{false_from_ne_true}
use Rattle.evt_types.specs.Plan.{is_flows}
use Rattle.history_judge.proofs.Answered.{answered, fit}
use Rattle.history_judge.specs.Breaches.{IsCrowded, IsOverfull, IsOvertaken, IsReordered}
use Rattle.history_judge.specs.Entries.{IsUnknown}
use Rattle.history_judge.specs.Holds.{AreTimes}
use Rattle.history_judge.specs.Values.{IsExcess, IsPremature}
use Rattle.history_judge.specs.Watching.{IsFit}
use Rattle.history_judge.specs.declared.fault.HistoryFault.TheVariants as faults
use Rattle.history_judge.proofs.judging.judge_history.Goals as goal

pub first_unlinked-requires : goal.first_unlinked-requires
first_unlinked-requires c = λ i bad. c.in_ok-refuse.ensures.fit (faults.Port i) bad

pub returns-in-Some-2-clause-answer : goal.returns-in-Some-2-clause-answer
returns-in-Some-2-clause-answer c =
    record {
      ports = false_from_ne_true (is_flows c.args.shape.now.serving) (c.in_ok-refuse.ensures.fit faults.Flows);
      excess = subst (λ o. IfSome o (IsExcess c.args.history.now)) c.in-Some-2.is c.in_ok-at.ensures.some;
    }

pub returns-in-Some-3-clause-answer : goal.returns-in-Some-3-clause-answer
returns-in-Some-3-clause-answer c =
    record {
      ports = false_from_ne_true (is_flows c.args.shape.now.serving) (c.in_ok-refuse.ensures.fit faults.Flows);
      premature = subst (λ o. IfSome o (IsPremature c.args.history.now)) c.in-Some-3.is c.in_ok-at-2.ensures.some;
    }

pub new-requires-clause-ports : goal.new-requires-clause-ports
new-requires-clause-ports c = false_from_ne_true (is_flows c.args.shape.now.serving) (c.in_ok-refuse.ensures.fit faults.Flows)

pub new-requires-clause-known : goal.new-requires-clause-known
new-requires-clause-known c = λ i. c.in_ok-refuse.ensures.fit (faults.Port i)

pub new-requires-clause-sorted : goal.new-requires-clause-sorted
new-requires-clause-sorted c = λ i. c.in_ok-refuse.ensures.fit (faults.Unsorted i)

pub new-requires-clause-sent : goal.new-requires-clause-sent
new-requires-clause-sent c = subst (λ o. IfNone o ((i : ℕ) → ¬ IsExcess c.args.history.now i)) c.in_default-2.is c.in_ok-at.ensures.none

pub returns-in-Some-4-clause-answer : goal.returns-in-Some-4-clause-answer
returns-in-Some-4-clause-answer c =
    subst (λ o. IfSome o (λ (x : ℕ × ℕ). IsOvertaken c.args.shape.now c.args.history.now x.0 x.1)) c.in-Some-4.is c.in_ok-at-3.ensures.some

pub returns-in-Some-5-clause-answer : goal.returns-in-Some-5-clause-answer
returns-in-Some-5-clause-answer c =
    subst (λ o. IfSome o (λ (x : ℕ × ℕ). IsReordered c.args.shape.now c.args.history.now x.0 x.1)) c.in-Some-5.is c.in_ok-at-4.ensures.some

pub answer_times-requires : goal.answer_times-requires
answer_times-requires c =
    λ i bad. c.in_ok-refuse.ensures.fit (faults.Port i) (subst (λ n. IsUnknown n c.args.history.now i) c.port_count.ensures bad)

pub first_overfull-requires : goal.first_overfull-requires
first_overfull-requires c =
    subst (IsFit c.args.shape.now c.args.history.now) (sym c.deref.ensures.value)
    (fit c.args.shape.now c.args.history.now c.in_ok-times.times.items c.limit-limits.ensures.within c.in_ok-refuse.ensures.fit c.in_default.ensures.none
    (subst (λ n. AreTimes n c.args.history.now c.in_ok-times.times.items) c.port_count.ensures c.in_ok-times.ensures))

pub returns-in-Some-6-clause-answer : goal.returns-in-Some-6-clause-answer
returns-in-Some-6-clause-answer c = subst (λ o. IfSome o (IsOverfull c.args.shape.now c.args.history.now)) c.in-Some-6.is c.in_ok-at-5.ensures.some

pub first_crowded-requires : goal.first_crowded-requires
first_crowded-requires c =
    subst (IsFit c.args.shape.now c.args.history.now) (sym c.deref-2.ensures.value)
    (fit c.args.shape.now c.args.history.now c.in_ok-times.times.items c.limit-limits.ensures.within c.in_ok-refuse.ensures.fit c.in_default.ensures.none
    (subst (λ n. AreTimes n c.args.history.now c.in_ok-times.times.items) c.port_count.ensures c.in_ok-times.ensures))

pub returns-in-Some-7-clause-answer : goal.returns-in-Some-7-clause-answer
returns-in-Some-7-clause-answer c = subst (λ o. IfSome o (IsCrowded c.args.shape.now c.args.history.now)) c.in-Some-7.is c.in_ok-at-6.ensures.some

pub first_together-requires : goal.first_together-requires
first_together-requires c =
    subst (IsFit c.args.shape.now c.args.history.now) (sym c.deref-3.ensures.value)
    (fit c.args.shape.now c.args.history.now c.in_ok-times.times.items c.limit-limits.ensures.within c.in_ok-refuse.ensures.fit c.in_default.ensures.none
    (subst (λ n. AreTimes n c.args.history.now c.in_ok-times.times.items) c.port_count.ensures c.in_ok-times.ensures))

pub returns-clause-answer : goal.returns-clause-answer
returns-clause-answer c =
    answered c.args.shape.now c.args.history.now c.in_ok-found.found c.map.result c.in_default.ensures.none
    (subst (λ o. IfNone o ((i : ℕ) → ¬ IsExcess c.args.history.now i)) c.in_default-2.is c.in_ok-at.ensures.none)
    (subst (λ o. IfNone o ((i : ℕ) → ¬ IsPremature c.args.history.now i)) c.in_default-3.is c.in_ok-at-2.ensures.none)
    (subst (λ o. IfNone o ((i j : ℕ) → ¬ IsOvertaken c.args.shape.now c.args.history.now i j)) c.in_default-4.is c.in_ok-at-3.ensures.none)
    (subst (λ o. IfNone o ((i j : ℕ) → ¬ IsReordered c.args.shape.now c.args.history.now i j)) c.in_default-5.is c.in_ok-at-4.ensures.none)
    (subst (λ o. IfNone o ((i : ℕ) → ¬ IsOverfull c.args.shape.now c.args.history.now i)) c.in_default-6.is c.in_ok-at-5.ensures.none)
    (subst (λ o. IfNone o ((i : ℕ) → ¬ IsCrowded c.args.shape.now c.args.history.now i)) c.in_default-7.is c.in_ok-at-6.ensures.none)
    c.in_ok-found.ensures.some c.in_ok-found.ensures.none _ (λ x b post. search rules) c.map.ensures.cases
