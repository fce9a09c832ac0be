-- A configuration with more queues or ports than a device has is refused, whatever else it says.
use Rattle.std.proofs.Common.{◌≡◌, ℕ, ◌+◌, ◌<◌, ◌≤◌, Bool, true, false, cond, Option, Some, Err, length, refl, ◌∙◌, arith}
use Rattle.std.proofs.lemmas.Bool.Decides.{nat_tests}
use Rattle.std.proofs.lemmas.List.{length-map, length-replicate}
use Rattle.evt_types.specs.Fault.{outside}
use Rattle.evt_types.specs.Limits.{most_ports, most_queues}
use Rattle.evt_types.specs.Plan.{Plan}
use Rattle.evt_types.specs.declared.shape.ShapeFault.{ShapeFault}
use Rattle.evt_types.specs.declared.shape.ShapeFault.TheVariants as shapes
use Rattle.play_documents.specs.Document.{checked, plan_or_fault}
use Rattle.play_documents.specs.Field.{rows}
use Rattle.play_documents.specs.declared.fault.DocFault.TheVariants as doc
use Rattle.run_documents.specs.Drafts.{plan_asked, stage_asked, worker_asked}
use Rattle.run_documents.specs.Survey.{SurveySeen}

is_none : (n most : ℕ) → n ≡ 0 → outside 1 most n ≡ true
is_none n most none = grind (arith, nat_tests)

is_many : (n most : ℕ) → most < n → outside 1 most n ≡ true
is_many n most many = grind (arith, nat_tests)

is_within : (n most : ℕ) → 1 ≤ n → n ≤ most → outside 1 most n ≡ false
is_within n most some few = grind (arith, nat_tests)

-- the first test, and the second
by_first : (a : Bool) (rest : Option ShapeFault) (p : Plan) → a ≡ true → plan_or_fault p (cond a (Some shapes.QueueCount) rest) ≡ Err (doc.Shape shapes.QueueCount)
by_first true rest p e = refl
by_first false rest p e = absurd cc

by_second : (a b : Bool) (rest : Option ShapeFault) (p : Plan) → a ≡ false → b ≡ true
    → plan_or_fault p (cond a (Some shapes.QueueCount) (cond b (Some shapes.PortCount) rest)) ≡ Err (doc.Shape shapes.PortCount)
by_second false true rest p e f = refl
by_second false false rest p e f = absurd cc
by_second true b rest p e f = absurd cc

module _ (workers : ℕ) (s : SurveySeen) where
  queue_count : length (plan_asked workers s).queues ≡ length (rows s.stages)
  unfolding plan_asked
  queue_count = length-map (rows s.stages) stage_asked

  port_count : length (plan_asked workers s).ports ≡ workers + 1
  unfolding plan_asked
  port_count = let each = length-replicate workers (worker_asked s) in omega (arith, each)

  pub none-refused : length (rows s.stages) ≡ 0 → checked (plan_asked workers s) ≡ Err (doc.Shape shapes.QueueCount)
  unfolding checked
  none-refused none = by_first _ _ (plan_asked workers s) (is_none _ most_queues (queue_count ∙ none))

  pub many-refused : most_queues < length (rows s.stages) → checked (plan_asked workers s) ≡ Err (doc.Shape shapes.QueueCount)
  unfolding checked
  many-refused many = by_first _ _ (plan_asked workers s) (is_many (length (plan_asked workers s).queues) most_queues (rw queue_count many))

  pub workers-refused : 1 ≤ length (rows s.stages) → length (rows s.stages) ≤ most_queues → most_ports ≤ workers
      → checked (plan_asked workers s) ≡ Err (doc.Shape shapes.PortCount)
  unfolding checked
  workers-refused some few many =
      by_second _ _ _ (plan_asked workers s) (is_within (length (plan_asked workers s).queues) most_queues (rw queue_count some) (rw queue_count few))
      (is_many (length (plan_asked workers s).ports) most_ports (rw port_count (omega arith)))
