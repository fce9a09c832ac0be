-- The ports that a document asks for: port 0's, which is linked to nothing, and a worker's each, linked to every queue.
use Rattle.std.proofs.Common.{◌≡◌, ℕ, ◌+◌, ◌<◌, ◌∷◌, length, replicate, zero, suc, false, refl, sym, ap, ◌∙◌, arith}
use Rattle.std.specs.Prelude.{All}
use Rattle.std.specs.List.{range_with_len}
use Rattle.std.proofs.lemmas.List.{get_or-replicate, length-map, length-replicate}
use Rattle.std.proofs.lemmas.List.Elements.{All-cons, All-replicate}
use Rattle.evt_types.specs.Plan.{PortPlan, port_of, queues}
use Rattle.play_documents.specs.Field.{rows, value_or}
use Rattle.run_documents.specs.Drafts.{plan_asked, producer_asked, stage_asked, worker_asked}
use Rattle.run_documents.specs.Pipelines.{HasWorkers}
use Rattle.run_documents.specs.Survey.{SurveySeen}

module _ (workers : ℕ) (s : SurveySeen) where
  port_count : length (producer_asked s ∷ replicate workers (worker_asked s)) ≡ workers + 1
  port_count = let each = length-replicate workers (worker_asked s) in omega (arith, each)

  worker_port : (l : ℕ) → 0 < l → l < length (plan_asked workers s).ports → port_of (plan_asked workers s) l ≡ worker_asked s
  unfolding plan_asked
  worker_port zero some lt = absurd (omega arith)
  worker_port (suc l) some lt =
      let each = length-replicate workers (worker_asked s) in
      get_or-replicate workers l (worker_asked s) _ (omega (arith, each, lt))

  all_queues : range_with_len 0 (length (rows s.stages)) ≡ queues (plan_asked workers s)
  unfolding plan_asked
  all_queues = ap (range_with_len 0) (sym (length-map (rows s.stages) stage_asked))

  -- what holds of every port
  of_each : (P : PortPlan → Type 0) → P (producer_asked s) → P (worker_asked s) → All P (plan_asked workers s).ports
  unfolding plan_asked
  of_each P producer worker = All-cons P (producer_asked s) (replicate workers (worker_asked s)) producer (All-replicate P workers (worker_asked s) worker)

  pub asked : HasWorkers workers (plan_asked workers s)
  unfolding plan_asked
  asked =
      record {
        ports = port_count;
        producer = refl;
        linked = λ l some lt. ap (λ (port : PortPlan). port.links) (worker_port l some lt) ∙ all_queues;
        thresholds = of_each (λ (port : PortPlan). port.threshold ≡ value_or 0 s.device.limit) refl refl;
        none_implicit = of_each (λ (port : PortPlan). port.implicit ≡ false) refl refl;
      }
