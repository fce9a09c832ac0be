use Rattle.std.specs.Prelude.{ℕ, ◌≡◌, ◌≤◌, [], ◌∷◌}
use Rattle.std.proofs.Common.{refl, ap, sym, arith, inl, inr}
use Rattle.std.proofs.Math.Dec.{lit<}
use Rattle.std.proofs.lemmas.Bool.{true≢false}
use Rattle.evt_types.specs.Plan.{bound_of, depth_of, flow_lanes, lanes_by_slot, lanes_of, serves}
use Rattle.evt_types.specs.declared.step.Outcome.TheVariants.{Released}
use Rattle.evt_types.specs.declared.step.Source.TheVariants.{Of}
use Rattle.evt_types.specs.declared.step.Step.TheVariants.{Accept, Give, Done, More, Bounced, Shut}
use Rattle.transcripts.specs.Transcript.{Held, accepted, out, answers, unanswered, ended, sent, forwards, extras, hand, waiting, taken, sources, kept, open_of, inside}
use Rattle.worked_examples.specs.Logs.{added, added_too_many, accepted_early, answered_early, beyond_depth, brought, entry, exchanged, given_twice, kept_for_good, new_after_shut, not_linked, one_worker, overtaken, passed_on, split_slot, two_stages, two_workers}
use Rattle.transcript_judge.proofs.Tested.{broken_by_test, first_number, first_payload, none_waits}
use Rattle.transcript_judge.specs.Rows.{gone_on, passed_over}
use Rattle.transcript_judge.specs.declared.verdict.Clause.TheVariants.{Answers, Extras, Once, Linked, Depth, Flow, Alone, Order, Origin, Closed, Prompt}
use Rattle.transcript_judge.proofs.rows.broken_rows.Goals as goal

no_held : Held
no_held = record { queue = 0; number = 0; slot = 0 }

pub returns : goal.returns
unfolding first_number first_payload accepted out answers unanswered ended sent forwards extras hand waiting taken sources kept open_of inside bound_of depth_of flow_lanes lanes_by_slot lanes_of serves
returns c =
    record {
      given_twice = broken_by_test two_workers given_twice [] 2 Once (Give 1 0 0) refl refl (λ h. h.once 0 0 1 0 (lit< tt) (lit< tt) refl);
      overtaken = broken_by_test two_workers overtaken [] 2 Flow (Give 1 0 1) refl refl
          (λ h. let is_prefix = h.atomic 0 refl 7 2 in let same : ◌≡◌ {A = ℕ} 1 0 = ap first_number is_prefix.1 in absurd (omega arith));
      split_slot = broken_by_test two_workers split_slot [] 6 Alone (Give 2 0 2) refl refl
          (λ h. h 0 refl 1 2 (omega arith) 0 no_held (lit< tt) 0 no_held (lit< tt) refl refl refl);
      accepted_early = broken_by_test two_stages accepted_early [] 5 Order (Accept 1 (passed_on 20) (Of 0 1)) refl refl
          (inl (λ h. true≢false (sym ((h.ordered 0 refl).answered 0 0 (lit< tt) 0 0 (lit< tt)))));
      passed_over = broken_by_test two_stages passed_over (Accept 1 (passed_on 10) (Of 0 0) ∷ Accept 1 (passed_on 20) (Of 0 1) ∷ []) 6 Order
          (Accept 1 (passed_on 20) (Of 0 1)) refl refl
          (inr (record { queue = 0; ordered = refl; m = 0; n = 1; apart = λ e. absurd (omega arith); before = refl; kept = lit< tt; accepted = refl }));
      exchanged = broken_by_test two_stages exchanged (Accept 1 (passed_on 10) (Of 0 0) ∷ []) 3 Origin (Accept 1 (passed_on 11) (Of 0 0)) refl refl
          (λ h. let is_prefix = h 0 0 in let same : ◌≡◌ {A = ℕ} 11 10 = ap first_payload is_prefix.1 in absurd (omega arith));
      new_after_shut = broken_by_test one_worker new_after_shut [] 1 Closed (entry (brought 1)) refl refl (λ h. true≢false (h.no_new 0 Shut (lit< tt)));
      not_linked = broken_by_test one_worker not_linked [] 1 Linked (Give 0 0 0) refl refl (λ h. true≢false (sym (h 0 0 (0, 0) (lit< tt))));
      answered_early = broken_by_test one_worker answered_early [] 1 Answers (Done 1 Released) refl refl
          (λ h. let none_left : 1 ≤ 0 = h 1 in absurd (omega arith));
      beyond_depth = broken_by_test one_worker beyond_depth [] 9 Depth (Give 1 0 4) refl refl
          (λ h. let within : 5 ≤ 4 = h 1 in absurd (omega arith));
      added_too_many = broken_by_test two_stages added_too_many [] 6 Extras (More 1 (added 50)) refl refl
          (λ h. let few : 5 ≤ 4 = h.few 1 in absurd (omega arith));
      gone_on = broken_by_test two_stages gone_on (Accept 1 (passed_on 20) (Of 0 1) ∷ []) 6 Prompt (Bounced 1) refl refl
          (λ h. let waits_for = (h 6 Shut (lit< tt) refl 0 0 (0, passed_on 20) (lit< tt)).1 in none_waits kept_for_good 0 1 refl waits_for.0 waits_for.1 waits_for.2);
    }
