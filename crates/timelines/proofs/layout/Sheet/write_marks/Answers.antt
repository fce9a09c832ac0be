use Rattle.std.proofs.Common.{◌≡◌, ◌++◌, length, sym, ap, ◌∙◌, arith}
use Rattle.std.specs.Prelude.{flat_map, slice_index_or, string_bytes}
use Rattle.std.specs.List.{range_with_len}
use Rattle.std.proofs.lemmas.List.{get_or_default}
use Rattle.std.proofs.lemmas.List.Folds.{flat_map-map}
use Rattle.evt_types.specs.declared.step.Step.TheVariants.{Shut}
use Rattle.timelines.proofs.Texts.{one_more}
use Rattle.timelines.specs.Layout.{frame_in}
use Rattle.timelines.specs.Marks.{mark_at, mark_of, mark_text}
use Rattle.timelines.proofs.layout.Sheet.write_marks.Goals as goal

pub loop-step-preserved : goal.loop-step-preserved
loop-step-preserved c =
    let qs = c.args.queues.now in
    let f = frame_in c.args.self.now in
    let log = c.args.log.now in
    let i = c.loop-step.step-index in
    let out = string_bytes c.loop-step.out in
    let at : c.step-item.result ≡ slice_index_or log i Shut = c.step-item.is ∙ get_or_default log i c.step-item.result Shut c.loop-step-test.true in
    let same : c.loop-step.place ≡ i = c.loop-step.invariant.0 in
    let written : string_bytes c.write_mark.new.out ≡ out ++ mark_text (mark_at qs f log i) =
    c.in_ok-write_mark.ensures ∙ (ap (λ k. out ++ mark_text (mark_of qs f log k c.step-item.result)) same ∙ ap (λ s. out ++ mark_text (mark_of qs f log i s)) at) in
    (omega (arith, same), one_more (λ k. mark_text (mark_at qs f log k)) i (string_bytes c.args.out.now) out (string_bytes c.write_mark.new.out) c.loop-step.invariant.1 written)

pub returns : goal.returns
returns c =
    let n = length c.args.log.now in
    let m = mark_at c.args.queues.now (frame_in c.args.self.now) c.args.log.now in
    let all : c.loop-step.step-index ≡ n = omega (arith, c.loop-step-test.false, c.loop-step.auto.step-index-end) in
    c.loop-step.invariant.1
    ∙ (ap (λ k. string_bytes c.args.out.now ++ flat_map (λ i. mark_text (m i)) (range_with_len 0 k)) all
    ∙ ap (λ xs. string_bytes c.args.out.now ++ xs) (sym (flat_map-map mark_text m (range_with_len 0 n))))
