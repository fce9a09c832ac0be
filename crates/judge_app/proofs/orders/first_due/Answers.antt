use Rattle.std.proofs.Common.{◌≡◌, ◌<◌, ◌==◌, get_or, length, not, ◌&&◌, ap, ◌∙◌, arith}
use Rattle.std.specs.Prelude.{count_by, nat_lt, slice_index}
use Rattle.judge_app.specs.Forwards.{sent_of}
use Rattle.judge_app.specs.Orders.{is_kept}
use Rattle.transcripts.specs.Transcript.{sources}
use Rattle.judge_app.proofs.Given.{find_agree}
use Rattle.judge_app.proofs.orders.first_due.Goals as goal

pub returns : goal.returns
returns c =
    c.first_kept.ensures
    ∙ find_agree (λ m. not (m == c.args.number) && nat_lt (slice_index c.deref-4.result.now m) (slice_index c.deref-3.result.now m)) (is_kept c.args.shape.now c.args.past.now c.args.queue c.args.number) c.args.front.now (λ k d lt.
    let m = get_or c.args.front.now k d in
    let below : m < c.len-count.result = omega (arith, c.requires k d lt, ap length c.in_ok-accepted_by.ensures) in
    let taken : slice_index c.deref-4.result.now m ≡ count_by (λ j. j == m) (sources c.args.past.now c.args.queue) =
    ap (λ xs. slice_index xs m) c.deref-4.ensures.value ∙ (c.in_ok-taken.ensures.counts m below ∙ ap (count_by (λ j. j == m)) (c.deref-2.ensures.value ∙ c.in_ok-sources_of.ensures)) in
    let sent : slice_index c.deref-3.result.now m ≡ count_by (λ j. j == m) (sent_of c.args.shape.now c.args.past.now c.args.queue) =
    ap (λ xs. slice_index xs m) c.deref-3.ensures.value ∙ (c.in_ok-sent.ensures.counts m below ∙ ap (count_by (λ j. j == m)) (c.deref.ensures.value ∙ c.in_ok-sent_of.ensures)) in
    ap (λ t. not (m == c.args.number) && nat_lt t (slice_index c.deref-3.result.now m)) taken
    ∙ ap (λ s. not (m == c.args.number) && nat_lt (count_by (λ j. j == m) (sources c.args.past.now c.args.queue)) s) sent)
