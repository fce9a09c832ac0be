use Rattle.std.proofs.Common.{◌≡◌, ℕ, List, [], ◌∷◌, ◌++◌, Option, length, slice_index, ap, ◌∙◌, arith}
use Rattle.std.proofs.lemmas.List.{with_items_is}
use Rattle.timelines.proofs.Readings.{length-answer, length-close}
use Rattle.std.specs.declared.alloc.Global.{Global}
use Rattle.std.specs.declared.vec.Vec.{Vec}
use Rattle.timelines.specs.Links.{begins, closed_by, origin_by, place_by, row, rows}
use Rattle.timelines.specs.Readings.{answer_more, begin_more, close_at, origin_in}
use Rattle.timelines.proofs.links.Links.follow.Goals as goal

pub returns : goal.returns
returns c =
    let qs = c.args.queues in
    let s = c.args.step.now in
    let a = c.args.self.now in
    let lists = rows a.begun.items in
    let now = length a.spots.items in
    let r = c.row_begun-row.result in
    let of_row : r ≡ begins qs s = c.row_begun-row.ensures in
    let of_origin : c.origin_of-origin.result ≡ origin_in qs a s =
    c.origin_of-origin.ensures
    ∙ (ap (λ (xs : List (Vec ℕ Global)). origin_by qs (row (rows xs)) (slice_index c.deref-3.result.now) s) c.deref-2.ensures.value
    ∙ ap (λ (xs : List ℕ). origin_by qs (row lists) (slice_index xs) s) c.deref-3.ensures.value) in
    let of_place : c.place_in-place.result ≡ place_by (row lists) (begins qs s) =
    c.place_in-place.ensures ∙ (ap (λ (xs : List (Vec ℕ Global)). place_by (row (rows xs)) r) c.deref.ensures.value ∙ ap (place_by (row lists)) of_row) in
    let of_closed : c.closed_by.result ≡ closed_by (origin_in qs a s) s = c.closed_by.ensures ∙ ap (λ o. closed_by o s) of_origin in
    let of_now : c.len-now.result ≡ now = omega (arith, c.len-now.ensures, a.spots.ok.0) in
    let of_ends : c.deref_mut.result.now ≡ a.ends.items = c.deref_mut.ensures.value in
    let answered : c.count_answer.new.answered ≡ answer_more s a.answered.items = c.count_answer.ensures ∙ ap (answer_more s) c.deref_mut-2.ensures.value in
    let closed : c.close.new.ends ≡ close_at now (closed_by (origin_in qs a s) s) a.ends.items =
    c.close.ensures
    ∙ (ap (λ k. close_at k c.closed_by.result c.deref_mut.result.now) of_now
    ∙ (ap (λ o. close_at now o c.deref_mut.result.now) of_closed ∙ ap (close_at now (closed_by (origin_in qs a s) s)) of_ends)) in
    record {
      begun = c.in_ok-begin.ensures ∙ (ap (λ k. begin_more k r lists) of_now ∙ ap (λ o. begin_more now o lists) of_row);
      answered =
          with_items_is a.answered c.count_answer.new.answered (ap length c.count_answer.ensures ∙ (length-answer c.deref_mut-2.result.now s ∙ c.deref_mut-2.ensures.len)) ∙ answered;
      spots =
          c.in_ok-push.ensures.items
          ∙ (ap (λ (k : ℕ). a.spots.items ++ record { place = k; origin = c.origin_of-origin.result } ∷ []) of_place
          ∙ ap (λ (o : Option ℕ). a.spots.items ++ record { place = place_by (row lists) (begins qs s); origin = o } ∷ []) of_origin);
      ends =
          with_items_is a.ends c.close.new.ends (ap length c.close.ensures ∙ (length-close c.deref_mut.result.now c.len-now.result c.closed_by.result ∙ c.deref_mut.ensures.len)) ∙ closed;
    }
