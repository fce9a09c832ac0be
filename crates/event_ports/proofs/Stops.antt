-- What finished stints count, lane by lane, and whose they are.
use Rattle.std.proofs.Common.{◌≡◌, ℕ, ◌+◌, Bool, true, false, cond, ◌==◌, List, [], ◌∷◌, ◌++◌, get_or, append-nil, refl, sym, ap, ◌∙◌, subst, arith, count_by, sum_by}
use Rattle.std.specs.List.{range_with_len}
use Rattle.std.proofs.lemmas.List.Sums.{sum_by-append, sum_by-cons}
use Rattle.std.proofs.lemmas.List.Elements.{filter-append, All-contains}
use Rattle.std.proofs.lemmas.Grind.{flat_map-append}
use Rattle.evt_types.specs.declared.event.Reply.{Reply}
use Rattle.lane_rings.specs.Ends.{answered}
use Rattle.lane_rings.specs.declared.far.Far.{Far}
use Rattle.flow_claims.specs.declared.seating.Past.{Past}
use Rattle.flow_claims.specs.Ends.{IsEnd}
use Rattle.flow_claims.specs.Lists.{no_lists}
use Rattle.flow_claims.specs.Stints.{at_lane, answered_in, answered_in_all, left_in}
use Rattle.flow_claims.proofs.Records.{record_lanes}
use Rattle.event_ports.proofs.Endings.{left_is}
use Rattle.event_ports.proofs.Totals.{sum_split, sum_within}
use Rattle.event_ports.specs.Holds.{answered_past, stints_at}
use Rattle.event_ports.specs.Stop.{counted_past, AreLinkedBy, AreEnds, IsShared}

pub past_append : (j : ℕ) (xs ys : List Past) → answered_past j (xs ++ ys) ≡ answered_past j xs ++ answered_past j ys
past_append j xs ys = ap answered_in_all (filter-append (λ (p : Past). p.lane == j) xs ys) ∙ flat_map-append answered_in (stints_at j xs) (stints_at j ys)

pub joined : (P : Reply → Bool) (n : ℕ) (xs ys : List Past) → counted_past P n (xs ++ ys) ≡ counted_past P n xs + counted_past P n ys
joined P n xs ys =
    sum_split (λ j. count_by P (answered_past j (xs ++ ys))) (λ j. count_by P (answered_past j xs)) (λ j. count_by P (answered_past j ys)) 0 n
    (λ j. ap (count_by P) (past_append j xs ys) ∙ sum_by-append (λ (r : Reply). cond (P r) 1 0) (answered_past j xs) (answered_past j ys))

-- what the lane's stints count
one_past : (P : Reply → Bool) (j : ℕ) (p : Past) (ps : List Past) (b : Bool)
    → count_by P (answered_in_all (cond b (p ∷ stints_at j ps) (stints_at j ps))) ≡ cond b (count_by P (answered_in p)) 0 + count_by P (answered_past j ps)
one_past P j p ps true = ap (count_by P) (flat_map-append answered_in (p ∷ []) (stints_at j ps) ∙ ap (λ r. r ++ answered_past j ps) (append-nil (answered_in p)))
    ∙ sum_by-append (λ (r : Reply). cond (P r) 1 0) (answered_in p) (answered_past j ps)
one_past P j p ps false = omega arith

pub at_one : (P : Reply → Bool) (j : ℕ) (ps : List Past) → count_by P (answered_past j ps) ≡ sum_by (at_lane j (λ p. count_by P (answered_in p))) ps
at_one P j [] = refl
at_one P j (p ∷ ps) =
    let f : Past → ℕ = λ q. count_by P (answered_in q) in
    one_past P j p ps (p.lane == j) ∙ ap (λ n. at_lane j f p + n) (at_one P j ps) ∙ sym (sum_by-cons (at_lane j f) p ps)

pub counted : (P : Reply → Bool) (n : ℕ) (lanes : List Far) (finished : List Past) (ends : ℕ → Far) → AreEnds lanes finished n ends
    → counted_past P n finished ≡ sum_by (λ j. count_by P (answered (ends j))) (range_with_len 0 n)
counted P n lanes finished ends are =
    sum_within (λ j. count_by P (answered_past j finished)) (λ j. count_by P (answered (ends j))) 0 n n (omega arith)
    (λ j lt. at_one P j finished ∙ (are j lt).answered (λ r. cond (P r) 1 0))

pub shared : (linked : ℕ → ℕ → Bool) (lanes : List Far) (finished : List Past) (lane : ℕ) (far : Far) → AreLinkedBy linked finished → IsEnd lanes finished lane far → IsShared linked finished lane far
shared linked lanes finished lane far all is = record {
  past = is.past;
  recorded = is.recorded;
  linked_ports = λ k d lt.
      let p : Past = get_or is.past k d in
      let linked_is : linked p.port p.lane ≡ true = All-contains (λ (q : Past). linked q.port q.lane ≡ true) finished p all (is.among k d lt) in
      let At : ℕ → Type 0 = λ l. linked p.port l ≡ true in
      subst At (record_lanes lane 0 no_lists is.past is.recorded k d lt) linked_is;
  received = is.received_is;
  answered_is = is.answered_is;
  in_record = is.in_record;
  among = is.among;
  once = is.once;
  left = left_is lanes finished lane far is;
  done = is.done;
  final = is.final;
  last = ap left_in is.lists;
}
