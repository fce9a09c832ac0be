-- What is left in the lanes, lane by lane.
use Rattle.std.proofs.Common.{◌≡◌, ℕ, ◌+◌, ◌<◌, ◌≤◌, not, cond, List, [], ◌∷◌, ◌++◌, length, drop, map, flat_map, sum_by, count_by, Some, refl, sym, ap, subst, ◌∙◌, arith, ⊎_elim}
use Rattle.std.specs.Prelude.{filter_map, slice_get}
use Rattle.std.specs.List.{cons_option, range_with_len}
use Rattle.std.proofs.Math.Seq.{drop-append_seam}
use Rattle.std.proofs.lemmas.Bool.{cases_eq, cases_lt}
use Rattle.std.proofs.lemmas.List.{length-map}
use Rattle.std.proofs.lemmas.List.Concat.{length-flat_map}
use Rattle.std.proofs.lemmas.List.Sums.{count_by-le-length, sum_by-cons}
use Rattle.std.proofs.lemmas.Option.{slice_get_past}
use Rattle.event_answers.specs.declared.report.Undelivered.{Undelivered}
use Rattle.event_answers.specs.declared.report.Untaken.{Untaken}
use Rattle.evt_types.proofs.Additions.{beside-none}
use Rattle.evt_types.specs.Operation.{is_release_op}
use Rattle.evt_types.specs.declared.event.Event.{Event}
use Rattle.evt_types.specs.declared.event.Op.{Op}
use Rattle.evt_types.specs.declared.event.Op.TheVariants as ops
use Rattle.evt_types.specs.declared.event.Reply.{Reply}
use Rattle.lane_rings.specs.declared.far.Far.{Far}
use Rattle.lane_rings.specs.declared.near.Near.{Near}
use Rattle.lists.proofs.Ranges.{flat_map_range_more}
use Rattle.lists.proofs.Sums.{sum_same}
use Rattle.event_device.proofs.LaneEnds.{IsTurn}
use Rattle.event_device.specs.Between.{IsAtRest, no_rest, rest_at, rest_between, rest_of}
use Rattle.event_device.specs.Listed.{undelivered_of, untaken_by, untaken_of}
use Rattle.world_laws.specs.Account.{has_event}
use Rattle.world_laws.specs.Rest.{Rest}

-- what stands behind a part
pub left_behind : {X : Type 0} (all first rest : List X) → all ≡ first ++ rest → rest ≡ drop (length first) all
left_behind all first rest is = sym (ap (drop (length first)) is ∙ drop-append_seam first rest)

-- ---- how many are listed of a lane

-- a reply is listed where it has an event
listed_by : (l : ℕ) (o : Op) (e : Event) (xs : List Untaken) → length (cons_option (untaken_by o l e) xs) ≡ cond (not (is_release_op o)) 1 0 + length xs
listed_by l ops.New e xs = omega arith
listed_by l ops.Forward e xs = omega arith
listed_by l ops.Release e xs = omega arith
listed_by l ops.ForwardMore e xs = omega arith

pub untaken_count : (l : ℕ) (replies : List Reply) → length (filter_map (untaken_of l) replies) ≡ count_by has_event replies
untaken_count l [] = refl
untaken_count l (r ∷ replies) =
    omega (
      arith,
      listed_by l r.event.op r.event (filter_map (untaken_of l) replies),
      untaken_count l replies,
      sum_by-cons (λ (x : Reply). cond (has_event x) 1 0) r replies,
    )

pub untaken_few : (l : ℕ) (replies : List Reply) → length (filter_map (untaken_of l) replies) ≤ length replies
untaken_few l replies = omega (arith, untaken_count l replies, count_by-le-length has_event replies)

-- ---- the first lanes, and one lane more

-- what is left in a lane, as it is listed
abbrev pub undelivered_in : (ℕ → Rest) → ℕ → List Undelivered
undelivered_in rest l = map (undelivered_of l) (rest l).undelivered

abbrev pub untaken_in : (ℕ → Rest) → ℕ → List Untaken
untaken_in rest l = filter_map (untaken_of l) (rest l).untaken

-- what is left in the first n lanes is listed, and each of them is at rest
pub record AreListed (nears : List Near) (fars : List Far) (n : ℕ) (us : List Undelivered) (ts : List Untaken) : Type 0 where
  pub undelivered : us ≡ flat_map (undelivered_in (rest_at nears fars)) (range_with_len 0 n)
  pub untaken : ts ≡ flat_map (untaken_in (rest_at nears fars)) (range_with_len 0 n)
  pub rests : (l : ℕ) → l < n → IsAtRest (rest_at nears fars l)

rest_here : (nears : List Near) (fars : List Far) (n : ℕ) (a : Near) (b : Far) → slice_get nears n ≡ Some a → slice_get fars n ≡ Some b → rest_at nears fars n ≡ rest_between a b
rest_here nears fars n a b near far = ap (λ x. rest_of x (slice_get fars n)) near ∙ ap (rest_of (Some a)) far

pub listed_more : (nears : List Near) (fars : List Far) (n l : ℕ) (us vs : List Undelivered) (ts ss : List Untaken) (a : Near) (b : Far)
    → IsTurn nears fars n l a b → AreListed nears fars n us ts → vs ≡ us ++ map (undelivered_of l) (rest_between a b).undelivered
    → ss ≡ ts ++ filter_map (untaken_of l) (rest_between a b).untaken → IsAtRest (rest_between a b) → AreListed nears fars (n + 1) vs ss
listed_more nears fars n l us vs ts ss a b turn listed more_us more_ts at_rest =
    let rest = rest_at nears fars in
    let here : rest n ≡ rest_between a b = rest_here nears fars n a b turn.near turn.far in
    let first : vs ≡ us ++ undelivered_in rest n =
    more_us ∙ (ap (λ k. us ++ map (undelivered_of k) (rest_between a b).undelivered) turn.lane ∙ ap (λ (r : Rest). us ++ map (undelivered_of n) r.undelivered) (sym here)) in
    let second : ss ≡ ts ++ untaken_in rest n =
    more_ts ∙ (ap (λ k. ts ++ filter_map (untaken_of k) (rest_between a b).untaken) turn.lane ∙ ap (λ (r : Rest). ts ++ filter_map (untaken_of n) r.untaken) (sym here)) in
    record {
      undelivered = first ∙ (ap (λ xs. xs ++ undelivered_in rest n) listed.undelivered ∙ sym (flat_map_range_more (undelivered_in rest) n));
      untaken = second ∙ (ap (λ xs. xs ++ untaken_in rest n) listed.untaken ∙ sym (flat_map_range_more (untaken_in rest) n));
      rests =
          λ k h.
          ⊎_elim
          (λ same. subst (λ m. IsAtRest (rest m)) (sym same) (subst IsAtRest (sym here) at_rest))
          (λ other. listed.rests k (omega arith))
          (cases_eq k n);
    }

-- ---- all lanes

nothing_rests : IsAtRest no_rest
nothing_rests = record { received = refl; answered = refl; fewer = omega arith; beside = beside-none 0 }

-- a lane that isn't there is at rest
pub all_rest : (nears : List Near) (fars : List Far) (l : ℕ) → ((k : ℕ) → k < length nears → IsAtRest (rest_at nears fars k)) → IsAtRest (rest_at nears fars l)
all_rest nears fars l rests =
    ⊎_elim (rests l)
    (λ past. subst IsAtRest (ap (λ a. rest_of a (slice_get fars l)) (sym (slice_get_past nears l past))) nothing_rests)
    (cases_lt l (length nears))

-- how many are listed of the first n lanes
pub undelivered_length : (rest : ℕ → Rest) (n : ℕ) → length (flat_map (undelivered_in rest) (range_with_len 0 n)) ≡ sum_by (λ l. length (rest l).undelivered) (range_with_len 0 n)
undelivered_length rest n =
    length-flat_map (undelivered_in rest) (range_with_len 0 n)
    ∙ sum_same (λ l. length (undelivered_in rest l)) (λ l. length (rest l).undelivered) n (λ l. length-map (rest l).undelivered (undelivered_of l))

pub untaken_length : (rest : ℕ → Rest) (n : ℕ) → length (flat_map (untaken_in rest) (range_with_len 0 n)) ≡ sum_by (λ l. count_by has_event (rest l).untaken) (range_with_len 0 n)
untaken_length rest n =
    length-flat_map (untaken_in rest) (range_with_len 0 n)
    ∙ sum_same (λ l. length (untaken_in rest l)) (λ l. count_by has_event (rest l).untaken) n (λ l. untaken_count l (rest l).untaken)
