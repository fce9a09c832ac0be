-- A world whose lists fit together came about by the moves of its log, and then the Submits of what wasn't taken.
use Rattle.std.specs.Prelude.{ℕ, ◌≡◌, ◌≢◌, ◌+◌, ◌<◌, ◌≤◌, ◌^◌, true, cond, List, [], ◌∷◌, ◌++◌, nat_lt, length, map, take, drop, count_by, flat_map, Option, Some, None}
use Rattle.std.specs.List.{range_with_len}
use Rattle.std.proofs.Common.{refl, sym, ap, ◌∙◌, subst, arith, ⊎_elim, zero, suc, append_assoc, append-nil, add-one}
use Rattle.std.proofs.lemmas.Bool.{cases_lt, cond-true, cond-false, le-ltb, lt-ltb}
use Rattle.std.proofs.lemmas.List.{take-append-drop, take_all, nil_from_length}
use Rattle.std.proofs.lemmas.List.Elements.{All-weaker}
use Rattle.evt_types.proofs.FlowLanes.{port_is_lane}
use Rattle.evt_types.specs.Additions.{AreBeside}
use Rattle.evt_types.specs.Operation.{is_answer, is_answer_op, is_more_op, is_more_reply, is_new_op, is_new_reply}
use Rattle.evt_types.specs.Plan.{Plan, lanes, lanes_of}
use Rattle.evt_types.specs.declared.event.Op.{Op}
use Rattle.evt_types.specs.declared.event.Op.TheVariants as ops
use Rattle.evt_types.specs.declared.event.Reply.{Reply}
use Rattle.evt_types.specs.declared.step.Step.{Step}
use Rattle.lists.proofs.Lists.{filter_map-none}
use Rattle.lists.proofs.Parts.{count_by-append, count_by-cons}
use Rattle.lists.proofs.Ranges.{flat_map_range_more}
use Rattle.transcripts.proofs.Account.{HasLane, formed_lane}
use Rattle.transcripts.proofs.Pushes.{given_to_is}
use Rattle.transcripts.specs.Lawful.{IsFormed}
use Rattle.transcripts.specs.Replies.{replies_in}
use Rattle.transcripts.specs.Transcript.{given_to, out}
use Rattle.world_laws.proofs.Additions.{beside_at, none_added}
use Rattle.world_laws.proofs.Consistent.{consistent_none, hand_some}
use Rattle.world_laws.proofs.Fronts.{none_next}
use Rattle.world_laws.proofs.LogMoves.{world_at, log_leads}
use Rattle.world_laws.proofs.Worlds.{LeadsTo-append, LeadsTo-end, at_each, at_lane-same, at_lane-other, same_worlds}
use Rattle.world_laws.specs.Logged.{as_logged, forwards_first, moves_from, untaken_moves}
use Rattle.world_laws.specs.World.{World, Submits, IsConsistent, LeadsTo, MaySubmit, moved, at_lane, empty}

-- ---- replies of one lane, one after another

-- the world with more replies of the lane
abbrev with_replies : World → ℕ → List Reply → World
with_replies w l rs = record { log = w.log; received = w.received; submitted = at_lane l (w.submitted l ++ rs) w.submitted }

-- all of them fit
record MaySubmitAll (p : Plan) (w : World) (l : ℕ) (all : List Reply) : Type 0 where
  received : w.received l ≤ length (out w.log l)
  fewer : count_by is_answer all ≤ w.received l
  beside : AreBeside (w.received l) all
  own : length p.ports ≤ l → count_by is_new_reply all ≡ 0

may_submit_next : (p : Plan) (w : World) (l : ℕ) (r : Reply) (rs : List Reply) → MaySubmitAll p w l (w.submitted l ++ r ∷ rs) → MaySubmit p w l r
may_submit_next p w l r rs may = record {
  own = λ new. ⊎_elim (λ own. own) (λ past. absurd (none_past new (may.own past))) (cases_lt l (length p.ports));
  held = λ answer. hand_some w l may.received
      (omega (arith, count_by-append is_answer (w.submitted l) (r ∷ rs), count_by-cons is_answer r rs, cond-true {A = ℕ} (is_answer r) 1 0 answer, may.fewer));
  beside = λ more. let before = beside_at (w.received l) (w.submitted l) r rs may.beside more in (hand_some w l may.received before.0, before.1);
}
  where
    none_past : is_new_reply r ≡ true → count_by is_new_reply (w.submitted l ++ r ∷ rs) ≡ 0 → ⊥
    none_past new none =
        absurd (omega (arith, count_by-append is_new_reply (w.submitted l) (r ∷ rs), count_by-cons is_new_reply r rs, cond-true {A = ℕ} (is_new_reply r) 1 0 new))

submit_all : (p : Plan) (w : World) (l : ℕ) (rs : List Reply) → MaySubmitAll p w l (w.submitted l ++ rs) → LeadsTo p w (map (Submits l) rs) (with_replies w l rs)
submit_all p w l [] may =
    same_worlds w (with_replies w l []) refl (λ m. refl)
    (λ m. sym (at_each (λ k us. us ≡ w.submitted k) l (w.submitted l ++ []) w.submitted (append-nil (w.submitted l)) (λ k differs. refl) m))
submit_all p w l (r ∷ rs) may =
    let next : World = moved w (Submits l r) in
    let all : next.submitted l ++ rs ≡ w.submitted l ++ r ∷ rs =
    ap (λ us. us ++ rs) (at_lane-same l (w.submitted l ++ r ∷ []) w.submitted) ∙ append_assoc (w.submitted l) (r ∷ []) rs in (
      may_submit_next p w l r rs may,
      LeadsTo-end p next (with_replies next l rs) (with_replies w l (r ∷ rs)) (map (Submits l) rs)
          (submit_all p next l rs (subst (λ us. MaySubmitAll p next l us) (sym all) (record { received = may.received; fewer = may.fewer; beside = may.beside; own = may.own })))
          (same_worlds (with_replies next l rs) (with_replies w l (r ∷ rs)) refl (λ m. refl)
          (at_each (λ k us. us ≡ at_lane l (w.submitted l ++ r ∷ rs) w.submitted k) l (next.submitted l ++ rs) next.submitted
          (all ∙ sym (at_lane-same l (w.submitted l ++ r ∷ rs) w.submitted))
          (λ k differs. at_lane-other l k (w.submitted l ++ r ∷ []) w.submitted differs ∙ sym (at_lane-other l k (w.submitted l ++ r ∷ rs) w.submitted differs)))),
    )

-- ---- lane by lane

-- the replies of the lane that were taken
abbrev taken_of : World → ℕ → List Reply
taken_of v l = take (length (replies_in v.log l)) (v.submitted l)

-- the whole log, and all replies of the lanes below n
abbrev filled : World → ℕ → World
filled v n = record { log = v.log; received = v.received; submitted = λ l. cond (nat_lt l n) (v.submitted l) (taken_of v l) }

filled_below : (v : World) (n l : ℕ) → l < n → (filled v n).submitted l ≡ v.submitted l
filled_below v n l below = cond-true (nat_lt l n) (v.submitted l) (taken_of v l) (lt-ltb l n below)

filled_past : (v : World) (n l : ℕ) → n ≤ l → (filled v n).submitted l ≡ taken_of v l
filled_past v n l past = cond-false (nat_lt l n) (v.submitted l) (taken_of v l) (le-ltb l n past)

fill_lane : (p : Plan) (v : World) (n : ℕ) → IsConsistent p v → LeadsTo p (filled v n) (untaken_moves v n) (filled v (n + 1))
fill_lane p v n c =
    LeadsTo-end p w (with_replies w n late) (filled v (n + 1)) (untaken_moves v n)
    (submit_all p w n late (subst (MaySubmitAll p w n) (sym all) (record { received = c.received n; fewer = c.fewer n; beside = c.beside n; own = c.own n })))
    (same_worlds (with_replies w n late) (filled v (n + 1)) refl (λ m. refl)
    (at_each (λ k us. us ≡ (filled v (n + 1)).submitted k) n (w.submitted n ++ late) w.submitted (all ∙ sym (filled_below v (n + 1) n (omega arith))) other))
  where
    w : World
    w = filled v n

    late : List Reply
    late = drop (length (replies_in v.log n)) (v.submitted n)

    all : w.submitted n ++ late ≡ v.submitted n
    all = ap (λ us. us ++ late) (filled_past v n n (omega arith)) ∙ take-append-drop (length (replies_in v.log n)) (v.submitted n)

    other : (k : ℕ) → k ≢ n → w.submitted k ≡ (filled v (n + 1)).submitted k
    other k differs =
        ⊎_elim
        (λ below. filled_below v n k below ∙ sym (filled_below v (n + 1) k (omega arith)))
        (λ past. filled_past v n k past ∙ sym (filled_past v (n + 1) k (omega arith)))
        (cases_lt k n)

fill_lanes : (p : Plan) (v : World) (n : ℕ) → IsConsistent p v → LeadsTo p (filled v 0) (flat_map (untaken_moves v) (range_with_len 0 n)) (filled v n)
fill_lanes p v zero c = refl
fill_lanes p v (suc n) c =
    subst (λ k. LeadsTo p (filled v 0) (flat_map (untaken_moves v) (range_with_len 0 k)) (filled v k)) (add-one n)
    (subst (λ moves. LeadsTo p (filled v 0) moves (filled v (n + 1))) (sym (flat_map_range_more (untaken_moves v) n))
    (LeadsTo-append p (filled v 0) (filled v n) (filled v (n + 1)) (flat_map (untaken_moves v) (range_with_len 0 n)) (untaken_moves v n) (fill_lanes p v n c) (fill_lane p v n c)))

-- ---- a lane that isn't there

not_given : (p : Plan) (l : ℕ) (s : Step) → lanes_of p ≤ l → HasLane p s → given_to l s ≡ None
not_given p l s past there = by_case (given_to l s) refl
  where
    by_case : (o : Option (ℕ × ℕ)) → given_to l s ≡ o → given_to l s ≡ None
    by_case None is = is
    by_case (Some x) is = let within : l < lanes_of p = subst (HasLane p) (given_to_is l s x is) there in absurd (omega arith)

-- each reply is a NEW, an answer or an addition
kinds : (rs : List Reply) → count_by is_new_reply rs + count_by is_answer rs + count_by is_more_reply rs ≡ length rs
kinds [] = refl
kinds (r ∷ rs) =
    omega (arith, count_by-cons is_new_reply r rs, count_by-cons is_answer r rs, count_by-cons is_more_reply r rs, kinds rs, one_of r.event.op)
  where
    one_of : (o : Op) → cond (is_new_op o) 1 0 + cond (is_answer_op o) 1 0 + cond (is_more_op o) 1 0 ≡ 1
    one_of ops.New = refl
    one_of ops.Forward = refl
    one_of ops.Release = refl
    one_of ops.ForwardMore = refl

silent_past : (p : Plan) (v : World) (l : ℕ) → IsConsistent p v → lanes_of p ≤ l → v.submitted l ≡ []
unfolding out
silent_past p v l c past =
    let none : out v.log l ≡ [] =
    filter_map-none (given_to l) v.log (All-weaker (IsFormed p) (λ s. given_to l s ≡ None) (λ s f. not_given p l s past (formed_lane p s f)) v.log c.lawful.formed) in
    let beyond : length p.ports ≤ l = ⊎_elim (λ own. let lane : l < lanes_of p = port_is_lane p l own in absurd (omega arith)) (λ past. past) (cases_lt l (length p.ports)) in
    let no_new : count_by is_new_reply (v.submitted l) ≡ 0 = c.own l beyond in
    let unreceived : v.received l ≡ 0 = omega (arith, c.received l, ap length none) in
    let no_more = none_added (v.submitted l) (subst (λ n. AreBeside n (v.submitted l)) unreceived (c.beside l)) in
    nil_from_length (v.submitted l) (omega (arith, kinds (v.submitted l), c.fewer l))

-- ---- the whole

at_start : (v : World) → world_at v [] ≡ empty
unfolding out replies_in
at_start v = same_worlds (world_at v []) empty refl (λ m. omega arith) (λ m. refl)

at_end : (p : Plan) (v : World) → IsConsistent p v → world_at v v.log ≡ filled v 0
at_end p v c =
    same_worlds (world_at v v.log) (filled v 0) refl (λ m. omega (arith, c.received m)) (λ m. sym (filled_past v 0 m (omega arith)))

all_filled : (p : Plan) (v : World) → IsConsistent p v → filled v (lanes_of p) ≡ v
all_filled p v c = same_worlds (filled v (lanes_of p)) v refl (λ m. refl) (λ m. ⊎_elim (λ below. filled_below v (lanes_of p) m below) (λ past. none m past) (cases_lt m (lanes_of p)))
  where
    none : (m : ℕ) → lanes_of p ≤ m → (filled v (lanes_of p)).submitted m ≡ v.submitted m
    none m past =
        filled_past v (lanes_of p) m past
        ∙ take_all (length (replies_in v.log m)) (v.submitted m) (omega (arith, ap length (silent_past p v m c past)))

pub found_is_a_run : (p : Plan) (v : World) → IsConsistent p v → length v.log < 2 ^ 63 → LeadsTo p empty (as_logged p v) v
found_is_a_run p v c short =
    LeadsTo-append p empty (world_at v v.log) v (moves_from v [] v.log) (flat_map (untaken_moves v) (lanes p)) logged
    (LeadsTo-end p (world_at v v.log) (filled v (lanes_of p)) v (flat_map (untaken_moves v) (lanes p))
    (subst (λ w. LeadsTo p w (flat_map (untaken_moves v) (lanes p)) (filled v (lanes_of p))) (sym (at_end p v c)) (fill_lanes p v (lanes_of p) c))
    (all_filled p v c))
  where
    -- no Accept of what was passed on stands first, since nothing was passed on
    none_first : forwards_first v.log ≡ []
    none_first = none_next p v.log c.lawful [] v.log refl (consistent_none p).lawful.prompt.end

    logged : LeadsTo p empty (moves_from v [] v.log) (world_at v v.log)
    logged =
        subst (λ w. LeadsTo p w (moves_from v [] v.log) (world_at v v.log)) (ap (world_at v) none_first ∙ at_start v) (log_leads p v c short [] v.log refl)
