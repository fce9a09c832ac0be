-- The order of what is received of an atomic queue: by slot as it was given, and so by flow and level as it was accepted.
use Rattle.std.specs.Prelude.{ℕ, ◌≡◌, ◌+◌, ◌-◌, ◌<◌, ◌≤◌, Bool, true, false, cond, List, [], ◌++◌, ◌==◌, length, map, drop, filter, filter_map, All, Option, Some, None, slice_get, ◌⊎◌}
use Rattle.std.proofs.Common.{refl, sym, ap, ◌∙◌, subst, arith, ⊎_elim, inl, inr, get_or}
use Rattle.std.proofs.lemmas.Bool.{and_left, both_ways, cases_Bool, cond-false}
use Rattle.std.proofs.lemmas.List.{drop-drop}
use Rattle.std.proofs.lemmas.List.Elements.{All-drop, filter_map-append}
use Rattle.evt_types.specs.Plan.{Plan, queue_of, is_atomic, level_of, slot_of}
use Rattle.evt_types.specs.declared.event.Event.{Event}
use Rattle.evt_types.specs.declared.event.Numbered.{Numbered}
use Rattle.evt_types.specs.declared.step.Step.{Step}
use Rattle.evt_types.specs.declared.step.Step.TheVariants.{Accept, Give, Done, More, Turned, Bounced, Shut}
use Rattle.lists.proofs.Lists.{All-unmap, eqb_is, eqb_same, filter_map-agree, slice_get-append_left}
use Rattle.lists.proofs.Parts.{then, passing, filter_map_twice, filter-filter_map, filter_map-filter, filter_map_apart}
use Rattle.transcripts.proofs.Facts.{unanswered_is_accepted}
use Rattle.transcripts.proofs.Pushes.{HasEvent}
use Rattle.transcripts.proofs.WholeStands.{facts_of}
use Rattle.transcripts.specs.Lawful.{IsPrefix, AreApart, is_of_flow}
use Rattle.transcripts.specs.Transcript.{accepted, accepted_in, answers, entered, event_at, given, given_of, hand, held_at, named, named_at, out, slot_at, slot_if, unanswered}
use Rattle.world_laws.proofs.Consistent.{consistent_none}
use Rattle.world_laws.proofs.Hands.{answered_few, log_alone, log_flow}
use Rattle.world_laws.proofs.Receipts.{Follows, IsApart, follows_run, gives, pair_given, pending}
use Rattle.world_laws.proofs.Worlds.{prefix_trans}
use Rattle.world_laws.specs.Order.{AreReceivedAsAccepted, AreReceivedAsGiven, is_of_slot, number_in, numbers_in}
use Rattle.world_laws.specs.World.{World, Move, IsConsistent, LeadsTo, empty, received_by_all}

-- ---- an accepted event keeps its slot

slot_stays : (p : Plan) (P T : List Step) (q n : ℕ) → IsPrefix P T → n < length (accepted P q) → slot_at p T q n ≡ slot_at p P q n
unfolding accepted
slot_stays p P T q n front within =
    ap (λ U. slot_at p U q n) (sym front.1)
    ∙ ap (slot_if p q) (ap (λ es. slice_get es n) (filter_map-append (accepted_in q) P front.0)
    ∙ slice_get-append_left (filter_map (accepted_in q) P) (filter_map (accepted_in q) front.0) n within)

-- ---- the pairs of one slot

-- the pair's number, where it is of the slot
pick : Plan → List Step → ℕ → ℕ → ℕ × ℕ → Option ℕ
pick p T q slot x = then (passing (is_of_slot p T q slot)) (number_in q x)

pick_all : (p : Plan) (T : List Step) (q slot : ℕ) (xs : List (ℕ × ℕ)) → filter (is_of_slot p T q slot) (numbers_in q xs) ≡ filter_map (pick p T q slot) xs
unfolding pick
pick_all p T q slot xs = filter-filter_map (is_of_slot p T q slot) (number_in q) xs

-- a pair of another slot or queue is left out
picked : (p : Plan) (T : List Step) (q slot : ℕ) (x : ℕ × ℕ) → (pick p T q slot x ≡ None) ⊎ ((x.0 ≡ q) × (slot_at p T q x.1 ≡ slot))
unfolding pick
picked p T q slot x = by_test (x.0 == q) (slot_at p T q x.1 == slot) refl refl
  where
    by_test : (a b : Bool) → (x.0 == q) ≡ a → (slot_at p T q x.1 == slot) ≡ b → (then (passing (is_of_slot p T q slot)) (cond (x.0 == q) (Some x.1) None) ≡ None) ⊎ ((x.0 ≡ q) × (slot_at p T q x.1 ≡ slot))
    by_test true true here of = inr (eqb_is x.0 q here, eqb_is (slot_at p T q x.1) slot of)
    by_test true false here of = inl (ap (λ b. then (passing (is_of_slot p T q slot)) (cond b (Some x.1) None)) here ∙ cond-false (slot_at p T q x.1 == slot) (Some x.1) None of)
    by_test false b here of = inl (ap (λ c. then (passing (is_of_slot p T q slot)) (cond c (Some x.1) None)) here)

-- the queue's numbers that were given
hand_gives : (T : List Step) (q : ℕ) → hand T q ≡ numbers_in q (gives T)
unfolding hand
hand_gives T q =
    filter_map-agree (given_of q) (λ s. then (number_in q) (pair_given s)) T (λ k d lt. by_step (get_or T k d))
    ∙ sym (filter_map_twice (number_in q) pair_given T)
  where
    by_step : (s : Step) → given_of q s ≡ then (number_in q) (pair_given s)
    by_step (Give l r n) = refl
    by_step (Accept r e c) = refl
    by_step (Done l o) = refl
    by_step (More l e) = refl
    by_step (Turned l e) = refl
    by_step (Bounced l) = refl
    by_step Shut = refl

-- ---- only one lane has pairs of a slot to receive

-- what holds of each unanswered pair holds of each that is yet to be received
All-pending : (p : Plan) (w : World) (l : ℕ) (P : ℕ × ℕ → Type 0) → IsConsistent p w → All P (unanswered w.log l) → All P (pending w l)
unfolding unanswered
All-pending p w l P c all =
    let few : length (answers w.log l) ≤ w.received l = omega (arith, answered_few p w l c, c.fewer l) in
    let sum : length (answers w.log l) + (w.received l - length (answers w.log l)) ≡ w.received l = omega arith in
    subst (All P) (drop-drop (w.received l - length (answers w.log l)) (length (answers w.log l)) (out w.log l) ∙ ap (λ n. drop n (out w.log l)) sum)
    (All-drop P (w.received l - length (answers w.log l)) (drop (length (answers w.log l)) (out w.log l)) all)

slot_apart : (p : Plan) (T : List Step) (q slot : ℕ) (w : World) → is_atomic (queue_of p q).kind ≡ true → IsConsistent p w → IsPrefix w.log T → IsApart (pick p T q slot) w
slot_apart p T q slot w atomic c front l m apart =
    filter_map_apart h (pending w l) (pending w m)
    (All-pending p w l (λ x. All (λ y. (h x ≡ None) ⊎ (h y ≡ None)) (pending w m)) c
    (λ k d lt. All-pending p w m (λ y. (h (get_or (unanswered w.log l) k d) ≡ None) ⊎ (h y ≡ None)) c
    (λ j e within. one (get_or (unanswered w.log l) k d) (get_or (unanswered w.log m) j e) (accepted_in_log l k d lt) (accepted_in_log m j e within) (alone k d lt j e within))))
  where
    h : ℕ × ℕ → Option ℕ
    h = pick p T q slot

    accepted_in_log : (i : ℕ) → All (HasEvent w.log) (unanswered w.log i)
    accepted_in_log i = unanswered_is_accepted p w.log i (facts_of p w.log c.lawful)

    alone : All (λ x. All (λ y. AreApart q (held_at p w.log x) (held_at p w.log y)) (unanswered w.log m)) (unanswered w.log l)
    alone k d lt =
        All-unmap (AreApart q (held_at p w.log (get_or (unanswered w.log l) k d))) (held_at p w.log) (unanswered w.log m)
        (All-unmap (λ x. All (AreApart q x) (map (held_at p w.log) (unanswered w.log m))) (held_at p w.log) (unanswered w.log l) (log_alone p w c q atomic l m apart) k d lt)

    same_slot : (x : ℕ × ℕ) → HasEvent w.log x → x.0 ≡ q → slot_at p w.log x.0 x.1 ≡ slot_at p T q x.1
    same_slot x there is = sym (slot_stays p w.log T x.0 x.1 front there) ∙ ap (λ r. slot_at p T r x.1) is

    one : (x y : ℕ × ℕ) → HasEvent w.log x → HasEvent w.log y → AreApart q (held_at p w.log x) (held_at p w.log y) → (h x ≡ None) ⊎ (h y ≡ None)
    one x y x_there y_there differ =
        ⊎_elim (λ none. inl none)
        (λ x_is. ⊎_elim (λ none. inr none)
        (λ y_is. absurd (differ x_is.0 y_is.0 (same_slot x x_there x_is.0 ∙ (x_is.1 ∙ sym (same_slot y y_there y_is.0 ∙ y_is.1)))))
        (picked p T q slot y))
        (picked p T q slot x)

-- ---- the orders

-- nothing is received before anything is given
follows_none : (h : ℕ × ℕ → Option ℕ) → Follows h empty []
unfolding out
follows_none h = record { lane = 0; same = refl; others = λ m differs. refl }

pub received_as_given : (p : Plan) (moves : List Move) (v : World) → LeadsTo p empty moves v → AreReceivedAsGiven p v.log (received_by_all moves)
received_as_given p moves v leads q atomic slot =
    let h = pick p v.log q slot in
    let f : Follows h v (received_by_all moves) = follows_run p h empty v moves [] leads (λ u c front. slot_apart p v.log q slot u atomic c front) (consistent_none p) (follows_none h) in (
      filter_map h (pending v f.lane),
      ap (λ xs. xs ++ filter_map h (pending v f.lane)) (pick_all p v.log q slot (received_by_all moves))
          ∙ (f.same ∙ sym (ap (filter (is_of_slot p v.log q slot)) (hand_gives v.log q) ∙ pick_all p v.log q slot (gives v.log))),
    )

-- the number's event, where it is of the flow and the level
of_flow : List Step → ℕ → ℕ → ℕ → ℕ → Option Numbered
of_flow T q f c n = then (passing (is_of_flow f c)) (named_at T q n)

of_flow_all : (T : List Step) (q f c : ℕ) (ns : List ℕ) → filter (is_of_flow f c) (filter_map (named_at T q) ns) ≡ filter_map (of_flow T q f c) ns
unfolding of_flow
of_flow_all T q f c ns = filter-filter_map (is_of_flow f c) (named_at T q) ns

-- the events of a flow are of one slot
flow_in_slot : (p : Plan) (T : List Step) (q f c n : ℕ) → is_of_slot p T q (slot_of p q f) n ≡ false → of_flow T q f c n ≡ None
unfolding of_flow
flow_in_slot p T q f c n other = by_event (event_at T q n) other
  where
    by_event : (o : Option Event) → (slot_if p q o == slot_of p q f) ≡ false → then (passing (is_of_flow f c)) (named n o) ≡ None
    by_event None h = refl
    by_event (Some e) h = cond-false (is_of_flow f c w) (Some w) None (and_left (e.flow == f) (level_of e == c) (⊎_elim (λ same. absurd (one_slot same)) (λ differs. differs) (cases_Bool (e.flow == f))))
      where
        w : Numbered
        w = record { number = n; event = e }

        one_slot : (e.flow == f) ≡ true → ⊥
        one_slot same = both_ways (slot_of p q f == slot_of p q f) (subst (λ g. (slot_of p q g == slot_of p q f) ≡ false) (eqb_is e.flow f same) h) (eqb_same (slot_of p q f))

pub received_as_accepted : (p : Plan) (moves : List Move) (v : World) → LeadsTo p empty moves v → IsConsistent p v → AreReceivedAsAccepted p v.log (received_by_all moves)
received_as_accepted p moves v leads c q atomic f level =
    prefix_trans (filter (is_of_flow f level) (filter_map (named_at v.log q) ns)) (filter (is_of_flow f level) (given v.log q)) (filter (is_of_flow f level) (entered v.log q))
    received_first ((log_flow p v c).atomic q atomic f level)
  where
    ns : List ℕ
    ns = numbers_in q (received_by_all moves)

    g : ℕ → Option Numbered
    g = of_flow v.log q f level

    in_slot : ℕ → Bool
    in_slot = is_of_slot p v.log q (slot_of p q f)

    -- the events of the flow, by those of its slot
    by_slot : (ms : List ℕ) → filter (is_of_flow f level) (filter_map (named_at v.log q) ms) ≡ filter_map g (filter in_slot ms)
    by_slot ms = of_flow_all v.log q f level ms ∙ sym (filter_map-filter g in_slot ms (flow_in_slot p v.log q f level))

    received_first : IsPrefix (filter (is_of_flow f level) (filter_map (named_at v.log q) ns)) (filter (is_of_flow f level) (given v.log q))
    received_first =
        let front = received_as_given p moves v leads q atomic (slot_of p q f) in (
          filter_map g front.0,
          ap (λ xs. xs ++ filter_map g front.0) (by_slot ns)
              ∙ (sym (filter_map-append g (filter in_slot ns) front.0) ∙ (ap (filter_map g) front.1 ∙ sym (by_slot (hand v.log q)))),
        )
