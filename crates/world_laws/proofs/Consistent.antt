-- Each move keeps a world consistent.
use Rattle.std.specs.Prelude.{ℕ, ◌≡◌, ◌≢◌, ◌+◌, ◌<◌, ◌≤◌, true, false, List, [], ◌∷◌, ◌++◌, ◌==◌, length, map, take, fold, count_by, None, if◌then◌else◌}
use Rattle.std.specs.List.{cons_option}
use Rattle.std.proofs.Common.{refl, sym, ap, ◌∙◌, subst, arith, ⊎_elim, zero, suc, append-nil, length-append, length-drop, length-take}
use Rattle.std.proofs.lemmas.Bool.{cases_Bool, cases_eq, cond-true, cond-false}
use Rattle.evt_types.proofs.Additions.{beside-append, beside-kept, beside-none}
use Rattle.evt_types.specs.Additions.{AreBeside, extras_of}
use Rattle.evt_types.specs.Operation.{is_answer, is_more_reply, is_new_reply}
use Rattle.evt_types.specs.Plan.{Plan, lanes_of}
use Rattle.evt_types.specs.declared.event.Reply.{Reply}
use Rattle.evt_types.specs.declared.event.TheConstants.{MAX_EXTRAS}
use Rattle.evt_types.specs.declared.step.Step.{Step}
use Rattle.evt_types.specs.declared.step.Step.TheVariants as steps
use Rattle.lists.proofs.Lists.{eqb_same, eqb_other}
use Rattle.lists.proofs.Parts.{count_by-push}
use Rattle.transcripts.proofs.Pushes.{out-push}
use Rattle.transcripts.proofs.Replies.{form_out, form_replies, out-append, replies_in-append, replies_in-none}
use Rattle.transcripts.proofs.WholeStands.{stands_bounced, stands_none, stands_shut}
use Rattle.transcripts.specs.Lawful.{Lawful, IsPrefix}
use Rattle.transcripts.specs.Replies.{said, said_in, replies_in}
use Rattle.transcripts.specs.Standing.{view_of}
use Rattle.transcripts.specs.Transcript.{out, given_to, has_shut}
use Rattle.world_laws.proofs.Said.{prefix_push, prefix_next}
use Rattle.world_laws.proofs.Worlds.{at_each}
use Rattle.world_laws.specs.World.{World, Move, Submits, Takes, Gives, Receives, Bounces, Shuts, IsConsistent, LeadsTo, MaySubmit, MayTake, May, moved, with_steps, empty, in_hand}

-- ---- the log stays lawful

empty_lawful : (p : Plan) → Lawful p []
unfolding view_of
empty_lawful p = (stands_none p).lawful

bounced_lawful : (p : Plan) (T : List Step) (l : ℕ) → Lawful p T → l < lanes_of p → Lawful p (T ++ steps.Bounced l ∷ [])
unfolding view_of
bounced_lawful p T l lawful lane = (stands_bounced (view_of p T) T l (record { lawful = lawful; holds = refl }) lane).lawful

shut_lawful : (p : Plan) (T : List Step) → Lawful p T → has_shut T ≡ false → Lawful p (T ++ steps.Shut ∷ [])
unfolding view_of
shut_lawful p T lawful unshut = (stands_shut (view_of p T) T unshut (record { lawful = lawful; holds = refl })).lawful

-- ---- each kind of move

pub consistent_none : (p : Plan) → IsConsistent p empty
unfolding replies_in
consistent_none p =
    record {
      lawful = empty_lawful p;
      received = λ l. omega arith;
      fewer = λ l. omega arith;
      beside = λ l. beside-none 0;
      taken = λ l. ([], refl);
      own = λ l past. refl;
    }

-- more is in the lane's hand than it answered
pub hand_length : (w : World) (l : ℕ) → 0 < length (in_hand w l) → count_by is_answer (w.submitted l) < w.received l
hand_length w l some =
    omega (arith, length-drop (count_by is_answer (w.submitted l)) (take (w.received l) (out w.log l)), length-take (w.received l) (out w.log l))

-- and where it answered less than it received, something is
pub hand_some : (w : World) (l : ℕ) → w.received l ≤ length (out w.log l) → count_by is_answer (w.submitted l) < w.received l → 0 < length (in_hand w l)
hand_some w l given fewer =
    omega (arith, length-drop (count_by is_answer (w.submitted l)) (take (w.received l) (out w.log l)), length-take (w.received l) (out w.log l))

submits : (p : Plan) (w : World) (l : ℕ) (r : Reply) → IsConsistent p w → MaySubmit p w l r → IsConsistent p (moved w (Submits l r))
submits p w l r c may =
    record {
      lawful = c.lawful;
      received = c.received;
      fewer = at_each (λ m rs. count_by is_answer rs ≤ w.received m) l (w.submitted l ++ r ∷ []) w.submitted (⊎_elim answer other (cases_Bool (is_answer r))) (λ m differs. c.fewer m);
      beside = at_each (λ m rs. AreBeside (w.received m) rs) l (w.submitted l ++ r ∷ []) w.submitted (beside-append (w.received l) (w.submitted l) r (c.beside l) added) (λ m differs. c.beside m);
      taken = at_each (λ m rs. IsPrefix (replies_in w.log m) (map said rs)) l (w.submitted l ++ r ∷ []) w.submitted (prefix_push (replies_in w.log l) (w.submitted l) r (c.taken l)) (λ m differs. c.taken m);
      own = at_each (λ m rs. length p.ports ≤ m → count_by is_new_reply rs ≡ 0) l (w.submitted l ++ r ∷ []) w.submitted (λ past. ⊎_elim (new past) (old past) (cases_Bool (is_new_reply r))) (λ m differs. c.own m);
    }
  where
    answer : is_answer r ≡ true → count_by is_answer (w.submitted l ++ r ∷ []) ≤ w.received l
    answer h =
        omega (arith, hand_length w l (may.held h), count_by-push is_answer (w.submitted l) r, cond-true {A = ℕ} (is_answer r) 1 0 h)

    other : is_answer r ≡ false → count_by is_answer (w.submitted l ++ r ∷ []) ≤ w.received l
    other h = omega (arith, c.fewer l, count_by-push is_answer (w.submitted l) r, cond-false {A = ℕ} (is_answer r) 1 0 h)

    added : is_more_reply r ≡ true → (count_by is_answer (w.submitted l) < w.received l) × (extras_of (w.submitted l) < MAX_EXTRAS)
    added h = (hand_length w l (may.beside h).0, (may.beside h).1)

    new : length p.ports ≤ l → is_new_reply r ≡ true → count_by is_new_reply (w.submitted l ++ r ∷ []) ≡ 0
    new past h = let own = may.own h in absurd (omega arith)

    old : length p.ports ≤ l → is_new_reply r ≡ false → count_by is_new_reply (w.submitted l ++ r ∷ []) ≡ 0
    old past h =
        let before : count_by is_new_reply (w.submitted l) ≡ 0 = c.own l past in
        omega (arith, count_by-push is_new_reply (w.submitted l) r, cond-false {A = ℕ} (is_new_reply r) 1 0 h)

-- the steps of a reply give nothing
pub taken_out : (p : Plan) (w : World) (l : ℕ) (taken : List Step) → MayTake p w l taken → (m : ℕ) → out (w.log ++ taken) m ≡ out w.log m
taken_out p w l taken may m =
    out-append w.log taken m
    ∙ (ap (λ xs. out w.log m ++ xs) (form_out may.reply.event.op w.log l may.reply.event taken may.are.form m) ∙ append-nil (out w.log m))

takes : (p : Plan) (w : World) (l : ℕ) (taken : List Step) → IsConsistent p w → MayTake p w l taken → IsConsistent p (moved w (Takes l taken))
takes p w l taken c may =
    record {
      lawful = may.are.lawful;
      received = λ m. subst (λ xs. w.received m ≤ length xs) (sym (taken_out p w l taken may m)) (c.received m);
      fewer = c.fewer;
      beside = c.beside;
      taken = λ m. subst (λ xs. IsPrefix xs (map said (w.submitted m))) (sym (said_more m)) (⊎_elim (here m) (other m) (cases_eq m l));
      own = c.own;
    }
  where
    said_more : (m : ℕ) → replies_in (w.log ++ taken) m ≡ replies_in w.log m ++ (if m == l then said may.reply ∷ [] else [])
    said_more m =
        replies_in-append w.log taken m
        ∙ ap (λ xs. replies_in w.log m ++ xs) (form_replies may.reply.event.op w.log l may.reply.event taken may.are.form m)

    here : (m : ℕ) → m ≡ l → IsPrefix (replies_in w.log m ++ (if m == l then said may.reply ∷ [] else [])) (map said (w.submitted m))
    here m same =
        subst (λ k. IsPrefix (replies_in w.log k ++ (if k == l then said may.reply ∷ [] else [])) (map said (w.submitted k))) (sym same)
        (subst (λ xs. IsPrefix (replies_in w.log l ++ xs) (map said (w.submitted l))) (sym (cond-true (l == l) (said may.reply ∷ []) [] (eqb_same l)))
        (prefix_next (replies_in w.log l) (w.submitted l) may.reply (c.taken l) may.next))

    other : (m : ℕ) → m ≢ l → IsPrefix (replies_in w.log m ++ (if m == l then said may.reply ∷ [] else [])) (map said (w.submitted m))
    other m differs =
        subst (λ xs. IsPrefix (replies_in w.log m ++ xs) (map said (w.submitted m))) (sym (cond-false (m == l) (said may.reply ∷ []) [] (eqb_other m l differs)))
        (subst (λ xs. IsPrefix xs (map said (w.submitted m))) (sym (append-nil (replies_in w.log m))) (c.taken m))

-- a step that no lane said
steps_silently : (p : Plan) (w : World) (s : Step) → IsConsistent p w → Lawful p (w.log ++ s ∷ []) → ((m : ℕ) → said_in m s ≡ None) → IsConsistent p (with_steps w (s ∷ []))
steps_silently p w s c lawful silent =
    record {
      lawful = lawful;
      received = λ m.
          omega (arith, c.received m, ap length (out-push w.log m s), length-append (out w.log m) (cons_option (given_to m s) []));
      fewer = c.fewer;
      beside = c.beside;
      taken = λ m. subst (λ xs. IsPrefix xs (map said (w.submitted m))) (sym (replies_in-none w.log m s (silent m))) (c.taken m);
      own = c.own;
    }

receives : (p : Plan) (w : World) (l : ℕ) → IsConsistent p w → w.received l < length (out w.log l) → IsConsistent p (moved w (Receives l))
receives p w l c may =
    record {
      lawful = c.lawful;
      received = at_each (λ m n. n ≤ length (out w.log m)) l (w.received l + 1) w.received (omega arith) (λ m differs. c.received m);
      fewer = at_each (λ m n. count_by is_answer (w.submitted m) ≤ n) l (w.received l + 1) w.received (omega (arith, c.fewer l)) (λ m differs. c.fewer m);
      beside = at_each (λ m n. AreBeside n (w.submitted m)) l (w.received l + 1) w.received (beside-kept (w.received l) (w.received l + 1) (w.submitted l) (omega arith) (c.beside l)) (λ m differs. c.beside m);
      taken = c.taken;
      own = c.own;
    }

pub consistent_moved : (p : Plan) (w : World) (m : Move) → IsConsistent p w → May p w m → IsConsistent p (moved w m)
consistent_moved p w (Submits l r) c may = submits p w l r c may
consistent_moved p w (Takes l taken) c may = takes p w l taken c may
consistent_moved p w (Gives l q n) c may = steps_silently p w (steps.Give l q n) c may (λ m. refl)
consistent_moved p w (Receives l) c may = receives p w l c may
consistent_moved p w (Bounces l) c may = steps_silently p w (steps.Bounced l) c (bounced_lawful p w.log l c.lawful may) (λ m. refl)
consistent_moved p w Shuts c may = steps_silently p w steps.Shut c (shut_lawful p w.log c.lawful may) (λ m. refl)

-- ---- a run

-- after its first k moves
pub consistent_run : (p : Plan) (w v : World) (moves : List Move) → LeadsTo p w moves v → IsConsistent p w → (k : ℕ) → IsConsistent p (fold moved w (take k moves))
consistent_run p w v moves leads c zero = c
consistent_run p w v [] leads c (suc k) = c
consistent_run p w v (m ∷ moves) leads c (suc k) = consistent_run p (moved w m) v moves leads.1 (consistent_moved p w m c leads.0) k

-- and at its end
pub consistent_end : (p : Plan) (w v : World) (moves : List Move) → LeadsTo p w moves v → IsConsistent p w → IsConsistent p v
consistent_end p w v [] leads c = subst (IsConsistent p) leads c
consistent_end p w v (m ∷ moves) leads c = consistent_end p (moved w m) v moves leads.1 (consistent_moved p w m c leads.0)
