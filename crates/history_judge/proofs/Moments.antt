-- The moments of a run: what was logged, received and submitted only grows; and the moves that were made by a time.
use Rattle.std.specs.Prelude.{ℕ, ◌≡◌, ◌≢◌, ◌+◌, ◌<◌, ◌≤◌, true, false, List, [], ◌∷◌, ◌++◌, take, drop, fold, nat_le, Some, slice_get, if◌then◌else◌}
use Rattle.std.proofs.Common.{zero, suc, refl, sym, ap, ◌∙◌, subst, arith, ⊎_elim, append-nil}
use Rattle.std.proofs.lemmas.Bool.{cases_Bool, cond-true, cond-false, false≢true, le-leb, leb-true}
use Rattle.std.proofs.lemmas.List.{take-append-drop, take-take}
use Rattle.std.proofs.lemmas.List.Sums.{fold-append}
use Rattle.evt_types.specs.Plan.{Plan}
use Rattle.evt_types.specs.declared.step.Step.TheVariants as steps
use Rattle.lists.proofs.Parts.{take_next}
use Rattle.transcripts.specs.Lawful.{IsPrefix}
use Rattle.world_laws.proofs.Worlds.{at_each, prefix_trans}
use Rattle.world_laws.specs.World.{World, Move, Submits, Takes, Gives, Receives, Bounces, Shuts, LeadsTo, after_moves, empty, moved}

-- ---- a world grows

pub record Grows (w u : World) : Type 0 where
  pub log : IsPrefix w.log u.log
  pub received : (l : ℕ) → w.received l ≤ u.received l
  pub submitted : (l : ℕ) → IsPrefix (w.submitted l) (u.submitted l)

prefix_same : {X : Type 0} (xs : List X) → IsPrefix xs xs
prefix_same xs = ([], append-nil xs)

grows_same : (w : World) → Grows w w
grows_same w = record { log = prefix_same w.log; received = λ l. omega arith; submitted = λ l. prefix_same (w.submitted l) }

grows_on : (w u v : World) → Grows w u → Grows u v → Grows w v
grows_on w u v a b =
    record {
      log = prefix_trans w.log u.log v.log a.log b.log;
      received = λ l. omega (arith, a.received l, b.received l);
      submitted = λ l. prefix_trans (w.submitted l) (u.submitted l) (v.submitted l) (a.submitted l) (b.submitted l);
    }

grows_move : (w : World) (m : Move) → Grows w (moved w m)
grows_move w (Submits l r) =
    record {
      log = prefix_same w.log;
      received = λ k. omega arith;
      submitted = at_each (λ k rs. IsPrefix (w.submitted k) rs) l (w.submitted l ++ r ∷ []) w.submitted (r ∷ [], refl) (λ k differs. prefix_same (w.submitted k));
    }
grows_move w (Takes l taken) =
    record { log = (taken, refl); received = λ k. omega arith; submitted = λ k. prefix_same (w.submitted k) }
grows_move w (Gives l q n) =
    record { log = (steps.Give l q n ∷ [], refl); received = λ k. omega arith; submitted = λ k. prefix_same (w.submitted k) }
grows_move w (Receives l) =
    record {
      log = prefix_same w.log;
      received = at_each (λ k n. w.received k ≤ n) l (w.received l + 1) w.received (omega arith) (λ k differs. omega arith);
      submitted = λ k. prefix_same (w.submitted k);
    }
grows_move w (Bounces l) =
    record { log = (steps.Bounced l ∷ [], refl); received = λ k. omega arith; submitted = λ k. prefix_same (w.submitted k) }
grows_move w Shuts =
    record { log = (steps.Shut ∷ [], refl); received = λ k. omega arith; submitted = λ k. prefix_same (w.submitted k) }

grows_moves : (w : World) (moves : List Move) → Grows w (fold moved w moves)
grows_moves w [] = grows_same w
grows_moves w (m ∷ moves) =
    grows_on w (moved w m) (fold moved (moved w m) moves) (grows_move w m) (grows_moves (moved w m) moves)

-- ---- the moments of a run

pub grows_to_moment : (moves : List Move) (j k : ℕ) → j ≤ k → Grows (after_moves moves j) (after_moves moves k)
grows_to_moment moves j k le =
    subst (Grows (after_moves moves j)) (sym (fold-append moved empty (take j moves) rest) ∙ ap (fold moved empty) whole)
    (grows_moves (after_moves moves j) rest)
  where
    rest : List Move
    rest = drop j (take k moves)

    whole : take j moves ++ rest ≡ take k moves
    whole = ap (λ ms. ms ++ rest) (sym (take-take j k moves le)) ∙ take-append-drop j (take k moves)

end_of_run : (p : Plan) (w v : World) (moves : List Move) → LeadsTo p w moves v → fold moved w moves ≡ v
end_of_run p w v [] leads = leads
end_of_run p w v (m ∷ moves) leads = end_of_run p (moved w m) v moves leads.1

pub grows_to_end : (p : Plan) (v : World) (moves : List Move) (k : ℕ) → LeadsTo p empty moves v → Grows (after_moves moves k) v
grows_to_end p v moves k leads =
    subst (Grows (after_moves moves k))
    (sym (fold-append moved empty (take k moves) (drop k moves))
    ∙ (ap (fold moved empty) (take-append-drop k moves) ∙ end_of_run p empty v moves leads))
    (grows_moves (after_moves moves k) (drop k moves))

-- after one move more
pub moment_moves : (moves : List Move) (k : ℕ) (m : Move) → slice_get moves k ≡ Some m → after_moves moves (k + 1) ≡ moved (after_moves moves k) m
moment_moves moves k m at = ap (fold moved empty) (take_next moves k m at) ∙ fold-append moved empty (take k moves) (m ∷ [])

-- ---- times

-- how many of the first n moves were made by the time t, where the clock rises
abbrev pub made_by : (ℕ → ℕ) → ℕ → ℕ → ℕ
made_by clock t zero = zero
made_by clock t (suc n) = if nat_le (clock n) t then suc n else made_by clock t n

-- a move that was made by then isn't one that wasn't
is_before : (clock : ℕ → ℕ) (t n j : ℕ) → j < suc n → clock j ≤ t → nat_le (clock n) t ≡ false → j < n
is_before clock t n j lt early later = let other : j ≢ n = differs in omega (arith, lt, other)
  where
    differs : j ≡ n → ⊥
    differs same = false≢true (sym later ∙ le-leb (clock n) t (subst (λ k. clock k ≤ t) same early))

-- a move that was made by then is one of them
pub made_early : (clock : ℕ → ℕ) (t n j : ℕ) → j < n → clock j ≤ t → j < made_by clock t n
made_early clock t zero j lt early = absurd (omega arith)
made_early clock t (suc n) j lt early =
    ⊎_elim
    (λ by_then. subst (λ k. j < k) (sym (cond-true (nat_le (clock n) t) (suc n) (made_by clock t n) by_then)) lt)
    (λ later.
    subst (λ k. j < k) (sym (cond-false (nat_le (clock n) t) (suc n) (made_by clock t n) later))
    (made_early clock t n j (is_before clock t n j lt early later) early))
    (cases_Bool (nat_le (clock n) t))

-- and each of them was made by then
pub made_late : (clock : ℕ → ℕ) (t n j : ℕ) → ((i k : ℕ) → i ≤ k → clock i ≤ clock k) → j < made_by clock t n → clock j ≤ t
made_late clock t zero j rises lt = absurd (omega arith)
made_late clock t (suc n) j rises lt =
    ⊎_elim
    (λ by_then. by_last by_then (subst (λ k. j < k) (cond-true (nat_le (clock n) t) (suc n) (made_by clock t n) by_then) lt))
    (λ later. made_late clock t n j rises (subst (λ k. j < k) (cond-false (nat_le (clock n) t) (suc n) (made_by clock t n) later) lt))
    (cases_Bool (nat_le (clock n) t))
  where
    by_last : nat_le (clock n) t ≡ true → j < suc n → clock j ≤ t
    by_last by_then below = omega (arith, rises j n (omega (arith, below)), leb-true (clock n) t by_then)
