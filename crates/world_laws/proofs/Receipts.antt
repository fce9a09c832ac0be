-- What is received in a run. Where of some pairs only one lane ever has some to receive, they are received in the order in which
-- they were given, over all lanes.
use Rattle.std.specs.Prelude.{ℕ, ◌≡◌, ◌≢◌, ◌+◌, ◌<◌, true, List, [], ◌∷◌, ◌++◌, ◌==◌, length, take, drop, Option, Some, None, filter_map, slice_get, ◌⊎◌, if◌then◌else◌}
use Rattle.std.specs.List.{cons_option}
use Rattle.std.proofs.Common.{refl, sym, ap, ◌∙◌, subst, ⊎_elim, append_assoc, append-nil}
use Rattle.std.proofs.lemmas.Bool.{cases_eq, cond-true, cond-false}
use Rattle.std.proofs.lemmas.List.{drop-append-le, take-append-le}
use Rattle.std.proofs.lemmas.List.Elements.{filter_map-append}
use Rattle.evt_types.specs.Plan.{Plan}
use Rattle.evt_types.specs.declared.step.Step.{Step}
use Rattle.evt_types.specs.declared.step.Step.TheVariants.{Accept, Give, Done, More, Turned, Bounced, Shut}
use Rattle.lists.proofs.Lists.{eqb_same, eqb_other, more_some, more_none, drop-slice_get, slice_get-some}
use Rattle.lists.proofs.Parts.{append_option, take_next}
use Rattle.transcripts.proofs.Pushes.{given_to-same, given_to-other, out-none, out-push, out-some}
use Rattle.transcripts.proofs.Replies.{form_out}
use Rattle.transcripts.specs.Lawful.{IsPrefix}
use Rattle.transcripts.specs.Transcript.{out, given_to}
use Rattle.world_laws.proofs.Consistent.{consistent_moved, taken_out}
use Rattle.world_laws.proofs.Worlds.{at_lane-same, at_lane-other, log_grows}
use Rattle.world_laws.specs.World.{World, Move, Submits, Takes, Gives, Receives, Bounces, Shuts, IsConsistent, LeadsTo, May, moved, with_steps, at_lane, receipt, receipts}

-- ---- what one lane receives

-- where a step is added, what was received stays
same_front : (p : Plan) (w : World) (s : Step) (l : ℕ) → IsConsistent p w → take (w.received l) (out (w.log ++ s ∷ []) l) ≡ take (w.received l) (out w.log l) ++ []
same_front p w s l c =
    ap (take (w.received l)) (out-push w.log l s)
    ∙ (take-append-le (w.received l) (out w.log l) (cons_option (given_to l s) []) (c.received l) ∙ sym (append-nil (take (w.received l) (out w.log l))))

-- the lane that receives, and another
front_receives : (w : World) (l : ℕ) → w.received l < length (out w.log l)
    → take (at_lane l (w.received l + 1) w.received l) (out w.log l) ≡ take (w.received l) (out w.log l) ++ cons_option (if l == l then slice_get (out w.log l) (w.received l) else None) []
front_receives w l may =
    let next = slice_get-some (out w.log l) (w.received l) may in
    ap (λ n. take n (out w.log l)) (at_lane-same l (w.received l + 1) w.received)
    ∙ (take_next (out w.log l) (w.received l) next.0 next.1
    ∙ ap (λ o. take (w.received l) (out w.log l) ++ cons_option o []) (sym (cond-true (l == l) (slice_get (out w.log l) (w.received l)) None (eqb_same l) ∙ next.1)))

front_stays : (w : World) (k l : ℕ) → l ≢ k
    → take (at_lane k (w.received k + 1) w.received l) (out w.log l) ≡ take (w.received l) (out w.log l) ++ cons_option (if k == l then slice_get (out w.log k) (w.received k) else None) []
front_stays w k l differs =
    ap (λ n. take n (out w.log l)) (at_lane-other k l (w.received k + 1) w.received differs)
    ∙ (sym (append-nil (take (w.received l) (out w.log l)))
    ∙ ap (λ o. take (w.received l) (out w.log l) ++ cons_option o []) (sym (cond-false (k == l) (slice_get (out w.log k) (w.received k)) None (eqb_other k l (λ e. differs (sym e))))))

front_moved : (p : Plan) (w : World) (m : Move) (l : ℕ) → IsConsistent p w → May p w m
    → take ((moved w m).received l) (out (moved w m).log l) ≡ take (w.received l) (out w.log l) ++ cons_option (receipt (λ k. k == l) w m) []
front_moved p w (Submits k r) l c may = sym (append-nil (take (w.received l) (out w.log l)))
front_moved p w (Takes k taken) l c may =
    ap (take (w.received l)) (taken_out p w k taken may l) ∙ sym (append-nil (take (w.received l) (out w.log l)))
front_moved p w (Gives k q n) l c may = same_front p w (Give k q n) l c
front_moved p w (Receives k) l c may =
    ⊎_elim
    (λ same. subst (λ j. take (at_lane k (w.received k + 1) w.received j) (out w.log j) ≡ take (w.received j) (out w.log j) ++ cons_option (if k == j then slice_get (out w.log k) (w.received k) else None) [])
    (sym same) (front_receives w k may))
    (λ differs. front_stays w k l differs)
    (cases_eq l k)
front_moved p w (Bounces k) l c may = same_front p w (Bounced k) l c
front_moved p w Shuts l c may = same_front p w Shut l c

pub front_run : (p : Plan) (w v : World) (moves : List Move) (l : ℕ) → LeadsTo p w moves v → IsConsistent p w
    → take (w.received l) (out w.log l) ++ receipts (λ k. k == l) w moves ≡ take (v.received l) (out v.log l)
front_run p w v [] l leads c =
    append-nil (take (w.received l) (out w.log l)) ∙ ap (λ (u : World). take (u.received l) (out u.log l)) leads
front_run p w v (m ∷ moves) l leads c =
    sym (append_option (take (w.received l) (out w.log l)) (receipt (λ k. k == l) w m) (receipts (λ k. k == l) (moved w m) moves))
    ∙ (ap (λ xs. xs ++ receipts (λ k. k == l) (moved w m) moves) (sym (front_moved p w m l c leads.0))
    ∙ front_run p (moved w m) v moves l leads.1 (consistent_moved p w m c leads.0))

-- ---- what all lanes were given

abbrev pub pair_given : Step → Option (ℕ × ℕ)
pair_given (Give l q n) = Some (q, n)
pair_given s = None

-- the pairs that were given, over all lanes, in the order of their Gives
abbrev pub gives : List Step → List (ℕ × ℕ)
gives T = filter_map pair_given T

cons_nil : {X : Type 0} (x : X) (xs : List X) → x ∷ xs ≡ [] → ⊥
cons_nil x xs e = cc

push_nil : {X : Type 0} (xs : List X) (x : X) → xs ++ x ∷ [] ≡ [] → ⊥
push_nil [] x e = cc
push_nil (y ∷ xs) x e = cc

-- where no lane is given anything
gives_none : (S : List Step) → ((m : ℕ) → out S m ≡ []) → gives S ≡ []
unfolding out
gives_none [] none = refl
gives_none (Give l q n ∷ S) none =
    absurd (cons_nil (q, n) (filter_map (given_to l) S) (ap (λ o. cons_option o (filter_map (given_to l) S)) (sym (given_to-same l q n)) ∙ none l))
gives_none (Accept q e c ∷ S) none = gives_none S none
gives_none (Done l o ∷ S) none = gives_none S none
gives_none (More l e ∷ S) none = gives_none S none
gives_none (Turned l e ∷ S) none = gives_none S none
gives_none (Bounced l ∷ S) none = gives_none S none
gives_none (Shut ∷ S) none = gives_none S none

-- ---- what is still to be received

abbrev pub pending : World → ℕ → List (ℕ × ℕ)
pending w l = drop (w.received l) (out w.log l)

-- of the pairs of which h gives something only one lane has some to receive
abbrev pub IsApart : (ℕ × ℕ → Option ℕ) → World → Type 0
IsApart h w = (l m : ℕ) → l ≢ m → (filter_map h (pending w l) ≡ []) ⊎ (filter_map h (pending w m) ≡ [])

-- Of these pairs those that were received, and then those that one lane has yet to receive, are the given ones.
pub record Follows (h : ℕ × ℕ → Option ℕ) (w : World) (received : List (ℕ × ℕ)) : Type 0 where
  pub lane : ℕ
  pub same : filter_map h received ++ filter_map h (pending w lane) ≡ filter_map h (gives w.log)
  pub others : (m : ℕ) → m ≢ lane → filter_map h (pending w m) ≡ []

Follows-nil : (h : ℕ × ℕ → Option ℕ) (w : World) (R : List (ℕ × ℕ)) → Follows h w R → Follows h w (R ++ [])
Follows-nil h w R f = subst (Follows h w) (sym (append-nil R)) f

-- steps that give nothing
quiet : (h : ℕ × ℕ → Option ℕ) (w : World) (S : List Step) (R : List (ℕ × ℕ)) → ((m : ℕ) → out (w.log ++ S) m ≡ out w.log m) → gives S ≡ [] → Follows h w R
    → Follows h (with_steps w S) R
quiet h w S R same none f =
    record {
      lane = f.lane;
      same = ap (λ xs. filter_map h R ++ filter_map h (drop (w.received f.lane) xs)) (same f.lane) ∙ (f.same ∙ ap (filter_map h) (sym gives_same));
      others = λ m differs. ap (λ xs. filter_map h (drop (w.received m) xs)) (same m) ∙ f.others m differs;
    }
  where
    gives_same : gives (w.log ++ S) ≡ gives w.log
    gives_same = filter_map-append pair_given w.log S ∙ (ap (λ xs. gives w.log ++ xs) none ∙ append-nil (gives w.log))

module _ (p : Plan) (h : ℕ × ℕ → Option ℕ) (w : World) (l : ℕ) (R : List (ℕ × ℕ)) (c : IsConsistent p w) (f : Follows h w R) where
  -- a pair is given
  follows_gives : (q n : ℕ) → IsApart h (moved w (Gives l q n)) → Follows h (moved w (Gives l q n)) R
  follows_gives q n apart = by_case (h (q, n)) refl
    where
      after : World
      after = moved w (Gives l q n)

      here : pending after l ≡ pending w l ++ (q, n) ∷ []
      here = ap (drop (w.received l)) (out-some w.log l (Give l q n) (q, n) (given_to-same l q n)) ∙ drop-append-le (w.received l) (out w.log l) ((q, n) ∷ []) (c.received l)

      there : (m : ℕ) → m ≢ l → pending after m ≡ pending w m
      there m differs = ap (drop (w.received m)) (out-none w.log m (Give l q n) (given_to-other m l q n (λ e. differs (sym e))))

      all : gives after.log ≡ gives w.log ++ (q, n) ∷ []
      all = more_some pair_given w.log (Give l q n) (q, n) refl

      by_case : (o : Option ℕ) → h (q, n) ≡ o → Follows h after R
      by_case None none =
          record {
            lane = f.lane;
            same = ap (λ xs. filter_map h R ++ xs) (still f.lane) ∙ (f.same ∙ sym (ap (filter_map h) all ∙ more_none h (gives w.log) (q, n) none));
            others = λ m differs. still m ∙ f.others m differs;
          }
        where
          still : (m : ℕ) → filter_map h (pending after m) ≡ filter_map h (pending w m)
          still m =
              ⊎_elim
              (λ same. subst (λ k. filter_map h (pending after k) ≡ filter_map h (pending w k)) (sym same) (ap (filter_map h) here ∙ more_none h (pending w l) (q, n) none))
              (λ differs. ap (filter_map h) (there m differs))
              (cases_eq m l)
      by_case (Some y) some =
          record {
            lane = l;
            same = ap (λ xs. filter_map h R ++ xs) full
                ∙ (sym (append_assoc (filter_map h R) (filter_map h (pending w l)) (y ∷ []))
                ∙ (ap (λ xs. xs ++ y ∷ []) before ∙ sym (ap (filter_map h) all ∙ more_some h (gives w.log) (q, n) y some)));
            others = none_else;
          }
        where
          full : filter_map h (pending after l) ≡ filter_map h (pending w l) ++ y ∷ []
          full = ap (filter_map h) here ∙ more_some h (pending w l) (q, n) y some

          none_else : (m : ℕ) → m ≢ l → filter_map h (pending after m) ≡ []
          none_else m differs =
              ⊎_elim (λ none. absurd (push_nil (filter_map h (pending w l)) y (sym full ∙ none))) (λ none. none) (apart l m (λ e. differs (sym e)))

          before : filter_map h R ++ filter_map h (pending w l) ≡ filter_map h (gives w.log)
          before =
              ⊎_elim
              (λ same. subst (λ k. filter_map h R ++ filter_map h (pending w k) ≡ filter_map h (gives w.log)) (sym same) f.same)
              (λ differs. ap (λ xs. filter_map h R ++ xs) (f.others l differs ∙ sym (ap (filter_map h) (sym (there f.lane (λ e. differs (sym e)))) ∙ none_else f.lane (λ e. differs (sym e)))) ∙ f.same)
              (cases_eq l f.lane)

  -- the lane receives the next
  follows_receives : w.received l < length (out w.log l) → Follows h (moved w (Receives l)) (R ++ cons_option (slice_get (out w.log l) (w.received l)) [])
  follows_receives may =
      subst (λ o. Follows h after (R ++ cons_option o [])) (sym next.1) (by_case (h x) refl)
    where
      after : World
      after = moved w (Receives l)

      next : (y : ℕ × ℕ) × (slice_get (out w.log l) (w.received l) ≡ Some y)
      next = slice_get-some (out w.log l) (w.received l) may

      x : ℕ × ℕ
      x = next.0

      here : pending w l ≡ x ∷ pending after l
      here =
          drop-slice_get (out w.log l) (w.received l) x next.1
          ∙ ap (λ n. x ∷ drop n (out w.log l)) (sym (at_lane-same l (w.received l + 1) w.received))

      there : (m : ℕ) → m ≢ l → pending after m ≡ pending w m
      there m differs = ap (λ n. drop n (out w.log m)) (at_lane-other l m (w.received l + 1) w.received differs)

      by_case : (o : Option ℕ) → h x ≡ o → Follows h after (R ++ x ∷ [])
      by_case None none =
          record {
            lane = f.lane;
            same = ap (λ xs. xs ++ filter_map h (pending after f.lane)) (more_none h R x none) ∙ (ap (λ xs. filter_map h R ++ xs) (still f.lane) ∙ f.same);
            others = λ m differs. still m ∙ f.others m differs;
          }
        where
          still : (m : ℕ) → filter_map h (pending after m) ≡ filter_map h (pending w m)
          still m =
              ⊎_elim
              (λ same. subst (λ k. filter_map h (pending after k) ≡ filter_map h (pending w k)) (sym same)
              (sym (ap (filter_map h) here ∙ ap (λ o. cons_option o (filter_map h (pending after l))) none)))
              (λ differs. ap (filter_map h) (there m differs))
              (cases_eq m l)
      by_case (Some y) some =
          record {
            lane = l;
            same = ap (λ xs. xs ++ filter_map h (pending after l)) (more_some h R x y some)
                ∙ (append_assoc (filter_map h R) (y ∷ []) (filter_map h (pending after l))
                ∙ (ap (λ xs. filter_map h R ++ xs) (sym first) ∙ subst (λ k. filter_map h R ++ filter_map h (pending w k) ≡ filter_map h (gives w.log)) is f.same));
            others = λ m differs. ap (filter_map h) (there m differs) ∙ f.others m (λ e. differs (e ∙ is));
          }
        where
          first : filter_map h (pending w l) ≡ y ∷ filter_map h (pending after l)
          first = ap (filter_map h) here ∙ ap (λ o. cons_option o (filter_map h (pending after l))) some

          is : f.lane ≡ l
          is = ⊎_elim (λ same. same) (λ differs. absurd (cons_nil y (filter_map h (pending after l)) (sym first ∙ f.others l (λ e. differs (sym e))))) (cases_eq f.lane l)

follows_moved : (p : Plan) (h : ℕ × ℕ → Option ℕ) (w : World) (m : Move) (R : List (ℕ × ℕ)) → IsConsistent p w → May p w m → IsApart h (moved w m) → Follows h w R
    → Follows h (moved w m) (R ++ cons_option (receipt (λ k. true) w m) [])
follows_moved p h w (Submits l r) R c may apart f = Follows-nil h (moved w (Submits l r)) R (record { lane = f.lane; same = f.same; others = f.others })
follows_moved p h w (Takes l taken) R c may apart f =
    Follows-nil h (with_steps w taken) R
    (quiet h w taken R (taken_out p w l taken may) (gives_none taken (form_out may.reply.event.op w.log l may.reply.event taken may.are.form)) f)
follows_moved p h w (Gives l q n) R c may apart f = Follows-nil h (moved w (Gives l q n)) R (follows_gives p h w l R c f q n apart)
follows_moved p h w (Receives l) R c may apart f = follows_receives p h w l R c f may
follows_moved p h w (Bounces l) R c may apart f = Follows-nil h (moved w (Bounces l)) R (quiet h w (Bounced l ∷ []) R (λ m. out-none w.log m (Bounced l) refl) refl f)
follows_moved p h w Shuts R c may apart f = Follows-nil h (moved w Shuts) R (quiet h w (Shut ∷ []) R (λ m. out-none w.log m Shut refl) refl f)

-- of each world of the run whose log is a front of the last one's
pub follows_run : (p : Plan) (h : ℕ × ℕ → Option ℕ) (w v : World) (moves : List Move) (R : List (ℕ × ℕ)) → LeadsTo p w moves v
    → ((u : World) → IsConsistent p u → IsPrefix u.log v.log → IsApart h u) → IsConsistent p w → Follows h w R
    → Follows h v (R ++ receipts (λ k. true) w moves)
follows_run p h w v [] R leads apart c f = subst (λ u. Follows h u (R ++ [])) leads (Follows-nil h w R f)
follows_run p h w v (m ∷ moves) R leads apart c f =
    let after = consistent_moved p w m c leads.0 in
    subst (Follows h v) (append_option R (receipt (λ k. true) w m) (receipts (λ k. true) (moved w m) moves))
    (follows_run p h (moved w m) v moves (R ++ cons_option (receipt (λ k. true) w m) []) leads.1 apart after
    (follows_moved p h w m R c leads.0 (apart (moved w m) after (log_grows p (moved w m) v moves leads.1)) f))
