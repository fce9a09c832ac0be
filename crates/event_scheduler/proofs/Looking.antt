-- A look at the credit word, and a return of credits.
use Rattle.std.proofs.Common.{◌≡◌, ℕ, ◌+◌, ◌≤◌, ◌%◌, ◌^◌, ◌==◌, Bool, true, false, cond, ◌||◌, List, [], ◌∷◌, ◌++◌, map, ◌⊎◌, inl, inr, refl, sym, ap, ◌∙◌, subst, append-nil, arith}
use Rattle.std.specs.Bool.{IsTrue}
use Rattle.credit_pool.specs.Accounts.{Stays, after_look, is_shut}
use Rattle.credit_pool.specs.declared.account.Account.{Account}
use Rattle.credit_pool.specs.declared.pool.Credits.{Credits}
use Rattle.event_scheduler.proofs.Serving.{Adds, runs_by, runs_none, runs_rest}
use Rattle.event_scheduler.specs.Looking.{Looks, Rests}
use Rattle.credit_pool.specs.Pockets.{IsPocket}
use Rattle.event_scheduler.specs.Scheduler.{offered_at, sight, taken_at}
use Rattle.evt_types.specs.Event.{pair_of}
use Rattle.evt_types.specs.declared.step.Step.{Step}
use Rattle.evt_types.specs.declared.step.Step.TheVariants.{Shut}
use Rattle.lane_rings.specs.declared.near.Near.{Near}
use Rattle.sched_core.specs.Shutting.{shut_steps}
use Rattle.transcripts.specs.Replies.{new_count, replies_in, said, turned_count}
use Rattle.transcripts.specs.Standing.{View, Stands, after}
use Rattle.transcripts.specs.Transcript.{out}

-- the account changes, and what was returned with what is in the pocket doesn't
pub rests : (pool : Credits) (core : View) (lanes : List Near) (v w : Account) (p q n : ℕ) → Stays v w → w.returned + q ≡ v.returned + p → Rests (sight pool core lanes v p n) (sight pool core lanes w q n)
rests pool core lanes v w p q n stays sum =
    record {
      serves = λ T h. record {
        stands = h.stands;
        offered = h.offered;
        events = h.events;
        taken = h.taken;
        depths = h.depths;
        accepted_new = h.accepted_new;
        own = subst (λ k. (k ≤ turned_count T) × (k % 2 ^ 64 ≡ turned_count T % 2 ^ 64)) (sym sum) h.own;
        shut = λ has. stays.saw_shut (h.shut has);
      };
      site = refl;
      core = refl;
      offered = refl;
      taken = refl;
      account = stays;
    }

-- the word had no shut bit
pub looked_open : (pool : Credits) (core : View) (lanes : List Near) (v w : Account) (p n : ℕ) (log : List Step) → Stays v w → w.returned ≡ v.returned → (IsTrue v.saw_shut → ⊥) → w ≡ after_look w.last v → is_shut w.last ≡ false
    → Looks (sight pool core lanes v p n) log (sight pool core lanes w p n) log
looked_open pool core lanes v w p n log stays same unseen read no_bit =
    record {
      steps = [];
      runs = runs_rest [] (sight pool core lanes v p n) (sight pool core lanes v p n) (sight pool core lanes w p n) log log (runs_none (sight pool core lanes v p n) log) (rests pool core lanes v w p p n stays (ap (λ k. k + p) same));
      first = inl refl;
      core = refl;
      shut = λ saw. absurd (unseen saw);
      offered = refl;
      taken = refl;
      read = read;
      logs = ap (λ b. cond b (shut_steps core) []) (sym no_bit);
      pocket = refl;
    }

-- ---- the word had it

pub append_none : {X : Type 0} (xs ys : List X) → ys ≡ [] → xs ≡ xs ++ ys
append_none xs ys none = sym (ap (λ zs. xs ++ zs) none ∙ append-nil xs)

gives_none : (b : Bool) (l : ℕ) → out (cond b [] (Shut ∷ [])) l ≡ []
unfolding out
gives_none true l = refl
gives_none false l = refl

says_none : (b : Bool) (l : ℕ) → replies_in (cond b [] (Shut ∷ [])) l ≡ []
unfolding replies_in
says_none true l = refl
says_none false l = refl

enters_none : (b : Bool) → new_count (cond b [] (Shut ∷ [])) ≡ 0
enters_none true = refl
enters_none false = refl

turns_none : (b : Bool) → turned_count (cond b [] (Shut ∷ [])) ≡ 0
turns_none true = refl
turns_none false = refl

pub looked_shut :
    (pool : Credits) (core shut : View) (lanes : List Near) (v w : Account) (p n : ℕ) (log longer : List Step) → Stays v w → w.returned ≡ v.returned → IsTrue w.saw_shut → w ≡ after_look w.last v → is_shut w.last ≡ true
    → shut ≡ record core { shut = true } → longer ≡ log ++ shut_steps core → ((T : List Step) → Stands T core → Stands (T ++ shut_steps core) shut)
    → Looks (sight pool core lanes v p n) log (sight pool shut lanes w p n) longer
looked_shut pool core shut lanes v w p n log longer stays same saw read bit is logged stands =
    record {
      steps = shut_steps core;
      runs = runs_by (shut_steps core) (sight pool core lanes v p n) (sight pool shut lanes w p n) log longer logged adds;
      first = by_shut core.shut refl;
      core = shut_by core.shut refl;
      shut = λ seen. ap (λ (c : View). c.shut) is;
      offered = refl;
      taken = refl;
      read = read;
      logs = ap (λ b. cond b (shut_steps core) []) (sym bit);
      pocket = refl;
    }
  where
    adds : Adds (shut_steps core) (sight pool core lanes v p n) (sight pool shut lanes w p n)
    adds =
        record {
          stands = stands;
          shape = ap (λ (c : View). c.shape) is;
          site = refl;
          offered = λ l. append_none (map pair_of (offered_at (sight pool core lanes v p n) l)) (out (shut_steps core) l) (gives_none core.shut l);
          events = λ T l at accepted. accepted;
          taken = λ l. append_none (map said (taken_at (sight pool core lanes v p n) l)) (replies_in (shut_steps core) l) (says_none core.shut l);
          entered = λ T at is. omega (arith, is, enters_none core.shut);
          own = λ came h. subst (λ k. IsPocket p k w.returned) (omega (arith, turns_none core.shut)) (subst (λ k. IsPocket p came k) (sym same) h);
          shut = λ has. saw;
          account = stays;
        }

    by_shut : (b : Bool) → core.shut ≡ b → (cond b [] (Shut ∷ []) ≡ []) ⊎ ((core.shut ≡ false) × (cond b [] (Shut ∷ []) ≡ Shut ∷ []))
    by_shut true e = inl refl
    by_shut false e = inr (e, refl)

    shut_by : (b : Bool) → core.shut ≡ b → shut ≡ after core (cond b [] (Shut ∷ []))
    shut_by true e = is ∙ ap (λ c. record core { shut = c }) (sym e)
    shut_by false e = is

or_true : (b : Bool) → (b || true) ≡ true
or_true true = refl
or_true false = refl

-- where the word that was read has the bit, the account says so
pub looked_saw : (v w : Account) → w ≡ after_look w.last v → w.last % 2 ≡ 1 → IsTrue w.saw_shut
looked_saw v w is bit = ap (λ (a : Account). a.saw_shut) is ∙ (ap (λ k. v.saw_shut || (k == 1)) bit ∙ or_true v.saw_shut)
