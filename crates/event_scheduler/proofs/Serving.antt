-- A scheduler that stands at a transcript stands at a longer one after each kind of move, and moves follow each other.
use Rattle.std.proofs.Common.{◌≡◌, ℕ, ◌+◌, ◌<◌, Bool, true, false, ◌||◌, List, [], ◌++◌, map, All, slice_get, get_or, ◌⊎◌, inl, inr, refl, sym, ap, ◌∙◌, subst, append_assoc, append-nil}
use Rattle.std.specs.Bool.{IsTrue}
use Rattle.std.proofs.lemmas.List.Elements.{All-weaker, filter_map-append}
use Rattle.std.proofs.lemmas.Option.{slice_get_within}
use Rattle.credit_pool.specs.Accounts.{Stays}
use Rattle.credit_pool.specs.declared.account.Account.{Account}
use Rattle.evt_types.specs.Event.{pair_of}
use Rattle.evt_types.specs.Plan.{depth_of, lanes_of}
use Rattle.evt_types.specs.declared.event.Delivery.{Delivery}
use Rattle.evt_types.specs.declared.step.Step.{Step}
use Rattle.event_scheduler.proofs.Counts.{count-append}
use Rattle.event_scheduler.specs.Looking.{Rests}
use Rattle.credit_pool.specs.Pockets.{IsPocket}
use Rattle.event_scheduler.specs.Scheduler.{IsAccepted, Runs, Serves, Sight, Site, depth_in, offered_at, taken_at}
use Rattle.lists.proofs.Lists.{list_any-append, slice_get-append_left}
use Rattle.transcripts.proofs.Replies.{out-append, replies_in-append}
use Rattle.transcripts.specs.Replies.{new_count, replies_in, said, turned_count}
use Rattle.transcripts.specs.Standing.{View, Stands}
use Rattle.transcripts.specs.Transcript.{accepted, accepted_in, has_shut, is_new, is_shut, is_turned, out}

-- ---- what a move adds

pub record Adds (steps : List Step) (s t : Sight) : Type 0 where
  pub stands : (T : List Step) → Stands T s.core → Stands (T ++ steps) t.core
  pub shape : t.core.shape ≡ s.core.shape
  pub site : t.site ≡ s.site
  pub offered : (l : ℕ) → map pair_of (offered_at t l) ≡ map pair_of (offered_at s l) ++ out steps l
  pub events : (T : List Step) (l : ℕ) → Stands T s.core → All (IsAccepted T) (offered_at s l) → All (IsAccepted T) (offered_at t l)
  pub taken : (l : ℕ) → map said (taken_at t l) ≡ map said (taken_at s l) ++ replies_in steps l
  pub entered : (T : List Step) → Stands T s.core → s.accepted_new ≡ new_count T → t.accepted_new ≡ new_count T + new_count steps
  pub own : (came : ℕ) → IsPocket s.pocket came s.account.returned → IsPocket t.pocket (came + turned_count steps) t.account.returned
  pub shut : has_shut steps ≡ true → IsTrue t.account.saw_shut
  pub account : Stays s.account t.account

accepted_append : (T S : List Step) (q : ℕ) → accepted (T ++ S) q ≡ accepted T q ++ accepted S q
unfolding accepted
accepted_append T S q = filter_map-append (accepted_in q) T S

accepted_more : (T S : List Step) (d : Delivery) → IsAccepted T d → IsAccepted (T ++ S) d
accepted_more T S d is =
    ap (λ es. slice_get es d.number) (accepted_append T S d.queue)
    ∙ (slice_get-append_left (accepted T d.queue) (accepted S d.queue) d.number (slice_get_within (accepted T d.queue) d.number d.event is) ∙ is)

either : (a b : Bool) → (a || b) ≡ true → (a ≡ true) ⊎ (b ≡ true)
either true b h = inl refl
either false b h = inr h

serves_more : (steps : List Step) (s t : Sight) → Adds steps s t → (T : List Step) → Serves T s → Serves (T ++ steps) t
serves_more steps s t a T h =
    record {
      stands = a.stands T h.stands;
      offered = λ l. a.offered l ∙ (ap (λ xs. xs ++ out steps l) (h.offered l) ∙ sym (out-append T steps l));
      events = λ l. All-weaker (IsAccepted T) (IsAccepted (T ++ steps)) (accepted_more T steps) (offered_at t l) (a.events T l h.stands (h.events l));
      taken = λ l. a.taken l ∙ (ap (λ xs. xs ++ replies_in steps l) (h.taken l) ∙ sym (replies_in-append T steps l));
      depths = λ l within.
          ap (λ (x : Site). get_or (map depth_in x.lanes) l 0) a.site
          ∙ (h.depths l (subst (λ p. l < lanes_of p) a.shape within) ∙ ap (λ p. depth_of p l) (sym a.shape));
      accepted_new = a.entered T h.stands h.accepted_new ∙ sym (count-append is_new T steps);
      own = subst (λ n. IsPocket t.pocket n t.account.returned) (sym (count-append is_turned T steps)) (a.own (turned_count T) h.own);
      shut = λ has. by_part (either (has_shut T) (has_shut steps) (sym (list_any-append is_shut T steps) ∙ has));
    }
  where
    by_part : (has_shut T ≡ true) ⊎ (has_shut steps ≡ true) → IsTrue t.account.saw_shut
    by_part (inl before) = a.account.saw_shut (h.shut before)
    by_part (inr here) = a.shut here

pub runs_by : (steps : List Step) (s t : Sight) (log longer : List Step) → longer ≡ log ++ steps → Adds steps s t → Runs steps s log t longer
runs_by steps s t log longer logged a =
    record { logged = logged; serves = serves_more steps s t a; site = a.site; shape = a.shape; account = a.account }

-- ---- moves that follow each other

pub stays_same : (v : Account) → Stays v v
stays_same v = record { limit = refl; parts = refl; set_shut = refl; saw_shut = λ h. h }

pub stays_stays : (u v w : Account) → Stays u v → Stays v w → Stays u w
stays_stays u v w h k =
    record { limit = k.limit ∙ h.limit; parts = k.parts ∙ h.parts; set_shut = k.set_shut ∙ h.set_shut; saw_shut = λ saw. k.saw_shut (h.saw_shut saw) }

pub runs_none : (s : Sight) (log : List Step) → Runs [] s log s log
runs_none s log =
    record {
      logged = sym (append-nil log);
      serves = λ T h. subst (λ U. Serves U s) (sym (append-nil T)) h;
      site = refl;
      shape = refl;
      account = stays_same s.account;
    }

pub runs_runs : (xs ys : List Step) (s t u : Sight) (log mid longer : List Step) → Runs xs s log t mid → Runs ys t mid u longer → Runs (xs ++ ys) s log u longer
runs_runs xs ys s t u log mid longer h k =
    record {
      logged = k.logged ∙ (ap (λ zs. zs ++ ys) h.logged ∙ append_assoc log xs ys);
      serves = λ T at. subst (λ U. Serves U u) (append_assoc T xs ys) (k.serves (T ++ xs) (h.serves T at));
      site = k.site ∙ h.site;
      shape = k.shape ∙ h.shape;
      account = stays_stays s.account t.account u.account h.account k.account;
    }

pub runs_rest : (steps : List Step) (s t u : Sight) (log longer : List Step) → Runs steps s log t longer → Rests t u → Runs steps s log u longer
runs_rest steps s t u log longer h k =
    record {
      logged = h.logged;
      serves = λ T at. k.serves (T ++ steps) (h.serves T at);
      site = k.site ∙ h.site;
      shape = ap (λ (v : View). v.shape) k.core ∙ h.shape;
      account = stays_stays s.account t.account u.account h.account k.account;
    }
