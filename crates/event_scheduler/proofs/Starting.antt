-- A scheduler stands at the empty transcript when it begins.
use Rattle.std.proofs.Common.{◌≡◌, ℕ, zero, suc, ◌+◌, ◌%◌, ◌^◌, List, [], ◌∷◌, length, map, get_or, All, refl, sym, ap, ◌∙◌, subst, arith}
use Rattle.std.proofs.lemmas.Bool.{false≢true}
use Rattle.std.proofs.lemmas.List.{length-map}
use Rattle.std.proofs.lemmas.List.Elements.{All-head, All-nil, All-tail}
use Rattle.std.proofs.lemmas.List.FromFn.{length-map-range_with_len}
use Rattle.credit_pool.specs.declared.account.Account.{Account}
use Rattle.credit_pool.specs.declared.pool.Credits.{Credits}
use Rattle.event_scheduler.specs.Parts.{AreUnused, IsUnused}
use Rattle.event_scheduler.specs.Hidden.{NoneHidden}
use Rattle.event_scheduler.specs.Scheduler.{IsAccepted, Serves, depth_in, sight}
use Rattle.evt_types.specs.Event.{pair_of}
use Rattle.evt_types.specs.Plan.{Plan, depth_of, lanes_of}
use Rattle.lane_rings.specs.Ends.{hidden_offers, offered, taken}
use Rattle.lane_rings.specs.Identity.{near_id}
use Rattle.lane_rings.specs.declared.near.Near.{Near}
use Rattle.lists.proofs.Ranges.{mapped_at}
use Rattle.transcripts.specs.Replies.{replies_in, said}
use Rattle.transcripts.specs.Standing.{View, Stands}
use Rattle.transcripts.specs.Transcript.{out}

-- a list of each lane that is empty
none_at : {X : Type 0} (f : Near → List X) (nears : List Near) → All (λ near. f near ≡ []) nears → (l : ℕ) → get_or (map f nears) l [] ≡ []
none_at f [] none l = refl
none_at f (near ∷ nears) none zero = All-head (λ x. f x ≡ []) near nears none
none_at f (near ∷ nears) none (suc l) = none_at f nears (All-tail (λ x. f x ≡ []) near nears none) l

out_none : (l : ℕ) → out [] l ≡ []
unfolding out
out_none l = refl

replies_none : (l : ℕ) → replies_in [] l ≡ []
unfolding replies_in
replies_none l = refl

pub starts : (pool : Credits) (core : View) (nears : List Near) (v : Account) → Stands [] core → AreUnused core.shape nears → IsUnused v → Serves [] (sight pool core nears v 0 0)
starts pool core nears v stands unused account =
    record {
      stands = stands;
      offered = λ l. ap (map pair_of) (none_at offered nears unused.offered l) ∙ sym (out_none l);
      events = λ l. subst (All (IsAccepted [])) (sym (none_at offered nears unused.offered l)) (All-nil (IsAccepted []));
      taken = λ l. ap (map said) (none_at taken nears unused.taken l) ∙ sym (replies_none l);
      depths = λ l within. ap (λ ds. get_or ds l 0) unused.depths ∙ mapped_at (depth_of core.shape) (lanes_of core.shape) l 0 within;
      accepted_new = refl;
      own = (omega (arith, account.returned), ap (λ n. (n + 0) % 2 ^ 64) account.returned);
      shut = λ has. absurd (false≢true has);
    }

-- nothing that was offered is hidden
pub unused_shown : (p : Plan) (nears : List Near) → AreUnused p nears → NoneHidden nears
unused_shown p nears unused l = none_at hidden_offers nears unused.shown l

-- there are as many ends as lanes
pub unused_count : (p : Plan) (nears : List Near) → AreUnused p nears → length nears ≡ lanes_of p
unused_count p nears unused =
    sym (length-map nears near_id)
    ∙ (sym (length-map (map near_id nears) depth_in) ∙ (ap length unused.depths ∙ length-map-range_with_len (depth_of p) 0 (lanes_of p)))
