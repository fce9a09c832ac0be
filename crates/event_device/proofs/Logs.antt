-- Lanes at rest that are those of a log.
use Rattle.std.proofs.Common.{◌≡◌, ℕ, ◌<◌, ◌≤◌, ◌^◌, List, [], length, map, get_or, count_by, Option, Some, None, refl, sym, ap, ◌∙◌, arith, ⊎_elim}
use Rattle.std.specs.Prelude.{option_map, slice_get}
use Rattle.std.proofs.lemmas.Bool.{cases_lt}
use Rattle.std.proofs.lemmas.List.{get_or_past, length-map}
use Rattle.std.proofs.lemmas.Option.{get_or_from_slice_get, none-some, slice_get-map, slice_get_within}
use Rattle.lists.proofs.Lists.{slice_get-some}
use Rattle.evt_types.specs.Event.{pair_of}
use Rattle.evt_types.specs.Operation.{is_new_reply}
use Rattle.evt_types.specs.Plan.{Plan}
use Rattle.evt_types.specs.declared.event.Delivery.{Delivery}
use Rattle.evt_types.specs.declared.event.Reply.{Reply}
use Rattle.evt_types.specs.declared.step.Step.{Step}
use Rattle.lane_rings.specs.Ends.{answered, offered, taken}
use Rattle.lane_rings.specs.Identity.{far_id, near_id}
use Rattle.lane_rings.specs.declared.far.Far.{Far}
use Rattle.lane_rings.specs.declared.near.Near.{Near}
use Rattle.event_device.proofs.LaneEnds.{as_many_ends}
use Rattle.event_device.specs.Between.{IsAtRest, rest_at, rest_of}
use Rattle.transcripts.specs.Lawful.{Lawful}
use Rattle.transcripts.specs.Replies.{replies_in, said}
use Rattle.transcripts.specs.Transcript.{out}
use Rattle.world_laws.specs.Rest.{AreRests, Rest}

-- what stands at a home, and beyond the end
item_at : {X Y : Type 0} (f : X → Y) (xs : List X) (l : ℕ) (x : X) (d : Y) → slice_get xs l ≡ Some x → get_or (map f xs) l d ≡ f x
item_at f xs l x d is = get_or_from_slice_get (map f xs) l (f x) d (slice_get-map f xs l ∙ ap (option_map f) is)

none_at : {X Y : Type 0} (f : X → Y) (xs : List X) (l : ℕ) (d : Y) → length xs ≤ l → get_or (map f xs) l d ≡ d
none_at f xs l d past = get_or_past (map f xs) l d (omega (arith, length-map xs f))

no_item : {X : Type 0} (xs : List X) (l : ℕ) → slice_get xs l ≡ None → length xs ≤ l
no_item xs l none = ⊎_elim (λ within. let there = slice_get-some xs l within in absurd (none-some there.0 (sym none ∙ there.1))) (λ past. past) (cases_lt l (length xs))

-- A list of the scheduler's end is that of the lane at rest, where a lane that isn't there has an empty one.
list_at_rest : {X : Type 0} (of_near : Near → List X) (of_rest : Rest → List X) (nears : List Near) (fars : List Far) (l : ℕ)
    → ((near : Near) (far : Far) → of_rest (rest_of (Some near) (Some far)) ≡ of_near near) → ((b : Option Far) → of_rest (rest_of None b) ≡ [])
    → map near_id nears ≡ map far_id fars → of_rest (rest_at nears fars l) ≡ get_or (map of_near nears) l []
list_at_rest of_near of_rest nears fars l both none lanes = by_ends (slice_get nears l) (slice_get fars l) refl refl
  where
    by_ends : (a : Option Near) (b : Option Far) → slice_get nears l ≡ a → slice_get fars l ≡ b → of_rest (rest_of a b) ≡ get_or (map of_near nears) l []
    by_ends (Some near) (Some far) first second = both near far ∙ sym (item_at of_near nears l near [] first)
    by_ends (Some near) None first second =
        let within = slice_get_within nears l near first in
        let past = no_item fars l second in
        absurd (omega (arith, as_many_ends nears fars lanes))
    by_ends None b first second = none b ∙ sym (none_at of_near nears l [] (no_item nears l first))

pub offered_at : (nears : List Near) (fars : List Far) (l : ℕ) → map near_id nears ≡ map far_id fars → (rest_at nears fars l).offered ≡ get_or (map offered nears) l []
offered_at nears fars l lanes = list_at_rest offered (λ r. r.offered) nears fars l (λ near far. refl) (λ b. refl) lanes

pub taken_at : (nears : List Near) (fars : List Far) (l : ℕ) → map near_id nears ≡ map far_id fars → (rest_at nears fars l).taken ≡ get_or (map taken nears) l []
taken_at nears fars l lanes = list_at_rest taken (λ r. r.taken) nears fars l (λ near far. refl) (λ b. refl) lanes

-- a lane whose holder's end gave no NEW has none
no_new : (nears : List Near) (fars : List Far) (l : ℕ) → ((far : Far) → slice_get fars l ≡ Some far → count_by is_new_reply (answered far) ≡ 0)
    → count_by is_new_reply (rest_at nears fars l).answered ≡ 0
no_new nears fars l none = by_ends (slice_get nears l) (slice_get fars l) refl
  where
    by_ends : (a : Option Near) (b : Option Far) → slice_get fars l ≡ b → count_by is_new_reply (rest_of a b).answered ≡ 0
    by_ends (Some near) (Some far) second = none far second
    by_ends (Some near) None second = refl
    by_ends None b second = refl

pub rests_are : (p : Plan) (T : List Step) (nears : List Near) (fars : List Far) → Lawful p T → length T < 2 ^ 63
    → ((l : ℕ) → map pair_of (get_or (map offered nears) l []) ≡ out T l)
    → ((l : ℕ) → map said (get_or (map taken nears) l []) ≡ replies_in T l)
    → map near_id nears ≡ map far_id fars → ((l : ℕ) → IsAtRest (rest_at nears fars l))
    → ((l : ℕ) (far : Far) → length p.ports ≤ l → slice_get fars l ≡ Some far → count_by is_new_reply (answered far) ≡ 0)
    → AreRests p T (rest_at nears fars)
rests_are p T nears fars lawful short gave took lanes rests own =
    record {
      lawful = lawful;
      each =
          λ l.
          record {
            given = ap (λ (ds : List Delivery). map pair_of ds) (offered_at nears fars l lanes) ∙ gave l;
            replies = ap (λ (rs : List Reply). map said rs) (taken_at nears fars l lanes) ∙ took l;
            received = (rests l).received;
            answered = (rests l).answered;
            fewer = (rests l).fewer;
            beside = (rests l).beside;
          };
      own = λ l past. no_new nears fars l (λ far is. own l far past is);
      short = short;
    }
