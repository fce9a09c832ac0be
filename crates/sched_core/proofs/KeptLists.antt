-- The kept events of the first places, one place more, and those of all places.
use Rattle.std.proofs.Common.{◌≡◌, ℕ, ◌+◌, ◌*◌, ◌<◌, ◌≤◌, List, [], ◌∷◌, ◌++◌, length, map, take, get_or, flat_map, slice_get, Some, Vec, Global, vec_len, vec_capacity, refl, sym, ap, ◌∙◌, arith, append-nil, append_assoc}
use Rattle.std.proofs.lemmas.List.{length_push, map_push, map-append, take_all, take_more}
use Rattle.std.proofs.lemmas.List.Concat.{flat_map-append}
use Rattle.std.proofs.lemmas.Option.{get_or_from_slice_get, slice_get_within}
use Rattle.evt_types.specs.Place.{Place}
use Rattle.evt_types.specs.declared.event.Event.{Event}
use Rattle.evt_types.specs.declared.event.KeptEvent.{KeptEvent}
use Rattle.evt_types.specs.declared.event.Numbered.{Numbered}
use Rattle.evt_types.specs.declared.event.TheConstants.{MAX_FORWARDS}
use Rattle.evt_types.specs.declared.step.Step.{Step}
use Rattle.order_parts.specs.Reorder.{kept_of}
use Rattle.transcripts.specs.Standing.{View, Stands, kept_event, kept_under, places_at}
use Rattle.transcripts.specs.Transcript.{kept, kept_events}
use Rattle.transcripts.proofs.ViewTells.{kept_is}

-- ---- what one place keeps

-- the first of these events stand in the list
pub record IsBegun (old now : Vec KeptEvent Global) (q : ℕ) (ws : List Numbered) (i : ℕ) : Type 0 where
  pub kept : now.items ≡ old.items ++ map (kept_event q) (take i ws)
  pub room : vec_capacity now ≡ vec_capacity old
  pub within : vec_len now ≤ vec_len old + i

pub begins : (old : Vec KeptEvent Global) (q : ℕ) (ws : List Numbered) → IsBegun old old q ws 0
begins old q ws = record { kept = sym (append-nil old.items); room = refl; within = omega arith }

pub one_listed : (old now new : Vec KeptEvent Global) (q : ℕ) (ws : List Numbered) (i : ℕ) (w : Numbered) → IsBegun old now q ws i → slice_get ws i ≡ Some w → new.items ≡ now.items ++ kept_event q w ∷ []
    → vec_capacity new ≡ vec_capacity now → IsBegun old new q ws (i + 1)
one_listed old now new q ws i w begun here pushed room =
    let long = new.ok.0 in
    let before = now.ok.0 in
    let more : length new.items ≡ length now.items + 1 = ap length pushed ∙ length_push now.items (kept_event q w) in
    let within = begun.within in
    let next : map (kept_event q) (take (i + 1) ws) ≡ map (kept_event q) (take i ws) ++ kept_event q w ∷ [] =
    ap (map (kept_event q)) (take_more ws i w (slice_get_within ws i w here)) ∙ (map_push (kept_event q) (take i ws) (get_or ws i w)
    ∙ ap (λ x. map (kept_event q) (take i ws) ++ kept_event q x ∷ []) (get_or_from_slice_get ws i w w here)) in
    record {
      kept = pushed ∙ (ap (λ es. es ++ kept_event q w ∷ []) begun.kept ∙ (append_assoc old.items (map (kept_event q) (take i ws)) (kept_event q w ∷ []) ∙ ap (λ es. old.items ++ es) (sym next)));
      room = room ∙ begun.room;
      within = omega arith;
    }

-- ---- what the places keep

-- what the first places keep stands in the list
pub record IsListed (old now : Vec KeptEvent Global) (q : ℕ) (xs : List Place) (i : ℕ) : Type 0 where
  pub kept : now.items ≡ old.items ++ map (kept_event q) (flat_map kept_of (take i xs))
  pub room : vec_capacity now ≡ vec_capacity old
  pub within : vec_len now ≤ vec_len old + MAX_FORWARDS * i

kept_more : (xs : List Place) (i : ℕ) (d : Place) → i < length xs → flat_map kept_of (take (i + 1) xs) ≡ flat_map kept_of (take i xs) ++ kept_of (get_or xs i d)
kept_more xs i d h = ap (flat_map kept_of) (take_more xs i d h) ∙ (flat_map-append kept_of (take i xs) (get_or xs i d ∷ []) ∙ ap (λ ys. flat_map kept_of (take i xs) ++ ys) (append-nil (kept_of (get_or xs i d))))

pub place_listed : (old now new : Vec KeptEvent Global) (q : ℕ) (xs : List Place) (i : ℕ) (d : Place) → IsListed old now q xs i → i < length xs → new.items ≡ now.items ++ map (kept_event q) (kept_of (get_or xs i d))
    → vec_capacity new ≡ vec_capacity now → vec_len new ≤ vec_len now + MAX_FORWARDS → IsListed old new q xs (i + 1)
place_listed old now new q xs i d listed h pushed room few =
    let within = listed.within in
    let next : map (kept_event q) (flat_map kept_of (take (i + 1) xs)) ≡ map (kept_event q) (flat_map kept_of (take i xs)) ++ map (kept_event q) (kept_of (get_or xs i d)) =
    ap (map (kept_event q)) (kept_more xs i d h) ∙ map-append (kept_event q) (flat_map kept_of (take i xs)) (kept_of (get_or xs i d)) in
    record {
      kept = pushed ∙ (ap (λ es. es ++ map (kept_event q) (kept_of (get_or xs i d))) listed.kept ∙ (append_assoc old.items (map (kept_event q) (flat_map kept_of (take i xs))) (map (kept_event q) (kept_of (get_or xs i d))) ∙ ap (λ es. old.items ++ es) (sym next)));
      room = room ∙ listed.room;
      within = omega arith;
    }

-- what all places keep is what the transcript says
pub listed_all : (old now : Vec KeptEvent Global) (v : View) (T : List Step) (q i : ℕ) → Stands T v → q < length v.shape.queues → length (places_at v q) ≤ i
    → IsListed old now q (places_at v q) i → now.items ≡ old.items ++ kept_events T q
listed_all old now v T q i stands there whole listed =
    listed.kept
    ∙ ap (λ es. old.items ++ es) (ap (map (kept_event q)) (ap (flat_map kept_of) (take_all i (places_at v q) whole) ∙ kept_is v T q stands there) ∙ reported (kept T q))
  where
    reported : (xs : List (ℕ × Event)) → map (kept_event q) (map kept_under xs) ≡ map (λ (x : ℕ × Event). record { queue = q; number = x.0; event = x.1 }) xs
    reported [] = refl
    reported (x ∷ xs) = ap (λ es. record { queue = q; number = x.0; event = x.1 } ∷ es) (reported xs)
