-- The ends of one lane more, and of all lanes.
use Rattle.std.proofs.Common.{◌≡◌, ℕ, ◌+◌, ◌-◌, ◌≤◌, subst, arith, List, [], ◌∷◌, ◌++◌, map, sym, ap, ◌∙◌, append_assoc}
use Rattle.std.specs.List.{range_with_len}
use Rattle.std.proofs.lemmas.List.{map-append}
use Rattle.std.proofs.lemmas.List.Elements.{All-push}
use Rattle.std.proofs.lemmas.List.FromFn.{map-range_with_len_more}
use Rattle.evt_types.specs.Plan.{Plan, depth_of, replies_of}
use Rattle.flow_claims.specs.Laws.{IsUnused}
use Rattle.lane_rings.specs.Identity.{LaneId, far_id, near_id}
use Rattle.lane_rings.specs.declared.far.Far.{Far}
use Rattle.lane_rings.specs.declared.near.Near.{Near}
use Rattle.event_device.specs.Device.{depth_in, room_in}
use Rattle.event_device.specs.Ends.{AreAdded, IsUnusedNear}

map_push : {X Y : Type 0} (f : X → Y) (xs : List X) (x : X) → map f (xs ++ x ∷ []) ≡ map f xs ++ f x ∷ []
map_push f xs x = map-append f xs (x ∷ [])

-- one more of a list that is made of numbers
one_number_more : (f : LaneId → ℕ) (g : ℕ → ℕ) (fars : List Far) (far : Far) (from n number : ℕ) → from + n ≡ number
    → map f (map far_id fars) ≡ map g (range_with_len from n) → f (far_id far) ≡ g number
    → map f (map far_id (fars ++ far ∷ [])) ≡ map g (range_with_len from (n + 1))
one_number_more f g fars far from n number is so_far here =
    ap (map f) (map_push far_id fars far) ∙ map_push f (map far_id fars) (far_id far)
    ∙ ap (λ ns. ns ++ f (far_id far) ∷ []) so_far ∙ ap (λ m. map g (range_with_len from n) ++ m ∷ []) here
    ∙ sym (map-range_with_len_more g from n number is)

pub added_more : (p : Plan) (from n number : ℕ) (before nears : List Near) (fars : List Far) (near : Near) (far : Far) → from + n ≡ number
    → AreAdded p from n before nears fars → near_id near ≡ far_id far → (far_id far).depth ≡ depth_of p number → (far_id far).room ≡ replies_of p number
    → IsUnusedNear near → IsUnused far → AreAdded p from (n + 1) before (nears ++ near ∷ []) (fars ++ far ∷ [])
added_more p from n number before nears fars near far is so_far same depth room unused_near unused = record {
  lanes =
      map_push near_id nears near ∙ ap (λ ids. ids ++ near_id near ∷ []) so_far.lanes ∙ append_assoc (map near_id before) (map far_id fars) (near_id near ∷ [])
      ∙ ap (λ id. map near_id before ++ (map far_id fars ++ id ∷ [])) same ∙ ap (λ ids. map near_id before ++ ids) (sym (map_push far_id fars far));
  depths = one_number_more depth_in (depth_of p) fars far from n number is so_far.depths depth;
  rooms = one_number_more room_in (replies_of p) fars far from n number is so_far.rooms room;
  unused = All-push IsUnused fars far so_far.unused unused;
  unused_near = λ all. All-push IsUnusedNear nears near (so_far.unused_near all) unused_near;
}

-- the same as a loop over the numbers has it
pub added_next : (p : Plan) (from number : ℕ) (before nears nears_after : List Near) (fars fars_after : List Far) (near : Near) (far : Far) → from ≤ number
    → AreAdded p from (number - from) before nears fars → nears_after ≡ nears ++ near ∷ [] → fars_after ≡ fars ++ far ∷ []
    → near_id near ≡ far_id far → (far_id far).depth ≡ depth_of p number → (far_id far).room ≡ replies_of p number
    → IsUnusedNear near → IsUnused far → AreAdded p from (number + 1 - from) before nears_after fars_after
added_next p from number before nears nears_after fars fars_after near far le so_far more_nears more_fars same depth room unused_near unused =
    let is : from + (number - from) ≡ number = omega arith in
    let next : (number - from) + 1 ≡ number + 1 - from = omega arith in
    let By : ℕ → Type 0 = λ n. AreAdded p from n before nears_after fars_after in
    let ByNears : List Near → Type 0 = λ ns. AreAdded p from ((number - from) + 1) before ns fars_after in
    let ByFars : List Far → Type 0 = λ fs. AreAdded p from ((number - from) + 1) before (nears ++ near ∷ []) fs in
    subst By next (subst ByNears (sym more_nears) (subst ByFars (sym more_fars)
    (added_more p from (number - from) number before nears fars near far is so_far same depth room unused_near unused)))
