-- The ends of all lanes, as a stop finds them: of the ports' own lanes, then of the flow lanes.
use Rattle.std.proofs.Common.{◌≡◌, ℕ, zero, suc, ◌+◌, ◌-◌, ◌<◌, ◌≤◌, List, [], ◌∷◌, ◌++◌, drop, length, map, flat_map, get_or, All, refl, sym, ap, ◌∙◌, arith, zero-add}
use Rattle.std.specs.Prelude.{slice_get, Option, Some, option_map}
use Rattle.std.specs.List.{range_with_len}
use Rattle.std.proofs.lemmas.List.{length-map, get_or-map}
use Rattle.std.proofs.lemmas.Option.{get_or_from_slice_get, slice_get-map, slice_get_within}
use Rattle.lists.proofs.Lists.{slice_get-append_left, slice_get-some}
use Rattle.lane_rings.specs.declared.far.Far.{Far}
use Rattle.lane_rings.specs.declared.near.Near.{Near}
use Rattle.event_ports.specs.Ports.{hand}
use Rattle.event_ports.specs.declared.rest.Rest as left
use Rattle.event_ports.specs.declared.port.Port.{Port}
use Rattle.event_device.specs.Between.{rest_at, rest_between, rest_of}
use Rattle.world_laws.specs.Rest.{Rest}
use Rattle.event_answers.specs.declared.report.Held.{Held}
use Rattle.event_device.specs.Device.{number_of}
use Rattle.event_device.specs.Held.{held_by, held_in, held_entry}
use Rattle.event_device.proofs.Sorting.{numbered_at, numbered_length}

-- a lane whose ends are these
pub rest_is : (nears : List Near) (fars : List Far) (l : ℕ) (near : Near) (far : Far) → slice_get nears l ≡ Some near → slice_get fars l ≡ Some far → rest_at nears fars l ≡ rest_between near far
rest_is nears fars l near far at_near at_far = ap (λ (o : Option Near). rest_of o (slice_get fars l)) at_near ∙ ap (rest_of (Some near)) at_far

-- an item of the first list, and of the second
first_at : {X Y : Type 0} (f : X → Y) (xs : List X) (ys zs : List Y) (k : ℕ) (x : X) → zs ≡ map f xs ++ ys → slice_get xs k ≡ Some x → slice_get zs k ≡ Some (f x)
first_at f xs ys zs k x are at =
    let short : k < length (map f xs) = omega (arith, slice_get_within xs k x at, length-map xs f) in
    ap (λ ws. slice_get ws k) are ∙ (slice_get-append_left (map f xs) ys k short ∙ (slice_get-map f xs k ∙ ap (option_map f) at))

second_at : {Y : Type 0} (xs ys : List Y) (k j : ℕ) → k ≡ length xs + j → slice_get (xs ++ ys) k ≡ slice_get ys j
second_at [] ys k j e = ap (slice_get ys) (e ∙ zero-add j)
second_at (x ∷ xs) ys zero j e = absurd (omega (arith, e))
second_at (x ∷ xs) ys (suc k) j e = second_at xs ys k j (omega (arith, e))

-- what is seen of each port's own lane is what its port had
pub own_all :
    {Y : Type 0} (f : Far → Y) (g : Port → Y) (m : Rest → Y) → ((near : Near) (far : Far) → m (rest_between near far) ≡ f far) → (nears : List Near) (fars ends : List Far) (rests : List left.Rest) (sorted : List Port) (n : ℕ)
    → length fars ≡ length nears → fars ≡ map (λ (r : left.Rest). r.own) rests ++ ends → map (λ (r : left.Rest). f r.own) rests ≡ map g sorted → map number_of sorted ≡ range_with_len 0 n
    → All (λ p. m (rest_at nears fars (number_of p)) ≡ g p) sorted
own_all {Y} f g m seen nears fars ends rests sorted n count are same numbers k p short =
    let own : left.Rest → Far = λ r. r.own in
    let q : Port = get_or sorted k p in
    let as_many : length rests ≡ length sorted = omega (arith, ap length same, length-map rests (λ (r : left.Rest). f r.own), length-map sorted g) in
    let low : k < n = omega (arith, numbered_length number_of sorted n numbers, short) in
    let number : number_of q ≡ k = numbered_at number_of sorted n k p numbers low in
    let there = slice_get-some rests k (omega (arith, as_many, short)) in
    let r : left.Rest = there.0 in
    let at_far : slice_get fars k ≡ Some r.own = first_at own rests ends fars k r are there.1 in
    let near = slice_get-some nears k (omega (arith, slice_get_within fars k r.own at_far, count)) in
    let value : f r.own ≡ g q =
    ap (λ (x : left.Rest). f x.own) (sym (get_or_from_slice_get rests k r r there.1))
    ∙ (sym (get_or-map (λ (x : left.Rest). f x.own) rests k r (g q) (omega (arith, as_many, short))) ∙ (ap (λ ys. get_or ys k (g q)) same ∙ get_or-map g sorted k p (g q) short)) in
    ap (λ i. m (rest_at nears fars i)) number ∙ (ap m (rest_is nears fars k near.0 r.own near.1 at_far) ∙ (seen near.0 r.own ∙ value))

-- a flow lane's end stands after those of the ports
pub flow_end : (fars ends : List Far) (rests : List left.Rest) (n j : ℕ) (far : Far) → fars ≡ map (λ (r : left.Rest). r.own) rests ++ ends → length rests ≡ n → slice_get ends j ≡ Some far → slice_get fars (n + j) ≡ Some far
flow_end fars ends rests n j far are count at =
    ap (λ xs. slice_get xs (n + j)) are ∙ (second_at (map (λ (r : left.Rest). r.own) rests) ends (n + j) j (omega (arith, length-map rests (λ (r : left.Rest). r.own), count)) ∙ at)

-- so an end past those of the ports is a flow lane's
pub past_own : (fars ends : List Far) (rests : List left.Rest) (n l : ℕ) (far : Far) → fars ≡ map (λ (r : left.Rest). r.own) rests ++ ends → length rests ≡ n → n ≤ l → slice_get fars l ≡ Some far → slice_get ends (l - n) ≡ Some far
past_own fars ends rests n l far are count past at =
    let split : l ≡ length (map (λ (r : left.Rest). r.own) rests) + (l - n) = omega (arith, length-map rests (λ (r : left.Rest). r.own), count, past) in
    sym (second_at (map (λ (r : left.Rest). r.own) rests) ends l (l - n) split) ∙ (ap (λ xs. slice_get xs l) (sym are) ∙ at)

-- what is listed as held of what is left of the ports is what the ports held
pub all_held : (rests : List left.Rest) (sorted : List Port) → map (λ (r : left.Rest). r.number) rests ≡ map number_of sorted → map (λ (r : left.Rest). r.held.items) rests ≡ map (λ (p : Port). (hand p).holding) sorted → flat_map held_in rests ≡ flat_map held_by sorted
all_held [] [] numbers held = refl
all_held [] (p ∷ sorted) numbers held = absurd (omega (arith, ap length numbers))
all_held (r ∷ rests) [] numbers held = absurd (omega (arith, ap length numbers))
all_held (r ∷ rests) (p ∷ sorted) numbers held =
    let number : r.number ≡ number_of p = ap (λ ns. get_or ns 0 0) numbers in
    let holding : r.held.items ≡ (hand p).holding = ap (λ xss. get_or xss 0 []) held in
    let first : held_in r ≡ held_by p = ap (λ n. map (held_entry n) r.held.items) number ∙ ap (map (held_entry (number_of p))) holding in
    ap (λ (xs : List Held). xs ++ flat_map held_in rests) first ∙ ap (λ (xs : List Held). held_by p ++ xs) (all_held rests sorted (ap (drop 1) numbers) (ap (drop 1) held))
