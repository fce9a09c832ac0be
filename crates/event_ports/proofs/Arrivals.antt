-- What arrives comes after what was received before, lane by lane and in all.
use Rattle.std.proofs.Common.{◌≡◌, ◌≢◌, ℕ, suc, ◌+◌, ◌<◌, ◌≤◌, cond, true, List, [], ◌∷◌, ◌++◌, length, map, filter, take, drop, All, refl, sym, ap, ◌∙◌, subst, arith, append-nil, append_assoc}
use Rattle.std.proofs.lemmas.List.{map-append, length-append, length-map, take-append-drop, take-take, take_all}
use Rattle.std.proofs.lemmas.List.Elements.{All-nil, All-cons, All-weaker, filter-append}
use mathlib.Core.Logic.{dite}
use native.Mathlib.Decide.{dec_le}
use Rattle.lists.proofs.Lists.{filter-all, filter-none}
use Rattle.evt_types.specs.declared.event.Delivery.{Delivery}
use Rattle.event_ports.specs.declared.lane.Lane.{Lane}
use Rattle.event_ports.specs.declared.lane.Holding.{Holding}
use Rattle.event_ports.specs.Lanes.{Hand, Rests, Takes, Arrival, Arrives, ArrivesFrom, ComesInOrder, HasRoomFor, lanes_read, from_lane, same_lane, holding_of}
use Rattle.event_ports.specs.declared.lane.Lane.TheVariants.{Own, Flow}
use Rattle.event_ports.proofs.Orders.{by_lane, lane_same}
use Rattle.event_ports.proofs.ReadOrder.{from_one, none_in_order, one_in_order, more_in_order, flows_only, all_linked_to}

-- deliveries that arrived from one lane
abbrev from : Lane → List Delivery → List Arrival
from lane ds = map (λ d. (lane, d)) ds

seconds : (lane : Lane) (ds : List Delivery) → map (λ (a : Arrival). a.1) (from lane ds) ≡ ds
seconds lane [] = refl
seconds lane (d ∷ ds) = ap (λ (r : List Delivery). d ∷ r) (seconds lane ds)

notes : (lane : Lane) (ds : List Delivery) → map (λ (a : Arrival). holding_of a.0 a.1) (from lane ds) ≡ map (holding_of lane) ds
notes lane [] = refl
notes lane (d ∷ ds) = ap (λ (r : List Holding). holding_of lane d ∷ r) (notes lane ds)

all_from : (lane : Lane) (ds : List Delivery) → All (λ (a : Arrival). a.0 ≡ lane) (from lane ds)
all_from lane [] = All-nil (λ (a : Arrival). a.0 ≡ lane)
all_from lane (d ∷ ds) = All-cons (λ (a : Arrival). a.0 ≡ lane) (lane, d) (from lane ds) refl (all_from lane ds)

from_other : (lane l : Lane) (ds : List Delivery) → lane ≢ l → from_lane l (from lane ds) ≡ []
from_other lane l [] ne = refl
from_other lane l (d ∷ ds) ne =
    let rest : List Arrival = filter (λ (a : Arrival). same_lane a.0 l) (from lane ds) in
    by_lane lane l (λ t. map (λ (a : Arrival). a.1) (cond t ((lane, d) ∷ rest) rest) ≡ []) (λ e. absurd (ne e)) (λ _. from_other lane l ds ne)

from_here : (lane l : Lane) (ds : List Delivery) → lane ≡ l → from_lane l (from lane ds) ≡ ds
from_here lane l [] e = refl
from_here lane l (d ∷ ds) e =
    let rest : List Arrival = filter (λ (a : Arrival). same_lane a.0 l) (from lane ds) in
    by_lane lane l (λ t. map (λ (a : Arrival). a.1) (cond t ((lane, d) ∷ rest) rest) ≡ d ∷ ds) (λ _. ap (λ (r : List Delivery). d ∷ r) (from_here lane l ds e)) (λ ne. absurd (ne e))

-- of those that came from one lane all
all_of_lane : (lane : Lane) (xs : List Arrival) → All (λ (a : Arrival). a.0 ≡ lane) xs → from_lane lane xs ≡ map (λ (a : Arrival). a.1) xs
all_of_lane lane xs all =
    ap (map (λ (a : Arrival). a.1))
    (filter-all (λ (a : Arrival). same_lane a.0 lane) xs
    (All-weaker (λ (a : Arrival). a.0 ≡ lane) (λ (a : Arrival). same_lane a.0 lane ≡ true) (λ a e. lane_same a.0 lane e) xs all))

-- some arrived from the lane
pub arrives_some : (lane : Lane) (h m : Hand) (b e ds : List Delivery) → Takes lane ds h m → e ≡ b ++ ds → ArrivesFrom (lane ∷ []) h m b e
arrives_some lane h m b e ds t same = record {
  arrived = from lane ds;
  deliveries = same ∙ ap (λ r. b ++ r) (sym (seconds lane ds));
  in_order = one_in_order lane (from lane ds) (all_from lane ds);
  said = t.said;
  got = λ l. by_lane lane l (λ _. m.got l ≡ h.got l ++ from_lane l (from lane ds))
      (λ is.
      let Here : Lane → Type 0 = λ x. m.got x ≡ h.got x ++ ds in
      subst Here is t.got_here ∙ ap (λ r. h.got l ++ r) (sym (from_here lane l ds is)))
      (λ ne. t.got l (λ is. ne (sym is)) ∙ sym (ap (λ r. h.got l ++ r) (from_other lane l ds ne) ∙ append-nil (h.got l)));
  holding = t.holding ∙ ap (λ r. h.holding ++ r) (sym (notes lane ds));
}

-- none did
pub arrives_none : (lane : Lane) (h m : Hand) (b : List Delivery) → Rests h m → ArrivesFrom (lane ∷ []) h m b b
arrives_none lane h m b same =
    arrives_some lane h m b b []
    (record {
      said = same.said;
      got_here = same.got lane ∙ sym (append-nil (h.got lane));
      got = λ l ne. same.got l;
      holding = same.holding ∙ sym (append-nil h.holding);
    }) (sym (append-nil b))

-- these lanes were passed over
pub none_read : (lanes : List Lane) (h : Hand) (b : List Delivery) → ArrivesFrom lanes h h b b
none_read lanes h b = record {
  arrived = [];
  deliveries = sym (append-nil b);
  in_order = none_in_order lanes;
  said = λ l. refl;
  got = λ l. sym (append-nil (h.got l));
  holding = sym (append-nil h.holding);
}

-- more arrived, from more lanes
pub arrives_more : (lanes later all : List Lane) (h k m : Hand) (b c e : List Delivery) → all ≡ lanes ++ later → ArrivesFrom lanes h k b c → ArrivesFrom later k m c e → ArrivesFrom all h m b e
arrives_more lanes later all h k m b c e read a t = record {
  arrived = a.arrived ++ t.arrived;
  deliveries = t.deliveries ∙ ap (λ r. r ++ map (λ (x : Arrival). x.1) t.arrived) a.deliveries ∙ append_assoc b (map (λ (x : Arrival). x.1) a.arrived) (map (λ (x : Arrival). x.1) t.arrived)
      ∙ ap (λ r. b ++ r) (sym (map-append (λ (x : Arrival). x.1) a.arrived t.arrived));
  in_order = subst (λ (ls : List Lane). ComesInOrder ls (a.arrived ++ t.arrived)) (sym read) (more_in_order lanes later a.arrived t.arrived a.in_order t.in_order);
  said = λ l. t.said l ∙ a.said l;
  got = λ l. t.got l ∙ ap (λ r. r ++ from_lane l t.arrived) (a.got l) ∙ append_assoc (h.got l) (from_lane l a.arrived) (from_lane l t.arrived)
      ∙ ap (λ r. h.got l ++ r) (sym (ap (map (λ (x : Arrival). x.1)) (filter-append (λ (x : Arrival). same_lane x.0 l) a.arrived t.arrived)
      ∙ map-append (λ (x : Arrival). x.1) (filter (λ (x : Arrival). same_lane x.0 l) a.arrived) (filter (λ (x : Arrival). same_lane x.0 l) t.arrived)));
  holding = t.holding ∙ ap (λ r. r ++ map (λ (x : Arrival). holding_of x.0 x.1) t.arrived) a.holding
      ∙ append_assoc h.holding (map (λ (x : Arrival). holding_of x.0 x.1) a.arrived) (map (λ (x : Arrival). holding_of x.0 x.1) t.arrived)
      ∙ ap (λ r. h.holding ++ r) (sym (map-append (λ (x : Arrival). holding_of x.0 x.1) a.arrived t.arrived));
}

-- from the links up to a later site, where those between were passed over
pub arrives_past : (links : List ℕ) (from to : ℕ) (h k : Hand) (b c : List Delivery) → from ≤ to → ArrivesFrom (map Flow (take from links)) h k b c → ArrivesFrom (map Flow (take to links)) h k b c
arrives_past links from to h k b c le a =
    let past : List ℕ = drop from (take to links) in
    let read : map Flow (take to links) ≡ map Flow (take from links) ++ map Flow past =
    ap (map Flow) (sym (take-append-drop from (take to links)) ∙ ap (λ r. r ++ past) (take-take from to links le)) ∙ map-append Flow (take from links) past in
    arrives_more (map Flow (take from links)) (map Flow past) (map Flow (take to links)) h k k b c c read a (none_read (map Flow past) k c)

pub arrives_all : (links : List ℕ) (from : ℕ) (h k : Hand) (b c : List Delivery) → from ≤ length links → ArrivesFrom (map Flow (take from links)) h k b c → ArrivesFrom (map Flow links) h k b c
arrives_all links from h k b c le a =
    let To : List ℕ → Type 0 = λ ls. ArrivesFrom (map Flow ls) h k b c in
    subst To (take_all (length links) links (omega arith)) (arrives_past links from (length links) h k b c le a)

-- how many there are then
pub arrives_grows : (lanes : List Lane) (h k : Hand) (b c : List Delivery) → ArrivesFrom lanes h k b c → length b ≤ length c
arrives_grows lanes h k b c a = omega (arith, ap length a.deliveries, length-append b (map (λ (x : Arrival). x.1) a.arrived))

pub arrives_length : (lanes : List Lane) (h k : Hand) (c : List Delivery) → ArrivesFrom lanes h k [] c → length k.holding ≡ length h.holding + length c
arrives_length lanes h k c a =
    omega (
      arith,
      ap length a.deliveries,
      ap length a.holding,
      length-append h.holding (map (λ (x : Arrival). holding_of x.0 x.1) a.arrived),
      length-map a.arrived (λ (x : Arrival). x.1),
      length-map a.arrived (λ (x : Arrival). holding_of x.0 x.1),
    )

-- what came from the own lane alone
pub own_only : (h k : Hand) (c : List Delivery) (seen : List Delivery) → ArrivesFrom (Own ∷ []) h k [] c → length (k.got Own) ≢ length (h.got Own) + length c → seen ≡ []
own_only h k c seen a ne =
    let all : from_lane Own a.arrived ≡ map (λ (x : Arrival). x.1) a.arrived = all_of_lane Own a.arrived (from_one Own a.arrived a.in_order) in
    absurd (ne (omega (arith, ap length (a.got Own), length-append (h.got Own) (from_lane Own a.arrived), ap length all, ap length a.deliveries)))

-- what came from flow lanes after the own one: something only where no more was seen of the own one
pub flows_after :
    (h k m : Hand) (links : List ℕ) (most : ℕ) (b c seen later : List Delivery) → length b ≤ most → (length b < most → seen ≡ [])
    → (length (k.got Own) ≢ length (h.got Own) + length b → seen ≡ []) → ArrivesFrom (map Flow links) k m b c → (length b ≡ most → c ≡ b) → later ≡ seen
    → length (m.got Own) ≢ length (h.got Own) + length c → later ≡ []
flows_after h k m links most b c seen later few less before a none same ne =
    dite (dec_le (suc (length b)) most)
    (λ lt. same ∙ less (omega (arith, lt)))
    (λ ge.
    let full : c ≡ b = none (omega (arith, ge, few)) in
    same ∙ before (λ e. ne (omega (arith, e, ap length full, own_kept))))
  where
    own_kept : length (m.got Own) ≡ length (k.got Own)
    own_kept = ap length (a.got Own ∙ ap (λ r. k.got Own ++ r) (ap (map (λ (x : Arrival). x.1)) (filter-none (λ (x : Arrival). same_lane x.0 Own) a.arrived (flows_only links a.arrived a.in_order))) ∙ append-nil (k.got Own))

-- all lanes were read
pub arrives : (links : List ℕ) (h k : Hand) (b c : List Delivery) → ArrivesFrom (lanes_read links) h k b c → Arrives links h k b c
arrives links h k b c a = record {
  arrived = a.arrived;
  deliveries = a.deliveries;
  linked = all_linked_to links a.arrived a.in_order;
  in_order = a.in_order;
  said = a.said;
  got = a.got;
  holding = a.holding;
}

-- those that were received take their entries
pub room_less : (most depth : ℕ) (xs ys : List Holding) (lane : Lane) (ds es came : List Delivery) → HasRoomFor most depth xs ds → length es ≤ most
    → ys ≡ xs ++ map (holding_of lane) came → es ≡ ds ++ came → HasRoomFor most depth ys es
room_less most depth xs ys lane ds es came r few e f =
    let a : length ys ≡ length xs + length came = ap length e ∙ length-append xs (map (holding_of lane) came) ∙ ap (λ n. length xs + n) (length-map came (holding_of lane)) in
    let b : length es ≡ length ds + length came = ap length f ∙ length-append ds came in
    record { few = few; small = r.small; held = omega (arith, a, b, r.held) }
