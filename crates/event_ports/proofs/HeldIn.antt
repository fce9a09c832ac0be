-- What is held of a port that notes what comes, and of one that notes nothing: both change as what is unanswered of the lanes does.
use Rattle.std.proofs.Common.{◌≡◌, ◌≢◌, ℕ, zero, suc, ◌+◌, ◌<◌, ◌≤◌, Bool, true, false, cond, List, [], ◌∷◌, ◌++◌, length, map, take, drop, slice_get, Some, None, refl, sym, ap, ◌∙◌, arith}
use Rattle.std.proofs.lemmas.List.{drop-map, map-append, length-map}
use Rattle.std.proofs.lemmas.Option.{none-some, same_Some}
use Rattle.evt_types.specs.Event.{pair_of}
use Rattle.evt_types.specs.declared.event.Delivery.{Delivery}
use Rattle.lane_rings.specs.Ends.{answered, answers_among, received_by, unanswered}
use Rattle.lane_rings.specs.declared.far.Far.{Far}
use Rattle.event_ports.specs.declared.lane.Holding.{Holding}
use Rattle.event_ports.specs.declared.lane.Lane.{Lane}
use Rattle.event_ports.specs.declared.lane.Lane.TheVariants.{Own, Flow}
use Rattle.event_ports.specs.HeldRings.{Held}
use Rattle.event_ports.specs.Holds.{Hands, held_on}
use Rattle.event_ports.specs.Lanes.{AreOrdered, first_lane, held_in, held_of, holding_of, open_on, pair_in}
use Rattle.event_ports.proofs.Entries.{none_left}
use Rattle.event_ports.proofs.Noting.{behind}
use Rattle.event_ports.proofs.Orders.{each_lane, noted_elsewhere, own_flow, some_first}

pub held_noted : (own : Far) (h : Held) → h.notes ≡ true → held_in own h ≡ h.items
held_noted own h is = ap {B = List Holding} (λ b. cond b h.items (map (holding_of Own) (unanswered own))) is

pub held_unnoted : (own : Far) (h : Held) → h.notes ≡ false → held_in own h ≡ map (holding_of Own) (unanswered own)
held_unnoted own h is = ap {B = List Holding} (λ b. cond b h.items (map (holding_of Own) (unanswered own))) is

-- nothing of the own lane was answered or received
pub still_held : (own later : Far) (h : Held) → unanswered later ≡ unanswered own → held_in later h ≡ held_in own h
still_held own later h left = ap (λ (ds : List Delivery). cond h.notes h.items (map (holding_of Own) ds)) left

-- the oldest of the own lane were answered
pub held_dropped : (n : ℕ) (own later : Far) (h k : Held) → unanswered later ≡ drop n (unanswered own) → k.notes ≡ h.notes → (h.notes ≡ true → k.items ≡ drop n h.items)
    → held_in later k ≡ drop n (held_in own h)
held_dropped n own later h k left same items = ap {B = List Holding} (λ b. cond b k.items (map (holding_of Own) (unanswered later))) same ∙ by_flag h.notes items
  where
    by_flag : (b : Bool) → (b ≡ true → k.items ≡ drop n h.items) → cond b k.items (map (holding_of Own) (unanswered later)) ≡ drop n (cond b h.items (map (holding_of Own) (unanswered own)))
    by_flag true dropped = dropped refl
    by_flag false dropped = ap (map (holding_of Own)) left ∙ sym (drop-map (holding_of Own) n (unanswered own))

-- more came from it
pub held_more : (came : List Delivery) (own later : Far) (h k : Held) → unanswered later ≡ unanswered own ++ came → k.notes ≡ h.notes → (h.notes ≡ true → k.items ≡ h.items ++ map (holding_of Own) came)
    → held_in later k ≡ held_in own h ++ map (holding_of Own) came
held_more came own later h k left same items = ap {B = List Holding} (λ b. cond b k.items (map (holding_of Own) (unanswered later))) same ∙ by_flag h.notes items
  where
    by_flag : (b : Bool) → (b ≡ true → k.items ≡ h.items ++ map (holding_of Own) came) → cond b k.items (map (holding_of Own) (unanswered later)) ≡ cond b h.items (map (holding_of Own) (unanswered own)) ++ map (holding_of Own) came
    by_flag true noted = noted refl
    by_flag false noted = ap (map (holding_of Own)) left ∙ map-append (holding_of Own) (unanswered own) came

-- of a port that notes what comes more came from a flow lane, or the oldest was answered
pub flow_more : (own : Far) (xs : List Holding) (h k : Held) → h.notes ≡ true → k.notes ≡ h.notes → (h.notes ≡ true → k.items ≡ h.items ++ xs) → held_in own k ≡ held_in own h ++ xs
flow_more own xs h k notes same items = held_noted own k (same ∙ notes) ∙ items notes ∙ ap (λ (ys : List Holding). ys ++ xs) (sym (held_noted own h notes))

pub flow_dropped : (n : ℕ) (own : Far) (h k : Held) → h.notes ≡ true → k.notes ≡ h.notes → (h.notes ≡ true → k.items ≡ drop n h.items) → held_in own k ≡ drop n (held_in own h)
flow_dropped n own h k notes same items = held_noted own k (same ∙ notes) ∙ items notes ∙ ap (drop n) (sym (held_noted own h notes))

-- a port that notes nothing holds nothing of flow lanes
first_own : (ds : List Delivery) (j : ℕ) → first_lane (map (holding_of Own) ds) ≡ Some (Flow j) → ⊥
first_own [] j first = none-some (Flow j) first
first_own (d ∷ ds) j first = own_flow j (sym (same_Some Own (Flow j) first))

pub flow_first : (own : Far) (h : Held) (j : ℕ) → first_lane (held_in own h) ≡ Some (Flow j) → h.notes ≡ true
flow_first own h j first = by_flag h.notes first
  where
    by_flag : (b : Bool) → first_lane (cond b h.items (map (holding_of Own) (unanswered own))) ≡ Some (Flow j) → b ≡ true
    by_flag true first = refl
    by_flag false first = absurd (first_own (unanswered own) j first)

-- where there is an oldest, one at least was noted
some_there : (xs : List Holding) → xs ≢ [] → 1 ≤ length xs
some_there [] none = absurd (none refl)
some_there (x ∷ xs) some = omega arith

pub first_noted : (own : Far) (h : Held) (lane : Lane) → first_lane (held_in own h) ≡ Some lane → h.notes ≡ true → 1 ≤ length h.items
first_noted own h lane first noted = some_there h.items (some_first h.items lane (ap first_lane (sym (held_noted own h noted)) ∙ first))

-- what is held lane by lane, where nothing of the own lane was answered or received
pub still_ordered : (own later : Far) (hands : Hands) (h : Held) → unanswered later ≡ unanswered own → AreOrdered own hands (held_in own h) → AreOrdered later hands (held_in later h)
still_ordered own later hands h left ordered =
    let same : held_in later h ≡ held_in own h = still_held own later h left in
    each_lane (λ l. map pair_in (held_of l (held_in later h)) ≡ map pair_of (open_on later hands l))
    (ap (λ xs. map pair_in (held_of Own xs)) same ∙ ordered Own ∙ ap (map pair_of) (sym left)) (λ j. ap (λ xs. map pair_in (held_of (Flow j) xs)) same ∙ ordered (Flow j))

-- a port that notes nothing, and of which nothing is unanswered, holds nothing
pub none_held : (own : Far) (h : Held) → h.items ≡ [] → unanswered own ≡ [] → held_in own h ≡ []
none_held own h items left = by_flag h.notes
  where
    by_flag : (b : Bool) → cond b h.items (map (holding_of Own) (unanswered own)) ≡ []
    by_flag true = items
    by_flag false = ap (map (holding_of Own)) left

-- how many a port that notes nothing holds
pub length_unnoted : (own : Far) (h : Held) → h.notes ≡ false → length (held_in own h) ≡ length (unanswered own)
length_unnoted own h is = ap length (held_unnoted own h is) ∙ length-map (unanswered own) (holding_of Own)

-- and from where the oldest came
first_unnoted : (ds : List Delivery) → 0 < length ds → first_lane (map (holding_of Own) ds) ≡ Some Own
first_unnoted [] some = absurd (omega (arith, some))
first_unnoted (d ∷ ds) some = refl

none_unnoted : (ds : List Delivery) → length ds ≡ 0 → first_lane (map (holding_of Own) ds) ≡ None
none_unnoted [] none = refl
none_unnoted (d ∷ ds) none = absurd (omega (arith, none))

pub own_first : (own : Far) (h : Held) → h.notes ≡ false → 0 < length (unanswered own) → first_lane (held_in own h) ≡ Some Own
own_first own h is some = ap first_lane (held_unnoted own h is) ∙ first_unnoted (unanswered own) some

pub none_first : (own : Far) (h : Held) → h.notes ≡ false → length (unanswered own) ≡ 0 → first_lane (held_in own h) ≡ None
none_first own h is none = ap first_lane (held_unnoted own h is) ∙ none_unnoted (unanswered own) none

-- what came into an array behind others is noted
came_noted : (lane : Lane) (from : ℕ) (old new came : List Delivery) (h k : Held) → new ≡ old ++ came → from ≡ length old → (h.notes ≡ true → k.items ≡ h.items ++ map (holding_of lane) (drop from new))
    → h.notes ≡ true → k.items ≡ h.items ++ map (holding_of lane) came
came_noted lane from old new came h k array is noted notes = noted notes ∙ ap (λ (ds : List Delivery). h.items ++ map (holding_of lane) ds) (behind from old new came array is)

pub came_own : (own later : Far) (h k : Held) (old new came : List Delivery) → old ≡ [] → new ≡ old ++ came → unanswered later ≡ unanswered own ++ came
    → k.notes ≡ h.notes → (h.notes ≡ true → k.items ≡ h.items ++ map (holding_of Own) (drop 0 new)) → held_in later k ≡ held_in own h ++ map (holding_of Own) came
came_own own later h k old new came none array left same noted = held_more came own later h k left same (came_noted Own 0 old new came h k array (ap length (sym none)) noted)

pub came_flow : (lane : Lane) (own : Far) (h k : Held) (from : ℕ) (old new came : List Delivery) → h.notes ≡ true → new ≡ old ++ came → from ≡ length old
    → k.notes ≡ h.notes → (h.notes ≡ true → k.items ≡ h.items ++ map (holding_of lane) (drop from new)) → held_in own k ≡ held_in own h ++ map (holding_of lane) came
came_flow lane own h k from old new came notes array is same noted = flow_more own (map (holding_of lane) came) h k notes same (came_noted lane from old new came h k array is noted)

-- a port that notes nothing has no open stint
pub no_stints : (own : Far) (hands : Hands) (h : Held) → h.notes ≡ false → AreOrdered own hands (held_in own h) → (j : ℕ) → held_on hands j ≡ []
no_stints own hands h none ordered j =
    let of_lane : held_of (Flow j) (held_in own h) ≡ [] = ap (held_of (Flow j)) (held_unnoted own h none) ∙ noted_elsewhere Own (Flow j) (unanswered own) (λ e. own_flow j (sym e)) in
    none_left (held_on hands j) (omega (arith, length-map (held_on hands j) pair_of, ap length (sym (ordered (Flow j)) ∙ ap (map pair_in) of_lane)))

-- of a lane that isn't used nothing is unanswered, and so nothing is held
pub none_open : (own : Far) → received_by own ≡ [] → answered own ≡ [] → unanswered own ≡ []
none_open own received said = ap (λ rs. drop (answers_among rs) (received_by own)) said ∙ received

-- one more is noted of what the own lane's end has to answer
next_noted : (ds : List Delivery) (position queue number : ℕ) → slice_get (map pair_of ds) position ≡ Some (queue, number)
    → map (holding_of Own) (take (suc position) ds) ≡ map (holding_of Own) (take position ds) ++ record { lane = Own; queue = queue; number = number } ∷ []
next_noted [] position queue number at = absurd (none-some (queue, number) at)
next_noted (d ∷ ds) zero queue number at = ap (λ (p : ℕ × ℕ). record { lane = Own; queue = p.0; number = p.1 } ∷ []) (same_Some (pair_of d) (queue, number) at)
next_noted (d ∷ ds) (suc position) queue number at = ap (λ (r : List Holding). holding_of Own d ∷ r) (next_noted ds position queue number at)

pub note_next : (ds : List Delivery) (position queue number : ℕ) → slice_get (map pair_of ds) position ≡ Some (queue, number)
    → map (holding_of Own) (take (position + 1) ds) ≡ map (holding_of Own) (take position ds) ++ record { lane = Own; queue = queue; number = number } ∷ []
note_next ds position queue number at =
    let one : position + 1 ≡ suc position = omega arith in
    ap (λ n. map (holding_of Own) (take n ds)) one ∙ next_noted ds position queue number at

-- as long as there are more, there is a next one
pub is_there : {X : Type 0} (xs : List X) (position : ℕ) → position < length xs → slice_get xs position ≡ None → ⊥
is_there [] position within none = absurd (omega (arith, within))
is_there (x ∷ xs) zero within none = none-some x (sym none)
is_there (x ∷ xs) (suc position) within none = is_there xs position (omega (arith, within)) none
