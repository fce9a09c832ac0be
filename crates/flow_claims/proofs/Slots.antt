-- The act by which the slot of a lane comes before the others that the seat has: they go home and are taken again, and it last.
use Rattle.std.proofs.Common.{◌≡◌, ◌≢◌, ℕ, ◌≤◌, cond, ◌==◌, List, [], ◌∷◌, ◌++◌, map, set, Option, Some, None, All, refl, sym, ap, ◌∙◌, subst, subst₂, arith, option_to_list}
use Rattle.std.proofs.lemmas.List.{set-set, set_comm}
use Rattle.std.proofs.lemmas.List.Elements.{All-head, All-tail}
use Rattle.std.proofs.lemmas.Option.{none-some}
use mathlib.Core.Option as O
use lib.ListN.{get_elem?}
use Rattle.atomic_table.specs.Table.{Act, keeps, takes, gives, chain, rest, carried_after, homes_after, Valid}
use Rattle.atomic_table.proofs.Lists.{set_here, set_else, set_again}
use Rattle.lists.proofs.SeatSums.{place_below}
use Rattle.lane_rings.specs.declared.far.Far.{Far}
use Rattle.flow_claims.specs.declared.seating.Begun.{Begun}
use Rattle.flow_claims.specs.Seats.{find_lane, without, fronted, slot_of}
use Rattle.flow_claims.specs.Rule.{opens}
use Rattle.flow_claims.proofs.Choices.{by_number, All-both}
use Rattle.flow_claims.proofs.Held.{found_lane, found_has, none_of_lane, opens_here, opens_more, fronted_is}

abbrev Homes : Type 0
Homes = List (O.Option (Option Far))

abbrev Slots : Type 0
Slots = List (ℕ × Option Far)

-- the first slot goes home, and then the other one is taken, and the first again
abbrev behind : ℕ → ℕ → Act (Option Far)
behind lane other = chain gives (chain (takes other None) (takes lane None))

abbrev pub bring : ℕ → List Begun → Act (Option Far)
bring lane [] = keeps
bring lane (x ∷ xs) = cond (x.lane == lane) keeps (chain gives (chain (bring lane xs) (behind lane x.lane)))

abbrev Is_out : Homes → ℕ → Type 0
Is_out hs lane = get_elem? hs lane ≡ O.some O.none

-- what the act owes, and what it does
pub record Brings (hs : Homes) (lane : ℕ) (bs : List Begun) (a : Act (Option Far)) (after : List Begun) : Type 0 where
  pub valid : Valid hs (map slot_of bs) a
  pub home : homes_after hs (map slot_of bs) a ≡ hs
  pub slots : carried_after (map slot_of bs) a ≡ map slot_of after

behind_valid : (hs : Homes) (lane other : ℕ) (m : Slots) → Is_out hs other → Is_out hs lane → other ≢ lane
    → Valid (set hs other (O.some None)) ((lane, None) ∷ m) (behind lane other)
behind_valid hs lane other m o l ne =
    let there : get_elem? (set hs other (O.some None)) lane ≡ O.some O.none = set_else hs other lane (O.some None) (λ e. ne (sym e)) ∙ l in
    let h2 : Homes = set (set hs other (O.some None)) lane (O.some None) in
    let here : get_elem? h2 lane ≡ O.some (O.some None) = set_here (set hs other (O.some None)) lane (O.some None) (place_below (set hs other (O.some None)) lane O.none there) in (
      tt,
      (
        set_else (set hs other (O.some None)) lane other (O.some None) ne ∙ set_here hs other (O.some None) (place_below hs other O.none o),
        set_else h2 other lane O.none (λ e. ne (sym e)) ∙ here,
      ),
    )

behind_home : (hs : Homes) (lane other : ℕ) (m : Slots) → Is_out hs other → Is_out hs lane → other ≢ lane
    → homes_after (set hs other (O.some None)) ((lane, None) ∷ m) (behind lane other) ≡ hs
behind_home hs lane other m o l ne =
    ap (λ (x : Homes). set x lane O.none) (set_comm (set hs other (O.some None)) lane other (O.some None) O.none (λ e. ne (sym e)))
    ∙ set-set (set (set hs other (O.some None)) other O.none) lane (O.some None) O.none
    ∙ ap (λ (x : Homes). set x lane O.none) (set-set hs other (O.some None) O.none ∙ set_again hs other O.none o)
    ∙ set_again hs lane O.none l

bring_further : (hs : Homes) (lane : ℕ) (x : Begun) (xs : List Begun) (b : Begun) → x.lane ≢ lane → find_lane lane xs ≡ Some b
    → All (λ y. get_elem? hs y.lane ≡ O.some O.none) (x ∷ xs)
    → Brings (set hs x.lane (O.some None)) lane xs (bring lane xs) (fronted lane xs)
    → Brings hs lane (x ∷ xs) (chain gives (chain (bring lane xs) (behind lane x.lane))) (option_to_list (find_lane lane xs) ++ x ∷ without lane xs)
bring_further hs lane x xs b ne d out before =
    let h1 : Homes = set hs x.lane (O.some None) in
    let m : Slots = map slot_of (without lane xs) in
    let is_lane : b.lane ≡ lane = found_lane lane xs b d in
    let x_out : Is_out hs x.lane = All-head (λ y. get_elem? hs y.lane ≡ O.some O.none) x xs out in
    let l_out : Is_out hs lane = subst (Is_out hs) is_lane (found_has (λ y. get_elem? hs y.lane ≡ O.some O.none) lane xs b (All-tail (λ y. get_elem? hs y.lane ≡ O.some O.none) x xs out) d) in
    let slots : carried_after (map slot_of xs) (bring lane xs) ≡ (lane, None) ∷ m =
    before.slots ∙ ap (map slot_of) (fronted_is lane xs b d) ∙ ap (λ (l : ℕ). (l, None) ∷ m) is_lane in
    record {
      valid = (
        tt,
        (before.valid, subst₂ (λ (h : Homes) (c : Slots). Valid h c (behind lane x.lane)) (sym before.home) (sym slots) (behind_valid hs lane x.lane m x_out l_out ne)),
      );
      home =
          ap (λ (h : Homes). homes_after h (carried_after (map slot_of xs) (bring lane xs)) (behind lane x.lane)) before.home
          ∙ ap (λ (c : Slots). homes_after h1 c (behind lane x.lane)) slots
          ∙ behind_home hs lane x.lane m x_out l_out ne;
      slots =
          ap (λ (c : Slots). (lane, None) ∷ (x.lane, None) ∷ rest c) slots
          ∙ ap (λ (l : ℕ). (l, None) ∷ (x.lane, None) ∷ m) (sym is_lane)
          ∙ ap (λ o. map slot_of (option_to_list o ++ x ∷ without lane xs)) (sym d);
    }

pub brings : (hs : Homes) (lane : ℕ) (bs : List Begun) (b : Begun) → find_lane lane bs ≡ Some b
    → ((j : ℕ) → opens j bs ≤ 1) → All (λ x. get_elem? hs x.lane ≡ O.some O.none) bs
    → Brings hs lane bs (bring lane bs) (fronted lane bs)
brings hs lane [] b e few out = absurd (none-some b e)
brings hs lane (x ∷ xs) b e few out =
    let h1 : Homes = set hs x.lane (O.some None) in
    let few' : (j : ℕ) → opens j xs ≤ 1 = λ j. omega (arith, few j, opens_more j x xs) in
    let apart : All (λ y. y.lane ≢ x.lane) xs = none_of_lane x.lane xs (omega (arith, few x.lane, opens_here x xs)) in
    let out1 : All (λ y. get_elem? h1 y.lane ≡ O.some O.none) xs =
    All-both (λ y. y.lane ≢ x.lane) (λ y. get_elem? hs y.lane ≡ O.some O.none) (λ y. get_elem? h1 y.lane ≡ O.some O.none)
    (λ y p q. set_else hs x.lane y.lane (O.some None) p ∙ q) xs apart (All-tail (λ y. get_elem? hs y.lane ≡ O.some O.none) x xs out) in
    by_number x.lane lane
    (λ t. cond t (Some x) (find_lane lane xs) ≡ Some b
    → Brings hs lane (x ∷ xs) (cond t keeps (chain gives (chain (bring lane xs) (behind lane x.lane)))) (option_to_list (cond t (Some x) (find_lane lane xs)) ++ cond t xs (x ∷ without lane xs)))
    (λ same d. record { valid = tt; home = refl; slots = refl })
    (λ ne d. bring_further hs lane x xs b ne d out (brings h1 lane xs b d few' out1)) e
