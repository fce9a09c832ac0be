-- What arrives comes in the order in which the lanes are read.
use Rattle.std.proofs.Common.{◌≡◌, ℕ, ◌==◌, ◌||◌, Bool, true, false, List, [], ◌∷◌, ◌++◌, map, All, refl, sym, ap, ◌∙◌, subst, append-nil, append_assoc}
use Rattle.std.proofs.lemmas.List.{map-append}
use Rattle.std.proofs.lemmas.List.Elements.{All-nil, All-cons, All-head, All-tail, All-append}
use Rattle.lists.specs.Lists.{has}
use Rattle.lists.proofs.Lists.{eqb_same}
use Rattle.event_ports.specs.declared.lane.Lane.{Lane}
use Rattle.event_ports.specs.declared.lane.Lane.TheVariants.{Own, Flow}
use Rattle.event_ports.specs.Lanes.{Arrival, ComesInOrder, IsLinkedTo, lanes_read, same_lane}

-- nothing arrived
pub none_in_order : (lanes : List Lane) → ComesInOrder lanes []
none_in_order [] = refl
none_in_order (lane ∷ lanes) = ([], [], refl, All-nil (λ (a : Arrival). a.0 ≡ lane), none_in_order lanes)

-- all came from one lane
pub from_one : (lane : Lane) (xs : List Arrival) → ComesInOrder (lane ∷ []) xs → All (λ a. a.0 ≡ lane) xs
from_one lane xs (here, later, parts, all, none) =
    let Here : List Arrival → Type 0 = λ ys. All (λ a. a.0 ≡ lane) ys in
    subst Here (sym (parts ∙ ap (λ r. here ++ r) none ∙ append-nil here)) all

pub one_in_order : (lane : Lane) (xs : List Arrival) → All (λ a. a.0 ≡ lane) xs → ComesInOrder (lane ∷ []) xs
one_in_order lane xs all = (xs, [], sym (append-nil xs), all, refl)

-- more lanes were read
pub more_in_order : (lanes more : List Lane) (xs ys : List Arrival) → ComesInOrder lanes xs → ComesInOrder more ys → ComesInOrder (lanes ++ more) (xs ++ ys)
more_in_order [] more xs ys none next = subst (ComesInOrder more) (sym (ap (λ r. r ++ ys) none)) next
more_in_order (l ∷ lanes) more xs ys (here, later, parts, first, rest) next =
    (here, later ++ ys, ap (λ r. r ++ ys) parts ∙ append_assoc here later ys, first, more_in_order lanes more later ys rest next)

-- what holds of each lane that was read holds of those from which something arrived
each_read : (P : Lane → Type 0) (lanes : List Lane) (xs : List Arrival) → All P lanes → ComesInOrder lanes xs → All (λ a. P a.0) xs
each_read P [] xs all none = let To : List Arrival → Type 0 = λ ys. All (λ a. P a.0) ys in subst To (sym none) (All-nil (λ (a : Arrival). P a.0))
each_read P (lane ∷ lanes) xs all (here, later, parts, first, rest) =
    let To : List Arrival → Type 0 = λ ys. All (λ a. P a.0) ys in
    subst To (sym parts)
    (All-append (λ (a : Arrival). P a.0) here later (λ k d lt. subst P (sym (first k d lt)) (All-head P lane lanes all)) (each_read P lanes later (All-tail P lane lanes all) rest))

or_true : (b : Bool) → (b || true) ≡ true
or_true true = refl
or_true false = refl

-- each link is one of the links
all_links : (more links : List ℕ) → ((j : ℕ) → has j links ≡ true → has j more ≡ true) → All (IsLinkedTo more) (map Flow links)
all_links more [] among = All-nil (IsLinkedTo more)
all_links more (l ∷ links) among =
    All-cons (IsLinkedTo more) (Flow l) (map Flow links) (among l (ap (λ b. b || has l links) (eqb_same l)))
    (all_links more links (λ j is. among j (ap (λ b. (l == j) || b) is ∙ or_true (l == j))))

pub all_linked_to : (links : List ℕ) (xs : List Arrival) → ComesInOrder (lanes_read links) xs → All (λ a. IsLinkedTo links a.0) xs
all_linked_to links xs order = each_read (IsLinkedTo links) (lanes_read links) xs (All-cons (IsLinkedTo links) Own (map Flow links) tt (all_links links links (λ j is. is))) order

-- the flow lanes that were read, where one link more was
pub read_more : (links more : List ℕ) (lane : ℕ) → more ≡ links ++ lane ∷ [] → map Flow more ≡ map Flow links ++ Flow lane ∷ []
read_more links more lane e = ap (map Flow) e ∙ map-append Flow links (lane ∷ [])

no_own : (links : List ℕ) → All (λ l. same_lane l Own ≡ false) (map Flow links)
no_own [] = All-nil (λ (l : Lane). same_lane l Own ≡ false)
no_own (j ∷ js) = All-cons (λ (l : Lane). same_lane l Own ≡ false) (Flow j) (map Flow js) refl (no_own js)

-- nothing came from the own lane where flow lanes alone were read
pub flows_only : (links : List ℕ) (xs : List Arrival) → ComesInOrder (map Flow links) xs → All (λ a. same_lane a.0 Own ≡ false) xs
flows_only links xs order = each_read (λ l. same_lane l Own ≡ false) (map Flow links) xs (no_own links) order
