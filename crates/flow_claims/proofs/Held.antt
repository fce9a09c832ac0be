-- The open stints of a seat: finding that of a lane, taking it away, and counting.
use Rattle.std.proofs.Common.{◌≡◌, ◌≢◌, ℕ, ◌+◌, cond, eqb, List, [], ◌∷◌, ◌++◌, Some, None, All, refl, sym, ap, ◌∙◌, subst, arith, eq-eqb, ne_eqb, option_to_list, sum_by}
use Rattle.std.proofs.lemmas.List.Elements.{All-nil, All-cons, All-head, All-tail}
use Rattle.std.proofs.lemmas.Option.{none-some, same_Some}
use Rattle.std.proofs.lemmas.List.Sums.{sum_by-cons}
use Rattle.lists.specs.Counts.{count}
use Rattle.flow_claims.specs.declared.seating.Begun.{Begun}
use Rattle.flow_claims.specs.Seats.{find_lane, without, fronted}
use Rattle.flow_claims.specs.Rule.{opens}
use Rattle.flow_claims.proofs.Choices.{by_number}

pub found_lane : (lane : ℕ) (bs : List Begun) (b : Begun) → find_lane lane bs ≡ Some b → b.lane ≡ lane
found_lane lane [] b e = absurd (none-some b e)
found_lane lane (x ∷ xs) b e =
    by_number x.lane lane (λ t. cond t (Some x) (find_lane lane xs) ≡ Some b → b.lane ≡ lane)
    (λ h d. ap (λ (y : Begun). y.lane) (sym (same_Some x b d)) ∙ h) (λ ne d. found_lane lane xs b d) e

pub found_has : (P : Begun → Type 0) (lane : ℕ) (bs : List Begun) (b : Begun) → All P bs → find_lane lane bs ≡ Some b → P b
found_has P lane [] b all e = absurd (none-some b e)
found_has P lane (x ∷ xs) b all e =
    by_number x.lane lane (λ t. cond t (Some x) (find_lane lane xs) ≡ Some b → P b)
    (λ h d. subst P (same_Some x b d) (All-head P x xs all)) (λ ne d. found_has P lane xs b (All-tail P x xs all) d) e

pub sum_without : (f : Begun → ℕ) (lane : ℕ) (bs : List Begun) (b : Begun) → find_lane lane bs ≡ Some b → f b + sum_by f (without lane bs) ≡ sum_by f bs
sum_without f lane [] b e = absurd (none-some b e)
sum_without f lane (x ∷ xs) b e =
    by_number x.lane lane (λ t. cond t (Some x) (find_lane lane xs) ≡ Some b → f b + sum_by f (cond t xs (x ∷ without lane xs)) ≡ sum_by f (x ∷ xs))
    (λ h d. omega (arith, ap f (same_Some x b d), sum_by-cons f x xs)) (λ ne d. omega (arith, sum_without f lane xs b d, sum_by-cons f x xs, sum_by-cons f x (without lane xs))) e

pub All-without : (P : Begun → Type 0) (lane : ℕ) (bs : List Begun) → All P bs → All P (without lane bs)
All-without P lane [] all = all
All-without P lane (x ∷ xs) all =
    by_number x.lane lane (λ t. All P (cond t xs (x ∷ without lane xs)))
    (λ h. All-tail P x xs all) (λ ne. All-cons P x (without lane xs) (All-head P x xs all) (All-without P lane xs (All-tail P x xs all)))

-- the other lanes' stints stay
pub find_other : (lane j : ℕ) (bs : List Begun) → j ≢ lane → find_lane j (without lane bs) ≡ find_lane j bs
find_other lane j [] ne = refl
find_other lane j (x ∷ xs) ne =
    by_number x.lane lane (λ t. find_lane j (cond t xs (x ∷ without lane xs)) ≡ find_lane j (x ∷ xs))
    (λ h. sym (ap (λ t. cond t (Some x) (find_lane j xs)) (ne_eqb x.lane j (λ e. ne (sym e ∙ h)))))
    (λ no. ap (λ r. cond (eqb x.lane j) (Some x) r) (find_other lane j xs ne))

pub found_first : (lane j : ℕ) (b : Begun) (bs : List Begun) → b.lane ≡ lane → j ≢ lane → find_lane j (b ∷ bs) ≡ find_lane j bs
found_first lane j b bs e ne = ap (λ t. cond t (Some b) (find_lane j bs)) (ne_eqb b.lane j (λ h. ne (sym h ∙ e)))

pub found_here : (lane : ℕ) (b : Begun) (bs : List Begun) → b.lane ≡ lane → find_lane lane (b ∷ bs) ≡ Some b
found_here lane b bs e = ap (λ t. cond t (Some b) (find_lane lane bs)) (eq-eqb b.lane lane e)

pub opens_more : (lane : ℕ) (b : Begun) (bs : List Begun) → opens lane (b ∷ bs) ≡ count (eqb b.lane lane) + opens lane bs
opens_more lane b bs = sum_by-cons (λ x. count (eqb x.lane lane)) b bs

pub none_found : (lane : ℕ) (bs : List Begun) → opens lane bs ≡ 0 → find_lane lane bs ≡ None
none_found lane [] h = refl
none_found lane (x ∷ xs) h =
    by_number x.lane lane (λ t. count t + opens lane xs ≡ 0 → cond t (Some x) (find_lane lane xs) ≡ None)
    (λ e z. absurd (omega (arith, z))) (λ ne z. none_found lane xs (omega (arith, z))) (omega (arith, h, opens_more lane x xs))

pub none_open : (lane : ℕ) (bs : List Begun) → find_lane lane bs ≡ None → opens lane bs ≡ 0
none_open lane [] h = refl
none_open lane (x ∷ xs) h =
    opens_more lane x xs ∙ by_number x.lane lane (λ t. cond t (Some x) (find_lane lane xs) ≡ None → count t + opens lane xs ≡ 0)
    (λ e z. absurd (none-some x (sym z))) (λ ne z. omega (arith, none_open lane xs z)) h

pub nothing_held : (bs : List Begun) → ((lane : ℕ) → find_lane lane bs ≡ None) → bs ≡ []
nothing_held [] h = refl
nothing_held (x ∷ xs) h = absurd (none-some x (sym (h x.lane) ∙ found_here x.lane x xs refl))

pub none_of_lane : (lane : ℕ) (bs : List Begun) → opens lane bs ≡ 0 → All (λ b. b.lane ≢ lane) bs
none_of_lane lane [] h = All-nil (λ b. b.lane ≢ lane)
none_of_lane lane (x ∷ xs) h =
    All-cons (λ b. b.lane ≢ lane) x xs
    (by_number x.lane lane (λ t. count t + opens lane xs ≡ 0 → x.lane ≢ lane) (λ e z. absurd (omega (arith, z))) (λ ne z. ne) (omega (arith, h, opens_more lane x xs)))
    (none_of_lane lane xs (omega (arith, h, opens_more lane x xs)))

-- the lane's stint counts
pub opens_first : (lane : ℕ) (b : Begun) (bs : List Begun) → b.lane ≡ lane → opens lane (b ∷ bs) ≡ 1 + opens lane bs
opens_first lane b bs e = opens_more lane b bs ∙ ap (λ t. count t + opens lane bs) (eq-eqb b.lane lane e)

pub opens_here : (b : Begun) (bs : List Begun) → opens b.lane (b ∷ bs) ≡ 1 + opens b.lane bs
opens_here b bs = opens_first b.lane b bs refl

pub opens_other : (lane j : ℕ) (b : Begun) (bs : List Begun) → b.lane ≡ lane → j ≢ lane → opens j (b ∷ bs) ≡ opens j bs
opens_other lane j b bs e ne = omega (arith, opens_more j b bs, ap count (ne_eqb b.lane j (λ h. ne (sym h ∙ e))))

-- where the lane's stint is found, it is the first one once its slot was brought before the others
pub fronted_is : (lane : ℕ) (bs : List Begun) (b : Begun) → find_lane lane bs ≡ Some b → fronted lane bs ≡ b ∷ without lane bs
fronted_is lane bs b e = ap (λ o. option_to_list o ++ without lane bs) e

pub without_first : (lane : ℕ) (b : Begun) (bs : List Begun) → b.lane ≡ lane → without lane (b ∷ bs) ≡ bs
without_first lane b bs e = ap (λ t. cond t bs (b ∷ without lane bs)) (eq-eqb b.lane lane e)
