-- Events that wait by number, and keys, in trees.
use Rattle.std.proofs.Common.{◌≡◌, ℕ, ◌-◌, ◌<◌, ◌≤◌, Bool, true, false, cond, not, ◌&&◌, ◌||◌, ◌==◌, List, [], ◌∷◌, ◌++◌, map, All, Some, refl, sym, ap, ◌∙◌, subst, arith, Ordering, Less, Equal, Greater, is_eq, is_gt, nat_cmp, BTreeSet}
use Rattle.std.specs.BTreeMap.{insert_entry, is_at}
use Rattle.std.specs.BTreeMap.Range.{IsLeBy, IsLtBy}
use Rattle.std.specs.BTreeSet.{contains}
use Rattle.std.specs.Map.{lookup, remove_entry}
use Rattle.std.specs.Ordering.{MatchOrdering, match_ordering}
use Rattle.std.proofs.lemmas.Bool.{eqb-true, false≢true}
use Rattle.std.proofs.lemmas.Cmp.{ranked}
use Rattle.std.proofs.lemmas.List.{map-append}
use Rattle.std.proofs.lemmas.List.Elements.{All-head, All-tail}
use Rattle.evt_types.specs.declared.event.Event.{Event}
use Rattle.evt_types.specs.declared.event.Numbered.{Numbered}
use Rattle.lists.proofs.Lists.{eqb_comm, eqb_other, eqb_same}
use Rattle.transcripts.specs.Standing.{event_in, kept_under}
use Rattle.transcript_judge.proofs.Rising.{all_stay, others, rest_higher, rise_tail}
use Rattle.transcript_judge.specs.Waiting.{Rise, key_in}

is_at_number : (n m : ℕ) → is_at (nat_cmp n) m ≡ (m == n)
is_at_number n m = by_case (nat_cmp n m) (ranked n m (nat_cmp n m) refl)
  where
    by_case : (r : Ordering) → MatchOrdering r (n < m) (n ≡ m) (m < n) → is_eq r ≡ (m == n)
    by_case Less lt = sym (eqb_other m n (λ same. omega (arith, lt, same)))
    by_case Equal same = sym (ap (λ k. k == n) (sym same) ∙ eqb_same n)
    by_case Greater lt = sym (eqb_other m n (λ same. omega (arith, lt, same)))

-- ---- keys in a set

cond_or : (t b : Bool) → cond t true b ≡ (t || b)
cond_or true b = refl
cond_or false b = refl

cond_and : (t b : Bool) → cond t false b ≡ (not t && b)
cond_and true b = refl
cond_and false b = refl

pub key_added : (j k : ℕ) (b : Bool) → cond (is_at (nat_cmp j) k) true b ≡ ((j == k) || b)
key_added j k b = ap (λ t. cond t true b) (is_at_number j k ∙ eqb_comm k j) ∙ cond_or (j == k) b

pub key_dropped : (j k : ℕ) (b : Bool) → cond (is_at (nat_cmp j) k) false b ≡ (not (j == k) && b)
key_dropped j k b = ap (λ t. cond t false b) (is_at_number j k ∙ eqb_comm k j) ∙ cond_and (j == k) b

less : (a b : ℕ) → a < b → nat_cmp a b ≡ Less
less a b lt = by_case (nat_cmp a b) (ranked a b (nat_cmp a b) refl)
  where
    by_case : (r : Ordering) → MatchOrdering r (a < b) (a ≡ b) (b < a) → r ≡ Less
    by_case Less up = refl
    by_case Equal same = absurd (omega (arith, same, lt))
    by_case Greater down = absurd (omega (arith, down, lt))

pub not_greater : (a b : ℕ) → a ≤ b → is_gt (nat_cmp a b) ≡ false
not_greater a b le = by_case (nat_cmp a b) (ranked a b (nat_cmp a b) refl)
  where
    by_case : (r : Ordering) → MatchOrdering r (a < b) (a ≡ b) (b < a) → is_gt r ≡ false
    by_case Less up = refl
    by_case Equal same = refl
    by_case Greater down = absurd (omega (arith, down, le))

from_less : (a b : ℕ) (r : Ordering) → MatchOrdering r (a < b) (a ≡ b) (b < a) → r ≡ Less → a < b
from_less a b Less up h = up
from_less a b Equal same h = cc
from_less a b Greater down h = cc

from_not_greater : (a b : ℕ) (r : Ordering) → MatchOrdering r (a < b) (a ≡ b) (b < a) → is_gt r ≡ false → a ≤ b
from_not_greater a b Less up h = omega (arith, up)
from_not_greater a b Equal same h = omega (arith, same)
from_not_greater a b Greater down h = absurd (false≢true (sym h))

-- the numbers of a class below one
abbrev pub IsLowerOf : ℕ → ℕ → ℕ → Type 0
IsLowerOf c n k = IsLeBy nat_cmp (key_in c 0) k × IsLtBy nat_cmp k (key_in c n)

pub lower_in : (c n m : ℕ) → m < n → IsLowerOf c n (key_in c m)
lower_in c n m lt = (not_greater (key_in c 0) (key_in c m) (omega arith), less (key_in c m) (key_in c n) (omega (arith, lt)))

pub lower_out : (s : BTreeSet ℕ) (c n k : ℕ) → IsLowerOf c n k → contains nat_cmp s k ≡ true → (m : ℕ) × (m < n) × (contains nat_cmp s (key_in c m) ≡ true)
lower_out s c n k within has =
    let low : key_in c 0 ≤ k = from_not_greater (key_in c 0) k (nat_cmp (key_in c 0) k) (ranked (key_in c 0) k (nat_cmp (key_in c 0) k) refl) within.0 in
    let high : k < key_in c n = from_less k (key_in c n) (nat_cmp k (key_in c n)) (ranked k (key_in c n) (nat_cmp k (key_in c n)) refl) within.1 in
    let same : k ≡ key_in c (k - key_in c 0) = omega (arith, low) in
    (k - key_in c 0, omega (arith, low, high), subst (λ j. contains nat_cmp s j ≡ true) same has)

-- the first key of a range
pub lower_found : (s : BTreeSet ℕ) (c n a b k : ℕ) (r rest : List ℕ) → a ≡ key_in c 0 → b ≡ key_in c n
    → All (λ q. (IsLeBy nat_cmp a q × IsLtBy nat_cmp q b) × (contains nat_cmp s q ≡ true)) r → r ≡ k ∷ rest
    → (m : ℕ) × (m < n) × (contains nat_cmp s (key_in c m) ≡ true)
lower_found s c n a b k r rest low high all is =
    let here = All-head (λ q. (IsLeBy nat_cmp a q × IsLtBy nat_cmp q b) × (contains nat_cmp s q ≡ true)) k rest
    (subst (All (λ q. (IsLeBy nat_cmp a q × IsLtBy nat_cmp q b) × (contains nat_cmp s q ≡ true))) is all) in
    lower_out s c n k
    (subst (λ j. IsLeBy nat_cmp j k) low here.0.0, subst (λ j. IsLtBy nat_cmp k j) high here.0.1) here.1

-- the key of a lower number is in the range
pub lower_within : (c n m a b : ℕ) → a ≡ key_in c 0 → b ≡ key_in c n → m < n → IsLeBy nat_cmp a (key_in c m) × IsLtBy nat_cmp (key_in c m) b
lower_within c n m a b low high lt =
    let within = lower_in c n m lt in
    (subst (λ j. IsLeBy nat_cmp j (key_in c m)) (sym low) within.0, subst (λ j. IsLtBy nat_cmp (key_in c m) j) (sym high) within.1)

-- ---- events by number

-- the event of a number
pub lookup_is : (es : List (ℕ × Event)) (n : ℕ) → lookup (is_at (nat_cmp n)) es ≡ event_in (map kept_under es) n
lookup_is [] n = refl
lookup_is (e ∷ es) n =
    ap (λ b. cond b (Some e.1) (lookup (is_at (nat_cmp n)) es)) (is_at_number n e.0) ∙ ap (cond (e.0 == n) (Some e.1)) (lookup_is es n)

-- one more event, of a higher number
last_put : (es : List (ℕ × Event)) (n : ℕ) (e : Event) → All (λ (w : Numbered). w.number < n) (map kept_under es)
    → insert_entry nat_cmp es n e ≡ es ++ (n, e) ∷ []
last_put [] n e below = refl
last_put (x ∷ xs) n e below =
    by_case (nat_cmp n x.0) (ranked n x.0 (nat_cmp n x.0) refl) (All-head (λ (w : Numbered). w.number < n) (kept_under x) (map kept_under xs) below)
    (last_put xs n e (All-tail (λ (w : Numbered). w.number < n) (kept_under x) (map kept_under xs) below))
  where
    by_case : (r : Ordering) → MatchOrdering r (n < x.0) (n ≡ x.0) (x.0 < n) → x.0 < n → insert_entry nat_cmp xs n e ≡ xs ++ (n, e) ∷ []
        → match_ordering r ((n, e) ∷ x ∷ xs) ((x.0, e) ∷ xs) (x ∷ insert_entry nat_cmp xs n e) ≡ x ∷ (xs ++ (n, e) ∷ [])
    by_case Less lt low rest = absurd (omega (arith, lt, low))
    by_case Equal same low rest = absurd (omega (arith, same, low))
    by_case Greater lt low rest = ap (λ ys. x ∷ ys) rest

pub listed_more : (es : List (ℕ × Event)) (n : ℕ) (e : Event) → All (λ (w : Numbered). w.number < n) (map kept_under es)
    → map kept_under (insert_entry nat_cmp es n e) ≡ map kept_under es ++ kept_under (n, e) ∷ []
listed_more es n e below = ap (map kept_under) (last_put es n e below) ∙ map-append kept_under es ((n, e) ∷ [])

-- the event of a number leaves
pub listed_fewer : (es : List (ℕ × Event)) (n : ℕ) → Rise (map kept_under es)
    → map kept_under (remove_entry (is_at (nat_cmp n)) es) ≡ others n (map kept_under es)
listed_fewer [] n rise = refl
listed_fewer (e ∷ es) n rise =
    ap (λ b. map kept_under (cond b es (e ∷ remove_entry (is_at (nat_cmp n)) es))) (is_at_number n e.0)
    ∙ by_case (e.0 == n) refl (listed_fewer es n (rise_tail (kept_under e) (map kept_under es) rise))
  where
    rest : List Numbered
    rest = map kept_under es

    by_case : (b : Bool) → (e.0 == n) ≡ b → map kept_under (remove_entry (is_at (nat_cmp n)) es) ≡ others n rest
        → map kept_under (cond b es (e ∷ remove_entry (is_at (nat_cmp n)) es)) ≡ cond (not b) (kept_under e ∷ others n rest) (others n rest)
    by_case true same later = sym (all_stay rest n (rest_higher (kept_under e) rest n rise (eqb-true e.0 n same)))
    by_case false other later = ap (λ ws. kept_under e ∷ ws) later
