-- Keys of events that keep an order.
use Rattle.std.proofs.Common.{◌≡◌, ℕ, suc, ◌+◌, ◌*◌, ◌^◌, ◌<◌, Bool, true, false, cond, not, ◌&&◌, ◌||◌, ◌==◌, List, [], ◌∷◌, ◌++◌, filter, get_or, All, Contains, Option, Some, None, ⊎_elim, refl, sym, ap, ◌∙◌, arith, BTreeSet, nat_cmp}
use Rattle.std.specs.BTreeSet.{contains}
use Rattle.std.specs.List.{list_any}
use Rattle.std.proofs.lemmas.Bool.{cases_eq, cond-true, eqb-true, false_from_ne_true, false≢true}
use Rattle.std.proofs.lemmas.List.{get_or_default}
use Rattle.std.proofs.lemmas.List.Elements.{All-contains, All-head, All-tail, All-weaker}
use Rattle.std.proofs.lemmas.List.Folds.{list_any_at}
use Rattle.std.proofs.lemmas.Option.{none-some, same_Some}
use Rattle.evt_types.specs.Plan.{level_of}
use Rattle.evt_types.specs.declared.event.Event.{Event}
use Rattle.evt_types.specs.declared.event.Kind.{Kind}
use Rattle.evt_types.specs.declared.event.Kind.TheVariants.{Ordered, Atomic, Parallel}
use Rattle.evt_types.specs.declared.event.Numbered.{Numbered}
use Rattle.lists.proofs.Lists.{eqb_other, eqb_same, list_any-none, list_any-push}
use Rattle.transcripts.specs.Standing.{event_in}
use Rattle.transcripts.proofs.ViewLists.{event_in_some}
use Rattle.transcript_judge.proofs.Rising.{others}
use Rattle.transcript_judge.specs.Waiting.{AreKeys, Rise, class_of, is_key, keeps_by, key_in, key_of, keyed}

abbrev has_key : Kind → ℕ → Numbered → Bool
has_key kind k w = is_key (key_of kind w) k

abbrev event_of : ℕ → Event → Numbered
event_of n e = record { number = n; event = e }

-- ---- the class and the number of a key

keyed_parts : (o : Option ℕ) (n k : ℕ) → is_key (keyed n o) k ≡ true → (c : ℕ) × (o ≡ Some c) × (key_in c n ≡ k)
keyed_parts None n k h = absurd (false≢true h)
keyed_parts (Some c) n k h = (c, refl, eqb-true (key_in c n) k h)

same_number : (o q : Option ℕ) (m n k : ℕ) → m < 2 ^ 64 → n < 2 ^ 64 → is_key (keyed m o) k ≡ true → is_key (keyed n q) k ≡ true → m ≡ n
same_number o q m n k few many h g =
    let a = keyed_parts o m k h in
    let b = keyed_parts q n k g in omega (arith, few, many, a.2, b.2)

-- ---- changes

or_swap : (a b : Bool) → (a || b) ≡ (b || a)
or_swap true true = refl
or_swap true false = refl
or_swap false true = refl
or_swap false false = refl

pub keys_more : (kind : Kind) (ws : List Numbered) (w : Numbered) (s t : BTreeSet ℕ) → AreKeys kind ws s
    → ((k : ℕ) → contains nat_cmp t k ≡ (is_key (key_of kind w) k || contains nat_cmp s k)) → AreKeys kind (ws ++ w ∷ []) t
keys_more kind ws w s t are more k =
    more k
    ∙ (ap (λ b. has_key kind k w || b) (are k) ∙ (or_swap (has_key kind k w) (list_any (has_key kind k) ws) ∙ sym (list_any-push (has_key kind k) ws w)))

-- a number that is above all has no key
no_key : (kind : Kind) (ws : List Numbered) (o : Option ℕ) (n k : ℕ) → All (λ (w : Numbered). w.number < n) ws → n < 2 ^ 64 → is_key (keyed n o) k ≡ true
    → list_any (has_key kind k) ws ≡ false
no_key kind ws o n k below few here =
    list_any-none (has_key kind k) ws (All-weaker (λ (w : Numbered). w.number < n) (λ (w : Numbered). has_key kind k w ≡ false)
    (λ (w : Numbered) low. false_from_ne_true (has_key kind k w) (λ h.
    let same = same_number (class_of kind w.event) o w.number n k (omega (arith, low, few)) few h here in omega (arith, low, same))) ws below)

pub keys_undone : (kind : Kind) (ws : List Numbered) (o : Option ℕ) (n : ℕ) (s t u : BTreeSet ℕ) → AreKeys kind ws s
    → All (λ (w : Numbered). w.number < n) ws → n < 2 ^ 64
    → ((k : ℕ) → contains nat_cmp t k ≡ (is_key (keyed n o) k || contains nat_cmp s k))
    → ((k : ℕ) → contains nat_cmp u k ≡ (not (is_key (keyed n o) k) && contains nat_cmp t k)) → AreKeys kind ws u
keys_undone kind ws o n s t u are below few more undone k = by_case (is_key (keyed n o) k) refl
  where
    by_case : (b : Bool) → is_key (keyed n o) k ≡ b → contains nat_cmp u k ≡ list_any (has_key kind k) ws
    by_case true here = undone k ∙ (ap (λ b. not b && contains nat_cmp t k) here ∙ sym (no_key kind ws o n k below few here))
    by_case false other =
        undone k ∙ (ap (λ b. not b && contains nat_cmp t k) other ∙ (more k ∙ (ap (λ b. b || contains nat_cmp s k) other ∙ are k)))

any_cond : (p : Numbered → Bool) (b : Bool) (w : Numbered) (ws : List Numbered) → list_any p (cond b (w ∷ ws) ws) ≡ cond b (p w || list_any p ws) (list_any p ws)
any_cond p true w ws = refl
any_cond p false w ws = refl

kept_step : (x y b F L : Bool) → (x ≡ true → y ≡ b) → F ≡ (b && L) → cond y (x || F) F ≡ (b && (x || L))
kept_step true true b F L same is = ap (λ c. c && true) (same refl)
kept_step true false b F L same is = is ∙ (sym (ap (λ c. c && L) (same refl)) ∙ ap (λ c. c && true) (same refl))
kept_step false true b F L same is = is
kept_step false false b F L same is = is

and_none : (b : Bool) → false ≡ (b && false)
and_none true = refl
and_none false = refl

-- what passes is what a test keeps, or nothing is
any_kept : (p q : Numbered → Bool) (b : Bool) (ws : List Numbered) → All (λ (w : Numbered). p w ≡ true → q w ≡ b) ws
    → list_any p (filter q ws) ≡ (b && list_any p ws)
any_kept p q b [] all = and_none b
any_kept p q b (w ∷ ws) all =
    any_cond p (q w) w (filter q ws)
    ∙ kept_step (p w) (q w) b (list_any p (filter q ws)) (list_any p ws) (All-head (λ (v : Numbered). p v ≡ true → q v ≡ b) w ws all)
    (any_kept p q b ws (All-tail (λ (v : Numbered). p v ≡ true → q v ≡ b) w ws all))

pub keys_fewer : (kind : Kind) (ws : List Numbered) (n : ℕ) (e : Event) (s t : BTreeSet ℕ) → AreKeys kind ws s → Rise ws
    → All (λ (w : Numbered). w.number < 2 ^ 64) ws → n < 2 ^ 64 → event_in ws n ≡ Some e
    → ((k : ℕ) → contains nat_cmp t k ≡ (not (is_key (keyed n (class_of kind e)) k) && contains nat_cmp s k)) → AreKeys kind (others n ws) t
keys_fewer kind ws n e s t are rise few many found fewer k =
    fewer k
    ∙ (ap (λ b. not (is_key (keyed n (class_of kind e)) k) && b) (are k)
    ∙ sym (any_kept (has_key kind k) (λ (w : Numbered). not (w.number == n)) (not (is_key (keyed n (class_of kind e)) k)) ws (λ i d lt. tested (get_or ws i d) (i, lt, get_or_default ws i (get_or ws i d) d lt))))
  where
    tested : (w : Numbered) → Contains ws w → has_key kind k w ≡ true → not (w.number == n) ≡ not (is_key (keyed n (class_of kind e)) k)
    tested w c h = ⊎_elim here other (cases_eq w.number n)
      where
        here : w.number ≡ n → not (w.number == n) ≡ not (is_key (keyed n (class_of kind e)) k)
        here same =
            let event : w.event ≡ e = same_Some w.event e (sym (event_in_some ws w rise c) ∙ (ap (event_in ws) same ∙ found)) in
            let is : has_key kind k (event_of n e) ≡ true = ap (has_key kind k) (sym (ap (λ m. event_of m w.event) same ∙ ap (event_of n) event)) ∙ h in
            ap not (ap (λ m. m == n) same ∙ (eqb_same n ∙ sym is))

        other : (w.number ≡ n → ⊥) → not (w.number == n) ≡ not (is_key (keyed n (class_of kind e)) k)
        other differs =
            ap not (eqb_other w.number n differs
            ∙ sym (false_from_ne_true (is_key (keyed n (class_of kind e)) k)
            (λ g. differs (same_number (class_of kind w.event) (class_of kind e) w.number n k (All-contains (λ (v : Numbered). v.number < 2 ^ 64) ws w few c) many h g))))

-- ---- what stands before an event

cond_parts : (b x : Bool) → cond b x false ≡ true → (b ≡ true) × (x ≡ true)
cond_parts true x h = (refl, h)
cond_parts false x h = absurd (false≢true h)

class_shared : (kind : Kind) (d e : Event) (c : ℕ) → class_of kind e ≡ Some c → keeps_by kind d e ≡ true → class_of kind d ≡ Some c
class_shared Ordered d e c is keeps =
    let parts = cond_parts (level_of d == level_of e) true keeps in ap Some (eqb-true (level_of d) (level_of e) parts.0) ∙ is
class_shared Atomic d e c is keeps =
    let parts = cond_parts (level_of d == level_of e) (d.flow == e.flow) keeps in
    ap (λ l. Some (l * 2 ^ 20 + d.flow)) (eqb-true (level_of d) (level_of e) parts.0) ∙ (ap (λ f. Some (level_of e * 2 ^ 20 + f)) (eqb-true d.flow e.flow parts.1) ∙ is)
class_shared Parallel d e c is keeps = absurd (none-some c is)

class_keeps : (kind : Kind) (d e : Event) (c : ℕ) → class_of kind e ≡ Some c → class_of kind d ≡ Some c → keeps_by kind d e ≡ true
class_keeps Ordered d e c is here =
    let same = same_Some (level_of d) c here in
    let own = same_Some (level_of e) c is in
    cond-true (level_of d == level_of e) true false (ap (λ l. l == level_of e) (same ∙ sym own) ∙ eqb_same (level_of e))
class_keeps Atomic d e c is here =
    let same = same_Some (level_of d * 2 ^ 20 + d.flow) c here in
    let own = same_Some (level_of e * 2 ^ 20 + e.flow) c is in
    let level : level_of d ≡ level_of e = omega (arith, same, own, d.flow_fits, e.flow_fits) in
    let flow : d.flow ≡ e.flow = omega (arith, same, own, d.flow_fits, e.flow_fits) in
    cond-true (level_of d == level_of e) (d.flow == e.flow) false (ap (λ l. l == level_of e) level ∙ eqb_same (level_of e)) ∙ (ap (λ f. f == e.flow) flow ∙ eqb_same e.flow)
class_keeps Parallel d e c is here = absurd (none-some c is)

key_here : (kind : Kind) (w : Numbered) (c : ℕ) → class_of kind w.event ≡ Some c → has_key kind (key_in c w.number) w ≡ true
key_here kind w c is = ap (λ o. is_key (keyed w.number o) (key_in c w.number)) is ∙ eqb_same (key_in c w.number)

-- no lower number of the class has a key
pub apart_from_none : (kind : Kind) (ws : List Numbered) (s : BTreeSet ℕ) (n c : ℕ) (e : Event) → AreKeys kind ws s → class_of kind e ≡ Some c
    → ((m : ℕ) → m < n → contains nat_cmp s (key_in c m) ≡ false) → All (λ (v : Numbered). v.number < n → keeps_by kind v.event e ≡ false) ws
apart_from_none kind ws s n c e are is none i d lt low =
    false_from_ne_true (keeps_by kind v.event e) (λ keeps. false≢true (sym (none v.number low) ∙ (are (key_in c v.number)
    ∙ list_any_at (has_key kind (key_in c v.number)) ws i d lt (key_here kind v c (class_shared kind v.event e c is keeps)))))
  where
    v : Numbered
    v = get_or ws i d

any_there : (p : Numbered → Bool) (ws : List Numbered) → list_any p ws ≡ true → (w : Numbered) × Contains ws w × (p w ≡ true)
any_there p [] h = absurd (false≢true h)
any_there p (w ∷ ws) h = by_case (p w) refl h (any_there p ws)
  where
    by_case : (b : Bool) → p w ≡ b → (b || list_any p ws) ≡ true → (list_any p ws ≡ true → (v : Numbered) × Contains ws v × (p v ≡ true))
        → (v : Numbered) × Contains (w ∷ ws) v × (p v ≡ true)
    by_case true here some rest = (w, (0, omega arith, refl), here)
    by_case false other some rest =
        let there = rest some in (there.0, (suc (there.1.0), omega (arith, there.1.1), there.1.2), there.2)

-- a lower number of the class has one
pub not_apart : (kind : Kind) (ws : List Numbered) (s : BTreeSet ℕ) (n c m : ℕ) (e : Event) → AreKeys kind ws s → class_of kind e ≡ Some c
    → All (λ (w : Numbered). w.number < 2 ^ 64) ws → n < 2 ^ 64 → m < n → contains nat_cmp s (key_in c m) ≡ true
    → ¬ All (λ (v : Numbered). v.number < n → keeps_by kind v.event e ≡ false) ws
not_apart kind ws s n c m e are is few many lower has apart =
    let there = any_there (has_key kind (key_in c m)) ws (sym (are (key_in c m)) ∙ has) in
    let w : Numbered = there.0 in
    let parts = keyed_parts (class_of kind w.event) w.number (key_in c m) there.2 in
    let low : w.number < 2 ^ 64 = All-contains (λ (v : Numbered). v.number < 2 ^ 64) ws w few there.1 in
    let number : w.number ≡ m = omega (arith, low, many, lower, parts.2) in
    let class : parts.0 ≡ c = omega (arith, low, many, lower, parts.2) in
    false≢true (sym (All-contains (λ (v : Numbered). v.number < n → keeps_by kind v.event e ≡ false) ws w apart there.1 (omega (arith, number, lower)))
    ∙ class_keeps kind w.event e c is (parts.1 ∙ ap Some class))
