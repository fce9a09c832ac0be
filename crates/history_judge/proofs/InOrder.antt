-- Which histories are judged: how each is found, entry by entry.
use Rattle.std.specs.Prelude.{ℕ, ◌≡◌, ◌≢◌, ◌+◌, ◌<◌, ◌≤◌, Bool, true, false, not, ◌&&◌, ◌||◌, List, ◌==◌, length, nat_le, nat_lt, Option, Some, None, slice_get, ◌⊎◌}
use Rattle.std.proofs.Common.{refl, sym, ap, ◌∙◌, arith, subst, inl, inr, ⊎_elim, set, get_or}
use Rattle.std.proofs.lemmas.Bool.{and_from, and_parts, cases_eq, cases_lt, false≢true, le-leb, leb-true, ltb-false, ltb-true, not-false, not-true, or_left, or_parts, or_right}
use Rattle.std.proofs.lemmas.List.{get_or-set_other, get_or-set_same, length-set}
use Rattle.std.proofs.lemmas.Option.{same_Some, slice_get_read, slice_get_within}
use Rattle.lists.proofs.Lists.{eqb_is, eqb_same}
use Rattle.history_judge.specs.Entries.{AreLast, IsLast, IsOutOfOrder, IsOverlapped, IsUnknown, IsUnsorted, follows, follows_last, misplaced}
use Rattle.history_judge.specs.declared.seen.Seen.{Seen}

-- ---- one entry more

-- what no entry before the i-th is, and it isn't, none of one more is
pub none_more : (P : ℕ → Type 0) (i : ℕ) → ((j : ℕ) → j < i → ¬ P j) → ¬ P i → (j : ℕ) → j < i + 1 → ¬ P j
none_more P i none last j lt bad =
    ⊎_elim (λ less. none j less bad) (λ le. last (subst P (at le) bad)) (cases_lt j i)
  where
    at : i ≤ j → j ≡ i
    at le = omega (arith, lt, le)

-- an entry that was looked up
pub entry_at : (hs : List Seen) (i : ℕ) (s : Seen) → i < length hs → s ≡ get_or hs i s → slice_get hs i ≡ Some s
entry_at hs i s lt at = slice_get_read hs (length hs) i s refl lt at

-- where none of those that are there is it, none is
pub none_at_all : (P : ℕ → Type 0) (hs : List Seen) (i : ℕ) → length hs ≤ i → ((j : ℕ) → P j → j < length hs) → ((j : ℕ) → j < i → ¬ P j) → (j : ℕ) → ¬ P j
none_at_all P hs i all there none j bad = none j (omega (arith, all, there j bad)) bad

pub unknown_within : (ports : ℕ) (hs : List Seen) (i : ℕ) → IsUnknown ports hs i → i < length hs
unknown_within ports hs i bad = slice_get_within hs i bad.seen bad.entry

pub unsorted_within : (hs : List Seen) (i : ℕ) → IsUnsorted hs i → i < length hs
unsorted_within hs i bad = slice_get_within hs i bad.seen bad.entry

pub disorder_within : (hs : List Seen) (i : ℕ) → IsOutOfOrder hs i → i < length hs
disorder_within hs i bad = slice_get_within hs i bad.seen bad.entry

-- ---- ports

pub is_known : (ports : ℕ) (hs : List Seen) (i : ℕ) (s : Seen) → slice_get hs i ≡ Some s → s.port < ports → ¬ IsUnknown ports hs i
is_known ports hs i s at lt bad = let same = ap (λ (u : Seen). u.port) (same_Some s bad.seen (sym at ∙ bad.entry)) in omega (arith, lt, bad.missing, same)

pub port_known : (ports : ℕ) (hs : List Seen) (i : ℕ) (s : Seen) → ((j : ℕ) → ¬ IsUnknown ports hs j) → slice_get hs i ≡ Some s → s.port < ports
port_known ports hs i s known at =
    ⊎_elim (λ lt. lt) (λ past. absurd (known i (record { seen = s; entry = at; missing = past }))) (cases_lt s.port ports)

-- ---- ends

-- an entry before the i-th ended then
pub record IsEnd (hs : List Seen) (i latest : ℕ) : Type 0 where
  pub place : ℕ
  pub seen : Seen
  pub earlier : place < i
  pub there : slice_get hs place ≡ Some seen
  pub ends : seen.ended ≡ latest

-- the latest end of the entries before the i-th: it is that of one of them, or 0
pub record IsLatest (hs : List Seen) (i latest : ℕ) : Type 0 where
  pub each : (j : ℕ) (s : Seen) → j < i → slice_get hs j ≡ Some s → s.ended ≤ latest
  pub one : (latest ≡ 0) ⊎ IsEnd hs i latest

pub latest_none : (hs : List Seen) → IsLatest hs 0 0
latest_none hs = record { each = λ j s lt at. absurd (omega (arith, lt)); one = inl refl }

pub latest_more : (hs : List Seen) (i latest : ℕ) (s : Seen) → slice_get hs i ≡ Some s → IsLatest hs i latest → latest ≤ s.ended → IsLatest hs (i + 1) s.ended
latest_more hs i latest s at is le =
    record {
      each = λ j u lt there. ⊎_elim (λ less. omega (arith, is.each j u less there, le)) (λ past. last j u lt there past) (cases_lt j i);
      one = inr (record { place = i; seen = s; earlier = next; there = at; ends = refl });
    }
  where
    next : i < i + 1
    next = omega arith

    last : (j : ℕ) (u : Seen) → j < i + 1 → slice_get hs j ≡ Some u → i ≤ j → u.ended ≤ s.ended
    last j u lt there past =
        let same : j ≡ i = omega (arith, lt, past) in
        omega (arith, ap (λ (x : Seen). x.ended) (same_Some u s (sym there ∙ (ap (λ n. slice_get hs n) same ∙ at))))

pub is_sorted : (hs : List Seen) (i latest : ℕ) (s : Seen) → slice_get hs i ≡ Some s → IsLatest hs i latest → latest ≤ s.ended → ¬ IsUnsorted hs i
is_sorted hs i latest s at is le bad =
    let same = ap (λ (u : Seen). u.ended) (same_Some s bad.seen (sym at ∙ bad.entry)) in
    omega (arith, le, is.each bad.place bad.before bad.earlier bad.there, bad.ends, same)

pub is_unsorted : (hs : List Seen) (i latest : ℕ) (s : Seen) → slice_get hs i ≡ Some s → IsLatest hs i latest → s.ended < latest → IsUnsorted hs i
is_unsorted hs i latest s at is lt = by_one is.one
  where
    by_one : (latest ≡ 0) ⊎ IsEnd hs i latest → IsUnsorted hs i
    by_one (inl none) = absurd (omega (arith, lt, none))
    by_one (inr end) =
        record { seen = s; entry = at; place = end.place; earlier = end.earlier; before = end.seen; there = end.there; ends = omega (arith, lt, end.ends) }

-- ---- the order of a port's entries

pub follows_self : (s : Seen) → follows s s ≡ true
follows_self s =
    or_right (nat_le s.ended s.began) ((s.began == s.began) && (s.ended == s.ended)) (and_from (s.began == s.began) (s.ended == s.ended) (eqb_same s.began) (eqb_same s.ended))

-- two entries of which one follows the other: its call is another, or it is the same
follows_is : (s u : Seen) → follows s u ≡ true → (s.ended ≤ u.began) ⊎ ((s.began ≡ u.began) × (s.ended ≡ u.ended))
follows_is s u is = by_case (nat_le s.ended u.began) refl
  where
    by_case : (b : Bool) → nat_le s.ended u.began ≡ b → (s.ended ≤ u.began) ⊎ ((s.began ≡ u.began) × (s.ended ≡ u.ended))
    by_case true later = inl (leb-true s.ended u.began later)
    by_case false later =
        let same : ((s.began == u.began) && (s.ended == u.ended)) ≡ true = ap (λ b. b || ((s.began == u.began) && (s.ended == u.ended))) (sym later) ∙ is in
        let parts = and_parts (s.began == u.began) (s.ended == u.ended) same in inr (eqb_is s.began u.began parts.0, eqb_is s.ended u.ended parts.1)

follows_later : (s u : Seen) → s.ended ≤ u.began → follows s u ≡ true
follows_later s u le = or_left (nat_le s.ended u.began) ((s.began == u.began) && (s.ended == u.ended)) (le-leb s.ended u.began le)

follows_same : (s u v : Seen) → follows u v ≡ true → s.began ≡ u.began → s.ended ≡ u.ended → follows s v ≡ true
follows_same s u v is begins ends =
    ap (λ n. nat_le n v.began || ((s.began == v.began) && (n == v.ended))) ends
    ∙ (ap (λ n. nat_le u.ended v.began || ((n == v.began) && (u.ended == v.ended))) begins ∙ is)

follows_on : (s u v : Seen) → u.began ≤ u.ended → follows s u ≡ true → follows u v ≡ true → follows s v ≡ true
follows_on s u v ends first second = by_first (follows_is s u first) (follows_is u v second)
  where
    by_first : (s.ended ≤ u.began) ⊎ ((s.began ≡ u.began) × (s.ended ≡ u.ended)) → (u.ended ≤ v.began) ⊎ ((u.began ≡ v.began) × (u.ended ≡ v.ended)) → follows s v ≡ true
    by_first (inl le) (inl further) = follows_later s v (omega (arith, le, further, ends))
    by_first (inl le) (inr same) = follows_later s v (omega (arith, le, same.0))
    by_first (inr same) further = follows_same s u v second same.0 same.1

pub last_none : (ports : ℕ) (hs : List Seen) (last : List (Option Seen)) → length last ≡ ports → ((l : ℕ) → l < ports → get_or last l None ≡ None) → AreLast ports hs 0 last
last_none ports hs last sized none =
    record {
      sized = sized;
      each = λ l lt. subst (IsLast hs 0 l) (sym (none l lt)) (λ j s less at port. omega (arith, less));
      ordered = λ j lt. absurd (omega (arith, lt));
    }

-- an entry that is misplaced
pub is_misplaced : (ports : ℕ) (hs : List Seen) (i : ℕ) (s : Seen) (last : List (Option Seen)) → slice_get hs i ≡ Some s → s.port < ports → AreLast ports hs i last → misplaced last s ≡ true → IsOutOfOrder hs i
is_misplaced ports hs i s last at port are bad = by_case (nat_lt s.ended s.began) refl
  where
    by_last : (o : Option Seen) → IsLast hs i s.port o → not (follows_last o s) ≡ true → IsOutOfOrder hs i
    by_last None is fails = absurd (false≢true fails)
    by_last (Some u) is fails =
        record { seen = s; entry = at; refused = inr (record { place = is.place; earlier = is.earlier; before = u; there = is.there; port = is.port; refused = not-true (follows u s) fails }) }

    by_case : (b : Bool) → nat_lt s.ended s.began ≡ b → IsOutOfOrder hs i
    by_case true early = record { seen = s; entry = at; refused = inl (ltb-true s.ended s.began early) }
    by_case false early =
        by_last (get_or last s.port None) (are.each s.port port) (ap (λ b. b || not (follows_last (get_or last s.port None) s)) (sym early) ∙ bad)

-- and one that isn't becomes its port's last
pub last_more : (ports : ℕ) (hs : List Seen) (i : ℕ) (s : Seen) (last : List (Option Seen)) → slice_get hs i ≡ Some s → s.port < ports → AreLast ports hs i last → misplaced last s ≡ false
    → AreLast ports hs (i + 1) (set last s.port (Some s))
last_more ports hs i s last at port are well =
    record {
      sized = length-set last s.port (Some s) ∙ are.sized;
      each = λ l lt. ⊎_elim (λ same. here l same) (λ differs. other l lt differs) (cases_eq l s.port);
      ordered = none_more (IsOutOfOrder hs) i are.ordered in_order;
    }
  where
    parts : (nat_lt s.ended s.began ≡ false) × (not (follows_last (get_or last s.port None) s) ≡ false)
    parts = or_parts (nat_lt s.ended s.began) (not (follows_last (get_or last s.port None) s)) well

    ends : s.began ≤ s.ended
    ends = ltb-false s.ended s.began parts.0

    follows_each : (o : Option Seen) → IsLast hs i s.port o → not (follows_last o s) ≡ false → (j : ℕ) (u : Seen) → j < i → slice_get hs j ≡ Some u → u.port ≡ s.port → follows u s ≡ true
    follows_each None is fails j u lt there alike = absurd (is j u lt there alike)
    follows_each (Some x) is fails j u lt there alike =
        follows_on u x s (began_first is.place x is.earlier is.there) (is.each j u lt there alike) (not-false (follows x s) fails)
      where
        began_first : (k : ℕ) (y : Seen) → k < i → slice_get hs k ≡ Some y → y.began ≤ y.ended
        began_first k y less where_is =
            ⊎_elim (λ early. absurd (are.ordered k less (record { seen = y; entry = where_is; refused = inl early }))) (λ le. le) (cases_lt y.ended y.began)

    after : (j : ℕ) (u : Seen) → j < i → slice_get hs j ≡ Some u → u.port ≡ s.port → follows u s ≡ true
    after = follows_each (get_or last s.port None) (are.each s.port port) parts.1

    in_order : IsOutOfOrder hs i → ⊥
    in_order bad = by_cause (same_Some bad.seen s (sym bad.entry ∙ at)) bad.refused
      where
        by_cause : bad.seen ≡ s → ((bad.seen).ended < (bad.seen).began) ⊎ IsOverlapped hs i bad.seen → ⊥
        by_cause same (inl early) = omega (arith, early, ends, ap (λ (u : Seen). u.ended) same, ap (λ (u : Seen). u.began) same)
        by_cause same (inr over) =
            false≢true (sym over.refused ∙ (ap (follows over.before) same ∙ after over.place over.before over.earlier over.there (over.port ∙ ap (λ (u : Seen). u.port) same)))

    all_follow : (j : ℕ) (u : Seen) → j < i + 1 → slice_get hs j ≡ Some u → u.port ≡ s.port → follows u s ≡ true
    all_follow j u lt there alike =
        ⊎_elim (λ less. after j u less there alike) (λ past. self (place past)) (cases_lt j i)
      where
        place : i ≤ j → j ≡ i
        place past = omega (arith, lt, past)

        self : j ≡ i → follows u s ≡ true
        self is = subst (λ x. follows x s ≡ true) (same_Some s u (sym at ∙ (ap (λ n. slice_get hs n) (sym is) ∙ there))) (follows_self s)

    next : i < i + 1
    next = omega arith

    last_here : IsLast hs (i + 1) s.port (Some s)
    last_here = record { place = i; earlier = next; there = at; port = refl; each = all_follow }

    here : (l : ℕ) → l ≡ s.port → IsLast hs (i + 1) l (get_or (set last s.port (Some s)) l None)
    here l same =
        subst (λ k. IsLast hs (i + 1) k (get_or (set last s.port (Some s)) k None)) (sym same)
        (subst (IsLast hs (i + 1) s.port) (sym (get_or-set_same last s.port (Some s) None (omega (arith, port, are.sized)))) last_here)

    -- the new entry is of another port
    less_of : (l : ℕ) → l ≢ s.port → (j : ℕ) (u : Seen) → j < i + 1 → slice_get hs j ≡ Some u → u.port ≡ l → j < i
    less_of l differs j u lt there alike =
        ⊎_elim (λ less. less) (λ past. absurd (differs (sym alike ∙ ap (λ (x : Seen). x.port) (same_Some u s (sym there ∙ (ap (λ n. slice_get hs n) (place past) ∙ at)))))) (cases_lt j i)
      where
        place : i ≤ j → j ≡ i
        place past = omega (arith, lt, past)

    stays : (l : ℕ) → l ≢ s.port → (o : Option Seen) → IsLast hs i l o → IsLast hs (i + 1) l o
    stays l differs None is = λ j u lt there alike. is j u (less_of l differs j u lt there alike) there alike
    stays l differs (Some x) is =
        record {
          place = is.place;
          earlier = further is.place is.earlier;
          there = is.there;
          port = is.port;
          each = λ j u lt there alike. is.each j u (less_of l differs j u lt there alike) there alike;
        }
      where
        further : (k : ℕ) → k < i → k < i + 1
        further k less = omega (arith, less)

    other : (l : ℕ) → l < ports → l ≢ s.port → IsLast hs (i + 1) l (get_or (set last s.port (Some s)) l None)
    other l lt differs =
        subst (IsLast hs (i + 1) l) (sym (get_or-set_other last s.port l (Some s) None differs)) (stays l differs (get_or last l None) (are.each l lt))
