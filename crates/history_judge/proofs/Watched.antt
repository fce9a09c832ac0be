-- How a watch goes on, entry by entry.
use Rattle.std.specs.Prelude.{ℕ, ◌≡◌, ◌≢◌, ◌+◌, ◌<◌, ◌≤◌, true, false, not, cond, ◌&&◌, List, ◌==◌, length, Option, Some, None, slice_get, ◌⊎◌}
use Rattle.std.proofs.Common.{refl, sym, ap, ◌∙◌, arith, subst, inl, inr, ⊎_elim, set, get_or, replicate}
use Rattle.std.proofs.lemmas.Bool.{and_parts, cases_Bool, cases_eq, cases_lt, cond-false, cond-true, false≢true, le-leb, leb-false, leb-true, lt-ltb, ltb-true, not-true}
use Rattle.std.proofs.lemmas.List.{get_or_past, get_or-replicate, get_or-set_other, get_or-set_same, length-replicate, length-set}
use Rattle.std.proofs.lemmas.Option.{cond_some, none-some, same_Some}
use Rattle.std.specs.declared.alloc.Global.{Global}
use Rattle.std.specs.declared.vec.Vec.{Vec}
use Rattle.evt_types.specs.Plan.{Plan, is_atomic, queue_of}
use Rattle.evt_types.specs.declared.event.Event.{Event}
use Rattle.lists.proofs.Lists.{eqb_other, eqb_same}
use Rattle.history_judge.proofs.Fits.{count_more}
use Rattle.history_judge.proofs.Holdings.{AreMeeting, AreSame, meet_by_together, port_there, same_holds, together_by_meet}
use Rattle.history_judge.specs.Breaches.{IsTogether}
use Rattle.history_judge.specs.Histories.{gets, got_before, is_got}
use Rattle.history_judge.specs.Holds.{IsHoldOf, answer_times, cell_count, cell_of, ends_after, hold_got, hold_in, lasts_as, no_hold, until_in}
use Rattle.history_judge.specs.Watching.{IsFit, IsKept, IsOutlasted, IsWatched, counted, longer, met}
use Rattle.history_judge.specs.declared.holds.Hold.{Hold}
use Rattle.history_judge.specs.declared.seen.Deed.{Deed}
use Rattle.history_judge.specs.declared.seen.Deed.TheVariants.{Sent, Got}
use Rattle.history_judge.specs.declared.seen.Seen.{Seen}

-- ---- ends of holds

ends_earlier : (s t : ℕ) (u : Option ℕ) → s ≤ t → ends_after t u ≡ true → ends_after s u ≡ true
ends_earlier s t None le ends = refl
ends_earlier s t (Some u) le ends = lt-ltb s u (omega (arith, le, ltb-true t u ends))

lasts_ends : (t : ℕ) (a b : Option ℕ) → lasts_as a b ≡ true → ends_after t b ≡ true → ends_after t a ≡ true
lasts_ends t None b lasts ends = refl
lasts_ends t (Some a) None lasts ends = absurd (false≢true lasts)
lasts_ends t (Some a) (Some b) lasts ends = lt-ltb t a (omega (arith, leb-true b a lasts, ltb-true t b ends))

lasts_on : (a b c : Option ℕ) → lasts_as a b ≡ true → lasts_as b c ≡ true → lasts_as a c ≡ true
lasts_on None b c first second = refl
lasts_on (Some a) None c first second = absurd (false≢true first)
lasts_on (Some a) (Some b) None first second = absurd (false≢true second)
lasts_on (Some a) (Some b) (Some c) first second = le-leb c a (omega (arith, leb-true b a first, leb-true c b second))

lasts_other : (a b : Option ℕ) → lasts_as a b ≡ false → lasts_as b a ≡ true
lasts_other None b fails = absurd (false≢true (sym fails))
lasts_other (Some a) None fails = refl
lasts_other (Some a) (Some b) fails = le-leb a b (omega (arith, leb-false b a fails))

lasts_self : (a : Option ℕ) → lasts_as a a ≡ true
lasts_self None = refl
lasts_self (Some a) = le-leb a a (omega arith)

-- ---- the hold of an entry

pub hold_is : (p : Plan) (hs : List Seen) (times : List (Vec ℕ Global)) (i n : ℕ) (s : Seen) (h : Hold) → IsFit p hs times → slice_get hs i ≡ Some s → n ≡ got_before hs s.port i
    → hold_in p s i n times ≡ Some h → IsHoldOf p hs h × (h.at ≡ i)
hold_is p hs times i n s h fit at count is = by_deed s.deed refl is
  where
    until : until_in times s.port n ≡ slice_get (answer_times hs s.port) (got_before hs s.port i)
    until =
        ap (λ xs. slice_get xs n) (fit.noted.each s.port (port_there p hs times i s fit at)) ∙ ap (λ k. slice_get (answer_times hs s.port) k) count

    made : Event → Hold
    made e = record { at = i; port = s.port; cell = cell_of p e; since = s.ended; until = until_in times s.port n }

    by_deed : (d : Deed) → s.deed ≡ d → hold_got p i s.port s.ended (until_in times s.port n) d ≡ Some h → IsHoldOf p hs h × (h.at ≡ i)
    by_deed (Sent r) deed made_of = absurd (none-some h made_of)
    by_deed (Got e) deed made_of =
        let parts = cond_some (is_atomic (queue_of p e.queue).kind) (made e) h made_of in (
          subst (IsHoldOf p hs) parts.1
              (record {
                seen = s;
                entry = at;
                event = e;
                got = deed;
                atomic = parts.0;
                port = refl;
                cell = refl;
                since = refl;
                until = until;
              }),
          ap (λ (g : Hold). g.at) (sym parts.1),
        )

-- an entry without a hold has none
pub lacks_hold : (p : Plan) (hs : List Seen) (times : List (Vec ℕ Global)) (i n : ℕ) (s : Seen) (g : Hold) → slice_get hs i ≡ Some s → hold_in p s i n times ≡ None
    → IsHoldOf p hs g → g.at ≡ i → ⊥
lacks_hold p hs times i n s g at is of place =
    none-some (made of.event)
    (sym is ∙ (ap (hold_got p i s.port s.ended (until_in times s.port n)) deed ∙ cond-true (is_atomic (queue_of p (of.event).queue).kind) (Some (made of.event)) None of.atomic))
  where
    made : Event → Hold
    made e = record { at = i; port = s.port; cell = cell_of p e; since = s.ended; until = until_in times s.port n }

    deed : s.deed ≡ Got of.event
    deed = ap (λ (u : Seen). u.deed) (same_Some s of.seen (sym at ∙ (ap (λ n. slice_get hs n) (sym place) ∙ of.entry))) ∙ of.got

-- an earlier entry's hold begins no later
since_earlier : (p : Plan) (hs : List Seen) (times : List (Vec ℕ Global)) (g h : Hold) → IsFit p hs times → IsHoldOf p hs g → IsHoldOf p hs h → g.at < h.at → g.since ≤ h.since
since_earlier p hs times g h fit one other lt =
    ⊎_elim
    (λ ends. absurd (fit.sorted h.at (record { seen = other.seen; entry = other.entry; place = g.at; earlier = lt; before = one.seen; there = one.entry; ends = ends })))
    (λ le. omega (arith, le, one.since, other.since))
    (cases_lt (other.seen).ended (one.seen).ended)

-- ---- who is held together

together_turned : (p : Plan) (hs : List Seen) (i j : ℕ) → IsTogether p hs i j → IsTogether p hs j i
together_turned p hs i j b =
    record {
      time = b.time;
      one = b.other;
      other = b.one;
      one_held = b.other_held;
      other_held = b.one_held;
      one_port = b.other_port;
      other_port = b.one_port;
      apart = λ same. b.apart (sym same);
      one_event = b.other_event;
      other_event = b.one_event;
      one_got = b.other_got;
      other_got = b.one_got;
      same = record {
        atomic = subst (λ q. is_atomic (queue_of p q).kind ≡ true) b.same.queue b.same.atomic;
        queue = sym b.same.queue;
        slot = sym b.same.slot;
      };
    }

together_self : (p : Plan) (hs : List Seen) (i : ℕ) → IsTogether p hs i i → ⊥
together_self p hs i b =
    b.apart (ap (λ (s : Seen). s.port) (same_Some b.one b.other (sym b.one_held.entry ∙ b.other_held.entry)))

-- ---- counts

pub counts_on : (hs : List Seen) (got : List ℕ) (i l : ℕ) (s : Seen) → slice_get hs i ≡ Some s → s.port < length got → get_or got s.port 0 ≡ got_before hs s.port i
    → get_or got l 0 ≡ got_before hs l i → get_or (counted got s) l 0 ≡ got_before hs l (i + 1)
counts_on hs got i l s at port here there = ⊎_elim same other (cases_eq l s.port)
  where
    more : got_before hs l (i + 1) ≡ got_before hs l i + cond ((s.port == l) && gets s.deed) 1 0
    more = count_more (is_got l) hs i s at

    same : l ≡ s.port → get_or (counted got s) l 0 ≡ got_before hs l (i + 1)
    same is =
        ap (λ k. get_or (counted got s) k 0) is
        ∙ (get_or-set_same got s.port (get_or got s.port 0 + cond (gets s.deed) 1 0) 0 port
        ∙ (ap (λ n. n + cond (gets s.deed) 1 0) (here ∙ ap (λ k. got_before hs k i) (sym is))
        ∙ sym (more ∙ ap (λ b. got_before hs l i + cond (b && gets s.deed) 1 0) (ap (λ k. s.port == k) is ∙ eqb_same s.port))))

    other : l ≢ s.port → get_or (counted got s) l 0 ≡ got_before hs l (i + 1)
    other differs =
        get_or-set_other got s.port l (get_or got s.port 0 + cond (gets s.deed) 1 0) 0 differs
        ∙ (there ∙ sym (more ∙ (ap (λ b. got_before hs l i + cond (b && gets s.deed) 1 0) (eqb_other s.port l (λ is. differs (sym is))) ∙ plus_zero (got_before hs l i))))
      where
        plus_zero : (n : ℕ) → n + 0 ≡ n
        plus_zero n = omega arith

-- ---- the next entry

-- what is kept after it is right, and nothing is held together with it
pub record GoesOn (p : Plan) (hs : List Seen) (i : ℕ) (old new : List (Option Hold)) : Type 0 where
  pub cells : length new ≡ length old
  pub kept : (c : ℕ) (h : Hold) → get_or new c None ≡ Some h → IsKept p hs (i + 1) c h
  pub earlier : (h : Hold) → IsHoldOf p hs h → h.at < i → IsOutlasted new h
  pub latest : (h : Hold) → IsHoldOf p hs h → h.at ≡ i → IsOutlasted new h
  pub apart : (j : ℕ) → j < i → ¬ IsTogether p hs j i

before_or_at : (j i : ℕ) → j < i + 1 → (j < i) ⊎ (j ≡ i)
before_or_at j i lt = ⊎_elim (λ less. inl less) (λ le. inr (omega (arith, lt, le))) (cases_lt j i)

pub goes_on : (p : Plan) (hs : List Seen) (times : List (Vec ℕ Global)) (i : ℕ) (s : Seen) (got : List ℕ) (old new : List (Option Hold)) → IsFit p hs times → slice_get hs i ≡ Some s
    → IsWatched p hs i got old → GoesOn p hs i old new → IsWatched p hs (i + 1) (counted got s) new
goes_on p hs times i s got old new fit at w on =
    record {
      ports = length-set got s.port (get_or got s.port 0 + cond (gets s.deed) 1 0) ∙ w.ports;
      counts = λ l lt. counts_on hs got i l s at (omega (arith, w.ports, port)) (w.counts s.port port) (w.counts l lt);
      cells = on.cells ∙ w.cells;
      kept = on.kept;
      outlasted = λ h is lt. ⊎_elim (λ less. on.earlier h is less) (λ same. on.latest h is same) (before_or_at h.at i lt);
      apart = λ j k first second. by_places j k (before_or_at j i first) (before_or_at k i second);
    }
  where
    port : s.port < length p.ports
    port = port_there p hs times i s fit at

    by_places : (j k : ℕ) → (j < i) ⊎ (j ≡ i) → (k < i) ⊎ (k ≡ i) → IsTogether p hs j k → ⊥
    by_places j k (inl first) (inl second) b = w.apart j k first second b
    by_places j k (inl first) (inr second) b = on.apart j first (subst (IsTogether p hs j) second b)
    by_places j k (inr first) (inl second) b = on.apart k second (subst (IsTogether p hs k) first (together_turned p hs j k b))
    by_places j k (inr first) (inr second) b = together_self p hs i (subst (IsTogether p hs i) second (subst (λ n. IsTogether p hs n k) first b))

kept_longer : (p : Plan) (hs : List Seen) (i c : ℕ) (h : Hold) → IsKept p hs i c h → IsKept p hs (i + 1) c h
kept_longer p hs i c h kept = record { hold = kept.hold; cell = kept.cell; before = omega (arith, kept.before) }

-- an entry without a hold
pub goes_past : (p : Plan) (hs : List Seen) (times : List (Vec ℕ Global)) (i n : ℕ) (s : Seen) (got : List ℕ) (old : List (Option Hold)) → IsFit p hs times → slice_get hs i ≡ Some s
    → IsWatched p hs i got old → hold_in p s i n times ≡ None → IsWatched p hs (i + 1) (counted got s) old
goes_past p hs times i n s got old fit at w is =
    goes_on p hs times i s got old old fit at w
    (record {
      cells = refl;
      kept = λ c h there. kept_longer p hs i c h (w.kept c h there);
      earlier = w.outlasted;
      latest = λ h of place. absurd (lacks_hold p hs times i n s h at is of place);
      apart = λ j lt b. let m = meet_by_together p hs times j i fit b in lacks_hold p hs times i n s m.other at is m.other_is m.other_at;
    })

-- ---- an entry with a hold

-- the one that is kept for its cell, where that meets it
pub goes_wrong : (p : Plan) (hs : List Seen) (times : List (Vec ℕ Global)) (i n k : ℕ) (s : Seen) (got : List ℕ) (old : List (Option Hold)) (h : Hold) → IsFit p hs times → slice_get hs i ≡ Some s
    → n ≡ got_before hs s.port i → IsWatched p hs i got old → hold_in p s i n times ≡ Some h → met (get_or old h.cell None) h ≡ Some k → IsTogether p hs i k
goes_wrong p hs times i n k s got old h fit at count w is meets = by_kept (get_or old h.cell None) refl meets
  where
    of : IsHoldOf p hs h × (h.at ≡ i)
    of = hold_is p hs times i n s h fit at count is

    by_kept : (o : Option Hold) → get_or old h.cell None ≡ o → met o h ≡ Some k → IsTogether p hs i k
    by_kept None there made = absurd (none-some k made)
    by_kept (Some g) there made =
        let parts = cond_some ((not (g.port == h.port) && ends_after h.since g.until) && ends_after h.since h.until) g.at k made in
        let both = and_parts (not (g.port == h.port) && ends_after h.since g.until) (ends_after h.since h.until) parts.0 in
        let first = and_parts (not (g.port == h.port)) (ends_after h.since g.until) both.0 in
        let kept = w.kept h.cell g there in
        subst (λ m. IsTogether p hs i m) parts.1
        (subst (λ m. IsTogether p hs m g.at) of.1
        (together_by_meet p hs times h g fit of.0 kept.hold
        (record {
          cell = sym kept.cell;
          ports = λ same. false≢true (sym (not-true (g.port == h.port) first.0) ∙ (ap (λ m. g.port == m) same ∙ eqb_same g.port));
          time = h.since;
          one_since = omega arith;
          other_since = since_earlier p hs times g h fit kept.hold of.0 (omega (arith, kept.before, of.1));
          one_until = both.1;
          other_until = first.1;
        })))

-- it and what is kept: one of them is kept
longer_is : (o : Option Hold) (h : Hold) → (longer o h ≡ h) ⊎ (o ≡ Some (longer o h))
longer_is None h = inl refl
longer_is (Some g) h =
    ⊎_elim (λ lasts. inr (ap Some (sym (cond-true (lasts_as g.until h.until) g h lasts)))) (λ fails. inl (cond-false (lasts_as g.until h.until) g h fails))
    (cases_Bool (lasts_as g.until h.until))

-- and that lasts as long as either
longer_new : (o : Option Hold) (h : Hold) → lasts_as (longer o h).until h.until ≡ true
longer_new None h = lasts_self h.until
longer_new (Some g) h =
    ⊎_elim
    (λ lasts. subst (λ (m : Hold). lasts_as m.until h.until ≡ true) (sym (cond-true (lasts_as g.until h.until) g h lasts)) lasts)
    (λ fails. subst (λ (m : Hold). lasts_as m.until h.until ≡ true) (sym (cond-false (lasts_as g.until h.until) g h fails)) (lasts_self h.until))
    (cases_Bool (lasts_as g.until h.until))

longer_old : (g h : Hold) → lasts_as (longer (Some g) h).until g.until ≡ true
longer_old g h =
    ⊎_elim
    (λ lasts. subst (λ (m : Hold). lasts_as m.until g.until ≡ true) (sym (cond-true (lasts_as g.until h.until) g h lasts)) (lasts_self g.until))
    (λ fails. subst (λ (m : Hold). lasts_as m.until g.until ≡ true) (sym (cond-false (lasts_as g.until h.until) g h fails)) (lasts_other g.until h.until fails))
    (cases_Bool (lasts_as g.until h.until))

-- where the kept one is of another port and meets it, it is found
met_other : (g h : Hold) → g.port ≢ h.port → ends_after h.since g.until ≡ true → ends_after h.since h.until ≡ true → met (Some g) h ≡ Some g.at
met_other g h differs one other =
    ap (λ b. cond ((not b && ends_after h.since g.until) && ends_after h.since h.until) (Some g.at) None) (eqb_other g.port h.port differs)
    ∙ (ap (λ b. cond ((true && b) && ends_after h.since h.until) (Some g.at) None) one ∙ ap (λ b. cond (true && b) (Some g.at) None) other)

-- where what is kept doesn't meet it, nothing before it does
meets_none : (p : Plan) (hs : List Seen) (times : List (Vec ℕ Global)) (i : ℕ) (got : List ℕ) (old : List (Option Hold)) (h : Hold) → IsFit p hs times → IsHoldOf p hs h → h.at ≡ i
    → IsWatched p hs i got old → met (get_or old h.cell None) h ≡ None → (j : ℕ) → j < i → ¬ IsTogether p hs j i
meets_none p hs times i got old h fit of place w none j lt b = by_port (cases_eq g.port h.port)
  where
    m : AreMeeting p hs j i
    m = meet_by_together p hs times j i fit b

    same : AreSame m.other h
    same = same_holds p hs m.other h m.other_is of (m.other_at ∙ sym place)

    one_before : m.one.at < i
    one_before = omega (arith, m.one_at, lt)

    cell : m.one.cell ≡ h.cell
    cell = m.meet.cell ∙ same.cell

    best : IsOutlasted old m.one
    best = w.outlasted m.one m.one_is one_before

    g : Hold
    g = best.hold

    there : get_or old h.cell None ≡ Some g
    there = ap (λ c. get_or old c None) (sym cell) ∙ best.there

    kept : IsKept p hs i h.cell g
    kept = w.kept h.cell g there

    started : h.since ≤ m.meet.time
    started = omega (arith, same.since, m.meet.other_since)

    one_lasts : ends_after h.since m.one.until ≡ true
    one_lasts = ends_earlier h.since m.meet.time m.one.until started m.meet.one_until

    new_lasts : ends_after h.since h.until ≡ true
    new_lasts = ends_earlier h.since m.meet.time h.until started (ap (ends_after m.meet.time) (sym same.until) ∙ m.meet.other_until)

    kept_lasts : ends_after h.since g.until ≡ true
    kept_lasts = lasts_ends h.since g.until m.one.until best.lasts one_lasts

    one_since : m.one.since ≤ h.since
    one_since = since_earlier p hs times m.one h fit m.one_is of (omega (arith, one_before, place))

    kept_since : g.since ≤ h.since
    kept_since = since_earlier p hs times g h fit kept.hold of (omega (arith, kept.before, place))

    by_port : (g.port ≡ h.port) ⊎ (g.port ≢ h.port) → ⊥
    by_port (inr differs) =
        none-some g.at (sym none ∙ (ap (λ o. met o h) there ∙ met_other g h differs kept_lasts new_lasts))
    by_port (inl is) =
        w.apart m.one.at g.at one_before kept.before
        (together_by_meet p hs times m.one g fit m.one_is kept.hold
        (record {
          cell = cell ∙ sym kept.cell;
          ports = λ alike. m.meet.ports (alike ∙ (is ∙ sym same.port));
          time = h.since;
          one_since = one_since;
          other_since = kept_since;
          one_until = one_lasts;
          other_until = kept_lasts;
        }))

-- it is kept, or what was kept stays
pub goes_with : (p : Plan) (hs : List Seen) (times : List (Vec ℕ Global)) (i n : ℕ) (s : Seen) (got : List ℕ) (old : List (Option Hold)) (h : Hold) → IsFit p hs times → slice_get hs i ≡ Some s
    → n ≡ got_before hs s.port i → IsWatched p hs i got old → hold_in p s i n times ≡ Some h → h.cell < length old → met (get_or old h.cell None) h ≡ None
    → IsWatched p hs (i + 1) (counted got s) (set old h.cell (Some (longer (get_or old h.cell None) h)))
goes_with p hs times i n s got old h fit at count w is room none =
    goes_on p hs times i s got old new fit at w
    (record {
      cells = length-set old h.cell (Some (longer (get_or old h.cell None) h));
      kept = λ c g there. ⊎_elim (λ here. kept_here c g here there) (λ differs. kept_longer p hs i c g (w.kept c g (sym (other c differs) ∙ there))) (cases_eq c h.cell);
      earlier = λ g of_g before. ⊎_elim (λ alike. old_here g (w.outlasted g of_g before) alike) (λ differs. old_other g (w.outlasted g of_g before) differs) (cases_eq g.cell h.cell);
      latest = λ g of_g place. new_here g (same_holds p hs g h of_g of.0 (place ∙ sym of.1));
      apart = meets_none p hs times i got old h fit of.0 of.1 w none;
    })
  where
    of : IsHoldOf p hs h × (h.at ≡ i)
    of = hold_is p hs times i n s h fit at count is

    best : Hold
    best = longer (get_or old h.cell None) h

    new : List (Option Hold)
    new = set old h.cell (Some best)

    here_is : get_or new h.cell None ≡ Some best
    here_is = get_or-set_same old h.cell (Some best) None room

    other : (c : ℕ) → c ≢ h.cell → get_or new c None ≡ get_or old c None
    other c differs = get_or-set_other old h.cell c (Some best) None differs

    best_kept : IsKept p hs (i + 1) h.cell best
    best_kept =
        ⊎_elim
        (λ is_new. subst (IsKept p hs (i + 1) h.cell) (sym is_new) (record { hold = of.0; cell = refl; before = omega (arith, of.1) }))
        (λ is_old. kept_longer p hs i h.cell best (w.kept h.cell best is_old))
        (longer_is (get_or old h.cell None) h)

    kept_here : (c : ℕ) (g : Hold) → c ≡ h.cell → get_or new c None ≡ Some g → IsKept p hs (i + 1) c g
    kept_here c g here there =
        subst (λ k. IsKept p hs (i + 1) k g) (sym here)
        (subst (IsKept p hs (i + 1) h.cell) (same_Some best g (sym here_is ∙ (ap (λ k. get_or new k None) (sym here) ∙ there))) best_kept)

    old_here : (g : Hold) → IsOutlasted old g → g.cell ≡ h.cell → IsOutlasted new g
    old_here g was alike =
        record {
          hold = best;
          there = ap (λ k. get_or new k None) alike ∙ here_is;
          lasts =
              lasts_on best.until was.hold.until g.until
              (subst (λ o. lasts_as (longer o h).until was.hold.until ≡ true) (sym (ap (λ k. get_or old k None) (sym alike) ∙ was.there)) (longer_old was.hold h))
              was.lasts;
        }

    old_other : (g : Hold) → IsOutlasted old g → g.cell ≢ h.cell → IsOutlasted new g
    old_other g was differs = record { hold = was.hold; there = other g.cell differs ∙ was.there; lasts = was.lasts }

    new_here : (g : Hold) → AreSame g h → IsOutlasted new g
    new_here g same =
        record {
          hold = best;
          there = ap (λ k. get_or new k None) same.cell ∙ here_is;
          lasts = ap (λ u. lasts_as best.until u) same.until ∙ longer_new (get_or old h.cell None) h;
        }

-- ---- the first

nothing_kept : (n c : ℕ) → get_or (replicate n no_hold) c no_hold ≡ no_hold
nothing_kept n c =
    ⊎_elim (λ lt. get_or-replicate n c no_hold no_hold lt) (λ past. get_or_past (replicate n no_hold) c no_hold (omega (arith, past, length-replicate n no_hold)))
    (cases_lt c n)

pub watch_begins : (p : Plan) (hs : List Seen) (got : List ℕ) (latest : List (Option Hold)) → got ≡ replicate (length p.ports) 0 → latest ≡ replicate (cell_count p) None
    → IsWatched p hs 0 got latest
watch_begins p hs got latest zeros nones =
    record {
      ports = ap length zeros ∙ length-replicate (length p.ports) 0;
      counts = λ l lt. ap (λ xs. get_or xs l 0) zeros ∙ get_or-replicate (length p.ports) l 0 0 lt;
      cells = ap length nones ∙ length-replicate (cell_count p) no_hold;
      kept = λ c h there. absurd (none-some h (sym (ap (λ xs. get_or xs c None) nones ∙ nothing_kept (cell_count p) c) ∙ there));
      outlasted = λ h is lt. absurd (omega (arith, lt));
      apart = λ j k lt. absurd (omega (arith, lt));
    }
