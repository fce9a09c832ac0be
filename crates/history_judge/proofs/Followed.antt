-- How a watch goes on by one entry, by what its calls ensure.
use Rattle.std.specs.Prelude.{ℕ, ◌≡◌, ◌+◌, ◌<◌, ◌≤◌, List, length, Option, Some, None, slice_get}
use Rattle.std.proofs.Common.{refl, sym, ap, ◌∙◌, arith, subst, set, get_or}
use Rattle.std.proofs.lemmas.Option.{get_or_from_slice_get, slice_get_read, slice_get_within}
use Rattle.std.specs.declared.alloc.Global.{Global}
use Rattle.std.specs.declared.vec.Vec.{Vec}
use Rattle.evt_types.specs.Plan.{Plan}
use Rattle.history_judge.proofs.Holdings.{port_there}
use Rattle.history_judge.proofs.Watched.{goes_past, goes_with, goes_wrong}
use Rattle.history_judge.specs.Breaches.{IsTogether}
use Rattle.history_judge.specs.Histories.{got_before}
use Rattle.history_judge.specs.Holds.{cell_count, hold_in, no_hold}
use Rattle.history_judge.specs.Watching.{IsFit, IsWatched, counted, longer, met}
use Rattle.history_judge.specs.declared.holds.Hold.{Hold}
use Rattle.history_judge.specs.declared.seen.Seen.{Seen}

-- ---- what a call needs

pub count_there : (p : Plan) (hs : List Seen) (times : List (Vec ℕ Global)) (i : ℕ) (s : Seen) (got : List ℕ) (latest : List (Option Hold)) → IsFit p hs times → slice_get hs i ≡ Some s
    → IsWatched p hs i got latest → s.port < length got
count_there p hs times i s got latest fit at w = omega (arith, port_there p hs times i s fit at, w.ports)

pub times_there : (p : Plan) (hs : List Seen) (times : List (Vec ℕ Global)) (i : ℕ) (s : Seen) → IsFit p hs times → slice_get hs i ≡ Some s → s.port < length times
times_there p hs times i s fit at = omega (arith, port_there p hs times i s fit at, fit.noted.sized)

-- what stands at a place that is there
pub option_at : (xs : List (Option Hold)) (c : ℕ) (o : Option Hold) → c < length xs → o ≡ get_or xs c o → get_or xs c no_hold ≡ o
option_at xs c o lt at = get_or_from_slice_get xs c o no_hold (slice_get_read xs (length xs) c o refl lt at)

pub followed_past : (p : Plan) (hs : List Seen) (times : List (Vec ℕ Global)) (i n : ℕ) (s : Seen) (got new : List ℕ) (old latest : List (Option Hold)) → IsFit p hs times → slice_get hs i ≡ Some s
    → IsWatched p hs i got old → new ≡ counted got s → latest ≡ old → hold_in p s i n times ≡ None → IsWatched p hs (i + 1) new latest
followed_past p hs times i n s got new old latest fit at w counts same none =
    subst (λ xs. IsWatched p hs (i + 1) xs latest) (sym counts) (subst (IsWatched p hs (i + 1) (counted got s)) (sym same) (goes_past p hs times i n s got old fit at w none))

count_is : (p : Plan) (hs : List Seen) (times : List (Vec ℕ Global)) (i n : ℕ) (s : Seen) (got : List ℕ) (old : List (Option Hold)) → IsFit p hs times → slice_get hs i ≡ Some s
    → IsWatched p hs i got old → n ≡ get_or got s.port 0 → n ≡ got_before hs s.port i
count_is p hs times i n s got old fit at w count = count ∙ w.counts s.port (port_there p hs times i s fit at)

pub followed_wrong : (p : Plan) (hs : List Seen) (times : List (Vec ℕ Global)) (i n k : ℕ) (s : Seen) (got : List ℕ) (old latest : List (Option Hold)) (h : Hold) (o : Option Hold) → IsFit p hs times
    → slice_get hs i ≡ Some s → IsWatched p hs i got old → n ≡ get_or got s.port 0 → latest ≡ old → hold_in p s i n times ≡ Some h → get_or latest h.cell no_hold ≡ o → met o h ≡ Some k
    → IsTogether p hs i k
followed_wrong p hs times i n k s got old latest h o fit at w count same is there meets =
    goes_wrong p hs times i n k s got old h fit at (count_is p hs times i n s got old fit at w count) w is
    (ap (λ m. met m h) (ap (λ xs. get_or xs h.cell no_hold) (sym same) ∙ there) ∙ meets)

pub followed_with : (p : Plan) (hs : List Seen) (times : List (Vec ℕ Global)) (i n : ℕ) (s : Seen) (got new : List ℕ) (old latest last : List (Option Hold)) (h best : Hold) (o : Option Hold)
    → IsFit p hs times → slice_get hs i ≡ Some s → IsWatched p hs i got old → n ≡ get_or got s.port 0 → new ≡ counted got s → latest ≡ old → hold_in p s i n times ≡ Some h
    → h.cell < cell_count p → get_or latest h.cell no_hold ≡ o → met o h ≡ None → best ≡ longer o h → last ≡ set latest h.cell (Some best) → IsWatched p hs (i + 1) new last
followed_with p hs times i n s got new old latest last h best o fit at w count counts same is room there meets kept written =
    subst (λ xs. IsWatched p hs (i + 1) xs last) (sym counts)
    (subst (IsWatched p hs (i + 1) (counted got s)) (sym last_is)
    (goes_with p hs times i n s got old h fit at (count_is p hs times i n s got old fit at w count) w is (omega (arith, room, w.cells)) (ap (λ m. met m h) here ∙ meets)))
  where
    here : get_or old h.cell no_hold ≡ o
    here = ap (λ xs. get_or xs h.cell no_hold) (sym same) ∙ there

    last_is : last ≡ set old h.cell (Some (longer (get_or old h.cell no_hold) h))
    last_is =
        written
        ∙ (ap (λ xs. set xs h.cell (Some best)) same ∙ ap (λ (m : Hold). set old h.cell (Some m)) (kept ∙ ap (λ m. longer m h) (sym here)))

-- what went through all entries found none that are held together
pub none_together : (p : Plan) (hs : List Seen) (n : ℕ) (got : List ℕ) (latest : List (Option Hold)) → length hs ≤ n → IsWatched p hs n got latest → (i j : ℕ) → ¬ IsTogether p hs i j
none_together p hs n got latest all w i j b =
    w.apart i j (omega (arith, all, slice_get_within hs i b.one b.one_held.entry)) (omega (arith, all, slice_get_within hs j b.other b.other_held.entry)) b
