-- Events of an ordered queue, where nothing is kept, are released one after the other, whichever places they have: the same is left as
-- where all their places are answered first, and then the answered ones leave.
use Rattle.std.proofs.Common.{◌≡◌, ◌⊎◌, inl, inr, ℕ, suc, ◌+◌, ◌<◌, true, false, ◌==◌, List, [], ◌∷◌, ◌++◌, All, Some, ap, append-nil, arith, drop, flat_map, get_or, length, map, refl, set, slice_get, subst, sum_by, sym, ◌∙◌}
use Rattle.std.proofs.lemmas.Bool.{cases_Bool, cond-false, cond-true}
use Rattle.std.proofs.lemmas.List.{drop-drop, get_or-set_same, length-set}
use Rattle.std.proofs.lemmas.List.Elements.{All-head, All-tail}
use Rattle.std.proofs.lemmas.List.Sums.{sum_by-cons, sum_by-set, take_while-cons}
use Rattle.std.proofs.Math.Seq.{set-set}
use Rattle.evt_types.specs.Place.{Place}
use Rattle.evt_types.specs.Plan.{is_ordered, queue_of}
use Rattle.evt_types.specs.declared.event.Event.{Event}
use Rattle.evt_types.specs.declared.step.Outcome.TheVariants.{Released}
use Rattle.sched_core.proofs.Settling.{leaving-cons, staying-cons}
use Rattle.sched_core.specs.Ordered.{kept_of}
use Rattle.sched_core.specs.Rows.{AreLetGo, IsLetGo}
use Rattle.step_log.specs.Rows.{release_steps}
use Rattle.transcripts.specs.Standing.{View, accepts_from, after, after_done, answer_place, events_of, kept_in, leaving, oldest_at, places_after, places_at, staying, unanswered_at}
use Rattle.transcripts.specs.Transcript.{Held}

-- ---- places that are answered by releases

-- one of them, and all of them
abbrev pub released_place : ℕ → Place → Place
released_place n x = answer_place n Released x

abbrev pub released_places : List Place → List Held → List Place
released_places xs [] = xs
released_places xs (h ∷ hs) = released_places (map (released_place h.number) xs) hs

-- the place of the number
abbrev done_place : ℕ → Place → Place
done_place n x = record { number = n; answered = true; forwards = x.forwards ++ [] }

-- an answered place stays answered, and a place keeps what it kept
still_answered : (n : ℕ) (x : Place) → x.answered ≡ true → (released_place n x).answered ≡ true
still_answered n x done = by_number (cases_Bool (x.number == n))
  where
    by_number : ((x.number == n) ≡ true) ⊎ ((x.number == n) ≡ false) → (released_place n x).answered ≡ true
    by_number (inl same) = ap (λ (y : Place). y.answered) (cond-true (x.number == n) (done_place n x) x same)
    by_number (inr other) = ap (λ (y : Place). y.answered) (cond-false (x.number == n) (done_place n x) x other) ∙ done

keeps_still : (n : ℕ) (x : Place) → length (released_place n x).forwards ≡ length x.forwards
keeps_still n x = by_number (cases_Bool (x.number == n))
  where
    by_number : ((x.number == n) ≡ true) ⊎ ((x.number == n) ≡ false) → length (released_place n x).forwards ≡ length x.forwards
    by_number (inl same) = ap (λ (y : Place). length y.forwards) (cond-true (x.number == n) (done_place n x) x same) ∙ ap length (append-nil x.forwards)
    by_number (inr other) = ap (λ (y : Place). length y.forwards) (cond-false (x.number == n) (done_place n x) x other)

pub kept_one : (n : ℕ) (xs : List Place) → kept_of (map (released_place n) xs) ≡ kept_of xs
kept_one n [] = refl
kept_one n (x ∷ xs) =
    omega (arith, sum_by-cons (λ (y : Place). length y.forwards) (released_place n x) (map (released_place n) xs), sum_by-cons (λ (y : Place). length y.forwards) x xs, keeps_still n x, kept_one n xs)

pub kept_all : (hs : List Held) (xs : List Place) → kept_of (released_places xs hs) ≡ kept_of xs
kept_all [] xs = refl
kept_all (h ∷ hs) xs = kept_all hs (map (released_place h.number) xs) ∙ kept_one h.number xs

-- ---- the answered ones leave

pub leaving_waits : (x : Place) (xs : List Place) → x.answered ≡ false → leaving (x ∷ xs) ≡ []
leaving_waits x xs waits = take_while-cons (λ (y : Place). y.answered) x xs ∙ cond-false x.answered (x ∷ leaving xs) [] waits

staying_waits : (x : Place) (xs : List Place) → x.answered ≡ false → staying (x ∷ xs) ≡ x ∷ xs
staying_waits x xs waits = ap (λ (ys : List Place). drop (length ys) (x ∷ xs)) (leaving_waits x xs waits)

-- those that left before are no matter
staying_twice : (xs : List Place) → staying (staying xs) ≡ staying xs
staying_twice [] = refl
staying_twice (x ∷ xs) = by_answer (cases_Bool x.answered) (staying_twice xs)
  where
    by_answer : (x.answered ≡ true) ⊎ (x.answered ≡ false) → staying (staying xs) ≡ staying xs → staying (staying (x ∷ xs)) ≡ staying (x ∷ xs)
    by_answer (inl done) rest = ap staying (staying-cons x xs done) ∙ (rest ∙ sym (staying-cons x xs done))
    by_answer (inr waits) rest = ap staying (staying_waits x xs waits)

staying_one : (n : ℕ) (xs : List Place) → staying (map (released_place n) (staying xs)) ≡ staying (map (released_place n) xs)
staying_one n [] = refl
staying_one n (x ∷ xs) = by_answer (cases_Bool x.answered) (staying_one n xs)
  where
    by_answer : (x.answered ≡ true) ⊎ (x.answered ≡ false) → staying (map (released_place n) (staying xs)) ≡ staying (map (released_place n) xs) → staying (map (released_place n) (staying (x ∷ xs))) ≡ staying (map (released_place n) (x ∷ xs))
    by_answer (inl done) rest =
        ap (λ ys. staying (map (released_place n) ys)) (staying-cons x xs done)
        ∙ (rest ∙ sym (staying-cons (released_place n x) (map (released_place n) xs) (still_answered n x done)))
    by_answer (inr waits) rest = ap (λ ys. staying (map (released_place n) ys)) (staying_waits x xs waits)

pub staying_all : (hs : List Held) (xs : List Place) → staying (released_places (staying xs) hs) ≡ staying (released_places xs hs)
staying_all [] xs = staying_twice xs
staying_all (h ∷ hs) xs =
    sym (staying_all hs (map (released_place h.number) (staying xs)))
    ∙ (ap (λ ys. staying (released_places ys hs)) (staying_one h.number xs) ∙ staying_all hs (map (released_place h.number) xs))

-- ---- where nothing is kept

none_kept : (es : List Event) → length es ≡ 0 → es ≡ []
none_kept [] none = refl
none_kept (e ∷ es) none = absurd (omega (arith, none))

pub staying_bare : (xs : List Place) → kept_of xs ≡ 0 → kept_of (staying xs) ≡ 0
staying_bare [] bare = refl
staying_bare (x ∷ xs) bare = by_answer (cases_Bool x.answered) (staying_bare xs (omega (arith, bare, sum_by-cons (λ (y : Place). length y.forwards) x xs)))
  where
    by_answer : (x.answered ≡ true) ⊎ (x.answered ≡ false) → kept_of (staying xs) ≡ 0 → kept_of (staying (x ∷ xs)) ≡ 0
    by_answer (inl done) rest = ap kept_of (staying-cons x xs done) ∙ rest
    by_answer (inr waits) rest = ap kept_of (staying_waits x xs waits) ∙ bare

-- nothing is accepted
pub accepts_none : (q : ℕ) (xs : List Place) → kept_of xs ≡ 0 → flat_map (λ (x : Place). accepts_from q x.number x.forwards) (leaving xs) ≡ []
accepts_none q [] bare = refl
accepts_none q (x ∷ xs) bare = by_answer (cases_Bool x.answered) (accepts_none q xs (omega (arith, bare, sum_by-cons (λ (y : Place). length y.forwards) x xs)))
  where
    by_answer : (x.answered ≡ true) ⊎ (x.answered ≡ false) → flat_map (λ (y : Place). accepts_from q y.number y.forwards) (leaving xs) ≡ [] → flat_map (λ (y : Place). accepts_from q y.number y.forwards) (leaving (x ∷ xs)) ≡ []
    by_answer (inl done) rest =
        ap (flat_map (λ (y : Place). accepts_from q y.number y.forwards)) (leaving-cons x xs done)
        ∙ (ap (λ es. accepts_from q x.number es ++ flat_map (λ (y : Place). accepts_from q y.number y.forwards) (leaving xs)) (none_kept x.forwards (omega (arith, bare, sum_by-cons (λ (y : Place). length y.forwards) x xs)))
        ∙ rest)
    by_answer (inr waits) rest = ap (flat_map (λ (y : Place). accepts_from q y.number y.forwards)) (leaving_waits x xs waits)

-- ---- a view

-- once these events of the lane are released
abbrev pub released_view : View → ℕ → ℕ → List Held → View
released_view v l q hs =
    record v {
      places = set v.places q (staying (released_places (places_at v q) hs));
      unanswered = set v.unanswered l (drop (length hs) (unanswered_at v l));
      extras = set v.extras l 0;
    }

-- one of them
module _ (v : View) (l : ℕ) (h : Held) (ordered : is_ordered (queue_of v.shape h.queue).kind ≡ true) (there : h.queue < length v.places) (bare : kept_of (places_at v h.queue) ≡ 0) (oldest : oldest_at v l ≡ Some h) where
  abbrev now : List Place
  now = map (released_place h.number) (places_at v h.queue)

  places_one : places_after v (oldest_at v l) Released ≡ set v.places h.queue (staying now)
  places_one = ap (λ x. places_after v x Released) oldest ∙ cond-true (is_ordered (queue_of v.shape h.queue).kind) (set v.places h.queue (staying now)) v.places ordered

  pub view_one : after_done v l Released ≡ released_view v l h.queue (h ∷ [])
  view_one = ap (λ ps. let u : View = record v { places = ps; unanswered = set v.unanswered l (drop 1 (unanswered_at v l)); extras = set v.extras l 0 } in u) places_one

  now_bare : kept_of now ≡ 0
  now_bare = kept_one h.number (places_at v h.queue) ∙ bare

  pub left_bare : kept_of (places_at (after_done v l Released) h.queue) ≡ 0
  left_bare =
      ap (λ (u : View). kept_of (places_at u h.queue)) view_one
      ∙ (ap kept_of (get_or-set_same v.places h.queue (staying now) [] there) ∙ staying_bare now now_bare)

  pub lets_go : IsLetGo v l h
  lets_go =
      record {
        oldest = oldest;
        accepts =
            cond-true (is_ordered (queue_of v.shape h.queue).kind) (flat_map (λ (x : Place). accepts_from h.queue x.number x.forwards) (leaving now)) (accepts_from h.queue h.number (events_of Released)) ordered
            ∙ accepts_none h.queue now now_bare;
        kept =
            ap (sum_by kept_of) places_one
            ∙ omega (arith, sum_by-set kept_of v.places h.queue (staying now) [] there, staying_bare now now_bare, bare);
      }

-- one event of the queue
record IsGone (v : View) (l q : ℕ) (h : Held) : Type 0 where
  lets : IsLetGo v l h
  view : after_done v l Released ≡ released_view v l q (h ∷ [])
  bare : kept_of (places_at (after_done v l Released) q) ≡ 0

one_gone : (v : View) (l q : ℕ) (h : Held) → h.queue ≡ q → is_ordered (queue_of v.shape q).kind ≡ true → q < length v.places → kept_of (places_at v q) ≡ 0 → oldest_at v l ≡ Some h → IsGone v l q h
one_gone v l q h of ordered there bare oldest =
    let ordered_here : is_ordered (queue_of v.shape h.queue).kind ≡ true = subst (λ n. is_ordered (queue_of v.shape n).kind ≡ true) (sym of) ordered in
    let there_here : h.queue < length v.places = subst (λ n. n < length v.places) (sym of) there in
    let bare_here : kept_of (places_at v h.queue) ≡ 0 = subst (λ n. kept_of (places_at v n) ≡ 0) (sym of) bare in
    subst (λ n. IsGone v l n h) of
    (record {
      lets = lets_go v l h ordered_here there_here bare_here oldest;
      view = view_one v l h ordered_here there_here bare_here oldest;
      bare = left_bare v l h ordered_here there_here bare_here oldest;
    })

-- and then others
module _ (v : View) (l q : ℕ) (h : Held) (ks : List Held) (there : q < length v.places) (lane : l < length v.unanswered) where
  abbrev first : List Place
  first = map (released_place h.number) (places_at v q)

  abbrev held : List (List Held)
  held = set v.unanswered l (drop 1 (unanswered_at v l))

  places_joined : set (set v.places q (staying first)) q (staying (released_places (get_or (set v.places q (staying first)) q []) ks)) ≡ set v.places q (staying (released_places first ks))
  places_joined =
      ap (λ xs. set (set v.places q (staying first)) q (staying (released_places xs ks))) (get_or-set_same v.places q (staying first) [] there)
      ∙ (ap (set (set v.places q (staying first)) q) (staying_all ks first) ∙ set-set v.places q (staying first) (staying (released_places first ks)))

  one_and : 1 + length ks ≡ suc (length ks)
  one_and = omega arith

  held_joined : set held l (drop (length ks) (get_or held l [])) ≡ set v.unanswered l (drop (suc (length ks)) (unanswered_at v l))
  held_joined =
      ap (λ xs. set held l (drop (length ks) xs)) (get_or-set_same v.unanswered l (drop 1 (unanswered_at v l)) [] lane)
      ∙ (set-set v.unanswered l (drop 1 (unanswered_at v l)) (drop (length ks) (drop 1 (unanswered_at v l)))
      ∙ ap (set v.unanswered l) (drop-drop (length ks) 1 (unanswered_at v l) ∙ ap (λ n. drop n (unanswered_at v l)) one_and))

  view_joined : released_view (released_view v l q (h ∷ [])) l q ks ≡ released_view v l q (h ∷ ks)
  view_joined =
      ap (λ ps. let u : View = record v { places = ps; unanswered = set held l (drop (length ks) (get_or held l [])); extras = set (set v.extras l 0) l 0 } in u) places_joined
      ∙ (ap (λ us. let u : View = record v { places = set v.places q (staying (released_places first ks)); unanswered = us; extras = set (set v.extras l 0) l 0 } in u) held_joined
      ∙ ap (λ es. let u : View = record v { places = set v.places q (staying (released_places first ks)); unanswered = set v.unanswered l (drop (suc (length ks)) (unanswered_at v l)); extras = es } in u) (set-set v.extras l 0 0))

-- all of them
pub record HasLetGo (v : View) (l q : ℕ) (hs : List Held) : Type 0 where
  pub each : AreLetGo v l hs
  pub view : after v (release_steps l (length hs)) ≡ released_view v l q hs

pub releases_let_go :
    (hs : List Held) (h : Held) (v : View) (l q : ℕ) (rest : List Held) → is_ordered (queue_of v.shape q).kind ≡ true → q < length v.places → l < length v.unanswered → unanswered_at v l ≡ h ∷ (hs ++ rest) → h.queue ≡ q
    → All (λ (x : Held). x.queue ≡ q) hs → kept_of (places_at v q) ≡ 0 → HasLetGo v l q (h ∷ hs)
releases_let_go [] h v l q rest ordered there lane are of all bare =
    let one : IsGone v l q h = one_gone v l q h of ordered there bare (ap (λ xs. slice_get xs 0) are) in
    record { each = (one.lets, tt); view = one.view }
releases_let_go (k ∷ ks) h v l q rest ordered there lane are of all bare =
    let one : IsGone v l q h = one_gone v l q h of ordered there bare (ap (λ xs. slice_get xs 0) are) in
    let places : length (after_done v l Released).places ≡ length v.places = ap (λ (u : View). length u.places) one.view ∙ length-set v.places q (staying (map (released_place h.number) (places_at v q))) in
    let held : unanswered_at (after_done v l Released) l ≡ k ∷ (ks ++ rest) = get_or-set_same v.unanswered l (drop 1 (unanswered_at v l)) [] lane ∙ ap (drop 1) are in
    let others : HasLetGo (after_done v l Released) l q (k ∷ ks) =
    releases_let_go ks k (after_done v l Released) l q rest ordered (subst (λ n. q < n) (sym places) there) (subst (λ n. l < n) (sym (length-set v.unanswered l (drop 1 (unanswered_at v l)))) lane) held
    (All-head (λ (x : Held). x.queue ≡ q) k ks all) (All-tail (λ (x : Held). x.queue ≡ q) k ks all) one.bare in
    record {
      each = (one.lets, others.each);
      view = others.view ∙ (ap (λ u. released_view u l q (k ∷ ks)) one.view ∙ view_joined v l q h (k ∷ ks) there lane);
    }

-- what is kept stays
pub let_go_kept : (hs : List Held) (v : View) (l : ℕ) → AreLetGo v l hs → kept_in (after v (release_steps l (length hs))) ≡ kept_in v
let_go_kept [] v l leave = refl
let_go_kept (h ∷ hs) v l leave = let_go_kept hs (after_done v l Released) l leave.1 ∙ leave.0.kept
