-- What is known of the steps read is what the log says, one step more.
use Rattle.std.proofs.Common.{◌≡◌, ◌≢◌, ℕ, zero, suc, ◌+◌, ◌<◌, ◌≤◌, List, [], ◌∷◌, ◌++◌, length, map, set, get_or, replicate, Option, Some, None, slice_get, slice_index, cond, ⊎_elim, refl, sym, ap, ◌∙◌, subst, arith, append-nil, length-set, ◌-◌}
use Rattle.std.specs.List.{cons_option, range_with_len}
use Rattle.std.specs.Prelude.{slice_index_or, filter_map}
use Rattle.std.proofs.lemmas.Bool.{cases_eq}
use Rattle.std.proofs.lemmas.Option.{none-some, same_Some}
use Rattle.std.proofs.lemmas.List.{length_push, length-map, map-append, map-set, replicate_more, get_or-set_same, get_or-set_other, get_or_push, get_or-replicate, length-replicate, ext_get_or}
use Rattle.std.proofs.lemmas.List.FromFn.{length-map-range_with_len, get_or-map-range_with_len}
use Rattle.lists.proofs.Lists.{eqb_same, eqb_other, with_past-push}
use Rattle.lists.specs.Lists.{with_past}
use Rattle.transcripts.proofs.Pushes.{answer_of-same, answer_of-other, answers-some, answers-none}
use Rattle.transcripts.specs.Transcript.{answer_of, answers}
use Rattle.evt_types.specs.declared.step.Source.TheVariants.{New, Of}
use Rattle.evt_types.specs.declared.step.Step.{Step}
use Rattle.evt_types.specs.declared.step.Step.TheVariants.{Accept, Give, Done, More, Turned, Bounced, Shut}
use Rattle.std.specs.declared.alloc.Global.{Global}
use Rattle.std.specs.declared.vec.Vec.{Vec}
use Rattle.timelines.specs.Links.{begins, begun, begun_in, closed_by, ender_in, enders, ends, if_row, IsPlaced, last_or, origin, origin_by, place_by, row, rows, some_spot, spot, spots}
use Rattle.timelines.specs.Readings.{answer_more, begin_more, close_at, HasSizes, IsNew, IsNext, origin_in, spot_in}
use Rattle.timelines.specs.declared.links.Links.{Links}

-- ---- lists in a list

pub rows_set : (lists : List (Vec ℕ Global)) (n : ℕ) (list : Vec ℕ Global) → rows (set lists n list) ≡ set (rows lists) n list.items
rows_set lists n list = map-set (λ (v : Vec ℕ Global). v.items) lists n list

pub length-rows : (lists : List (Vec ℕ Global)) → length (rows lists) ≡ length lists
length-rows lists = length-map lists (λ (v : Vec ℕ Global). v.items)

-- an empty list more
pub rows_none_more : (old new : List (Vec ℕ Global)) (list : Vec ℕ Global) (n : ℕ) → new ≡ old ++ list ∷ [] → list.items ≡ [] → rows old ≡ replicate n []
    → rows new ≡ replicate (n + 1) []
rows_none_more old new list n is none all =
    ap rows is ∙ (map-append (λ (v : Vec ℕ Global). v.items) old (list ∷ []) ∙ (ap (λ (ls : List (List ℕ)). ls ++ list.items ∷ []) all
    ∙ (ap (λ (xs : List ℕ). replicate n [] ++ xs ∷ []) none ∙ replicate_more n [])))

-- the list at a place that is there
pub row_is : (lists : List (Vec ℕ Global)) (n : ℕ) (d : Vec ℕ Global) → n < length lists → row (rows lists) n ≡ (get_or lists n d).items
row_is [] n d h = absurd (omega arith)
row_is (v ∷ vs) zero d h = refl
row_is (v ∷ vs) (suc n) d h = row_is vs n d (omega arith)

row_none : (count n : ℕ) → row (replicate count []) n ≡ []
row_none zero n = refl
row_none (suc count) zero = refl
row_none (suc count) (suc n) = row_none count n

index_none : (count n : ℕ) → slice_index (replicate count 0) n ≡ 0
index_none zero n = refl
index_none (suc count) zero = refl
index_none (suc count) (suc n) = index_none count n

-- ---- one step more, list by list

begun-push : (qs : ℕ) (T : List Step) (s : Step) (r : ℕ) → begun qs (T ++ s ∷ []) r ≡ begun qs T r ++ cons_option (if_row r (length T) (begins qs s)) []
unfolding begun
begun-push qs T s r = with_past-push (begun_in qs r) [] T s

enders-push : (qs : ℕ) (T : List Step) (s : Step) (i : ℕ) → enders qs (T ++ s ∷ []) i ≡ enders qs T i ++ cons_option (if_row i (length T) (closed_by (origin qs T s) s)) []
unfolding enders
enders-push qs T s i = with_past-push (ender_in qs i) [] T s

spots-push : (qs : ℕ) (T : List Step) (s : Step) → spots qs (T ++ s ∷ []) ≡ spots qs T ++ spot qs T s ∷ []
unfolding spots
spots-push qs T s = with_past-push (some_spot qs) [] T s

length-with_past : (qs : ℕ) (past xs : List Step) → length (with_past (some_spot qs) past xs) ≡ length xs
length-with_past qs past [] = refl
length-with_past qs past (x ∷ xs) = ap suc (length-with_past qs (past ++ x ∷ []) xs)

length-spots : (qs : ℕ) (T : List Step) → length (spots qs T) ≡ length T
unfolding spots
length-spots qs T = length-with_past qs [] T

if_row-same : (r n : ℕ) → if_row r n (Some r) ≡ Some n
if_row-same r n = ap (λ b. cond b (Some n) None) (eqb_same r)

if_row-other : (k r n : ℕ) → k ≢ r → if_row r n (Some k) ≡ None
if_row-other k r n d = ap (λ b. cond b (Some n) None) (eqb_other k r d)

-- a step begins a bar
begun_more : (lists : List (List ℕ)) (f g : ℕ → List ℕ) (o : Option ℕ) (n : ℕ) → ((k : ℕ) → o ≡ Some k → k < length lists) → ((r : ℕ) → row lists r ≡ f r)
    → ((r : ℕ) → g r ≡ f r ++ cons_option (if_row r n o) []) → (r : ℕ) → row (begin_more n o lists) r ≡ g r
begun_more lists f g None n here was is r = was r ∙ sym (is r ∙ append-nil (f r))
begun_more lists f g (Some k) n here was is r = ⊎_elim same other (cases_eq k r)
  where
    same : k ≡ r → row (set lists k (row lists k ++ n ∷ [])) r ≡ g r
    same e =
        ap (row (set lists k (row lists k ++ n ∷ []))) (sym e)
        ∙ (get_or-set_same lists k (row lists k ++ n ∷ []) [] (here k refl)
        ∙ (ap (λ xs. xs ++ n ∷ []) (was k)
        ∙ (sym (is k ∙ ap (λ u. f k ++ cons_option u []) (if_row-same k n)) ∙ ap g e)))

    other : k ≢ r → row (set lists k (row lists k ++ n ∷ [])) r ≡ g r
    other d =
        get_or-set_other lists k r (row lists k ++ n ∷ []) [] (λ e. d (sym e))
        ∙ (was r ∙ sym (is r ∙ (ap (λ u. f r ++ cons_option u []) (if_row-other k r n d) ∙ append-nil (f r))))

-- a step ends a bar
last-push : (d n : ℕ) (xs : List ℕ) → last_or d (xs ++ n ∷ []) ≡ n
last-push d n xs = get_or_push xs n d (length (xs ++ n ∷ []) - 1) (omega (arith, length_push xs n))

ended_more : (us : List ℕ) (N n : ℕ) (f g : ℕ → List ℕ) (o : Option ℕ) → length us ≡ N → ((i : ℕ) → i < N → slice_index_or us i N ≡ last_or N (f i))
    → ((i : ℕ) → g i ≡ f i ++ cons_option (if_row i n o) []) → (i : ℕ) → i < N → slice_index_or (close_at n o us) i N ≡ last_or N (g i)
ended_more us N n f g None size was is i lt = was i lt ∙ sym (ap (last_or N) (is i ∙ append-nil (f i)))
ended_more us N n f g (Some k) size was is i lt = ⊎_elim same other (cases_eq k i)
  where
    same : k ≡ i → slice_index_or (set us k n) i N ≡ last_or N (g i)
    same e =
        ap (λ j. slice_index_or (set us j n) i N) e
        ∙ (get_or-set_same us i n N (omega (arith, size))
        ∙ sym (ap (last_or N) (is i ∙ (ap (λ j. f i ++ cons_option (if_row i n (Some j)) []) e ∙ ap (λ u. f i ++ cons_option u []) (if_row-same i n))) ∙ last-push N n (f i)))

    other : k ≢ i → slice_index_or (set us k n) i N ≡ last_or N (g i)
    other d =
        get_or-set_other us k i n N (λ e. d (sym e))
        ∙ (was i lt ∙ sym (ap (last_or N) (is i ∙ (ap (λ u. f i ++ cons_option u []) (if_row-other k i n d) ∙ append-nil (f i)))))

pub length-close : (us : List ℕ) (n : ℕ) (o : Option ℕ) → length (close_at n o us) ≡ length us
length-close us n None = refl
length-close us n (Some k) = length-set us k n

-- a step answers
answered_more : (counts : List ℕ) (T : List Step) (qs ls : ℕ) (s : Step) → length counts ≡ ls → IsPlaced qs ls s → ((l : ℕ) → slice_index counts l ≡ length (answers T l))
    → (l : ℕ) → slice_index (answer_more s counts) l ≡ length (answers (T ++ s ∷ []) l)
answered_more counts T qs ls (Accept q e src) size at was l = was l ∙ sym (ap length (answers-none T l (Accept q e src) refl))
answered_more counts T qs ls (Give m q n) size at was l = was l ∙ sym (ap length (answers-none T l (Give m q n) refl))
answered_more counts T qs ls (More m e) size at was l = was l ∙ sym (ap length (answers-none T l (More m e) refl))
answered_more counts T qs ls (Turned m e) size at was l = was l ∙ sym (ap length (answers-none T l (Turned m e) refl))
answered_more counts T qs ls (Bounced m) size at was l = was l ∙ sym (ap length (answers-none T l (Bounced m) refl))
answered_more counts T qs ls Shut size at was l = was l ∙ sym (ap length (answers-none T l Shut refl))
answered_more counts T qs ls (Done m o) size at was l = ⊎_elim same other (cases_eq m l)
  where
    same : m ≡ l → slice_index (set counts m (slice_index counts m + 1)) l ≡ length (answers (T ++ Done m o ∷ []) l)
    same e =
        subst (λ k. slice_index (set counts m (slice_index counts m + 1)) k ≡ length (answers (T ++ Done m o ∷ []) k)) e
        (get_or-set_same counts m (slice_index counts m + 1) 0 (omega (arith, size, at))
        ∙ (ap (λ n. n + 1) (was m) ∙ sym (ap length (answers-some T m (Done m o) o (answer_of-same m o)) ∙ length_push (answers T m) o)))

    other : m ≢ l → slice_index (set counts m (slice_index counts m + 1)) l ≡ length (answers (T ++ Done m o ∷ []) l)
    other d =
        get_or-set_other counts m l (slice_index counts m + 1) 0 (λ e. d (sym e))
        ∙ (was l ∙ sym (ap length (answers-none T l (Done m o) (answer_of-other l m o d))))

-- no lane has given more answers than there are steps
filter_map-short : {X Y : Type 0} (f : X → Option Y) (xs : List X) → length (filter_map f xs) ≤ length xs
filter_map-short f [] = omega arith
filter_map-short f (x ∷ xs) =
    let ih : length (filter_map f xs) ≤ length xs = filter_map-short f xs in
    elim (f x) as (λ o. length (cons_option o (filter_map f xs)) ≤ length (x ∷ xs)) [ None ↦ omega arith | Some y ↦ omega arith ]

answers-short : (T : List Step) (l : ℕ) → length (answers T l) ≤ length T
unfolding answers
answers-short T l = filter_map-short (answer_of l) T

-- ---- what a step goes back to, by lists that agree

origin-agree : (qs : ℕ) (f g : ℕ → List ℕ) (a b : ℕ → ℕ) (s : Step) → ((r : ℕ) → f r ≡ g r) → ((l : ℕ) → a l ≡ b l) → origin_by qs f a s ≡ origin_by qs g b s
origin-agree qs f g a b (Accept q e (New l)) hf ha = refl
origin-agree qs f g a b (Accept q e (Of r n)) hf ha = ap (λ xs. slice_get xs n) (hf r)
origin-agree qs f g a b (Give l q n) hf ha = ap (λ xs. slice_get xs n) (hf q)
origin-agree qs f g a b (Done l o) hf ha = ap (λ xs. slice_get xs (a l)) (hf (qs + l)) ∙ ap (slice_get (g (qs + l))) (ha l)
origin-agree qs f g a b (More l e) hf ha = ap (λ xs. slice_get xs (a l)) (hf (qs + l)) ∙ ap (slice_get (g (qs + l))) (ha l)
origin-agree qs f g a b (Turned l e) hf ha = refl
origin-agree qs f g a b (Bounced l) hf ha = refl
origin-agree qs f g a b Shut hf ha = refl

place-agree : (f g : ℕ → List ℕ) (o : Option ℕ) → ((r : ℕ) → f r ≡ g r) → place_by f o ≡ place_by g o
place-agree f g None h = refl
place-agree f g (Some r) h = ap length (h r)

begins-placed : (qs ls : ℕ) (s : Step) (k : ℕ) → IsPlaced qs ls s → begins qs s ≡ Some k → k < qs + ls
begins-placed qs ls (Accept q e src) k at is = let e' : q ≡ k = same_Some q k is in omega (arith, e', at)
begins-placed qs ls (Give l q n) k at is = let e' : qs + l ≡ k = same_Some (qs + l) k is in omega (arith, e', at)
begins-placed qs ls (Done l o) k at is = absurd (none-some k is)
begins-placed qs ls (More l e) k at is = absurd (none-some k is)
begins-placed qs ls (Turned l e) k at is = absurd (none-some k is)
begins-placed qs ls (Bounced l) k at is = absurd (none-some k is)
begins-placed qs ls Shut k at is = absurd (none-some k is)

-- ---- all of it

pub record Follows (qs ls N : ℕ) (T : List Step) (a : Links) : Type 0 where
  pub sizes : HasSizes qs ls a
  pub size : length a.ends.items ≡ N
  pub begun : (r : ℕ) → row (rows a.begun.items) r ≡ begun qs T r
  pub answered : (l : ℕ) → slice_index a.answered.items l ≡ length (answers T l)
  pub spots : a.spots.items ≡ spots qs T
  pub ends : (i : ℕ) → i < N → slice_index_or a.ends.items i N ≡ last_or N (enders qs T i)

pub follows_none : (qs ls N : ℕ) (a : Links) → IsNew qs ls N a → Follows qs ls N [] a
unfolding begun answers spots enders
follows_none qs ls N a new = record {
  sizes = record {
    begun = sym (length-rows a.begun.items) ∙ (ap length new.begun ∙ length-replicate (qs + ls) []);
    answered = ap length new.answered ∙ length-replicate ls 0;
  };
  size = ap length new.ends ∙ length-replicate N N;
  begun = λ r. ap (λ xs. row xs r) new.begun ∙ row_none (qs + ls) r;
  answered = λ l. ap (λ xs. slice_index xs l) new.answered ∙ index_none ls l;
  spots = new.spots;
  ends = λ i lt. ap (λ xs. slice_index_or xs i N) new.ends ∙ get_or-replicate N i N N lt;
}

length-begin : (lists : List (List ℕ)) (n : ℕ) (o : Option ℕ) → length (begin_more n o lists) ≡ length lists
length-begin lists n None = refl
length-begin lists n (Some k) = length-set lists k (row lists k ++ n ∷ [])

pub length-answer : (counts : List ℕ) (s : Step) → length (answer_more s counts) ≡ length counts
length-answer counts (Accept q e src) = refl
length-answer counts (Give l q n) = refl
length-answer counts (Done l o) = length-set counts l (slice_index counts l + 1)
length-answer counts (More l e) = refl
length-answer counts (Turned l e) = refl
length-answer counts (Bounced l) = refl
length-answer counts Shut = refl

pub follows_step : (qs ls N : ℕ) (T : List Step) (s : Step) (a b : Links) → Follows qs ls N T a → IsPlaced qs ls s → IsNext qs s a b → Follows qs ls N (T ++ s ∷ []) b
follows_step qs ls N T s a b f at next =
    let now : length a.spots.items ≡ length T = ap length f.spots ∙ length-spots qs T in
    let from : origin_in qs a s ≡ origin qs T s = origin-agree qs (row (rows a.begun.items)) (begun qs T) (slice_index a.answered.items) (λ l. length (answers T l)) s f.begun f.answered in
    let place : place_by (row (rows a.begun.items)) (begins qs s) ≡ place_by (begun qs T) (begins qs s) = place-agree (row (rows a.begun.items)) (begun qs T) (begins qs s) f.begun in
    let there : (k : ℕ) → begins qs s ≡ Some k → k < length (rows a.begun.items) =
    λ k is. let lt : k < qs + ls = begins-placed qs ls s k at is in omega (arith, lt, f.sizes.begun, length-rows a.begun.items) in
    record {
      sizes = record {
        begun = sym (length-rows b.begun.items) ∙ (ap length next.begun ∙ (length-begin (rows a.begun.items) (length a.spots.items) (begins qs s) ∙ (length-rows a.begun.items ∙ f.sizes.begun)));
        answered = ap length next.answered ∙ (length-answer a.answered.items s ∙ f.sizes.answered);
      };
      size = ap length next.ends ∙ (length-close a.ends.items (length a.spots.items) (closed_by (origin_in qs a s) s) ∙ f.size);
      begun = λ r.
          ap (λ xs. row xs r) next.begun
          ∙ begun_more (rows a.begun.items) (begun qs T) (begun qs (T ++ s ∷ [])) (begins qs s) (length a.spots.items) there f.begun
          (λ k. begun-push qs T s k ∙ ap (λ n. begun qs T k ++ cons_option (if_row k n (begins qs s)) []) (sym now)) r;
      answered = λ l. ap (λ xs. slice_index xs l) next.answered ∙ answered_more a.answered.items T qs ls s f.sizes.answered at f.answered l;
      spots = next.spots ∙ (ap (λ xs. xs ++ spot_in qs a s ∷ []) f.spots ∙ (spots_same place from ∙ sym (spots-push qs T s)));
      ends = λ i lt.
          ap (λ xs. slice_index_or xs i N) next.ends
          ∙ ended_more a.ends.items N (length a.spots.items) (enders qs T) (enders qs (T ++ s ∷ [])) (closed_by (origin_in qs a s) s) f.size f.ends
          (λ k. enders-push qs T s k
          ∙ (ap (λ n. enders qs T k ++ cons_option (if_row k n (closed_by (origin qs T s) s)) []) (sym now)
          ∙ ap (λ o. enders qs T k ++ cons_option (if_row k (length a.spots.items) (closed_by o s)) []) (sym from))) i lt;
    }
  where
    spots_same : place_by (row (rows a.begun.items)) (begins qs s) ≡ place_by (begun qs T) (begins qs s) → origin_in qs a s ≡ origin qs T s
        → spots qs T ++ spot_in qs a s ∷ [] ≡ spots qs T ++ spot qs T s ∷ []
    spots_same p o =
        ap (λ (n : ℕ). spots qs T ++ record { place = n; origin = origin_in qs a s } ∷ []) p
        ∙ ap (λ (u : Option ℕ). spots qs T ++ record { place = place_by (begun qs T) (begins qs s); origin = u } ∷ []) o

pub follows_counted : (qs ls N : ℕ) (T : List Step) (a : Links) → Follows qs ls N T a → (l : ℕ) → slice_index a.answered.items l ≤ length a.spots.items
follows_counted qs ls N T a f l =
    let now : length a.spots.items ≡ length T = ap length f.spots ∙ length-spots qs T in omega (arith, f.answered l, now, answers-short T l)

-- ---- at the end, as lists

pub follows_begun : (qs ls N : ℕ) (T : List Step) (a : Links) → Follows qs ls N T a → rows a.begun.items ≡ map (begun qs T) (range_with_len 0 (qs + ls))
follows_begun qs ls N T a f =
    let size : length (rows a.begun.items) ≡ qs + ls = length-rows a.begun.items ∙ f.sizes.begun in
    ext_get_or [] (rows a.begun.items) (map (begun qs T) (range_with_len 0 (qs + ls))) (size ∙ sym (length-map-range_with_len (begun qs T) 0 (qs + ls)))
    (λ i lt. let in_range : i < qs + ls = omega (arith, size) in f.begun i ∙ sym (get_or-map-range_with_len (begun qs T) 0 (qs + ls) i i [] in_range (omega arith)))

pub follows_ends : (qs ls : ℕ) (T : List Step) (a : Links) → Follows qs ls (length T) T a → a.ends.items ≡ ends qs T
unfolding ends
follows_ends qs ls T a f =
    let end_of : ℕ → ℕ = λ i. last_or (length T) (enders qs T i) in
    ext_get_or (length T) a.ends.items (map end_of (range_with_len 0 (length T))) (f.size ∙ sym (length-map-range_with_len end_of 0 (length T)))
    (λ i lt. let in_range : i < length T = omega (arith, f.size) in f.ends i in_range ∙ sym (get_or-map-range_with_len end_of 0 (length T) i i (length T) in_range (omega arith)))

pub follows_count : (qs ls N : ℕ) (T : List Step) (a : Links) → Follows qs ls N T a → length a.begun.items ≡ qs + ls
follows_count qs ls N T a f = f.sizes.begun
