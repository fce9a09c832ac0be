-- Replies of a lane that are taken in rows.
use Rattle.std.proofs.Common.{◌≡◌, ℕ, zero, suc, ◌+◌, ◌-◌, ◌<◌, ◌≤◌, ◌%◌, ◌^◌, List, [], ◌∷◌, ◌++◌, ap, append-nil, append_assoc, arith, drop, length, refl, slice_get, Some, subst, sym, take, ◌∙◌}
use Rattle.event_scheduler.proofs.Counts.{count-append, reply_enters, reply_turns}
use Rattle.event_scheduler.proofs.Replies.{after-append}
use Rattle.event_scheduler.proofs.Taking.{lane_more, run_more, run_none, takes_none, took}
use Rattle.event_scheduler.specs.Scheduler.{Sight, taken_at}
use Rattle.event_scheduler.specs.Taking.{Takes, only, with_core, with_taken}
use Rattle.evt_types.specs.declared.event.Reply.{Reply}
use Rattle.evt_types.specs.declared.step.Step.{Step}
use Rattle.sched_core.specs.Rows.{row_of}
use Rattle.std.proofs.lemmas.Option.{none-some}
use Rattle.std.proofs.Math.Seq.{take-add}
use Rattle.std.proofs.lemmas.List.{length-drop, length-set, length-take-le, take_all}
use Rattle.transcripts.proofs.WholeStands.{shape_after, takes_stand}
use Rattle.transcripts.specs.Replies.{new_count, turned_count}
use Rattle.transcripts.specs.Standing.{View, after, steps_of}
use Rattle.transcripts.specs.Sweep.{MayBeTaken, replies_steps}
use Rattle.transcripts.specs.Transcript.{is_new, is_turned}

-- what is left of a sum
sums_left : (p k n q : ℕ) → q ≡ (p + k) % 2 ^ 64 → (q + n) % 2 ^ 64 ≡ (p + (k + n)) % 2 ^ 64
sums_left p k n q is = omega (arith, is)

-- the core, the pocket and the count after a row of a lane's replies
abbrev row_left : Sight → ℕ → View → ℕ → ℕ → List Reply → Sight
row_left s l v p n rs =
    let steps : List Step = replies_steps v (row_of l rs) in
    with_core (with_taken s l rs) (after v steps) ((p + turned_count steps) % 2 ^ 64) ((n + new_count steps) % 2 ^ 64)

abbrev IsRow : Sight → ℕ → View → ℕ → ℕ → List Step → List Reply → Type 0
IsRow s l v p n log rs = Takes (only l (length rs)) (length rs) (with_core s v p n) log (row_left s l v p n rs) (log ++ replies_steps v (row_of l rs))

none_left : (n : ℕ) → n < 2 ^ 64 → (n + 0) % 2 ^ 64 ≡ n
none_left n fits = omega (arith, fits)

row_of_none : (s : Sight) (l : ℕ) (v : View) (p n : ℕ) (log : List Step) → l < length s.taken → p < 2 ^ 64 → n < 2 ^ 64 → IsRow s l v p n log []
row_of_none s l v p n log within fits_p fits_n =
    let With : Sight → ℕ → ℕ → List Step → Type 0 = λ x q m longer. Takes (only l 0) 0 (with_core s v p n) log (with_core x v q m) longer in
    subst (λ x. With x ((p + 0) % 2 ^ 64) ((n + 0) % 2 ^ 64) (log ++ [])) (sym (run_none s l within))
    (subst (λ q. With s q ((n + 0) % 2 ^ 64) (log ++ [])) (sym (none_left p fits_p))
    (subst (λ m. With s p m (log ++ [])) (sym (none_left n fits_n))
    (subst (With s p n) (sym (append-nil log)) (takes_none (only l 0) (with_core s v p n) log))))

-- the first, and the rest
module _ (s : Sight) (l : ℕ) (v : View) (p n : ℕ) (log : List Step) (r : Reply) (rs : List Reply) (within : l < length s.taken) (fits : n < 2 ^ 64) (may : MayBeTaken v (row_of l (r ∷ rs))) where
  abbrev first : List Step
  first = steps_of v l r.event

  abbrev w : View
  w = after v first

  abbrev held : ℕ
  held = (p + turned_count first) % 2 ^ 64

  abbrev came : ℕ
  came = (n + new_count first) % 2 ^ 64

  abbrev behind : Sight
  behind = with_taken s l (r ∷ [])

  within_behind : l < length behind.taken
  within_behind = omega (arith, within, length-set s.taken l (taken_at s l ++ r ∷ []))

  one : Takes (only l 1) 1 (with_core s v p n) log (with_core behind w held came) (log ++ first)
  one =
      took s v w p n held came l (turned_count first) (new_count first) r.event log (log ++ first) within may.0 may.1 refl (shape_after v first) refl
      (λ T stands. (takes_stand v T l r.event may.0 may.1 stands).1) fits (reply_turns v l r.event) (reply_enters v l r.event) refl refl

  rest_row : IsRow behind l w held came (log ++ first) rs → IsRow s l v p n log (r ∷ rs)
  rest_row rest =
      let steps : List Step = replies_steps v (row_of l (r ∷ rs)) in
      let later : List Step = replies_steps w (row_of l rs) in
      let With : Sight → View → ℕ → ℕ → List Step → Type 0 = λ x u q m longer. Takes (only l (length (r ∷ rs))) (length (r ∷ rs)) (with_core s v p n) log (with_core x u q m) longer in
      let both = lane_more l 1 (length rs) _ _ _ log (log ++ first) ((log ++ first) ++ later) one rest in
      let counted : With (with_taken behind l rs) (after w later) ((held + turned_count later) % 2 ^ 64) ((came + new_count later) % 2 ^ 64) ((log ++ first) ++ later) =
      subst (λ k. Takes (only l k) k (with_core s v p n) log (with_core (with_taken behind l rs) (after w later) ((held + turned_count later) % 2 ^ 64) ((came + new_count later) % 2 ^ 64)) ((log ++ first) ++ later)) (omega arith) both in
      subst (λ x. With x (after v steps) ((p + turned_count steps) % 2 ^ 64) ((n + new_count steps) % 2 ^ 64) (log ++ steps)) (run_more s l (r ∷ []) rs within)
      (subst (λ u. With (with_taken behind l rs) u ((p + turned_count steps) % 2 ^ 64) ((n + new_count steps) % 2 ^ 64) (log ++ steps)) (sym (after-append v first later))
      (subst (λ q. With (with_taken behind l rs) (after w later) q ((n + new_count steps) % 2 ^ 64) (log ++ steps)) (sums_left p (turned_count first) (turned_count later) held refl ∙ ap (λ k. (p + k) % 2 ^ 64) (sym (count-append is_turned first later)))
      (subst (λ m. With (with_taken behind l rs) (after w later) ((held + turned_count later) % 2 ^ 64) m (log ++ steps)) (sums_left n (new_count first) (new_count later) came refl ∙ ap (λ k. (n + k) % 2 ^ 64) (sym (count-append is_new first later)))
      (subst (With (with_taken behind l rs) (after w later) ((held + turned_count later) % 2 ^ 64) ((came + new_count later) % 2 ^ 64)) (append_assoc log first later) counted))))

is_left : (n : ℕ) → n % 2 ^ 64 < 2 ^ 64
is_left n = omega arith

pub row_takes : (rs : List Reply) (s : Sight) (l : ℕ) (v : View) (p n : ℕ) (log : List Step) → l < length s.taken → p < 2 ^ 64 → n < 2 ^ 64 → MayBeTaken v (row_of l rs) → IsRow s l v p n log rs
row_takes [] s l v p n log within fits_p fits_n may = row_of_none s l v p n log within fits_p fits_n
row_takes (r ∷ rs) s l v p n log within fits_p fits_n may =
    rest_row s l v p n log r rs within fits_n may
    (row_takes rs (with_taken s l (r ∷ [])) l (after v (steps_of v l r.event)) ((p + turned_count (steps_of v l r.event)) % 2 ^ 64) ((n + new_count (steps_of v l r.event)) % 2 ^ 64) (log ++ steps_of v l r.event)
    (within_behind s l v p n log r rs within fits_n may) (is_left (p + turned_count (steps_of v l r.event))) (is_left (n + new_count (steps_of v l r.event))) may.2)

-- a row of which none is turned away, and so many are accepted as new
pub row_took :
    (rs : List Reply) (s : Sight) (l : ℕ) (v w : View) (p n k came : ℕ) (log longer : List Step) → l < length s.taken → p < 2 ^ 64 → n < 2 ^ 64 → MayBeTaken v (row_of l rs)
    → w ≡ after v (replies_steps v (row_of l rs)) → longer ≡ log ++ replies_steps v (row_of l rs) → turned_count (replies_steps v (row_of l rs)) ≡ 0 → new_count (replies_steps v (row_of l rs)) ≡ k → came ≡ (n + k) % 2 ^ 64
    → Takes (only l (length rs)) (length rs) (with_core s v p n) log (with_core (with_taken s l rs) w p came) longer
row_took rs s l v w p n k came log longer within fits_p fits_n may view logged turns enters comes =
    let steps : List Step = replies_steps v (row_of l rs) in
    let With : View → ℕ → ℕ → List Step → Type 0 = λ u q m ss. Takes (only l (length rs)) (length rs) (with_core s v p n) log (with_core (with_taken s l rs) u q m) ss in
    subst (λ u. With u p came longer) (sym view)
    (subst (With (after v steps) p came) (sym logged)
    (subst (λ q. With (after v steps) q came (log ++ steps)) (ap (λ j. (p + j) % 2 ^ 64) turns ∙ none_left p fits_p)
    (subst (λ m. With (after v steps) ((p + turned_count steps) % 2 ^ 64) m (log ++ steps)) (ap (λ j. (n + j) % 2 ^ 64) enters ∙ sym comes)
    (row_takes rs s l v p n log within fits_p fits_n may))))

-- a slice from a place on has what is left behind that place
pub rest_is : (k : ℕ) (rs : List Reply) → take (length rs - k) (drop k rs) ≡ drop k rs
rest_is k rs = take_all (length rs - k) (drop k rs) (omega (arith, length-drop k rs))

-- none of them taken
pub none_taken : (s : Sight) (l p m : ℕ) (rs : List Reply) (v : View) (log : List Step) → l < length s.taken → Takes (only l 0) 0 (with_core s v p m) log (with_core (with_taken s l (take 0 rs)) v p m) log
none_taken s l p m rs v log within =
    subst (λ (x : Sight). Takes (only l 0) 0 (with_core s v p m) log (with_core x v p m) log) (sym (run_none s l within)) (takes_none (only l 0) (with_core s v p m) log)

-- the same taking, by what its count, its core, its count of NEWs and its log are
pub taken_as :
    (s : Sight) (l k n p m q r : ℕ) (rs : List Reply) (v u w : View) (log longer more : List Step) → k ≡ n → u ≡ w → q ≡ r → longer ≡ more
    → Takes (only l n) n (with_core s v p m) log (with_core (with_taken s l (take n rs)) w p r) more
    → Takes (only l k) k (with_core s v p m) log (with_core (with_taken s l (take k rs)) u p q) longer
taken_as s l k n p m q r rs v u w log longer more count core news steps h =
    subst (λ x. Takes (only l k) k (with_core s v p m) log (with_core (with_taken s l (take k rs)) u p q) x) (sym steps)
    (subst (λ x. Takes (only l k) k (with_core s v p m) log (with_core (with_taken s l (take k rs)) u p x) more) (sym news)
    (subst (λ (x : View). Takes (only l k) k (with_core s v p m) log (with_core (with_taken s l (take k rs)) x p r) more) (sym core)
    (subst (λ j. Takes (only l j) j (with_core s v p m) log (with_core (with_taken s l (take j rs)) w p r) more) (sym count) h)))

-- some replies of a lane, and some of those behind them
pub next_row :
    (s : Sight) (l k n : ℕ) (rs : List Reply) (v u w : View) (p m q later r more : ℕ) (log mid longer : List Step) → l < length s.taken → n ≤ length (take (length rs - k) (drop k rs))
    → Takes (only l k) k (with_core s v p m) log (with_core (with_taken s l (take k rs)) u q later) mid
    → Takes (only l n) n (with_core (with_taken s l (take k rs)) u q later) mid (with_core (with_taken (with_taken s l (take k rs)) l (take n (take (length rs - k) (drop k rs)))) w r more) longer
    → Takes (only l (k + n)) (k + n) (with_core s v p m) log (with_core (with_taken s l (take (k + n) rs)) w r more) longer
next_row s l k n rs v u w p m q later r more log mid longer within left h row =
    subst (λ x. Takes (only l (k + n)) (k + n) (with_core s v p m) log (with_core x w r more) longer)
    (run_more s l (take k rs) (take n (take (length rs - k) (drop k rs))) within ∙ ap (with_taken s l) (ap (λ ys. take k rs ++ take n ys) (rest_is k rs) ∙ sym (take-add k n rs)))
    (lane_more l k n _ _ _ log mid longer h row)

-- some replies of a lane, and a row behind them of which none is turned away
pub row_behind :
    (s : Sight) (l k n : ℕ) (rs : List Reply) (v u w : View) (p m came more : ℕ) (log mid longer : List Step) → l < length s.taken → p < 2 ^ 64 → came < 2 ^ 64 → n ≤ length (take (length rs - k) (drop k rs))
    → Takes (only l k) k (with_core s v p m) log (with_core (with_taken s l (take k rs)) u p came) mid → MayBeTaken u (row_of l (take n (take (length rs - k) (drop k rs))))
    → w ≡ after u (replies_steps u (row_of l (take n (take (length rs - k) (drop k rs))))) → longer ≡ mid ++ replies_steps u (row_of l (take n (take (length rs - k) (drop k rs))))
    → turned_count (replies_steps u (row_of l (take n (take (length rs - k) (drop k rs))))) ≡ 0 → more ≡ (came + new_count (replies_steps u (row_of l (take n (take (length rs - k) (drop k rs)))))) % 2 ^ 64
    → Takes (only l (k + n)) (k + n) (with_core s v p m) log (with_core (with_taken s l (take (k + n) rs)) w p more) longer
row_behind s l k n rs v u w p m came more log mid longer within fits_p fits_c left h may view logged turns enters =
    let rest : List Reply = take (length rs - k) (drop k rs) in
    let behind : Sight = with_taken s l (take k rs) in
    let inside : l < length behind.taken = omega (arith, within, length-set s.taken l (taken_at s l ++ take k rs)) in
    let row : Takes (only l (length (take n rest))) (length (take n rest)) (with_core behind u p came) mid (with_core (with_taken behind l (take n rest)) w p more) longer =
    row_took (take n rest) behind l u w p came (new_count (replies_steps u (row_of l (take n rest)))) more mid longer inside fits_p fits_c may view logged turns refl enters in
    next_row s l k n rs v u w p m p came p more log mid longer within left h
    (subst (λ j. Takes (only l j) j (with_core behind u p came) mid (with_core (with_taken behind l (take n rest)) w p more) longer) (length-take-le n rest left) row)

-- what stands behind some of them
pub slice_behind : (k n : ℕ) (rs : List Reply) (r : Reply) → slice_get (drop k rs) n ≡ Some r → slice_get rs (k + n) ≡ Some r
slice_behind zero n rs r there = let is : n ≡ zero + n = omega arith in subst (λ m. slice_get rs m ≡ Some r) is there
slice_behind (suc k) n [] r there = absurd (none-some r there)
slice_behind (suc k) n (x ∷ xs) r there =
    let is : suc (k + n) ≡ suc k + n = omega arith in
    subst (λ m. slice_get (x ∷ xs) m ≡ Some r) is (slice_behind k n xs r there)
