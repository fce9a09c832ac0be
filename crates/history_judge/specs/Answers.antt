-- For each event that was got the entry that answers it.
use Rattle.std.specs.Prelude.{ℕ, ◌≡◌, ◌<◌, true, List, [], ◌∷◌, ◌++◌, length, Option, Some, None, slice_get, slice_set, slice_index_or, if◌then◌else◌}
use Rattle.std.specs.declared.alloc.Global.{Global}
use Rattle.std.specs.declared.vec.Vec.{Vec}
use Rattle.history_judge.specs.Histories.{IsAnswerTo, answered_before, got_before, is_answered}
use Rattle.history_judge.specs.Holds.{is_answer_entry, row, rows}
use Rattle.history_judge.specs.declared.seen.Deed.{Deed}
use Rattle.history_judge.specs.declared.seen.Deed.TheVariants.{Sent, Got}
use Rattle.history_judge.specs.declared.seen.Seen.{Seen}

-- for each entry the one that answers what it got, if there is one
pub record AreAnswers (hs : List Seen) (answers : List (Option ℕ)) : Type 0 where
  pub sized : length answers ≡ length hs
  pub each : (g b : ℕ) → slice_get answers g ≡ Some (Some b) → IsAnswerTo hs g b
  pub none : (g b : ℕ) → slice_get answers g ≡ Some None → ¬ IsAnswerTo hs g b

-- ---- where each port's answers stand

-- the b-th entry is an answer of the port, which has n before it
pub record IsAnswerOf (hs : List Seen) (l n b : ℕ) : Type 0 where
  pub seen : Seen
  pub there : slice_get hs b ≡ Some seen
  pub answer : is_answered l seen ≡ true
  pub turn : answered_before hs l b ≡ n

-- where the port's answers before the i-th entry stand
pub record ArePlacesOf (hs : List Seen) (i l : ℕ) (places : List ℕ) : Type 0 where
  pub count : length places ≡ answered_before hs l i
  pub each : (n b : ℕ) → slice_get places n ≡ Some b → IsAnswerOf hs l n b

-- for each of so many ports these places
pub record ArePlaces (ports : ℕ) (hs : List Seen) (i : ℕ) (lists : List (Vec ℕ Global)) : Type 0 where
  pub sized : length lists ≡ ports
  pub each : (l : ℕ) → l < ports → ArePlacesOf hs i l (row (rows lists) l)

-- the lists with the entry, the i-th
abbrev pub noted_at : List (List ℕ) → Seen → ℕ → List (List ℕ)
noted_at lists s i = if is_answer_entry s then slice_set lists s.port (row lists s.port ++ i ∷ []) else lists

-- the place at which what the entry got is answered, its port's n-th event
abbrev pub answer_got : List (Vec ℕ Global) → ℕ → ℕ → Deed → Option ℕ
answer_got lists l n (Sent r) = None
answer_got lists l n (Got e) = slice_get (row (rows lists) l) n

abbrev pub answer_of : List (Vec ℕ Global) → Seen → ℕ → Option ℕ
answer_of lists s n = answer_got lists s.port n s.deed

-- how many events each port got by the entries before the i-th, and what answers these
pub record AreFound (ports : ℕ) (hs : List Seen) (i : ℕ) (got : List ℕ) (answers : List (Option ℕ)) : Type 0 where
  pub each_port : length got ≡ ports
  pub counts : (l : ℕ) → l < ports → slice_index_or got l 0 ≡ got_before hs l i
  pub sized : length answers ≡ i
  pub each : (g b : ℕ) → slice_get answers g ≡ Some (Some b) → IsAnswerTo hs g b
  pub none : (g b : ℕ) → slice_get answers g ≡ Some None → ¬ IsAnswerTo hs g b
