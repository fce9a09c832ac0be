-- What shows that an Accept from an event comes out of order.
use Rattle.std.specs.Prelude.{ℕ, Bool, not, ◌&&◌, ◌==◌, nat_lt, List, count_by, filter_map, flat_map, Option, option_map, if◌then◌else◌}
use Rattle.std.specs.List.{find}
use Rattle.std.specs.Option.{option_and_then, option_or}
use Rattle.evt_types.specs.Plan.{Plan, is_ordered, lanes, queue_of}
use Rattle.evt_types.specs.declared.step.Step.{Step}
use Rattle.lists.specs.Lists.{has, upto}
use Rattle.transcripts.specs.Lawful.{keeps_with}
use Rattle.transcripts.specs.Transcript.{hand, sources, unanswered}
use Rattle.judge_app.specs.Forwards.{number_of, sent_of}
use Rattle.judge_app.specs.Scans.{give_place, take_place}
use Rattle.judge_app.specs.declared.reason.Disorder.TheVariants.{Unanswered, Kept, Later, Behind}
use Rattle.judge_app.specs.declared.reason.Reason.{Reason}
use Rattle.judge_app.specs.declared.reason.Reason.TheVariants.{Order}

-- ---- an ordered queue: what was given as early as #n, and is to be answered and accepted before

-- the first number that an event was accepted from, though it wasn't given as early as #n
abbrev pub later_at : List Step → ℕ → ℕ → ℕ → Option Reason
later_at T q n m = option_map (Order Later q n m) (take_place T q m)

abbrev pub later : List Step → List ℕ → ℕ → ℕ → Option Reason
later T front q n = option_and_then (later_at T q n) (find (λ m. not (has m front)) (sources T q))

-- the first that was given as early and that a lane hasn't answered
abbrev pub held_of : Plan → List Step → ℕ → List ℕ
held_of p T q = flat_map (λ l. filter_map (number_of q) (unanswered T l)) (lanes p)

abbrev pub unanswered_at : List Step → ℕ → ℕ → ℕ → Option Reason
unanswered_at T q n m = option_map (Order Unanswered q n m) (give_place T q m)

abbrev pub unanswered_in : Plan → List Step → List ℕ → ℕ → ℕ → Option Reason
unanswered_in p T front q n = option_and_then (unanswered_at T q n) (find (λ m. has m (held_of p T q)) front)

-- the first that was given before and that fewer events were accepted from than it was passed on as
abbrev pub is_kept : Plan → List Step → ℕ → ℕ → ℕ → Bool
is_kept p T q n m = not (m == n) && nat_lt (count_by (λ k. k == m) (sources T q)) (count_by (λ k. k == m) (sent_of p T q))

abbrev pub kept_at : List Step → ℕ → ℕ → ℕ → Option Reason
kept_at T q n m = option_map (Order Kept q n m) (give_place T q m)

abbrev pub kept_in : Plan → List Step → List ℕ → ℕ → ℕ → Option Reason
kept_in p T front q n = option_and_then (kept_at T q n) (find (is_kept p T q n) front)

-- the first of these that there is
abbrev pub out_of_hand : Plan → List Step → List ℕ → ℕ → ℕ → Option Reason
out_of_hand p T front q n = option_or (later T front q n) (option_or (unanswered_in p T front q n) (kept_in p T front q n))

-- ---- another queue: the first higher number of #n's flow and level that an event was accepted from

abbrev pub is_above : Plan → List Step → ℕ → ℕ → ℕ → Bool
is_above p T q n m = nat_lt n m && keeps_with p T q m n

abbrev pub behind_at : List Step → ℕ → ℕ → ℕ → Option Reason
behind_at T q n m = option_map (Order Behind q n m) (take_place T q m)

abbrev pub behind : Plan → List Step → ℕ → ℕ → Option Reason
behind p T q n = option_and_then (behind_at T q n) (find (is_above p T q n) (sources T q))

abbrev pub out_of_order : Plan → List Step → ℕ → ℕ → Option Reason
out_of_order p T q n = if is_ordered (queue_of p q).kind then out_of_hand p T (upto n (hand T q)) q n else behind p T q n
