-- What shows that a step breaks its clause, in words.
use Rattle.std.specs.Prelude.{ℕ, ◌+◌, ◌==◌, List, [], ◌++◌, codes, decimal, Option, Some, None, if◌then◌else◌}
use Rattle.judge_app.specs.declared.reason.Class.{Class}
use Rattle.judge_app.specs.declared.reason.Class.TheVariants.{Flow, Level}
use Rattle.judge_app.specs.declared.reason.Disorder.{Disorder}
use Rattle.judge_app.specs.declared.reason.Disorder.TheVariants.{Unanswered, Kept, Later, Behind}
use Rattle.judge_app.specs.declared.reason.Reason.{Reason}
use Rattle.judge_app.specs.declared.reason.Reason.TheVariants.{Passed, Absent, Given, Unserved, Full, Held, Order, Idle, Added, Foreign, Shut, Open}

-- the line of the step at k, where the line `log` has the number n
abbrev pub line_of : ℕ → ℕ → ℕ
line_of n k = n + k + 1

-- the other step that is needed to see it
abbrev pub place_in : Reason → Option ℕ
place_in (Passed c q n m at) = Some at
place_in (Absent q n) = None
place_in (Given q n at) = Some at
place_in (Unserved l q f) = None
place_in (Full l count) = None
place_in (Held q f m g l at) = Some at
place_in (Order d q n m at) = Some at
place_in (Idle l) = None
place_in (Added l count) = None
place_in (Foreign q n) = None
place_in (Shut at) = Some at
place_in Open = None

abbrev pub class_text : Class → List ℕ
class_text (Flow f) = codes "flow " ++ decimal f
class_text (Level c) = codes "level " ++ decimal c

abbrev pub passed_text : Class → ℕ → ℕ → ℕ → List ℕ
passed_text c q n m =
    class_text c ++ ((codes " of queue " ++ decimal q ++ codes " was given #" ++ decimal n) ++ (codes " before #" ++ decimal m ++ codes ", which was accepted"))

abbrev pub held_text : ℕ → ℕ → ℕ → ℕ → ℕ → List ℕ
held_text q f m g l =
    codes "flow " ++ (decimal f ++ (codes " of queue " ++ (decimal q ++ (codes ": #" ++ (decimal m ++ (codes ", flow " ++ (decimal g ++ (codes ", is unanswered on lane "
    ++ (decimal l ++ codes ", given")))))))))

-- an event, by its number and queue
abbrev pub event_name : ℕ → ℕ → List ℕ
event_name q n = codes "#" ++ decimal n ++ codes " of queue " ++ decimal q

-- that #m was given, and before #n, if it is another
abbrev pub given_text : ℕ → ℕ → ℕ → List ℕ
given_text q n m = event_name q m ++ (if m == n then codes " was given" else codes " was given before #" ++ decimal n ++ codes ",")

-- that a forward of #m was accepted, and how #m stands to #n
abbrev pub forward_text : List ℕ → ℕ → ℕ → ℕ → List ℕ
forward_text how q n m =
    codes "a forward of #" ++ (decimal m ++ (codes " of queue " ++ (decimal q ++ (how ++ (decimal n ++ codes ", was accepted")))))

abbrev pub order_text : Disorder → ℕ → ℕ → ℕ → List ℕ
order_text Unanswered q n m = given_text q n m
order_text Kept q n m = given_text q n m
order_text Later q n m = forward_text (codes ", which was given after #") q n m
order_text Behind q n m = forward_text (codes ", which is behind #") q n m

-- what is said of #n
abbrev pub event_text : ℕ → ℕ → List ℕ → List ℕ
event_text q n what = codes "#" ++ (decimal n ++ (codes " of queue " ++ (decimal q ++ what)))

abbrev pub unserved_text : ℕ → ℕ → ℕ → List ℕ
unserved_text l q f = codes "lane " ++ (decimal l ++ (codes " does not serve queue " ++ (decimal q ++ (codes ", flow " ++ decimal f))))

abbrev pub full_text : ℕ → ℕ → List ℕ
full_text l count = codes "lane " ++ (decimal l ++ (codes " has " ++ (decimal count ++ codes " unanswered events already")))

abbrev pub added_text : ℕ → ℕ → List ℕ
added_text l count = codes "lane " ++ (decimal l ++ (codes " has added " ++ (decimal count ++ codes " events already")))

abbrev pub said : Reason → List ℕ
said (Passed c q n m at) = passed_text c q n m
said (Absent q n) = event_text q n (codes " was not accepted")
said (Given q n at) = event_text q n (codes " was given already,")
said (Unserved l q f) = unserved_text l q f
said (Full l count) = full_text l count
said (Held q f m g l at) = held_text q f m g l
said (Order d q n m at) = order_text d q n m
said (Idle l) = codes "lane " ++ decimal l ++ codes " has nothing to answer"
said (Added l count) = added_text l count
said (Foreign q n) = event_text q n (codes " was not forwarded as this")
said (Shut at) = codes "the device was shut"
said Open = codes "the device is not shut"

-- in which line the other step is
abbrev pub in_line : ℕ → Option ℕ → List ℕ
in_line n None = []
in_line n (Some k) = codes " in line " ++ decimal (line_of n k)

-- what is said behind that line
abbrev pub order_rest : Disorder → List ℕ
order_rest Unanswered = codes ", and is not answered"
order_rest Kept = codes ", and a forward of it is not accepted"
order_rest Later = []
order_rest Behind = []

abbrev pub rest_text : Reason → List ℕ
rest_text (Passed c q n m at) = []
rest_text (Absent q n) = []
rest_text (Given q n at) = []
rest_text (Unserved l q f) = []
rest_text (Full l count) = []
rest_text (Held q f m g l at) = []
rest_text (Order d q n m at) = order_rest d
rest_text (Idle l) = []
rest_text (Added l count) = []
rest_text (Foreign q n) = []
rest_text (Shut at) = []
rest_text Open = []

-- the line that says it of the step at k
abbrev pub why_text : ℕ → ℕ → Reason → List ℕ
why_text n k r =
    (codes "line " ++ decimal (line_of n k) ++ codes ": ") ++ (said r ++ (in_line n (place_in r) ++ (rest_text r ++ codes "\n")))
