-- The marks of a picture, one for each step of a log: what its title says and what is drawn.
use Rattle.std.specs.Prelude.{ℕ, ◌+◌, ◌-◌, ◌*◌, Bool, true, false, not, ◌&&◌, ◌==◌, nat_lt, nat_le, List, [], ◌++◌, length, codes, decimal, slice_get, slice_index_or, Option, Some, None, if◌then◌else◌}
use Rattle.evt_types.specs.Plan.{is_atomic, queue_in}
use Rattle.evt_types.specs.declared.draft.QueueDraft.{QueueDraft}
use Rattle.evt_types.specs.declared.step.Outcome.{Outcome}
use Rattle.evt_types.specs.declared.step.Outcome.TheVariants.{Forwarded, Released}
use Rattle.evt_types.specs.declared.step.Source.{Source}
use Rattle.evt_types.specs.declared.step.Source.TheVariants.{New, Of}
use Rattle.evt_types.specs.declared.step.Step.{Step}
use Rattle.evt_types.specs.declared.step.Step.TheVariants.{Accept, Give, Done, More, Turned, Bounced, Shut}
use Rattle.timelines.specs.Layout.{Frame, end_at, flow_place, row_at, spot_at, track_in, x_at}
use Rattle.timelines.specs.declared.layout.Row.{Row}
use Rattle.timelines.specs.declared.signs.Look.{Look}
use Rattle.timelines.specs.declared.signs.Look.TheVariants.{Waits, Held, Pinned}

-- ---- what a step goes back to

-- the pair that a Give gives, and the flow that an Accept accepts; of another step, or none, 0
abbrev pub pair_of : Option Step → ℕ × ℕ
pair_of None = (0, 0)
pair_of (Some (Give l q n)) = (q, n)
pair_of (Some (Accept q e s)) = (0, 0)
pair_of (Some (Done l o)) = (0, 0)
pair_of (Some (More l e)) = (0, 0)
pair_of (Some (Turned l e)) = (0, 0)
pair_of (Some (Bounced l)) = (0, 0)
pair_of (Some Shut) = (0, 0)

abbrev pub lane_of : Option Step → ℕ
lane_of None = 0
lane_of (Some (Give l q n)) = l
lane_of (Some (Accept q e s)) = 0
lane_of (Some (Done l o)) = 0
lane_of (Some (More l e)) = 0
lane_of (Some (Turned l e)) = 0
lane_of (Some (Bounced l)) = 0
lane_of (Some Shut) = 0

abbrev pub flow_of : Option Step → ℕ
flow_of None = 0
flow_of (Some (Accept q e s)) = e.flow
flow_of (Some (Give l q n)) = 0
flow_of (Some (Done l o)) = 0
flow_of (Some (More l e)) = 0
flow_of (Some (Turned l e)) = 0
flow_of (Some (Bounced l)) = 0
flow_of (Some Shut) = 0

abbrev pub source_is : ℕ → ℕ → Source → Bool
source_is q n (New l) = false
source_is q n (Of r m) = (r == q) && (m == n)

-- whether the step accepts what the event of this queue and number was passed on as
abbrev pub comes_from : ℕ → ℕ → Option Step → Bool
comes_from q n None = false
comes_from q n (Some (Accept r e s)) = source_is q n s
comes_from q n (Some (Give l r m)) = false
comes_from q n (Some (Done l o)) = false
comes_from q n (Some (More l e)) = false
comes_from q n (Some (Turned l e)) = false
comes_from q n (Some (Bounced l)) = false
comes_from q n (Some Shut) = false

abbrev pub step_of : List Step → Option ℕ → Option Step
step_of T None = None
step_of T (Some i) = slice_get T i

abbrev pub origin_at : Frame → ℕ → Option ℕ
origin_at f i = (spot_at f.spots i).origin

-- the pair that the answer of step i is to, or beside which it adds; the flow of the event that it gives
abbrev pub pair_at : Frame → List Step → ℕ → ℕ × ℕ
pair_at f T i = pair_of (step_of T (origin_at f i))

abbrev pub flow_at : Frame → List Step → ℕ → ℕ
flow_at f T i = flow_of (step_of T (origin_at f i))

-- whether what the event x was passed on as at step i isn't accepted at once but kept
abbrev pub is_kept : List Step → ℕ → ℕ × ℕ → Bool
is_kept T i x = not (comes_from x.0 x.1 (slice_get T (i + 1)))

-- ---- titles

unfoldable pub event_words : ℕ → ℕ → List ℕ
event_words q n = codes "queue " ++ decimal q ++ codes " #" ++ decimal n

-- when its bar ends; where none of so many steps ends it, it doesn't
unfoldable pub given_words : ℕ → ℕ → List ℕ
given_words steps end = if nat_lt end steps then codes "; given at step " ++ decimal end else codes "; not given"

unfoldable pub answered_words : ℕ → ℕ → List ℕ
answered_words steps end = if nat_lt end steps then codes "; answered at step " ++ decimal end else codes "; not answered"

unfoldable pub source_words : Source → List ℕ
source_words (New l) = codes ", new from lane " ++ decimal l
source_words (Of q n) = codes ", passed on from " ++ event_words q n

unfoldable pub pin_words : Bool → List ℕ
pin_words true = codes ", which pins the flow"
pin_words false = []

unfoldable pub kept_words : Bool → List ℕ
kept_words true = codes ", kept until those before it are answered"
kept_words false = []

abbrev pub is_pinned : List QueueDraft → ℕ → Bool
is_pinned qs q = is_atomic (queue_in qs q).kind

-- an answer to the event x, which is kept or not where it is forwarded
unfoldable pub done_title : ℕ → ℕ × ℕ → Outcome → Bool → List ℕ
done_title l x Released kept = codes "lane " ++ decimal l ++ codes " releases " ++ event_words x.0 x.1
done_title l x (Forwarded e) kept = codes "lane " ++ decimal l ++ codes " forwards " ++ event_words x.0 x.1 ++ codes " to queue " ++ decimal e.queue ++ kept_words kept

unfoldable pub accept_title : ℕ → ℕ → ℕ → Source → ℕ → ℕ → List ℕ
accept_title q n flow s steps end =
    codes "queue " ++ decimal q ++ codes " accepts #" ++ decimal n ++ codes " of flow " ++ decimal flow ++ source_words s ++ given_words steps end

unfoldable pub give_title : ℕ → ℕ → ℕ → ℕ → Bool → ℕ → ℕ → List ℕ
give_title l q n flow pinned steps end =
    codes "lane " ++ decimal l ++ codes " is given " ++ event_words q n ++ codes " of flow " ++ decimal flow ++ pin_words pinned ++ answered_words steps end

unfoldable pub more_title : ℕ → ℕ → ℕ × ℕ → List ℕ
more_title l q x = codes "lane " ++ (decimal l ++ (codes " adds an event for queue " ++ (decimal q ++ (codes " beside " ++ event_words x.0 x.1))))

unfoldable pub turned_title : ℕ → ℕ → List ℕ
turned_title l q = codes "a new event of lane " ++ (decimal l ++ (codes " for queue " ++ (decimal q ++ codes " is turned away")))

unfoldable pub bounced_title : ℕ → List ℕ
bounced_title l = codes "lane " ++ decimal l ++ codes " has no room, and a delivery bounces"

-- what the title of step i says: its kind and its event
abbrev pub title_at : List QueueDraft → Frame → List Step → ℕ → Step → List ℕ
title_at qs f T i (Accept q e s) = accept_title q (spot_at f.spots i).place e.flow s (length T) (end_at f.ends i)
title_at qs f T i (Give l q n) = give_title l q n (flow_at f T i) (is_pinned qs q) (length T) (end_at f.ends i)
title_at qs f T i (Done l o) = done_title l (pair_at f T i) o (is_kept T i (pair_at f T i))
title_at qs f T i (More l e) = more_title l e.queue (pair_at f T i)
title_at qs f T i (Turned l e) = turned_title l e.queue
title_at qs f T i (Bounced l) = bounced_title l
title_at qs f T i Shut = codes "the device is shut"

-- ---- what is drawn

-- a bar looks as its event waits in its queue, or is with a lane, where it may pin its flow
abbrev pub look_text : Look → List ℕ
look_text Waits = codes "<rect class='w f"
look_text Held = codes "<rect class='h f"
look_text Pinned = codes "<rect class='h p f"

unfoldable pub bar_text : Look → ℕ → ℕ → ℕ → ℕ → List ℕ
bar_text look flow x y width =
    look_text look ++ (decimal flow ++ (codes "' x='" ++ (decimal x ++ (codes "' y='" ++ (decimal y ++ (codes "' width='" ++ (decimal width ++ codes "' height='12' rx='2'/>")))))))

abbrev pub label_start : ℕ → ℕ → List ℕ
label_start x y = codes "<text class='n' x='" ++ decimal (x + 5) ++ codes "' y='" ++ decimal (y + 9) ++ codes "'>"

unfoldable pub number_label : ℕ → ℕ → ℕ → List ℕ
number_label x y n = label_start x y ++ codes "#" ++ decimal n ++ codes "</text>"

unfoldable pub pair_label : ℕ → ℕ → ℕ → ℕ → List ℕ
pair_label x y q n = label_start x y ++ codes "q" ++ decimal q ++ codes " #" ++ decimal n ++ codes "</text>"

abbrev pub number_if : Bool → ℕ → ℕ → ℕ → List ℕ
number_if true x y n = number_label x y n
number_if false x y n = []

abbrev pub pair_if : Bool → ℕ → ℕ → ℕ × ℕ → List ℕ
pair_if true x y e = pair_label x y e.0 e.1
pair_if false x y e = []

-- a label stands in a bar that is wide enough for it
abbrev pub is_wide : ℕ → ℕ → ℕ → Bool
is_wide least n width = nat_le (if nat_lt n 100 then least else least + 36) width

abbrev pub width_at : Frame → ℕ → ℕ
width_at f i = f.unit * (end_at f.ends i - i) - 2

abbrev pub look_of : Bool → Look
look_of true = Pinned
look_of false = Held

unfoldable pub waiting_text : Frame → ℕ → ℕ → ℕ → List ℕ
waiting_text f i y flow =
    bar_text Waits (flow_place flow f.flows) (x_at f.unit i) y (width_at f i)
    ++ number_if (is_wide 24 (spot_at f.spots i).place (width_at f i)) (x_at f.unit i) y (spot_at f.spots i).place

unfoldable pub held_text : Frame → Bool → ℕ → ℕ × ℕ → ℕ → ℕ → List ℕ
held_text f pinned i x y flow =
    bar_text (look_of pinned) (flow_place flow f.flows) (x_at f.unit i) y (width_at f i)
    ++ pair_if (is_wide 40 x.1 (width_at f i)) (x_at f.unit i) y x

-- a line from where an event was passed on to where it was accepted
abbrev pub line_start : Bool → List ℕ
line_start true = codes "<path class='d' d='M"
line_start false = codes "<path class='o' d='M"

unfoldable pub line_text : Bool → ℕ → ℕ → ℕ → ℕ → List ℕ
line_text kept x y to_x to_y = line_start kept ++ decimal x ++ codes " " ++ decimal y ++ codes "L" ++ decimal to_x ++ codes " " ++ decimal to_y ++ codes "'/>"

-- from the answer that ended the Give of step g, on its lane
unfoldable pub passed_from : Frame → List Step → ℕ → ℕ → ℕ → ℕ → ℕ × ℕ → List ℕ
passed_from f T qs g i y x =
    if nat_le i (end_at f.ends g)
    then []
    else line_text (is_kept T (end_at f.ends g) x) (x_at f.unit (end_at f.ends g) + 8) (track_in (row_at f.rows (qs + lane_of (slice_get T g))) (spot_at f.spots g).place + 6) (x_at f.unit i) (y + 6)

-- the Give that ended the Accept of the event that it comes from
abbrev pub passed_of : Frame → List Step → ℕ → Option ℕ → ℕ → ℕ → ℕ × ℕ → List ℕ
passed_of f T qs None i y x = []
passed_of f T qs (Some a) i y x = passed_from f T qs (end_at f.ends a) i y x

abbrev pub passed_text : Frame → List Step → ℕ → ℕ → ℕ → Source → List ℕ
passed_text f T qs i y (New l) = []
passed_text f T qs i y (Of q n) = passed_of f T qs (origin_at f i) i y (q, n)

unfoldable pub release_sign : ℕ → ℕ → List ℕ
release_sign x y = codes "<path class='t' d='M" ++ decimal (x + 2) ++ codes " " ++ decimal y ++ codes "v12'/>"

unfoldable pub forward_sign : ℕ → ℕ → List ℕ
forward_sign x y = codes "<path class='s' d='M" ++ decimal x ++ codes " " ++ decimal y ++ codes "l7 6l-7 6z'/>"

unfoldable pub kept_sign : ℕ → ℕ → List ℕ
kept_sign x y = codes "<path class='k' d='M" ++ decimal (x + 4) ++ codes " " ++ decimal y ++ codes "l4 6l-4 6l-4 -6z'/>"

unfoldable pub more_sign : ℕ → ℕ → List ℕ
more_sign x y = codes "<path class='t' d='M" ++ decimal (x + 4) ++ codes " " ++ decimal y ++ codes "v8m-4 -4h8'/>"

unfoldable pub turned_sign : ℕ → ℕ → List ℕ
turned_sign x y = codes "<path class='t' d='M" ++ decimal x ++ codes " " ++ decimal y ++ codes "l8 8m0 -8l-8 8'/>"

unfoldable pub bounced_sign : ℕ → ℕ → List ℕ
bounced_sign x y = codes "<path class='t' d='M" ++ (decimal x ++ (codes " " ++ (decimal y ++ codes "l4 6l4 -6'/>")))

unfoldable pub shut_sign : ℕ → ℕ → List ℕ
shut_sign x bottom = codes "<path class='e' d='M" ++ decimal x ++ codes " 130V" ++ decimal bottom ++ codes "'/>"

unfoldable pub done_sign : Outcome → Bool → ℕ → ℕ → List ℕ
done_sign Released kept x y = release_sign x y
done_sign (Forwarded e) kept x y = if kept then kept_sign x y else forward_sign x y

-- the track of the Give that step i answers
abbrev pub answer_track : Frame → Row → Option ℕ → ℕ
answer_track f r None = track_in r 0
answer_track f r (Some g) = track_in r (spot_at f.spots g).place

unfoldable pub accept_text : Frame → List Step → ℕ → ℕ → ℕ → ℕ → Source → List ℕ
accept_text f T qs i y flow s = waiting_text f i y flow ++ passed_text f T qs i y s

abbrev pub drawn_at : List QueueDraft → Frame → List Step → ℕ → Step → List ℕ
drawn_at qs f T i (Accept q e s) = accept_text f T (length qs) i (track_in (row_at f.rows q) (spot_at f.spots i).place) e.flow s
drawn_at qs f T i (Give l q n) = held_text f (is_pinned qs q) i (q, n) (track_in (row_at f.rows (length qs + l)) (spot_at f.spots i).place) (flow_at f T i)
drawn_at qs f T i (Done l o) = done_sign o (is_kept T i (pair_at f T i)) (x_at f.unit i) (answer_track f (row_at f.rows (length qs + l)) (origin_at f i))
drawn_at qs f T i (More l e) = more_sign (x_at f.unit i) ((row_at f.rows (length qs + l)).top + 2)
drawn_at qs f T i (Turned l e) = turned_sign (x_at f.unit i) ((row_at f.rows (length qs + l)).top + 2)
drawn_at qs f T i (Bounced l) = bounced_sign (x_at f.unit i) ((row_at f.rows (length qs + l)).top + 3)
drawn_at qs f T i Shut = shut_sign (x_at f.unit i) f.bottom

-- ---- marks

-- a mark: the number of the step that it names, its title, and what is drawn for it
pub record Mark : Type 0 where
  pub step : ℕ
  pub title : List ℕ
  pub drawn : List ℕ

unfoldable pub mark_of : List QueueDraft → Frame → List Step → ℕ → Step → Mark
mark_of qs f T i s = record { step = i; title = title_at qs f T i s; drawn = drawn_at qs f T i s }

abbrev pub mark_at : List QueueDraft → Frame → List Step → ℕ → Mark
mark_at qs f T i = mark_of qs f T i (slice_index_or T i Shut)

abbrev pub mark_text : Mark → List ℕ
mark_text m = codes "<g role='img'><title>step " ++ (decimal m.step ++ (codes ": " ++ (m.title ++ (codes "</title>" ++ (m.drawn ++ codes "</g>\n")))))
