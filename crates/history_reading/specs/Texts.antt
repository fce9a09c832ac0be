-- A history as text: a line for each entry.
use Rattle.std.specs.Prelude.{ℕ, ◌≡◌, ◌<◌, ◌^◌, Bool, false, List, [], ◌∷◌, ◌++◌, codes, decimal}
use Rattle.std.specs.Char.{is_ascii_digit}
use Rattle.evt_types.specs.Word.{Fits}
use Rattle.evt_types.specs.declared.event.Event.{Event}
use Rattle.evt_types.specs.declared.event.Op.{Op}
use Rattle.evt_types.specs.declared.event.Op.TheVariants as ops
use Rattle.history_judge.specs.declared.seen.Deed.{Deed}
use Rattle.history_judge.specs.declared.seen.Deed.TheVariants.{Sent, Got}
use Rattle.history_judge.specs.declared.seen.Seen.{Seen}

-- ---- texts, each with what stands behind it

abbrev pub op_text : Op → List ℕ
op_text ops.New = codes "new"
op_text ops.Forward = codes "forward"
op_text ops.Release = codes "release"
op_text ops.ForwardMore = codes "forward-more"

-- the fields of an event behind its operation, and the line's end
abbrev pub event_text : Event → List ℕ → List ℕ
event_text e more =
    codes "\",\"queue\":" ++ (decimal e.queue ++ (codes ",\"flow\":" ++ (decimal e.flow ++ (codes ",\"sub_type\":" ++ (decimal e.sub_type
    ++ (codes ",\"event_type\":" ++ (decimal e.event_type ++ (codes ",\"priority\":" ++ (decimal e.priority ++ (codes ",\"payload\":" ++ (decimal e.payload
    ++ (codes "}\n" ++ more))))))))))))

abbrev pub deed_text : Deed → List ℕ → List ℕ
deed_text (Sent r) more = codes ",\"sent\":\"" ++ (op_text r.event.op ++ event_text r.event more)
deed_text (Got e) more = codes ",\"got\":\"" ++ (op_text e.op ++ event_text e more)

-- an entry's line
abbrev pub line_text : Seen → List ℕ → List ℕ
line_text s more =
    codes "{\"port\":" ++ (decimal s.port ++ (codes ",\"began\":" ++ (decimal s.began ++ (codes ",\"ended\":" ++ (decimal s.ended ++ deed_text s.deed more)))))

-- the lines of a history's entries
abbrev pub lines_text : List Seen → List ℕ → List ℕ
lines_text [] more = more
lines_text (s ∷ hs) more = line_text s (lines_text hs more)

abbrev pub history_text : List Seen → List ℕ
history_text hs = lines_text hs []

-- ---- entries that a text can say

-- each number is within its width, and impl_opaque, which no text has, is 0
pub record IsEvent (e : Event) : Type 0 where
  pub fits : Fits e
  pub payload : e.payload < 2 ^ 64
  pub plain : e.impl_opaque ≡ 0

abbrev pub IsDeed : Deed → Type 0
IsDeed (Sent r) = IsEvent r.event
IsDeed (Got e) = IsEvent e

pub record IsEntry (s : Seen) : Type 0 where
  pub port : s.port < 2 ^ 64
  pub began : s.began < 2 ^ 64
  pub ended : s.ended < 2 ^ 64
  pub deed : IsDeed s.deed

-- ---- numbers in a text

abbrev pub begins_with_digit : List ℕ → Bool
begins_with_digit [] = false
begins_with_digit (c ∷ cs) = is_ascii_digit c

-- no digit stands there: where a number ends
abbrev pub IsBehind : List ℕ → Type 0
IsBehind more = begins_with_digit more ≡ false
