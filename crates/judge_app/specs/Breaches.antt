-- What is printed of a history.
use Rattle.std.specs.Prelude.{ℕ, ◌+◌, List, [], ◌++◌, length, nat_lt, codes, decimal, Option, Some, None, slice_get, ◌||◌, Bool, if◌then◌else◌}
use Rattle.evt_types.specs.Plan.{Plan, bound_of, depth_of}
use Rattle.evt_types.specs.declared.event.Event.{Event}
use Rattle.history_judge.specs.Undecided.{alike, undelivered}
use Rattle.history_judge.specs.declared.breach.Breach.{Breach}
use Rattle.history_judge.specs.declared.breach.Breach.TheVariants.{Unlinked, Together, Unsent, Early, Overtaken, Reordered, Overfull, Crowded}
use Rattle.history_judge.specs.declared.seen.Deed.{Deed}
use Rattle.history_judge.specs.declared.seen.Deed.TheVariants.{Sent, Got}
use Rattle.history_judge.specs.declared.seen.Seen.{Seen}
use Rattle.history_reading.specs.Texts.{line_text}

-- ---- a breach in words

abbrev pub name_text : Breach → List ℕ
name_text (Unlinked i) = codes "Unlinked"
name_text (Unsent i) = codes "Unsent"
name_text (Early i) = codes "Early"
name_text (Overtaken i j) = codes "Overtaken"
name_text (Reordered i j) = codes "Reordered"
name_text (Overfull i) = codes "Overfull"
name_text (Crowded i) = codes "Crowded"
name_text (Together i j) = codes "Together"

-- the entry with which it shows
abbrev pub place_of : Breach → ℕ
place_of (Unlinked i) = i
place_of (Unsent i) = i
place_of (Early i) = i
place_of (Overtaken i j) = i
place_of (Reordered i j) = i
place_of (Overfull i) = i
place_of (Crowded i) = i
place_of (Together i j) = i

-- in which line it shows, and what it is
abbrev pub place_text : ℕ → Breach → List ℕ
place_text line b = codes "broken at line " ++ (decimal line ++ (codes ": " ++ (name_text b ++ codes ": ")))

abbrev pub event_in : Deed → Event
event_in (Sent r) = r.event
event_in (Got e) = e

-- the event that the port dequeued
abbrev pub got_text : ℕ → Event → List ℕ
got_text port e =
    codes "port " ++ (decimal port ++ (codes " got an event of queue " ++ (decimal e.queue ++ (codes ", flow " ++ (decimal e.flow ++ (codes ", payload "
    ++ (decimal e.payload ++ codes ": ")))))))

-- a port that isn't there holds nothing
abbrev pub depth_at : Plan → ℕ → ℕ
depth_at p l = if nat_lt l (length p.ports) then depth_of p l else 0

abbrev pub depth_text : ℕ → List ℕ
depth_text depth = codes "it held more than its depth of " ++ decimal depth

-- how many events may be inside
abbrev pub bound_text : ℕ → List ℕ
bound_text bound = codes "all ports together held more than the " ++ decimal bound ++ codes " events that may be inside"

-- what is said of an entry, where there is one
abbrev pub of_entry : (Seen → List ℕ) → Option Seen → List ℕ
of_entry f None = []
of_entry f (Some s) = f s

-- the port of the entry at j, of an event that was got before, and why it should have been got later
abbrev pub overtaker_text : List ℕ → ℕ → Seen → List ℕ
overtaker_text why j u = codes "port " ++ decimal u.port ++ codes " had got that of line " ++ decimal (j + 1) ++ why

abbrev pub overtaker_at : List ℕ → List Seen → ℕ → List ℕ
overtaker_at why hs j = of_entry (overtaker_text why j) (slice_get hs j)

-- the port of the entry at j
abbrev pub holder_text : ℕ → Seen → List ℕ
holder_text j u = codes "port " ++ decimal u.port ++ codes " held that of line " ++ decimal (j + 1)

abbrev pub other_text : List Seen → ℕ → List ℕ
other_text hs j = of_entry (holder_text j) (slice_get hs j)

-- why no device can have done it
abbrev pub why_text : Plan → List Seen → Breach → Seen → List ℕ
why_text p hs (Unlinked i) s = codes "it is not linked to that queue"
why_text p hs (Unsent i) s = codes "more such events were dequeued up to here than were enqueued in all"
why_text p hs (Early i) s = codes "no call that enqueued such an event had begun"
why_text p hs (Overtaken i j) s = overtaker_at (codes ", which was enqueued later") hs j
why_text p hs (Reordered i j) s = overtaker_at (codes ", which was forwarded from a later one") hs j
why_text p hs (Overfull i) s = depth_text (depth_at p s.port)
why_text p hs (Crowded i) s = bound_text (bound_of p)
why_text p hs (Together i j) s = other_text hs j

-- what is broken in the line of an entry; lines count from 1
abbrev pub words_text : Plan → List Seen → Breach → Seen → List ℕ
words_text p hs b s = place_text (place_of b + 1) b ++ (got_text s.port (event_in s.deed) ++ (why_text p hs b s ++ codes "\n"))

abbrev pub words_at : Plan → List Seen → Breach → ℕ → List ℕ
words_at p hs b i = of_entry (words_text p hs b) (slice_get hs i)

-- ---- that, and the lines of its entries

-- the line of an entry, as it stands in the history
abbrev pub entry_line : List Seen → ℕ → List ℕ
entry_line hs i = of_entry (λ s. line_text s []) (slice_get hs i)

-- the line of the other entry that a breach needs
abbrev pub other_line : List Seen → Breach → List ℕ
other_line hs (Unlinked i) = []
other_line hs (Unsent i) = []
other_line hs (Early i) = []
other_line hs (Overtaken i j) = entry_line hs j
other_line hs (Reordered i j) = entry_line hs j
other_line hs (Overfull i) = []
other_line hs (Crowded i) = []
other_line hs (Together i j) = entry_line hs j

abbrev pub breach_text : Plan → List Seen → Breach → List ℕ
breach_text p hs b = words_at p hs b (place_of b) ++ (entry_line hs (place_of b) ++ other_line hs b)

-- how many events weren't dequeued, and how many had the value of another
abbrev pub counts_text : ℕ → ℕ → List ℕ
counts_text missing others = codes "undecided: not dequeued " ++ (decimal missing ++ (codes ", with the value of another " ++ (decimal others ++ codes "\n")))

abbrev pub are_some : ℕ → ℕ → Bool
are_some missing others = nat_lt 0 missing || nat_lt 0 others

abbrev pub open_text : ℕ → ℕ → List ℕ
open_text missing others = if are_some missing others then counts_text missing others else []

abbrev pub no_breach_text : List Seen → List ℕ
no_breach_text hs = codes "no breach\n" ++ open_text (undelivered hs) (alike hs)

abbrev pub found_text : Plan → List Seen → Option Breach → List ℕ
found_text p hs None = no_breach_text hs
found_text p hs (Some b) = breach_text p hs b
