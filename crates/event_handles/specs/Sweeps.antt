-- What a hub counts of its device's sweeps (own; event_sw counts its sweeps, and those that did nothing).
use Rattle.std.specs.Prelude.{ℕ, zero, suc, ◌≡◌, ◌+◌, ◌-◌, ◌%◌, ◌^◌, ◌<◌, ◌==◌, false, not, List, length, replicate, slice_index_or, if◌then◌else◌}
use Rattle.event_answers.specs.declared.answer.Swept.{Swept}
use Rattle.evt_types.specs.declared.shape.TheConstants.{MAX_PORTS}
use Rattle.evt_types.specs.declared.step.Step.{Step}
use Rattle.transcripts.specs.Transcript.{out}
use Rattle.event_device.specs.Parts.{Parts}
use Rattle.event_handles.specs.declared.sweep_counts.SweepCounts.{SweepCounts}

abbrev pub no_sweeps : SweepCounts
no_sweeps =
    record { sweeps = 0; taken = 0; given = 0; no_take = 0; no_give = 0; gave = false; sent = replicate MAX_PORTS 0; before = replicate MAX_PORTS 0 }

-- a count after so many more
abbrev pub plus : ℕ → ℕ → ℕ
plus count more = (count + more) % 2 ^ 64

-- a count of sweeps that did nothing of a kind, after one that did so much of it
abbrev pub plus_none : ℕ → ℕ → ℕ
plus_none count did = if did == 0 then plus count 1 else count

-- after a sweep more, with what is noted of each port's lane then
abbrev pub after_sweep : Swept → List ℕ → List ℕ → SweepCounts → SweepCounts
after_sweep n sent before c =
    record {
      sweeps = plus c.sweeps 1;
      taken = plus c.taken n.taken;
      given = plus c.given n.given;
      no_take = plus_none c.no_take n.taken;
      no_give = plus_none c.no_give n.given;
      gave = not (n.given == 0);
      sent = sent;
      before = before;
    }

-- what the last sweep gave to a port's lane: where it gave nothing at all, `before` is of an earlier one
abbrev pub given_last : SweepCounts → ℕ → ℕ
given_last c l = if c.gave then slice_index_or c.sent l 0 - slice_index_or c.before l 0 else 0

-- by the log before that sweep and the log after it, this is what it gave to each of the first lanes
abbrev pub AreLast : List Step → List Step → ℕ → SweepCounts → Type 0
AreLast T U lanes c = (l : ℕ) → l < lanes → given_last c l ≡ length (out U l) - length (out T l)

-- so many events were given to each of the first lanes
abbrev pub AreSent : List Step → ℕ → List ℕ → Type 0
AreSent T lanes sent = (l : ℕ) → l < lanes → slice_index_or sent l 0 ≡ length (out T l)

-- to the lane of each of the device's ports
abbrev pub AreSentBy : Parts → List ℕ → Type 0
AreSentBy r sent = AreSent r.recorded.log (length r.recorded.sight.core.shape.ports) sent

-- what was noted of each of the first lanes is kept
abbrev pub AreKept : ℕ → List ℕ → List ℕ → Type 0
AreKept lanes sent before = (l : ℕ) → l < lanes → slice_index_or before l 0 ≡ slice_index_or sent l 0

-- what is noted after a sweep that gave so much: where it gave nothing, what each lane was given is as it was
abbrev pub AreNoted : ℕ → Parts → SweepCounts → SweepCounts → Type 0
AreNoted zero q c d = d.sent ≡ c.sent
AreNoted (suc given) q c d = AreSentBy q d.sent × AreKept (length q.recorded.sight.core.shape.ports) c.sent d.before
