-- The trace of the runs.
use Rattle.std.specs.Prelude.{ℕ, ◌≡◌, ◌%◌, List, map}
use Rattle.std.specs.List.{range_with_len}
use Rattle.pipeline_laws.specs.declared.stage.Entry.{Entry}
use Rattle.device_bench.specs.declared.trace.TheConstants.{FLOWS}

-- the flow, the priority and the payload of an entry
abbrev pub parts : Entry → ℕ × ℕ × ℕ
parts t = (t.flow, t.priority, t.payload)

-- and those of the entry of this number
abbrev pub entry_parts : ℕ → ℕ × ℕ × ℕ
entry_parts n = (n % FLOWS, 128, n)

-- the trace of so many entries
abbrev pub IsTrace : ℕ → List Entry → Type 0
IsTrace count trace = map parts trace ≡ map entry_parts (range_with_len 0 count)
