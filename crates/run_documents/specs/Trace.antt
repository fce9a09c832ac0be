-- What a trace says: its events, or its first bad line.
use Rattle.std.specs.Prelude.{◌≡◌, ℕ, ◌-◌, ◌^◌, Bool, true, false, nat_lt, ◌==◌, List, [], ◌∷◌, Option, Some, None, Result}
use Rattle.std.proofs.Common.{refl}
use Rattle.std.proofs.lemmas.Bool.{ltb-true}
use Rattle.std.specs.List.{slice_split}
use Rattle.pipeline_laws.specs.declared.stage.Entry.{Entry}
use Rattle.play_documents.specs.Lines.{lines_of}
use Rattle.play_documents.specs.Numbers.{flows, most_byte}
use Rattle.play_documents.specs.Script.{◌>>=◌}
use Rattle.play_documents.specs.Words.{number}
use Rattle.play_documents.specs.declared.fault.DocFault.{DocFault}
use Rattle.play_documents.specs.declared.fault.DocFault.TheVariants.{BadTrace}

-- an event of this flow, where such a flow may be
abbrev pub entry_where : (flow priority payload : ℕ) (fits : Bool) → nat_lt flow flows ≡ fits → Option Entry
entry_where flow priority payload true e = Some (record { flow = flow; priority = priority; payload = payload; flow_fits = ltb-true flow flows e })
entry_where flow priority payload false e = None

abbrev pub entry_of : ℕ → ℕ → ℕ → Option Entry
entry_of flow priority payload = entry_where flow priority payload (nat_lt flow flows) refl

-- `FLOW PRIO PAYLOAD`
unfoldable pub entry_by : List ℕ → List ℕ → List ℕ → Option Entry
entry_by f p x = do
  flow ← number (flows - 1) f
  priority ← number most_byte p
  payload ← number (2 ^ 64 - 1) x
  entry_of flow priority payload

-- the event of a line's words
abbrev pub entry_in : List (List ℕ) → Option Entry
entry_in [] = None
entry_in (f ∷ []) = None
entry_in (f ∷ p ∷ []) = None
entry_in (f ∷ p ∷ x ∷ []) = entry_by f p x
entry_in (f ∷ p ∷ x ∷ y ∷ more) = None

-- the event of a line: its words stand one space apart
unfoldable pub line_entry : List ℕ → Option Entry
line_entry line = entry_in (slice_split (λ b. b == 32) line)

-- the events of a trace
abbrev pub trace_of : List ℕ → Result (List Entry) DocFault
trace_of text = lines_of line_entry (λ n. BadTrace n) text
