-- What is printed of a verdict.
use Rattle.std.specs.Prelude.{ℕ, List, [], ◌++◌, take, codes, decimal, slice_get, Option, Some, None}
use Rattle.evt_types.specs.Plan.{Plan}
use Rattle.evt_types.specs.declared.draft.QueueDraft.{QueueDraft}
use Rattle.evt_types.specs.declared.step.Step.{Step}
use Rattle.play_text.specs.Text.{number_after, step_line}
use Rattle.transcript_judge.specs.declared.verdict.Clause.{Clause}
use Rattle.transcript_judge.specs.declared.verdict.Clause.TheVariants.{Formed, Answers, Extras, Once, Linked, Depth, Places, Limit, Flow, Alone, Order, Origin, Closed, Prompt}
use Rattle.transcript_judge.specs.declared.verdict.Verdict.{Verdict}
use Rattle.transcript_judge.specs.declared.verdict.Verdict.TheVariants.{Lawful, Running, Broken}
use Rattle.judge_app.specs.ReasonTexts.{line_of, place_in, why_text}
use Rattle.judge_app.specs.Reasons.{reason_of}
use Rattle.judge_app.specs.declared.judged.Finding.{Finding}
use Rattle.judge_app.specs.declared.judged.Finding.TheVariants.{Log, History}
use Rattle.judge_app.specs.declared.reason.Reason.{Reason}

-- the clause's name, and what it says
abbrev pub clause_text : Clause → List ℕ
clause_text Formed = codes "Formed: its queues and lanes are there, and its operation fits"
clause_text Answers = codes "Answers: a lane answers no more events than it was given"
clause_text Extras = codes "Extras: up to 4 are added beside an event, which is not answered yet"
clause_text Once = codes "Once: an event is given after it was accepted, and once"
clause_text Linked = codes "Linked: a lane is given events of the queues and flows that it serves"
clause_text Depth = codes "Depth: a lane has no more unanswered events than its depth"
clause_text Places = codes "Places: an ordered queue has no more events out than its order"
clause_text Limit = codes "Limit: no more events are inside than there is room for"
clause_text Flow = codes "Flow: a flow's events of one level are given in accepted order"
clause_text Alone = codes "Alone: an atomic flow's unanswered events are on one lane"
clause_text Order = codes "Order: forwards are accepted in the order of the events they answer"
clause_text Origin = codes "Origin: what is accepted from an event is what it was forwarded as"
clause_text Closed = codes "Closed: nothing new is accepted once shut, nothing turned away before"
clause_text Prompt = codes "Prompt: a forward that waits for nothing is accepted before all else"

-- in which line the step is that first breaks a clause, and which clause
abbrev pub place_text : ℕ → Clause → List ℕ
place_text line c = codes "broken at line " ++ decimal line ++ codes ": " ++ clause_text c ++ codes "\n"

-- the line of a step, as the log has it behind those past
abbrev pub line_after : List QueueDraft → List Step → Step → List ℕ
line_after qs past s = step_line qs (number_after past s) s

-- the line of the step at k, where there is one
abbrev pub line_if : List QueueDraft → List Step → Option Step → List ℕ
line_if qs before None = []
line_if qs before (Some s) = line_after qs before s

abbrev pub line_at : List QueueDraft → List Step → ℕ → List ℕ
line_at qs T k = line_if qs (take k T) (slice_get T k)

abbrev pub other_line : List QueueDraft → List Step → Option ℕ → List ℕ
other_line qs T None = []
other_line qs T (Some k) = line_at qs T k

-- what shows that the step at k, behind those past, breaks its clause; its own line; and that of the other step that is needed
abbrev pub shown_text : List QueueDraft → ℕ → List Step → ℕ → Step → Reason → List ℕ
shown_text qs n past k s r = why_text n k r ++ (line_after qs past s ++ other_line qs past (place_in r))

abbrev pub shown_if : List QueueDraft → ℕ → List Step → ℕ → Step → Option Reason → List ℕ
shown_if qs n past k s None = line_after qs past s
shown_if qs n past k s (Some r) = shown_text qs n past k s r

-- in which line the step is and which clause it breaks, and what shows it
abbrev pub broken_text : Plan → ℕ → List Step → ℕ → Clause → Step → List ℕ
broken_text p n past k c s = place_text (line_of n k) c ++ shown_if p.queues n past k s (reason_of p past c s)

-- of a log whose line `log` has the number n
abbrev pub verdict_text : Plan → List Step → ℕ → Verdict → List ℕ
verdict_text p T n Lawful = codes "lawful\n"
verdict_text p T n Running = codes "running\n"
verdict_text p T n (Broken k c s) = broken_text p n (take k T) k c s

-- the status that the program ends with
abbrev pub verdict_status : Verdict → ℕ
verdict_status Lawful = 0
verdict_status Running = 0
verdict_status (Broken k c s) = 7

abbrev pub finding_status : Finding → ℕ
finding_status (Log v) = verdict_status v
finding_status (History None) = 0
finding_status (History (Some b)) = 7
