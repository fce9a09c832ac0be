-- What a hub says of a device that was stopped, in numbers.
use Rattle.std.specs.Prelude.{ℕ, ℤ, pos, ◌≡◌, ◌<◌, ◌≤◌, ◌-◌, ◌^◌, List, [], ◌∷◌, ◌++◌, length, min, drop, sum, Option}
use Rattle.std.specs.Prelude.Option.{Some, None}
use Rattle.event_answers.specs.declared.report.Report.{Report}
use Rattle.event_handles.specs.Numbers.{invalid, no_device}
use Rattle.event_handles.specs.declared.hub.Hub.{Hub}
use Rattle.event_handles.specs.declared.stopped.Stopped.{Stopped}

-- ---- an array for numbers

-- the numbers are written to its front, or nothing is where it is shorter
pub record Fills (numbers before after : List ℕ) (answer : ℤ) : Type 0 where
  pub long : length numbers ≤ length before → (answer ≡ pos 0) × (after ≡ numbers ++ drop (length numbers) before)
  pub short : length before < length numbers → (answer ≡ invalid) × (after ≡ before)

pub record LeavesEmpty (why : ℤ) (before after : List ℕ) (answer : ℤ) : Type 0 where
  pub answered : answer ≡ why
  pub same : after ≡ before

-- ---- the report

-- the credits that are free, the scheduler's and the ports', which are at most the greatest number, and how many events wait, are kept,
-- aren't delivered, are held, weren't taken and were turned away
abbrev pub report_numbers : {X : Type 0} → Report X → List ℕ
report_numbers x =
    x.free
    ∷ x.own
    ∷ min (sum x.pockets.items) (2 ^ 64 - 1)
    ∷ length x.waiting.items
    ∷ length x.kept.items
    ∷ length x.undelivered.items
    ∷ length x.held.items
    ∷ length x.untaken.items
    ∷ length x.turned.items
    ∷ []

abbrev pub ReportedIn : Option Stopped → List ℕ → List ℕ → ℤ → Type 0
ReportedIn None before after answer = LeavesEmpty no_device before after answer
ReportedIn (Some s) before after answer = Fills (report_numbers s.report) before after answer

abbrev pub IsReported : Hub → List ℕ → List ℕ → ℤ → Type 0
IsReported hub before after answer = ReportedIn hub.stopped before after answer
