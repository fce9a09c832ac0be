-- What a command line asks for, and the statuses of one that isn't a choice.
use Rattle.std.specs.Prelude.{◌≡◌, ◌≤◌, ℕ, ◌⊎◌}
use Rattle.play_documents.specs.Numbers.{fewest_workers, most_workers}
use Rattle.command_line.specs.declared.options.Choice.{Choice}
use Rattle.command_line.specs.declared.options.Choice.TheVariants.{Play, Run, Document, Drawing, Judge, Example}
use Rattle.command_line.specs.declared.options.Task.{Task}
use Rattle.command_line.specs.declared.options.Task.TheVariants as tasks

-- the statuses after help, after words that are refused, and where memory ran out
abbrev pub helped : ℕ
helped = 0

abbrev pub refused : ℕ
refused = 2

abbrev pub no_memory : ℕ
no_memory = 5

-- help, words that are refused, or want of memory
abbrev pub IsStatus : ℕ → Type 0
IsStatus s = (s ≡ helped) ⊎ (s ≡ refused) ⊎ (s ≡ no_memory)

-- a run, and the check of a document for one, has as many workers as a run may have
abbrev pub AreFew : ℕ → Type 0
AreFew n = (fewest_workers ≤ n) × (n ≤ most_workers)

abbrev pub HasFew : Task → Type 0
HasFew (tasks.Play json) = Unit {0}
HasFew tasks.Timeline = Unit {0}
HasFew (tasks.Run n quiet stats json) = AreFew n
HasFew (tasks.Check n) = AreFew n

abbrev pub HasFewWorkers : Choice → Type 0
HasFewWorkers Play = Unit {0}
HasFewWorkers (Run n) = AreFew n
HasFewWorkers (Document task file explain) = HasFew task
HasFewWorkers (Drawing document log explain) = Unit {0}
HasFewWorkers (Judge document log) = Unit {0}
HasFewWorkers (Example name) = Unit {0}
