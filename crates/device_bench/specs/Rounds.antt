-- What calls do to a bench.
use Rattle.std.specs.Prelude.{◌≡◌, ℕ, ◌+◌, ◌*◌, if◌then◌else◌}
use Rattle.device_bench.specs.declared.bench.Bench.{Bench}
use Rattle.device_bench.specs.declared.case.Case.{Case}

-- a bench of this case and burst, by which nothing went
pub record IsFresh {X : Type 0} (b : Bench X) (case : Case) (burst : ℕ) : Type 0 where
  pub case_is : b.case ≡ case
  pub burst_is : b.burst.length ≡ burst
  pub entered : b.counts.entered ≡ 0
  pub given : b.counts.given ≡ 0
  pub released : b.counts.released ≡ 0

-- so many more entered, were given and were released; the case and the burst stay
pub record Moves {X : Type 0} (b c : Bench X) (entered given released : ℕ) : Type 0 where
  pub case_is : c.case ≡ b.case
  pub burst_is : c.burst ≡ b.burst
  pub entered_are : c.counts.entered ≡ b.counts.entered + entered
  pub given_are : c.counts.given ≡ b.counts.given + given
  pub released_are : c.counts.released ≡ b.counts.released + released

-- how often an event of the case is given to the worker
abbrev pub gifts_of : Case → ℕ
gifts_of case = if case.forwards then 2 else 1

-- how many events a round gives to the worker
abbrev pub through : {X : Type 0} → Bench X → ℕ
through b = gifts_of b.case * b.burst.length
