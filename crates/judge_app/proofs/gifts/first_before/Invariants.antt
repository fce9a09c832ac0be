use Rattle.std.proofs.Common.{◌≡◌, drop}
use Rattle.std.specs.Prelude.{filter, not}
use Rattle.std.specs.BTreeSet.{contains}
use Rattle.std.specs.List.{find}
use Rattle.std.specs.Ordering.{nat_cmp}
use Rattle.evt_types.specs.declared.event.Numbered.{Numbered}
use Rattle.transcripts.specs.Transcript.{numbered}
use Rattle.judge_app.specs.Gifts.{goes_before}
use Rattle.judge_app.proofs.gifts.first_before.Given as goal

abbrev pub invariant-loop-at : goal.invariant-loop-at
invariant-loop-at l =
    find (goes_before l.shape l.queue l.number l.event) (filter (λ (w : Numbered). not (contains nat_cmp l.given w.number)) (numbered l.at (drop l.at l.accepted)))
    ≡ find (goes_before l.shape l.queue l.number l.event) (filter (λ (w : Numbered). not (contains nat_cmp l.given w.number)) (numbered 0 l.accepted))
