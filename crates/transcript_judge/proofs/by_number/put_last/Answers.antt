use Rattle.std.proofs.Common.{[], ◌∷◌, ◌++◌, map, ap, ◌∙◌}
use Rattle.evt_types.specs.declared.event.Event.{Event}
use Rattle.transcripts.specs.Standing.{kept_under}
use Rattle.transcript_judge.proofs.Trees.{listed_more}
use Rattle.transcript_judge.specs.Waiting.{listed}
use Rattle.transcript_judge.proofs.by_number.put_last.Goals as goal

pub returns-clause-ok : goal.returns-clause-ok
returns-clause-ok c =
    ap (map kept_under) c.in_ok-insert.ensures.entries
    ∙ (listed_more c.args.events.now.entries c.args.number c.of.result c.requires
    ∙ ap (λ (e : Event). listed c.args.events.now ++ kept_under (c.args.number, e) ∷ []) c.of.ensures)
