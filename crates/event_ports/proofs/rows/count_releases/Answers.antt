-- One more is a RELEASE.
use Rattle.std.proofs.Common.{◌≡◌, ◌∙◌, ap, sym, arith}
use Rattle.evt_types.specs.declared.event.Reply.{Reply}
use Rattle.evt_types.specs.declared.event.Op.TheVariants as ops
use Rattle.event_ports.proofs.Bursts.{read_next}
use Rattle.event_ports.proofs.OwnRows.{all_next}
use Rattle.event_ports.proofs.rows.count_releases.Goals as goal

pub loop-position-preserved : goal.loop-position-preserved
loop-position-preserved c =
    all_next (λ (r : Reply). r.event.op ≡ ops.Release) c.args.replies.now c.loop-position.position c.index-replies-position.result
    (read_next c.args.replies.now c.loop-position.position c.index-replies-position.result (omega (arith, c.loop-position-test.true, c.requires)) c.index-replies-position.is)
    c.loop-position.invariant (ap (λ (r : Reply). r.event.op) c.index-replies-position.is ∙ sym c.op.ensures ∙ c.in-Release.is)
