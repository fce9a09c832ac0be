use Rattle.evt_types.specs.Plan.{plan_of}
use Rattle.play_documents.proofs.Plays.{checked-Ok, shape-Fails}
use Rattle.play_documents.proofs.document.checked.Goals as goal

pub returns-in-Ok : goal.returns-in-Ok
returns-in-Ok c = checked-Ok (plan_of c.args.draft.now) _ c.in-Ok.ensures.built c.in-Ok.ensures.sound

pub returns-in-Err : goal.returns-in-Err
returns-in-Err c = rw c.shape_fault.ensures (shape-Fails c.in-Err.fault (plan_of c.args.draft.now) (c.in-Err.ensures.accepted, c.in-Err.ensures.refused))
