use Rattle.std.proofs.Common.{◌≡◌, true}
use Rattle.pipeline_laws.proofs.Pasts.{same_forwarded}
use Rattle.pipeline_laws.proofs.past.is_same.Goals as goal

pub returns-in-Forwarded-second : goal.returns-in-Forwarded-second
returns-in-Forwarded-second c =
    same_forwarded c.in-Forwarded.event c.in-Forwarded-second.other c.args.first.now c.args.second.now (c.is_same_event.result ≡ true) c.in-Forwarded.is c.in-Forwarded-second.is c.is_same_event.ensures
