use Rattle.world_laws.proofs.Accounts.{account_settles}
use Rattle.world_laws.proofs.laws.account_at_stop.Goals as goal

pub returns : goal.returns
returns c = account_settles
