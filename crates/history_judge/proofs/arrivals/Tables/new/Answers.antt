use Rattle.std.proofs.Common.{subst}
use Rattle.history_judge.specs.Entries.{IsUnknown}
use Rattle.history_judge.proofs.arrivals.Tables.new.Goals as goal

pub all_answers-requires : goal.all_answers-requires
all_answers-requires c = λ i bad. c.requires.known i (subst (λ n. IsUnknown n c.args.history.now i) c.port_count.ensures bad)
