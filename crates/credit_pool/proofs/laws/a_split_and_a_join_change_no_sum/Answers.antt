use Rattle.credit_pool.proofs.Changes.{split_seats, split_others, split_sums, join_seats, join_others, join_sums}
use Rattle.credit_pool.proofs.laws.a_split_and_a_join_change_no_sum.Goals as goal

pub returns-clause-split : goal.returns-clause-split
returns-clause-split c = split_seats

pub returns-clause-split_others : goal.returns-clause-split_others
returns-clause-split_others c = split_others

pub returns-clause-split_sums : goal.returns-clause-split_sums
returns-clause-split_sums c = split_sums

pub returns-clause-join : goal.returns-clause-join
returns-clause-join c = join_seats

pub returns-clause-join_others : goal.returns-clause-join_others
returns-clause-join_others c = join_others

pub returns-clause-join_sums : goal.returns-clause-join_sums
returns-clause-join_sums c = join_sums
