use Rattle.credit_pool.proofs.Changes.{step_own, step_others, step_free, step_drawn, step_returned, step_parts, step_bit, step_stays}
use Rattle.credit_pool.proofs.laws.a_step_changes_one_account.Goals as goal

pub returns-clause-own : goal.returns-clause-own
returns-clause-own c = step_own

pub returns-clause-others : goal.returns-clause-others
returns-clause-others c = step_others

pub returns-clause-free : goal.returns-clause-free
returns-clause-free c = step_free

pub returns-clause-drawn : goal.returns-clause-drawn
returns-clause-drawn c = step_drawn

pub returns-clause-returned : goal.returns-clause-returned
returns-clause-returned c = step_returned

pub returns-clause-parts : goal.returns-clause-parts
returns-clause-parts c = step_parts

pub returns-clause-bit : goal.returns-clause-bit
returns-clause-bit c = step_bit

pub returns-clause-stays : goal.returns-clause-stays
returns-clause-stays c = step_stays
