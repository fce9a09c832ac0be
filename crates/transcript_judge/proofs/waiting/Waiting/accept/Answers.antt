use Rattle.std.proofs.Common.{◌||◌, ◌&&◌, not, ap, ◌∙◌, nat_cmp}
use Rattle.std.specs.BTreeSet.{contains}
use Rattle.transcript_judge.proofs.HeldEvents.{held_undone}
use Rattle.transcript_judge.specs.Waiting.{is_key}
use Rattle.transcript_judge.proofs.waiting.Waiting.accept.Goals as goal

pub invariant_of-self-in-Err : goal.invariant_of-self-in-Err
invariant_of-self-in-Err c =
    held_undone c.self.inside.kind c.self.inside.next c.self.inside.events c.put_last.new.events c.self.inside.keys c.add_key.new.keys c.drop_key.new.keys
    c.class_of.result c.self.invariant c.in-Err.ensures.err
    (λ k. c.in_ok-add_key.ensures.ok k ∙ ap (λ o. is_key o k || contains nat_cmp c.self.inside.keys k) c.key_of-key.ensures)
    (λ k. c.drop_key.ensures k ∙ ap (λ o. not (is_key o k) && contains nat_cmp c.add_key.new.keys k) c.key_of-key.ensures)
