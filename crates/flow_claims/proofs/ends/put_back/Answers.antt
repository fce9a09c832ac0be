-- One end more is out of its slot.
use Rattle.std.proofs.Common.{◌≡◌, ◌∙◌, ◌++◌, ◌∷◌, [], sym, ap, option_to_list}
use Rattle.flow_claims.proofs.Calls.{unpop, unwrap_one}
use Rattle.flow_claims.proofs.ends.put_back.Goals as goal

pub loop-slot-preserved-in-Some-slot : goal.loop-slot-preserved-in-Some-slot
loop-slot-preserved-in-Some-slot c =
    let was = c.loop-slot.invariant in
    let popped : c.loop-slot.slots.items ≡ c.pop.new.self.items ++ c.in-Some.slot ∷ [] = c.pop.ensures.items ∙ ap (λ o. c.pop.new.self.items ++ option_to_list o) c.in-Some.is in
    let pushed : c.push_reserved.new.self.items ≡ c.loop-slot.ends.items ++ c.in-Some-slot.far ∷ [] = c.push_reserved.ensures.items ∙ ap (λ f. c.loop-slot.ends.items ++ f ∷ []) c.into_far.ensures in
    let one = unwrap_one c.loop-slot.slots.items c.pop.new.self.items c.in-Some.slot was.0.0 c.loop-slot.ends.items c.push_reserved.new.self.items c.in-Some-slot.far
    was.0.1 popped c.in-Some-slot.is pushed in
    (one.0, one.1 ∙ was.1, one.2 ∙ was.2, c.push_reserved.ensures.capacity ∙ was.3)

pub loop-slot-preserved : goal.loop-slot-preserved
loop-slot-preserved c =
    let was = c.loop-slot.invariant in
    let popped : c.loop-slot.slots.items ≡ c.pop.new.self.items ++ c.in-Some.slot ∷ [] = c.pop.ensures.items ∙ ap (λ o. c.pop.new.self.items ++ option_to_list o) c.in-Some.is in
    let there = unpop c.pop.new.self.items c.in-Some.slot was.0.0 (sym popped ∙ was.0.1) in
    absurd (c.in_default-slot.not-Some there.2.0 there.2.1)
