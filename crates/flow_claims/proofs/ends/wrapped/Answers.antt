-- One end more is in its slot, and after want of memory all are back.
use Rattle.std.proofs.Common.{rules, ◌≡◌, ◌∙◌, ◌++◌, ◌∷◌, [], Some, map, reverse, sym, ap, option_to_list}
use Rattle.flow_claims.proofs.Calls.{wrap_one, map_some}
use Rattle.flow_claims.proofs.ends.wrapped.Goals as goal

pub loop-far-preserved : goal.loop-far-preserved
loop-far-preserved c =
    let was = c.loop-far.invariant in
    let popped : c.loop-far.ends.items ≡ c.pop.new.self.items ++ c.in-Some.far ∷ [] = c.pop.ensures.items ∙ ap (λ o. c.pop.new.self.items ++ option_to_list o) c.in-Some.is in
    let boxed : c.in-Ok.far ≡ c.in-Some.far = search rules in
    let pushed : c.push_reserved.new.self.items ≡ c.loop-far.slots.items ++ Some c.in-Some.far ∷ [] = c.push_reserved.ensures.items ∙ ap (λ f. c.loop-far.slots.items ++ Some f ∷ []) boxed in
    let one = wrap_one c.loop-far.slots.items c.push_reserved.new.self.items c.pop.new.self.items c.loop-far.ends.items was.0.0 c.in-Some.far was.0.1 popped pushed in
    (one.0, was.1 ∙ one.1, was.2 ∙ one.2, c.push_reserved.ensures.capacity ∙ was.3, c.pop.ensures.capacity ∙ was.4)

pub returns-in-Err-clause-back : goal.returns-in-Err-clause-back
returns-in-Err-clause-back c =
    let was = c.loop-far.invariant in
    let popped : c.loop-far.ends.items ≡ c.pop.new.self.items ++ c.in-Some.far ∷ [] = c.pop.ensures.items ∙ ap (λ o. c.pop.new.self.items ++ option_to_list o) c.in-Some.is in
    let same : c.in-Err.far ≡ c.in-Some.far = search rules in
    let back : c.push_reserved-in-Err.new.self.items ≡ c.loop-far.ends.items = c.push_reserved-in-Err.ensures.items ∙ ap (λ f. c.pop.new.self.items ++ f ∷ []) same ∙ sym popped in
    map_some c.put_back.result.items c.args.ends.items (c.put_back.ensures ∙ ap (λ l. map Some l ++ reverse c.loop-far.slots.items) back ∙ sym was.1)
