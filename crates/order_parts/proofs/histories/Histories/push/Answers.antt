use Rattle.std.proofs.Common.{◌≡◌, ◌<◌, List, length, eqb-true, subst, sym, ◌∙◌, arith}
use Rattle.order_parts.specs.History.{Entries}
use Rattle.order_parts.proofs.Roomy.{roomy_set}
use Rattle.order_parts.proofs.histories.Histories.push.Goals as goal

pub invariant_of-self : goal.invariant_of-self
invariant_of-self c =
    let ls : List Entries = c.self.inside.lanes.items in
    let here : c.args.lane < length ls = subst (λ (xs : List Entries). c.args.lane < length xs) (sym c.self.view_is) c.requires.there in
    let full : length c.push.new.self.entries ≡ c.push.new.self.capacity = eqb-true _ _ (sym c.is_full.ensures ∙ c.if-is_full.true) in
    roomy_set ls c.args.lane c.push.new.self c.self.inside.roomy c.note_full.new.roomy here c.note_full.ensures.others
    (λ few. (λ has. absurd (c.note_full.ensures.full few has), λ room. absurd (omega (arith, full, room)))) c.self.invariant
