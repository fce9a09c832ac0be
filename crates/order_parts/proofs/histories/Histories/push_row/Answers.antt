use Rattle.std.proofs.Common.{◌≡◌, ◌<◌, ◌≤◌, ◌+◌, ◌≢◌, List, [], length, subst, sym, take, ◌∙◌, arith}
use Rattle.std.proofs.lemmas.Bool.{eqb-false}
use Rattle.std.proofs.lemmas.List.{get_or-set_same, get_or_default, length-take-le}
use Rattle.order_parts.specs.HandedRow.{IsRefused, OfFlows}
use Rattle.order_parts.specs.Histories.{lane_in}
use Rattle.order_parts.specs.History.{Entries, entries_of}
use Rattle.order_parts.specs.Pins.{Pin}
use Rattle.order_parts.proofs.HandedOn.{handed_length}
use Rattle.order_parts.proofs.Roomy.{roomy_set}
use Rattle.order_parts.proofs.histories.Histories.push_row.Goals as goal

pub invariant_of-self-else-is_full : goal.invariant_of-self-else-is_full
invariant_of-self-else-is_full g c =
    let ls : List Entries = c.self.inside.lanes.items in
    let here : c.args.lane < length ls = subst (λ (xs : List Entries). c.args.lane < length xs) (sym c.self.view_is) c.requires.lane in
    let old : Entries = c.index_mut-history.result.now in
    let new : Entries = c.hand_each-count.new.history in
    let was : lane_in ls c.args.lane ≡ old = get_or_default ls c.args.lane (entries_of [] 0) old here ∙ sym c.index_mut-history.ensures.value in
    let fits : length old.entries + length c.args.row.now ≤ old.capacity =
    subst (λ (l : Entries). length l.entries + length c.args.row.now ≤ l.capacity) was (subst (λ (xs : List Entries). length (lane_in xs c.args.lane).entries + length c.args.row.now ≤ (lane_in xs c.args.lane).capacity) (sym c.self.view_is) c.requires.room) in
    let long : length new.entries ≡ length old.entries + length (take c.hand_each-count.result c.args.row.now) =
    handed_length (OfFlows (goal.F-post g c.args.slot_of)) c.args.lane c.args.queue c.index_mut.result.now old.entries (take c.hand_each-count.result c.args.row.now) c.hand_each-count.new.pins new.entries c.hand_each-count.ensures.handed in
    let few = length-take-le c.hand_each-count.result c.args.row.now c.hand_each-count.ensures.few in
    let count = c.hand_each-count.ensures.few in
    let capacity = c.hand_each-count.ensures.capacity in
    let part : length new.entries ≢ new.capacity = eqb-false _ _ (sym c.is_full.ensures ∙ c.if-is_full.false) in
    let left : length new.entries < new.capacity = omega (arith, fits, long, few, count, capacity, part) in
    let room : length old.entries < old.capacity = omega (arith, left, long, capacity) in
    roomy_set ls c.args.lane new c.self.inside.roomy c.self.inside.roomy here (λ k apart. (λ has. has, λ has. has))
    (λ low. (λ has. left, λ more. (c.self.invariant c.args.lane here low).1 (subst (λ (l : Entries). length l.entries < l.capacity) (sym was) room)))
    c.self.invariant

pub returns-clause-last : goal.returns-clause-last
returns-clause-last g c less =
    let there : c.args.queue < length c.pins.inside.queues.items = subst (λ (ps : List (List Pin)). c.args.queue < length ps) (sym c.pins.view_is) c.requires.queue in
    subst (λ ps. IsRefused (OfFlows (goal.F-post g c.args.slot_of)) c.args.lane ps c.args.row.now c.hand_each-count.result)
    (sym (get_or-set_same c.pins.inside.queues.items c.args.queue c.hand_each-count.new.pins [] there)) (c.hand_each-count.ensures.last less)
