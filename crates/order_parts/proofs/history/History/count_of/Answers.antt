use Rattle.std.proofs.Common.{◌≡◌, ◌+◌, ◌<◌, ◌∙◌, ◌==◌, Bool, length, take, get_or, count_by, sym, ap, refl, arith, length-take-le, eq-eqb}
use Rattle.std.proofs.lemmas.Bool.{ne_eqb}
use Rattle.std.proofs.lemmas.List.{take_all}
use Rattle.std.proofs.lemmas.List.Sums.{count_by-le-length, count_by_more_yes, count_by_more_no}
use Rattle.order_parts.specs.declared.history.Entry.{Entry}
use Rattle.order_parts.specs.History.{Entries}
use Rattle.order_parts.proofs.Rings.{held_len, entry_at}
use Rattle.order_parts.proofs.history.History.count_of.Goals as goal
use Rattle.order_parts.proofs.history.History.count_of.Goals.{then-entry-queue, else-entry-queue}

pub loop-index-init : goal.loop-index-init
loop-index-init c = refl

pub overflow_add-count : goal.overflow_add-count
overflow_add-count c =
    let few = count_by-le-length (λ (y : Entry). y.queue == c.args.queue) (take c.loop-index.index c.args.self.now.entries) in
    let same : length c.args.self.now.entries ≡ c.self.inside.len = sym (ap (λ (h : Entries). length h.entries) c.self.view_is) ∙ held_len c.self.inside c.self.invariant in
    let long = length-take-le c.loop-index.index c.args.self.now.entries (omega arith) in
    omega (arith, c.loop-index.invariant)

pub loop-index-preserved : goal.loop-index-preserved
loop-index-preserved c =
    let passes : Entry → Bool = λ (y : Entry). y.queue == c.args.queue in
    let xs = c.args.self.now.entries in
    let y = c.index-entry.result.now in
    let same : length xs ≡ c.self.inside.len = sym (ap (λ (h : Entries). length h.entries) c.self.view_is) ∙ held_len c.self.inside c.self.invariant in
    let within : c.loop-index.index < length xs = omega arith in
    let here : get_or xs c.loop-index.index y ≡ y =
    ap (λ (h : Entries). get_or h.entries c.loop-index.index y) (sym c.self.view_is)
    ∙ (entry_at c.self.inside c.self.invariant c.loop-index.index y c.loop-index-test.true ∙ sym c.index-entry.ensures) in
    elim c.if-entry-queue.branch [
      | then-entry-queue w ↦
          w.count-is ∙ (ap (λ n. n + 1) c.loop-index.invariant
          ∙ sym (count_by_more_yes passes xs c.loop-index.index y within (ap passes here ∙ eq-eqb y.queue c.args.queue w.if-entry-queue.true)))
      | else-entry-queue w ↦
          w.count-is ∙ (c.loop-index.invariant
          ∙ sym (count_by_more_no passes xs c.loop-index.index y within (ap passes here ∙ ne_eqb y.queue c.args.queue w.if-entry-queue.false)))
    ]

pub returns : goal.returns
returns c =
    let same : length c.args.self.now.entries ≡ c.self.inside.len = sym (ap (λ (h : Entries). length h.entries) c.self.view_is) ∙ held_len c.self.inside c.self.invariant in
    c.loop-index.invariant ∙ ap (count_by (λ (y : Entry). y.queue == c.args.queue)) (take_all c.loop-index.index c.args.self.now.entries (omega arith))
