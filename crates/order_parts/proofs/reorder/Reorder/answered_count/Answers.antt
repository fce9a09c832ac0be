use Rattle.std.proofs.Common.{◌≡◌, ◌+◌, ◌≤◌, suc, ap, arith, drop, length, sym, ◌∙◌}
use Rattle.std.proofs.lemmas.List.{at_drop_all}
use Rattle.order_parts.specs.Released.{answered_front}
use Rattle.order_parts.specs.Reorder.{Reordering}
use Rattle.order_parts.proofs.Fields.{rows}
use Rattle.order_parts.proofs.Places.{places_length}
use Rattle.order_parts.proofs.Leaving.{front_end, front_more}
use Rattle.order_parts.proofs.reorder.Reorder.answered_count.Goals as goal

pub returns-then-not-is_answered-clause-value : goal.returns-then-not-is_answered-clause-value
returns-then-not-is_answered-clause-value c =
    omega (arith, c.loop-index.invariant, front_end c.loop-index.index c.args.self.now.places (sym c.is_answered.ensures ∙ c.if-not-is_answered.true))

pub loop-index-preserved : goal.loop-index-preserved
loop-index-preserved c =
    let next : c.loop-index.index + 1 ≡ suc c.loop-index.index = omega arith in
    omega (
      arith,
      c.loop-index.invariant,
      front_more c.loop-index.index c.args.self.now.places (sym c.is_answered.ensures ∙ c.if-not-is_answered.false),
      ap (λ n. length (answered_front (drop n c.args.self.now.places))) next,
    )

pub returns-clause-value : goal.returns-clause-value
returns-clause-value c =
    let count = places_length (rows c.self.inside) c.self.inside.ring.items in
    let there = ap (λ (r : Reordering). length r.places) c.self.view_is in
    let past : length c.args.self.now.places ≤ c.loop-index.index = omega (arith, count, there, c.len-most.ensures.len, c.loop-index-test.false) in
    omega (
      arith,
      c.loop-index.invariant,
      c.loop-index.auto.index-end,
      c.loop-index-test.false,
      at_drop_all (λ xs. length (answered_front xs)) c.args.self.now.places c.loop-index.index past,
    )
