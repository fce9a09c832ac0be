use Rattle.std.proofs.Common.{◌∷◌, ◌++◌, ◌∙◌, [], ap, arith, length, map, sym, take}
use Rattle.std.proofs.lemmas.List.{length-map, length-take-le, map_push}
use Rattle.order_parts.specs.declared.history.Entry.{Entry}
use Rattle.order_parts.proofs.Unpinning.{take_at}
use Rattle.order_parts.proofs.history.History.numbers.Goals as goal

pub push-requires : goal.push-requires
push-requires c =
    let ys = c.args.self.now.entries in
    omega (arith, ap length c.loop-index.invariant, length-map (take c.loop-index.index ys) (λ (y : Entry). y.number), length-take-le c.loop-index.index ys (omega (arith, c.loop-index-test.true, c.requires.there)), c.requires.few, c.loop-index-test.true)

pub loop-index-preserved : goal.loop-index-preserved
loop-index-preserved c =
    let ys = c.args.self.now.entries in
    let y = c.entry.result.now in
    c.push.ensures.items ∙ (ap (λ ns. ns ++ y.number ∷ []) c.loop-index.invariant
    ∙ sym (ap (map (λ (z : Entry). z.number)) (take_at ys c.loop-index.index y c.entry.ensures) ∙ map_push (λ (z : Entry). z.number) (take c.loop-index.index ys) y))
