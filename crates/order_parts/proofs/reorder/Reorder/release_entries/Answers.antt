use Rattle.std.proofs.Common.{[], ◌∷◌, All, ap, subst, sym, take, ◌∙◌}
use Rattle.std.proofs.lemmas.List.Elements.{All-push}
use Rattle.std.proofs.lemmas.List.Sums.{fold-append}
use Rattle.order_parts.specs.Released.{released_all, released_one}
use Rattle.order_parts.specs.Unpinned.{IsOfQueue}
use Rattle.order_parts.proofs.Unpinning.{take_at}
use Rattle.order_parts.proofs.reorder.Reorder.release_entries.Goals as goal

pub loop-index-preserved : goal.loop-index-preserved
loop-index-preserved c =
    let y = c.entry-entry.result.now in
    let n = c.loop-index.index in
    let ys = c.args.history.now.entries in
    let one = take_at ys n y c.entry-entry.ensures in (
      c.release.ensures
          ∙ (ap (λ r. released_one r y) c.loop-index.invariant.0 ∙ (sym (fold-append released_one c.args.self.now (take n ys) (y ∷ [])) ∙ ap (released_all c.args.self.now) (sym one))),
      subst (All (IsOfQueue c.args.queue)) (sym one) (All-push (IsOfQueue c.args.queue) (take n ys) y c.loop-index.invariant.1 c.if-entry-queue.false),
    )
