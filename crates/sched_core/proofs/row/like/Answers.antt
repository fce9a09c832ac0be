use Rattle.std.proofs.Common.{All, ◌++◌, [], ◌∷◌, ap, refl, subst, sym, take, arith, ◌∙◌}
use Rattle.std.proofs.lemmas.List.{take_more}
use Rattle.std.proofs.lemmas.List.Elements.{All-push}
use Rattle.evt_types.specs.declared.event.Reply.{Reply}
use Rattle.sched_core.specs.Rows.{IsLike}
use Rattle.sched_core.proofs.row.like.Goals as goal

pub loop-index-preserved : goal.loop-index-preserved
loop-index-preserved c =
    let i = c.loop-index.index in
    let rs = c.args.replies.now in
    subst (All (λ (r : Reply). IsLike c.args.first.now r.event))
    (sym (take_more rs i c.index-replies-index.result (omega (arith, c.loop-index-test.true)) ∙ ap (λ x. take i rs ++ x ∷ []) (sym c.index-replies-index.is)))
    (All-push (λ (r : Reply). IsLike c.args.first.now r.event) (take i rs) c.index-replies-index.result c.loop-index.invariant (c.if-not-is_like.ensures refl))
