use Rattle.std.proofs.Common.{◌∙◌, sym, subst, ◌<◌, ◌≤◌}
use Rattle.std.proofs.lemmas.Option.{same_Some}
use Rattle.history_judge.proofs.InOrder.{entry_at}
use Rattle.history_judge.proofs.Crossing.{not_before}
use Rattle.history_judge.specs.declared.seen.Seen.{Seen}
use Rattle.history_judge.proofs.order.call_before.Goals as goal

pub returns-then-history-first-clause-some : goal.returns-then-history-first-clause-some
returns-then-history-first-clause-some c =
    let is = sym c.first_in.ensures ∙ c.in_ok-first.was in (
      is,
      record {
        seen = c.index-history-first.result;
        entry = entry_at c.args.history.now c.in_ok-first.first c.index-history-first.result (c.requires c.in_ok-first.first is) c.index-history-first.is;
        ended = subst (λ (w : Seen). w.ended < c.args.reader.now.began) (sym c.index-history-first.is) c.if-history-first.true;
      },
    )

pub returns-else-history-first-clause-none : goal.returns-else-history-first-clause-none
returns-else-history-first-clause-none c flow i there =
    let is = sym c.first_in.ensures ∙ c.in_ok-first.was in
    not_before c.args.history.now c.in_ok-first.first i c.index-history-first.result c.args.reader.now
    (entry_at c.args.history.now c.in_ok-first.first c.index-history-first.result (c.requires c.in_ok-first.first is) c.index-history-first.is)
    (same_Some i c.in_ok-first.first (sym there ∙ is)) (subst (λ (w : Seen). c.args.reader.now.began ≤ w.ended) (sym c.index-history-first.is) c.if-history-first.false)
