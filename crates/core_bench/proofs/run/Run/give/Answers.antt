use Rattle.std.proofs.Common.{◌≡◌, ◌+◌, length, vec_capacity, ap, sym, subst, ◌∙◌, arith}
use Rattle.std.proofs.lemmas.List.{length-append, length-map}
use Rattle.sched_core.specs.Runs.{gift_of, gifts_of, gifts_to}
use Rattle.transcripts.specs.Standing.{Stands, View}
use Rattle.core_bench.proofs.Ready.{deals_stand, gifts_count, ready_after}
use Rattle.core_bench.proofs.run.Run.give.Goals as goal

pub give_run-requires-clause-room : goal.give_run-requires-clause-room
give_run-requires-clause-room c =
    let same = ap (λ (v : View). v.shape.sweep) c.in-Some.ensures.same in
    omega (arith, same, c.self.invariant.gifts, c.clear.ensures.len, c.clear.ensures.capacity)

pub invariant_of-self-in_default-deals : goal.invariant_of-self-in_default-deals
invariant_of-self-in_default-deals c =
    let given = gifts_of c.in-Some.offer.lane c.give_run.new.run.items in
    let long : length c.give_run.new.log.items ≡ length c.clear.new.self.items + length c.give_run.new.run.items =
    ap length c.give_run.ensures.logged ∙ (length-append c.clear.new.self.items given ∙ ap (λ n. length c.clear.new.self.items + n) (length-map c.give_run.new.run.items (gift_of c.in-Some.offer.lane)))
    in
    let same = c.in-Some.ensures.same in
    let stands = subst (Stands c.self.invariant.stands.0) (sym same) c.self.invariant.stands.1 in
    ready_after _ _ _ c.self.invariant _ (vec_capacity c.give_run.new.log) (c.give_run.ensures.shape ∙ ap (λ (v : View). v.shape) same) (omega (arith, c.give_run.ensures.room, long, c.clear.ensures.len, c.clear.ensures.capacity, c.give_run.new.log.ok.0, c.give_run.new.log.ok.1))
    (_, c.give_run.ensures.stands _ stands)

pub invariant_of-self-2 : goal.invariant_of-self-2
invariant_of-self-2 c =
    let given = gifts_to c.deal_row.new.run.items c.deal_row.new.to.items in
    let long : length c.deal_row.new.log.items ≡ length c.clear.new.self.items + length c.deal_row.new.run.items =
    ap length c.deal_row.ensures.logged ∙ (length-append c.clear.new.self.items given ∙ ap (λ n. length c.clear.new.self.items + n) (gifts_count _ _ _ _ _ _ c.deal_row.ensures.deals))
    in
    let same = c.in-Some.ensures.same in
    let stands = subst (Stands c.self.invariant.stands.0) (sym same) c.self.invariant.stands.1 in
    ready_after _ _ _ c.self.invariant _ (vec_capacity c.deal_row.new.log) (c.deal_row.ensures.shape ∙ ap (λ (v : View). v.shape) same) (omega (arith, c.deal_row.ensures.room, long, c.clear.ensures.len, c.clear.ensures.capacity, c.deal_row.new.log.ok.0, c.deal_row.new.log.ok.1))
    (_, deals_stand _ _ _ _ _ _ _ c.deal_row.ensures.deals stands)
