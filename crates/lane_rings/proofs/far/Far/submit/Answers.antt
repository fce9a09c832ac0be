-- A reply goes behind the others: an answer ends the oldest and its additions, and another adds one or changes nothing.
use Rattle.std.proofs.Common.{◌≡◌, ◌∙◌, ◌+◌, ℕ, List, [], ◌∷◌, ◌++◌, ap, arith, cond, drop, length, length-drop, map, rules, subst, sym}
use Rattle.std.proofs.lemmas.List.Sums.{sum_by-append}
use Rattle.evt_types.proofs.Additions.{beside-append, extras-append}
use Rattle.evt_types.specs.Additions.{AreBeside, extras_of, more_after}
use Rattle.evt_types.specs.Event.{pair_of}
use Rattle.evt_types.specs.Operation.{is_answer}
use Rattle.evt_types.specs.declared.event.Reply.{Reply}
use Rattle.lane_rings.specs.Ends.{answered, answers_among, received_by}
use Rattle.lane_rings.specs.HeldPairs.{Held}
use Rattle.lane_rings.specs.Outlets.{put_in}
use Rattle.lane_rings.specs.Refusal.{reply_of}
use Rattle.lane_rings.specs.declared.far.Far.{Far}
use Rattle.lane_rings.proofs.Answering.{after_news, only_new}
use Rattle.lane_rings.proofs.HeldPairs.{answered_held}
use Rattle.lane_rings.proofs.far.Far.submit.Goals as goal

pub invariant_of-self-2-clause-held_is : goal.invariant_of-self-2-clause-held_is
invariant_of-self-2-clause-held_is c =
    let one : List Reply = reply_of c.args.event.now ∷ [] in
    let count : answers_among (put_in c.put_one.new.self) ≡ answers_among (answered c.args.self.now) + answers_among one = ap answers_among (c.put_one.ensures.put ∙ ap (λ (rs : List Reply). rs ++ reply_of c.args.event.now ∷ []) c.has_room.ensures.put) ∙ sum_by-append (λ x. cond (is_answer x) 1 0) (answered c.args.self.now) one in
    omega (arith, count, c.in_ok-ended.ensures.ended, ap (λ (h : Held). length h.items) c.skip.ensures, length-drop (c.in_ok-ended.ended) c.args.self.now.held.items, c.args.self.now.held_is)

pub invariant_of-self-2-clause-held_are : goal.invariant_of-self-2-clause-held_are
invariant_of-self-2-clause-held_are c =
    let old = c.args.self.now in
    let one : List Reply = reply_of c.args.event.now ∷ [] in
    let count : answers_among (put_in c.put_one.new.self) ≡ answers_among (answered old) + answers_among one = ap answers_among (c.put_one.ensures.put ∙ ap (λ (rs : List Reply). rs ++ reply_of c.args.event.now ∷ []) c.has_room.ensures.put) ∙ sum_by-append (λ x. cond (is_answer x) 1 0) (answered old) one in
    ap (λ (h : Held). h.items) c.skip.ensures
    ∙ (ap (λ n. drop n old.held.items) c.in_ok-ended.ensures.ended.0
    ∙ (ap (drop (answers_among one)) old.held_are
    ∙ (sym (answered_held (answers_among (answered old)) (answers_among one) (received_by old)) ∙ ap (λ n. map pair_of (drop n (received_by old))) (sym count))))

pub invariant_of-self-2-clause-extras_are : goal.invariant_of-self-2-clause-extras_are
invariant_of-self-2-clause-extras_are c =
    c.in_ok-ended.ensures.extras.0
    ∙ (ap (λ n. more_after n (reply_of c.args.event.now)) c.args.self.now.extras_are
    ∙ sym (ap extras_of (c.put_one.ensures.put ∙ ap (λ (rs : List Reply). rs ++ reply_of c.args.event.now ∷ []) c.has_room.ensures.put) ∙ extras-append (answered c.args.self.now) (reply_of c.args.event.now)))

pub invariant_of-self-2-clause-beside : goal.invariant_of-self-2-clause-beside
invariant_of-self-2-clause-beside c =
    let received : ℕ = length (received_by c.args.self.now) in
    subst (AreBeside received) (sym (c.put_one.ensures.put ∙ ap (λ (rs : List Reply). rs ++ reply_of c.args.event.now ∷ []) c.has_room.ensures.put))
    (beside-append received (answered c.args.self.now) (reply_of c.args.event.now) c.args.self.now.beside
    (λ adds. (omega (arith, (c.in_ok-ended.ensures.may_add adds).0, c.args.self.now.held_is), omega (arith, (c.in_ok-ended.ensures.may_add adds).1, c.args.self.now.extras_are))))

pub invariant_of-self-then-is_new : goal.invariant_of-self-then-is_new
invariant_of-self-then-is_new c =
    let put : put_in c.put_one.new.self ≡ answered c.args.self.now ++ reply_of c.args.event.now ∷ [] = c.put_one.ensures.put ∙ ap (λ (rs : List Reply). rs ++ reply_of c.args.event.now ∷ []) c.has_room.ensures.put in
    let far : Far = after_news c.args.self.now (reply_of c.args.event.now ∷ []) c.put_one.new.self (only_new (reply_of c.args.event.now) (sym c.is_new-is_new.ensures ∙ c.if-is_new.true)) put in
    record { held_is = far.held_is; held_are = far.held_are; held_few = far.held_few; held_room = far.held_room; all_received = far.all_received; extras_are = far.extras_are; extras_few = far.extras_few; beside = far.beside }

pub returns-clause-nothing_held : goal.returns-clause-nothing_held
returns-clause-nothing_held c =
    let old = c.args.self.now in (
      λ e. search rules,
      λ p. absurd (omega (arith, c.in_ok-ended.ensures.needs p.0, ap length p.1, length-drop (answers_among (answered old)) (received_by old), old.held_is)),
    )

pub returns-clause-too_many : goal.returns-clause-too_many
returns-clause-too_many c = (λ e. search rules, λ p. absurd (omega (arith, (c.in_ok-ended.ensures.may_add p.0).1, p.2, c.args.self.now.extras_are)))

pub invariant_of-self : goal.invariant_of-self
invariant_of-self c =
    let old = c.args.self.now in
    let put = c.has_room.ensures.put in
    record {
      held_is = ap (λ rs. answers_among rs + length old.held.items) put ∙ old.held_is;
      held_are = old.held_are ∙ ap (λ rs. map pair_of (drop (answers_among rs) (received_by old))) (sym put);
      held_few = old.held_few;
      held_room = old.held_room;
      all_received = old.all_received;
      extras_are = old.extras_are ∙ sym (ap extras_of put);
      extras_few = old.extras_few;
      beside = subst (AreBeside (length (received_by old))) (sym put) old.beside;
    }

pub returns-then-not-has_room-clause-held : goal.returns-then-not-has_room-clause-held
returns-then-not-has_room-clause-held c = ap (λ rs. drop (answers_among rs) (received_by c.args.self.now)) c.has_room.ensures.put
