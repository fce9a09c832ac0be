use Rattle.std.proofs.Common.{◌≢◌, List, map, ◌++◌, ◌∙◌, ap, sym, arith, vec_len}
use Rattle.std.proofs.lemmas.Bool.{eqb-false}
use Rattle.evt_types.specs.declared.event.Event.{Event}
use Rattle.transcripts.specs.Standing.{accepts_from}
use Rattle.transcript_judge.proofs.Walks.{left_one}
use Rattle.transcript_judge.specs.Ledger.{accept_of}
use Rattle.transcript_judge.proofs.ledger.let_go.Goals as goal

pub front-preserved : goal.front-preserved
front-preserved c =
    let some : vec_len c.front.spots ≢ 0 = eqb-false (vec_len c.front.spots) 0 (sym c.is_empty.ensures ∙ c.front-test.true) in
    let one =
    left_one c.args.queue c.front.spots.items c.remove-spot.new.self.items c.remove-spot.result c.index.result.now (map accept_of c.front.due.items)
    (map accept_of c.push_due.new.due.items) (omega (arith, some, c.front.spots.ok)) c.remove-spot.ensures.value c.index.ensures c.remove-spot.ensures.by_index.2
    (sym c.is_answered.ensures ∙ c.if-is_answered.true) (c.in_ok-push_due.ensures
    ∙ (ap (λ n. map accept_of c.front.due.items ++ accepts_from c.args.queue n c.forwards.result.now) c.number.ensures
    ∙ ap (λ (es : List Event). map accept_of c.front.due.items ++ accepts_from c.args.queue c.remove-spot.result.number es) c.forwards.ensures)) in
    record { stay = one.stay ∙ c.front.invariant.stay; due = one.due ∙ c.front.invariant.due }
