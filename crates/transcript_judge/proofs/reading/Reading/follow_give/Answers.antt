use Rattle.std.proofs.Common.{refl, sym, ap, ◌∙◌, arith}
use Rattle.transcripts.specs.Standing.{event_in}
use Rattle.transcript_judge.proofs.Faults.{give_unknown}
use Rattle.transcript_judge.proofs.Moves.{read_give}
use Rattle.transcript_judge.proofs.Readings.{sized}
use Rattle.transcript_judge.proofs.RowLists.{waits_now}
use Rattle.transcript_judge.proofs.reading.Reading.follow_give.Goals as goal

pub index-requires : goal.index-requires
index-requires c = let size = sized c.args.shape.now c.args.past.now c.args.self.now c.requires.read in omega (arith, size.waiting, c.requires.formed.queue)

pub returns-in_default : goal.returns-in_default
returns-in_default c =
    let size = sized c.args.shape.now c.args.past.now c.args.self.now c.requires.read in
    give_unknown c.args.shape.now c.args.past.now c.args.self.now c.args.lane c.args.queue c.args.number c.requires.read c.requires.none c.requires.formed.queue
    (ap (λ ws. event_in ws c.args.number) (waits_now c.args.self.now.ledger.waiting.items c.args.queue c.index.result.now (omega (arith, size.waiting, c.requires.formed.queue)) c.index.ensures) ∙ (sym c.find.ensures ∙ c.in_default.is))

pub give_fault-requires-clause-waits : goal.give_fault-requires-clause-waits
give_fault-requires-clause-waits c =
    let size = sized c.args.shape.now c.args.past.now c.args.self.now c.requires.read in
    ap (λ ws. event_in ws c.args.number) (waits_now c.args.self.now.ledger.waiting.items c.args.queue c.index.result.now (omega (arith, size.waiting, c.requires.formed.queue)) c.index.ensures) ∙ (sym c.find.ensures ∙ c.in-Some.is)

pub give-requires-clause-sized : goal.give-requires-clause-sized
give-requires-clause-sized c = sized c.args.shape.now c.args.past.now c.args.self.now c.requires.read

pub returns : goal.returns
returns c =
    read_give c.args.shape.now c.args.past.now c.args.self.now _ c.args.lane c.args.queue (record { number = c.args.number; event = c.in-Some.event }) c.requires.read c.requires.none
    c.in_default-give_fault.ensures c.in_ok-give.ensures.view c.in_ok-give.ensures.kinds refl refl refl
