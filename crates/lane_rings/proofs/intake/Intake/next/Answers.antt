-- The first of the batch leaves, and is handed out.
use Rattle.std.proofs.Common.{◌∙◌, ◌∷◌, ◌++◌, ap, append-nil, arith, drop, sym, take}
use Rattle.rtrb.specs.Ring.{received}
use Rattle.lane_rings.specs.Intakes.{handed, inside}
use Rattle.lane_rings.proofs.Handing.{first-passed, row-empty, row-first, row-rest, still-last}
use Rattle.lane_rings.proofs.intake.Intake.next.Goals as goal

pub invariant_of-self-clause-last : goal.invariant_of-self-clause-last
invariant_of-self-clause-last g c =
    still-last (received c.args.self.now.ring) (inside c.args.self.now) _ c.args.self.now.last (row-rest c.args.self.now.at c.args.self.now.end c.args.self.now.places.items)

pub returns-clause-handed : goal.returns-clause-handed
returns-clause-handed g c =
    first-passed (received c.args.self.now.ring) (inside c.args.self.now) _ c.args.self.now.last (row-rest c.args.self.now.at c.args.self.now.end c.args.self.now.places.items)

pub returns-clause-batch : goal.returns-clause-batch
returns-clause-batch g c = row-rest c.args.self.now.at c.args.self.now.end c.args.self.now.places.items

pub returns-clause-value : goal.returns-clause-value
returns-clause-value g c =
    let now = c.args.self.now in
    row-first now.at now.end now.places.items c.index-first.result.now (omega (arith, now.within.0)) now.within.1 c.index-first.ensures
    ∙ ap (λ xs. c.index-first.result.now ∷ xs) (sym (row-rest now.at now.end now.places.items))

pub returns-then-self-clause-handed : goal.returns-then-self-clause-handed
returns-then-self-clause-handed g c =
    let now = c.args.self.now in
    sym (ap (λ xs. handed now ++ take 1 xs) (row-empty now.at now.end now.places.items c.if-self.true) ∙ append-nil (handed now))

pub returns-then-self-clause-batch : goal.returns-then-self-clause-batch
returns-then-self-clause-batch g c =
    let none = row-empty c.args.self.now.at c.args.self.now.end c.args.self.now.places.items c.if-self.true in
    none ∙ sym (ap (drop 1) none)

pub returns-then-self-clause-value : goal.returns-then-self-clause-value
returns-then-self-clause-value g c = row-empty c.args.self.now.at c.args.self.now.end c.args.self.now.places.items c.if-self.true
