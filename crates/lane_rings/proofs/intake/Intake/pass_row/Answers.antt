-- The only item that the ring showed goes to the first place.
use Rattle.std.proofs.Common.{◌≡◌, [], ◌∷◌, ◌++◌, ◌∙◌, ap, arith, slice_set, subst, sym, take}
use mathlib.Core.List.{IsPrefix}
use Rattle.rtrb.specs.Ring.{known_items}
use Rattle.lane_rings.specs.Intakes.{handed, inside}
use Rattle.lane_rings.proofs.Singles.{one-put}
use Rattle.lane_rings.proofs.intake.Intake.pass_row.Given as given
use Rattle.lane_rings.proofs.intake.Intake.pass_row.Goals as goal
use Rattle.lane_rings.proofs.intake.Intake.pass_row.Goals.{After-pass_there}

put : (g : given.Over) (c : After-pass_there g) → take 1 (slice_set c.args.places.now 0 c.first_there.result.now) ≡ c.first_there.result.now ∷ []
put g c = one-put c.args.places.now c.first_there.result.now (omega (arith, c.min-room.ensures, c.if-room-eq0.false))

pub returns-then-there-eq1-clause-handed : goal.returns-then-there-eq1-clause-handed
returns-then-there-eq1-clause-handed g c =
    let at = (goal.at.returns-then-there-eq1-clause-handed g c).After-pass_there in
    c.pass_there.ensures.handed
    ∙ (ap (λ hs. hs ++ take 1 (known_items c.there-there.new.self.ring)) c.there-there.ensures.handed.0
    ∙ ap (λ ws. handed c.args.self.now ++ ws) (ap (take 1) c.first_there.ensures ∙ sym (put g at)))

pub returns-then-there-eq1-clause-known : goal.returns-then-there-eq1-clause-known
returns-then-there-eq1-clause-known g c =
    let at = (goal.at.returns-then-there-eq1-clause-known g c).After-pass_there in
    let old = known_items c.args.self.now.ring in
    let seen = known_items c.there-there.new.self.ring in
    let left = known_items c.pass_there.new.self.ring in
    let whole : take 1 (slice_set c.args.places.now 0 c.first_there.result.now) ++ left ≡ seen =
    ap (λ ws. ws ++ left) (put g at) ∙ (ap (λ ws. c.first_there.result.now ∷ ws) c.pass_there.ensures.known ∙ sym c.first_there.ensures)
    in
    subst (IsPrefix old) (sym whole)
    (subst (λ ws. IsPrefix old (ws ++ seen)) (c.there-there.ensures.handed.1 ∙ c.requires.none)
    (subst (λ ws. IsPrefix (ws ++ old) (inside c.there-there.new.self ++ seen)) c.requires.none c.there-there.ensures.ahead))
