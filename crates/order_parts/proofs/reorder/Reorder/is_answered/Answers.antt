use Rattle.std.proofs.Common.{slice_get, option_copied, ap, sym, ◌∙◌}
use Rattle.order_parts.specs.Reorder.{Reordering, is_done}
use Rattle.order_parts.proofs.Fields.{place_is, rows}
use Rattle.order_parts.proofs.Places.{no_place}
use Rattle.order_parts.proofs.reorder.Reorder.is_answered.Goals as goal

pub returns-in-Some : goal.returns-in-Some
returns-in-Some c =
    sym (ap (λ (r : Reordering). is_done (slice_get r.places c.args.index)) (sym c.self.view_is)
    ∙ ap is_done (place_is c.self.inside c.self.invariant c.args.index c.in-Some.handed.now (sym c.get.ensures ∙ ap option_copied c.in-Some.is)))

pub returns-in-None : goal.returns-in-None
returns-in-None c =
    sym (ap (λ (r : Reordering). is_done (slice_get r.places c.args.index)) (sym c.self.view_is)
    ∙ ap is_done (no_place (rows c.self.inside) c.self.inside.ring.items c.args.index (sym c.get.ensures ∙ ap option_copied c.in-None.is)))
