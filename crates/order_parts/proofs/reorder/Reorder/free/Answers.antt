use Rattle.std.proofs.Common.{◌≡◌, length, sym, ap, ◌∙◌, arith}
use Rattle.order_parts.specs.Reorder.{Reordering}
use Rattle.order_parts.proofs.Fields.{rows}
use Rattle.order_parts.proofs.Places.{places_length}
use Rattle.order_parts.proofs.reorder.Reorder.free.Goals as goal

pub returns : goal.returns
returns c =
    let places : length c.self.inside.ring.items ≡ length c.args.self.now.places = sym (places_length (rows c.self.inside) c.self.inside.ring.items) ∙ ap (λ (r : Reordering). length r.places) c.self.view_is in
    omega (arith, places, ap (λ (r : Reordering). r.depth) c.self.view_is, c.capacity.ensures, c.len.ensures)
