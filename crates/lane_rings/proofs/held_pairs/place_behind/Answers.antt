use Rattle.std.proofs.Common.{◌+◌, ◌-◌, ◌%◌, ◌^◌, ◌≡◌, sym, ap, ◌∙◌}
use Rattle.std.specs.Prelude.{bit_and}
use Rattle.std.proofs.lemmas.Nat.{and_mask}
use Rattle.lane_rings.proofs.held_pairs.place_behind.Goals as goal

pub returns : goal.returns
returns c =
    let power = c.requires.power in
    let n = c.args.first + c.args.count in
    let below : c.args.places - 1 ≡ 2 ^ power.0 - 1 = ap (λ m. m - 1) power.1 in
    ap (bit_and n) below ∙ (and_mask n power.0 ∙ ap (λ m. n % m) (sym power.1))
