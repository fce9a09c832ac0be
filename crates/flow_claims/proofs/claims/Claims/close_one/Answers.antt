-- A lane is closed: a load shows how many stints it has had, and the swap takes its end.
use Rattle.std.proofs.Common.{◌∙◌, Some, ap, sym, arith}
use Rattle.flow_claims.specs.Seats.{stint_at, find_lane}
use Rattle.flow_claims.specs.Stints.{stints_of}
use Rattle.flow_claims.proofs.Keeps.{probes}
use Rattle.flow_claims.proofs.Whole.{closes}
use Rattle.flow_claims.proofs.Calls.{first_slot}
use Rattle.flow_claims.proofs.claims.Claims.close_one.Goals as goal

pub load-stints-requires : goal.load-stints-requires
load-stints-requires c = (
  c.requires.seat.0,
  omega (arith, c.args.self.now.words, c.requires.lane),
  probes _ _ _ _ _ (omega (arith, c.requires.whole.0)) c.requires.lane,
)

pub swap-requires : goal.swap-requires
swap-requires c =
    let now = c.load-stints.ensures.2.0 in (
      c.load-stints.ensures.0 ∙ c.requires.seat.0,
      omega (arith, c.args.self.now.words, c.requires.lane),
      closes _ _ _ _ _ _ (ap (λ x. x.parts) now ∙ c.requires.whole.0) (ap (λ x. x.lanes) now ∙ c.requires.seat.1) c.requires.lane
          (ap (λ x. x.closed) now ∙ c.requires.whole.1) (ap (λ x. stint_at x c.args.lane) now ∙ ap (find_lane c.args.lane) c.requires.none_open)
          (c.load-stints.ensures.2.2.counted c.requires.whole.0 ∙ sym (ap (λ x. stints_of c.args.lane x.finished) now)),
    )

pub exchange-requires : goal.exchange-requires
exchange-requires c =
    let got = c.swap.ensures.2 in
    (c.swap.ensures.0 ∙ c.load-stints.ensures.0 ∙ c.requires.seat.0, (Some got.0, first_slot _ _ _ got.2))
