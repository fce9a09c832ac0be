-- The exchange of a claim keeps the rule, and where it finds the word, the seat has the lane's end.
use Rattle.std.proofs.Common.{rules, ◌≡◌, ◌∙◌, Some, ap, arith}
use Rattle.flow_claims.proofs.Keeps.{begins}
use Rattle.flow_claims.proofs.Calls.{first_slot, taken}
use Rattle.flow_claims.proofs.claims.Claims.seize.Goals as goal

pub compare_exchange-found-requires : goal.compare_exchange-found-requires
compare_exchange-found-requires c = (
  c.requires.seat.0,
  omega (arith, c.args.self.now.words, c.requires.lane),
  begins _ _ _ _ _ _ _ c.args.seat.now.has_part c.requires.seat.1 c.requires.port c.requires.lane c.requires.free.0,
)

pub exchange-requires : goal.exchange-requires
exchange-requires c =
    let same : c.compare_exchange-found.result ≡ c.args.word = search rules in
    let got = c.compare_exchange-found.ensures.2.0 same in
    (c.compare_exchange-found.ensures.0 ∙ c.requires.seat.0, (Some got.0, first_slot _ _ _ got.2))

pub returns-clause-held : goal.returns-clause-held
returns-clause-held c =
    let same : c.compare_exchange-found.result ≡ c.args.word = search rules in
    taken c.args.self.now.table.shared.table_id.slots c.args.lane c.args.seat.now.port c.args.word c.compare_exchange-found.result
    c.args.seat.now.seat.me c.compare_exchange-found.new.seat.me c.exchange.new.seat.me c.exchange.result c.in-Some.far
    c.compare_exchange-found.ensures.2 same c.requires.free.0 c.exchange.ensures.2 (ap (λ m. m.0) c.exchange.ensures.3) c.in-Some.is
