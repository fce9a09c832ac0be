-- What a clause sees of a port, and why it refuses: what it sees of its desk.
use Rattle.std.specs.Prelude.{ℕ, List, Option}
use Rattle.evt_types.specs.declared.event.Delivery.{Delivery}
use Rattle.evt_types.specs.declared.event.Event.{Event}
use Rattle.evt_types.specs.declared.event.Op.{Op}
use Rattle.credit_pool.specs.declared.account.Account.{Account}
use Rattle.flow_claims.specs.declared.seating.Seating.{Seating}
use Rattle.event_answers.specs.declared.answer.Refused.{Refused}
use Rattle.event_ports.specs.declared.counts.PortCounts.{PortCounts}
use Rattle.event_ports.specs.declared.port.Port.{Port}
use Rattle.event_ports.specs.Desks as desks
use Rattle.event_ports.specs.Holds.{Hands}
use Rattle.event_ports.specs.Lanes.{Hand}
pub use Rattle.event_ports.specs.Desks.{DeskSite}

abbrev pub own_site : Port → DeskSite
own_site p = desks.own_site p.desk

abbrev pub account_of : Port → Account
account_of p = desks.account_of p.desk

abbrev pub pocket_of : Port → ℕ
pocket_of p = desks.pocket_of p.desk

-- what it counted since it was made
abbrev pub counts_of : Port → PortCounts
counts_of p = p.counts

-- what it submitted, received and holds
abbrev pub hand : Port → Hand
hand p = desks.hand p.desk

-- the deliveries that it saw in the ring of its own lane and didn't receive
abbrev pub seen_by : Port → List Delivery
seen_by p = desks.seen_by p.desk

-- what it has of its flow lanes: the stints of those that it holds
abbrev pub flow_hands : Port → Hands
flow_hands p = desks.flow_hands p.desk

-- what its claim seat knows: the flow lanes that it claimed, and how many words it read
abbrev pub claim_seating : Port → Seating
claim_seating p = desks.claim_seating p.desk

-- the flow lanes to which it is linked
abbrev pub links : Port → List ℕ
links p = desks.links p.desk

-- how many NEWs, FORWARD_MOREs and RELEASEs it submitted, over all its lanes
abbrev pub news_by : Port → ℕ
news_by p = desks.news_by p.desk

abbrev pub mores_by : Port → ℕ
mores_by p = desks.mores_by p.desk

abbrev pub releases_by : Port → ℕ
releases_by p = desks.releases_by p.desk

-- as many replies were given to the lane to which this operation goes as its reply ring has room for
abbrev pub was_filled : Port → Op → Type 0
was_filled p o = desks.was_filled p.desk o

-- neither credits nor pocket changed
abbrev pub SameCredits : Port → Port → Type 0
SameCredits p q = desks.SameCredits p.desk q.desk

-- What an event that is taken costs: a NEW or FORWARD_MORE one credit of the pocket, a FORWARD nothing, and a RELEASE brings one, before
-- the return rule.
abbrev pub Pays : Op → Port → Port → Type 0
Pays o p q = desks.Pays o p.desk q.desk

-- why an event was refused, and what becomes of the credits: the port before, the event, the refusal and the port after
abbrev pub Refuses : Port → Event → Refused → Port → Type 0
Refuses p e refusal q = desks.Refuses p.desk e refusal q.desk

-- with implicit release a dequeue first releases all that is held
abbrev pub released_first : Port → ℕ
released_first p = desks.released_first p.desk

-- of these events the first n were taken, one after the other, and the next one was refused
abbrev pub StopsAt : Port → List Event → ℕ → Refused → Port → Type 0
StopsAt p events n refusal q = desks.StopsAt p.desk events n refusal q.desk

-- Of these events the first n were taken, each as `enqueue` takes one, and then the end came, or a refusal as `enqueue` refuses one.
abbrev pub Bursts : Port → List Event → ℕ → Option Refused → Port → Type 0
Bursts p events n end q = desks.Bursts p.desk events n end q.desk
