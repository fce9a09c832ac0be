-- What a row of NEWs asks for, before it goes into the ring: a look at the credits for each of them.
use Rattle.std.specs.Prelude.{◌≡◌, ◌<◌, ℕ, IsTrue, List, [], ◌∷◌, Option, take, slice_get}
use Rattle.std.specs.Prelude.Option.{Some, None}
use Rattle.evt_types.specs.declared.event.Event.{Event}
use Rattle.evt_types.specs.declared.event.Op.TheVariants as ops
use Rattle.evt_types.specs.declared.event.Reply.{Reply}
use Rattle.credit_pool.specs.Accounts.{IsOpen, IsShut, Stays}
use Rattle.event_answers.specs.declared.answer.Refused.{Refused}
use Rattle.event_answers.specs.declared.answer.Refused.TheVariants.{Stopped}
use Rattle.event_ports.specs.declared.desk.Desk.{Desk}
use Rattle.event_ports.specs.Desks.{own_site, account_of, pocket_of}
use Rattle.event_ports.specs.Draws.{HasLooked}

-- a look at the credits changed nothing but what the port knows of them
pub record Looks (p q : Desk) : Type 0 where
  pub site : own_site q ≡ own_site p
  pub credit : Stays (account_of p) (account_of q)
  pub pocket : pocket_of q ≡ pocket_of p
  pub drawn : (account_of q).drawn ≡ (account_of p).drawn
  pub returned : (account_of q).returned ≡ (account_of p).returned
  pub lanes : q.lanes ≡ p.lanes
  pub looked : HasLooked (account_of p) (account_of q)

-- the event is a NEW to a queue of the device, and a look for it saw the device open
pub record FindsOpen (e : Event) (p q : Desk) : Type 0 where
  pub is_new : e.op ≡ ops.New
  pub within : e.queue < (own_site p).queues
  pub look : Looks p q
  pub was_open : IsOpen (account_of q).last
  pub unshut : IsTrue (account_of p).saw_shut → ⊥

-- one look for each of these, one after the other
abbrev pub FindsAllOpen : List Reply → Desk → Desk → Type 0
FindsAllOpen [] p q = q ≡ p
FindsAllOpen (r ∷ rs) p q = (between : Desk) × FindsOpen r.event p between × FindsAllOpen rs between q

-- the event is a NEW, and the look for it saw the device shut
pub record FindsShut (e : Event) (p q : Desk) : Type 0 where
  pub is_new : e.op ≡ ops.New
  pub look : Looks p q
  pub seen : IsTrue (account_of q).saw_shut
  pub was_shut : IsShut (account_of q).last

-- after the looks that saw it open came none, or one that saw it shut
abbrev pub LooksLast : Option Refused → List Reply → ℕ → Desk → Desk → Type 0
LooksLast None rs n p q = q ≡ p
LooksLast (Some refusal) rs n p q = (r : Reply) × (slice_get rs n ≡ Some r) × FindsShut r.event p q × (refusal ≡ Stopped)

-- of these replies the first n are NEWs that may be brought in, and the next one is no such NEW, or was refused since the device is shut
pub record LooksOver (p : Desk) (rs : List Reply) (n : ℕ) (end : Option Refused) (q : Desk) : Type 0 where
  pub between : Desk
  pub open_for : FindsAllOpen (take n rs) p between
  pub last : LooksLast end rs n between q
