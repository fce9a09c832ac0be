-- Whether a step names what is there, as a test.
use Rattle.std.specs.Prelude.{ℕ, Bool, true, false, ◌&&◌, ◌||◌, ◌==◌, nat_lt, length}
use Rattle.evt_types.specs.Operation.{is_more_op, is_new_op}
use Rattle.evt_types.specs.Plan.{Plan, lanes_of}
use Rattle.evt_types.specs.declared.event.Event.{Event}
use Rattle.evt_types.specs.declared.event.Op.{Op}
use Rattle.evt_types.specs.declared.event.Op.TheVariants as ops
use Rattle.evt_types.specs.declared.step.Outcome.{Outcome}
use Rattle.evt_types.specs.declared.step.Outcome.TheVariants.{Forwarded, Released}
use Rattle.evt_types.specs.declared.step.Source.{Source}
use Rattle.evt_types.specs.declared.step.Source.TheVariants.{New, Of}
use Rattle.evt_types.specs.declared.step.Step.{Step}
use Rattle.evt_types.specs.declared.step.Step.TheVariants.{Accept, Give, Done, More, Turned, Bounced, Shut}

abbrev pub is_forward_op : Op → Bool
is_forward_op ops.New = false
is_forward_op ops.Forward = true
is_forward_op ops.Release = false
is_forward_op ops.ForwardMore = false

abbrev pub is_entry : Plan → ℕ → Event → Bool
is_entry p q e = nat_lt q (length p.queues) && (e.queue == q)

abbrev pub formed_accept : Plan → ℕ → Event → Source → Bool
formed_accept p q e (New l) = (is_entry p q e && is_new_op e.op) && nat_lt l (length p.ports)
formed_accept p q e (Of r n) = (is_entry p q e && (is_forward_op e.op || is_more_op e.op)) && nat_lt r (length p.queues)

abbrev pub formed_outcome : Plan → Outcome → Bool
formed_outcome p (Forwarded e) = nat_lt e.queue (length p.queues) && is_forward_op e.op
formed_outcome p Released = true

abbrev pub formed : Plan → Step → Bool
formed p (Accept q e s) = formed_accept p q e s
formed p (Give l q n) = nat_lt l (lanes_of p) && nat_lt q (length p.queues)
formed p (Done l o) = nat_lt l (lanes_of p) && formed_outcome p o
formed p (More l e) = (nat_lt l (lanes_of p) && nat_lt e.queue (length p.queues)) && is_more_op e.op
formed p (Turned l e) = (nat_lt l (length p.ports) && nat_lt e.queue (length p.queues)) && is_new_op e.op
formed p (Bounced l) = nat_lt l (lanes_of p)
formed p Shut = true
