-- The parts of one device: as they are made, and without the first port.
use Rattle.std.proofs.Common.{◌≡◌, ℕ, ◌<◌, ◌==◌, Bool, true, false, zero, if◌then◌else◌, suc, List, [], ◌∷◌, length, get_or, insert, remove, sym, ap, subst, ◌∙◌, arith}
use Rattle.std.proofs.lemmas.Bool.{false≢true}
use Rattle.std.proofs.lemmas.Option.{slice_get-get_or}
use Rattle.std.proofs.lemmas.List.Elements.{All-tail}
use Rattle.evt_types.specs.Plan.{Plan}
use Rattle.event_ports.specs.declared.port.Port.{Port}
use Rattle.event_scheduler.specs.Scheduler.{sight_of}
use Rattle.event_scheduler.specs.declared.scheduler.Scheduler.{Scheduler}
use Rattle.event_device.specs.Device.{IsPortOf, number_of, scheduler_of}
use Rattle.event_device.specs.Recorder.{Recorded}
use Rattle.event_device.specs.Start.{IsMade}
use Rattle.event_device.specs.Stop.{AreOf}
use Rattle.event_device.specs.declared.control.Control.{Control}
use Rattle.event_device.proofs.InOrder.{port_here}

-- as `device` makes them
module _ (p : Plan) (scheduler : Scheduler) (ports : List Port) (control : Control) (made : IsMade p scheduler ports control) where
  here : (i : ℕ) (x : Port) → i < length ports → (number_of (get_or ports i x) ≡ i) × IsPortOf made.device (get_or ports i x)
  here i x there =
      port_here made.device ports (length p.ports) made.ports_are (sym (ap (λ (q : Plan). length q.ports) made.plan)) i (get_or ports i x) (slice_get-get_or ports i x there)

  pub parts_as_made : (r : Recorded) → r.sight ≡ sight_of scheduler → AreOf r control ports
  parts_as_made r sight =
      record {
        device = made.device;
        fits = made.fits;
        scheduler_is = ap scheduler_of sight ∙ made.scheduler_is;
        control_is = made.control_is;
        ports_are = λ i x there. (here i x there).1;
        once = λ i j x low there e. omega (arith, low, (here i x (omega (arith, low, there))).0, (here j x there).0, e);
      }

-- without the first port
pub parts_without : (r : Recorded) (control : Control) (ports rest : List Port) → AreOf r control ports → rest ≡ remove ports 0 → AreOf r control rest
parts_without r control ports rest of is = subst (AreOf r control) (sym is) (without ports of)
  where
    without : (ports : List Port) → AreOf r control ports → AreOf r control (remove ports 0)
    without [] of = of
    without (p ∷ ports) of =
        record {
          device = of.device;
          fits = of.fits;
          scheduler_is = of.scheduler_is;
          control_is = of.control_is;
          ports_are = All-tail (IsPortOf of.device) p ports of.ports_are;
          once = λ i j x low there e. of.once (suc i) (suc j) x (omega (arith, low)) (omega (arith, there)) e;
        }

first_back : (ports : List Port) (first : Port) → 0 < length ports → first ≡ get_or ports 0 first → insert (remove ports 0) 0 first ≡ ports
first_back [] first some is = absurd (omega (arith, some))
first_back (p ∷ ports) first some is = ap (λ x. x ∷ ports) is

-- and with it, once all came back
pub parts_with : (r s : Recorded) (before after : Control) (ports rest back : List Port) (first : Port) → AreOf r before ports → 0 < length ports → first ≡ get_or ports 0 first → rest ≡ remove ports 0
    → s ≡ r → after ≡ before → back ≡ insert rest 0 first → AreOf s after back
parts_with r s before after ports rest back first of some is rest_is recorder control back_is =
    subst (λ x. AreOf x after back) (sym recorder)
    (subst (λ x. AreOf r x back) (sym control)
    (subst (AreOf r before) (sym (back_is ∙ ap (λ xs. insert xs 0 first) rest_is ∙ first_back ports first some is)) of))

-- what an insert leaves where it was done
pub inserted : {X : Type 0} (b : Bool) (new done left : List X) → new ≡ (if b then done else left) → b ≡ true → new ≡ done
inserted true new done left is there = is
inserted false new done left is there = absurd (false≢true there)

pub some_there : (n len : ℕ) (b : Bool) → len ≡ n → b ≡ (len == 0) → b ≡ false → 0 < n
some_there n len b same is none = lt_zero n (ap (λ k. k == 0) (sym same) ∙ (sym is ∙ none))
  where
    lt_zero : (k : ℕ) → (k == 0) ≡ false → 0 < k
    lt_zero zero none = absurd (false≢true (sym none))
    lt_zero (suc k) none = omega arith
