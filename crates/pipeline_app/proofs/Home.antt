-- All of a device is at home between two commands.
use Rattle.std.proofs.Common.{◌≡◌, ℕ, ◌<◌, List, [], ◌∷◌, Some, Bool, length, get_or, map, set, refl, sym, ap, subst, ◌∙◌, arith}
use Rattle.std.specs.Prelude.{slice_get, slice_set}
use Rattle.std.proofs.lemmas.List.{length-set, map-set}
use Rattle.event_ports.specs.declared.port.Port.{Port}
use Rattle.event_device.proofs.Homes.{in_all}
use Rattle.event_device.proofs.InOrder.{port_count}
use Rattle.event_device.specs.Device.{Device}
use Rattle.event_device.specs.Lent.{IsAway, Keeps, Shuts, ShutsBy}
use Rattle.event_device.specs.Parts.{Parts, device_of}
use Rattle.event_device.specs.Start.{IsFresh}
use Rattle.evt_types.specs.Plan.{Plan}
use Rattle.pipeline_app.specs.Commands.{AreAllHome}

-- a device just made
pub fresh_home : (p : Plan) (r : Parts) → IsFresh p r → AreAllHome r
fresh_home p r fresh =
    record {
      control = fresh.control;
      ports = fresh.ports;
      at_home = record { control_is = fresh.control_home; ports_are = fresh.at_home };
      count = port_count (device_of r) fresh.ports (length (device_of r).plan.ports) fresh.ports_are;
    }

in_home : (ports : List Port) (n : ℕ) → n < length ports → (port : Port) × (slice_get (map Some ports) n ≡ Some (Some port))
in_home [] n low = absurd (omega (arith, low))
in_home (p ∷ ports) n low = (get_or (p ∷ ports) n p, in_all (p ∷ ports) n p low)

module _ (r : Parts) (home : AreAllHome r) where
  -- no port is away
  pub none_away : (n : ℕ) → n < length (device_of r).plan.ports → IsAway n r → ⊥
  none_away n low away =
      let there = in_home home.ports n (omega (arith, low, home.count)) in
      away there.0 (ap (λ homes. slice_get homes n) home.at_home.ports_are ∙ there.1)

  -- one of them was called
  pub all_home_with : (n : ℕ) (after : Port) → AreAllHome (record r { ports = slice_set r.ports n (Some after) })
  all_home_with n after =
      record {
        control = home.control;
        ports = set home.ports n after;
        at_home = record {
          control_is = home.at_home.control_is;
          ports_are = ap (λ homes. set homes n (Some after)) home.at_home.ports_are ∙ sym (map-set Some home.ports n after);
        };
        count = length-set home.ports n after ∙ home.count;
      }

  -- the scheduler swept
  pub all_home_swept : (q : Parts) → Keeps r q → device_of q ≡ device_of r → AreAllHome q
  all_home_swept q keeps device =
      record {
        control = home.control;
        ports = home.ports;
        at_home = record {
          control_is = ap (λ (s : Parts). s.control) keeps ∙ home.at_home.control_is;
          ports_are = ap (λ (s : Parts). s.ports) keeps ∙ home.at_home.ports_are;
        };
        count = home.count ∙ ap (λ (d : Device). length d.plan.ports) (sym device);
      }

  -- the control shut the device
  module _ (shut : Bool) (q : Parts) (shuts : Shuts shut r q) where
    shuts_by : ShutsBy (Some home.control) shut r q
    shuts_by = subst (λ control. ShutsBy control shut r q) home.at_home.control_is shuts

    pub all_home_shut : AreAllHome q
    all_home_shut =
        subst AreAllHome (sym shuts_by.1.3)
        (record {
          control = shuts_by.1.0;
          ports = home.ports;
          at_home = record { control_is = refl; ports_are = home.at_home.ports_are };
          count = home.count;
        })
