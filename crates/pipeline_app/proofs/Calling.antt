-- A port leaves its home for a call and comes back.
use Rattle.std.proofs.Common.{◌≡◌, ℕ, zero, suc, ◌<◌, List, [], ◌∷◌, Some, None, Result, length, set, refl, sym, ap, subst, ◌∙◌, arith}
use Rattle.std.specs.Prelude.{slice_get, slice_set}
use Rattle.std.proofs.lemmas.List.{get_or-set_same, length-set}
use Rattle.std.proofs.lemmas.Option.{slice_get-get_or, slice_get_within}
use Rattle.credit_pool.specs.Accounts.{Stays}
use Rattle.event_answers.specs.declared.answer.Behind.{Behind}
use Rattle.event_ports.specs.Ports.{account_of, own_site}
use Rattle.event_ports.specs.declared.port.Port.{Port}
use Rattle.event_device.proofs.Keeping.{same_site}
use Rattle.event_device.specs.Device.{PortSite, number_of, site_of}
use Rattle.event_device.specs.Lent.{ComesBack, Leaves}
use Rattle.event_device.specs.Parts.{Parts}
use Rattle.evt_types.specs.declared.event.Delivery.{Delivery}
use Rattle.pipeline_app.specs.Calls.{IsDequeue}
use Rattle.pipeline_app.specs.Commands.{AreAllHome, PortDequeues}
use Rattle.pipeline_app.proofs.Home.{all_home_with}

-- what is written twice is what was written last
written_twice : {X : Type 0} (xs : List X) (i : ℕ) (x y : X) → set (set xs i x) i y ≡ set xs i y
written_twice [] i x y = refl
written_twice (z ∷ xs) zero x y = refl
written_twice (z ∷ xs) (suc i) x y = ap (λ ys. z ∷ ys) (written_twice xs i x y)

module _ (r left : Parts) (n : ℕ) (port after : Port) (leaves : Leaves n port r left) (site : own_site after ≡ own_site port) (credit : Stays (account_of port) (account_of after)) where
  same : site_of after ≡ site_of port
  same = same_site port after site credit

  number : number_of after ≡ n
  number = ap (λ (s : PortSite). s.number) same ∙ leaves.number

  -- its home is empty
  pub home_is_empty : slice_get left.ports (number_of after) ≡ Some None
  home_is_empty =
      let low : n < length r.ports = slice_get_within r.ports n (Some port) leaves.was_home in
      let none : slice_get (set r.ports n None) n ≡ Some None =
      slice_get-get_or (set r.ports n None) n None (omega (arith, low, length-set r.ports n None)) ∙ ap Some (get_or-set_same r.ports n None None low) in
      ap (slice_get left.ports) number ∙ (ap (λ (s : Parts). slice_get s.ports n) leaves.away ∙ none)

  -- and there it comes back to, so that it alone has changed
  pub comes_home : (q : Parts) → ComesBack after left q → q ≡ record r { ports = slice_set r.ports n (Some after) }
  comes_home q back =
      back.at_home
      ∙ (ap (λ k. record left { ports = slice_set left.ports k (Some after) }) number
      ∙ (ap (λ (s : Parts). record s { ports = slice_set s.ports n (Some after) }) leaves.away
      ∙ ap (λ ports. record r { ports = ports }) (written_twice r.ports n None (Some after))))

  pub all_come_home : (q : Parts) → ComesBack after left q → AreAllHome r → AreAllHome q
  all_come_home q back home = subst AreAllHome (sym (comes_home q back)) (all_home_with r home n after)

  -- it dequeued, and nothing else changed
  pub port_dequeues : (q : Parts) (max : ℕ) (outcome : Result (List Delivery) Behind) → ComesBack after left q → IsDequeue port max outcome after → PortDequeues n max outcome r q
  port_dequeues q max outcome back call = record { port = port; after = after; port_is = leaves.was_home; call = call; changed = comes_home q back }
