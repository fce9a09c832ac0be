-- Ports with the sites of a device's ports, in their order: each is the device's port of its number.
use Rattle.std.proofs.Common.{◌≡◌, ℕ, ◌<◌, List, Some, length, map, get_or, sym, ap, ◌∙◌, arith, zero-add}
use Rattle.std.specs.Prelude.{slice_get}
use Rattle.std.specs.List.{range_with_len}
use Rattle.std.proofs.lemmas.List.{get_or-map, length-map}
use Rattle.std.proofs.lemmas.List.FromFn.{get_or-map-range_with_len, length-map-range_with_len}
use Rattle.std.proofs.lemmas.Option.{get_or_from_slice_get, slice_get_within}
use Rattle.event_ports.specs.declared.port.Port.{Port}
use Rattle.event_device.specs.Device.{Device, IsPortOf, PortSite, number_of, port_site, site_of}

module _ (d : Device) (ports : List Port) (n : ℕ) (sites : map site_of ports ≡ map (port_site d) (range_with_len 0 n)) where
  pub port_count : length ports ≡ n
  port_count = sym (length-map ports site_of) ∙ (ap length sites ∙ length-map-range_with_len (port_site d) 0 n)

  site_here : (i : ℕ) (x : Port) → i < length ports → site_of (get_or ports i x) ≡ port_site d i
  site_here i x there =
      let low : i < n = omega (arith, port_count, there) in
      sym (get_or-map site_of ports i x (site_of x) there) ∙ (ap (λ xs. get_or xs i (site_of x)) sites ∙ get_or-map-range_with_len (port_site d) 0 n i i (site_of x) low (zero-add i))

  pub port_here : n ≡ length d.plan.ports → (i : ℕ) (x : Port) → slice_get ports i ≡ Some x → (number_of x ≡ i) × IsPortOf d x
  port_here count i x here =
      let there : i < length ports = slice_get_within ports i x here in
      let site : site_of x ≡ port_site d i = ap site_of (sym (get_or_from_slice_get ports i x x here)) ∙ site_here i x there in
      let number : number_of x ≡ i = ap (λ (s : PortSite). s.number) site in
      (number, (omega (arith, number, there, port_count, count), site ∙ ap (port_site d) (sym number)))
