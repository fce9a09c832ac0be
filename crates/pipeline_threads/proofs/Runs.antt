-- Runs of a device's ports: of none of them, and of one more, whose thread is joined.
use Rattle.std.proofs.Common.{◌≡◌, ◌≢◌, ℕ, ◌+◌, ◌<◌, ◌≤◌, inl, inr, Some, None, Bool, List, [], ◌∷◌, ◌++◌, length, get_or, set, sym, ap, subst, ◌∙◌, arith}
use Rattle.std.proofs.lemmas.List.{get_or_append_left, get_or_push, length_push}
use Rattle.std.specs.Prelude.{Option, slice_get}
use Rattle.std.proofs.Math.Nat.{eq-or-lt_of_le}
use Rattle.event_ports.specs.declared.port.Port.{Port}
use Rattle.event_device.proofs.Homes.{in_home, read_here}
use Rattle.event_device.proofs.InOrder.{port_count}
use Rattle.event_device.specs.Start.{IsFresh}
use Rattle.evt_types.specs.Plan.{Plan}
use Rattle.lists.proofs.Lists.{All-slice_get, slice_get-some}
use Rattle.lists.proofs.Writes.{slice_get-set_other}
use Rattle.event_ports.specs.Counts.{no_counts}
use Rattle.event_ports.specs.Lanes.{IsEmptyHand}
use Rattle.event_ports.specs.Ports.{counts_of, hand, pocket_of}
use Rattle.event_device.specs.Device.{IsPortOf, PortSite, number_of, port_site}
use Rattle.event_device.specs.Lent.{ComesBack, IsAway, Keeps, Leaves, Shuts, ShutsBy}
use Rattle.event_device.specs.Parts.{Parts, device_of}
use Rattle.event_device.specs.declared.control.Control.{Control}
use Rattle.pipeline_laws.specs.declared.stage.Action.{Action}
use Rattle.pipeline_laws.specs.declared.stage.Entry.{Entry}
use Rattle.pipeline_threads.specs.Ports.{IsIdle, IsPromised, Returns}
use Rattle.pipeline_threads.specs.declared.promise.Worked.{Worked}
use Rattle.pipeline_threads.specs.Run.{AreIdle, ArePortWorks, HasRun, IsBack, IsDone, IsPortWork}
use Rattle.run_counts.specs.Looking.{HasLooked}
use Rattle.run_counts.specs.declared.looks.PortWork.{PortWork}

-- ---- none of them

-- what shuts a device changes the control alone
shut_is : (o : Option Control) (shut : Bool) (m q : Parts) → ShutsBy o shut m q → (control : Option Control) × (q ≡ record m { control = control })
shut_is None shut m q h = (m.control, h.1)
shut_is (Some c) shut m q h = (Some h.1.0, h.1.3)

module _ (actions : List Action) (trace : List Entry) where
  -- after the sweeps it is shut
  pub none_run : (r m q : Parts) (shut : Bool) → Keeps r m → device_of m ≡ device_of r → Shuts shut m q → IsDone trace m → HasRun actions trace 0 r q
  none_run r m q shut keeps device shuts done =
      let is = shut_is m.control shut m q shuts in
      subst (HasRun actions trace 0 r) (sym is.1)
      (record { device = device; back = λ n low. absurd (omega (arith, low)); others = λ n le. ap (λ (x : Parts). slice_get x.ports n) keeps; done = done })

-- ---- one more

-- all ports of a device just made are idle
pub fresh_idle : (p : Plan) (r : Parts) → IsFresh p r → AreIdle (length p.ports) r
fresh_idle p r fresh n low =
    let count : length fresh.ports ≡ length p.ports = port_count (device_of r) fresh.ports (length (device_of r).plan.ports) fresh.ports_are ∙ ap (λ (x : Plan). length x.ports) fresh.plan in
    let here = slice_get-some fresh.ports n (omega (arith, low, count)) in
    let empty = All-slice_get (λ x. IsEmptyHand (hand x) × (pocket_of x ≡ 0)) fresh.ports n here.0 fresh.empty here.1 in
    let counted = All-slice_get (λ x. counts_of x ≡ no_counts) fresh.ports n here.0 fresh.uncounted here.1 in
    (here.0, ap (λ homes. slice_get homes n) fresh.at_home ∙ in_home fresh.ports n here.0 here.1, (empty.0, counted))

-- an idle port is at home
pub none_away : (count n : ℕ) (r : Parts) → AreIdle count r → n < count → IsAway n r → ⊥
none_away count n r idle low away = let there = idle n low in away there.0 there.1

module _ (n : ℕ) (r s : Parts) (port : Port) (leaves : Leaves n port r s) where
  pub idle_port : (count : ℕ) → AreIdle count r → n < count → IsIdle port
  idle_port count idle low = let there = idle n low in let same : there.0 ≡ port = cc (there.1, leaves.was_home) in subst IsIdle same there.2

  -- those before it stay where they are
  pub idle_others : (count : ℕ) → AreIdle count r → n < count → AreIdle n s
  idle_others count idle low k lower =
      let there = idle k (omega (arith, low, lower)) in
      (there.0, ap (λ (x : Parts). slice_get x.ports k) leaves.away ∙ (slice_get-set_other r.ports n k None (λ same. omega (arith, lower, same)) ∙ there.1), there.2)

  module _ (actions : List Action) (trace : List Entry) (m : Parts) (run : HasRun actions trace n s m) (worked : Worked) (returns : Returns actions trace port worked) where
    abbrev back : Port
    back = worked.port

    same_number : number_of back ≡ number_of port
    same_number = ap (λ (x : PortSite). x.number) returns.site

    number : number_of back ≡ n
    number = same_number ∙ leaves.number

    device : device_of m ≡ device_of r
    device = run.device ∙ ap device_of leaves.away

    -- it is still a port of the device
    pub back_of : IsPortOf (device_of m) back
    back_of =
        let is = leaves.of_device in
        subst (λ d. IsPortOf d back) (sym device)
        (subst (λ k. k < length (device_of r).plan.ports) (sym same_number) is.0, returns.site ∙ (is.1 ∙ ap (port_site (device_of r)) (sym same_number)))

    -- whose home is empty
    pub still_empty : slice_get m.ports (number_of back) ≡ Some None
    still_empty =
        ap (slice_get m.ports) number
        ∙ (run.others n (omega arith) ∙ (ap (λ (x : Parts). slice_get x.ports n) leaves.away ∙ read_here r.ports n None (Some port) leaves.was_home))

    -- once it is at home
    abbrev homes : List (Option Port)
    homes = set m.ports n (Some back)

    at_home : (q : Parts) → ComesBack back m q → q ≡ record m { ports = homes }
    at_home q comes = comes.at_home ∙ ap (λ k. record m { ports = set m.ports k (Some back) }) number

    home_here : slice_get homes n ≡ Some (Some back)
    home_here = read_here m.ports n (Some back) None (ap (slice_get m.ports) (sym number) ∙ still_empty)

    elsewhere : (k : ℕ) → k ≢ n → slice_get homes k ≡ slice_get m.ports k
    elsewhere k other = slice_get-set_other m.ports n k (Some back) other

    -- what was counted of it, and of those before it
    pub works_more : (count : ℕ) (q : Parts) (works : List PortWork) (w : PortWork) → count ≡ n + 1 → ComesBack back m q → ArePortWorks n m works → w.port ≡ number_of back → w.counts ≡ counts_of back
        → w.looks ≡ worked.looks → ArePortWorks count q (works ++ w ∷ [])
    works_more count q works w count_is comes was port counts looks =
        subst (λ (x : Parts). ArePortWorks count x (works ++ w ∷ [])) (sym (at_home q comes))
        (record {
          count_is = omega (arith, length_push works w, was.count_is, count_is);
          each = λ k d other low home. elim (eq-or-lt_of_le (omega (arith, low, count_is))) [ inl same ↦ here k d other same home | inr lower ↦ before k d other lower home ];
        })
      where
        here : (k : ℕ) (d : PortWork) (other : Port) → k ≡ n → slice_get homes k ≡ Some (Some other) → IsPortWork k other (get_or (works ++ w ∷ []) k d)
        here k d other same home =
            let is : back ≡ other = cc (home_here, ap (slice_get homes) (sym same) ∙ home) in
            let last : get_or (works ++ w ∷ []) k d ≡ w = get_or_push works w d k (was.count_is ∙ sym same) in
            subst (λ x. IsPortWork k other x) (sym last)
            (record {
              port = port ∙ (number ∙ sym same);
              counts = counts ∙ ap counts_of is;
              looked = subst (λ x. HasLooked no_counts x w.looks) (sym counts) (subst (λ x. HasLooked no_counts (counts_of back) x) (sym looks) returns.looked);
            })

        before : (k : ℕ) (d : PortWork) (other : Port) → k < n → slice_get homes k ≡ Some (Some other) → IsPortWork k other (get_or (works ++ w ∷ []) k d)
        before k d other low home =
            subst (λ x. IsPortWork k other x) (sym (get_or_append_left works (w ∷ []) d k (omega (arith, low, was.count_is))))
            (was.each k d other low (sym (elsewhere k (λ same. omega (arith, low, same))) ∙ home))

    pub one_more : (count : ℕ) (q : Parts) → count ≡ n + 1 → ComesBack back m q → HasRun actions trace count r q
    one_more count q count_is comes =
        subst (HasRun actions trace count r) (sym (at_home q comes))
        (record {
          device = device;
          back = λ k low. elim (eq-or-lt_of_le (most k low)) [ inl same ↦ here k same | inr lower ↦ before k lower ];
          others = λ k le. elsewhere k (λ same. omega (arith, le, same, count_is)) ∙ (run.others k (omega (arith, le, count_is)) ∙ left k (λ same. omega (arith, le, same, count_is)));
          done = run.done;
        })
      where
        most : (k : ℕ) → k < count → k ≤ n
        most k low = omega (arith, low, count_is)

        left : (k : ℕ) → k ≢ n → slice_get s.ports k ≡ slice_get r.ports k
        left k other = ap (λ (x : Parts). slice_get x.ports k) leaves.away ∙ slice_get-set_other r.ports n k None other

        here : (k : ℕ) → k ≡ n → IsBack actions trace k (record m { ports = homes })
        here k same =
            subst (λ i. IsBack actions trace i (record m { ports = homes })) (sym same)
            (record {
              port = back;
              at_home = home_here;
              site = back_of.1 ∙ ap (port_site (device_of m)) number;
              promised = subst (λ i. IsPromised actions trace i back) leaves.number returns.promised;
            })

        before : (k : ℕ) → k < n → IsBack actions trace k (record m { ports = homes })
        before k low =
            let was = run.back k low in
            record { port = was.port; at_home = elsewhere k (λ same. omega (arith, low, same)) ∙ was.at_home; site = was.site; promised = was.promised }
