-- What was read is what the port is handed, and it is still the same port.
use Rattle.std.proofs.Common.{◌≡◌, ℕ, ◌≤◌, min, List, length, take, refl, subst, ap, ◌∙◌, map, ◌↔◌, sym, arith}
use Rattle.std.specs.List.{AllZip}
use Rattle.std.specs.Option.{IsNone}
use Rattle.std.proofs.lemmas.Int.{ints}
use Rattle.std.proofs.lemmas.List.{length-map, length-take, length-take-le, take_min}
use Rattle.evt_types.specs.declared.event.Event.{Event}
use Rattle.evt_types.specs.declared.event.Reply.{Reply}
use Rattle.event_handles.specs.Events.{IsRead}
use Rattle.event_handles.specs.declared.event.CEvent.{CEvent}
use Rattle.event_device.proofs.Keeping.{same_site}
use Rattle.event_handles.proofs.port.Seat.enqueue.Goals as goal

pub returns : goal.returns
returns c =
    let burst = c.enqueue_packed-taken.ensures in
    let count : c.min-count.result ≡ min 64 (length c.args.events.now) = omega arith in
    let within : c.min-count.result ≤ length c.args.events.now = omega arith in
    let front : take c.min-count.result c.args.events.now ≡ take 64 c.args.events.now = ap (λ n. take n c.args.events.now) count ∙ take_min 64 c.args.events.now in
    let counted : length (take c.min-count.result c.args.events.now) ≡ c.min-count.result = length-take-le _ _ within in
    let events : List Event = map (λ (r : Reply). r.event) (take c.min-count.result c.read_all.new.replies) in
    let many : length events ≡ length (take c.min-count.result c.read_all.new.replies) = length-map (take c.min-count.result c.read_all.new.replies) (λ (r : Reply). r.event) in
    let few : c.enqueue_packed-taken.result.0 ≤ 64 = omega (arith, burst.count, length-take c.min-count.result c.read_all.new.replies) in
    record {
      events = events;
      read = subst (λ (given : List CEvent). AllZip IsRead given events) front
          (subst (λ (n : ℕ). AllZip IsRead (take c.min-count.result c.args.events.now) (map (λ (r : Reply). r.event) (take n c.read_all.new.replies))) counted c.read_all.ensures);
      n = c.enqueue_packed-taken.result.0;
      end = c.enqueue_packed-taken.result.1;
      submits = record {
        own = burst.site;
        credit = burst.credit;
        site = same_site c.args.self.now.port c.enqueue_packed-taken.new.self burst.site burst.credit;
        count = omega (arith, burst.count, many);
        all = subst (λ (k : ℕ). IsNone c.enqueue_packed-taken.result.1 ↔ (c.enqueue_packed-taken.result.0 ≡ k)) (sym many) burst.all;
        submitted = burst.submitted;
        there = burst.there;
        refused = burst.refused;
        singly = burst.singly;
        counted = burst.counted;
        taken = burst.taken;
      };
      answered = omega (arith, ints, few);
      why = omega (arith, ints, c.number_of_end-self.ensures);
      kinds = refl;
    }
