use Rattle.std.proofs.Common.{◌≡◌, ◌∙◌, ℕ, List, [], drop, take, length, ap, sym, subst}
use Rattle.std.proofs.lemmas.List.{nil_from_length}
use Rattle.event_device.proofs.Keeping.{same_site}
use Rattle.event_device.specs.Device.{site_of}
use Rattle.event_ports.specs.Counts.{plus}
use Rattle.event_ports.specs.Ports.{counts_of, hand, links, released_first}
use Rattle.event_ports.specs.declared.counts.PortCounts.{PortCounts}
use Rattle.event_ports.specs.declared.lane.Lane.TheVariants.{Own}
use Rattle.evt_types.specs.declared.event.Delivery.{Delivery}
use Rattle.evt_types.specs.declared.event.Event.{Event}
use Rattle.pipeline_threads.proofs.Answering.{answered_all, answered_owes, dequeued_owes, owes_at, owes_worked, received_more, rests_owes, submitted_got}
use Rattle.pipeline_threads.proofs.Counting.{counted_more}
use Rattle.pipeline_threads.specs.Ports.{AreDue, HasCounted, IsEven, Owes}
use Rattle.run_counts.specs.Looking.{looked}
use Rattle.run_counts.specs.declared.looks.Looks.{Looks}
use Rattle.pipeline_threads.proofs.worker.turn.Goals as goal

look_is : (before : Looks) {after : Looks} {n m : ℕ} → after ≡ looked n before → n ≡ m → after ≡ looked m before
look_is before is same = is ∙ ap (λ n. looked n before) same

pub returns-then-came-eq0 : goal.returns-then-came-eq0
returns-then-came-eq0 g c =
    let actions = c.args.actions.now in
    let before = c.args.port.now in
    let between = c.dequeue_burst.new.self in
    let after = c.shut_seen.new.self in
    let came = c.dequeue_burst.new.into.items in
    let owes : Owes actions (links before) came (hand between) =
    dequeued_owes actions (links before) (released_first before) (hand before) (hand between) came c.requires.even c.in-Ok.ensures.ok in
    let none : came ≡ [] = nil_from_length came (sym c.in-Ok.ensures.count ∙ c.if-came-eq0.true) in
    let site : site_of after ≡ site_of before = same_site between after c.shut_seen.ensures.site c.shut_seen.ensures.credit ∙ same_site before between c.dequeue_burst.ensures.site c.dequeue_burst.ensures.credit in
    let even : IsEven actions after =
    owes_at actions before after [] site
    (rests_owes actions (links before) [] (hand between) (hand after) (subst (λ (ds : List Delivery). Owes actions (links before) ds (hand between)) none owes) c.shut_seen.ensures.same.0) in
    let dequeued : (counts_of after).dequeued ≡ plus (counts_of before).dequeued (length came) =
    ap (λ (x : PortCounts). x.dequeued) (c.shut_seen.ensures.counted ∙ c.in-Ok.ensures.counted) in
    let counted : HasCounted after =
    counted_more before after came site c.requires.counted
    (λ none. c.shut_seen.ensures.same.0.got Own ∙ received_more (links before) (released_first before) (hand before) (hand between) came none c.in-Ok.ensures.ok) dequeued in
    record {
      site = site;
      even = λ on. even;
      worked = owes_worked actions after [] even counted;
      looked = (length came, look_is _ c.count.ensures c.in-Ok.ensures.count, dequeued);
    }

pub returns : goal.returns
returns g c =
    let actions = c.args.actions.now in
    let before = c.args.port.now in
    let between = c.dequeue_burst.new.self in
    let after = c.submit_all.new.port in
    let came = c.dequeue_burst.new.into.items in
    let front = c.submit_all.ensures.front in
    let owes : Owes actions (links before) came (hand between) =
    dequeued_owes actions (links before) (released_first before) (hand before) (hand between) came c.requires.even c.in-Ok.ensures.ok in
    let due : AreDue actions came c.answer_each.new.answers.items =
    subst (λ (ds : List Delivery). AreDue actions ds c.answer_each.new.answers.items) c.as_slice.ensures c.answer_each.ensures in
    let answers : AreDue actions came c.deref.result.now = subst (λ (es : List Event). AreDue actions came es) (sym c.deref.ensures.0) due in
    let site : site_of after ≡ site_of before = c.submit_all.ensures.site ∙ same_site before between c.dequeue_burst.ensures.site c.dequeue_burst.ensures.credit in
    let dequeued : (counts_of after).dequeued ≡ plus (counts_of before).dequeued (length came) =
    c.submit_all.ensures.dequeued ∙ ap (λ (x : PortCounts). x.dequeued) c.in-Ok.ensures.counted in
    let counted : HasCounted after =
    counted_more before after came site c.requires.counted
    (λ none.
    submitted_got (take front.0 c.deref.result.now) (hand between) (hand after) front.1
    ∙ received_more (links before) (released_first before) (hand before) (hand between) came none c.in-Ok.ensures.ok) dequeued in
    record {
      site = site;
      even = λ taken. owes_at actions before after [] site (answered_all actions (links before) came c.deref.result.now (hand between) (hand after) owes answers (c.submit_all.ensures.all taken));
      worked = owes_worked actions after (drop front.0 came)
          (owes_at actions before after (drop front.0 came) site (answered_owes actions (links before) came c.deref.result.now front.0 (hand between) (hand after) owes answers front.1))
          counted;
      looked = (length came, look_is _ c.count.ensures c.in-Ok.ensures.count, dequeued);
    }
