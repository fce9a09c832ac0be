-- One port more is joined.
use Rattle.std.proofs.Common.{◌≡◌, ℕ, ◌+◌, Bool, true, List, [], ◌∷◌, ◌++◌, length, map, refl, sym, ap, ◌∙◌, subst, arith, append-nil, append_assoc, get_or, count_by, sum_by}
use Rattle.std.proofs.lemmas.List.{map-append, length-append, length-map}
use Rattle.std.proofs.lemmas.List.Sums.{sum_by-append}
use Rattle.std.proofs.lemmas.List.Elements.{All-append}
use Rattle.lists.proofs.Sums.{sum_same}
use Rattle.lists.proofs.Parts.{count_by-append}
use Rattle.evt_types.specs.Operation.{is_new_reply}
use Rattle.evt_types.specs.Event.{pair_of}
use Rattle.evt_types.specs.declared.event.Delivery.{Delivery}
use Rattle.evt_types.specs.declared.event.Reply.{Reply}
use Rattle.flow_claims.specs.declared.seating.Past.{Past}
use Rattle.flow_claims.specs.declared.seating.Seating.{Seating}
use Rattle.event_ports.specs.declared.port.Port.{Port}
use Rattle.event_ports.specs.declared.lane.Lane.TheVariants.{Flow}
use Rattle.event_ports.specs.Holds.{AreLinked, answered_past, left_past}
use Rattle.event_ports.specs.declared.lane.Holding.{Holding}
use Rattle.event_ports.specs.Lanes.{IsEndOf, held_of, pair_in}
use Rattle.event_ports.specs.Ports.{hand, links, own_site}
use Rattle.event_ports.proofs.Unanswered.{left_append}
use Rattle.event_ports.specs.Stop.{counted_past, AreLinkedBy, AreStintsOf, HasNoNew, Joins, flows_in, LinksAgree}
use Rattle.event_ports.proofs.Stops.{joined, past_append}

pub sum_one_more : (f : Port → ℕ) (base n m : ℕ) (ports : List Port) (p : Port) → n ≡ base + sum_by f ports → m ≡ n + f p → m ≡ base + sum_by f (ports ++ p ∷ [])
sum_one_more f base n m ports p e g = omega (arith, e, g, sum_by-append f ports (p ∷ []))

pub counts_more : (P : Reply → Bool) (n : ℕ) (port : Port) (before after : Seating) → Joins port before after → counted_past P n after.finished ≡ counted_past P n before.finished + flows_in P n port
counts_more P n port before after j =
    ap (counted_past P n) j.finished ∙ joined P n before.finished j.stints
    ∙ ap (λ x. counted_past P n before.finished + x) (sum_same (λ i. count_by P (answered_past i j.stints)) (λ i. count_by P ((hand port).said (Flow i))) n (λ i. ap (count_by P) (j.lists.answered_is i)))

pub held_more : (port : Port) (before after : Seating) (j : ℕ) → Joins port before after → length (left_past j after.finished) ≡ length (left_past j before.finished) + length (held_of (Flow j) (hand port).holding)
held_more port before after j joins =
    let xs : List Delivery = left_past j before.finished in
    let ys : List Delivery = left_past j joins.stints in
    let both : left_past j after.finished ≡ xs ++ ys = ap (left_past j) joins.finished ∙ left_append j before.finished joins.stints in
    let held : List Holding = held_of (Flow j) (hand port).holding in
    omega (arith, ap length both, length-append xs ys, ap length (joins.lists.held j), length-map held pair_in, length-map ys pair_of)

pub no_new_more : (port : Port) (before after : Seating) → Joins port before after → ((j : ℕ) → count_by is_new_reply ((hand port).said (Flow j)) ≡ 0) → HasNoNew before.finished → HasNoNew after.finished
no_new_more port before after joins none first j =
    let xs : List Reply = answered_past j before.finished in
    let ys : List Reply = answered_past j joins.stints in
    let later : count_by is_new_reply ys ≡ 0 = ap (count_by is_new_reply) (joins.lists.answered_is j) ∙ none j in
    let both : answered_past j after.finished ≡ xs ++ ys = ap (answered_past j) joins.finished ∙ past_append j before.finished joins.stints in
    omega (arith, ap (count_by is_new_reply) both, count_by-append is_new_reply xs ys, first j, later)

pub linked_more : (linked : ℕ → ℕ → Bool) (port : Port) (before after : Seating) → Joins port before after → LinksAgree linked port → AreLinkedBy linked before.finished → AreLinkedBy linked after.finished
linked_more linked port before after j agree all =
    let To : List Past → Type 0 = λ ps. AreLinkedBy linked ps in
    subst To (sym j.finished)
    (All-append (λ (p : Past). linked p.port p.lane ≡ true) before.finished j.stints all
    (λ k d lt. let p : Past = get_or j.stints k d in ap (λ n. linked n p.lane) (j.linked k d lt).0 ∙ agree p.lane (j.linked k d lt).1))

pub stints_more : (ports : List Port) (p : Port) (all its : List Past) → AreStintsOf ports all → IsEndOf (hand p) its → AreLinked (own_site p).number (links p) its → AreStintsOf (ports ++ p ∷ []) (all ++ its)
stints_more [] p all its none lists linked =
    record {
      its = its;
      rest = [];
      both = ap (λ xs. xs ++ its) none ∙ sym (append-nil its);
      lists = lists;
      linked = linked;
      others_are = refl;
    }
stints_more (q ∷ qs) p all its are lists linked =
    record {
      its = are.its;
      rest = are.rest ++ its;
      both = ap (λ xs. xs ++ its) are.both ∙ append_assoc are.its are.rest its;
      lists = are.lists;
      linked = are.linked;
      others_are = stints_more qs p are.rest its are.others_are lists linked;
    }

pub one_more : {A X Y : Type 0} (f : X → A) (g : Y → A) (xs zs : List X) (x : X) (ys : List Y) (y : Y) → zs ≡ xs ++ x ∷ [] → map f xs ≡ map g ys → f x ≡ g y
    → map f zs ≡ map g (ys ++ y ∷ [])
one_more f g xs zs x ys y e same here =
    ap (map f) e ∙ map-append f xs (x ∷ []) ∙ (λ i. same i ++ here i ∷ []) ∙ sym (map-append g ys (y ∷ []))
