-- The rule holds of new claims, and the ends come back in their order.
use Rattle.std.proofs.Common.{rules, ◌≡◌, ◌∙◌, ◌+◌, ℕ, List, Option, replicate, length, ap, sym, subst}
use Rattle.atomic_table.specs.Table.{opening}
use Rattle.lane_rings.specs.declared.far.Far.{Far}
use Rattle.flow_claims.specs.Seats.{first_seating}
use Rattle.flow_claims.specs.Rule.{Claimed}
use Rattle.flow_claims.proofs.Starts.{starts}
use Rattle.flow_claims.proofs.Calls.{map_some}
use Rattle.flow_claims.proofs.claims.Claims.new.Goals as goal

pub new-requires : goal.new-requires
new-requires c =
    let lanes : List Far = c.args.ends.items in
    let about : c.of-about.result.value.items ≡ lanes = search rules in
    let count : c.len.result ≡ length lanes = search rules in
    let words : c.deref.result.now ≡ replicate (length lanes + 1) 0 =
    c.deref.ensures.value ∙ c.in-Ok.ensures.items_if_clones_equal (λ y e. e) ∙ ap (λ (n : ℕ). replicate (n + 1) 0) count in
    let Starts : List Far → List ℕ → List (Option Far) → Type 0 = λ ls ws ss. Claimed ls (opening ws ss (first_seating ls)) in
    subst (λ ls. Starts ls c.deref.result.now c.in-Ok-wrapped.wrapped.0.items) (sym about)
    (subst (λ ws. Starts lanes ws c.in-Ok-wrapped.wrapped.0.items) (sym words)
    (subst (Starts lanes (replicate (length lanes + 1) 0)) (sym c.in-Ok-wrapped.ensures.slots) (starts lanes c.requires)))

pub returns-clause-back : goal.returns-clause-back
returns-clause-back c =
    let back : c.in-Err-new.field-0.slots.items ≡ c.in-Ok-wrapped.wrapped.0.items = search rules in
    map_some c.unwrapped.result.items c.args.ends.items (c.unwrapped.ensures ∙ back ∙ c.in-Ok-wrapped.ensures.slots)
