-- Which operation, and which deed, a text begins with.
use Rattle.std.proofs.Common.{◌≡◌, ◌≢◌, ℕ, List, ◌++◌, get_or, drop, refl, sym, ap, ◌∙◌, arith}
use Rattle.std.specs.Prelude.{codes}
use Rattle.evt_types.specs.declared.event.Event.{Event}
use Rattle.evt_types.specs.declared.event.Op.{Op}
use Rattle.evt_types.specs.declared.event.Op.TheVariants as ops
use Rattle.evt_types.specs.declared.event.Reply.{Reply}
use Rattle.history_judge.specs.declared.seen.Deed.{Deed}
use Rattle.history_judge.specs.declared.seen.Deed.TheVariants.{Sent, Got}
use Rattle.history_reading.specs.Texts.{op_text, event_text, deed_text}

-- what begins with `forward`, and not with `forward-more`
pub forward-only : (text rest : List ℕ) → text ≡ codes "forward" ++ rest → ((more : List ℕ) → text ≢ codes "forward-more" ++ more) → (o : Op) (e : Event) (more : List ℕ) → text ≡ op_text o ++ event_text e more
    → (ops.Forward ≡ o) × (rest ≡ event_text e more)
forward-only text rest is other ops.New e more h = let one : 102 ≡ 110 = ap (λ l. get_or l 0 0) (sym is ∙ h) in absurd (omega (arith, one))
forward-only text rest is other ops.Forward e more h = (refl, ap (drop 7) (sym is ∙ h))
forward-only text rest is other ops.Release e more h = let one : 102 ≡ 114 = ap (λ l. get_or l 0 0) (sym is ∙ h) in absurd (omega (arith, one))
forward-only text rest is other ops.ForwardMore e more h = absurd (other (event_text e more) h)

-- what begins with `sent`
pub sent-only : (text rest : List ℕ) → text ≡ codes ",\"sent\":\"" ++ rest → (d : Deed) (more : List ℕ) → text ≡ deed_text d more → (r : Reply) × (d ≡ Sent r) × (rest ≡ op_text r.event.op ++ event_text r.event more)
sent-only text rest is (Sent r) more h = (r, refl, ap (drop 9) (sym is ∙ h))
sent-only text rest is (Got e) more h = let one : 115 ≡ 103 = ap (λ l. get_or l 2 0) (sym is ∙ h) in absurd (omega (arith, one))

-- what begins with `got`
pub got-only : (text rest : List ℕ) → text ≡ codes ",\"got\":\"" ++ rest → (d : Deed) (more : List ℕ) → text ≡ deed_text d more → (e : Event) × (d ≡ Got e) × (rest ≡ op_text e.op ++ event_text e more)
got-only text rest is (Sent r) more h = let one : 103 ≡ 115 = ap (λ l. get_or l 2 0) (sym is ∙ h) in absurd (omega (arith, one))
got-only text rest is (Got e) more h = (e, refl, ap (drop 8) (sym is ∙ h))

pub sent-same : (r : Reply) (x : Event) → x ≡ r.event → Sent (record { event = x }) ≡ Sent r
sent-same r x e = ap (λ y. Sent (record { event = y })) e
