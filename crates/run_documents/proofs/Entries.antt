-- The events of a trace by their words.
use Rattle.std.proofs.Common.{◌≡◌, ℕ, ◌-◌, ◌<◌, ◌^◌, Bool, true, false, nat_lt, List, Option, Some, refl, sym, ap}
use Rattle.std.proofs.Props.{props}
use Rattle.std.proofs.lemmas.Bool.{lt-ltb, ltb-true, false≢true}
use Rattle.pipeline_laws.specs.declared.stage.Entry.{Entry}
use Rattle.play_documents.specs.Numbers.{flows, most_byte}
use Rattle.play_documents.specs.Words.{number}
use Rattle.run_documents.specs.Trace.{entry_by, entry_of, entry_where}

-- the fact on the flow adds nothing
entry_where-is : (t : Entry) (fits : Bool) (e : nat_lt t.flow flows ≡ fits) → fits ≡ true → entry_where t.flow t.priority t.payload fits e ≡ Some t
entry_where-is t true e is =
    let is_prop : IsProp (t.flow < 2 ^ 20) = hlevel props in
    ap (λ (fact : t.flow < 2 ^ 20). Some (record { flow = t.flow; priority = t.priority; payload = t.payload; flow_fits = fact })) (is_prop (ltb-true t.flow flows e) t.flow_fits)
entry_where-is t false e is = absurd (false≢true is)

entry_of-is : (t : Entry) → entry_of t.flow t.priority t.payload ≡ Some t
entry_of-is t = entry_where-is t (nat_lt t.flow flows) refl (lt-ltb t.flow flows t.flow_fits)

pub entry_by-is : (n q y : ℕ) (fits : n < 2 ^ 20) (f p x : List ℕ) → Some n ≡ number (flows - 1) f → Some q ≡ number most_byte p → Some y ≡ number (2 ^ 64 - 1) x
    → ◌≡◌ {A = Option Entry} (Some (record { flow = n; priority = q; payload = y; flow_fits = fits })) (entry_by f p x)
unfolding entry_by
entry_by-is n q y fits f p x flow priority payload =
    let t : Entry = record { flow = n; priority = q; payload = y; flow_fits = fits } in
    rw (← flow, ← priority, ← payload) (sym (entry_of-is t))
