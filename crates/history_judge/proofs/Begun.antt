-- When the first call for each value began, entry by entry.
use Rattle.std.specs.Prelude.{ℕ, ◌≡◌, ◌<◌, Bool, true, false, cond, List, length, nat_le, nat_lt, Option, Some, slice_get}
use Rattle.std.specs.BTreeMap.{BTreeMap, Updates, get, is_at}
use Rattle.std.proofs.Common.{refl, sym, ap, ◌∙◌, arith}
use Rattle.std.proofs.lemmas.Bool.{false≢true, ltb-false, not-false, not-true}
use Rattle.std.proofs.lemmas.Option.{same_Some, slice_get_within}
use Rattle.evt_types.specs.declared.event.Event.{Event}
use Rattle.history_judge.proofs.Lefts.{is_at_value}
use Rattle.history_judge.specs.Begins.{AreBegun, BeginsAt, got_early, gets_early, has_begun, is_by}
use Rattle.history_judge.specs.Left.{value_cmp, value_of}
use Rattle.history_judge.specs.Values.{IsPremature, times_begun}
use Rattle.history_judge.specs.declared.seen.Deed.{Deed}
use Rattle.history_judge.specs.declared.seen.Deed.TheVariants.{Sent, Got}
use Rattle.history_judge.specs.declared.seen.Seen.{Seen}
use Rattle.history_judge.specs.declared.values.Value.{Value}

-- ---- one time is written

by_or : (b : Bool) (t began : ℕ) (o : Option ℕ) → is_by t (cond b (Some began) o) ≡ cond b (nat_le began t) (is_by t o)
by_or true t began o = refl
by_or false t began o = refl

pub begin_set : (m n : BTreeMap Value ℕ) (e : Event) (began : ℕ) → Updates value_cmp m n (value_of e) (Some began) → BeginsAt m n e began
begin_set m n e began updates f t =
    ap (is_by t) (updates.0 (value_of f))
    ∙ (by_or (is_at (value_cmp (value_of e)) (value_of f)) t began (get value_cmp m (value_of f))
    ∙ ap (λ b. cond b (nat_le began t) (has_begun m f t)) (is_at_value e f))

-- ---- how it is found

pub premature_by : (hs : List Seen) (i : ℕ) (s : Seen) (m : BTreeMap Value ℕ) → slice_get hs i ≡ Some s → AreBegun hs m → got_early m s ≡ true → IsPremature hs i
premature_by hs i s m at are early = by_deed s.deed refl early
  where
    by_deed : (d : Deed) → s.deed ≡ d → gets_early m s.ended d ≡ true → IsPremature hs i
    by_deed (Sent r) deed is = absurd (false≢true is)
    by_deed (Got e) deed is =
        let unbegun : has_begun m e s.ended ≡ false = not-true (has_begun m e s.ended) is in
        record { seen = s; entry = at; event = e; got = deed; none = omega (arith, ltb-false 0 (times_begun hs e s.ended) (sym (are e s.ended) ∙ unbegun)) }

pub not_premature : (hs : List Seen) (i : ℕ) (s : Seen) (m : BTreeMap Value ℕ) → slice_get hs i ≡ Some s → AreBegun hs m → got_early m s ≡ false → ¬ IsPremature hs i
not_premature hs i s m at are timely bad =
    false≢true (sym unbegun ∙ not-false (has_begun m bad.event s.ended) (ap (gets_early m s.ended) (sym deed) ∙ timely))
  where
    same : bad.seen ≡ s
    same = same_Some bad.seen s (sym bad.entry ∙ at)

    deed : s.deed ≡ Got bad.event
    deed = ap (λ (u : Seen). u.deed) (sym same) ∙ bad.got

    unbegun : has_begun m bad.event s.ended ≡ false
    unbegun =
        are bad.event s.ended
        ∙ (ap (λ (u : Seen). nat_lt 0 (times_begun hs bad.event u.ended)) (sym same) ∙ ap (nat_lt 0) bad.none)

pub premature_within : (hs : List Seen) (i : ℕ) → IsPremature hs i → i < length hs
premature_within hs i bad = slice_get_within hs i bad.seen bad.entry
