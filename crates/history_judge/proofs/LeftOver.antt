-- What a history leaves open, entry by entry.
use Rattle.std.specs.Prelude.{ℕ, ◌≡◌, ◌+◌, ◌≤◌, Bool, true, false, cond, List, [], length, nat_le, take, Some, None, slice_get, if◌then◌else◌}
use Rattle.std.specs.BTreeMap.{BTreeMap}
use Rattle.std.specs.List.{cons_option}
use Rattle.std.proofs.Common.{refl, sym, ap, ◌∙◌, arith, length-append}
use Rattle.evt_types.specs.declared.event.Event.{Event}
use Rattle.lists.proofs.Lists.{with_past-push}
use Rattle.lists.proofs.Parts.{take_next}
use Rattle.history_judge.proofs.Fits.{count_more}
use Rattle.history_judge.specs.Left.{AreAllSent, IsOneMore, left_for}
use Rattle.history_judge.specs.Undecided.{AreGot, AreOpen, counts_over, is_over, left_over, over, sends_such}
use Rattle.history_judge.specs.Values.{sends_value, times_got}
use Rattle.history_judge.specs.declared.seen.Deed.{Deed}
use Rattle.history_judge.specs.declared.seen.Seen.{Seen}
use Rattle.history_judge.specs.declared.values.Value.{Value}

-- two tests that agree
such_same : (f g : Event → Bool) (d : Deed) → ((e : Event) → f e ≡ g e) → sends_such f d ≡ sends_such g d
such_same f g d same = ap (λ (test : Event → Bool). sends_such test d) (λ i e. same e i)

one_over : (b : Bool) (s : Seen) → length (cons_option (if b then Some s else None) []) ≡ cond b 1 0
one_over true s = refl
one_over false s = refl

-- one entry more
pub over_more : (hs : List Seen) (i : ℕ) (s : Seen) → slice_get hs i ≡ Some s
    → length (left_over hs (take (i + 1) hs)) ≡ length (left_over hs (take i hs)) + cond (sends_such (is_over hs (take i hs)) s.deed) 1 0
over_more hs i s at =
    omega (
      arith,
      ap (λ xs. length (left_over hs xs)) (take_next hs i s at),
      ap length (with_past-push (over hs) [] (take i hs) s),
      length-append (left_over hs (take i hs)) (cons_option (over hs (take i hs) s) []),
      one_over (sends_such (is_over hs (take i hs)) s.deed) s,
    )

sent_more : (hs : List Seen) (i : ℕ) (s : Seen) (m n : BTreeMap Value ℕ) → slice_get hs i ≡ Some s → AreAllSent (take i hs) m → IsOneMore m n s → AreAllSent (take (i + 1) hs) n
sent_more hs i s m n at are more e = more e ∙ (ap (λ k. k + cond (sends_value e s.deed) 1 0) (are e) ∙ sym (count_more (λ (u : Seen). sends_value e u.deed) hs i s at))

pub open_more : (hs : List Seen) (i : ℕ) (s : Seen) (got before after : BTreeMap Value ℕ) (old new : ℕ) → slice_get hs i ≡ Some s → AreGot hs (length hs) got
    → AreOpen hs i before old → IsOneMore before after s → new ≡ old + cond (sends_such (counts_over got before) s.deed) 1 0 → AreOpen hs (i + 1) after new
open_more hs i s got before after old new at all are more one =
    record {
      sent = sent_more hs i s before after at are.sent more;
      few = omega (arith, one, are.few, at_most (sends_such (counts_over got before) s.deed));
      same =
          one
          ∙ (ap (λ n. n + cond (sends_such (counts_over got before) s.deed) 1 0) are.same
          ∙ (ap (λ t. length (left_over hs (take i hs)) + cond t 1 0) (such_same (counts_over got before) (is_over hs (take i hs)) s.deed agree)
          ∙ sym (over_more hs i s at)));
    }
  where
    at_most : (t : Bool) → cond {A = ℕ} t 1 0 ≤ 1
    at_most true = omega arith
    at_most false = omega arith

    agree : (e : Event) → counts_over got before e ≡ is_over hs (take i hs) e
    agree e = ap (λ n. nat_le n (left_for before e)) (all e) ∙ ap (nat_le (times_got hs e (length hs))) (are.sent e)
