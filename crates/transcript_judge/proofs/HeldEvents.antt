-- What a queue's events and keys are after a change.
use Rattle.std.proofs.Common.{◌≡◌, ℕ, ◌+◌, ◌^◌, ◌<◌, ◌≤◌, Bool, true, false, cond, not, ◌&&◌, ◌||◌, ◌==◌, List, [], ◌∷◌, ◌++◌, map, All, Option, Some, None, refl, sym, ap, ◌∙◌, subst, arith, BTreeMap, BTreeSet, nat_cmp}
use Rattle.std.specs.BTreeSet.{contains}
use Rattle.std.specs.List.{list_any}
use Rattle.std.proofs.lemmas.List.Elements.{All-filter, All-nil, All-push, All-weaker}
use Rattle.std.proofs.lemmas.List.Kept.{AllPairs-filter}
use Rattle.std.proofs.lemmas.List.Quantifiers.{all_pairs_push}
use Rattle.std.proofs.lemmas.Option.{none-some}
use Rattle.evt_types.specs.declared.event.Event.{Event}
use Rattle.evt_types.specs.declared.event.Kind.{Kind}
use Rattle.evt_types.specs.declared.event.Numbered.{Numbered}
use Rattle.transcripts.specs.Standing.{event_in, kept_under}
use Rattle.transcript_judge.proofs.KeyLists.{keys_fewer, keys_more, keys_undone}
use Rattle.transcript_judge.proofs.Rising.{others}
use Rattle.transcript_judge.specs.Waiting.{AreHeld, AreKeys, Rise, class_of, is_key, keyed, listed}

-- nothing
pub held_none : (kind : Kind) (m : BTreeMap ℕ Event) (s : BTreeSet ℕ) → m.entries ≡ [] → s.keys ≡ [] → AreHeld kind 0 m s
held_none kind m s events keys =
    let none : listed m ≡ [] = ap (map kept_under) events in
    record {
      rise = subst Rise (sym none) (λ i j d lt within. absurd (omega (arith, within)));
      below = subst (All (λ (w : Numbered). w.number < 0)) (sym none) (All-nil (λ (w : Numbered). w.number < 0));
      few = omega arith;
      keys = λ k. ap (list_any _) keys ∙ sym (ap (list_any _) none);
    }

-- the keys of the same set, or of an equal one
pub held_same : (kind : Kind) (next : ℕ) (m : BTreeMap ℕ Event) (s t : BTreeSet ℕ) → AreHeld kind next m s
    → ((k : ℕ) → contains nat_cmp t k ≡ contains nat_cmp s k) → AreHeld kind next m t
held_same kind next m s t h same = record { rise = h.rise; below = h.below; few = h.few; keys = λ k. same k ∙ h.keys k }

-- a key that came and went
pub held_undone : (kind : Kind) (next : ℕ) (m n : BTreeMap ℕ Event) (s t u : BTreeSet ℕ) (o : Option ℕ) → AreHeld kind next m s → listed n ≡ listed m
    → ((k : ℕ) → contains nat_cmp t k ≡ (is_key (keyed next o) k || contains nat_cmp s k))
    → ((k : ℕ) → contains nat_cmp u k ≡ (not (is_key (keyed next o) k) && contains nat_cmp t k)) → AreHeld kind next n u
held_undone kind next m n s t u o h same more undone = record {
  rise = subst Rise (sym same) h.rise;
  below = subst (All (λ (w : Numbered). w.number < next)) (sym same) h.below;
  few = h.few;
  keys = subst (λ ws. AreKeys kind ws u) (sym same) (keys_undone kind (listed m) o next s t u h.keys h.below (omega (arith, h.few)) more undone);
}

-- one event more
pub held_more : (kind : Kind) (next : ℕ) (m n : BTreeMap ℕ Event) (s t : BTreeSet ℕ) (e : Event) → AreHeld kind next m s → next < 2 ^ 63
    → listed n ≡ listed m ++ kept_under (next, e) ∷ []
    → ((k : ℕ) → contains nat_cmp t k ≡ (is_key (keyed next (class_of kind e)) k || contains nat_cmp s k)) → AreHeld kind (next + 1) n t
held_more kind next m n s t e h few is more = record {
  rise = subst Rise (sym is) (all_pairs_push (λ (v w : Numbered). v.number < w.number) (listed m) (kept_under (next, e)) h.rise h.below);
  below = subst (All (λ (w : Numbered). w.number < next + 1)) (sym is)
      (All-push (λ (w : Numbered). w.number < next + 1) (listed m) (kept_under (next, e))
      (All-weaker (λ (w : Numbered). w.number < next) (λ (w : Numbered). w.number < next + 1) (λ (w : Numbered) lt. omega (arith, lt)) (listed m) h.below) (omega arith));
  few = omega (arith, few);
  keys = subst (λ ws. AreKeys kind ws t) (sym is) (keys_more kind (listed m) (kept_under (next, e)) s t h.keys more);
}

-- an event leaves
all_low : (ws : List Numbered) (next : ℕ) → next ≤ 2 ^ 63 → All (λ (w : Numbered). w.number < next) ws → All (λ (w : Numbered). w.number < 2 ^ 64) ws
all_low ws next few all =
    All-weaker (λ (w : Numbered). w.number < next) (λ (w : Numbered). w.number < 2 ^ 64) (λ (w : Numbered) lt. omega (arith, lt, few)) ws all

pub numbers_low : (kind : Kind) (next : ℕ) (m : BTreeMap ℕ Event) (s : BTreeSet ℕ) → AreHeld kind next m s → All (λ (w : Numbered). w.number < 2 ^ 64) (listed m)
numbers_low kind next m s h = all_low (listed m) next h.few h.below

pub held_fewer : (kind : Kind) (next : ℕ) (m n : BTreeMap ℕ Event) (s t : BTreeSet ℕ) (number : ℕ) (e : Event) → AreHeld kind next m s → number < 2 ^ 64
    → event_in (listed m) number ≡ Some e → listed n ≡ others number (listed m)
    → ((k : ℕ) → contains nat_cmp t k ≡ (not (is_key (keyed number (class_of kind e)) k) && contains nat_cmp s k)) → AreHeld kind next n t
held_fewer kind next m n s t number e h many found is fewer = record {
  rise = subst Rise (sym is) (AllPairs-filter (λ (v w : Numbered). v.number < w.number) (λ (w : Numbered). not (w.number == number)) (listed m) h.rise);
  below = subst (All (λ (w : Numbered). w.number < next)) (sym is) (All-filter (λ (w : Numbered). not (w.number == number)) (λ (w : Numbered). w.number < next) (listed m) h.below);
  few = h.few;
  keys = subst (λ ws. AreKeys kind ws t) (sym is) (keys_fewer kind (listed m) number e s t h.keys h.rise (numbers_low kind next m s h) many found fewer);
}

-- no event has the number
all_others : (ws : List Numbered) (n : ℕ) → event_in ws n ≡ None → others n ws ≡ ws
all_others [] n none = refl
all_others (w ∷ ws) n none = by_case (w.number == n) none (all_others ws n)
  where
    by_case : (b : Bool) → cond b (Some w.event) (event_in ws n) ≡ None → (event_in ws n ≡ None → others n ws ≡ ws)
        → cond (not b) (w ∷ others n ws) (others n ws) ≡ w ∷ ws
    by_case true found rest = absurd (none-some w.event (sym found))
    by_case false missing rest = ap (λ us. w ∷ us) (rest missing)

pub held_kept : (kind : Kind) (next : ℕ) (m n : BTreeMap ℕ Event) (s : BTreeSet ℕ) (number : ℕ) → AreHeld kind next m s → event_in (listed m) number ≡ None
    → listed n ≡ others number (listed m) → AreHeld kind next n s
held_kept kind next m n s number h none is =
    let same : listed n ≡ listed m = is ∙ all_others (listed m) number none in
    record {
      rise = subst Rise (sym same) h.rise;
      below = subst (All (λ (w : Numbered). w.number < next)) (sym same) h.below;
      few = h.few;
      keys = subst (λ ws. AreKeys kind ws s) (sym same) h.keys;
    }
