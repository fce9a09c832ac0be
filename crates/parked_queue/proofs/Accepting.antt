-- One event more.
use Rattle.std.proofs.Common.{◌≡◌, ◌+◌, ◌<◌, ◌^◌, [], ◌∷◌, ◌++◌, length, set, sym, ap, ◌∙◌, subst, arith}
use Rattle.std.proofs.lemmas.List.{length_push}
use Rattle.std.proofs.lemmas.List.Elements.{All-push, All-weaker}
use Rattle.std.proofs.lemmas.List.Quantifiers.{all_pairs_push}
use Rattle.evt_types.specs.Plan.{level_of}
use Rattle.evt_types.specs.declared.event.Event.{Event}
use Rattle.evt_types.specs.declared.event.Numbered.{Numbered}
use Rattle.small_set.specs.SmallSets.{Has}
use Rattle.parked_queue.specs.Heads.{AreHeads}
use Rattle.parked_queue.specs.Lists.{Lists, list_at, total_of, with_last}
use Rattle.parked_queue.specs.Marks.{Kept, marks_at}
use Rattle.parked_queue.specs.Merge.{lists_of}
use Rattle.parked_queue.specs.Parted.{Parted, below_at, list_in, list_of, list_count, with_waits}
use Rattle.parked_queue.specs.Waits.{Waits, AreWaits, slot_of, with_event}
use Rattle.parked_queue.proofs.Merges.{by_number_length, lists_with}
use Rattle.parked_queue.proofs.Noting.{heads_own}
use Rattle.parked_queue.proofs.Holding.{Holds, view_held, list_held, list_if_not}

-- as many wait as the lists have
pub total_held : (a : Kept) (v : Parted) → Holds a v → total_of a.lists ≡ length v.waits.waiting
total_held a v h = sym (by_number_length a.lists.lists) ∙ ap (λ (x : Parted). length x.waits.waiting) (view_held a v h)

pub waits_with : (q : Waits) (e : Event) → AreWaits q → level_of e < 4 → q.next < 2 ^ 63 → length q.waiting < q.room → AreWaits (with_event q e)
waits_with q e waits lt more fits =
    let w : Numbered = record { number = q.next; event = e } in
    let longer = length_push q.waiting w in
    record {
      rising = all_pairs_push (λ (u x : Numbered). u.number < x.number) q.waiting w waits.rising waits.below;
      below = All-push (λ (x : Numbered). x.number < q.next + 1) q.waiting w (All-weaker (λ (x : Numbered). x.number < q.next) (λ (x : Numbered). x.number < q.next + 1) (λ x h. omega arith) q.waiting waits.below) (omega arith);
      levels = All-push (λ (x : Numbered). level_of x.event < 4) q.waiting w waits.levels lt;
      fits = omega arith;
      within = omega arith;
      some = waits.some;
      few = waits.few;
    }

module _ (a : Kept) (v : Parted) (e : Event) (l : Lists) (h : Holds a v) (lt : level_of e < 4) (is : l ≡ with_last a.lists (level_of e) (record { number = a.next; event = e })) where
  abbrev pub w : Numbered
  w = record { number = v.waits.next; event = e }

  -- no event is parked that comes only now
  main : list_of v.waits.slots v.below w ≡ level_of e
  main = list_if_not v.waits.slots v.below w (h.bounds (level_of e))

  pub lists_accepted : l.lists ≡ lists_of (list_of v.waits.slots v.below) 0 (list_count v.waits.slots) (v.waits.waiting ++ w ∷ [])
  lists_accepted =
      let some = h.waits.some in
      let within : level_of e < list_count v.waits.slots = omega arith in
      ap (λ (x : Lists). x.lists) is
      ∙ (ap (λ n. set a.lists.lists (level_of e) (list_at a.lists (level_of e) ++ record { number = n; event = e } ∷ [])) h.next
      ∙ (ap (λ us. set a.lists.lists (level_of e) (us ++ w ∷ [])) (list_held a v (level_of e) h within)
      ∙ (ap (λ ls. set ls (level_of e) (list_in v (level_of e) ++ w ∷ [])) h.lists
      ∙ sym (subst (λ k. lists_of (list_of v.waits.slots v.below) 0 (list_count v.waits.slots) (v.waits.waiting ++ w ∷ []) ≡ set (lists_of (list_of v.waits.slots v.below) 0 (list_count v.waits.slots) v.waits.waiting) k (list_in v k ++ w ∷ [])) main
      (lists_with (list_of v.waits.slots v.below) (list_count v.waits.slots) v.waits.waiting w (subst (λ k. k < list_count v.waits.slots) (sym main) within))))))

  pub accepted_held : v.waits.next < 2 ^ 63 → length v.waits.waiting < v.waits.room → Holds (record a { lists = l; next = a.next + 1 }) (with_waits v (with_event v.waits e))
  accepted_held more room =
      record {
        waits = waits_with v.waits e h.waits lt more room;
        lists = lists_accepted;
        room = ap (λ (x : Lists). x.room) is ∙ h.room;
        slots = h.slots;
        mask = h.mask;
        next = ap (λ n. n + 1) h.next;
        below = h.below;
        bounds = λ c. let b = h.bounds c in omega arith;
        four = h.four;
        levels = h.levels;
        marks =
            record {
              marked = All-push (λ (u : Numbered). u.number < below_at v.below (level_of u.event) → Has (marks_at a.parked (level_of u.event)) (slot_of v.waits.slots u)) v.waits.waiting w h.marks.marked (λ parked. let b = h.bounds (level_of e) in absurd (omega arith));
              there = h.marks.there;
            };
        heads =
            subst (λ (m : Lists). AreHeads m a.slots a.heads) (sym is)
            (heads_own a.lists a.slots a.heads h.heads (level_of e) (list_at a.lists (level_of e) ++ record { number = a.next; event = e } ∷ []) lt);
      }
