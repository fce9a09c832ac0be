-- The words of what waits, once a queue is another.
use Rattle.std.proofs.Common.{◌≡◌, ℕ, ◌<◌, List, [], filter, length, set, get_or, sym, ap, ◌∙◌, subst, ⊎_elim}
use Rattle.std.proofs.lemmas.Bool.{cases_eq}
use Rattle.std.proofs.lemmas.List.{nil_from_length, set-get_or}
use Rattle.evt_types.specs.Plan.{level_of}
use Rattle.evt_types.specs.declared.event.Event.{Event}
use Rattle.small_set.specs.SmallSets.{Has, SameBut}
use Rattle.small_set.specs.declared.set.SmallSet.{SmallSet}
use Rattle.parked_queue.specs.Busy.{AreNoted}
use Rattle.parked_queue.specs.LevelSets.{AreLevels, levels_at, members}
use Rattle.parked_queue.specs.Lists.{numbered}
use Rattle.parked_queue.specs.Waits.{AreNamed, HasNoneOf, Waits, is_other, no_waits, waits_at, with_event, without_number}
use Rattle.parked_queue.specs.declared.level.Levels.{Levels}
use Rattle.parked_queue.proofs.Busy.{busy_set}
use Rattle.parked_queue.proofs.Firsts.{levels_still, levels_with, levels_without, none_of_empty}
use Rattle.parked_queue.proofs.Named.{named_less, named_more, named_set}
use Rattle.parked_queue.proofs.LevelSets.{levels_kept, levels_read, levels_set, levels_there}

-- a level of which nothing waits is no longer looked at
levels_less : (w : Waits) (c : ℕ) (was now : Levels) → AreLevels w was → SameBut c (members was) (members now) → HasNoneOf w c → AreLevels w now
levels_less w c was now are others none = record { rest = λ k never. ⊎_elim (λ e. subst (HasNoneOf w) (sym e) none) (λ ne. are.rest k (λ has. never ((others k ne).1 has))) (cases_eq k c) }

module _ (all qs : List Waits) (ls : List Levels) (busy : SmallSet) (q : ℕ) (noted : AreNoted all ls busy) (view : all ≡ qs) (lt : q < length qs) where
  are : AreNoted qs ls busy
  are = subst (λ ws. AreNoted ws ls busy) view noted

  -- the events of the queue name it
  pub names_here : AreNamed q (waits_at qs q).waiting
  names_here = are.named q

  pub noted_there : q < length ls
  noted_there = levels_there qs ls q are.levels lt

  -- the levels as they are read
  of_read : (was : Levels) → was ≡ get_or ls q was → AreLevels (waits_at qs q) was
  of_read was read = subst (AreLevels (waits_at qs q)) (sym (read ∙ levels_read qs ls q are.levels lt was)) (are.levels.each q lt)

  -- the same waits as before
  pub noted_still : AreNoted (set qs q (waits_at qs q)) ls busy
  noted_still = subst (λ ws. AreNoted ws ls busy) (sym (set-get_or qs q (no_waits 1 0))) are

  -- a level of which nothing waits has left
  pub emptied : (c : ℕ) (was now : Levels) → was ≡ get_or ls q was → SameBut c (members was) (members now) → HasNoneOf (waits_at qs q) c → AreNoted (set qs q (waits_at qs q)) (set ls q now) busy
  emptied c was now read others none =
      record {
        levels = levels_set qs ls q are.levels lt (waits_at qs q) now (levels_less (waits_at qs q) c was now (of_read was read) others none);
        busy = noted_still.busy;
        named = noted_still.named;
      }

  -- the first event of a level has come
  pub noted_first : (e : Event) → e.queue ≡ q → (was now : Levels) (many : SmallSet) → was ≡ get_or ls q was → Has (members now) (level_of e) → SameBut (level_of e) (members was) (members now) → Has many q → SameBut q busy many → AreNoted (set qs q (with_event (waits_at qs q) e)) (set ls q now) many
  noted_first e names was now many read has others into same =
      record {
        levels = levels_set qs ls q are.levels lt (with_event (waits_at qs q) e) now (levels_with (waits_at qs q) e was now has others (of_read was read));
        busy = busy_set qs q (with_event (waits_at qs q) e) busy many are.busy lt same (λ never. absurd (never into));
        named = named_set qs q (with_event (waits_at qs q) e) are.named lt (named_more q (waits_at qs q).waiting (numbered (waits_at qs q).next e) (are.named q) names);
      }

  -- one more has come
  pub noted_more : (e : Event) → e.queue ≡ q → ¬ HasNoneOf (waits_at qs q) (level_of e) → AreNoted (set qs q (with_event (waits_at qs q) e)) ls busy
  noted_more e names some =
      record {
        levels = levels_kept qs ls q are.levels lt (with_event (waits_at qs q) e) (levels_still (waits_at qs q) e (levels_at ls q) some (are.levels.each q lt));
        busy =
            busy_set qs q (with_event (waits_at qs q) e) busy busy are.busy lt (λ k ne. ((λ has. has), (λ has. has)))
            (λ never. absurd (some (none_of_empty (waits_at qs q) (level_of e) (are.busy.rest q never))));
        named = named_set qs q (with_event (waits_at qs q) e) are.named lt (named_more q (waits_at qs q).waiting (numbered (waits_at qs q).next e) (are.named q) names);
      }

  -- an event has left
  noted_without : (n : ℕ) (now : SmallSet) → SameBut q busy now → ((¬ Has now q) → (without_number (waits_at qs q) n).waiting ≡ []) → AreNoted (set qs q (without_number (waits_at qs q) n)) ls now
  noted_without n now same none =
      record {
        levels = levels_kept qs ls q are.levels lt (without_number (waits_at qs q) n) (levels_without (waits_at qs q) n (levels_at ls q) (are.levels.each q lt));
        busy = busy_set qs q (without_number (waits_at qs q) n) busy now are.busy lt same none;
        named = named_set qs q (without_number (waits_at qs q) n) are.named lt (named_less q n (waits_at qs q).waiting (are.named q));
      }

  -- as the last one, or not
  pub noted_last : (n : ℕ) (now : SmallSet) → SameBut q busy now → length (without_number (waits_at qs q) n).waiting ≡ 0 → AreNoted (set qs q (without_number (waits_at qs q) n)) ls now
  noted_last n now same none = noted_without n now same (λ never. nil_from_length (without_number (waits_at qs q) n).waiting none)

  pub noted_less : (n : ℕ) → AreNoted (set qs q (without_number (waits_at qs q) n)) ls busy
  noted_less n = noted_without n busy (λ k ne. ((λ has. has), (λ has. has))) (λ never. ap (filter (is_other n)) (are.busy.rest q never))
