-- A round goes on once an event more is dealt.
use Rattle.std.proofs.Common.{◌≡◌, ◌≢◌, ℕ, ◌+◌, ◌<◌, List, [], ◌∷◌, ◌++◌, length, ⊎_elim, sym, ap, ◌∙◌, arith}
use Rattle.std.proofs.lemmas.Bool.{cases_eq}
use Rattle.std.proofs.lemmas.List.{get_or-set_other, get_or-set_same, length_push}
use Rattle.order_parts.specs.Dealing.{loads_in, with_entry}
use Rattle.order_parts.specs.Histories.{lane_in}
use Rattle.order_parts.specs.History.{Entries, entries_of}
use Rattle.order_parts.specs.Rounds.{IsRound, IsRoundBut}
use Rattle.order_parts.specs.declared.history.Entry.{Entry}
use Rattle.order_parts.specs.declared.round.Round.{Round}
use Rattle.small_set.specs.SmallSets.{Has}
use Rattle.small_set.specs.declared.set.SmallSet.{SmallSet}

module _ (ls : List Entries) (l : ℕ) (y : Entry) (there : l < length ls) where
  abbrev longer : Entries
  longer = entries_of ((lane_in ls l).entries ++ y ∷ []) (lane_in ls l).capacity

  -- the lane has one more, and the others have as many
  load_here : loads_in (with_entry ls l y) l ≡ loads_in ls l + 1
  load_here = ap (λ (x : Entries). length x.entries) (get_or-set_same ls l longer (entries_of [] 0) there) ∙ length_push (lane_in ls l).entries y

  load_other : (m : ℕ) → m ≢ l → loads_in (with_entry ls l y) m ≡ loads_in ls m
  load_other m ne = ap (λ (x : Entries). length x.entries) (get_or-set_other ls l m longer (entries_of [] 0) ne)

  pub round_dealt : (r : Round) (lanes opened : SmallSet) → ((m : ℕ) → Has opened m → Has lanes m) → IsRoundBut l r (loads_in ls) lanes → IsRound r (loads_in (with_entry ls l y)) opened
  round_dealt r lanes opened fewer round m has =
      let was = round m (fewer m has) in
      ⊎_elim
      (λ same.
      let here = ap (loads_in (with_entry ls l y)) same ∙ load_here in
      let before = ap (loads_in ls) same in
      let least = was.0 in
      (omega arith, λ e. absurd (omega arith)))
      (λ ne.
      let other = load_other m ne in
      let least = was.0 in
      (omega arith, λ e. ⊎_elim (λ left. left) (λ same. absurd (ne same)) (was.1 (sym other ∙ e))))
      (cases_eq m l)
