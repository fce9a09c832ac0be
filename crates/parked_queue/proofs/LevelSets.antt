-- The levels of several queues.
use Rattle.std.proofs.Common.{◌≡◌, ℕ, zero, suc, ◌<◌, List, [], ◌∷◌, length, replicate, set, get_or, sym, subst, arith, ⊎_elim}
use Rattle.std.proofs.lemmas.Bool.{cases_eq}
use Rattle.std.proofs.lemmas.List.{get_or-replicate, get_or-set_other, get_or-set_same, get_or_default, length-map, length-replicate, length-set}
use Rattle.small_set.specs.SmallSets.{IsEmpty}
use Rattle.parked_queue.specs.LevelSets.{AreLevels, HaveLevels, levels_at, members, no_levels}
use Rattle.parked_queue.specs.Waits.{HasNoneOf, Waits, all_empty, no_waits, no_waits_of, waits_at}
use Rattle.parked_queue.specs.declared.level.Levels.{Levels}

module _ (qs : List Waits) (ls : List Levels) (q : ℕ) (have : HaveLevels qs ls) (lt : q < length qs) where
  pub levels_there : q < length ls
  levels_there = let e = have.count in omega arith

  -- the levels as they are read
  pub levels_read : (d : Levels) → get_or ls q d ≡ levels_at ls q
  levels_read d = get_or_default ls q d no_levels levels_there

  -- another queue, and other levels of it
  pub levels_set : (w : Waits) (l : Levels) → AreLevels w l → HaveLevels (set qs q w) (set ls q l)
  levels_set w l are =
      let a = length-set qs q w in
      let b = length-set ls q l in
      let c = have.count in
      record {
        count = omega arith;
        each = λ k less. ⊎_elim
            (λ e. subst (λ j. AreLevels (waits_at (set qs q w) j) (levels_at (set ls q l) j)) (sym e)
            (subst (λ x. AreLevels x (levels_at (set ls q l) q)) (sym (get_or-set_same qs q w (no_waits 1 0) lt)) (subst (AreLevels w) (sym (get_or-set_same ls q l no_levels levels_there)) are)))
            (λ ne. subst (λ x. AreLevels x (levels_at (set ls q l) k)) (sym (get_or-set_other qs q k w (no_waits 1 0) ne))
            (subst (AreLevels (waits_at qs k)) (sym (get_or-set_other ls q k l no_levels ne)) (have.each k (omega arith))))
            (cases_eq k q);
      }

  -- another queue
  pub levels_kept : (w : Waits) → AreLevels w (levels_at ls q) → HaveLevels (set qs q w) ls
  levels_kept w are =
      let a = length-set qs q w in
      let c = have.count in
      record {
        count = omega arith;
        each = λ k less. ⊎_elim
            (λ e. subst (λ j. AreLevels (waits_at (set qs q w) j) (levels_at ls j)) (sym e) (subst (λ x. AreLevels x (levels_at ls q)) (sym (get_or-set_same qs q w (no_waits 1 0) lt)) are))
            (λ ne. subst (λ x. AreLevels x (levels_at ls k)) (sym (get_or-set_other qs q k w (no_waits 1 0) ne)) (have.each k (omega arith)))
            (cases_eq k q);
      }

-- nothing waits, of no level
pub levels_new : (room : ℕ) (slots : List ℕ) (none : Levels) → IsEmpty (members none) → HaveLevels (all_empty room slots) (replicate (length slots) none)
levels_new room slots none empty =
    let a = length-map slots (no_waits_of room) in
    let b = length-replicate (length slots) none in
    record {
      count = omega arith;
      each = λ q less.
          subst (AreLevels (waits_at (all_empty room slots) q)) (sym (get_or-replicate (length slots) q none no_levels (omega arith)))
          (record { rest = λ c never. nothing slots q c });
    }
  where
    nothing : (ss : List ℕ) (q c : ℕ) → HasNoneOf (waits_at (all_empty room ss) q) c
    nothing [] q c = λ k d h. absurd (omega arith)
    nothing (s ∷ ss) zero c = λ k d h. absurd (omega arith)
    nothing (s ∷ ss) (suc q) c = nothing ss q c
