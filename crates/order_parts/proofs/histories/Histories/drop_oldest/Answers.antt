use Rattle.std.proofs.Common.{◌≡◌, ◌<◌, ◌≤◌, false, ⊎_elim, List, [], length, subst, sym, ◌∙◌, arith}
use Rattle.std.proofs.lemmas.Bool.{cases_Bool, eqb-false}
use Rattle.std.proofs.lemmas.List.{get_or_default}
use Rattle.order_parts.specs.History.{Entries, entries_of}
use Rattle.order_parts.proofs.Roomy.{roomy_set, some_left}
use Rattle.small_set.specs.SmallSets.{Has}
use Rattle.small_set.specs.declared.set.SmallSet.{SmallSet}
use Rattle.order_parts.specs.Histories.{lane_in}
use Rattle.order_parts.proofs.histories.Histories.drop_oldest.Goals as goal

pub invariant_of-self : goal.invariant_of-self
invariant_of-self c =
    let ls : List Entries = c.self.inside.lanes.items in
    let here : c.args.lane < length ls = subst (λ (xs : List Entries). c.args.lane < length xs) (sym c.self.view_is) c.requires.there in
    let was : lane_in ls c.args.lane ≡ c.index_mut-history.result.now = get_or_default ls c.args.lane (entries_of [] 0) c.index_mut-history.result.now here ∙ sym c.index_mut-history.ensures.value in
    let here_held : c.args.count ≤ length c.index_mut-history.result.now.entries = subst (λ (l : Entries). c.args.count ≤ length l.entries) was (subst (λ (xs : List Entries). c.args.count ≤ length (lane_in xs c.args.lane).entries) (sym c.self.view_is) c.requires.held) in
    let within = c.len.ensures.within.0 in
    let count = c.len.ensures.value in
    let part : (c.is_full.result ≡ false) → length c.index_mut-history.result.now.entries < c.index_mut-history.result.now.capacity =
    λ no. let differ = eqb-false _ _ (sym c.is_full.ensures ∙ no) in omega (arith, within, count, differ) in
    roomy_set ls c.args.lane c.drop_oldest.new.self c.self.inside.roomy c.leave.new.roomy here c.leave.ensures.others
    (λ few. (
      λ has. some_left c.index_mut-history.result.now c.drop_oldest.new.self c.args.count (omega (arith, within, count)) c.requires.some here_held c.drop_oldest.ensures,
      λ room. ⊎_elim (λ yes. c.leave.ensures.room yes few)
          (λ no. subst (λ (r : SmallSet). Has r c.args.lane) (sym (c.leave.ensures.same no))
          ((c.self.invariant c.args.lane here few).1 (subst (λ (l : Entries). length l.entries < l.capacity) (sym was) (part no)))) (cases_Bool c.is_full.result),
    ))
    c.self.invariant
