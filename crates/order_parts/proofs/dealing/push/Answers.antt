use Rattle.std.proofs.Common.{◌≡◌, ◌<◌, ◌++◌, ◌∷◌, [], ℕ, List, ap, arith, eqb-true, length, set, subst, sym, ◌∙◌}
use Rattle.std.proofs.lemmas.List.{get_or_default, get_or-set_same}
use Rattle.order_parts.specs.Dealing.{AreOpenOf, with_entry}
use Rattle.order_parts.specs.Histories.{HasRoom, lane_in}
use Rattle.order_parts.specs.History.{Entries, entries_of}
use Rattle.order_parts.proofs.Dealt.{open_push}
use Rattle.order_parts.proofs.dealing.push.Goals as goal

-- the lane has no room, and isn't open
pub returns-then-is_full-clause-open : goal.returns-then-is_full-clause-open
returns-then-is_full-clause-open c among are =
    let ls : List Entries = c.args.lanes.now in
    let l : ℕ = c.args.lane in
    let new : Entries = c.push.new.self in
    let is : set ls l new ≡ with_entry ls l c.args.entry =
    ap (set ls l) (c.push.ensures ∙ ap (λ (x : Entries). entries_of (x.entries ++ c.args.entry ∷ []) x.capacity) (get_or_default ls l c.index-lanes-lane.result (entries_of [] 0) c.requires.there))
    in
    let full : length new.entries ≡ new.capacity = eqb-true _ _ (sym c.is_full.ensures ∙ c.if-is_full.true) in
    subst (λ xs. AreOpenOf among xs c.note_full.new.roomy) (sym is)
    (open_push ls l c.args.entry among c.args.opened.now c.note_full.new.roomy c.requires.room c.note_full.ensures.others (
      λ has. absurd (c.note_full.ensures.full c.requires.low has),
      λ both.
          let room : HasRoom (set ls l new) l = subst (λ xs. HasRoom xs l) (sym is) both.1 in
          let here : lane_in (set ls l new) l ≡ new = get_or-set_same ls l new (entries_of [] 0) c.requires.there in
          absurd (omega (arith, full, subst (λ (x : Entries). length x.entries < x.capacity) here room)),
    )
    are)
