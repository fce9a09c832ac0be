use Rattle.std.proofs.Common.{◌∙◌, ◌++◌, ◌∷◌, [], ap, arith, length, map, sym, take}
use Rattle.std.proofs.lemmas.List.{length-map, length-take, map_more, map_push}
use Rattle.evt_types.specs.Plan.{port_plan}
use Rattle.event_handles.specs.Config.{port_draft}
use Rattle.event_handles.proofs.draft.port_drafts.Goals as goal

pub push_reserved-requires : goal.push_reserved-requires
push_reserved-requires c =
    let made = c.loop-conf.drafts.items in
    let before = take c.loop-conf.conf-index c.args.confs.now in
    omega (
      arith,
      length-map made port_plan,
      ap length c.loop-conf.invariant.made,
      length-map before port_draft,
      length-take c.loop-conf.conf-index c.args.confs.now,
      c.loop-conf-test.true,
      c.loop-conf.invariant.room,
    )

pub loop-conf-preserved : goal.loop-conf-preserved
loop-conf-preserved c = record {
  made =
      ap (map port_plan) c.push_reserved.ensures.items ∙ map_push port_plan c.loop-conf.drafts.items c.in_ok-draft.draft
      ∙ (λ k. c.loop-conf.invariant.made k ++ c.in_ok-draft.ensures k ∷ []) ∙ sym (map_more port_draft c.args.confs.now c.loop-conf.conf-index _ c.loop-conf-test.true);
  room = omega (arith, c.loop-conf.invariant.room, c.push_reserved.ensures.capacity);
}
