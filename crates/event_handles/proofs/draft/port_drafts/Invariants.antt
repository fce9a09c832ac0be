use Rattle.std.proofs.Common.{◌≡◌, ◌≤◌, length, map, take, vec_capacity}
use Rattle.evt_types.specs.Plan.{port_plan}
use Rattle.event_handles.specs.Config.{port_draft}
use Rattle.event_handles.proofs.draft.port_drafts.Given as goal

abbrev pub invariant-loop-conf : goal.invariant-loop-conf
invariant-loop-conf l = record {
  made : map port_plan l.drafts.items ≡ map port_draft (take l.conf-index l.confs);
  room : length l.confs ≤ vec_capacity l.drafts;
}
