use Rattle.std.proofs.Common.{◌≡◌, ◌++◌, [], sym, subst}
use Rattle.std.specs.Prelude.{OnOk, string_bytes}
use Rattle.evt_types.specs.declared.event.Event.{Event}
use Rattle.history_reading.specs.Texts.{deed_text, event_text, op_text}
use Rattle.judge_app.proofs.Texts.{on_more}
use Rattle.judge_app.proofs.entries.write_deed.Goals as goal

pub returns-in_ok-push_str-in-Sent : goal.returns-in_ok-push_str-in-Sent
returns-in_ok-push_str-in-Sent c =
    subst (λ d. OnOk c.write_event.result (string_bytes c.write_event.new.out ≡ string_bytes c.args.out.now ++ deed_text d [])) (sym c.in-Sent.is)
    (on_more c.write_event.result _ _ _ _ _ c.in_ok-push_str-in-Sent.ensures.bytes
    (subst (λ (e : Event). OnOk c.write_event.result (string_bytes c.write_event.new.out ≡ string_bytes c.push_str.new.self ++ (op_text e.op ++ event_text e [])))
    c.unpack.ensures c.write_event.ensures))
