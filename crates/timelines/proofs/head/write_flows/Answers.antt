use Rattle.std.proofs.Common.{◌≡◌, ◌++◌, length, ap, ◌∙◌, arith}
use Rattle.std.specs.Prelude.{flat_map, string_bytes}
use Rattle.std.specs.List.{range_with_len}
use Rattle.timelines.proofs.Texts.{more, on_more, one_more}
use Rattle.timelines.specs.Picture.{flow_swatch, flows_text}
use Rattle.timelines.proofs.head.write_flows.Goals as goal

pub loop-colour-preserved : goal.loop-colour-preserved
loop-colour-preserved c =
    one_more (flow_swatch c.args.flows.now) c.loop-colour.colour (string_bytes c.push_str.new.self) (string_bytes c.loop-colour.out) (string_bytes c.writeln.new.self) c.loop-colour.invariant
    (more (string_bytes c.loop-colour.out) (string_bytes c.write_swatch.new.out) (string_bytes c.writeln.new.self) _ _ c.in_ok-write_swatch.ensures c.in_ok-writeln.ensures.bytes)

pub returns : goal.returns
unfolding flows_text
returns c =
    let n = length c.args.flows.now in
    let all : c.loop-colour.colour ≡ n = omega (arith, c.loop-colour-test.false, c.loop-colour.auto.colour-end) in
    let looped : string_bytes c.loop-colour.out ≡ string_bytes c.push_str.new.self ++ flat_map (flow_swatch c.args.flows.now) (range_with_len 0 n) =
    c.loop-colour.invariant ∙ ap (λ k. string_bytes c.push_str.new.self ++ flat_map (flow_swatch c.args.flows.now) (range_with_len 0 k)) all in
    on_more c.write_others.result (string_bytes c.args.out.now) (string_bytes c.push_str.new.self) (string_bytes c.write_others.new.out) _ _ c.in_ok-push_str.ensures.bytes
    (on_more c.write_others.result (string_bytes c.push_str.new.self) (string_bytes c.loop-colour.out) (string_bytes c.write_others.new.out) _ _ looped c.write_others.ensures)
