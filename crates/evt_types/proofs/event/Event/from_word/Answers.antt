use Rattle.std.proofs.Common.{◌≡◌, Option, Some, Ok, sym, subst, ap, ◌∙◌, arith}
use Rattle.std.specs.Option.{IfSome}
use Rattle.evt_types.specs.declared.event.Kind.{Kind}
use Rattle.evt_types.specs.Word.{kind_code}
use Rattle.evt_types.proofs.Words.{read_back}
use Rattle.evt_types.proofs.event.Event.from_word.Goals as goal

pub returns-clause-only : goal.returns-clause-only
returns-clause-only c = λ e k fits is paid.
    let kind_found : c.kind_of.result ≡ Some c.in_ok-kind.kind = grind arith in
    let kind : c.bits-3.result ≡ kind_code c.in_ok-kind.kind =
    subst (λ (o : Option Kind). IfSome o (λ x. c.bits-3.result ≡ kind_code x)) kind_found c.kind_of.ensures.found in
    ap Ok (read_back c.args.word _ e _ k (record {
      flow = c.bits-4.ensures;
      sub_type = c.bits-5.ensures;
      event_type = c.bits-6.ensures;
      op = sym c.bits-2.ensures ∙ c.op_of-op.ensures;
      kind = sym c.bits-3.ensures ∙ kind;
      queue = c.bits-7.ensures;
      priority = c.bits-8.ensures;
      impl_opaque = c.bits-9.ensures;
    }) fits is paid)
