-- A look more saw the device open, or shut.
use Rattle.std.proofs.Common.{rules, ◌∙◌, ap, subst, sym, refl, take, arith}
use Rattle.std.proofs.lemmas.Bool.{false≢true}
use Rattle.evt_types.specs.declared.event.Reply.{Reply}
use Rattle.event_ports.specs.Rows.{FindsAllOpen}
use Rattle.event_ports.proofs.Bursts.{read_next}
use Rattle.event_ports.proofs.NewRows.{finds_next}
use Rattle.event_ports.proofs.Refusing.{new_told}
use Rattle.event_ports.proofs.desk.Desk.look_for_news.Goals as goal

pub returns-then-shut_seen-clause-looked : goal.returns-then-shut_seen-clause-looked
returns-then-shut_seen-clause-looked c =
    let look = c.shut_seen.ensures in
    record {
      between = c.loop-taken.self;
      open_for = c.loop-taken.invariant;
      last = (
        c.index-replies-taken.result,
        read_next c.args.replies.now c.loop-taken.taken c.index-replies-taken.result (omega (arith, c.loop-taken-test.true, c.requires)) c.index-replies-taken.is,
        record {
          is_new = new_told _ (search rules);
          look = record {
            site = look.site;
            credit = look.credit;
            pocket = look.same.1.0;
            drawn = look.same.1.1.0;
            returned = look.same.1.1.1;
            lanes = look.lanes;
            looked = look.looked.0;
          };
          seen = look.seen.0 c.if-shut_seen.true;
          was_shut = look.looked.1 c.if-shut_seen.true;
        },
        refl,
      );
    }

pub loop-taken-preserved : goal.loop-taken-preserved
loop-taken-preserved c =
    let look = c.shut_seen.ensures in
    finds_next c.args.replies.now c.loop-taken.taken c.index-replies-taken.result c.args.self.now c.loop-taken.self c.shut_seen.new.self
    (read_next c.args.replies.now c.loop-taken.taken c.index-replies-taken.result (omega (arith, c.loop-taken-test.true, c.requires)) c.index-replies-taken.is)
    c.loop-taken.invariant
    (record {
      is_new = new_told _ (search rules);
      within = omega (arith, c.if-from-self.false, c.from.ensures, c.queue.ensures, ap (λ (r : Reply). r.event.queue) c.index-replies-taken.is);
      look = record {
        site = look.site;
        credit = look.credit;
        pocket = look.same.1.0;
        drawn = look.same.1.1.0;
        returned = look.same.1.1.1;
        lanes = look.lanes;
        looked = look.looked.0;
      };
      was_open = look.read c.if-shut_seen.false;
      unshut = λ saw. false≢true (sym c.if-shut_seen.false ∙ look.seen.1 (look.credit.saw_shut saw));
    })

pub returns-clause-looked : goal.returns-clause-looked
returns-clause-looked c = record { between = c.loop-taken.self; open_for = subst (λ n. FindsAllOpen (take n c.args.replies.now) c.args.self.now c.loop-taken.self) (search rules) c.loop-taken.invariant; last = refl }
