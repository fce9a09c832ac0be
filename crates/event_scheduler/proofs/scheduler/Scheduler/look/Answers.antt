use Rattle.std.proofs.Common.{◌≡◌, ◌%◌, true, false, ap, sym, ◌∙◌, eq-eqb, ne_eqb}
use Rattle.std.proofs.lemmas.Bool.{false≢true}
use Rattle.credit_pool.specs.Accounts.{is_shut}
use Rattle.credit_pool.specs.Pool.{account}
use Rattle.credit_pool.specs.declared.account.Account.{Account}
use Rattle.event_scheduler.proofs.Looking.{looked_open, looked_saw, looked_shut}
use Rattle.event_scheduler.proofs.scheduler.Scheduler.look.Goals as goal

pub returns-then-look-clause-looks : goal.returns-then-look-clause-looks
returns-then-look-clause-looks g c =
    let read = c.look.ensures.account in
    let has : (account c.look.new.seat).last % 2 ≡ 1 = c.look.ensures.bit.0 c.if-look.true in
    let bit : is_shut (account c.look.new.seat).last ≡ true = eq-eqb ((account c.look.new.seat).last % 2) 1 has in
    looked_shut _ _ _ _ _ _ _ _ _ _ c.look.ensures.stays (ap (λ (a : Account). a.returned) read) (looked_saw (account c.args.self.now.seat) (account c.look.new.seat) read has) read bit
    c.shut.ensures.view c.shut.ensures.logged c.shut.ensures.stands

pub returns-else-look-clause-looks : goal.returns-else-look-clause-looks
returns-else-look-clause-looks g c =
    let read = c.look.ensures.account in
    let bit : is_shut (account c.look.new.seat).last ≡ false = ne_eqb ((account c.look.new.seat).last % 2) 1 (λ has. false≢true (sym c.if-look.false ∙ c.look.ensures.bit.1 has)) in
    looked_open _ _ _ _ _ _ _ _ c.look.ensures.stays (ap (λ (a : Account). a.returned) read) (λ saw. false≢true (sym c.if-look.false ∙ c.look.ensures.shut saw)) read bit
