use Rattle.std.proofs.Common.{◌≡◌, ◌∙◌, codes, rules, refl, arith}
use Rattle.std.proofs.lemmas.Bool.Decides.{Decides-eqb}
use Rattle.std.proofs.lemmas.Slice.Eq.{slice_eq-Decides}
use Rattle.log_reading.proofs.Begins.{passed-begins, passed-one, passed-all, shorter}
use Rattle.log_reading.proofs.begin.log_begin.Goals as goal

pub returns-then-eq-clause-begin : goal.returns-then-eq-clause-begin
returns-then-eq-clause-begin c =
    passed-begins c.args.text.now c.loop-said.line c.loop-said.rest.now c.in-Some.said.now c.in-Some.behind.now c.loop-said.invariant.passed c.in-Some.ensures.whole
    ((slice_eq-Decides Decides-eqb _ _ _ c.eq.ensures).0 c.if-eq.true ∙ c.as_slice.ensures)

pub loop-said-preserved : goal.loop-said-preserved
loop-said-preserved c = record {
  passed = passed-one c.args.text.now c.loop-said.line c.loop-said.rest.now c.in-Some.said.now c.in-Some.behind.now c.loop-said.invariant.passed c.in-Some.ensures.whole c.in-Some.ensures.line (search rules);
  fits = let less = shorter c.loop-said.rest.now c.in-Some.said.now c.in-Some.behind.now c.in-Some.ensures.whole in omega (arith, less, c.loop-said.invariant.fits);
}

pub returns-clause-none : goal.returns-clause-none
returns-clause-none c = λ e has. passed-all c.args.text.now c.loop-said.line c.loop-said.rest.now c.loop-said.invariant.passed (c.in_default.ensures.none refl) has
