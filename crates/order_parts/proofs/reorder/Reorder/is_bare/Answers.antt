use Rattle.std.proofs.Common.{arith}
use Rattle.std.proofs.lemmas.Bool.Decides.{nat_tests}
use Rattle.order_parts.proofs.Kept.{counted}
use Rattle.order_parts.proofs.reorder.Reorder.is_bare.Goals as goal

pub returns : goal.returns
returns c =
    let all = counted c.self.inside c.args.self.now c.self.view_is c.self.invariant in
    ((λ said. grind (arith, nat_tests, all, said)), (λ none. grind (arith, nat_tests, all, none)))
