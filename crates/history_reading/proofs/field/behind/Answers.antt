use Rattle.std.proofs.Common.{◌≡◌, ◌≢◌, ◌++◌, List, ℕ, Option, Some, None, Bor}
use Rattle.std.specs.Prelude.{IfSome}
use Rattle.std.specs.Option.{MatchOption}
use Rattle.std.proofs.lemmas.Bool.Decides.{Decides-eqb}
use Rattle.std.proofs.lemmas.Slice.Eq.{strip_prefix_is}
use Rattle.history_reading.proofs.field.behind.Goals as goal

abbrev Strips : List ℕ → List ℕ → Option (Bor (List ℕ)) → Type 0
Strips text sign r = MatchOption r ((rest : List ℕ) → text ≢ sign ++ rest) (λ x. text ≡ sign ++ x.now)

some : (text sign : List ℕ) (r : Option (Bor (List ℕ))) → Strips text sign r → IfSome r (λ x. text ≡ sign ++ x.now)
some text sign None h = tt
some text sign (Some x) h = h

none : (text sign : List ℕ) (r : Option (Bor (List ℕ))) → Strips text sign r → r ≡ None → (more : List ℕ) → text ≢ sign ++ more
none text sign None h e = h
none text sign (Some x) h e = absurd cc

pub returns-clause-some : goal.returns-clause-some
returns-clause-some c = some c.args.text.now c.args.sign.now c.strip_prefix.result (strip_prefix_is Decides-eqb c.args.text.now c.args.sign.now c.strip_prefix.result c.strip_prefix.ensures.cases)

pub returns-clause-none : goal.returns-clause-none
returns-clause-none c = none c.args.text.now c.args.sign.now c.strip_prefix.result (strip_prefix_is Decides-eqb c.args.text.now c.args.sign.now c.strip_prefix.result c.strip_prefix.ensures.cases)
