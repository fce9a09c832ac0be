-- What is known of a value that may be there.
use Rattle.std.proofs.Common.{◌≡◌, true, Option, Some, None, sym, subst}
use Rattle.std.proofs.lemmas.Bool.{false≢true}
use Rattle.std.specs.Option.{IfNone, IfSome, is_some}

pub of_some : {X : Type 0} (o : Option X) (x : X) (P : X → Type 0) → o ≡ Some x → IfSome o P → P x
of_some o x P e known = subst (λ r. IfSome r P) e known

pub if_some : {X : Type 0} (o : Option X) (x : X) (P : X → Type 0) → o ≡ Some x → P x → IfSome o P
if_some o x P e known = subst (λ r. IfSome r P) (sym e) known

pub of_none : {X : Type 0} (o : Option X) (P : Type 0) → o ≡ None → IfNone o P → P
of_none o P e known = subst (λ r. IfNone r P) e known

pub not_there : {X : Type 0} (o : Option X) → o ≡ None → is_some o ≡ true → ⊥
not_there o e some = false≢true (subst (λ r. is_some r ≡ true) e some)

pub if_more : {X : Type 0} (o : Option X) (P Q : X → Type 0) → ((x : X) → P x → Q x) → IfSome o P → IfSome o Q
if_more None P Q more known = tt
if_more (Some x) P Q more known = more x known

pub if_there : {X : Type 0} (o : Option X) (P : Type 0) → is_some o ≡ true → IfNone o P
if_there None P some = absurd (false≢true some)
if_there (Some x) P some = tt

pub if_none : {X : Type 0} (o : Option X) (P : Type 0) → P → IfNone o P
if_none None P known = known
if_none (Some x) P known = tt
