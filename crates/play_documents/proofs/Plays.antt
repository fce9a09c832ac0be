-- What a document that has no fault says: its commands speak of ports that are there.
use Rattle.std.proofs.Common.{◌≡◌, ℕ, ◌+◌, ◌<◌, Bool, true, false, cond, eqb, nat_lt, List, [], ◌∷◌, length, map, codes, Option, Some, None, Result, Ok, Err, refl, sym, ap, subst, ◌∙◌, arith}
use Rattle.std.specs.Prelude.{option_map, option_and_then, IfOk}
use Rattle.std.specs.List.{slice_split, AllByRecursion}
use Rattle.std.specs.Str.Lines.{strip_carriage_return}
use Rattle.std.proofs.lemmas.Bool.Decides.{nat_tests}
use Rattle.std.proofs.lemmas.List.Elements.{All-from_recursion}
use Rattle.evt_types.specs.Fault.{fault_of}
use Rattle.evt_types.specs.Plan.{Plan}
use Rattle.evt_types.specs.declared.event.Op.{Op}
use Rattle.evt_types.specs.declared.shape.ShapeFault.{ShapeFault}
use Rattle.evt_types.specs.declared.shape.ShapeFault.TheVariants as shapes
use Rattle.play_documents.specs.Command.{Line, Enqueue, Dequeue, Sweep, Shut, line_of, IsPortThere, AllPortsThere, event_fields, release_fields}
use Rattle.play_documents.specs.Document.{Planned, planned_of, document_of, Fails, Gives, ◌>>=◌, table_of, shape_fault, checked, plan_or_fault, judged, unless_fault}
use Rattle.play_documents.specs.Drafts.{plan_asked}
use Rattle.play_documents.specs.Field.{value_or, is_text}
use Rattle.play_documents.specs.Judge.{first_fault}
use Rattle.play_documents.specs.Lines.{lines_from, lines_of, with_line}
use Rattle.play_documents.specs.Script.{command_of, entry_op, line_command, event_line, release_line, dequeue_line, script_of}
use Rattle.play_documents.specs.Survey.{SurveySeen, survey_of}
use Rattle.play_documents.specs.Words.{number, port_number, below}
use Rattle.play_documents.specs.declared.command.Command.{Command}
use Rattle.play_documents.specs.declared.command.Command.TheVariants as commands
use Rattle.play_documents.specs.declared.document.Document.{Document}
use Rattle.play_documents.specs.declared.fault.ReadFault.{ReadFault}
use Rattle.play_documents.specs.declared.fault.DocFault.{DocFault}
use Rattle.play_documents.specs.declared.fault.DocFault.TheVariants as doc

-- ---- results that are good

pub ok_is : {A E : Type 0} (x y : A) → ◌≡◌ {A = Result A E} (Ok x) (Ok y) → x ≡ y
ok_is x y e = cc

pub some_is : {A : Type 0} (x y : A) → Some x ≡ Some y → x ≡ y
some_is x y e = cc

pub bind_ok : {A B : Type 0} (r : Result A DocFault) (f : A → Result B DocFault) (y : B) → (r >>= f) ≡ Ok y → (x : A) × (r ≡ Ok x) × (f x ≡ Ok y)
bind_ok (Ok x) f y e = (x, refl, e)
bind_ok (Err d) f y e = absurd cc

pub bind_some : {A B : Type 0} (f : A → Option B) (o : Option A) (y : B) → option_and_then f o ≡ Some y → (x : A) × (o ≡ Some x) × (f x ≡ Some y)
bind_some f None y e = absurd cc
bind_some f (Some x) y e = (x, refl, e)

-- ---- the configuration

pub checked-Ok : (p s : Plan) → s ≡ p → fault_of p ≡ None → checked p ≡ Ok s
unfolding checked
checked-Ok p s is none = ap (plan_or_fault p) none ∙ ap Ok (sym is)

refused_as : (o : Option ShapeFault) (p : Plan) (f : ShapeFault) → (o ≡ None → ⊥) → ((g : ShapeFault) → o ≡ Some g → f ≡ g)
    → plan_or_fault p o ≡ Err (doc.Shape f)
refused_as None p f some is = absurd (some refl)
refused_as (Some g) p f some is = ap (λ x. Err (doc.Shape x)) (sym (is g refl))

checked-Err : (f : ShapeFault) (p : Plan) → (fault_of p ≡ None → ⊥) → ((g : ShapeFault) → fault_of p ≡ Some g → f ≡ g) → checked p ≡ Err (doc.Shape f)
unfolding checked
checked-Err f p some is = refused_as (fault_of p) p f some is

err_is : (f g : ShapeFault) → ◌≡◌ {A = Result Plan ShapeFault} (Err f) (Err g) → f ≡ g
err_is f g e = cc

-- what is said of a refusal: it is the first, or want of memory where there is none
abbrev pub IsFirst : ShapeFault → Plan → Type 0
IsFirst f p = (fault_of p ≡ None → f ≡ shapes.Memory) × ((g : ShapeFault) → fault_of p ≡ Some g → ◌≡◌ {A = Result Plan ShapeFault} (Err f) (Err g))

refused : (f : ShapeFault) (p : Plan) → (f ≡ shapes.Memory → ⊥) → IsFirst f p → checked p ≡ Err (doc.Shape f)
refused f p other h = checked-Err f p (λ none. other (h.0 none)) (λ g e. err_is f g (h.1 g e))

pub shape-Fails : (f : ShapeFault) (p : Plan) → IsFirst f p → Fails (shape_fault f) (checked p)
shape-Fails shapes.Memory p h = tt
shape-Fails f p h = refused f p (λ e. absurd cc) h

-- ---- a script's lines

-- the line's port is there
abbrev pub IsGood : ℕ → Line → Type 0
IsGood ports (Enqueue p fields) = p < ports
IsGood ports (Dequeue p max) = p < ports
IsGood ports Sweep = Unit {0}
IsGood ports Shut = Unit {0}

below_by : (b : Bool) (limit n m : ℕ) → nat_lt n limit ≡ b → cond b (Some n) None ≡ Some m → m < limit
below_by true limit n m t e = let same : n ≡ m = some_is n m e in grind (arith, nat_tests)
below_by false limit n m t e = absurd cc

port_there : (ports : ℕ) (word : List ℕ) (p : ℕ) → port_number ports word ≡ Some p → p < ports
port_there ports word p e =
    let found = bind_some (below ports) (number _ word) p e in
    below_by (nat_lt found.0 ports) ports found.0 p refl found.2

good_event : (o : Op) (ports : ℕ) (p q f r x : List ℕ) (l : Line) → event_line o ports p q f r x ≡ Some l → IsGood ports l
unfolding event_line
good_event o ports p q f r x l e =
    let a = bind_some _ (port_number ports p) l e in
    let b = bind_some _ (number _ q) l a.2 in
    let c = bind_some _ (number _ f) l b.2 in
    let d = bind_some _ (number _ r) l c.2 in
    let y = bind_some _ (number _ x) l d.2 in
    subst (IsGood ports) (some_is (Enqueue a.0 (event_fields o b.0 c.0 d.0 y.0)) l y.2) (port_there ports p a.0 a.1)

good_release : (ports : ℕ) (p : List ℕ) (o : Option ℕ) (l : Line) → ((n : ℕ) → o ≡ Some n → n < ports) → option_map (λ port. Enqueue port release_fields) o ≡ Some l → IsGood ports l
good_release ports p None l there e = absurd cc
good_release ports p (Some n) l there e = subst (IsGood ports) (some_is (Enqueue n release_fields) l e) (there n refl)

good_dequeue : (ports : ℕ) (p most : List ℕ) (l : Line) → dequeue_line ports p most ≡ Some l → IsGood ports l
unfolding dequeue_line
good_dequeue ports p most l e =
    let a = bind_some _ (port_number ports p) l e in
    let b = bind_some _ (number _ most) l a.2 in
    subst (IsGood ports) (some_is (Dequeue a.0 b.0) l b.2) (port_there ports p a.0 a.1)

-- a command that stands under a test of its name
under : {A : Type 0} (b : Bool) (o : Option A) (l : A) → cond b o None ≡ Some l → o ≡ Some l
under true o l e = e
under false o l e = absurd cc

good_word : (ports : ℕ) (a b : Bool) (l : Line) → cond a (Some Sweep) (cond b (Some Shut) None) ≡ Some l → IsGood ports l
good_word ports true b l e = subst (IsGood ports) (some_is Sweep l e) tt
good_word ports false true l e = subst (IsGood ports) (some_is Shut l e) tt
good_word ports false false l e = absurd cc

good_command : (ports : ℕ) (ws : List (List ℕ)) (l : Line) → command_of ports ws ≡ Some l → IsGood ports l
unfolding release_line
good_command ports [] l e = absurd cc
good_command ports (a ∷ []) l e = good_word ports (is_text a (codes "sweep")) (is_text a (codes "shut")) l e
good_command ports (a ∷ b ∷ []) l e =
    good_release ports b (port_number ports b) l (port_there ports b) (under (is_text a (codes "rel")) (release_line ports b) l e)
good_command ports (a ∷ b ∷ c ∷ []) l e = good_dequeue ports b c l (under (is_text a (codes "deq")) (dequeue_line ports b c) l e)
good_command ports (a ∷ b ∷ c ∷ d ∷ []) l e = absurd cc
good_command ports (a ∷ b ∷ c ∷ d ∷ f ∷ []) l e = absurd cc
good_command ports (a ∷ b ∷ c ∷ d ∷ f ∷ g ∷ []) l e =
    let o = bind_some _ (entry_op a) l e in
    good_event o.0 ports b c d f g l o.2
good_command ports (a ∷ b ∷ c ∷ d ∷ f ∷ g ∷ h ∷ more) l e = absurd cc

good_line : (ports : ℕ) (line : List ℕ) (l : Line) → line_command ports line ≡ Some l → IsGood ports l
unfolding line_command
good_line ports line l e = good_command ports (slice_split (λ b. eqb b 32) line) l e

before_good : (ports : ℕ) (bad : DocFault) (o : Option Line) (r : Result (List Line) DocFault) (ls : List Line) → ((l : Line) → o ≡ Some l → IsGood ports l)
    → ((more : List Line) → r ≡ Ok more → AllByRecursion (IsGood ports) more) → with_line bad o r ≡ Ok ls → AllByRecursion (IsGood ports) ls
before_good ports bad None r ls first rest e = absurd cc
before_good ports bad (Some l) (Ok more) ls first rest e = subst (AllByRecursion (IsGood ports)) (ok_is (l ∷ more) ls e) (first l refl, rest more refl)
before_good ports bad (Some l) (Err f) ls first rest e = absurd cc

either_good : (b : Bool) (ports : ℕ) (bad : DocFault) (o : Option Line) (r : Result (List Line) DocFault) (ls : List Line) → ((l : Line) → o ≡ Some l → IsGood ports l)
    → ((more : List Line) → r ≡ Ok more → AllByRecursion (IsGood ports) more) → cond b r (with_line bad o r) ≡ Ok ls → AllByRecursion (IsGood ports) ls
either_good true ports bad o r ls first rest e = rest ls e
either_good false ports bad o r ls first rest e = before_good ports bad o r ls first rest e

good_lines : (ports n : ℕ) (texts : List (List ℕ)) (ls : List Line) → lines_from (line_command ports) (λ k. doc.BadCommand k) n texts ≡ Ok ls
    → AllByRecursion (IsGood ports) ls
unfolding lines_from
good_lines ports n [] ls e = subst (AllByRecursion (IsGood ports)) (ok_is [] ls e) tt
good_lines ports n (t ∷ ts) ls e =
    either_good (eqb (length (strip_carriage_return t)) 0) ports (doc.BadCommand n) (line_command ports (strip_carriage_return t))
    (lines_from (line_command ports) (λ k. doc.BadCommand k) (n + 1) ts) ls
    (good_line ports (strip_carriage_return t)) (good_lines ports (n + 1) ts) e

good_script : (ports : ℕ) (text : List ℕ) (ls : List Line) → script_of ports text ≡ Ok ls → AllByRecursion (IsGood ports) ls
unfolding lines_of
good_script ports text ls e = good_lines ports 1 (slice_split (λ b. eqb b 10) text) ls e

-- ---- commands

ports_there : (ports : ℕ) (cs : List Command) → AllByRecursion (IsGood ports) (map line_of cs) → AllByRecursion (IsPortThere ports) cs
ports_there ports [] h = tt
ports_there ports (commands.Enqueue p e ∷ cs) h = (h.0, ports_there ports cs h.1)
ports_there ports (commands.Dequeue p max ∷ cs) h = (h.0, ports_there ports cs h.1)
ports_there ports (commands.Sweep ∷ cs) h = (tt, ports_there ports cs h.1)
ports_there ports (commands.Shut ∷ cs) h = (tt, ports_there ports cs h.1)

-- ---- a document

-- the commands' ports are there
abbrev pub IsPlayable : Planned → Type 0
IsPlayable x = AllByRecursion (IsGood (length x.plan.ports)) x.commands

pub checked_is : (p : Plan) (f : Option ShapeFault) (s : Plan) → plan_or_fault p f ≡ Ok s → s ≡ p
checked_is p None s e = cc
checked_is p (Some f) s e = absurd cc

pub no_fault : {A : Type 0} (f : Option DocFault) (rest : Result A DocFault) (x : A) → unless_fault f rest ≡ Ok x → (f ≡ None) × (rest ≡ Ok x)
no_fault None rest x e = (refl, e)
no_fault (Some f) rest x e = absurd cc

playable_rows : (s : SurveySeen) (x : Planned) → judged s ≡ Ok x → IsPlayable x
unfolding judged
playable_rows s x e =
    let none = no_fault (first_fault s) _ x e in
    let a = bind_ok (checked (plan_asked s)) _ x none.1 in
    let b = bind_ok (script_of (length a.0.ports) (value_or [] s.script)) _ x a.2 in
    subst IsPlayable (ok_is (record { plan = a.0; commands = b.0 }) x b.2) (good_script (length a.0.ports) (value_or [] s.script) b.0 b.1)

pub playable : (bytes : List ℕ) (x : Planned) → document_of bytes ≡ Ok x → IsPlayable x
unfolding document_of
playable bytes x e =
    let a = bind_ok (table_of bytes) _ x e in
    playable_rows (survey_of a.0) x a.2

pub gives-ports : (bytes : List ℕ) (r : Result Document ReadFault) → Gives planned_of r (document_of bytes) → IfOk r (λ d. AllPortsThere d.shape d.commands.items)
gives-ports bytes (Ok d) e =
    let lines = playable bytes (planned_of d) e in
    All-from_recursion (IsPortThere (length d.shape.ports)) d.commands.items (ports_there (length d.shape.ports) d.commands.items lines)
gives-ports bytes (Err f) e = tt
