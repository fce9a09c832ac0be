-- Each fault of a document has a name: a refused configuration's is never want of memory.
use Rattle.std.proofs.Common.{◌≡◌, ◌≢◌, ℕ, ◌+◌, Bool, true, false, cond, eqb, List, [], ◌∷◌, Option, Some, None, Result, Ok, Err, ap, subst, length}
use Rattle.std.specs.Prelude.{IfSome, IfErr}
use Rattle.std.specs.List.{slice_split}
use Rattle.std.specs.Str.{is_utf8}
use Rattle.std.specs.Str.Lines.{strip_carriage_return}
use Rattle.toml.specs.Data.{Members}
use Rattle.toml.specs.Parse.{parse_document}
use Rattle.evt_types.specs.Fault.{fault_of}
use Rattle.evt_types.specs.Plan.{Plan}
use Rattle.evt_types.specs.declared.shape.ShapeFault.{ShapeFault}
use Rattle.evt_types.specs.declared.shape.ShapeFault.TheVariants as shapes
use Rattle.play_documents.specs.Document.{planned_of, IsNamed, IsNamedDoc, Gives, ◌>>=◌, parsed, table_of, table_or_fault, checked, plan_or_fault, judged, document_of, unless_fault}
use Rattle.play_documents.specs.Drafts.{plan_asked}
use Rattle.play_documents.specs.Field.{value_or}
use Rattle.play_documents.specs.Judge.{first_fault, has_unknown, has_missing, has_bad, rows_fault}
use Rattle.play_documents.specs.Lines.{lines_from, lines_of, with_line}
use Rattle.play_documents.specs.Script.{line_command, script_of}
use Rattle.play_documents.specs.Survey.{SurveySeen, survey_of}
use Rattle.play_documents.specs.declared.document.Document.{Document}
use Rattle.play_documents.specs.declared.fault.ReadFault.{ReadFault}
use Rattle.play_documents.specs.declared.fault.ReadFault.TheVariants as reads
use Rattle.play_documents.specs.declared.fault.DocFault.{DocFault}
use Rattle.play_documents.specs.declared.fault.DocFault.TheVariants as doc

pub err_doc : {A : Type 0} (x y : DocFault) → ◌≡◌ {A = Result A DocFault} (Err x) (Err y) → x ≡ y
err_doc x y e = cc

-- the fault of two steps is the first's or the second's
pub bind_named : {A B : Type 0} (r : Result A DocFault) (k : A → Result B DocFault) (f : DocFault) → (r ≡ Err f → IsNamedDoc f)
    → ((x : A) → k x ≡ Err f → IsNamedDoc f) → (r >>= k) ≡ Err f → IsNamedDoc f
bind_named (Ok x) k f first second e = second x e
bind_named (Err d) k f first second e = first (ap Err (err_doc d f e))

-- ---- the configuration

-- what the first test that holds gives, or the rest
pub first-or : {A : Type 0} (P : A → Type 0) (b : Bool) (x : A) (rest : Option A) → P x → IfSome rest P → IfSome (cond b (Some x) rest) P
first-or P true x rest first more = first
first-or P false x rest first more = more

abbrev IsRefusal : ShapeFault → Type 0
IsRefusal r = r ≢ shapes.Memory

refused-or : (b : Bool) (r : ShapeFault) (rest : Option ShapeFault) → IsRefusal r → IfSome rest IsRefusal → IfSome (cond b (Some r) rest) IsRefusal
refused-or b r rest first more = first-or IsRefusal b r rest first more

-- the first of the tests names the refusal
refusal_by : (a b c d e f g h i j k l m : Bool)
    → IfSome (cond a (Some shapes.QueueCount) (cond b (Some shapes.PortCount) (cond c (Some shapes.LimitRange)
    (cond d (Some shapes.QuantumRange) (cond e (Some shapes.ThresholdRange) (cond f (Some shapes.DepthRange)
    (cond g (Some shapes.FlowSlots) (cond h (Some shapes.OrderDepth) (cond i (Some shapes.SweepRange)
    (cond j (Some shapes.LinkUnknown) (cond k (Some shapes.LinkTwice) (cond l (Some shapes.QueueUnlinked)
    (cond m (Some shapes.SingleLinkCount) None))))))))))))) IsRefusal
refusal_by a b c d e f g h i j k l m =
    refused-or a shapes.QueueCount _ (λ z. absurd cc) (refused-or b shapes.PortCount _ (λ z. absurd cc) (refused-or c shapes.LimitRange _ (λ z. absurd cc)
    (refused-or d shapes.QuantumRange _ (λ z. absurd cc) (refused-or e shapes.ThresholdRange _ (λ z. absurd cc) (refused-or f shapes.DepthRange _ (λ z. absurd cc)
    (refused-or g shapes.FlowSlots _ (λ z. absurd cc) (refused-or h shapes.OrderDepth _ (λ z. absurd cc) (refused-or i shapes.SweepRange _ (λ z. absurd cc)
    (refused-or j shapes.LinkUnknown _ (λ z. absurd cc) (refused-or k shapes.LinkTwice _ (λ z. absurd cc) (refused-or l shapes.QueueUnlinked _ (λ z. absurd cc)
    (refused-or m shapes.SingleLinkCount _ (λ z. absurd cc) tt))))))))))))

refusal_named : (p : Plan) → IfSome (fault_of p) IsRefusal
refusal_named p =
    refusal_by _ _ _ _ _ _ _ _ _ _ _ _ _

plan_named : (o : Option ShapeFault) (p : Plan) (f : DocFault) → IfSome o (λ g. g ≢ shapes.Memory) → plan_or_fault p o ≡ Err f → IsNamedDoc f
plan_named None p f h e = absurd cc
plan_named (Some g) p f h e = subst IsNamedDoc (err_doc (doc.Shape g) f e) h

pub checked_named : (p : Plan) (f : DocFault) → checked p ≡ Err f → IsNamedDoc f
unfolding checked
checked_named p f e = plan_named (fault_of p) p f (refusal_named p) e

-- ---- the rows and the script

pub rows_fault-named : (u m b : Bool) → IfSome (rows_fault u m b) IsNamedDoc
rows_fault-named u m b = first-or IsNamedDoc u _ _ tt (first-or IsNamedDoc m _ _ tt (first-or IsNamedDoc b _ _ tt tt))

first_named : (s : SurveySeen) → IfSome (first_fault s) IsNamedDoc
unfolding first_fault
first_named s = rows_fault-named (has_unknown s) (has_missing s) (has_bad s)

pub rows_named : {A : Type 0} (o : Option DocFault) (rest : Result A DocFault) (f : DocFault) → IfSome o IsNamedDoc → (rest ≡ Err f → IsNamedDoc f)
    → unless_fault o rest ≡ Err f → IsNamedDoc f
rows_named None rest f h more e = more e
rows_named (Some g) rest f h more e = subst IsNamedDoc (err_doc g f e) h

-- the fault of the first bad line
module _ {A : Type 0} (read : List ℕ → Option A) (bad : ℕ → DocFault) (named : (n : ℕ) → IsNamedDoc (bad n)) where
  line_named : (n : ℕ) (o : Option A) (r : Result (List A) DocFault) (f : DocFault) → (r ≡ Err f → IsNamedDoc f) → with_line (bad n) o r ≡ Err f → IsNamedDoc f
  line_named n None r f rest e = subst IsNamedDoc (err_doc (bad n) f e) (named n)
  line_named n (Some x) (Ok more) f rest e = absurd cc
  line_named n (Some x) (Err g) f rest e = rest e

  some_named : (b : Bool) (n : ℕ) (o : Option A) (r : Result (List A) DocFault) (f : DocFault) → (r ≡ Err f → IsNamedDoc f)
      → cond b r (with_line (bad n) o r) ≡ Err f → IsNamedDoc f
  some_named true n o r f rest e = rest e
  some_named false n o r f rest e = line_named n o r f rest e

  from_named : (n : ℕ) (texts : List (List ℕ)) (f : DocFault) → lines_from read bad n texts ≡ Err f → IsNamedDoc f
  unfolding lines_from
  from_named n [] f e = absurd cc
  from_named n (t ∷ ts) f e =
      some_named (eqb (length (strip_carriage_return t)) 0) n (read (strip_carriage_return t)) (lines_from read bad (n + 1) ts) f (from_named (n + 1) ts f) e

  pub lines-named : (text : List ℕ) (f : DocFault) → lines_of read bad text ≡ Err f → IsNamedDoc f
  unfolding lines_of
  lines-named text f e = from_named 1 (slice_split (λ b. eqb b 10) text) f e

judged_named : (s : SurveySeen) (f : DocFault) → judged s ≡ Err f → IsNamedDoc f
unfolding judged
judged_named s f e =
    rows_named (first_fault s) _ f (first_named s)
    (bind_named (checked (plan_asked s)) _ f (checked_named (plan_asked s) f)
    (λ p. bind_named (script_of (length p.ports) (value_or [] s.script)) _ f
    (lines-named (line_command (length p.ports)) (λ n. doc.BadCommand n) (λ n. tt) (value_or [] s.script) f) (λ commands k. absurd cc)))
    e

-- ---- the bytes

table_named : (o : Option Members) (f : DocFault) → table_or_fault o ≡ Err f → IsNamedDoc f
table_named None f e = subst IsNamedDoc (err_doc doc.NotToml f e) tt
table_named (Some t) f e = absurd cc

text_named : (b : Bool) (o : Option Members) (f : DocFault) → cond b (table_or_fault o) (Err doc.NotToml) ≡ Err f → IsNamedDoc f
text_named true o f e = table_named o f e
text_named false o f e = subst IsNamedDoc (err_doc doc.NotToml f e) tt

parsed_named : (bytes : List ℕ) (f : DocFault) → parsed bytes ≡ Err f → IsNamedDoc f
unfolding parsed
parsed_named bytes f e = text_named (is_utf8 bytes) (parse_document bytes) f e

long_named : (b : Bool) (bytes : List ℕ) (f : DocFault) → cond b (Err doc.TooLong) (parsed bytes) ≡ Err f → IsNamedDoc f
long_named true bytes f e = subst IsNamedDoc (err_doc doc.TooLong f e) tt
long_named false bytes f e = parsed_named bytes f e

pub table_of-named : (bytes : List ℕ) (f : DocFault) → table_of bytes ≡ Err f → IsNamedDoc f
table_of-named bytes f e = long_named _ bytes f e

document_named : (bytes : List ℕ) (f : DocFault) → document_of bytes ≡ Err f → IsNamedDoc f
unfolding document_of
document_named bytes f e = bind_named (table_of bytes) _ f (table_of-named bytes f) (λ t. judged_named (survey_of t) f) e

-- what was answered has a name
pub gives-named : (bytes : List ℕ) (r : Result Document ReadFault) → Gives planned_of r (document_of bytes) → IfErr r IsNamed
gives-named bytes (Ok d) e = tt
gives-named bytes (Err (reads.Document f)) e = document_named bytes f e
gives-named bytes (Err reads.Memory) e = tt
