-- How far a history was read.
use Rattle.std.proofs.Common.{◌≡◌, ◌≢◌, ◌==◌, true, ℕ, ◌+◌, ◌<◌, ◌≤◌, List, [], ◌∷◌, ◌++◌, length, refl, sym, ap, subst, ◌∙◌, arith, append_assoc, append-nil, length-append}
use Rattle.std.specs.Prelude.{All, codes, decimal}
use Rattle.std.specs.List.{AllByRecursion}
use Rattle.std.proofs.lemmas.Bool.{eqb-true}
use Rattle.std.proofs.lemmas.List.Elements.{All-append, All-cons, All-nil, recursion_from_All}
use Rattle.evt_types.specs.declared.event.Event.{Event}
use Rattle.history_judge.specs.declared.seen.Deed.{Deed}
use Rattle.history_judge.specs.declared.seen.Deed.TheVariants.{Sent, Got}
use Rattle.history_judge.specs.declared.seen.Seen.{Seen}
use Rattle.history_reading.specs.Causes.{IsBadLine, NoLine}
use Rattle.history_reading.specs.Texts.{IsEntry, op_text, event_text, deed_text, line_text, lines_text, history_text}

-- ---- what stands behind a line is shorter

behind : (x a b : List ℕ) → length x ≤ length b → length x ≤ length (a ++ b)
behind x a b h = let sum = length-append a b in omega (arith, sum, h)

same : (x : List ℕ) → length x ≤ length x
same x = omega arith

behind_event : (e : Event) (x : List ℕ) → length x ≤ length (event_text e x)
behind_event e x =
    let t1 : List ℕ = codes "}\n" ++ x in
    let t2 : List ℕ = decimal e.payload ++ t1 in
    let t3 : List ℕ = codes ",\"payload\":" ++ t2 in
    let t4 : List ℕ = decimal e.priority ++ t3 in
    let t5 : List ℕ = codes ",\"priority\":" ++ t4 in
    let t6 : List ℕ = decimal e.event_type ++ t5 in
    let t7 : List ℕ = codes ",\"event_type\":" ++ t6 in
    let t8 : List ℕ = decimal e.sub_type ++ t7 in
    let t9 : List ℕ = codes ",\"sub_type\":" ++ t8 in
    let t10 : List ℕ = decimal e.flow ++ t9 in
    let t11 : List ℕ = codes ",\"flow\":" ++ t10 in
    let t12 : List ℕ = decimal e.queue ++ t11 in
    behind x (codes "\",\"queue\":") t12 (behind x (decimal e.queue) t11 (behind x (codes ",\"flow\":") t10 (behind x (decimal e.flow) t9 (behind x (codes ",\"sub_type\":") t8 (behind x (decimal e.sub_type) t7 (behind x (codes ",\"event_type\":") t6 (behind x (decimal e.event_type) t5 (behind x (codes ",\"priority\":") t4 (behind x (decimal e.priority) t3 (behind x (codes ",\"payload\":") t2 (behind x (decimal e.payload) t1 (behind x (codes "}\n") x (same x)))))))))))))

behind_deed : (d : Deed) (x : List ℕ) → length x ≤ length (deed_text d x)
behind_deed (Sent r) x = behind x (codes ",\"sent\":\"") (op_text r.event.op ++ event_text r.event x) (behind x (op_text r.event.op) (event_text r.event x) (behind_event r.event x))
behind_deed (Got e) x = behind x (codes ",\"got\":\"") (op_text e.op ++ event_text e x) (behind x (op_text e.op) (event_text e x) (behind_event e x))

pub shorter : (s : Seen) (text x : List ℕ) → text ≡ line_text s x → length x < length text
shorter s text x e =
    let t0 : List ℕ = deed_text s.deed x in
    let t1 : List ℕ = decimal s.ended ++ t0 in
    let t2 : List ℕ = codes ",\"ended\":" ++ t1 in
    let t3 : List ℕ = decimal s.began ++ t2 in
    let t4 : List ℕ = codes ",\"began\":" ++ t3 in
    let t5 : List ℕ = decimal s.port ++ t4 in
    let t6 : List ℕ = codes "\"port\":" ++ t5 in
    let tail : length x ≤ length t6 = behind x (codes "\"port\":") t5 (behind x (decimal s.port) t4 (behind x (codes ",\"began\":") t3 (behind x (decimal s.began) t2 (behind x (codes ",\"ended\":") t1 (behind x (decimal s.ended) t0 (behind_deed s.deed x)))))) in
    rw e (omega (arith, tail))

-- ---- lines

lines_text-push : (hs : List Seen) (s : Seen) (more : List ℕ) → lines_text (hs ++ s ∷ []) more ≡ lines_text hs (line_text s more)
lines_text-push [] s more = refl
lines_text-push (h ∷ hs) s more = ap (line_text h) (lines_text-push hs s more)

line-some : (s : Seen) (more : List ℕ) → line_text s more ≢ []
line-some s more e = absurd cc

-- what is left of a history, behind these entries
pub record Left (hs T : List Seen) (rest : List ℕ) : Type 0 where
  pub others : List Seen
  pub whole : T ≡ hs ++ others
  pub said : AllByRecursion IsEntry others
  pub lines : rest ≡ history_text others

-- these entries were read, and this is left
pub record IsRead (text : List ℕ) (hs : List Seen) (rest : List ℕ) : Type 0 where
  pub lines : text ≡ lines_text hs rest
  pub there : All IsEntry hs
  pub left : (T : List Seen) → All IsEntry T → text ≡ history_text T → Left hs T rest

pub read-none : (text : List ℕ) → IsRead text [] text
read-none text = record {
  lines = refl;
  there = All-nil IsEntry;
  left = λ T is e. record { others = T; whole = refl; said = recursion_from_All IsEntry T is; lines = e };
}

left-step : (hs T others : List Seen) (s : Seen) (rest more : List ℕ) → T ≡ hs ++ others → AllByRecursion IsEntry others → rest ≡ history_text others → rest ≢ []
    → ((r : Seen) (x : List ℕ) → IsEntry r → rest ≡ line_text r x → (s ≡ r) × (more ≡ x)) → Left (hs ++ s ∷ []) T more
left-step hs T [] s rest more whole said lines some only = absurd (some lines)
left-step hs T (r ∷ rs) s rest more whole said lines some only =
    let one = only r (history_text rs) said.0 lines in
    subst (λ x. Left (hs ++ x ∷ []) T more) (sym one.0) (record {
      others = rs;
      whole = whole ∙ sym (append_assoc hs (r ∷ []) rs);
      said = said.1;
      lines = one.1;
    })

-- one entry more
pub read-step : (text : List ℕ) (hs : List Seen) (rest : List ℕ) (s : Seen) (more : List ℕ) → IsRead text hs rest → rest ≢ [] → rest ≡ line_text s more → IsEntry s
    → ((r : Seen) (x : List ℕ) → IsEntry r → rest ≡ line_text r x → (s ≡ r) × (more ≡ x)) → IsRead text (hs ++ s ∷ []) more
read-step text hs rest s more h some e is only = record {
  lines = h.lines ∙ ap (lines_text hs) e ∙ sym (lines_text-push hs s more);
  there = All-append IsEntry hs (s ∷ []) h.there (All-cons IsEntry s [] is (All-nil IsEntry));
  left = λ T all same_text. let l = h.left T all same_text in left-step hs T l.others s rest more l.whole l.said l.lines some only;
}

-- no entry's line stands there
pub bad-line : (text : List ℕ) (hs : List Seen) (rest : List ℕ) → IsRead text hs rest → rest ≢ [] → NoLine rest → IsBadLine text (length hs + 1)
bad-line text hs rest h some none = record { entries = hs; rest = rest; whole = h.lines; there = h.there; place = refl; some = some; none = none }

none-left : (hs T others : List Seen) (rest : List ℕ) → AllByRecursion IsEntry others → rest ≡ history_text others → rest ≢ [] → NoLine rest → ⊥
none-left hs T [] rest said lines some none = some lines
none-left hs T (r ∷ rs) rest said lines some none = none r (history_text rs) said.0 lines

pub bad-history : (text : List ℕ) (hs : List Seen) (rest : List ℕ) → IsRead text hs rest → rest ≢ [] → NoLine rest → (T : List Seen) → All IsEntry T → text ≡ history_text T → ⊥
bad-history text hs rest h some none T all e = let l = h.left T all e in none-left hs T l.others rest l.said l.lines some none

none-there : (xs : List ℕ) → length xs ≡ 0 → xs ≡ []
none-there [] e = refl
none-there (x ∷ xs) e = absurd (omega (arith, e))

pub empty : (xs : List ℕ) → (length xs == 0) ≡ true → xs ≡ []
empty xs e = none-there xs (eqb-true (length xs) 0 e)

-- where nothing is left, all was read
pub read-text : (text : List ℕ) (hs : List Seen) (rest : List ℕ) → IsRead text hs rest → rest ≡ [] → text ≡ history_text hs
read-text text hs rest h e = h.lines ∙ ap (lines_text hs) e

all-left : (hs T others : List Seen) (rest : List ℕ) → T ≡ hs ++ others → rest ≡ history_text others → rest ≡ [] → hs ≡ T
all-left hs T [] rest whole lines e = sym (whole ∙ append-nil hs)
all-left hs T (r ∷ rs) rest whole lines e = absurd (line-some r (history_text rs) (sym lines ∙ e))

pub read-all : (text : List ℕ) (hs : List Seen) (rest : List ℕ) → IsRead text hs rest → rest ≡ [] → (T : List Seen) → All IsEntry T → text ≡ history_text T → hs ≡ T
read-all text hs rest h e T all same_text = let l = h.left T all same_text in all-left hs T l.others rest l.whole l.lines e
