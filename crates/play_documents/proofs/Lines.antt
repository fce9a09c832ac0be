-- The lines of a text in turn.
use Rattle.std.proofs.Common.{◌≡◌, ◌≢◌, ℕ, ◌+◌, ◌-◌, ◌<◌, ◌≤◌, Bool, true, false, cond, eqb, List, [], ◌∷◌, ◌++◌, length, get_or, take, drop, map, Bor, Option, Some, None, Result, Ok, Err, refl, sym, ap, ◌∙◌, append_assoc, append-nil, arith}
use Rattle.std.specs.List.{slice_split}
use Rattle.std.specs.Str.Lines.{strip_carriage_return}
use Rattle.std.proofs.lemmas.Bool.{eqb-true, eq-eqb, ne_eqb}
use Rattle.std.proofs.lemmas.Grind.{common_steps}
use Rattle.std.proofs.lemmas.List.{at_drop_all, drop_more}
use Rattle.play_documents.specs.Lines.{lines_from, lines_of, with_line}
use Rattle.play_documents.specs.declared.fault.DocFault.{DocFault}

-- a line that a carriage return ends, and one that none does
pub stripped-some : (l x : List ℕ) → l ≡ x ++ 13 ∷ [] → x ≡ strip_carriage_return l
stripped-some l x e =
    let last : get_or l (length l - 1) 0 ≡ 13 = grind (arith, common_steps) in
    let front : take (length l - 1) l ≡ x = grind (arith, common_steps) in
    sym (ap (λ t. cond t (take (length l - 1) l) l) (eq-eqb _ 13 last) ∙ front)

last_of : (l : List ℕ) → 0 < length l → l ≡ take (length l - 1) l ++ get_or l (length l - 1) 0 ∷ []
last_of l some = grind (arith, common_steps)

some_from_last : (l : List ℕ) → get_or l (length l - 1) 0 ≡ 13 → 0 < length l
some_from_last [] e = absurd (omega arith)
some_from_last (x ∷ l) e = omega arith

stripped-by : (b : Bool) (l : List ℕ) → ((front : List ℕ) → l ≢ front ++ 13 ∷ []) → eqb (get_or l (length l - 1) 0) 13 ≡ b → l ≡ cond b (take (length l - 1) l) l
stripped-by false l none e = refl
stripped-by true l none e =
    let is : get_or l (length l - 1) 0 ≡ 13 = eqb-true _ _ e in
    absurd (none (take (length l - 1) l) (last_of l (some_from_last l is) ∙ ap (λ x. take (length l - 1) l ++ x ∷ []) is))

pub stripped-none : (l : List ℕ) → ((front : List ℕ) → l ≢ front ++ 13 ∷ []) → l ≡ strip_carriage_return l
stripped-none l none = stripped-by (eqb (get_or l (length l - 1) 0) 13) l none refl

-- what was read before, and what is still read
abbrev pub after : {A : Type 0} → List A → Result (List A) DocFault → Result (List A) DocFault
after front (Ok more) = Ok (front ++ more)
after front (Err f) = Err f

one_more : {A : Type 0} (front : List A) (bad : DocFault) (x : A) (r : Result (List A) DocFault) → after front (with_line bad (Some x) r) ≡ after (front ++ x ∷ []) r
one_more front bad x (Ok more) = ap Ok (sym (append_assoc front (x ∷ []) more))
one_more front bad x (Err f) = refl

nothing_before : {A : Type 0} (r : Result (List A) DocFault) → after [] r ≡ r
nothing_before (Ok more) = refl
nothing_before (Err f) = refl

abbrev pub texts : List (Bor (List ℕ)) → List (List ℕ)
texts ls = map (λ l. l.now) ls

module _ {A : Type 0} (read : List ℕ → Option A) (bad : ℕ → DocFault) where
  module _ (ls : List (Bor (List ℕ))) (i : ℕ) (d : Bor (List ℕ)) (lt : i < length ls) (line : List ℕ) (is : line ≡ strip_carriage_return (get_or ls i d).now) where
    -- an empty line
    pub line-skips : length line ≡ 0 → lines_from read bad (i + 1) (texts (drop i ls)) ≡ lines_from read bad (i + 1 + 1) (texts (drop (i + 1) ls))
    unfolding lines_from
    line-skips none = rw (drop_more ls i d lt, ← is, none)

    -- a line that says something
    pub line-goes : (front : List A) (x : A) → length line ≢ 0 → read line ≡ Some x
        → after front (lines_from read bad (i + 1) (texts (drop i ls))) ≡ after (front ++ x ∷ []) (lines_from read bad (i + 1 + 1) (texts (drop (i + 1) ls)))
    unfolding lines_from
    line-goes front x some says =
        rw (drop_more ls i d lt, ← is, ne_eqb (length line) 0 some, says) (one_more front (bad (i + 1)) x (lines_from read bad (i + 1 + 1) (texts (drop (i + 1) ls))))

    -- a bad line
    pub line-stops : length line ≢ 0 → read line ≡ None → lines_from read bad (i + 1) (texts (drop i ls)) ≡ Err (bad (i + 1))
    unfolding lines_from
    line-stops some says = rw (drop_more ls i d lt, ← is, ne_eqb (length line) 0 some, says) refl

  -- no line was read
  pub lines-start : (text : List ℕ) (ls : List (Bor (List ℕ))) (front : List A) → front ≡ [] → texts ls ≡ slice_split (λ b. eqb b 10) text
      → after front (lines_from read bad 1 (texts ls)) ≡ lines_of read bad text
  unfolding lines_of
  lines-start text ls front none are = rw (none, are) (nothing_before (lines_from read bad 1 (slice_split (λ b. eqb b 10) text)))

  -- no line is left
  pub lines-end : (n : ℕ) (ls : List (Bor (List ℕ))) (i : ℕ) (front : List A) → length ls ≤ i → after front (lines_from read bad n (texts (drop i ls))) ≡ Ok front
  unfolding lines_from
  lines-end n ls i front le = at_drop_all (λ ws. after front (lines_from read bad n (texts ws))) ls i le ∙ ap Ok (append-nil front)
