-- Where a log begins.
use Rattle.std.proofs.Common.{◌≡◌, ◌≢◌, ℕ, ◌+◌, ◌≤◌, List, [], ◌∷◌, ◌++◌, length, refl, sym, ap, subst, ◌∙◌, arith, append_assoc, length-append}
use Rattle.std.specs.Prelude.{codes}
use Rattle.std.specs.List.{AllByRecursion}
use Rattle.log_reading.specs.Logs.{IsLine, lines_text, BeginsLog, HasLog}
use Rattle.log_reading.proofs.Lines.{lines_unique, no_end_inside}

-- a line that doesn't say `log`
abbrev pub IsOther : List ℕ → Type 0
IsOther l = IsLine l × (l ≢ codes "log")

is-log : IsLine (codes "log")
is-log = (λ e. omega (arith, e), (λ e. omega (arith, e), (λ e. omega (arith, e), tt)))

first-of : (x : List ℕ) (xs : List (List ℕ)) (z : List ℕ) → lines_text (x ∷ xs) ++ z ≡ x ++ 10 ∷ (lines_text xs ++ z)
first-of x xs z = append_assoc x (10 ∷ lines_text xs) z

lines_text-push : (before : List (List ℕ)) (l z : List ℕ) → lines_text (before ++ l ∷ []) ++ z ≡ lines_text before ++ (l ++ 10 ∷ z)
lines_text-push [] l z = append_assoc l (10 ∷ []) z
lines_text-push (x ∷ xs) l z = first-of x (xs ++ l ∷ []) z ∙ ap (λ r. x ++ 10 ∷ r) (lines_text-push xs l z) ∙ sym (first-of x xs (l ++ 10 ∷ z))

others-push : (before : List (List ℕ)) (l : List ℕ) → AllByRecursion IsOther before → IsOther l → AllByRecursion IsOther (before ++ l ∷ [])
others-push [] l h o = (o, tt)
others-push (x ∷ xs) l h o = (h.0, others-push xs l h.1 o)

length-push : (before : List (List ℕ)) (l : List ℕ) → length (before ++ l ∷ []) ≡ length before + 1
length-push [] l = refl
length-push (x ∷ xs) l = let rest = length-push xs l in omega (arith, rest)

-- ---- how far the lines were passed over

-- the text has these lines before this, and none of them says `log`
pub record Passed (text : List ℕ) (line : ℕ) (rest : List ℕ) : Type 0 where
  pub before : List (List ℕ)
  pub whole : text ≡ lines_text before ++ rest
  pub lines : AllByRecursion IsOther before
  pub place : line ≡ length before + 1
  pub log : HasLog text → HasLog rest

pub passed-none : (text : List ℕ) → Passed text 1 text
passed-none text = record { before = []; whole = refl; lines = tt; place = refl; log = λ h. h }

-- what says log behind another line
log-behind : (l behind : List ℕ) (before : List (List ℕ)) (after : List ℕ) → IsOther l → AllByRecursion IsLine before → l ++ 10 ∷ behind ≡ lines_text before ++ (codes "log\n" ++ after) → HasLog behind
log-behind l behind [] after o h e = absurd (o.1 ((lines_unique l (codes "log") behind after o.0 is-log e).0))
log-behind l behind (x ∷ xs) after o h e =
    let two = lines_unique l x behind (lines_text xs ++ (codes "log\n" ++ after)) o.0 h.0 (e ∙ first-of x xs (codes "log\n" ++ after)) in
    (xs, after, h.1, two.1)

pub passed-one : (text : List ℕ) (line : ℕ) (rest l behind : List ℕ) → Passed text line rest → rest ≡ l ++ (codes "\n" ++ behind) → IsLine l → l ≢ codes "log" → Passed text (line + 1) behind
passed-one text line rest l behind p e is other = record {
  before = p.before ++ l ∷ [];
  whole = p.whole ∙ ap (λ r. lines_text p.before ++ r) e ∙ sym (lines_text-push p.before l behind);
  lines = others-push p.before l p.lines (is, other);
  place = omega (arith, length-push p.before l, p.place);
  log = λ has. let h = p.log has in log-behind l behind h.0 h.1 (is, other) h.2 (sym e ∙ h.3);
}

pub passed-begins : (text : List ℕ) (line : ℕ) (rest l behind : List ℕ) → Passed text line rest → rest ≡ l ++ (codes "\n" ++ behind) → l ≡ codes "log" → BeginsLog text line behind
passed-begins text line rest l behind p e is = record {
  before = p.before;
  whole = p.whole ∙ ap (λ r. lines_text p.before ++ r) (e ∙ ap (λ x. x ++ (codes "\n" ++ behind)) is);
  lines = p.lines;
  place = p.place;
}

-- no line that ends, and so none that says log
no_log : (before : List (List ℕ)) (behind : List ℕ) → IsLine (lines_text before ++ (codes "log\n" ++ behind)) → ⊥
no_log [] behind h = no_end_inside (codes "log") behind h
no_log (x ∷ xs) behind h = no_end_inside x (lines_text xs ++ (codes "log\n" ++ behind)) (subst IsLine (first-of x xs (codes "log\n" ++ behind)) h)

pub passed-all : (text : List ℕ) (line : ℕ) (rest : List ℕ) → Passed text line rest → IsLine rest → ¬ HasLog text
passed-all text line rest p is has = let h = p.log has in no_log h.0 h.1 (subst IsLine h.3 is)

-- what stands behind a line is shorter
pub shorter : (rest l behind : List ℕ) → rest ≡ l ++ (codes "\n" ++ behind) → length behind + 1 ≤ length rest
shorter rest l behind e = omega (arith, ap length e, length-append l (10 ∷ behind))

-- ---- the first line that says `log` is one

begins_same : (xs ys : List (List ℕ)) (a b : List ℕ) → AllByRecursion IsOther xs → AllByRecursion IsOther ys → lines_text xs ++ (codes "log\n" ++ a) ≡ lines_text ys ++ (codes "log\n" ++ b) → (length xs ≡ length ys) × (a ≡ b)
begins_same [] [] a b hx hy e = (refl, (lines_unique (codes "log") (codes "log") a b is-log is-log e).1)
begins_same [] (y ∷ ys) a b hx hy e =
    absurd (hy.0.1 (sym ((lines_unique (codes "log") y a (lines_text ys ++ (codes "log\n" ++ b)) is-log hy.0.0 (e ∙ first-of y ys (codes "log\n" ++ b))).0)))
begins_same (x ∷ xs) [] a b hx hy e =
    absurd (hx.0.1 ((lines_unique x (codes "log") (lines_text xs ++ (codes "log\n" ++ a)) b hx.0.0 is-log (sym (first-of x xs (codes "log\n" ++ a)) ∙ e)).0))
begins_same (x ∷ xs) (y ∷ ys) a b hx hy e =
    let two = lines_unique x y (lines_text xs ++ (codes "log\n" ++ a)) (lines_text ys ++ (codes "log\n" ++ b)) hx.0.0 hy.0.0
    (sym (first-of x xs (codes "log\n" ++ a)) ∙ e ∙ first-of y ys (codes "log\n" ++ b)) in
    let rest = begins_same xs ys a b hx.1 hy.1 two.1 in
    let shorter = rest.0 in (omega (arith, shorter), rest.1)

pub begins_unique : (text : List ℕ) (m n : ℕ) (a b : List ℕ) → BeginsLog text m a → BeginsLog text n b → (m ≡ n) × (a ≡ b)
begins_unique text m n a b g h =
    let same = begins_same g.before h.before a b g.lines h.lines (sym g.whole ∙ h.whole) in
    let count = same.0 in (omega (arith, g.place, h.place, count), same.1)
