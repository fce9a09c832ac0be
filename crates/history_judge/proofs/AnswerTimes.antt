-- The lists of the times at which answers began, as they are made.
use Rattle.std.specs.Prelude.{ℕ, ◌≡◌, ◌≢◌, ◌+◌, ◌<◌, true, false, List, [], ◌∷◌, ◌++◌, ◌==◌, length, map, take, filter, Some, slice_get, ◌⊎◌}
use Rattle.std.proofs.Common.{refl, sym, ap, ◌∙◌, arith, inl, inr, ⊎_elim, set, get_or, length-append}
use Rattle.std.proofs.lemmas.Bool.{and_from, and_left, and_right, cases_Bool, cases_eq, cases_lt, cond-false, cond-true}
use Rattle.std.proofs.lemmas.List.{get_or-map, get_or_append_left, get_or_push, get_or-set_other, get_or-set_same, length-map, length-set, map-append, map-set}
use Rattle.std.specs.declared.alloc.Global.{Global}
use Rattle.std.specs.declared.vec.Vec.{Vec}
use Rattle.lists.proofs.Lists.{eqb_other, eqb_same, filter-push_false, filter-push_true}
use Rattle.lists.proofs.Parts.{take_next}
use Rattle.history_judge.specs.Histories.{answers, is_answered}
use Rattle.history_judge.specs.Holds.{AreTimes, answer_times, noted, row, rows}
use Rattle.history_judge.specs.declared.seen.Seen.{Seen}

length-rows : (lists : List (Vec ℕ Global)) → length (rows lists) ≡ length lists
length-rows lists = length-map lists (λ (v : Vec ℕ Global). v.items)

-- one list is written
pub rows_set : (lists : List (Vec ℕ Global)) (n : ℕ) (list : Vec ℕ Global) → rows (set lists n list) ≡ set (rows lists) n list.items
rows_set lists n list = map-set (λ (v : Vec ℕ Global). v.items) lists n list

-- the list at a place that is there
pub row_is : (lists : List (Vec ℕ Global)) (n : ℕ) (d : Vec ℕ Global) → n < length lists → row (rows lists) n ≡ (get_or lists n d).items
row_is lists n d lt = get_or-map (λ (v : Vec ℕ Global). v.items) lists n d [] lt

-- an answer is noted
pub noted_push : (lists : List (Vec ℕ Global)) (s : Seen) (old new : Vec ℕ Global) → s.port < length lists → answers s.deed ≡ true → old ≡ get_or lists s.port old → new.items ≡ old.items ++ s.began ∷ []
    → rows (set lists s.port new) ≡ noted (rows lists) s
noted_push lists s old new lt answer was is =
    rows_set lists s.port new
    ∙ (ap (set (rows lists) s.port) (is ∙ ap (λ xs. xs ++ s.began ∷ []) (ap (λ (v : Vec ℕ Global). v.items) was ∙ sym (row_is lists s.port old lt)))
    ∙ sym (cond-true (answers s.deed) (set (rows lists) s.port (row (rows lists) s.port ++ s.began ∷ [])) (rows lists) answer))

-- ---- empty lists

pub no_times : AreTimes 0 [] []
no_times = record { sized = refl; each = λ l lt. absurd (omega (arith, lt)) }

pub times_empty : (n : ℕ) (old new : List (Vec ℕ Global)) (list : Vec ℕ Global) → new ≡ old ++ list ∷ [] → list.items ≡ [] → AreTimes n [] old → AreTimes (n + 1) [] new
times_empty n old new list is none are =
    record {
      sized = omega (arith, ap length is, length-append old (list ∷ []), are.sized);
      each = λ l lt. ap (λ xs. get_or xs l []) all ∙ ⊎_elim (λ less. before l less) (λ past. last l (omega (arith, lt, past, are.sized, length-rows old))) (cases_lt l n);
    }
  where
    all : rows new ≡ rows old ++ [] ∷ []
    all =
        ap rows is ∙ (map-append (λ (v : Vec ℕ Global). v.items) old (list ∷ []) ∙ ap (λ (xs : List ℕ). rows old ++ xs ∷ []) none)

    before : (l : ℕ) → l < n → get_or (rows old ++ [] ∷ []) l [] ≡ []
    before l less = get_or_append_left (rows old) ([] ∷ []) [] l (omega (arith, less, are.sized, length-rows old)) ∙ are.each l less

    last : (l : ℕ) → l ≡ length (rows old) → get_or (rows old ++ [] ∷ []) l [] ≡ []
    last l place = get_or_push (rows old) [] [] l (sym place)

-- ---- one entry more

times_push : (hs : List Seen) (i l : ℕ) (s : Seen) → slice_get hs i ≡ Some s → is_answered l s ≡ true → answer_times (take (i + 1) hs) l ≡ answer_times (take i hs) l ++ s.began ∷ []
times_push hs i l s at is =
    ap (λ xs. map (λ (u : Seen). u.began) (filter (is_answered l) xs)) (take_next hs i s at)
    ∙ (ap (map (λ (u : Seen). u.began)) (filter-push_true (is_answered l) (take i hs) s is)
    ∙ map-append (λ (u : Seen). u.began) (filter (is_answered l) (take i hs)) (s ∷ []))

times_stay : (hs : List Seen) (i l : ℕ) (s : Seen) → slice_get hs i ≡ Some s → is_answered l s ≡ false → answer_times (take (i + 1) hs) l ≡ answer_times (take i hs) l
times_stay hs i l s at is =
    ap (λ xs. map (λ (u : Seen). u.began) (filter (is_answered l) xs)) (take_next hs i s at)
    ∙ ap (map (λ (u : Seen). u.began)) (filter-push_false (is_answered l) (take i hs) s is)

pub times_noted : (ports : ℕ) (hs : List Seen) (i : ℕ) (s : Seen) (old new : List (Vec ℕ Global)) → slice_get hs i ≡ Some s → s.port < ports → AreTimes ports (take i hs) old
    → rows new ≡ noted (rows old) s → AreTimes ports (take (i + 1) hs) new
times_noted ports hs i s old new at port are is = by_answer (cases_Bool (answers s.deed))
  where
    room : s.port < length (rows old)
    room = omega (arith, port, are.sized, length-rows old)

    longer : List ℕ
    longer = row (rows old) s.port ++ s.began ∷ []

    answered_is : answers s.deed ≡ true → rows new ≡ set (rows old) s.port longer
    answered_is answer = is ∙ cond-true (answers s.deed) (set (rows old) s.port longer) (rows old) answer

    here : (l : ℕ) → answers s.deed ≡ true → l ≡ s.port → row (rows new) l ≡ answer_times (take (i + 1) hs) l
    here l answer same =
        ap (λ xs. get_or xs l []) (answered_is answer)
        ∙ (ap (λ k. get_or (set (rows old) s.port longer) k []) same
        ∙ (get_or-set_same (rows old) s.port longer [] room
        ∙ (ap (λ xs. xs ++ s.began ∷ []) (are.each s.port port ∙ ap (answer_times (take i hs)) (sym same))
        ∙ sym (times_push hs i l s at (and_from (s.port == l) (answers s.deed) (ap (λ k. s.port == k) same ∙ eqb_same s.port) answer)))))

    there : (l : ℕ) → l < ports → answers s.deed ≡ true → l ≢ s.port → row (rows new) l ≡ answer_times (take (i + 1) hs) l
    there l lt answer differs =
        ap (λ xs. get_or xs l []) (answered_is answer)
        ∙ (get_or-set_other (rows old) s.port l longer [] differs
        ∙ (are.each l lt ∙ sym (times_stay hs i l s at (and_left (s.port == l) (answers s.deed) (eqb_other s.port l (λ same. differs (sym same)))))))

    by_answer : (answers s.deed ≡ true) ⊎ (answers s.deed ≡ false) → AreTimes ports (take (i + 1) hs) new
    by_answer (inl answer) =
        record {
          sized = omega (arith, ap length (answered_is answer), length-set (rows old) s.port longer, length-rows old, length-rows new, are.sized);
          each = λ l lt. ⊎_elim (λ same. here l answer same) (λ differs. there l lt answer differs) (cases_eq l s.port);
        }
    by_answer (inr other) =
        let stays : rows new ≡ rows old = is ∙ cond-false (answers s.deed) (set (rows old) s.port longer) (rows old) other in
        record {
          sized = omega (arith, ap length stays, length-rows old, length-rows new, are.sized);
          each = λ l lt. ap (λ xs. get_or xs l []) stays ∙ (are.each l lt ∙ sym (times_stay hs i l s at (and_right (s.port == l) (answers s.deed) other)));
        }
