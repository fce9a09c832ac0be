-- What answers what was got: a port's answers are listed, and looked up by how many events it got before.
use Rattle.std.specs.Prelude.{ℕ, ◌≡◌, ◌≢◌, ◌+◌, ◌<◌, ◌≤◌, true, false, List, [], ◌∷◌, ◌++◌, ◌==◌, length, Option, Some, None, slice_get, ◌⊎◌}
use Rattle.std.proofs.Common.{refl, sym, ap, ◌∙◌, arith, subst, inl, inr, ⊎_elim, set, get_or, length-append}
use Rattle.std.proofs.lemmas.Bool.{and_from, and_left, and_right, cases_Bool, cases_eq, cases_lt, cond-false, cond-true, false≢true}
use Rattle.std.proofs.lemmas.List.{get_or-set_other, get_or-set_same, length-map, length-set}
use Rattle.std.proofs.lemmas.Option.{none-some, same_Some, slice_get_within}
use Rattle.std.specs.declared.alloc.Global.{Global}
use Rattle.std.specs.declared.vec.Vec.{Vec}
use Rattle.lists.proofs.Lists.{eqb_other, eqb_same, slice_get-append_left, slice_get-last, slice_get-some}
use Rattle.history_judge.proofs.Fits.{count_more}
use Rattle.history_judge.proofs.Numbers.{count_first}
use Rattle.history_judge.proofs.Watched.{counts_on}
use Rattle.history_judge.specs.Answers.{AreFound, ArePlaces, ArePlacesOf, IsAnswerOf, answer_got, answer_of, noted_at}
use Rattle.history_judge.specs.Histories.{IsAnswerTo, answered_before, answers, gets, got_before, is_answered}
use Rattle.history_judge.specs.Holds.{row, rows}
use Rattle.history_judge.specs.Watching.{counted}
use Rattle.history_judge.specs.declared.seen.Deed.{Deed}
use Rattle.history_judge.specs.declared.seen.Deed.TheVariants.{Sent, Got}
use Rattle.history_judge.specs.declared.seen.Seen.{Seen}

-- ---- one answer at most

-- an answer that stands before the j-th entry is counted there
answered_more : (hs : List Seen) (l i j : ℕ) (s : Seen) → slice_get hs i ≡ Some s → is_answered l s ≡ true → i < j → answered_before hs l i < answered_before hs l j
answered_more hs l i j s at answer lt =
    omega (
      arith,
      count_more (is_answered l) hs i s at,
      cond-true {A = ℕ} (is_answered l s) 1 0 answer,
      count_first (is_answered l) hs (i + 1) j (omega (arith, lt)),
    )

-- two answers of a port that have as many before them are one
same_place : (hs : List Seen) (l b c : ℕ) (s u : Seen) → slice_get hs b ≡ Some s → is_answered l s ≡ true → slice_get hs c ≡ Some u → is_answered l u ≡ true
    → answered_before hs l b ≡ answered_before hs l c → b ≡ c
same_place hs l b c s u at one there other turns =
    ⊎_elim
    (λ lt. absurd (omega (arith, turns, answered_more hs l b c s at one lt)))
    (λ le. ⊎_elim (λ lt. absurd (omega (arith, turns, answered_more hs l c b u there other lt))) (λ ge. omega (arith, le, ge)) (cases_lt c b))
    (cases_lt b c)

pub answer_unique : (hs : List Seen) (g b c : ℕ) → IsAnswerTo hs g b → IsAnswerTo hs g c → b ≡ c
answer_unique hs g b c one other =
    same_place hs (one.holder).port b c one.answerer other.answerer one.there one.answer other.there (subst (λ l. is_answered l other.answerer ≡ true) port other.answer)
    (one.turn ∙ sym (subst (λ l. answered_before hs l c ≡ got_before hs l g) port other.turn))
  where
    port : (other.holder).port ≡ (one.holder).port
    port = ap (λ (s : Seen). s.port) (same_Some other.holder one.holder (sym other.taken ∙ one.taken))

-- ---- where answers stand

places_stay : (hs : List Seen) (i l : ℕ) (s : Seen) (places : List ℕ) → slice_get hs i ≡ Some s → is_answered l s ≡ false → ArePlacesOf hs i l places → ArePlacesOf hs (i + 1) l places
places_stay hs i l s places at other are =
    record { count = omega (arith, are.count, count_more (is_answered l) hs i s at, cond-false {A = ℕ} (is_answered l s) 1 0 other); each = are.each }

places_grow : (hs : List Seen) (i l : ℕ) (s : Seen) (places : List ℕ) → slice_get hs i ≡ Some s → is_answered l s ≡ true → ArePlacesOf hs i l places → ArePlacesOf hs (i + 1) l (places ++ i ∷ [])
places_grow hs i l s places at answer are =
    record {
      count = omega (arith, are.count, length-append places (i ∷ []), count_more (is_answered l) hs i s at, cond-true {A = ℕ} (is_answered l s) 1 0 answer);
      each = λ n b there. ⊎_elim (λ lt. are.each n b (sym (slice_get-append_left places (i ∷ []) n lt) ∙ there)) (λ past. last n b there (place n b there past)) (cases_lt n (length places));
    }
  where
    place : (n b : ℕ) → slice_get (places ++ i ∷ []) n ≡ Some b → length places ≤ n → n ≡ length places
    place n b there past = omega (arith, past, slice_get_within (places ++ i ∷ []) n b there, length-append places (i ∷ []))

    last : (n b : ℕ) → slice_get (places ++ i ∷ []) n ≡ Some b → n ≡ length places → IsAnswerOf hs l n b
    last n b there is =
        subst (IsAnswerOf hs l n) (same_Some i b (sym (slice_get-last places i) ∙ (ap (λ k. slice_get (places ++ i ∷ []) k) (sym is) ∙ there)))
        (record { seen = s; there = at; answer = answer; turn = sym are.count ∙ sym is })

pub places_noted : (ports : ℕ) (hs : List Seen) (i : ℕ) (s : Seen) (old new : List (Vec ℕ Global)) → slice_get hs i ≡ Some s → s.port < ports → ArePlaces ports hs i old
    → rows new ≡ noted_at (rows old) s i → ArePlaces ports hs (i + 1) new
places_noted ports hs i s old new at port are is = by_answer (cases_Bool (answers s.deed))
  where
    size : (lists : List (Vec ℕ Global)) → length (rows lists) ≡ length lists
    size lists = length-map lists (λ (v : Vec ℕ Global). v.items)

    longer : List ℕ
    longer = row (rows old) s.port ++ i ∷ []

    here : (l : ℕ) → answers s.deed ≡ true → rows new ≡ set (rows old) s.port longer → l ≡ s.port → ArePlacesOf hs (i + 1) l (row (rows new) l)
    here l answer set_is same =
        subst (λ k. ArePlacesOf hs (i + 1) k (row (rows new) k)) (sym same)
        (subst (ArePlacesOf hs (i + 1) s.port)
        (sym (ap (λ xs. get_or xs s.port []) set_is ∙ get_or-set_same (rows old) s.port longer [] (omega (arith, port, are.sized, size old))))
        (places_grow hs i s.port s (row (rows old) s.port) at (and_from (s.port == s.port) (answers s.deed) (eqb_same s.port) answer) (are.each s.port port)))

    there : (l : ℕ) → l < ports → rows new ≡ set (rows old) s.port longer → l ≢ s.port → ArePlacesOf hs (i + 1) l (row (rows new) l)
    there l lt set_is differs =
        subst (ArePlacesOf hs (i + 1) l) (sym (ap (λ xs. get_or xs l []) set_is ∙ get_or-set_other (rows old) s.port l longer [] differs))
        (places_stay hs i l s (row (rows old) l) at (and_left (s.port == l) (answers s.deed) (eqb_other s.port l (λ same. differs (sym same)))) (are.each l lt))

    by_answer : (answers s.deed ≡ true) ⊎ (answers s.deed ≡ false) → ArePlaces ports hs (i + 1) new
    by_answer (inl answer) =
        let set_is : rows new ≡ set (rows old) s.port longer = is ∙ cond-true (answers s.deed) (set (rows old) s.port longer) (rows old) answer in
        record {
          sized = omega (arith, ap length set_is, length-set (rows old) s.port longer, size old, size new, are.sized);
          each = λ l lt. ⊎_elim (λ same. here l answer set_is same) (λ differs. there l lt set_is differs) (cases_eq l s.port);
        }
    by_answer (inr other) =
        let stays : rows new ≡ rows old = is ∙ cond-false (answers s.deed) (set (rows old) s.port longer) (rows old) other in
        record {
          sized = omega (arith, ap length stays, size old, size new, are.sized);
          each =
              λ l lt.
              subst (ArePlacesOf hs (i + 1) l) (sym (ap (λ xs. get_or xs l []) stays))
              (places_stay hs i l s (row (rows old) l) at (and_right (s.port == l) (answers s.deed) other) (are.each l lt));
        }

-- ---- looked up

is_answer_to : (ports : ℕ) (hs : List Seen) (i n b : ℕ) (s : Seen) (places : List (Vec ℕ Global)) → slice_get hs i ≡ Some s → s.port < ports → ArePlaces ports hs (length hs) places
    → n ≡ got_before hs s.port i → answer_of places s n ≡ Some b → IsAnswerTo hs i b
is_answer_to ports hs i n b s places at port are number is = by_deed s.deed refl is
  where
    by_deed : (d : Deed) → s.deed ≡ d → answer_got places s.port n d ≡ Some b → IsAnswerTo hs i b
    by_deed (Sent r) deed found = absurd (none-some b found)
    by_deed (Got e) deed found =
        let of : IsAnswerOf hs s.port n b = (are.each s.port port).each n b found in
        record {
          holder = s;
          taken = at;
          got = ap gets deed;
          answerer = of.seen;
          there = of.there;
          answer = of.answer;
          turn = of.turn ∙ number;
        }

-- an entry of which none is found has none
is_unanswered : (ports : ℕ) (hs : List Seen) (i n b : ℕ) (s : Seen) (places : List (Vec ℕ Global)) → slice_get hs i ≡ Some s → s.port < ports → ArePlaces ports hs (length hs) places
    → n ≡ got_before hs s.port i → answer_of places s n ≡ None → ¬ IsAnswerTo hs i b
is_unanswered ports hs i n b s places at port are number is answer = by_deed s.deed refl is
  where
    same : answer.holder ≡ s
    same = same_Some answer.holder s (sym answer.taken ∙ at)

    few : answered_before hs s.port b < answered_before hs s.port (length hs)
    few =
        answered_more hs s.port b (length hs) answer.answerer answer.there (subst (λ (u : Seen). is_answered u.port answer.answerer ≡ true) same answer.answer)
        (slice_get_within hs b answer.answerer answer.there)

    turn : answered_before hs s.port b ≡ got_before hs s.port i
    turn = subst (λ (u : Seen). answered_before hs u.port b ≡ got_before hs u.port i) same answer.turn

    by_deed : (d : Deed) → s.deed ≡ d → answer_got places s.port n d ≡ None → ⊥
    by_deed (Sent r) deed none = false≢true (ap gets (sym deed) ∙ (ap (λ (u : Seen). gets u.deed) (sym same) ∙ answer.got))
    by_deed (Got e) deed none =
        let listed = slice_get-some (row (rows places) s.port) n (omega (arith, (are.each s.port port).count, few, turn, number)) in
        none-some listed.0 (sym none ∙ listed.1)

-- ---- entry by entry

pub found_more : (ports : ℕ) (hs : List Seen) (i n : ℕ) (s : Seen) (places : List (Vec ℕ Global)) (got counts : List ℕ) (old new : List (Option ℕ)) → slice_get hs i ≡ Some s → s.port < ports
    → ArePlaces ports hs (length hs) places → AreFound ports hs i got old → n ≡ get_or got s.port 0 → counts ≡ counted got s → new ≡ old ++ answer_of places s n ∷ []
    → AreFound ports hs (i + 1) counts new
found_more ports hs i n s places got counts old new at port are found number count is =
    record {
      each_port = ap length count ∙ (length-set got s.port _ ∙ found.each_port);
      counts = λ l lt. ap (λ xs. get_or xs l 0) count ∙ counts_on hs got i l s at (omega (arith, port, found.each_port)) (found.counts s.port port) (found.counts l lt);
      sized = omega (arith, ap length is, length-append old (answer_of places s n ∷ []), found.sized);
      each = λ g b there. by_place g (Some b) (λ less. found.each g b less) (λ o same. subst (λ k. IsAnswerTo hs k b) (sym same) (is_answer_to ports hs i n b s places at port are before o)) there;
      none = λ g b there. by_place g None (λ less. found.none g b less) (λ o same. subst (λ k. ¬ IsAnswerTo hs k b) (sym same) (is_unanswered ports hs i n b s places at port are before o)) there;
    }
  where
    before : n ≡ got_before hs s.port i
    before = number ∙ found.counts s.port port

    by_place : {P : Type 0} (g : ℕ) (o : Option ℕ) → (slice_get old g ≡ Some o → P) → (answer_of places s n ≡ o → g ≡ i → P) → slice_get new g ≡ Some o → P
    by_place {P} g o less last there =
        ⊎_elim
        (λ lt. less (sym (slice_get-append_left old (answer_of places s n ∷ []) g lt) ∙ there_is))
        (λ past. at_end (omega (arith, past, slice_get_within (old ++ answer_of places s n ∷ []) g o there_is, length-append old (answer_of places s n ∷ []))))
        (cases_lt g (length old))
      where
        there_is : slice_get (old ++ answer_of places s n ∷ []) g ≡ Some o
        there_is = ap (λ xs. slice_get xs g) (sym is) ∙ there

        at_end : g ≡ length old → P
        at_end same =
            last (same_Some (answer_of places s n) o (sym (slice_get-last old (answer_of places s n)) ∙ (ap (λ k. slice_get (old ++ answer_of places s n ∷ []) k) (sym same) ∙ there_is))) (same ∙ found.sized)
