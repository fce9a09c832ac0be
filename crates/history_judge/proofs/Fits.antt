-- How many answers a port has submitted at a moment of a run that fits what was seen.
use Rattle.std.specs.Prelude.{ℕ, ◌≡◌, ◌+◌, ◌<◌, ◌≤◌, Bool, true, false, cond, ◌&&◌, List, [], ◌∷◌, ◌++◌, ◌==◌, nat_le, length, take, count_by, Some, slice_get, ◌⊎◌}
use Rattle.std.proofs.Common.{zero, suc, refl, sym, ap, ◌∙◌, subst, arith, add-one, inl, inr, ⊎_elim, length-append}
use Rattle.std.proofs.lemmas.Bool.{and_parts, cases_Bool, cases_lt, cond-true, cond-false, false≢true, le-leb}
use Rattle.std.proofs.lemmas.List.{take_all}
use Rattle.std.proofs.Math.Seq.{take-append_seam}
use Rattle.std.proofs.lemmas.Option.{slice_get_within}
use Rattle.evt_types.specs.Operation.{is_answer}
use Rattle.evt_types.specs.Plan.{Plan}
use Rattle.evt_types.specs.declared.event.Reply.{Reply}
use Rattle.lists.proofs.Lists.{and-true, eqb_is, eqb_same, slice_get-append_left, slice_get-last, slice_get-some}
use Rattle.lists.proofs.Parts.{count_by-push, take_next}
use Rattle.transcripts.specs.Lawful.{IsPrefix}
use Rattle.world_laws.proofs.Worlds.{at_lane-same}
use Rattle.world_laws.specs.World.{World, Move, Submits, after_moves}
use Rattle.history_judge.proofs.Moments.{grows_to_end, grows_to_moment, made_by, made_late, moment_moves}
use Rattle.history_judge.specs.Histories.{Explains, WasDone, WasSent, answers, answers_begun, is_answer_begun, is_sent, sends, sent_before}
use Rattle.history_judge.specs.declared.seen.Deed.{Deed}
use Rattle.history_judge.specs.declared.seen.Deed.TheVariants.{Sent, Got}
use Rattle.history_judge.specs.declared.seen.Seen.{Seen}

-- ---- counts of entries

pub count_more : {X : Type 0} (p : X → Bool) (xs : List X) (i : ℕ) (x : X) → slice_get xs i ≡ Some x → count_by p (take (i + 1) xs) ≡ count_by p (take i xs) + cond (p x) 1 0
count_more p xs i x at = ap (count_by p) (take_next xs i x at) ∙ count_by-push p (take i xs) x

pub count_yes : {X : Type 0} (p : X → Bool) (xs : List X) (i : ℕ) (x : X) → slice_get xs i ≡ Some x → p x ≡ true → count_by p (take (i + 1) xs) ≡ count_by p (take i xs) + 1
count_yes p xs i x at passes = omega (arith, count_more p xs i x at, cond-true {A = ℕ} (p x) 1 0 passes)

pub count_no : {X : Type 0} (p : X → Bool) (xs : List X) (i : ℕ) (x : X) → slice_get xs i ≡ Some x → p x ≡ false → count_by p (take (i + 1) xs) ≡ count_by p (take i xs)
count_no p xs i x at fails = omega (arith, count_more p xs i x at, cond-false {A = ℕ} (p x) 1 0 fails)

count_grows : {X : Type 0} (p : X → Bool) (xs : List X) (i : ℕ) (x : X) → slice_get xs i ≡ Some x → count_by p (take i xs) ≤ count_by p (take (i + 1) xs)
count_grows p xs i x at = omega (arith, count_more p xs i x at)

-- ---- the first replies of a class, and the enqueues that tell of them

-- the reply of the enqueue that has c before it; if it is one of the first n, it is told of
pub record IsReply (n : ℕ) (f : Reply → Bool) (g : Seen → Bool) (rs : List Reply) (c : ℕ) (s : Seen) : Type 0 where
  pub reply : Reply
  pub next : slice_get rs c ≡ Some reply
  pub told : c < n → g s ≡ f reply

abbrev pub AreReplies : List Seen → ℕ → ℕ → (Reply → Bool) → (Seen → Bool) → List Reply → Type 0
AreReplies hs l n f g rs = (i : ℕ) (s : Seen) → slice_get hs i ≡ Some s → is_sent l s ≡ true → IsReply n f g rs (sent_before hs l i) s

-- of the first k replies, which are of the first n, no more are of the class than the first i entries tell of
abbrev IsFew : List Seen → (Reply → Bool) → (Seen → Bool) → List Reply → ℕ → ℕ → Type 0
IsFew hs f g rs i k = count_by f (take k rs) ≤ count_by g (take i hs)

-- one entry more
few_more : (hs : List Seen) (l n : ℕ) (f : Reply → Bool) (g : Seen → Bool) (rs : List Reply) → AreReplies hs l n f g rs → (i : ℕ) (s : Seen) → slice_get hs i ≡ Some s
    → ((j : ℕ) → j ≤ n → j ≤ sent_before hs l i → IsFew hs f g rs i j) → (k : ℕ) → k ≤ n → k ≤ sent_before hs l (i + 1) → IsFew hs f g rs (i + 1) k
few_more hs l n f g rs are i s at so_far k first few =
    ⊎_elim (λ sent. by_place sent (cases_lt (sent_before hs l i) k)) (λ unsent. before (omega (arith, few, count_no (is_sent l) hs i s at unsent)))
    (cases_Bool (is_sent l s))
  where
    before : k ≤ sent_before hs l i → IsFew hs f g rs (i + 1) k
    before le = omega (arith, so_far k first le, count_grows g hs i s at)

    last : is_sent l s ≡ true → k ≡ sent_before hs l i + 1 → IsFew hs f g rs (i + 1) k
    last sent same =
        let is : IsReply n f g rs (sent_before hs l i) s = are i s at sent in
        let counted : g s ≡ f is.reply = is.told (omega (arith, first, same)) in
        omega (
          arith,
          so_far (sent_before hs l i) (omega (arith, first, same)) (omega arith),
          ap (λ j. count_by f (take j rs)) same,
          count_more f rs (sent_before hs l i) is.reply is.next,
          count_more g hs i s at,
          ap (λ b. cond {A = ℕ} b 1 0) counted,
        )

    by_place : is_sent l s ≡ true → (sent_before hs l i < k) ⊎ (k ≤ sent_before hs l i) → IsFew hs f g rs (i + 1) k
    by_place sent (inl lt) = last sent (omega (arith, lt, few, count_yes (is_sent l) hs i s at sent))
    by_place sent (inr le) = before le

few_told : (hs : List Seen) (l n : ℕ) (f : Reply → Bool) (g : Seen → Bool) (rs : List Reply) → AreReplies hs l n f g rs → (i k : ℕ) → i ≤ length hs → k ≤ n → k ≤ sent_before hs l i → IsFew hs f g rs i k
few_told hs l n f g rs are zero k within first few = subst (λ j. count_by f (take j rs) ≤ 0) none (omega arith)
  where
    none : 0 ≡ k
    none = omega (arith, few)
few_told hs l n f g rs are (suc i) k within first few =
    let entry = slice_get-some hs i (omega (arith, within)) in
    subst (λ m. IsFew hs f g rs m k) (add-one i)
    (few_more hs l n f g rs are i entry.0 entry.1 (λ j. few_told hs l n f g rs are i j (omega (arith, within))) k first (subst (λ m. k ≤ sent_before hs l m) (sym (add-one i)) few))

-- ---- the replies of a run

-- the reply that a move submits is the one of its place, at the end
pub submitted_at : (p : Plan) (hs : List Seen) (moves : List Move) (v : World) (clock : ℕ → ℕ) (i : ℕ) (s : Seen) (r : Reply) → Explains p hs moves v clock
    → (was : WasSent hs moves clock i s r) → slice_get (v.submitted s.port) (sent_before hs s.port i) ≡ Some r
submitted_at p hs moves v clock i s r x was =
    ap (λ rs. slice_get rs (sent_before hs s.port i)) (sym front.1)
    ∙ (slice_get-append_left (after.submitted s.port) front.0 (sent_before hs s.port i) (slice_get_within (after.submitted s.port) (sent_before hs s.port i) r there) ∙ there)
  where
    after : World
    after = after_moves moves (was.move + 1)

    front : IsPrefix (after.submitted s.port) (v.submitted s.port)
    front = (grows_to_end p v moves (was.move + 1) x.run).submitted s.port

    there : slice_get (after.submitted s.port) (sent_before hs s.port i) ≡ Some r
    there =
        ap (λ (w : World). slice_get (w.submitted s.port) (sent_before hs s.port i)) (moment_moves moves was.move (Submits s.port r) was.made)
        ∙ (ap (λ rs. slice_get rs (sent_before hs s.port i)) (at_lane-same s.port ((after_moves moves was.move).submitted s.port ++ r ∷ []) (after_moves moves was.move).submitted)
        ∙ (ap (λ c. slice_get ((after_moves moves was.move).submitted s.port ++ r ∷ []) c) (sym was.place)
        ∙ slice_get-last ((after_moves moves was.move).submitted s.port) r))

-- an enqueue of the port whose call began by t tells whether its reply is of the class
abbrev pub Tells : ℕ → ℕ → (Reply → Bool) → (Seen → Bool) → Type 0
Tells l t f g = (s : Seen) (r : Reply) → s.port ≡ l → s.deed ≡ Sent r → s.began ≤ t → g s ≡ f r

-- the first replies, which are submitted at t, are those whose calls began by then
replies_at : (p : Plan) (hs : List Seen) (moves : List Move) (v : World) (clock : ℕ → ℕ) (l t : ℕ) (f : Reply → Bool) (g : Seen → Bool) → Explains p hs moves v clock → Tells l t f g
    → AreReplies hs l (length ((after_moves moves (made_by clock t (length moves))).submitted l)) f g (v.submitted l)
replies_at p hs moves v clock l t f g x tells i s at sent = by_deed s.deed refl
  where
    now : World
    now = after_moves moves (made_by clock t (length moves))

    here : s.port ≡ l
    here = eqb_is s.port l (and_parts (s.port == l) (sends s.deed) sent).0

    told : (r : Reply) → s.deed ≡ Sent r → WasSent hs moves clock i s r → sent_before hs l i < length (now.submitted l) → g s ≡ f r
    told r is was within = tells s r here is (omega (arith, was.time.began, made_late clock t (length moves) was.move x.rises early))
      where
        early : was.move < made_by clock t (length moves)
        early = by_order (cases_lt was.move (made_by clock t (length moves)))
          where
            by_order : (was.move < made_by clock t (length moves)) ⊎ (made_by clock t (length moves) ≤ was.move) → was.move < made_by clock t (length moves)
            by_order (inl lt) = lt
            by_order (inr ge) =
                let front : IsPrefix (now.submitted l) ((after_moves moves was.move).submitted l) = (grows_to_moment moves (made_by clock t (length moves)) was.move ge).submitted l in
                let place : length ((after_moves moves was.move).submitted l) ≡ sent_before hs l i = subst (λ m. length ((after_moves moves was.move).submitted m) ≡ sent_before hs m i) here was.place in
                absurd (omega (arith, within, place, ap length front.1, length-append (now.submitted l) front.0))

    by_deed : (d : Deed) → s.deed ≡ d → IsReply (length (now.submitted l)) f g (v.submitted l) (sent_before hs l i) s
    by_deed (Got e) is = absurd (false≢true (ap sends (sym is) ∙ (and_parts (s.port == l) (sends s.deed) sent).1))
    by_deed (Sent r) is =
        let was : WasSent hs moves clock i s r = subst (WasDone hs moves v clock i s) is (x.each i s at) in
        record {
          reply = r;
          next = subst (λ m. slice_get (v.submitted m) (sent_before hs m i) ≡ Some r) here (submitted_at p hs moves v clock i s r x was);
          told = told r is was;
        }

-- at t no more replies of the class are submitted than are told of
pub submitted_few : (p : Plan) (hs : List Seen) (moves : List Move) (v : World) (clock : ℕ → ℕ) (l t : ℕ) (f : Reply → Bool) (g : Seen → Bool) → Explains p hs moves v clock → Tells l t f g
    → l < length p.ports → count_by f ((after_moves moves (made_by clock t (length moves))).submitted l) ≤ count_by g hs
submitted_few p hs moves v clock l t f g x tells port =
    omega (
      arith,
      few_told hs l (length (now.submitted l)) f g (v.submitted l) (replies_at p hs moves v clock l t f g x tells) (length hs) (length (now.submitted l)) (omega arith) (omega arith) all_sent,
      ap (count_by f) (sym first),
      ap (count_by g) (take_all (length hs) hs (omega arith)),
    )
  where
    now : World
    now = after_moves moves (made_by clock t (length moves))

    front : IsPrefix (now.submitted l) (v.submitted l)
    front = (grows_to_end p v moves (made_by clock t (length moves)) x.run).submitted l

    first : take (length (now.submitted l)) (v.submitted l) ≡ now.submitted l
    first = ap (take (length (now.submitted l))) (sym front.1) ∙ take-append_seam (now.submitted l) front.0

    all_sent : length (now.submitted l) ≤ sent_before hs l (length hs)
    all_sent =
        omega (arith, x.submitted l port, ap length front.1, length-append (now.submitted l) front.0, ap (count_by (is_sent l)) (take_all (length hs) hs (omega arith)))

-- no more answers than began
pub answers_few : (p : Plan) (hs : List Seen) (moves : List Move) (v : World) (clock : ℕ → ℕ) (l t : ℕ) → Explains p hs moves v clock → l < length p.ports
    → count_by is_answer ((after_moves moves (made_by clock t (length moves))).submitted l) ≤ answers_begun hs l t
answers_few p hs moves v clock l t x port = submitted_few p hs moves v clock l t is_answer (is_answer_begun l t) x begun port
  where
    begun : Tells l t is_answer (is_answer_begun l t)
    begun s r here is early =
        ap (λ b. (b && answers s.deed) && nat_le s.began t) (ap (λ m. s.port == m) (sym here) ∙ eqb_same s.port)
        ∙ (ap (λ d. (true && answers d) && nat_le s.began t) is
        ∙ (ap (λ b. (true && is_answer r) && b) (le-leb s.began t early) ∙ and-true (is_answer r)))
