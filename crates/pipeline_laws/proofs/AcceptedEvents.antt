-- Lists of what each queue accepted: at the begin, and one step more.
use Rattle.std.proofs.Common.{◌≡◌, ◌≢◌, ℕ, ◌+◌, ◌<◌, ◌≤◌, List, [], ◌∷◌, ◌++◌, length, map, filter_map, take, get_or, set, replicate, Option, Some, None, refl, sym, ap, subst, ◌∙◌, arith}
use Rattle.std.specs.List.{cons_option}
use Rattle.std.specs.Option.{unwrap_or}
use Rattle.std.proofs.lemmas.List.{length-set, map-append, take_all, take_more}
use Rattle.std.proofs.lemmas.Option.{none-some}
use Rattle.evt_types.specs.declared.event.Event.{Event}
use Rattle.evt_types.specs.declared.step.Source.{Source}
use Rattle.evt_types.specs.declared.step.Source.TheVariants.{New}
use Rattle.evt_types.specs.declared.step.Step.{Step}
use Rattle.evt_types.specs.declared.step.Step.TheVariants.{Accept, Give, Done, More, Turned, Bounced, Shut}
use Rattle.lists.proofs.Lists.{more_none, more_some}
use Rattle.pipeline_laws.proofs.Pasts.{length-rows, row_more, row_none}
use Rattle.pipeline_laws.specs.Past.{HoldAccepted, accepted_by_step, row, rows}
use Rattle.std.specs.declared.alloc.Global.{Global}
use Rattle.std.specs.declared.vec.Vec.{Vec}
use Rattle.transcripts.proofs.Pushes.{accepted_in-same, accepted_in-other, accepted-some, accepted-none}
use Rattle.transcripts.specs.Transcript.{accepted, accepted_in}

pub hold_none : (count : ℕ) (lists : List (Vec Event Global)) → rows lists ≡ replicate count [] → HoldAccepted [] lists
unfolding accepted
hold_none count lists is q there = ap (λ ls. row ls q) is ∙ row_none count q

-- ---- a step that accepts nothing

accepts_none : (s : Step) (q : ℕ) → accepted_by_step s ≡ None → accepted_in q s ≡ None
accepts_none (Accept r e x) q none = absurd (none-some (r, e) (sym none))
accepts_none s q none = refl

pub hold_still : (T : List Step) (lists : List (Vec Event Global)) (s : Step) → accepted_by_step s ≡ None → HoldAccepted T lists → HoldAccepted (T ++ s ∷ []) lists
hold_still T lists s none hold q there = hold q there ∙ sym (accepted-none T q s (accepts_none s q none))

-- ---- a step that accepts an event

accepts_it : (s : Step) (q : ℕ) (e : Event) → accepted_by_step s ≡ Some (q, e) → (x : Source) × (s ≡ Accept q e x)
accepts_it (Accept r f x) q e some = (x, ap (λ (o : Option (ℕ × Event)). accept_of (unwrap_or o (q, e))) some)
  where
    accept_of : ℕ × Event → Step
    accept_of p = Accept p.0 p.1 x
accepts_it (Give l r n) q e some = absurd (none-some (q, e) some)
accepts_it (Done l o) q e some = absurd (none-some (q, e) some)
accepts_it (More l f) q e some = absurd (none-some (q, e) some)
accepts_it (Turned l f) q e some = absurd (none-some (q, e) some)
accepts_it (Bounced l) q e some = absurd (none-some (q, e) some)
accepts_it Shut q e some = absurd (none-some (q, e) some)

accepts_here : (s : Step) (q : ℕ) (e : Event) → accepted_by_step s ≡ Some (q, e) → accepted_in q s ≡ Some e
accepts_here s q e some =
    let accept = accepts_it s q e some in
    ap (accepted_in q) accept.1 ∙ accepted_in-same q e accept.0

accepts_there : (s : Step) (q r : ℕ) (e : Event) → accepted_by_step s ≡ Some (q, e) → r ≢ q → accepted_in r s ≡ None
accepts_there s q r e some other =
    let accept = accepts_it s q e some in
    ap (accepted_in r) accept.1 ∙ accepted_in-other r q e accept.0 (λ same. other (sym same))

-- to a queue of which there is no list
pub hold_past : (T : List Step) (lists : List (Vec Event Global)) (s : Step) (q : ℕ) (e : Event) → accepted_by_step s ≡ Some (q, e) → length lists ≤ q → HoldAccepted T lists
    → HoldAccepted (T ++ s ∷ []) lists
hold_past T lists s q e some past hold r there =
    hold r there ∙ sym (accepted-none T r s (accepts_there s q r e some (λ same. absurd (omega (arith, same, there, past)))))

pub hold_more : (T : List Step) (old new : List (Vec Event Global)) (s : Step) (q : ℕ) (e : Event) → accepted_by_step s ≡ Some (q, e) → q < length old
    → rows new ≡ set (rows old) q (row (rows old) q ++ e ∷ []) → HoldAccepted T old → HoldAccepted (T ++ s ∷ []) new
hold_more T old new s q e some within is hold r there =
    let count : length (rows new) ≡ length (rows old) = ap length is ∙ length-set (rows old) q (row (rows old) q ++ e ∷ []) in
    row_more (rows old) (rows new) q e (accepted T) (accepted (T ++ s ∷ [])) (omega (arith, length-rows old)) is
    (accepted-some T q s e (accepts_here s q e some)) (λ k other. accepted-none T k s (accepts_there s q k e some other)) r
    (hold r (omega (arith, there, count, length-rows old, length-rows new)))

-- ---- the events that were accepted, each with its queue

-- a step that accepts it
abbrev pub accept_of : ℕ × Event → Step
accept_of x = Accept x.0 x.1 (New 0)

-- of each queue these accept what the steps do
pub kept_accepted : (T : List Step) (q : ℕ) → accepted (map accept_of (filter_map accepted_by_step T)) q ≡ accepted T q
unfolding accepted
kept_accepted [] q = refl
kept_accepted (Accept r e x ∷ T) q = ap (cons_option (accepted_in q (Accept r e x))) (kept_accepted T q)
kept_accepted (Give l r n ∷ T) q = kept_accepted T q
kept_accepted (Done l o ∷ T) q = kept_accepted T q
kept_accepted (More l e ∷ T) q = kept_accepted T q
kept_accepted (Turned l e ∷ T) q = kept_accepted T q
kept_accepted (Bounced l ∷ T) q = kept_accepted T q
kept_accepted (Shut ∷ T) q = kept_accepted T q

-- the first of them, and one more
pub hold_one : (xs : List (ℕ × Event)) (k : ℕ) (x : ℕ × Event) (lists : List (Vec Event Global)) → k < length xs → x ≡ get_or xs k x
    → HoldAccepted (map accept_of (take k xs) ++ accept_of x ∷ []) lists → HoldAccepted (map accept_of (take (k + 1) xs)) lists
hold_one xs k x lists low is =
    let more : map accept_of (take (k + 1) xs) ≡ map accept_of (take k xs) ++ accept_of (get_or xs k x) ∷ [] =
    ap (map accept_of) (take_more xs k x low) ∙ map-append accept_of (take k xs) (get_or xs k x ∷ []) in
    subst (λ T. HoldAccepted T lists) (ap (λ y. map accept_of (take k xs) ++ accept_of y ∷ []) is ∙ sym more)

-- all of them
pub hold_all : (T : List Step) (xs : List (ℕ × Event)) (k : ℕ) (lists : List (Vec Event Global)) → xs ≡ filter_map accepted_by_step T → length xs ≤ k
    → HoldAccepted (map accept_of (take k xs)) lists → HoldAccepted T lists
hold_all T xs k lists is past hold q there = hold q there ∙ (ap (λ ys. accepted (map accept_of ys) q) (take_all k xs past ∙ is) ∙ kept_accepted T q)

-- ---- one step more of them

pub kept_more : (T : List Step) (kept : List (ℕ × Event)) (s : Step) (x : ℕ × Event) → accepted_by_step s ≡ Some x → kept ≡ filter_map accepted_by_step T
    → kept ++ x ∷ [] ≡ filter_map accepted_by_step (T ++ s ∷ [])
kept_more T kept s x some is = ap (λ xs. xs ++ x ∷ []) is ∙ sym (more_some accepted_by_step T s x some)

pub kept_still : (T : List Step) (kept : List (ℕ × Event)) (s : Step) → accepted_by_step s ≡ None → kept ≡ filter_map accepted_by_step T
    → kept ≡ filter_map accepted_by_step (T ++ s ∷ [])
kept_still T kept s none is = is ∙ sym (more_none accepted_by_step T s none)

-- ---- the first steps of a log, and one more

pub hold_step : (log : List Step) (k : ℕ) (s : Step) (lists : List (Vec Event Global)) → k < length log → s ≡ get_or log k s
    → HoldAccepted (take k log ++ s ∷ []) lists → HoldAccepted (take (k + 1) log) lists
hold_step log k s lists low is = subst (λ T. HoldAccepted T lists) (ap (λ x. take k log ++ x ∷ []) is ∙ sym (take_more log k s low))
