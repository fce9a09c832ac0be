-- The reply that a step of the log takes, among those that its lane submitted.
use Rattle.std.specs.Prelude.{ℕ, ◌≡◌, ◌+◌, ◌<◌, true, List, [], ◌∷◌, ◌++◌, length, map, take, drop, count_by, filter_map, Option, Some, None, slice_get}
use Rattle.std.specs.List.{cons_option}
use Rattle.std.specs.Option.{option_map}
use Rattle.std.proofs.Common.{refl, sym, ap, ◌∙◌, arith, append_assoc}
use Rattle.std.proofs.lemmas.Bool.{cond-true}
use Rattle.std.proofs.lemmas.List.{take_at, take-map, take-append-drop}
use Rattle.std.proofs.lemmas.Option.{none-some, same_Some, slice_get-map}
use Rattle.evt_types.specs.Operation.{is_answer}
use Rattle.evt_types.specs.declared.event.Event.{Event}
use Rattle.evt_types.specs.declared.event.Op.{Op}
use Rattle.evt_types.specs.declared.event.Op.TheVariants as ops
use Rattle.evt_types.specs.declared.event.Reply.{Reply}
use Rattle.evt_types.specs.declared.step.Step.{Step}
use Rattle.lists.proofs.Parts.{take_next, slice_get_after, count_by-front, count_by-push}
use Rattle.transcripts.proofs.Replies.{replies_in-append}
use Rattle.transcripts.specs.Lawful.{IsPrefix}
use Rattle.transcripts.specs.Replies.{Said, said, said_by, said_in, replies_in}
use Rattle.transcripts.specs.Transcript.{answers}
use Rattle.world_laws.proofs.Said.{answers_said, answers_same, answers_are_said, said_op}

-- ---- what is said tells the operation, and the event where there is one

said_is : (o : Op) (r : Reply) (d : Event) → said r ≡ said_by o d → r.event.op ≡ o
said_is o r d h = sym (said_op r.event.op r.event) ∙ (ap (λ (x : Said). x.op) h ∙ said_op o d)

-- the same event in both, by the operation
said_event : (o : Op) (r : Reply) (d : Event) → said r ≡ said_by o d → (said_by o r.event).event ≡ (said_by o d).event
said_event o r d h = ap (λ k. (said_by k r.event).event) (sym (said_is o r d h)) ∙ ap (λ (x : Said). x.event) h

pub new_is : (r : Reply) (d : Event) → said r ≡ said_by ops.New d → (r.event.op ≡ ops.New) × (r.event ≡ d)
new_is r d h = (said_is ops.New r d h, same_Some r.event d (said_event ops.New r d h))

pub forward_is : (r : Reply) (d : Event) → said r ≡ said_by ops.Forward d → (r.event.op ≡ ops.Forward) × (r.event ≡ d)
forward_is r d h = (said_is ops.Forward r d h, same_Some r.event d (said_event ops.Forward r d h))

pub more_is : (r : Reply) (d : Event) → said r ≡ said_by ops.ForwardMore d → (r.event.op ≡ ops.ForwardMore) × (r.event ≡ d)
more_is r d h = (said_is ops.ForwardMore r d h, same_Some r.event d (said_event ops.ForwardMore r d h))

pub release_is : (r : Reply) (d : Event) → said r ≡ said_by ops.Release d → r.event.op ≡ ops.Release
release_is r d h = said_is ops.Release r d h

-- ---- the reply

-- the reply of a list that comes after those that P took of the lane, and what it says
pub record NextReply (rs : List Reply) (P : List Step) (l : ℕ) (x : Said) : Type 0 where
  pub reply : Reply
  pub there : slice_get rs (length (replies_in P l)) ≡ Some reply
  pub is : said reply ≡ x

-- what the steps after P say, and what wasn't taken, stands in the list behind what P took
said_after : (P S T : List Step) (l : ℕ) (rs : List Reply) → P ++ S ≡ T → (front : IsPrefix (replies_in T l) (map said rs)) → map said rs ≡ replies_in P l ++ (replies_in S l ++ front.0)
said_after P S T l rs e front =
    sym front.1
    ∙ (ap (λ xs. xs ++ front.0) (ap (λ U. replies_in U l) (sym e) ∙ replies_in-append P S l)
    ∙ append_assoc (replies_in P l) (replies_in S l) front.0)

pub next_reply : (P rest T : List Step) (s : Step) (l : ℕ) (rs : List Reply) (x : Said) → P ++ s ∷ rest ≡ T → IsPrefix (replies_in T l) (map said rs) → said_in l s ≡ Some x → NextReply rs P l x
unfolding replies_in
next_reply P rest T s l rs x e front says = by_case (slice_get rs (length (replies_in P l))) refl
  where
    at_place : option_map said (slice_get rs (length (replies_in P l))) ≡ Some x
    at_place =
        sym (slice_get-map said rs (length (replies_in P l)))
        ∙ slice_get_after (replies_in P l) (filter_map (said_in l) rest ++ front.0) x (map said rs)
        (said_after P (s ∷ rest) T l rs e front ∙ ap (λ o. replies_in P l ++ (cons_option o (filter_map (said_in l) rest) ++ front.0)) says)

    by_case : (o : Option Reply) → slice_get rs (length (replies_in P l)) ≡ o → NextReply rs P l x
    by_case None is = absurd (none-some x (ap (option_map said) (sym is) ∙ at_place))
    by_case (Some r) is = record { reply = r; there = is; is = same_Some (said r) x (ap (option_map said) (sym is) ∙ at_place) }

-- ---- the answers before it

-- those that were submitted so far are those of P
pub answers_so_far : (P S T : List Step) (l : ℕ) (rs : List Reply) → P ++ S ≡ T → IsPrefix (replies_in T l) (map said rs)
    → count_by is_answer (take (length (replies_in P l)) rs) ≡ length (answers P l)
answers_so_far P S T l rs e front =
    sym (answers_same (take (length (replies_in P l)) rs))
    ∙ (ap (count_by answers_said) taken ∙ sym (answers_are_said P l))
  where
    taken : map said (take (length (replies_in P l)) rs) ≡ replies_in P l
    taken =
        sym (take-map said (length (replies_in P l)) rs)
        ∙ (ap (take (length (replies_in P l))) (said_after P S T l rs e front) ∙ take_at (replies_in P l) (replies_in S l ++ front.0) (length (replies_in P l)) refl)

-- a next answer is one of them more
pub one_more_answer : (rs : List Reply) (k : ℕ) (r : Reply) → slice_get rs k ≡ Some r → is_answer r ≡ true → count_by is_answer (take k rs) < count_by is_answer rs
one_more_answer rs k r there answer =
    let more : count_by is_answer (take (k + 1) rs) ≡ count_by is_answer (take k rs ++ r ∷ []) = ap (count_by is_answer) (take_next rs k r there) in
    omega (
      arith,
      more,
      count_by-push is_answer (take k rs) r,
      cond-true {A = ℕ} (is_answer r) 1 0 answer,
      count_by-front is_answer (take (k + 1) rs) (drop (k + 1) rs) rs (take-append-drop (k + 1) rs),
    )
