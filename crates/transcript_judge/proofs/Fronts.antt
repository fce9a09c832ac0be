-- Fronts of lawful transcripts keep each clause but the end's, and their own fronts are fronts.
use Rattle.std.proofs.Common.{◌≡◌, ℕ, ◌≤◌, List, [], ◌++◌, length, take, drop, All, sym, ap, ◌∙◌, subst, arith, append_assoc, append-nil}
use Rattle.std.proofs.lemmas.List.{length-append, take-append-le, take-append-drop, take_all, get_or_append_left}
use Rattle.evt_types.specs.Plan.{Plan}
use Rattle.evt_types.specs.declared.step.Step.{Step}
use Rattle.lists.proofs.Lists.{All-front}
use Rattle.transcripts.proofs.Whole.{Clauses}
use Rattle.transcripts.specs.Lawful.{IsFormed, IsSettled, Lawful}
use Rattle.transcripts.specs.Transcript.{is_from_of}
use Rattle.transcript_judge.specs.Fronts.{IsFront, IsPromptSoFar}

pub front_lawful : (p : Plan) (T : List Step) → Lawful p T → IsFront p T
front_lawful p T h = ([], subst (Lawful p) (sym (append-nil T)) h)

pub front_take : (p : Plan) (T : List Step) (k : ℕ) → IsFront p T → IsFront p (take k T)
front_take p T k f = (
  drop k T ++ f.0,
  subst (Lawful p) (ap (λ xs. xs ++ f.0) (sym (take-append-drop k T)) ∙ append_assoc (take k T) (drop k T) f.0) f.1,
)

-- the first steps of more steps
take_front : (T U : List Step) (k : ℕ) → k ≤ length T → take k (T ++ U) ≡ take k T
take_front T U k le = take-append-le k T U le

whole_front : (T U : List Step) → take (length T) (T ++ U) ≡ T
whole_front T U = take_front T U (length T) (omega arith) ∙ take_all (length T) T (omega arith)

pub front_clauses : (p : Plan) (T : List Step) → IsFront p T → Clauses p T
front_clauses p T f = subst (Clauses p) (whole_front T f.0) (record {
  answers = h.answers k le;
  extras = h.extras k le;
  once = h.once k le;
  linked = h.linked k le;
  room = h.room k le;
  flow = h.flow k le;
  alone = h.alone k le;
  order = h.order k le;
  origin = h.origin k le;
  closed = h.closed k le;
})
  where
    h : Lawful p (T ++ f.0)
    h = f.1

    k : ℕ
    k = length T

    le : k ≤ length (T ++ f.0)
    le = omega (arith, length-append T f.0)

pub front_formed : (p : Plan) (T : List Step) → IsFront p T → All (IsFormed p) T
front_formed p T f = All-front (IsFormed p) T f.0 f.1.formed

pub front_prompt : (p : Plan) (T : List Step) → IsFront p T → IsPromptSoFar p T
front_prompt p T f k d lt other =
    subst (IsSettled p) (take_front T f.0 k (omega arith))
    (f.1.prompt.before k d (omega (arith, length-append T f.0)) (ap is_from_of (get_or_append_left T f.0 d k lt) ∙ other))
