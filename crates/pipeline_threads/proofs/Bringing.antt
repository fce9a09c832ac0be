-- The producer: what it submitted of the trace.
use Rattle.std.proofs.Common.{◌≡◌, ℕ, ◌+◌, ◌<◌, List, [], ◌∷◌, ◌++◌, length, map, get_or, take, drop, refl, sym, ap, subst, ◌∙◌, append-nil}
use Rattle.std.proofs.lemmas.List.{append_assoc, map-append, take-append-drop, take-map, take_more}
use Rattle.event_ports.specs.Lanes.{Hand, IsEmptyHand, SubmitsAll, reply_of}
use Rattle.event_ports.specs.Ports.{hand}
use Rattle.event_ports.specs.declared.lane.Lane.TheVariants.{Own}
use Rattle.event_ports.specs.declared.port.Port.{Port}
use Rattle.evt_types.specs.declared.event.Event.{Event}
use Rattle.pipeline_laws.specs.Promises.{IsProducer, said_new}
use Rattle.pipeline_laws.specs.Worked.{new_event}
use Rattle.pipeline_laws.specs.declared.stage.Entry.{Entry}
use Rattle.pipeline_threads.specs.Ports.{SubmitsFront, lists_of, submitted_by}
use Rattle.transcripts.specs.Replies.{said}

-- what is said by these NEWs
said_all : (ts : List Entry) (h k : Hand) → SubmitsAll (map new_event ts) h k → map said (k.said Own) ≡ map said (h.said Own) ++ map said_new ts
said_all [] h k s = ap (map said) (s.said Own) ∙ sym (append-nil (map said (h.said Own)))
said_all (t ∷ ts) h k s =
    said_all ts s.0 k s.2
    ∙ (ap (λ rs. map said rs ++ map said_new ts) s.1.said_here
    ∙ (ap (λ xs. xs ++ map said_new ts) (map-append said (h.said Own) (reply_of (new_event t) ∷ []))
    ∙ append_assoc (map said (h.said Own)) (said_new t ∷ []) (map said_new ts)))

module _ (trace : List Entry) where
  -- The first n events of the trace were submitted, but for these NEWs, which are next, and nothing else was.
  pub record HasBrought (n : ℕ) (news : List Event) (h : Hand) : Type 0 where
    pub next : List Entry
    pub news_are : news ≡ map new_event next
    pub brought : map said (h.said Own) ++ map said_new next ≡ map said_new (take n trace)

  pub idle_brought : (h : Hand) → IsEmptyHand h → HasBrought 0 [] h
  idle_brought h e = record { next = []; news_are = refl; brought = ap (λ rs. map said rs ++ []) (e.said Own) }

  -- one NEW more is next
  pub brought_more : (n : ℕ) (t : Entry) (news : List Event) (h : Hand) → n < length trace → t ≡ get_or trace n t → HasBrought n news h → HasBrought (n + 1) (news ++ new_event t ∷ []) h
  brought_more n t news h within is b =
      record {
        next = b.next ++ t ∷ [];
        news_are = ap (λ xs. xs ++ new_event t ∷ []) b.news_are ∙ sym (map-append new_event b.next (t ∷ []));
        brought =
            ap (λ xs. map said (h.said Own) ++ xs) (map-append said_new b.next (t ∷ []))
            ∙ (sym (append_assoc (map said (h.said Own)) (map said_new b.next) (said_new t ∷ []))
            ∙ (ap (λ xs. xs ++ said_new t ∷ []) b.brought
            ∙ (sym (map-append said_new (take n trace) (t ∷ [])) ∙ ap (map said_new) (sym (take_more trace n t within ∙ ap (λ x. take n trace ++ x ∷ []) (sym is))))));
      }

  -- what was next is submitted
  pub brought_all : (n : ℕ) (news : List Event) (h k : Hand) → HasBrought n news h → SubmitsAll news h k → HasBrought n [] k
  brought_all n news h k b s =
      record {
        next = [];
        news_are = refl;
        brought = append-nil (map said (k.said Own)) ∙ (said_all b.next h k (subst (λ (es : List Event). SubmitsAll es h k) b.news_are s) ∙ b.brought);
      }

  -- what was submitted is the front of the trace, also where a front of what was next was submitted
  pub brought_front : (n : ℕ) (news : List Event) (p q : Port) → HasBrought n news (hand p) → SubmitsFront news (hand p) (hand q) → IsProducer trace (lists_of q)
  brought_front n news p q b front =
      let i = front.0 in
      let rest = map said_new (drop n trace) in
      let some : map said (submitted_by q) ≡ map said (submitted_by p) ++ map said_new (take i b.next) =
      said_all (take i b.next) (hand p) (hand q)
      (subst (λ (es : List Event). SubmitsAll es (hand p) (hand q)) (ap (take i) b.news_are ∙ take-map new_event i b.next) front.1) in
      let whole : map said_new (take i b.next) ++ map said_new (drop i b.next) ≡ map said_new b.next =
      sym (map-append said_new (take i b.next) (drop i b.next)) ∙ ap (map said_new) (take-append-drop i b.next) in (
        map said_new (drop i b.next) ++ rest,
        ap (λ xs. xs ++ (map said_new (drop i b.next) ++ rest)) some
            ∙ (append_assoc (map said (submitted_by p)) (map said_new (take i b.next)) (map said_new (drop i b.next) ++ rest)
            ∙ (ap (λ xs. map said (submitted_by p) ++ xs) (sym (append_assoc (map said_new (take i b.next)) (map said_new (drop i b.next)) rest) ∙ ap (λ xs. xs ++ rest) whole)
            ∙ (sym (append_assoc (map said (submitted_by p)) (map said_new b.next) rest)
            ∙ (ap (λ xs. xs ++ rest) b.brought ∙ (sym (map-append said_new (take n trace) (drop n trace)) ∙ ap (map said_new) (take-append-drop n trace)))))),
      )

  -- the event of this place was enqueued as a NEW: whether or not it was taken
  module _ (n : ℕ) (t : Entry) (e : Event) (p q : Port) (new : e ≡ new_event t) (within : n < length trace) (is : t ≡ get_or trace n t) (was : HasBrought n [] (hand p)) where
    next : HasBrought (n + 1) (e ∷ []) (hand p)
    next = subst (λ x. HasBrought (n + 1) (x ∷ []) (hand p)) (sym new) (brought_more n t [] (hand p) within is was)

    pub brought_some : SubmitsFront (e ∷ []) (hand p) (hand q) → IsProducer trace (lists_of q)
    brought_some = brought_front (n + 1) (e ∷ []) p q next

    pub brought_one : SubmitsAll (e ∷ []) (hand p) (hand q) → HasBrought (n + 1) [] (hand q)
    brought_one = brought_all (n + 1) (e ∷ []) (hand p) (hand q) next
