-- Events that are passed on one after the other: the steps of one more.
use Rattle.std.proofs.Common.{◌≡◌, ℕ, zero, suc, ◌+◌, ◌<◌, List, [], ◌∷◌, ◌++◌, ap, append_assoc, arith, get_or, length, sym, take, ◌∙◌}
use Rattle.evt_types.specs.declared.event.Event.{Event}
use Rattle.evt_types.specs.declared.event.Reply.{Reply}
use Rattle.evt_types.specs.declared.step.Outcome.TheVariants.{Forwarded}
use Rattle.evt_types.specs.declared.step.Source.TheVariants.{Of}
use Rattle.evt_types.specs.declared.step.Step.{Step}
use Rattle.evt_types.specs.declared.step.Step.TheVariants.{Accept, Done}
use Rattle.step_log.specs.Rows.{forward_steps}

-- what is logged of one of them
abbrev pair : ℕ → ℕ → ℕ → Event → List Step
pair l q n e = Done l (Forwarded e) ∷ Accept e.queue e (Of q n) ∷ []

forwards_more : (l q : ℕ) (ns : List ℕ) (rs : List Reply) (i n : ℕ) (r : Reply) → i < length ns → i < length rs → n ≡ get_or ns i n → r ≡ get_or rs i r
    → forward_steps l q (take (i + 1) ns) (take (i + 1) rs) ≡ forward_steps l q (take i ns) (take i rs) ++ pair l q n r.event
forwards_more l q [] rs i n r lt within is this = absurd (omega (arith, lt))
forwards_more l q (m ∷ ns) [] i n r lt within is this = absurd (omega (arith, within))
forwards_more l q (m ∷ ns) (s ∷ rs) zero n r lt within is this = ap (λ k. pair l q k s.event) (sym is) ∙ ap (λ (x : Reply). pair l q n x.event) (sym this)
forwards_more l q (m ∷ ns) (s ∷ rs) (suc i) n r lt within is this =
    let one : suc i + 1 ≡ suc (i + 1) = omega arith in
    ap (λ k. forward_steps l q (take k (m ∷ ns)) (take k (s ∷ rs))) one
    ∙ ap (λ ss. Done l (Forwarded s.event) ∷ Accept s.event.queue s.event (Of q m) ∷ ss) (forwards_more l q ns rs i n r (omega (arith, lt)) (omega (arith, within)) is this)

pub pair_pushed : (l q : ℕ) (ns : List ℕ) (rs : List Reply) (i n k : ℕ) (r : Reply) (e : Event) (start old mid new : List Step) → i < length ns → i < length rs → n ≡ get_or ns i n → r ≡ get_or rs i r
    → e ≡ r.event → k ≡ e.queue → old ≡ start ++ forward_steps l q (take i ns) (take i rs) → mid ≡ old ++ Done l (Forwarded e) ∷ [] → new ≡ mid ++ Accept k e (Of q n) ∷ []
    → new ≡ start ++ forward_steps l q (take (i + 1) ns) (take (i + 1) rs)
pair_pushed l q ns rs i n k r e start old mid new lt within is this event queue before done accepted =
    accepted
    ∙ (ap (λ ss. ss ++ Accept k e (Of q n) ∷ []) (done ∙ ap (λ ss. ss ++ Done l (Forwarded e) ∷ []) before)
    ∙ (append_assoc (start ++ forward_steps l q (take i ns) (take i rs)) (Done l (Forwarded e) ∷ []) (Accept k e (Of q n) ∷ [])
    ∙ (append_assoc start (forward_steps l q (take i ns) (take i rs)) (Done l (Forwarded e) ∷ Accept k e (Of q n) ∷ [])
    ∙ ap (λ ss. start ++ ss)
    (ap (λ j. forward_steps l q (take i ns) (take i rs) ++ Done l (Forwarded e) ∷ Accept j e (Of q n) ∷ []) queue
    ∙ (ap (λ d. forward_steps l q (take i ns) (take i rs) ++ pair l q n d) event ∙ sym (forwards_more l q ns rs i n r lt within is this))))))
