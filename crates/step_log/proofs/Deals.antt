-- Events that are dealt one after the other: the step of one more.
use Rattle.std.proofs.Common.{◌≡◌, ℕ, zero, suc, ◌+◌, ◌<◌, List, [], ◌∷◌, ◌++◌, ap, append_assoc, arith, get_or, length, sym, take, ◌∙◌}
use Rattle.evt_types.specs.declared.event.Delivery.{Delivery}
use Rattle.evt_types.specs.declared.step.Step.{Step}
use Rattle.step_log.specs.Gives.{deals_of, give_of}

deals_more : (q : ℕ) (ds : List Delivery) (ls : List ℕ) (i l : ℕ) (d : Delivery) → i < length ds → i < length ls → d ≡ get_or ds i d → l ≡ get_or ls i l
    → deals_of q (take (i + 1) ds) (take (i + 1) ls) ≡ deals_of q (take i ds) (take i ls) ++ give_of l q d ∷ []
deals_more q [] ls i l d lt within this is = absurd (omega (arith, lt))
deals_more q (e ∷ ds) [] i l d lt within this is = absurd (omega (arith, within))
deals_more q (e ∷ ds) (m ∷ ls) zero l d lt within this is = ap (λ k. give_of k q e ∷ []) (sym is) ∙ ap (λ x. give_of l q x ∷ []) (sym this)
deals_more q (e ∷ ds) (m ∷ ls) (suc i) l d lt within this is =
    let one : suc i + 1 ≡ suc (i + 1) = omega arith in
    ap (λ k. deals_of q (take k (e ∷ ds)) (take k (m ∷ ls))) one
    ∙ ap (λ ss. give_of m q e ∷ ss) (deals_more q ds ls i l d (omega (arith, lt)) (omega (arith, within)) this is)

-- behind what was there before
pub deal_behind : (q : ℕ) (ds : List Delivery) (ls : List ℕ) (i l : ℕ) (d : Delivery) (start : List Step) → i < length ds → i < length ls → d ≡ get_or ds i d → l ≡ get_or ls i l
    → start ++ deals_of q (take (i + 1) ds) (take (i + 1) ls) ≡ (start ++ deals_of q (take i ds) (take i ls)) ++ give_of l q d ∷ []
deal_behind q ds ls i l d start lt within this is =
    ap (λ ss. start ++ ss) (deals_more q ds ls i l d lt within this is) ∙ sym (append_assoc start (deals_of q (take i ds) (take i ls)) (give_of l q d ∷ []))
