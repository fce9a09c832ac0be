-- What was received and answered in the open stints of a seat: nothing at the claim, and nothing of it is lost at the end.
use Rattle.std.proofs.Common.{◌≡◌, ◌≢◌, ◌+◌, ℕ, Bool, List, [], ◌∷◌, ◌++◌, length, drop, All, refl, ap, ◌∙◌, arith, sum_by}
use Rattle.std.proofs.lemmas.List.{drop_all}
use Rattle.std.proofs.lemmas.List.Sums.{sum_by-cons, sum_by-append}
use Rattle.std.proofs.lemmas.List.Elements.{All-head, All-tail, All-weaker}
use Rattle.evt_types.specs.declared.event.Delivery.{Delivery}
use Rattle.evt_types.specs.declared.event.Reply.{Reply}
use Rattle.lane_rings.specs.Ends.{received_by, answered}
use Rattle.lane_rings.specs.declared.far.Far.{Far}
use Rattle.flow_claims.specs.declared.claim.Claim.TheVariants.{Held}
use Rattle.flow_claims.specs.declared.claim.Stint.{Stint}
use Rattle.flow_claims.specs.declared.claims.ClaimSeat.{ClaimSeat}
use Rattle.flow_claims.specs.declared.claims.Claims.{Claims}
use Rattle.flow_claims.specs.declared.seating.Begun.{Begun}
use Rattle.flow_claims.specs.declared.seating.Past.{Past}
use Rattle.flow_claims.specs.declared.seating.Seating.{Seating}
use Rattle.flow_claims.specs.Lists.{lists_of}
use Rattle.flow_claims.specs.Seats.{stint_at, begun_by}
use Rattle.flow_claims.specs.Open.{start_in, IsOpen, received_so_far, answered_so_far}
use Rattle.flow_claims.specs.Stints.{received_in, answered_in}
use Rattle.flow_claims.specs.Weights.{received_weight, answered_weight}
use Rattle.flow_claims.specs.Answers.{Taken, AnswersClaim, EndsStint}
use Rattle.flow_claims.specs.Claims.{seating}
use Rattle.flow_claims.proofs.Held.{found_here, found_first}
use Rattle.flow_claims.proofs.Opened.{open_found}

-- nothing was received or answered in a stint that was taken just now
pub fresh : (port lane number : ℕ) (far : Far) (v after : Seating) → Taken port lane number far v after → start_in (stint_at after lane) ≡ lists_of far
fresh port lane number far v after t =
    ap start_in (ap (λ (x : Seating). stint_at x lane) t.0 ∙ found_here lane (begun_by port lane number far) v.held refl)

nothing : {A : Type 0} (xs ys : List A) → xs ≡ ys → drop (length xs) ys ≡ []
nothing xs ys e = ap (λ zs. drop (length zs) ys) e ∙ drop_all (length ys) ys (omega arith)

pub fresh_received : (port lane number : ℕ) (far : Far) (v after : Seating) → Taken port lane number far v after → drop (length (start_in (stint_at after lane)).received) (received_by far) ≡ []
fresh_received port lane number far v after t = nothing (start_in (stint_at after lane)).received (received_by far) (ap (λ l. l.received) (fresh port lane number far v after t))

pub fresh_answered : (port lane number : ℕ) (far : Far) (v after : Seating) → Taken port lane number far v after → drop (length (start_in (stint_at after lane)).answered) (answered far) ≡ []
fresh_answered port lane number far v after t = nothing (start_in (stint_at after lane)).answered (answered far) (ap (λ l. l.answered) (fresh port lane number far v after t))

-- ---- what was received and what was answered weigh alike

-- in_past: what a finished stint has of them; so_far: what a seat's open stint has, which is the same where the seat has the same of it
module _ {A : Type 0} (f : A → ℕ) (in_past : Past → List A) (so_far : Seating → Stint → List A) (kept : (v after : Seating) (s : Stint) → stint_at after s.lane ≡ stint_at v s.lane → so_far after s ≡ so_far v s) where
  abbrev weight : Seating → List Stint → ℕ
  weight v stints = sum_by (λ p. sum_by f (in_past p)) v.finished + sum_by (λ s. sum_by f (so_far v s)) stints

  -- stints of which the seat has the same weigh the same
  same_weight : (v after : Seating) (stints : List Stint) → All (λ s. stint_at after s.lane ≡ stint_at v s.lane) stints
      → sum_by (λ s. sum_by f (so_far after s)) stints ≡ sum_by (λ s. sum_by f (so_far v s)) stints
  same_weight v after [] all = refl
  same_weight v after (s ∷ ss) all =
      omega (
        arith,
        ap (sum_by f) (kept v after s (All-head (λ (x : Stint). stint_at after x.lane ≡ stint_at v x.lane) s ss all)),
        sum_by-cons (λ x. sum_by f (so_far after x)) s ss,
        sum_by-cons (λ x. sum_by f (so_far v x)) s ss,
        same_weight v after ss (All-tail (λ (x : Stint). stint_at after x.lane ≡ stint_at v x.lane) s ss all),
      )

  -- a stint in which nothing came yet adds nothing
  claimed : (v after : Seating) (stint : Stint) (others : List Stint) → after.finished ≡ v.finished → so_far after stint ≡ []
      → All (λ s. stint_at after s.lane ≡ stint_at v s.lane) others → weight after (stint ∷ others) ≡ weight v others
  claimed v after stint others finished none all =
      omega (
        arith,
        ap (sum_by (λ p. sum_by f (in_past p))) finished,
        sum_by-cons (λ x. sum_by f (so_far after x)) stint others,
        ap (sum_by f) none,
        same_weight v after others all,
      )

  -- a stint that is finished weighs what it weighed while it was open
  ended : (before after : Seating) (stint : Stint) (others : List Stint) (piece : Past) → after.finished ≡ before.finished ++ piece ∷ [] → in_past piece ≡ so_far before stint
      → All (λ s. stint_at after s.lane ≡ stint_at before s.lane) others → weight after others ≡ weight before (stint ∷ others)
  ended before after stint others piece finished is all =
      omega (
        arith,
        ap (sum_by (λ p. sum_by f (in_past p))) finished,
        sum_by-append (λ (p : Past). sum_by f (in_past p)) before.finished (piece ∷ []),
        ap (sum_by f) is,
        sum_by-cons (λ x. sum_by f (so_far before x)) stint others,
        same_weight before after others all,
      )

received_kept : (v after : Seating) (s : Stint) → stint_at after s.lane ≡ stint_at v s.lane → received_so_far after s ≡ received_so_far v s
received_kept v after s e = ap (λ o. drop (length (start_in o).received) (received_by s.far)) e

answered_kept : (v after : Seating) (s : Stint) → stint_at after s.lane ≡ stint_at v s.lane → answered_so_far after s ≡ answered_so_far v s
answered_kept v after s e = ap (λ o. drop (length (start_in o).answered) (answered s.far)) e

-- a claim leaves what the seat has of each stint that was open in it
claim_leaves : (port lane : ℕ) (v after : Seating) (stint : Stint) (others : List Stint) → AnswersClaim port lane v (Held stint) after → All (IsOpen v) others
    → All (λ s. stint_at after s.lane ≡ stint_at v s.lane) others
claim_leaves port lane v after stint others a all =
    All-weaker (IsOpen v) (λ s. stint_at after s.lane ≡ stint_at v s.lane)
    (λ s is.
    let b : Begun = begun_by port lane stint.number stint.far in
    let ne : s.lane ≢ lane = λ e. open_found v s is (ap (stint_at v) e ∙ a.1) in
    ap (λ (x : Seating). stint_at x s.lane) a.2.0 ∙ found_first lane s.lane b v.held refl ne) others all

pub claimed_received : (port lane : ℕ) (v after : Seating) (stint : Stint) (others : List Stint) → AnswersClaim port lane v (Held stint) after → All (IsOpen v) others
    → (f : Delivery → ℕ) → received_weight f after (stint ∷ others) ≡ received_weight f v others
claimed_received port lane v after stint others a all f =
    claimed f received_in received_so_far received_kept v after stint others (ap (λ (x : Seating). x.finished) a.2.0) a.4 (claim_leaves port lane v after stint others a all)

pub claimed_answered : (port lane : ℕ) (v after : Seating) (stint : Stint) (others : List Stint) → AnswersClaim port lane v (Held stint) after → All (IsOpen v) others
    → (f : Reply → ℕ) → answered_weight f after (stint ∷ others) ≡ answered_weight f v others
claimed_answered port lane v after stint others a all f =
    claimed f answered_in answered_so_far answered_kept v after stint others (ap (λ (x : Seating). x.finished) a.2.0) a.5 (claim_leaves port lane v after stint others a all)

module _ (claims : Claims) (gone : Bool) (stint : Stint) (before after : ClaimSeat) (others : List Stint) (is : EndsStint claims gone stint before after) (apart : All (λ s. s.lane ≢ stint.lane) others) where
  left : All (λ s. stint_at (seating after) s.lane ≡ stint_at (seating before) s.lane) others
  left = All-weaker (λ s. s.lane ≢ stint.lane) (λ s. stint_at (seating after) s.lane ≡ stint_at (seating before) s.lane) (λ s ne. is.others s.lane ne) others apart

  pub ended_received : (f : Delivery → ℕ) → received_weight f (seating after) others ≡ received_weight f (seating before) (stint ∷ others)
  ended_received f =
      ended f received_in received_so_far received_kept (seating before) (seating after) stint others is.piece.0 is.piece.1 is.piece.2.received left

  pub ended_answered : (f : Reply → ℕ) → answered_weight f (seating after) others ≡ answered_weight f (seating before) (stint ∷ others)
  ended_answered f =
      ended f answered_in answered_so_far answered_kept (seating before) (seating after) stint others is.piece.0 is.piece.1 is.piece.2.answered left
