-- What an answer of a claim says of the seat before and after, and what the end of a stint does. A refusal carries what the seat
-- read, and leaves all stints.
use Rattle.std.specs.Prelude.{◌≡◌, ◌≢◌, ℕ, ◌+◌, ◌*◌, ◌/◌, ◌%◌, ◌≤◌, Bool, List, [], ◌∷◌, ◌++◌, All}
use Rattle.std.specs.Prelude.Option.{None}
use Rattle.lane_rings.specs.Ends.{unanswered}
use Rattle.lane_rings.specs.declared.far.Far.{Far}
use Rattle.flow_claims.specs.declared.claim.Claim.{Claim}
use Rattle.flow_claims.specs.declared.claim.Claim.TheVariants.{WornOut, Busy, Raced, Held}
use Rattle.flow_claims.specs.declared.claim.Stint.{Stint}
use Rattle.flow_claims.specs.declared.claims.ClaimSeat.{ClaimSeat}
use Rattle.flow_claims.specs.declared.claims.Claims.{Claims}
use Rattle.flow_claims.specs.declared.seating.Begun.{Begun}
use Rattle.flow_claims.specs.declared.seating.Past.{Past}
use Rattle.flow_claims.specs.declared.seating.Seating.{Seating}
use Rattle.flow_claims.specs.Lists.{lists_of, IsOf}
use Rattle.flow_claims.specs.Stints.{received_in, answered_in, stints_of}
use Rattle.flow_claims.specs.Seats.{begun_by, stint_at, after_look, after_load, after_begin, after_end, IsShared, IsLeft, IsPorts}
use Rattle.flow_claims.specs.Open.{IsOpen, received_so_far, answered_so_far}
use Rattle.flow_claims.specs.Claims.{seating, port_of, IsSeatOf}

-- as many stints as a lane's word can count: 2^56 - 1
abbrev pub most_stints : ℕ
most_stints = 72057594037927935

-- no word was read to claim a lane
pub record AsksNone (v after : Seating) : Type 0 where
  pub loads : after.loads ≡ v.loads
  pub reads : after.reads ≡ v.reads

-- the lane was claimed once: by one load of its word, and one exchange at most
pub record AsksOnce (lane : ℕ) (v after : Seating) : Type 0 where
  pub loads : after.loads ≡ v.loads ++ lane ∷ []
  pub reads : after.reads ≤ v.reads + 2

-- the port holds the lane, with the lane's end, of which nothing is unanswered
abbrev pub Taken : ℕ → ℕ → ℕ → Far → Seating → Seating → Type 0
Taken port lane number far v after =
    (after ≡ after_begin (begun_by port lane number far) (after_look lane (256 * number) v)) × IsOf v.lanes lane far × (unanswered far ≡ [])

-- The port asked for the lane.
abbrev pub AnswersClaim : ℕ → ℕ → Seating → Claim → Seating → Type 0
AnswersClaim port lane v WornOut after = (after.last.word / 256 ≡ most_stints) × (after ≡ after_load lane after.last.word v)
AnswersClaim port lane v (Busy seen) after = (seen % 256 ≢ 0) × (seen / 256 ≢ most_stints) × (after ≡ after_load lane seen v)
AnswersClaim port lane v (Raced first second) after =
    IsShared v × (first ≢ second) × (first % 256 ≡ 0) × (first / 256 ≢ most_stints) × (after ≡ after_look lane second (after_load lane first v))
AnswersClaim port lane v (Held stint) after =
    (stint.lane ≡ lane) × (stint_at v lane ≡ None) × Taken port lane stint.number stint.far (after_load lane (256 * stint.number) v) after
    × IsOpen after stint × (received_so_far after stint ≡ []) × (answered_so_far after stint ≡ [])

-- A seat with all parts knows what the lane's word counts, and that the lane is free where the seat left it free.
abbrev pub AnswersAll : ℕ → Seating → Claim → Type 0
AnswersAll lane v WornOut = stints_of lane v.finished ≡ most_stints
AnswersAll lane v (Busy seen) = (seen / 256 ≡ stints_of lane v.finished) × (IsLeft lane v → ⊥)
AnswersAll lane v (Raced first second) = ⊥
AnswersAll lane v (Held stint) = (stint.number ≡ stints_of lane v.finished) × IsLeft lane v

-- What a step of a seat's own leaves of what a port keeps: all stints stay those of its port, and no open one is another port's.
pub record KeepsPort (before after : ClaimSeat) : Type 0 where
  pub port : port_of after ≡ port_of before
  pub held : All (λ b. b.port ≡ port_of before) (seating after).held
  pub all : IsPorts (port_of before) (seating before) → IsPorts (port_of before) (seating after)

-- The finished stint that an open one became: what was received and answered in it so far is what was received and answered in it.
pub record IsEnded (surrendered : Bool) (v : Seating) (stint : Stint) (p : Past) : Type 0 where
  pub lane : p.lane ≡ stint.lane
  pub number : p.number ≡ stint.number
  pub lists : p.end ≡ lists_of stint.far
  pub surrendered_is : p.surrendered ≡ surrendered
  pub received : received_in p ≡ received_so_far v stint
  pub answered : answered_in p ≡ answered_so_far v stint

-- The stint ended in its seat, and the lane was surrendered or given back. All other open stints stay open.
pub record EndsStint (claims : Claims) (surrendered : Bool) (stint : Stint) (before after : ClaimSeat) : Type 0 where
  pub seat : IsSeatOf claims after
  pub port : KeepsPort before after
  pub ended : seating after ≡ after_end surrendered stint.lane stint.far (seating before)
  pub piece : (p : Past) × ((seating after).finished ≡ (seating before).finished ++ p ∷ []) × IsEnded surrendered (seating before) stint p × (p.port ≡ port_of before)
  pub closed : stint_at (seating after) stint.lane ≡ None
  pub others : (j : ℕ) → j ≢ stint.lane → stint_at (seating after) j ≡ stint_at (seating before) j
  pub stay : (other : Stint) → other.lane ≢ stint.lane → IsOpen (seating before) other → IsOpen (seating after) other
  pub last : (b : Begun) (bs : List Begun) → (seating before).held ≡ b ∷ bs → b.lane ≡ stint.lane → (seating after).held ≡ bs
  pub parts : (seating after).parts ≡ (seating before).parts
  pub reads : AsksNone (seating before) (seating after)
