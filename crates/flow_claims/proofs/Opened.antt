-- Stints that are open in a seat: what the seat has of them, and that they stay open where it has the same.
use Rattle.std.proofs.Common.{◌≡◌, ◌≢◌, ℕ, Bool, List, length, drop, Option, Some, None, All, refl, sym, ap, ◌∙◌, subst}
use Rattle.std.proofs.lemmas.List.Elements.{All-push}
use Rattle.std.proofs.lemmas.Option.{none-some, same_Some}
use Rattle.lane_rings.specs.declared.far.Far.{Far}
use Rattle.flow_claims.specs.declared.claim.Stint.{Stint}
use Rattle.flow_claims.specs.declared.seating.Begun.{Begun}
use Rattle.flow_claims.specs.declared.seating.Seating.{Seating}
use Rattle.flow_claims.specs.Lists.{lists_of, GoesOn, IsOf}
use Rattle.flow_claims.specs.Seats.{stint_at, past_of, finished_by, after_end, IsPorts}
use Rattle.flow_claims.specs.Open.{number_in, start_in, IsOpen}
use Rattle.flow_claims.specs.Answers.{IsEnded}
use Rattle.flow_claims.proofs.Held.{found_lane, found_has, All-without}

pub record HasBegun (v : Seating) (stint : Stint) : Type 0 where
  pub begun : Begun
  pub at : stint_at v stint.lane ≡ Some begun
  pub number : begun.number ≡ stint.number
  pub goes_on : GoesOn begun.start (lists_of stint.far)

-- what the seat has of an open stint, and that it's open where the seat has that
pub opened : (v : Seating) (stint : Stint) → IsOpen v stint → HasBegun v stint
opened v stint is = by (stint_at v stint.lane) refl is.number is.goes_on
  where
    by : (found : Option Begun) → stint_at v stint.lane ≡ found → number_in found ≡ Some stint.number → GoesOn (start_in found) (lists_of stint.far) → HasBegun v stint
    by None at number goes_on = absurd (none-some stint.number number)
    by (Some b) at number goes_on = record { begun = b; at = at; number = same_Some b.number stint.number number; goes_on = goes_on }

pub open_where : (v : Seating) (stint : Stint) → HasBegun v stint → IsOf v.lanes stint.lane stint.far → IsOpen v stint
open_where v stint has of =
    let Goes : Option Begun → Type 0 = λ o. GoesOn (start_in o) (lists_of stint.far) in
    record { number = ap number_in has.at ∙ ap Some has.number; goes_on = subst Goes (sym has.at) has.goes_on; of_lane = of }

-- a stint stays open where the seat has the same of it
pub stays_open : (v after : Seating) (stint : Stint) → stint_at after stint.lane ≡ stint_at v stint.lane → after.lanes ≡ v.lanes → IsOpen v stint → IsOpen after stint
stays_open v after stint same lanes is =
    let Goes : Option Begun → Type 0 = λ o. GoesOn (start_in o) (lists_of stint.far) in
    let Of : List Far → Type 0 = λ ls. IsOf ls stint.lane stint.far in
    record { number = ap number_in same ∙ is.number; goes_on = subst Goes (sym same) is.goes_on; of_lane = subst Of (sym lanes) is.of_lane }

-- an open stint is of a lane of which the seat has one
pub open_found : (v : Seating) (stint : Stint) → IsOpen v stint → stint_at v stint.lane ≢ None
open_found v stint is none = let has = opened v stint is in none-some has.begun (sym none ∙ has.at)

-- the finished stint that an open one becomes
pub is_ended : (gone : Bool) (v : Seating) (stint : Stint) (has : HasBegun v stint) → IsEnded gone v stint (past_of gone has.begun stint.far)
is_ended gone v stint has = record {
  lane = found_lane stint.lane v.held has.begun has.at;
  number = has.number;
  lists = refl;
  surrendered_is = refl;
  received = ap (λ o. drop (length (start_in o).received) (lists_of stint.far).received) (sym has.at);
  answered = ap (λ o. drop (length (start_in o).answered) (lists_of stint.far).answered) (sym has.at);
}

-- the end of a stint leaves each stint its port
pub ended_held : (port : ℕ) (gone : Bool) (lane : ℕ) (far : Far) (v after : Seating) (b : Begun) → stint_at v lane ≡ Some b → after ≡ after_end gone lane far v
    → All (λ x. x.port ≡ port) v.held → All (λ x. x.port ≡ port) after.held
ended_held port gone lane far v after b found e held =
    let Q : Seating → Type 0 = λ x. All (λ y. y.port ≡ port) x.held in
    subst Q (sym (e ∙ ap (λ o. finished_by gone lane far o v) found)) (All-without (λ y. y.port ≡ port) lane v.held held)

pub ended_ports : (port : ℕ) (gone : Bool) (lane : ℕ) (far : Far) (v after : Seating) (b : Begun) → stint_at v lane ≡ Some b → after ≡ after_end gone lane far v
    → IsPorts port v → IsPorts port after
ended_ports port gone lane far v after b found e ports =
    let Q : Seating → Type 0 = λ x. All (λ y. y.port ≡ port) x.finished in
    record {
      held = ended_held port gone lane far v after b found e ports.held;
      finished = subst Q (sym (e ∙ ap (λ o. finished_by gone lane far o v) found))
          (All-push (λ y. y.port ≡ port) v.finished (past_of gone b far) ports.finished (found_has (λ y. y.port ≡ port) lane v.held b ports.held found));
    }
