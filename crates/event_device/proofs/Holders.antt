-- What is held of a flow lane at stop one port holds: that of the last stint of the lane's record.
use Rattle.std.proofs.Common.{◌≡◌, ◌≢◌, ℕ, ◌+◌, ◌<◌, ⊎_elim, true, false, List, [], ◌∷◌, ◌++◌, length, map, flat_map, get_or, All, refl, sym, ap, ◌∙◌, subst}
use Rattle.std.specs.Prelude.{slice_get, Some}
use Rattle.std.proofs.lemmas.Bool.{cases_Bool}
use Rattle.std.proofs.lemmas.List.{map-append}
use Rattle.std.proofs.lemmas.Option.{get_or_from_slice_get, slice_get_within}
use Rattle.std.proofs.lemmas.Simd.{map-map}
use mathlib.Core.Logic.{dite}
use native.Mathlib.Decide.{ℕ_discrete}
use Rattle.lists.proofs.Lists.{All-back, All-front}
use Rattle.evt_types.specs.Event.{pair_of}
use Rattle.evt_types.specs.Plan.{Plan}
use Rattle.evt_types.specs.declared.event.Delivery.{Delivery}
use Rattle.event_answers.specs.declared.report.Held.{Held}
use Rattle.flow_claims.specs.Lists.{no_lists}
use Rattle.flow_claims.specs.Stints.{IsDone, last_end, left_in}
use Rattle.flow_claims.specs.declared.seating.Past.{Past}
use Rattle.event_ports.proofs.LastStints.{IsBy, last_end_is, last_of, last_there, only_last, others_left}
use Rattle.event_ports.proofs.Unanswered.{left_append}
use Rattle.event_ports.specs.Holds.{left_past}
use Rattle.event_ports.specs.Lanes.{held_of, pair_in}
use Rattle.event_ports.specs.Ports.{hand, links}
use Rattle.event_ports.specs.Stop.{AreStintsOf}
use Rattle.event_ports.specs.declared.lane.Lane.TheVariants.{Flow}
use Rattle.event_ports.specs.declared.port.Port.{Port}
use Rattle.world_laws.specs.Rest.{Rest, still_held}
use Rattle.event_device.specs.Device.{number_of}
use Rattle.event_device.specs.Held.{entry_at, held_entry, held_from}
use Rattle.event_device.specs.Stop.{AreStints, IsHeldByLast}

-- what ports hold of a lane that one of them alone surrendered is listed as that one's
pub listed : (j by : ℕ) (ports : List Port) (all : List Past) → AreStintsOf ports all → All (IsBy j by) all → flat_map (held_from (Flow j)) ports ≡ map (entry_at by) (map pair_of (left_past j all))
listed j by [] all is only = ap (λ ps. map (entry_at by) (map pair_of (left_past j ps))) (sym is)
listed j by (q ∷ qs) all is only =
    let entries : List Past → List Held = λ ps. map (entry_at by) (map pair_of (left_past j ps)) in
    let both : All (IsBy j by) (is.its ++ is.rest) = subst (All (IsBy j by)) is.both only in
    let left : List Delivery = left_past j is.its in
    let pairs : held_from (Flow j) q ≡ map (entry_at (number_of q)) (map pair_of left) =
    sym (map-map (entry_at (number_of q)) pair_in (held_of (Flow j) (hand q).holding)) ∙ ap (map (entry_at (number_of q))) (is.lists.held j) in
    let here : held_from (Flow j) q ≡ entries is.its =
    dite (ℕ_discrete (number_of q) by) (λ same. pairs ∙ ap (λ n. map (entry_at n) (map pair_of left)) same)
    (λ other.
    let none : left ≡ [] = others_left j by (number_of q) (links q) is.its is.linked other (All-front (IsBy j by) is.its is.rest both) in
    pairs ∙ ap (λ ds. map (entry_at (number_of q)) (map pair_of ds)) none ∙ ap (λ ds. map (entry_at by) (map pair_of ds)) (sym none)) in
    let later : flat_map (held_from (Flow j)) qs ≡ entries is.rest = listed j by qs is.rest is.others_are (All-back (IsBy j by) is.its is.rest both) in
    ap (λ hs. hs ++ flat_map (held_from (Flow j)) qs) here
    ∙ (ap (λ hs. entries is.its ++ hs) later
    ∙ sym
    (ap entries is.both
    ∙ (ap (λ ds. map (entry_at by) (map pair_of ds)) (left_append j is.its is.rest)
    ∙ (ap (map (entry_at by)) (map-append pair_of left (left_past j is.rest)) ∙ map-append (entry_at by) (map pair_of left) (map pair_of (left_past j is.rest))))))

module _ (p : Plan) (j : ℕ) (finished : List Past) (sorted : List Port) (r : Rest) (stints : AreStintsOf sorted finished) (s : AreStints p j finished r) (some : still_held r ≢ []) where
  from_last : (before : List Past) (last : Past) → s.past ≡ before ++ last ∷ [] → IsHeldByLast j sorted s.past (still_held r)
  from_last before last is =
      let at : slice_get s.past (length before) ≡ Some last = last_there s.past before last is in
      let done : IsDone last = subst IsDone (get_or_from_slice_get s.past (length before) last last at) (s.done (length before) last (slice_get_within s.past (length before) last at)) in
      let left_is : still_held r ≡ map pair_of (left_in last.end) =
      s.last ∙ (ap (λ ps. map pair_of (left_in (last_end no_lists ps))) is ∙ ap (λ lists. map pair_of (left_in lists)) (last_end_is no_lists before last)) in
      let only : All (IsBy j last.port) finished =
      λ k d lt its gone. ap (λ (x : Past). x.port) (only_last s.past before last (get_or finished k d) is s.final (s.in_record k d lt its) gone) in
      record {
        before = before;
        last = last;
        is_last = is;
        surrendered = ⊎_elim (λ (gone : last.surrendered ≡ true). gone) (λ (kept : last.surrendered ≡ false). absurd (some (left_is ∙ ap (map pair_of) (done.given_back kept)))) (cases_Bool last.surrendered);
        left_is = left_is;
        listed = listed j last.port sorted finished stints only ∙ ap (map (entry_at last.port)) (sym s.held);
      }

  by_record : (past : List Past) → s.past ≡ past → IsHeldByLast j sorted s.past (still_held r)
  by_record [] is = absurd (some (s.last ∙ ap (λ ps. map pair_of (left_in (last_end no_lists ps))) is))
  by_record (x ∷ xs) is =
      let end = last_of x xs in
      from_last end.0 end.1 (is ∙ end.2)

  pub held_by_last : IsHeldByLast j sorted s.past (still_held r)
  held_by_last = by_record s.past refl
