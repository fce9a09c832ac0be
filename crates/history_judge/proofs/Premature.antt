-- An event that was got before any of its value was sent fits no run.
use Rattle.std.specs.Prelude.{ℕ, ◌≡◌, ◌<◌, ◌≤◌, Bool, true, ◌&&◌, List, ◌==◌, length, nat_le, count_by}
use Rattle.std.proofs.Common.{sym, ap, ◌∙◌, arith, subst}
use Rattle.std.proofs.lemmas.Bool.{le-leb}
use Rattle.evt_types.specs.Plan.{Plan}
use Rattle.lists.proofs.Lists.{and-true, eqb_same}
use Rattle.transcripts.specs.Replies.{replies_in}
use Rattle.transcripts.specs.Transcript.{accepted}
use Rattle.world_laws.proofs.Consistent.{consistent_none, consistent_run}
use Rattle.world_laws.specs.World.{World, IsConsistent, after_moves, empty}
use Rattle.history_judge.proofs.Accepted.{accepts_few, has_origin, is_of, is_said, queue_few}
use Rattle.history_judge.proofs.ByKeys.{one_counted, some_is}
use Rattle.history_judge.proofs.Fits.{Tells, submitted_few}
use Rattle.history_judge.proofs.Held.{IsGivenIn, event_stays, given_by}
use Rattle.history_judge.proofs.Lefts.{same_self}
use Rattle.history_judge.proofs.Moments.{grows_to_end, made_by}
use Rattle.history_judge.proofs.Unsent.{brings, said_few, same_value, says_few}
use Rattle.history_judge.specs.Breaches.{IsEarly}
use Rattle.history_judge.specs.Histories.{IsImpossible, WasDone, WasGot, got_before}
use Rattle.history_judge.specs.Values.{is_same_but, sends_value}
use Rattle.history_judge.specs.declared.seen.Seen.{Seen}
use Rattle.evt_types.specs.declared.event.Event.{Event}

pub early_fits_none : (p : Plan) (hs : List Seen) (i : ℕ) → IsEarly p hs i → IsImpossible p hs
early_fits_none p hs i b moves v clock x =
    omega (
      arith,
      b.premature.none,
      one_counted (is_same_but e) (accepted now.log was.pair.0) was.pair.1 there,
      queue_few (is_same_but e) now.log was.pair.0,
      accepts_few (is_same_but e) now.log (has_origin p now.log consistent.lawful),
      says_few p now.log hs e (λ d u. sends_value e d && nat_le u.began s.ended) consistent.lawful.formed b.ports by_port,
    )
  where
    s : Seen
    s = b.premature.seen

    e : Event
    e = b.premature.event

    now : World
    now = after_moves moves (made_by clock s.ended (length moves))

    consistent : IsConsistent p now
    consistent = consistent_run p empty v moves x.run (consistent_none p) (made_by clock s.ended (length moves))

    was : WasGot hs moves v clock i s e
    was = subst (WasDone hs moves v clock i s) b.premature.got (x.each i s b.premature.entry)

    is_given : IsGivenIn now s.port (got_before hs s.port i) was.pair
    is_given = given_by p hs moves v clock i s.ended s e x was (omega arith)

    there : is_of (is_same_but e) now.log was.pair.0 was.pair.1 ≡ true
    there =
        ap (some_is (is_same_but e))
        (event_stays now.log v.log was.pair.0 was.pair.1 was.event (grows_to_end p v moves (made_by clock s.ended (length moves)) x.run).log is_given.accepted was.accepted)
        ∙ (sym (same_value e e was.event was.same) ∙ same_self e)

    begun_here : ℕ → Seen → Bool
    begun_here l u = (u.port == l) && (sends_value e u.deed && nat_le u.began s.ended)

    tells : (l : ℕ) → Tells l s.ended (brings e) (begun_here l)
    tells l u r here is early =
        ap (λ c. c && (sends_value e u.deed && nat_le u.began s.ended)) (ap (λ m. u.port == m) (sym here) ∙ eqb_same u.port)
        ∙ (ap (λ d. sends_value e d && nat_le u.began s.ended) is ∙ (ap (λ c. brings e r && c) (le-leb u.began s.ended early) ∙ and-true (brings e r)))

    by_port : (l : ℕ) → l < length p.ports → count_by (is_said (is_same_but e)) (replies_in now.log l) ≤ count_by (begun_here l) hs
    by_port l port = omega (arith, said_few p now l e consistent, submitted_few p hs moves v clock l s.ended (brings e) (begun_here l) x (tells l) port)
