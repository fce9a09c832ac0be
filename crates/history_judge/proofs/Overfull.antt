-- What a port holds at the end of a call: more than its depth fits no run; and how the judge finds it.
use Rattle.std.specs.Prelude.{ℕ, ◌≡◌, ◌+◌, ◌-◌, ◌<◌, ◌≤◌, true, false, cond, ◌&&◌, List, length, nat_le, Some, slice_get}
use Rattle.std.proofs.Common.{refl, sym, ap, ◌∙◌, arith, subst, get_or, replicate}
use Rattle.std.proofs.lemmas.Bool.{and_from, and_parts, false≢true, le-leb, leb-true}
use Rattle.std.proofs.lemmas.List.{get_or-replicate, length-replicate, length-set, take_all}
use Rattle.std.proofs.lemmas.Option.{same_Some, slice_get_within}
use Rattle.std.specs.declared.alloc.Global.{Global}
use Rattle.std.specs.declared.vec.Vec.{Vec}
use Rattle.evt_types.specs.Plan.{Plan, depth_of}
use Rattle.transcripts.proofs.Pushes.{length-unanswered}
use Rattle.transcripts.specs.Lawful.{HasRoom}
use Rattle.world_laws.proofs.Consistent.{consistent_none, consistent_run}
use Rattle.world_laws.proofs.Said.{answers_few as taken_few}
use Rattle.world_laws.specs.World.{World, IsConsistent, after_moves, empty}
use Rattle.history_judge.proofs.Fits.{answers_few}
use Rattle.history_judge.proofs.Held.{got_by}
use Rattle.history_judge.proofs.Holdings.{port_there}
use Rattle.history_judge.proofs.InOrder.{none_more}
use Rattle.history_judge.proofs.Moments.{made_by}
use Rattle.history_judge.proofs.RisingTimes.{begun_are_past, not_past, times_rise, to_come}
use Rattle.history_judge.proofs.Watched.{counts_on}
use Rattle.history_judge.specs.Breaches.{IsOverfull}
use Rattle.history_judge.specs.Depths.{AreCounted, exceeds}
use Rattle.history_judge.specs.Histories.{IsImpossible, WasDone, answers_begun, gets, got_before}
use Rattle.history_judge.specs.Holds.{answer_times, ends_after, until_in}
use Rattle.history_judge.specs.Watching.{IsFit, counted}
use Rattle.history_judge.specs.declared.seen.Deed.{Deed}
use Rattle.history_judge.specs.declared.seen.Deed.TheVariants.{Sent, Got}
use Rattle.history_judge.specs.declared.seen.Seen.{Seen}

-- ---- it fits no run

pub overfull_fits_none : (p : Plan) (hs : List Seen) (i : ℕ) → IsOverfull p hs i → IsImpossible p hs
overfull_fits_none p hs i b moves v clock x = by_deed s.deed refl
  where
    s : Seen
    s = b.seen

    now : World
    now = after_moves moves (made_by clock s.ended (length moves))

    consistent : IsConsistent p now
    consistent = consistent_run p empty v moves x.run (consistent_none p) (made_by clock s.ended (length moves))

    room : HasRoom p now.log
    room = subst (HasRoom p) (take_all (length now.log) now.log (omega arith)) (consistent.lawful.room (length now.log) (omega arith))

    by_deed : (d : Deed) → s.deed ≡ d → ⊥
    by_deed (Sent r) is = false≢true (ap gets (sym is) ∙ b.got)
    by_deed (Got e) is =
        omega (
          arith,
          b.more,
          got_by p hs moves v clock i s.ended s e x (subst (WasDone hs moves v clock i s) is (x.each i s b.entry)) (omega arith),
          consistent.received s.port,
          length-unanswered now.log s.port,
          taken_few now.log s.port (now.submitted s.port) (consistent.taken s.port),
          answers_few p hs moves v clock s.port s.ended x b.port,
          room.lanes s.port,
        )

-- ---- how it is found

-- whether more events than the depth are held, of which so many came before this one
pub overfull_by : (p : Plan) (hs : List Seen) (times : List (Vec ℕ Global)) (i n : ℕ) (s : Seen) → IsFit p hs times → slice_get hs i ≡ Some s → n ≡ got_before hs s.port i
    → exceeds p s n times ≡ true → IsOverfull p hs i
overfull_by p hs times i n s fit at count is =
    record {
      seen = s;
      entry = at;
      port = port_there p hs times i s fit at;
      got = first.0;
      more = omega (
        arith,
        count,
        leb-true (depth_of p s.port) n second.0,
        begun_are_past hs s.port s.ended,
        not_past s.ended (n - depth_of p s.port) (answer_times hs s.port) (times_rise hs s.port fit.ordered)
            (ap (λ xs. ends_after s.ended (slice_get xs (n - depth_of p s.port))) (sym (fit.noted.each s.port (port_there p hs times i s fit at))) ∙ second.1),
      );
    }
  where
    first : (gets s.deed ≡ true) × ((nat_le (depth_of p s.port) n && ends_after s.ended (until_in times s.port (n - depth_of p s.port))) ≡ true)
    first = and_parts (gets s.deed) (nat_le (depth_of p s.port) n && ends_after s.ended (until_in times s.port (n - depth_of p s.port))) is

    second : (nat_le (depth_of p s.port) n ≡ true) × (ends_after s.ended (until_in times s.port (n - depth_of p s.port)) ≡ true)
    second = and_parts (nat_le (depth_of p s.port) n) (ends_after s.ended (until_in times s.port (n - depth_of p s.port))) first.1

pub never_overfull : (p : Plan) (hs : List Seen) (times : List (Vec ℕ Global)) (i n : ℕ) (s : Seen) → IsFit p hs times → slice_get hs i ≡ Some s → n ≡ got_before hs s.port i
    → exceeds p s n times ≡ false → ¬ IsOverfull p hs i
never_overfull p hs times i n s fit at count is bad = false≢true (sym is ∙ yes)
  where
    same : bad.seen ≡ s
    same = same_Some bad.seen s (sym bad.entry ∙ at)

    more : depth_of p s.port + answers_begun hs s.port s.ended < got_before hs s.port i + 1
    more = subst (λ (u : Seen). depth_of p u.port + answers_begun hs u.port u.ended < got_before hs u.port i + 1) same bad.more

    deep : depth_of p s.port ≤ n
    deep = omega (arith, more, count)

    yes : exceeds p s n times ≡ true
    yes =
        and_from (gets s.deed) (nat_le (depth_of p s.port) n && ends_after s.ended (until_in times s.port (n - depth_of p s.port))) (ap (λ (u : Seen). gets u.deed) (sym same) ∙ bad.got)
        (and_from (nat_le (depth_of p s.port) n) (ends_after s.ended (until_in times s.port (n - depth_of p s.port))) (le-leb (depth_of p s.port) n deep)
        (ap (λ xs. ends_after s.ended (slice_get xs (n - depth_of p s.port))) (fit.noted.each s.port (port_there p hs times i s fit at))
        ∙ to_come s.ended (n - depth_of p s.port) (answer_times hs s.port) (times_rise hs s.port fit.ordered) (omega (arith, more, count, deep, begun_are_past hs s.port s.ended))))

pub overfull_within : (p : Plan) (hs : List Seen) (i : ℕ) → IsOverfull p hs i → i < length hs
overfull_within p hs i bad = slice_get_within hs i bad.seen bad.entry

-- ---- the counts, entry by entry

pub none_counted : (p : Plan) (hs : List Seen) (got : List ℕ) → got ≡ replicate (length p.ports) 0 → AreCounted p hs 0 got
none_counted p hs got zeros =
    record {
      ports = ap length zeros ∙ length-replicate (length p.ports) 0;
      counts = λ l lt. ap (λ xs. get_or xs l 0) zeros ∙ get_or-replicate (length p.ports) l 0 0 lt;
      none = λ j lt. absurd (omega (arith, lt));
    }

pub counted_more : (p : Plan) (hs : List Seen) (times : List (Vec ℕ Global)) (i : ℕ) (s : Seen) (got new : List ℕ) → IsFit p hs times → slice_get hs i ≡ Some s → AreCounted p hs i got
    → new ≡ counted got s → ¬ IsOverfull p hs i → AreCounted p hs (i + 1) new
counted_more p hs times i s got new fit at are is well =
    record {
      ports = ap length is ∙ (length-set got s.port (get_or got s.port 0 + cond (gets s.deed) 1 0) ∙ are.ports);
      counts = λ l lt. ap (λ xs. get_or xs l 0) is ∙ counts_on hs got i l s at (omega (arith, are.ports, port)) (are.counts s.port port) (are.counts l lt);
      none = none_more (IsOverfull p hs) i are.none well;
    }
  where
    port : s.port < length p.ports
    port = port_there p hs times i s fit at

pub counts_there : (p : Plan) (hs : List Seen) (times : List (Vec ℕ Global)) (i : ℕ) (s : Seen) (got : List ℕ) → IsFit p hs times → slice_get hs i ≡ Some s → AreCounted p hs i got → s.port < length got
counts_there p hs times i s got fit at are = omega (arith, port_there p hs times i s fit at, are.ports)
