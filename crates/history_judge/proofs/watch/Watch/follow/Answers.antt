use Rattle.std.proofs.Common.{◌≡◌, ◌∙◌, ◌<◌, Option, ap, arith, get_or, length, refl, sym}
use Rattle.std.specs.declared.alloc.Global.{Global}
use Rattle.std.specs.declared.vec.Vec.{Vec}
use Rattle.history_judge.proofs.Followed.{count_there, followed_past, followed_with, followed_wrong, option_at, times_there}
use Rattle.history_judge.proofs.Holdings.{got_rightly}
use Rattle.history_judge.proofs.InOrder.{entry_at}
use Rattle.history_judge.specs.Holds.{no_hold}
use Rattle.history_judge.specs.Watching.{longer}
use Rattle.history_judge.specs.declared.holds.Hold.{Hold}
use Rattle.history_judge.proofs.watch.Watch.follow.Goals as goal

pub count-number-requires-clause-port : goal.count-number-requires-clause-port
count-number-requires-clause-port c =
    count_there c.args.shape.now c.args.history.now c.args.times.now c.args.at c.index-history-at.result c.args.self.now.got.items c.args.self.now.latest.items c.requires.fit
    (entry_at c.args.history.now c.args.at c.index-history-at.result c.requires.place c.index-history-at.is) c.requires.so_far

pub hold_of-requires-clause-port : goal.hold_of-requires-clause-port
hold_of-requires-clause-port c =
    times_there c.args.shape.now c.args.history.now c.args.times.now c.args.at c.index-history-at.result c.requires.fit
    (entry_at c.args.history.now c.args.at c.index-history-at.result c.requires.place c.index-history-at.is)

pub hold_of-requires-clause-linked : goal.hold_of-requires-clause-linked
hold_of-requires-clause-linked c =
    got_rightly c.args.shape.now c.args.history.now c.args.at c.index-history-at.result c.requires.fit.linked
    (entry_at c.args.history.now c.args.at c.index-history-at.result c.requires.place c.index-history-at.is)

pub returns-in_default-clause-apart : goal.returns-in_default-clause-apart
returns-in_default-clause-apart c =
    followed_past c.args.shape.now c.args.history.now c.args.times.now c.args.at c.count-number.result c.index-history-at.result c.args.self.now.got.items
    c.count-number.new.self.got.items c.args.self.now.latest.items c.count-number.new.self.latest.items c.requires.fit
    (entry_at c.args.history.now c.args.at c.index-history-at.result c.requires.place c.index-history-at.is) c.requires.so_far c.count-number.ensures.got
    (ap (λ (v : Vec (Option Hold) Global). v.items) c.count-number.ensures.latest) (sym c.hold_of.ensures.value ∙ c.in_default.is)

pub returns-in-Some-meeting-clause-together : goal.returns-in-Some-meeting-clause-together
returns-in-Some-meeting-clause-together c =
    let same : c.count-number.new.self.latest.items ≡ c.args.self.now.latest.items = ap (λ (v : Vec (Option Hold) Global). v.items) c.count-number.ensures.latest in
    let room : c.in-Some.hold.cell < length c.count-number.new.self.latest.items = omega (arith, c.in-Some.ensures.cell, c.requires.so_far.cells, ap length same) in
    followed_wrong c.args.shape.now c.args.history.now c.args.times.now c.args.at c.count-number.result c.in-Some-meeting.other c.index-history-at.result
    c.args.self.now.got.items c.args.self.now.latest.items c.count-number.new.self.latest.items c.in-Some.hold c.index.result.now c.requires.fit
    (entry_at c.args.history.now c.args.at c.index-history-at.result c.requires.place c.index-history-at.is) c.requires.so_far c.count-number.ensures.before same
    (sym c.hold_of.ensures.value ∙ c.in-Some.is) (option_at c.count-number.new.self.latest.items c.in-Some.hold.cell c.index.result.now room c.index.ensures)
    (sym c.meeting.ensures ∙ c.in-Some-meeting.is)

pub returns-clause-apart : goal.returns-clause-apart
returns-clause-apart c =
    let same : c.count-number.new.self.latest.items ≡ c.args.self.now.latest.items = ap (λ (v : Vec (Option Hold) Global). v.items) c.count-number.ensures.latest in
    let room : c.in-Some.hold.cell < length c.count-number.new.self.latest.items = omega (arith, c.in-Some.ensures.cell, c.requires.so_far.cells, ap length same) in
    let first : get_or c.count-number.new.self.latest.items c.in-Some.hold.cell no_hold ≡ c.index.result.now = option_at c.count-number.new.self.latest.items c.in-Some.hold.cell c.index.result.now room c.index.ensures in
    let again : get_or c.count-number.new.self.latest.items c.in-Some.hold.cell no_hold ≡ c.index-2.result.now = option_at c.count-number.new.self.latest.items c.in-Some.hold.cell c.index-2.result.now room c.index-2.ensures in
    followed_with c.args.shape.now c.args.history.now c.args.times.now c.args.at c.count-number.result c.index-history-at.result c.args.self.now.got.items
    c.count-number.new.self.got.items c.args.self.now.latest.items c.count-number.new.self.latest.items _ c.in-Some.hold c.longer_of-kept.result c.index.result.now
    c.requires.fit (entry_at c.args.history.now c.args.at c.index-history-at.result c.requires.place c.index-history-at.is) c.requires.so_far
    c.count-number.ensures.before c.count-number.ensures.got same (sym c.hold_of.ensures.value ∙ c.in-Some.is) c.in-Some.ensures.cell first
    (sym c.meeting.ensures ∙ c.in_default-meeting.is) (c.longer_of-kept.ensures ∙ ap (λ m. longer m c.in-Some.hold) (sym again ∙ first)) refl
