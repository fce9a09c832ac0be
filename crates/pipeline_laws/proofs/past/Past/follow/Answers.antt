use Rattle.std.proofs.Common.{◌≡◌, ℕ, ◌+◌, ◌<◌, [], ◌∷◌, ◌++◌, length, set, slice_index, refl, sym, ap, ◌∙◌, subst, arith}
use Rattle.std.proofs.lemmas.List.{get_or_default}
use Rattle.pipeline_laws.proofs.Pasts.{follows_accept, follows_give, follows_done, follows_more, follows_turned, follows_bounced, follows_shut, row_small}
use Rattle.pipeline_laws.specs.Past.{Follows, HasPlace, HasUnanswered}
use Rattle.pipeline_laws.specs.declared.past.Past.{Past}
use Rattle.std.specs.Vec.{with_item}
use Rattle.std.specs.declared.alloc.Global.{Global}
use Rattle.std.specs.declared.vec.Vec.{Vec}
use Rattle.pipeline_laws.proofs.past.Past.follow.Goals as goal

pub overflow_add-index_mut : goal.overflow_add-index_mut
overflow_add-index_mut c =
    let place : HasUnanswered c.args.self.now c.in-Done.lane = subst (HasPlace c.args.self.now) c.in-Done.is c.requires.place in
    omega (
      arith,
      place.some,
      c.index_mut.ensures.value,
      get_or_default c.args.self.now.answered.items c.in-Done.lane c.index_mut.result.now 0 place.answered,
      row_small c.args.self.now.given.items c.in-Done.lane,
    )

pub returns-in_ok-push_to-in-Accept-clause-follows :
    goal.returns-in_ok-push_to-in-Accept-clause-follows
returns-in_ok-push_to-in-Accept-clause-follows c T f =
    let queue : c.in-Accept.queue < length c.args.self.now.accepted.items = subst (HasPlace c.args.self.now) c.in-Accept.is c.requires.place in
    let new : Past = record { accepted = c.push_to.new.lists; given = c.args.self.now.given; answered = c.args.self.now.answered } in
    subst (λ s. Follows (T ++ s ∷ []) new) (sym c.in-Accept.is)
    (follows_accept T c.args.self.now new c.in-Accept.queue c.in-Accept.event c.in-Accept.source f queue c.in_ok-push_to-in-Accept.ensures refl refl)

pub returns-in_ok-push_to-in-Give-clause-follows :
    goal.returns-in_ok-push_to-in-Give-clause-follows
returns-in_ok-push_to-in-Give-clause-follows c T f =
    let lane : c.in-Give.lane < length c.args.self.now.given.items = subst (HasPlace c.args.self.now) c.in-Give.is c.requires.place in
    let new : Past = record { accepted = c.args.self.now.accepted; given = c.push_to-in-Give.new.lists; answered = c.args.self.now.answered } in
    subst (λ s. Follows (T ++ s ∷ []) new) (sym c.in-Give.is)
    (follows_give T c.args.self.now new c.in-Give.lane c.in-Give.queue c.in-Give.number f lane c.in_ok-push_to-in-Give.ensures refl refl)

pub returns-in-Done-clause-follows : goal.returns-in-Done-clause-follows
returns-in-Done-clause-follows c T f =
    let place : HasUnanswered c.args.self.now c.in-Done.lane = subst (HasPlace c.args.self.now) c.in-Done.is c.requires.place in
    let counts : Vec ℕ Global = with_item c.args.self.now.answered c.in-Done.lane (c.index_mut.result.now + 1) in
    let new : Past = record { accepted = c.args.self.now.accepted; given = c.args.self.now.given; answered = counts } in
    let read : c.index_mut.result.now ≡ slice_index c.args.self.now.answered.items c.in-Done.lane =
    c.index_mut.ensures.value ∙ get_or_default c.args.self.now.answered.items c.in-Done.lane c.index_mut.result.now 0 place.answered in
    subst (λ s. Follows (T ++ s ∷ []) new) (sym c.in-Done.is)
    (follows_done T c.args.self.now new c.in-Done.lane c.in-Done.outcome f place.answered
    (ap (λ n. set c.args.self.now.answered.items c.in-Done.lane (n + 1)) read) refl refl)

pub returns-in-More-clause-follows : goal.returns-in-More-clause-follows
returns-in-More-clause-follows c T f = follows_more T c.args.self.now c.args.step.now c.in-More.lane c.in-More.event c.in-More.is f

pub returns-in-Turned-clause-follows : goal.returns-in-Turned-clause-follows
returns-in-Turned-clause-follows c T f = follows_turned T c.args.self.now c.args.step.now c.in-Turned.lane c.in-Turned.event c.in-Turned.is f

pub returns-in-Bounced-clause-follows : goal.returns-in-Bounced-clause-follows
returns-in-Bounced-clause-follows c T f = follows_bounced T c.args.self.now c.args.step.now c.in-Bounced.lane c.in-Bounced.is f

pub returns-in-Shut-clause-follows : goal.returns-in-Shut-clause-follows
returns-in-Shut-clause-follows c T f = follows_shut T c.args.self.now c.args.step.now c.in-Shut.is f
