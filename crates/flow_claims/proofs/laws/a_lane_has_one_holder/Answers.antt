use Rattle.flow_claims.proofs.Boards.{knows, once, held_by_one, none_held}
use Rattle.flow_claims.proofs.laws.a_lane_has_one_holder.Goals as goal

pub returns-clause-named : goal.returns-clause-named
returns-clause-named c lanes s lane i v b rule here e =
    let k = knows lanes s rule i lane v b here e in
    (k.exists, record { of_port = k.is.of_port; word = k.is.claimed; away = k.is.away })

pub returns-clause-once : goal.returns-clause-once
returns-clause-once c lanes s lane i v rule here = once lanes s rule i lane v here

pub returns-clause-one : goal.returns-clause-one
returns-clause-one c lanes s lane rule = held_by_one lanes s rule lane

pub returns-clause-none : goal.returns-clause-none
returns-clause-none c lanes s lane i v rule = none_held lanes s rule lane i v
