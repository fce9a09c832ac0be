use Rattle.std.proofs.Common.{◌∙◌, ◌++◌, ap, arith, length, length-append, map}
use Rattle.std.specs.Prelude.{filter_map}
use Rattle.std.proofs.lemmas.List.{length-map}
use Rattle.event_answers.specs.declared.report.Undelivered.{Undelivered}
use Rattle.lane_rings.specs.Ends.{answered, offered, received_by, taken}
use Rattle.lane_rings.specs.Rest.{undelivered, untaken}
use Rattle.event_device.proofs.Leftovers.{left_behind, untaken_few}
use Rattle.event_device.specs.Listed.{undelivered_of, untaken_of}
use Rattle.event_device.proofs.list_lanes.list_lane.Goals as goal

pub returns-clause-few : goal.returns-clause-few
returns-clause-few c =
    let l = c.args.lane in
    let left = c.beside-left.result in (
      omega (
        arith,
        ap length c.list_undelivered.ensures.listed,
        length-append c.args.undelivered.now.items (map (undelivered_of l) (undelivered left)),
        length-map {B = Undelivered} (undelivered left) (undelivered_of l),
      ),
      omega (
        arith,
        ap length c.list_untaken.ensures.listed,
        length-append c.args.untaken.now.items (filter_map (untaken_of l) (untaken c.list_undelivered.new.left)),
        untaken_few l (untaken c.list_undelivered.new.left),
        ap length c.list_undelivered.ensures.others,
      ),
    )

pub list_undelivered-requires : goal.list_undelivered-requires
list_undelivered-requires c = omega (arith, c.beside-left.ensures.room.0, c.requires.small.0, c.requires.undelivered_room)

pub list_untaken-requires : goal.list_untaken-requires
list_untaken-requires c = omega (arith, ap length c.list_undelivered.ensures.others, c.beside-left.ensures.room.1, c.requires.small.1, c.requires.untaken_room)

pub returns-clause-room : goal.returns-clause-room
returns-clause-room c = (c.list_undelivered.ensures.room, c.list_untaken.ensures.room)

pub beside-left-requires : goal.beside-left-requires
beside-left-requires c = c.requires.lane

pub returns-clause-undelivered : goal.returns-clause-undelivered
returns-clause-undelivered c =
    let left = left_behind (offered c.args.near) (received_by c.args.far) (undelivered c.beside-left.result) c.beside-left.ensures.undelivered in
    c.list_undelivered.ensures.listed ∙ ap (λ xs. c.args.undelivered.now.items ++ map (undelivered_of c.args.lane) xs) left

pub returns-clause-untaken : goal.returns-clause-untaken
returns-clause-untaken c =
    let left = left_behind (answered c.args.far) (taken c.args.near) (untaken c.beside-left.result) c.beside-left.ensures.untaken in
    c.list_untaken.ensures.listed ∙ ap (λ xs. c.args.untaken.now.items ++ filter_map (untaken_of c.args.lane) xs) (c.list_undelivered.ensures.others ∙ left)

pub returns-clause-rest : goal.returns-clause-rest
returns-clause-rest c =
    let ends = c.beside-left.ensures in
    let near = c.args.near in
    let far = c.args.far in
    record {
      received = ends.undelivered ∙ ap (λ xs. received_by far ++ xs) (left_behind (offered near) (received_by far) (undelivered c.beside-left.result) ends.undelivered);
      answered = ends.untaken ∙ ap (λ xs. taken near ++ xs) (left_behind (answered far) (taken near) (untaken c.beside-left.result) ends.untaken);
      fewer = ends.fewer;
      beside = ends.beside;
    }
