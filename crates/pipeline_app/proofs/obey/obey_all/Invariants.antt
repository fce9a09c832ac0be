use Rattle.std.proofs.Common.{◌≡◌, map, take}
use Rattle.event_device.specs.Parts.{device_of}
use Rattle.play_documents.specs.Command.{line_of}
use Rattle.pipeline_app.specs.Commands.{AreAllHome, ArePlayed}
use Rattle.pipeline_app.proofs.obey.obey_all.Given as goal

abbrev pub invariant-loop-command : goal.invariant-loop-command
invariant-loop-command l =
    AreAllHome l.device × (device_of l.device ≡ device_of l.initial.device) × ArePlayed l.initial.device (map line_of (take l.command-index l.commands)) l.answers.items l.device
