use Rattle.std.proofs.Common.{ℕ, List, length, subst}
use Rattle.event_answers.specs.declared.answer.StopFault.TheVariants.{Missing, Memory}
use Rattle.event_ports.specs.declared.port.Port.{Port}
use Rattle.event_device.specs.Ports.{Refuses}
use Rattle.event_device.proofs.recorder.Recorder.stop.Goals as goal

pub returns-in-Some-clause-refused : goal.returns-in-Some-clause-refused
returns-in-Some-clause-refused g c =
    let At : ℕ → Type 0 = λ n. Refuses n c.deref.result.now (Missing c.in-Some.port) in
    let Of : List Port → Type 0 = λ xs. Refuses (length c.args.self.sight.core.shape.ports) xs (Missing c.in-Some.port) in
    subst Of c.deref.ensures.value (subst At c.port_count-count.ensures.value c.in-Some.ensures)

pub close-report-requires-clause-there : goal.close-report-requires-clause-there
close-report-requires-clause-there g c =
    let At : ℕ → Type 0 = λ n. Refuses n c.deref.result.now Memory in
    let Of : List Port → Type 0 = λ xs. Refuses (length c.args.self.sight.core.shape.ports) xs Memory in
    subst Of c.deref.ensures.value (subst At c.port_count-count.ensures.value c.in_default.ensures)

pub returns-in-Err-clause-refused : goal.returns-in-Err-clause-refused
returns-in-Err-clause-refused g c =
    let At : ℕ → Type 0 = λ n. Refuses n c.deref.result.now Memory in
    let Of : List Port → Type 0 = λ xs. Refuses (length c.args.self.sight.core.shape.ports) xs Memory in
    subst Of c.deref.ensures.value (subst At c.port_count-count.ensures.value c.in_default.ensures)
