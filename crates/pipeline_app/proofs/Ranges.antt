-- The log of a report names queues and lanes that are there.
use Rattle.std.proofs.Common.{◌≡◌, ℕ, List, length, sym, subst}
use Rattle.std.specs.Prelude.{All}
use Rattle.std.proofs.lemmas.List.Elements.{All-weaker}
use Rattle.event_device.specs.Recorder.{Recorded}
use Rattle.evt_types.specs.Plan.{Plan, lanes_of}
use Rattle.evt_types.specs.declared.draft.QueueDraft.{QueueDraft}
use Rattle.evt_types.specs.declared.step.Source.TheVariants.{New, Of}
use Rattle.evt_types.specs.declared.step.Step.{Step}
use Rattle.evt_types.specs.declared.step.Step.TheVariants.{Accept, Give, Done, More, Turned, Bounced, Shut}
use Rattle.play_text.specs.Text.{IsInRange}
use Rattle.timelines.proofs.Texts.{all_placed}
use Rattle.timelines.specs.Links.{IsPlaced}
use Rattle.transcripts.specs.Lawful.{IsFormed}

formed_in_range : (p : Plan) (s : Step) → IsFormed p s → IsInRange (length p.queues) s
formed_in_range p (Accept q e (New l)) h = h.entry.queue
formed_in_range p (Accept q e (Of r n)) h = h.entry.queue
formed_in_range p (Give l q n) h = tt
formed_in_range p (Done l o) h = tt
formed_in_range p (More l e) h = tt
formed_in_range p (Turned l e) h = tt
formed_in_range p (Bounced l) h = tt
formed_in_range p Shut h = tt

-- the log of a report names these queues
pub report_in_range : (p : Plan) (qs : List QueueDraft) (r : Recorded) (T : List Step) → r.sight.core.shape ≡ p → qs ≡ p.queues → T ≡ r.log → All (IsFormed r.sight.core.shape) r.log → All (IsInRange (length qs)) T
report_in_range p qs r T plan queues log formed =
    let P : Plan → Type 0 = λ x. All (IsFormed x) r.log in
    let Q : List QueueDraft → Type 0 = λ xs. All (IsInRange (length xs)) r.log in
    let R : List Step → Type 0 = λ xs. All (IsInRange (length qs)) xs in
    subst R (sym log) (subst Q (sym queues) (All-weaker (IsFormed p) (IsInRange (length p.queues)) (formed_in_range p) r.log (subst P plan formed)))

-- and these lanes
pub report_placed : (p : Plan) (qs : List QueueDraft) (ls : ℕ) (r : Recorded) (T : List Step) → r.sight.core.shape ≡ p → qs ≡ p.queues → ls ≡ lanes_of p → T ≡ r.log → All (IsFormed r.sight.core.shape) r.log
    → All (IsPlaced (length qs) ls) T
report_placed p qs ls r T plan queues lanes log formed =
    let F : Plan → Type 0 = λ x. All (IsFormed x) r.log in
    let P : List QueueDraft → Type 0 = λ xs. All (IsPlaced (length xs) (lanes_of p)) r.log in
    let Q : ℕ → Type 0 = λ n. All (IsPlaced (length qs) n) r.log in
    let R : List Step → Type 0 = λ xs. All (IsPlaced (length qs) ls) xs in
    subst R (sym log) (subst Q (sym lanes) (subst P (sym queues) (all_placed p r.log (subst F plan formed))))
