use Rattle.std.proofs.Common.{length, refl}
use Rattle.timelines.proofs.Texts.{map_same}
use Rattle.timelines.specs.Layout.{frame_of}
use Rattle.timelines.specs.Marks.{mark_at, mark_of}
use Rattle.timelines.specs.Picture as pictures
use Rattle.timelines.proofs.picture.marks_name_each_step.Goals as goal

pub returns-clause-parts : goal.returns-clause-parts
unfolding pictures.picture
returns-clause-parts c qs ls T = refl

pub returns-clause-steps : goal.returns-clause-steps
unfolding pictures.marks mark_of
returns-clause-steps c qs ls T = map_same (mark_at qs (frame_of (length qs) ls T) T) 0 (length T) (λ k. refl)
