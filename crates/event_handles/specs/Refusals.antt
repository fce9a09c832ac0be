-- The number that C gets for each refusal of an event: that of errno, negative.
use Rattle.std.specs.Prelude.{ℤ, pos, negsuc, Option}
use Rattle.std.specs.Prelude.Option.{Some, None}
use Rattle.event_answers.specs.declared.answer.Refused.{Refused}
use Rattle.event_answers.specs.declared.answer.Refused.TheVariants.{Stopped, BadQueue, NothingHeld, Backpressure, Raced, Full, TooMany}

-- -108 ESHUTDOWN, -22 EINVAL, -2 ENOENT, -28 ENOSPC, -11 EAGAIN, -105 ENOBUFS, -7 E2BIG
abbrev pub errno_of : Refused → ℤ
errno_of Stopped = negsuc 107
errno_of BadQueue = negsuc 21
errno_of NothingHeld = negsuc 1
errno_of (Backpressure free) = negsuc 27
errno_of (Raced first second) = negsuc 10
errno_of Full = negsuc 104
errno_of TooMany = negsuc 6

-- why a burst ended: 0 where none of its events was refused
abbrev pub errno_of_end : Option Refused → ℤ
errno_of_end None = pos 0
errno_of_end (Some refused) = errno_of refused
