-- Which faults are of the command line.
use Rattle.std.specs.Prelude.{Bool, true, false}
use Rattle.device_bench.specs.declared.fault.BenchFault.{BenchFault}
use Rattle.device_bench.specs.declared.fault.BenchFault.TheVariants.{Words, WordCount, Serving, Workers, Events, Burst, Write, Memory, Device, Clock, Stuck, Document, NoSeat, Strayed}

abbrev pub is_of_words : BenchFault → Bool
is_of_words Words = true
is_of_words WordCount = true
is_of_words Serving = true
is_of_words Workers = true
is_of_words Events = true
is_of_words Burst = true
is_of_words Write = false
is_of_words Memory = false
is_of_words Device = false
is_of_words Clock = false
is_of_words Stuck = false
is_of_words Document = false
is_of_words NoSeat = false
is_of_words Strayed = false
