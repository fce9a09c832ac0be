-- The numbers of documents, as docs/FORMATS.md has them (own, but for the flows: DPDK's `rte_event`, whose flow has 20 bits).
use Rattle.std.specs.Prelude.{ℕ}

-- the most bytes of a document
abbrev pub most_input : ℕ
most_input = 1048576

-- the highest number of a queue, and the lowest priority
abbrev pub most_byte : ℕ
most_byte = 255

-- the priority of a queue that names none
abbrev pub normal_priority : ℕ
normal_priority = 128

-- how many flows there are
abbrev pub flows : ℕ
flows = 1048576

-- the most events that a dequeue of a script may ask for
abbrev pub most_dequeue : ℕ
most_dequeue = 64

-- the fewest and the most workers of a run
abbrev pub fewest_workers : ℕ
fewest_workers = 1

abbrev pub most_workers : ℕ
most_workers = 8
