-- The numbers that C gets: those of errno, negative, and one of the library's own.
use Rattle.std.specs.Prelude.{ℤ, negsuc}

-- -12 ENOMEM
abbrev pub no_memory : ℤ
no_memory = negsuc 11

-- -16 EBUSY: a part is missing, or is there already
abbrev pub busy : ℤ
busy = negsuc 15

-- -19 ENODEV: it doesn't run, or the handle is empty
abbrev pub no_device : ℤ
no_device = negsuc 18

-- -22 EINVAL: the array is too short, or nothing is meant by the number
abbrev pub invalid : ℤ
invalid = negsuc 21

-- -105 ENOBUFS: a ring has no room
abbrev pub no_room : ℤ
no_room = negsuc 104

-- the device couldn't be shared out to its ports
abbrev pub not_shared : ℤ
not_shared = negsuc 1014
