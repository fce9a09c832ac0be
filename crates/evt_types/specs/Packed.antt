-- An event in 16 bytes: its word, in which the bits of the scheduling type and the reserved ones are 0, and its payload (rte_eventdev,
-- struct rte_event).
use Rattle.std.specs.Prelude.{◌≡◌, ℕ, ◌+◌, ◌*◌, ◌/◌, ◌%◌, ◌^◌, ◌<◌, refl}
use Rattle.std.proofs.Common.{zero, suc, lit<, ap, arith}
use Rattle.evt_types.specs.Word.{op_code, word_of}
use Rattle.evt_types.specs.declared.event.Kind.TheVariants.{Ordered}
use Rattle.std.proofs.lemmas.Nat.{mod_below}
use Rattle.evt_types.specs.declared.event.Event.{Event}
use Rattle.evt_types.specs.declared.event.Op.{Op}
use Rattle.evt_types.specs.declared.event.Op.TheVariants.{New, Forward, Release, ForwardMore}
use Rattle.evt_types.specs.declared.packed.PackedEvent.TheInside.{Inside}

-- the operation of a code
abbrev pub op_at : ℕ → Op
op_at zero = New
op_at (suc zero) = Forward
op_at (suc (suc zero)) = Release
op_at (suc (suc (suc n))) = ForwardMore

-- the event of a word and a payload
abbrev pub event_in : Inside → Event
event_in a = record {
  flow = a.word % 2 ^ 20;
  sub_type = a.word / 2 ^ 20 % 2 ^ 8;
  event_type = a.word / 2 ^ 28 % 2 ^ 4;
  op = op_at (a.word / 2 ^ 32 % 2 ^ 2);
  queue = a.word / 2 ^ 40 % 2 ^ 8;
  priority = a.word / 2 ^ 48 % 2 ^ 8;
  impl_opaque = a.word / 2 ^ 56 % 2 ^ 8;
  payload = a.payload;
  flow_fits = mod_below a.word (2 ^ 20) (lit< tt);
  event_type_fits = mod_below (a.word / 2 ^ 28) (2 ^ 4) (lit< tt);
}

-- these words, as the fields of a packed event
abbrev pub inside : ℕ → ℕ → Inside
inside w p = record { word = w; payload = p }

-- the fields of an event when it is packed
abbrev pub inside_of : Event → Inside
inside_of e = inside (word_of e Ordered) e.payload

-- the bits of a word that are no event's own: the scheduling type and the reserved ones
abbrev pub spare : ℕ → ℕ
spare w = w / 2 ^ 34 % 2 ^ 6

without_spare : (w v s : ℕ) → v + 2 ^ 34 * s ≡ w → s ≡ 0 → v ≡ w
without_spare w v s h e = omega arith

-- the code of the operation of a code
op_back : (n : ℕ) → n < 4 → op_code (op_at n) ≡ n
op_back zero h = refl
op_back (suc zero) h = refl
op_back (suc (suc zero)) h = refl
op_back (suc (suc (suc zero))) h = refl
op_back (suc (suc (suc (suc n)))) h = absurd (omega arith)

word_back :
    (w o : ℕ) → w < 2 ^ 64 → o ≡ w / 2 ^ 32 % 2 ^ 2
    → w % 2 ^ 20 + 2 ^ 20 * (w / 2 ^ 20 % 2 ^ 8 + 2 ^ 8 * (w / 2 ^ 28 % 2 ^ 4 + 2 ^ 4 * (o + 2 ^ 2 * (2 ^ 4 * (0 + 2 ^ 2 * (w / 2 ^ 40 % 2 ^ 8 + 2 ^ 8 * (w / 2 ^ 48 % 2 ^ 8 + 2 ^ 8 * (w / 2 ^ 56 % 2 ^ 8)))))))) + 2 ^ 34 * spare w ≡ w
word_back w o h e = omega arith

-- a word is that of its event and its spare bits
pub word_whole : (w p : ℕ) → w < 2 ^ 64 → word_of (event_in (inside w p)) Ordered + 2 ^ 34 * spare w ≡ w
word_whole w p h = word_back w (op_code (op_at (w / 2 ^ 32 % 2 ^ 2))) h (op_back (w / 2 ^ 32 % 2 ^ 2) (mod_below (w / 2 ^ 32) 4 (lit< tt)))

-- a word without spare bits is that of its event
pub words_back : (a : Inside) → a.word < 2 ^ 64 → spare a.word ≡ 0 → inside_of (event_in a) ≡ a
words_back a h s = ap (λ (w : ℕ). inside w a.payload) (without_spare a.word (word_of (event_in a) Ordered) (spare a.word) (word_whole a.word a.payload h) s)
