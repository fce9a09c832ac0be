-- The word holds each field at a place of its own, so no two events have one word.
use Rattle.std.proofs.Common.{◌≡◌, ◌<◌, ℕ, ◌+◌, ◌-◌, ◌*◌, ◌/◌, ◌%◌, ◌^◌, refl, sym, ap, ◌∙◌, arith}
use Rattle.evt_types.specs.declared.event.Event.{Event}
use Rattle.evt_types.specs.declared.event.Kind.{Kind}
use Rattle.evt_types.specs.declared.event.Kind.TheVariants.{Ordered, Atomic, Parallel}
use Rattle.evt_types.specs.declared.event.Op.{Op}
use Rattle.evt_types.specs.declared.event.Op.TheVariants.{New, Forward, Release, ForwardMore}
use Rattle.evt_types.specs.Packed.{event_in, inside, op_at, spare, words_back}
use Rattle.evt_types.specs.declared.packed.PackedEvent.TheInside.{Inside}
use Rattle.evt_types.specs.Word.{Fits, op_code, kind_code, word_of}
use Rattle.evt_types.proofs.Events.{SameFields, same_event}

op_code_small : (o : Op) → op_code o < 4
op_code_small New = omega arith
op_code_small Forward = omega arith
op_code_small Release = omega arith
op_code_small ForwardMore = omega arith

kind_code_small : (k : Kind) → kind_code k < 3
kind_code_small Ordered = omega arith
kind_code_small Atomic = omega arith
kind_code_small Parallel = omega arith

same_op : (a b : Op) → op_code a ≡ op_code b → a ≡ b
same_op New New e = refl
same_op New Forward e = absurd (omega arith)
same_op New Release e = absurd (omega arith)
same_op New ForwardMore e = absurd (omega arith)
same_op Forward New e = absurd (omega arith)
same_op Forward Forward e = refl
same_op Forward Release e = absurd (omega arith)
same_op Forward ForwardMore e = absurd (omega arith)
same_op Release New e = absurd (omega arith)
same_op Release Forward e = absurd (omega arith)
same_op Release Release e = refl
same_op Release ForwardMore e = absurd (omega arith)
same_op ForwardMore New e = absurd (omega arith)
same_op ForwardMore Forward e = absurd (omega arith)
same_op ForwardMore Release e = absurd (omega arith)
same_op ForwardMore ForwardMore e = refl

op_again : (o : Op) → op_at (op_code o) ≡ o
op_again New = refl
op_again Forward = refl
op_again Release = refl
op_again ForwardMore = refl

same_kind : (a b : Kind) → kind_code a ≡ kind_code b → a ≡ b
same_kind Ordered Ordered e = refl
same_kind Ordered Atomic e = absurd (omega arith)
same_kind Ordered Parallel e = absurd (omega arith)
same_kind Atomic Ordered e = absurd (omega arith)
same_kind Atomic Atomic e = refl
same_kind Atomic Parallel e = absurd (omega arith)
same_kind Parallel Ordered e = absurd (omega arith)
same_kind Parallel Atomic e = absurd (omega arith)
same_kind Parallel Parallel e = refl

-- the number of these digits, the lowest first
abbrev digits : ℕ → ℕ → ℕ → ℕ → ℕ → ℕ → ℕ → ℕ → ℕ
digits f s t o k q r i = f + 2 ^ 20 * (s + 2 ^ 8 * (t + 2 ^ 4 * (o + 2 ^ 2 * (2 ^ 4 * (k + 2 ^ 2 * (q + 2 ^ 8 * (r + 2 ^ 8 * i)))))))

-- each digit, from the number
digits_back :
    (w f s t o k q r i : ℕ) → f < 2 ^ 20 → s < 2 ^ 8 → t < 2 ^ 4 → o < 4 → k < 3 → q < 2 ^ 8 → r < 2 ^ 8 → i < 2 ^ 8 → w ≡ digits f s t o k q r i
    → (w / 2 ^ 0 % 2 ^ 20 ≡ f) × (w / 2 ^ 20 % 2 ^ 8 ≡ s) × (w / 2 ^ 28 % 2 ^ 4 ≡ t) × (w / 2 ^ 32 % 2 ^ 2 ≡ o)
    × (w / 2 ^ 38 % 2 ^ 2 ≡ k) × (w / 2 ^ 40 % 2 ^ 8 ≡ q) × (w / 2 ^ 48 % 2 ^ 8 ≡ r) × (w / 2 ^ 56 % 2 ^ 8 ≡ i)
digits_back w f s t o k q r i hf hs ht ho hk hq hr hi e =
    (omega arith, omega arith, omega arith, omega arith, omega arith, omega arith, omega arith, omega arith)

-- the same beside spare bits
digits_beside :
    (w f s t o x q r i : ℕ) → f < 2 ^ 20 → s < 2 ^ 8 → t < 2 ^ 4 → o < 4 → x < 64 → q < 2 ^ 8 → r < 2 ^ 8 → i < 2 ^ 8 → w ≡ digits f s t o 0 q r i + 2 ^ 34 * x
    → (w % 2 ^ 20 ≡ f) × (w / 2 ^ 20 % 2 ^ 8 ≡ s) × (w / 2 ^ 28 % 2 ^ 4 ≡ t) × (w / 2 ^ 32 % 2 ^ 2 ≡ o)
    × (w / 2 ^ 34 % 2 ^ 6 ≡ x) × (w / 2 ^ 40 % 2 ^ 8 ≡ q) × (w / 2 ^ 48 % 2 ^ 8 ≡ r) × (w / 2 ^ 56 % 2 ^ 8 ≡ i)
digits_beside w f s t o x q r i hf hs ht ho hx hq hr hi e =
    (omega arith, omega arith, omega arith, omega arith, omega arith, omega arith, omega arith, omega arith)

-- the event d and the kind j are read from the word's bits
pub record IsRead (w : ℕ) (d : Event) (j : Kind) : Type 0 where
  pub flow : d.flow ≡ w / 2 ^ 0 % 2 ^ 20
  pub sub_type : d.sub_type ≡ w / 2 ^ 20 % 2 ^ 8
  pub event_type : d.event_type ≡ w / 2 ^ 28 % 2 ^ 4
  pub op : w / 2 ^ 32 % 2 ^ 2 ≡ op_code d.op
  pub kind : w / 2 ^ 38 % 2 ^ 2 ≡ kind_code j
  pub queue : d.queue ≡ w / 2 ^ 40 % 2 ^ 8
  pub priority : d.priority ≡ w / 2 ^ 48 % 2 ^ 8
  pub impl_opaque : d.impl_opaque ≡ w / 2 ^ 56 % 2 ^ 8

-- no bit of such a number is spare, and it has no more than 64
digits_plain :
    (w f s t o q r i : ℕ) → f < 2 ^ 20 → s < 2 ^ 8 → t < 2 ^ 4 → o < 4 → q < 2 ^ 8 → r < 2 ^ 8 → i < 2 ^ 8 → w ≡ digits f s t o 0 q r i
    → (w < 2 ^ 64) × (w / 2 ^ 34 % 2 ^ 6 ≡ 0)
digits_plain w f s t o q r i hf hs ht ho hq hr hi e = (omega arith, omega arith)

-- the word of an event without a scheduling type is a packed event's
pub plain_word : (w : ℕ) (e : Event) → Fits e → w ≡ word_of e Ordered → (w < 2 ^ 64) × (w / 2 ^ 34 % 2 ^ 6 ≡ 0)
plain_word w e fits is =
    digits_plain w e.flow e.sub_type e.event_type (op_code e.op) e.queue e.priority e.impl_opaque e.flow_fits fits.sub_type e.event_type_fits
    (op_code_small e.op) fits.queue fits.priority fits.impl_opaque is

abbrev beside : Event → Kind → Event × Kind
beside e k = (e, k)

-- what is read from a word of e is e
pub read_back :
    (w : ℕ) (d e : Event) (j k : Kind) → IsRead w d j → Fits e → w ≡ word_of e k → d.payload ≡ e.payload → beside d j ≡ beside e k
read_back w d e j k read fits is paid =
    let back = digits_back w e.flow e.sub_type e.event_type (op_code e.op) (kind_code k) e.queue e.priority e.impl_opaque
    e.flow_fits fits.sub_type e.event_type_fits (op_code_small e.op) (kind_code_small k) fits.queue fits.priority fits.impl_opaque is in
    let same : SameFields d e = record {
      flow = read.flow ∙ back.0;
      sub_type = read.sub_type ∙ back.1;
      event_type = read.event_type ∙ back.2;
      op = same_op d.op e.op (sym read.op ∙ back.3);
      queue = read.queue ∙ back.5;
      priority = read.priority ∙ back.6;
      impl_opaque = read.impl_opaque ∙ back.7;
      payload = paid;
    } in
    let kinds : j ≡ k = same_kind j k (sym read.kind ∙ back.4) in
    ap (λ (x : Event). beside x j) (same_event d e same) ∙ ap (λ (x : Kind). beside e x) kinds

-- what is packed is read back, whatever its spare bits are
pub packed_back : (w x : ℕ) (e : Event) → Fits e → x < 64 → w ≡ word_of e Ordered + 2 ^ 34 * x → (event_in (inside w e.payload) ≡ e) × (spare w ≡ x)
packed_back w x e fits few is =
    let back = digits_beside w e.flow e.sub_type e.event_type (op_code e.op) x e.queue e.priority e.impl_opaque e.flow_fits fits.sub_type e.event_type_fits
    (op_code_small e.op) few fits.queue fits.priority fits.impl_opaque is in (
      same_event (event_in (inside w e.payload)) e (record {
        flow = back.0;
        sub_type = back.1;
        event_type = back.2;
        op = ap op_at back.3 ∙ op_again e.op;
        queue = back.5;
        priority = back.6;
        impl_opaque = back.7;
        payload = refl;
      }),
      back.4,
    )

-- a word is its event's and its spare bits
pub word_parted :
    (w v p : ℕ) → v < 2 ^ 64 → spare v ≡ 0 → w ≡ v + 2 ^ 34 * spare w → w ≡ word_of (event_in (inside v p)) Ordered + 2 ^ 34 * spare w
word_parted w v p fits plain parted =
    let back : word_of (event_in (inside v p)) Ordered ≡ v = ap (λ (a : Inside). a.word) (words_back (inside v p) fits plain) in
    parted ∙ ap (λ x. x + 2 ^ 34 * spare w) (sym back)

-- the low half of a word is its flow and its types
pub low_half : (w : ℕ) → w / 2 ^ 0 % 2 ^ 32 ≡ w % 2 ^ 20 + 2 ^ 20 * (w / 2 ^ 20 % 2 ^ 8 + 2 ^ 8 * (w / 2 ^ 28 % 2 ^ 4))
low_half w = omega arith

-- the bits of another operation
op_bits :
    (w v : ℕ) → v ≡ w - 2 ^ 32 * (w / 2 ^ 32 % 2 ^ 2) + 2 ^ 32
    → (v % 2 ^ 20 ≡ w % 2 ^ 20) × (v / 2 ^ 20 % 2 ^ 8 ≡ w / 2 ^ 20 % 2 ^ 8) × (v / 2 ^ 28 % 2 ^ 4 ≡ w / 2 ^ 28 % 2 ^ 4) × (v / 2 ^ 32 % 2 ^ 2 ≡ 1)
    × (v / 2 ^ 40 % 2 ^ 8 ≡ w / 2 ^ 40 % 2 ^ 8) × (v / 2 ^ 48 % 2 ^ 8 ≡ w / 2 ^ 48 % 2 ^ 8) × (v / 2 ^ 56 % 2 ^ 8 ≡ w / 2 ^ 56 % 2 ^ 8)
op_bits w v e = (omega arith, omega arith, omega arith, omega arith, omega arith, omega arith, omega arith)

-- an event of which the operation is another
pub as_forward : (w v p : ℕ) → v ≡ w - 2 ^ 32 * (w / 2 ^ 32 % 2 ^ 2) + 2 ^ 32 → event_in (inside v p) ≡ record (event_in (inside w p)) { op = Forward }
as_forward w v p e =
    let bits = op_bits w v e in
    same_event (event_in (inside v p)) (record (event_in (inside w p)) { op = Forward }) (record {
      flow = bits.0;
      sub_type = bits.1;
      event_type = bits.2;
      op = ap op_at bits.3;
      queue = bits.4;
      priority = bits.5;
      impl_opaque = bits.6;
      payload = refl;
    })
