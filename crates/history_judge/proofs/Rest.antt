-- Where no event was got more often than it was sent, what is left over is the rest: what was sent but for what was got.
use Rattle.std.specs.Prelude.{ℕ, ◌≡◌, ◌+◌, ◌-◌, ◌^◌, ◌<◌, ◌≤◌, Bool, true, false, not, cond, ◌&&◌, List, [], ◌==◌, length, nat_le, nat_lt, count_by, take, Option, Some, None, slice_get, if◌then◌else◌, ◌⊎◌}
use Rattle.std.specs.List.{cons_option}
use Rattle.std.proofs.Common.{zero, suc, refl, sym, ap, ◌∙◌, arith, subst, inl, inr, ⊎_elim, add-one}
use Rattle.std.proofs.lemmas.Bool.{and_from, and_left, and_parts, and_right, cases_Bool, cases_lt, cond-false, cond-true, false≢true, leb-false, leb-true, ltb-false, ltb-true}
use Rattle.std.proofs.lemmas.List.{take_all}
use Rattle.evt_types.specs.Operation.{is_release_reply}
use Rattle.evt_types.specs.declared.event.Event.{Event}
use Rattle.evt_types.specs.declared.event.Op.TheVariants as ops
use Rattle.lists.proofs.Lists.{and-true, eqb_is, eqb_same, slice_get-some, with_past-push}
use Rattle.lists.proofs.Parts.{count_by-append, count_by-cons, take_next}
use Rattle.lists.specs.Lists.{with_past}
use Rattle.history_judge.proofs.ByKeys.{count_agree, count_by_keys, count_none}
use Rattle.history_judge.proofs.Fits.{count_more}
use Rattle.history_judge.proofs.LeftOver.{over_more}
use Rattle.history_judge.proofs.Numbers.{same_fields}
use Rattle.history_judge.specs.Histories.{IsSameBut, gets}
use Rattle.history_judge.specs.Left.{value_of}
use Rattle.history_judge.specs.Undecided.{events_got, events_sent, is_over, left_over, passes, sends_such, undelivered}
use Rattle.history_judge.specs.Values.{IsExcess, gets_value, is_same_but, sends_value, times_got, times_sent}
use Rattle.history_judge.specs.declared.seen.Deed.{Deed}
use Rattle.history_judge.specs.declared.seen.Deed.TheVariants.{Sent, Got}
use Rattle.history_judge.specs.declared.seen.Seen.{Seen}
use Rattle.history_judge.specs.declared.values.Value.{Value}

-- ---- events of one value

alike_first : (e f g : Event) → IsSameBut e f → is_same_but e g ≡ is_same_but f g
alike_first e f g same =
    λ i. (same.flow i == g.flow) && ((same.sub_type i == g.sub_type) && ((same.event_type i == g.event_type) && ((same.queue i == g.queue) && ((same.priority i == g.priority) && (same.payload i == g.payload)))))

alike_sent : (hs : List Seen) (e f : Event) → IsSameBut e f → times_sent hs e ≡ times_sent hs f
alike_sent hs e f same = count_agree (λ (s : Seen). sends_value e s.deed) (λ (s : Seen). sends_value f s.deed) hs (λ (s : Seen). by_deed s.deed)
  where
    by_deed : (d : Deed) → sends_value e d ≡ sends_value f d
    by_deed (Sent r) = ap (λ b. not (is_release_reply r) && b) (alike_first e f r.event same)
    by_deed (Got g) = refl

alike_got : (hs : List Seen) (i : ℕ) (e f : Event) → IsSameBut e f → times_got hs e i ≡ times_got hs f i
alike_got hs i e f same = count_agree (λ (s : Seen). gets_value e s.deed) (λ (s : Seen). gets_value f s.deed) (take i hs) (λ (s : Seen). by_deed s.deed)
  where
    by_deed : (d : Deed) → gets_value e d ≡ gets_value f d
    by_deed (Sent r) = refl
    by_deed (Got g) = alike_first e f g same

-- of no value more were got than sent
enough : (hs : List Seen) (e : Event) → ((i : ℕ) → ¬ IsExcess hs i) → (i : ℕ) → i ≤ length hs → times_got hs e i ≤ times_sent hs e
enough hs e few zero within = omega arith
enough hs e few (suc i) within =
    let entry = slice_get-some hs i (omega (arith, within)) in
    subst (λ m. times_got hs e m ≤ times_sent hs e) (add-one i) (one_more entry.0 entry.1 (enough hs e few i (omega (arith, within))))
  where
    one_more : (s : Seen) → slice_get hs i ≡ Some s → times_got hs e i ≤ times_sent hs e → times_got hs e (i + 1) ≤ times_sent hs e
    one_more s at before = by_deed s.deed refl
      where
        more : times_got hs e (i + 1) ≡ times_got hs e i + cond (gets_value e s.deed) 1 0
        more = count_more (λ (u : Seen). gets_value e u.deed) hs i s at

        by_value : (f : Event) → s.deed ≡ Got f → (is_same_but e f ≡ true) ⊎ (is_same_but e f ≡ false) → times_got hs e (i + 1) ≤ times_sent hs e
        by_value f deed (inr other) =
            omega (arith, before, more, cond-false {A = ℕ} (gets_value e s.deed) 1 0 (ap (gets_value e) deed ∙ other))
        by_value f deed (inl same) =
            let fields = same_fields e f same in
            ⊎_elim
            (λ excess. absurd (few i (record {
              seen = s;
              entry = at;
              event = f;
              got = deed;
              more = omega (arith, excess, alike_sent hs e f fields, alike_got hs (i + 1) e f fields);
            })))
            (λ le. le) (cases_lt (times_sent hs e) (times_got hs e (i + 1)))

        by_deed : (d : Deed) → s.deed ≡ d → times_got hs e (i + 1) ≤ times_sent hs e
        by_deed (Sent r) deed = omega (arith, before, more, cond-false {A = ℕ} (gets_value e s.deed) 1 0 (ap (gets_value e) deed))
        by_deed (Got f) deed = by_value f deed (cases_Bool (is_same_but e f))

-- ---- what isn't left over

-- whether an event was enqueued
abbrev sends_any : Seen → Bool
sends_any s = sends_such (λ e. true) s.deed

abbrev is_met : List Seen → List Seen → Event → Bool
is_met hs past e = nat_lt (times_sent past e) (times_got hs e (length hs))

abbrev met : List Seen → List Seen → Seen → Option Seen
met hs past s = if sends_such (is_met hs past) s.deed then Some s else None

abbrev all_met : List Seen → List Seen → List Seen
all_met hs seen = with_past (met hs) [] seen

one_met : (q : Seen → Bool) (b : Bool) (s : Seen) → count_by q (cons_option (if b then Some s else None) []) ≡ cond (b && q s) 1 0
one_met q true s = omega (arith, count_by-cons q s [])
one_met q false s = refl

met_more : (q : Seen → Bool) (hs : List Seen) (i : ℕ) (s : Seen) → slice_get hs i ≡ Some s
    → count_by q (all_met hs (take (i + 1) hs)) ≡ count_by q (all_met hs (take i hs)) + cond (sends_such (is_met hs (take i hs)) s.deed && q s) 1 0
met_more q hs i s at =
    omega (
      arith,
      ap (λ xs. count_by q (all_met hs xs)) (take_next hs i s at),
      ap (count_by q) (with_past-push (met hs) [] (take i hs) s),
      count_by-append q (all_met hs (take i hs)) (cons_option (met hs (take i hs) s) []),
      one_met q (sends_such (is_met hs (take i hs)) s.deed) s,
    )

one_of : (g b : ℕ) → cond {A = ℕ} (nat_le g b) 1 0 + cond {A = ℕ} (nat_lt b g && true) 1 0 ≡ 1
one_of g b = by_cases (cases_Bool (nat_le g b)) (cases_Bool (nat_lt b g))
  where
    by_cases : (nat_le g b ≡ true) ⊎ (nat_le g b ≡ false) → (nat_lt b g ≡ true) ⊎ (nat_lt b g ≡ false) → cond {A = ℕ} (nat_le g b) 1 0 + cond {A = ℕ} (nat_lt b g && true) 1 0 ≡ 1
    by_cases (inl le) (inl lt) = absurd (omega (arith, leb-true g b le, ltb-true b g lt))
    by_cases (inl le) (inr ge) =
        omega (arith, cond-true {A = ℕ} (nat_le g b) 1 0 le, ap (λ t. cond {A = ℕ} (t && true) 1 0) ge)
    by_cases (inr gt) (inl lt) =
        omega (arith, cond-false {A = ℕ} (nat_le g b) 1 0 gt, ap (λ t. cond {A = ℕ} (t && true) 1 0) lt)
    by_cases (inr gt) (inr ge) = absurd (omega (arith, leb-false g b gt, ltb-false b g ge))

-- an event that was enqueued is left over or met
split_one : (hs past : List Seen) (d : Deed)
    → cond {A = ℕ} (sends_such (is_over hs past) d) 1 0 + cond {A = ℕ} (sends_such (is_met hs past) d && sends_such (λ e. true) d) 1 0 ≡ cond {A = ℕ} (sends_such (λ e. true) d) 1 0
split_one hs past (Got f) = refl
split_one hs past (Sent r) = by_op (is_release_reply r)
  where
    by_op : (b : Bool) → cond {A = ℕ} (passes (is_over hs past) (if b then None else Some r.event)) 1 0
        + cond {A = ℕ} (passes (is_met hs past) (if b then None else Some r.event) && passes (λ e. true) (if b then None else Some r.event)) 1 0
        ≡ cond {A = ℕ} (passes (λ e. true) (if b then None else Some r.event)) 1 0
    by_op true = refl
    by_op false = one_of (times_got hs r.event (length hs)) (times_sent past r.event)

split : (hs : List Seen) (i : ℕ) → i ≤ length hs → length (left_over hs (take i hs)) + count_by sends_any (all_met hs (take i hs)) ≡ count_by sends_any (take i hs)
split hs zero within = refl
split hs (suc i) within =
    let entry = slice_get-some hs i (omega (arith, within)) in
    subst (λ m. length (left_over hs (take m hs)) + count_by sends_any (all_met hs (take m hs)) ≡ count_by sends_any (take m hs)) (add-one i)
    (omega (
      arith,
      split hs i (omega (arith, within)),
      over_more hs i entry.0 entry.1,
      met_more sends_any hs i entry.0 entry.1,
      count_more sends_any hs i entry.0 entry.1,
      split_one hs (take i hs) (entry.0).deed,
    ))

-- ---- value by value

abbrev key_of : Deed → Value
key_of (Sent r) = value_of r.event
key_of (Got e) = value_of e

abbrev key : Seen → Value
key s = key_of s.deed

abbrev is_value : Value → Value → Bool
is_value x y =
    (y.flow == x.flow) && ((y.sub_type == x.sub_type) && ((y.event_type == x.event_type) && ((y.queue == x.queue) && ((y.priority == x.priority) && (y.payload == x.payload)))))

is_value_is : (x y : Value) → is_value x y ≡ true → x ≡ y
is_value_is x y is =
    let a = and_parts (y.flow == x.flow) _ is in
    let b = and_parts (y.sub_type == x.sub_type) _ a.1 in
    let c = and_parts (y.event_type == x.event_type) _ b.1 in
    let d = and_parts (y.queue == x.queue) _ c.1 in
    let e = and_parts (y.priority == x.priority) (y.payload == x.payload) d.1 in
    sym (λ i. record { flow = eqb_is y.flow x.flow a.0 i; sub_type = eqb_is y.sub_type x.sub_type b.0 i; event_type = eqb_is y.event_type x.event_type c.0 i; queue = eqb_is y.queue x.queue d.0 i; priority = eqb_is y.priority x.priority e.0 i; payload = eqb_is y.payload x.payload e.1 i })

is_value_self : (x : Value) → is_value x x ≡ true
is_value_self x =
    and_from (x.flow == x.flow) _ (eqb_same x.flow) (and_from (x.sub_type == x.sub_type) _ (eqb_same x.sub_type)
    (and_from (x.event_type == x.event_type) _ (eqb_same x.event_type) (and_from (x.queue == x.queue) _ (eqb_same x.queue)
    (and_from (x.priority == x.priority) _ (eqb_same x.priority) (eqb_same x.payload)))))

abbrev sends_key : Value → Seen → Bool
sends_key k s = is_value (key s) k && sends_any s

sends_as : (e : Event) (d : Deed) → (is_value (key_of d) (value_of e) && sends_such (λ f. true) d) ≡ sends_value e d
sends_as e (Got f) = and_right (is_value (value_of f) (value_of e)) false refl
sends_as e (Sent r) = by_op (is_release_reply r)
  where
    by_op : (b : Bool) → (is_same_but e r.event && passes (λ f. true) (if b then None else Some r.event)) ≡ (not b && is_same_but e r.event)
    by_op true = and_right (is_same_but e r.event) false refl
    by_op false = and-true (is_same_but e r.event)

gets_as : (e : Event) (d : Deed) → (is_value (key_of d) (value_of e) && gets d) ≡ gets_value e d
gets_as e (Sent r) = and_right (is_value (value_of r.event) (value_of e)) false refl
gets_as e (Got f) = and-true (is_same_but e f)

-- whether it is met depends on its value
met_as : (hs past : List Seen) (e : Event) (d : Deed) → sends_value e d ≡ true → sends_such (is_met hs past) d ≡ is_met hs past e
met_as hs past e (Got f) is = absurd (false≢true is)
met_as hs past e (Sent r) is = by_op (is_release_reply r) parts.0
  where
    parts : (not (is_release_reply r) ≡ true) × (is_same_but e r.event ≡ true)
    parts = and_parts (not (is_release_reply r)) (is_same_but e r.event) is

    by_op : (b : Bool) → not b ≡ true → passes (is_met hs past) (if b then None else Some r.event) ≡ is_met hs past e
    by_op true none = absurd (false≢true none)
    by_op false some =
        let fields = same_fields e r.event parts.1 in
        ap (λ n. nat_lt n (times_got hs r.event (length hs))) (sym (alike_sent past e r.event fields))
        ∙ ap (nat_lt (times_sent past e)) (sym (alike_got hs (length hs) e r.event fields))

-- of a value as many are met as were sent, and no more than were got
met_of : (hs : List Seen) (e : Event) (i : ℕ) → i ≤ length hs
    → count_by (sends_key (value_of e)) (all_met hs (take i hs)) ≡ times_sent (take i hs) e - (times_sent (take i hs) e - times_got hs e (length hs))
met_of hs e zero within = omega arith
met_of hs e (suc i) within =
    let entry = slice_get-some hs i (omega (arith, within)) in
    subst (λ m. count_by (sends_key (value_of e)) (all_met hs (take m hs)) ≡ times_sent (take m hs) e - (times_sent (take m hs) e - times_got hs e (length hs))) (add-one i)
    (one_more entry.0 entry.1 (met_of hs e i (omega (arith, within))))
  where
    one_more : (s : Seen) → slice_get hs i ≡ Some s
        → count_by (sends_key (value_of e)) (all_met hs (take i hs)) ≡ times_sent (take i hs) e - (times_sent (take i hs) e - times_got hs e (length hs))
        → count_by (sends_key (value_of e)) (all_met hs (take (i + 1) hs)) ≡ times_sent (take (i + 1) hs) e - (times_sent (take (i + 1) hs) e - times_got hs e (length hs))
    one_more s at so_far = by_value (cases_Bool (sends_key (value_of e) s))
      where
        past : List Seen
        past = take i hs

        counted : count_by (sends_key (value_of e)) (all_met hs (take (i + 1) hs)) ≡ count_by (sends_key (value_of e)) (all_met hs past) + cond (sends_such (is_met hs past) s.deed && sends_key (value_of e) s) 1 0
        counted = met_more (sends_key (value_of e)) hs i s at

        sent : times_sent (take (i + 1) hs) e ≡ times_sent past e + cond (sends_value e s.deed) 1 0
        sent = count_more (λ (u : Seen). sends_value e u.deed) hs i s at

        by_met : sends_key (value_of e) s ≡ true → (is_met hs past e ≡ true) ⊎ (is_met hs past e ≡ false)
            → count_by (sends_key (value_of e)) (all_met hs (take (i + 1) hs)) ≡ times_sent (take (i + 1) hs) e - (times_sent (take (i + 1) hs) e - times_got hs e (length hs))
        by_met is (inl lt) =
            omega (
              arith,
              so_far,
              counted,
              sent,
              cond-true {A = ℕ} (sends_value e s.deed) 1 0 (sym (sends_as e s.deed) ∙ is),
              cond-true {A = ℕ} (sends_such (is_met hs past) s.deed && sends_key (value_of e) s) 1 0
                  (and_from (sends_such (is_met hs past) s.deed) (sends_key (value_of e) s) (met_as hs past e s.deed (sym (sends_as e s.deed) ∙ is) ∙ lt) is),
              ltb-true (times_sent past e) (times_got hs e (length hs)) lt,
            )
        by_met is (inr ge) =
            omega (
              arith,
              so_far,
              counted,
              sent,
              cond-true {A = ℕ} (sends_value e s.deed) 1 0 (sym (sends_as e s.deed) ∙ is),
              cond-false {A = ℕ} (sends_such (is_met hs past) s.deed && sends_key (value_of e) s) 1 0
                  (and_left (sends_such (is_met hs past) s.deed) (sends_key (value_of e) s) (met_as hs past e s.deed (sym (sends_as e s.deed) ∙ is) ∙ ge)),
              ltb-false (times_sent past e) (times_got hs e (length hs)) ge,
            )

        by_value : (sends_key (value_of e) s ≡ true) ⊎ (sends_key (value_of e) s ≡ false)
            → count_by (sends_key (value_of e)) (all_met hs (take (i + 1) hs)) ≡ times_sent (take (i + 1) hs) e - (times_sent (take (i + 1) hs) e - times_got hs e (length hs))
        by_value (inl is) = by_met is (cases_Bool (is_met hs past e))
        by_value (inr other) =
            omega (
              arith,
              so_far,
              counted,
              sent,
              cond-false {A = ℕ} (sends_value e s.deed) 1 0 (sym (sends_as e s.deed) ∙ other),
              cond-false {A = ℕ} (sends_such (is_met hs past) s.deed && sends_key (value_of e) s) 1 0 (and_right (sends_such (is_met hs past) s.deed) (sends_key (value_of e) s) other),
            )

-- ---- in all

met_are_got : (hs : List Seen) (e : Event) → ((i : ℕ) → ¬ IsExcess hs i)
    → count_by (sends_key (value_of e)) (all_met hs hs) ≡ count_by (λ (s : Seen). is_value (key s) (value_of e) && gets s.deed) hs
met_are_got hs e few =
    omega (
      arith,
      ap (λ xs. count_by (sends_key (value_of e)) (all_met hs xs)) whole,
      met_of hs e (length hs) (omega arith),
      ap (λ xs. times_sent xs e) whole,
      enough hs e few (length hs) (omega arith),
      ap (count_by (λ (s : Seen). gets_value e s.deed)) whole,
      count_agree (λ (s : Seen). is_value (key s) (value_of e) && gets s.deed) (λ (s : Seen). gets_value e s.deed) hs (λ (s : Seen). gets_as e s.deed),
    )
  where
    whole : take (length hs) hs ≡ hs
    whole = take_all (length hs) hs (omega arith)

within_limits : (d : Deed) → ((key_of d).flow < 2 ^ 20) × ((key_of d).event_type < 16)
within_limits (Sent r) = ((r.event).flow_fits, (r.event).event_type_fits)
within_limits (Got e) = (e.flow_fits, e.event_type_fits)

-- also of a value that no event has
met_by_key : (hs : List Seen) (k : Value) → ((i : ℕ) → ¬ IsExcess hs i) → count_by (sends_key k) (all_met hs hs) ≡ count_by (λ (s : Seen). is_value (key s) k && gets s.deed) hs
met_by_key hs k few =
    ⊎_elim
    (λ flow. ⊎_elim (λ event_type. met_are_got hs (event_of flow event_type) few) (λ past. neither (λ s same. omega (arith, past, (within_limits s.deed).1, ap (λ (x : Value). x.event_type) same))) (cases_lt k.event_type 16))
    (λ past. neither (λ s same. omega (arith, past, (within_limits s.deed).0, ap (λ (x : Value). x.flow) same)))
    (cases_lt k.flow (2 ^ 20))
  where
    event_of : k.flow < 2 ^ 20 → k.event_type < 16 → Event
    event_of flow event_type =
        record {
          flow = k.flow;
          sub_type = k.sub_type;
          event_type = k.event_type;
          op = ops.New;
          queue = k.queue;
          priority = k.priority;
          impl_opaque = 0;
          payload = k.payload;
          flow_fits = flow;
          event_type_fits = event_type;
        }

    neither : ((s : Seen) → key s ≡ k → ⊥) → count_by (sends_key k) (all_met hs hs) ≡ count_by (λ (s : Seen). is_value (key s) k && gets s.deed) hs
    neither differs =
        omega (
          arith,
          count_none (sends_key k) (all_met hs hs) (λ s. and_left (is_value (key s) k) (sends_any s) (unlike s)),
          count_none (λ (s : Seen). is_value (key s) k && gets s.deed) hs (λ s. and_left (is_value (key s) k) (gets s.deed) (unlike s)),
        )
      where
        unlike : (s : Seen) → is_value (key s) k ≡ false
        unlike s = ⊎_elim (λ is. absurd (differs s (is_value_is (key s) k is))) (λ fails. fails) (cases_Bool (is_value (key s) k))

pub rest_is_left : (hs : List Seen) → ((i : ℕ) → ¬ IsExcess hs i) → undelivered hs + events_got hs ≡ events_sent hs
rest_is_left hs few =
    omega (
      arith,
      ap (λ xs. length (left_over hs xs)) whole,
      ap (λ xs. count_by sends_any (all_met hs xs)) whole,
      ap (count_by sends_any) whole,
      split hs (length hs) (omega arith),
      count_by_keys is_value is_value_is is_value_self key key sends_any (λ (s : Seen). gets s.deed) (all_met hs hs) hs (λ k. omega (arith, met_by_key hs k few)),
      count_by_keys is_value is_value_is is_value_self key key (λ (s : Seen). gets s.deed) sends_any hs (all_met hs hs) (λ k. omega (arith, met_by_key hs k few)),
    )
  where
    whole : take (length hs) hs ≡ hs
    whole = take_all (length hs) hs (omega arith)
