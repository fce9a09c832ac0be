-- What a view tells of its transcript: how many events were accepted or are kept, which replies may be taken, and what is kept.
use Rattle.std.proofs.Common.{◌≡◌, ℕ, ◌+◌, ◌<◌, ◌^◌, true, false, ◌&&◌, ◌||◌, nat_lt, List, [], ◌∷◌, ◌++◌, length, map, sum_by, flat_map, ◌⊎◌, inl, inr, refl, sym, ap, ◌∙◌}
use Rattle.std.proofs.lemmas.Bool.{cases_Bool}
use Rattle.std.proofs.lemmas.List.{map-append}
use Rattle.evt_types.specs.Plan.{Plan, queue_of, lanes_of, bound_of, is_ordered, queues}
use Rattle.evt_types.specs.declared.event.Event.{Event}
use Rattle.evt_types.specs.declared.event.Op.{Op}
use Rattle.evt_types.specs.declared.event.TheConstants.{MAX_EXTRAS}
use Rattle.evt_types.specs.declared.event.Op.TheVariants as ops
use Rattle.evt_types.specs.declared.step.Step.{Step}
use Rattle.transcripts.specs.Lawful.{Lawful}
use Rattle.transcripts.specs.Standing.{View, Stands, view_of, places, place_at, kept_in, inside_of, entries_of, extras_at, may_enter, may_answer, may_forward, may_add, may_take_by, may_take, may_enter_at, may_answer_at, may_forward_at, may_add_at, may_be_taken_by, may_be_taken, kept_in_place, kept_under, kept_at}
use Rattle.transcripts.specs.Transcript.{accepted, inside, entries, extras, kept, forwards, open_of, has_shut}
use Rattle.transcripts.proofs.AnsweredPlaces.{places_ordered, places_plain}
use Rattle.lists.proofs.Fronts.{tag, tagged}
use Rattle.transcripts.proofs.Overdue.{kept_plain, kept_is_open, settled_overdue}
use Rattle.lists.proofs.Sums.{sum_of_map}
use Rattle.transcripts.proofs.Whole.{Known-allowed, steps-Lawful}
use Rattle.transcripts.proofs.WholeStands.{facts_of, kept_of_view, inside_is, shut_is, places_is, unanswered_count, extras_count}

-- ---- how many

entries_of_view : (p : Plan) (T : List Step) → Lawful p T → entries_of (view_of p T) ≡ entries p T
unfolding view_of entries
entries_of_view p T lawful =
    ap (λ n. n + kept_in (view_of p T)) (sum_of_map (λ n. n) (λ q. length (accepted T q)) (queues p))
    ∙ ap (λ n. sum_by (λ q. length (accepted T q)) (queues p) + n) (kept_of_view p T lawful)

pub entries_is : (v : View) (T : List Step) → Stands T v → entries_of v ≡ entries v.shape T
entries_is v T stands = ap entries_of stands.holds ∙ entries_of_view v.shape T stands.lawful

-- ---- which replies may be taken

may_enter_is : (v : View) (T : List Step) (q : ℕ) → Stands T v → may_enter v q ≡ may_enter_at v.shape T q
may_enter_is v T q stands =
    ap (λ b. nat_lt q (length v.shape.queues) && (b || (nat_lt (inside_of v) (bound_of v.shape) && nat_lt (entries_of v) (2 ^ 63)))) (shut_is v T stands)
    ∙ (ap (λ n. nat_lt q (length v.shape.queues) && (has_shut T || (nat_lt n (bound_of v.shape) && nat_lt (entries_of v) (2 ^ 63)))) (inside_is v T stands)
    ∙ ap (λ n. nat_lt q (length v.shape.queues) && (has_shut T || (nat_lt (inside v.shape T) (bound_of v.shape) && nat_lt n (2 ^ 63)))) (entries_is v T stands))

may_answer_is : (v : View) (T : List Step) (l : ℕ) → Stands T v → l < lanes_of v.shape → may_answer v l ≡ may_answer_at T l
may_answer_is v T l stands lane = ap (nat_lt 0) (unanswered_count v T l stands lane)

may_forward_is : (v : View) (T : List Step) (l q : ℕ) → Stands T v → l < lanes_of v.shape → may_forward v l q ≡ may_forward_at v.shape T l q
may_forward_is v T l q stands lane =
    ap (λ b. b && (nat_lt q (length v.shape.queues) && nat_lt (entries_of v) (2 ^ 63))) (may_answer_is v T l stands lane)
    ∙ ap (λ n. may_answer_at T l && (nat_lt q (length v.shape.queues) && nat_lt n (2 ^ 63))) (entries_is v T stands)

may_add_is : (v : View) (T : List Step) (l q : ℕ) → Stands T v → l < lanes_of v.shape → may_add v l q ≡ may_add_at v.shape T l q
may_add_is v T l q stands lane =
    ap (λ b. b && (nat_lt (extras_at v l) MAX_EXTRAS && nat_lt (inside_of v) (bound_of v.shape))) (may_forward_is v T l q stands lane)
    ∙ (ap (λ n. may_forward_at v.shape T l q && (nat_lt n MAX_EXTRAS && nat_lt (inside_of v) (bound_of v.shape))) (extras_count v T l stands lane)
    ∙ ap (λ n. may_forward_at v.shape T l q && (nat_lt (length (extras T l)) MAX_EXTRAS && nat_lt n (bound_of v.shape))) (inside_is v T stands))

may_take_by_is : (o : Op) (v : View) (T : List Step) (l : ℕ) (e : Event) → Stands T v → l < lanes_of v.shape → may_take_by o v l e ≡ may_be_taken_by o v.shape T l e
may_take_by_is ops.New v T l e stands lane = ap (λ b. nat_lt l (length v.shape.ports) && b) (may_enter_is v T e.queue stands)
may_take_by_is ops.Forward v T l e stands lane = may_forward_is v T l e.queue stands lane
may_take_by_is ops.Release v T l e stands lane = may_answer_is v T l stands lane
may_take_by_is ops.ForwardMore v T l e stands lane = may_add_is v T l e.queue stands lane

pub may_take_is : (v : View) (T : List Step) (l : ℕ) (e : Event) → Stands T v → l < lanes_of v.shape → may_take v l e ≡ may_be_taken v.shape T l e
may_take_is v T l e stands lane = may_take_by_is e.op v T l e stands lane

-- ---- what is kept

one_place : (n : ℕ) (es : List Event) → map (λ (e : Event). record { number = n; event = e }) es ≡ map kept_under (tag n es)
one_place n [] = refl
one_place n (e ∷ es) = ap (λ ws. record { number = n; event = e } ∷ ws) (one_place n es)

all_places : (T : List Step) (q : ℕ) (ns : List ℕ) → flat_map kept_in_place (map (place_at T q) ns) ≡ map kept_under (tagged (forwards T q) ns)
all_places T q [] = refl
all_places T q (n ∷ ns) =
    ap (λ ws. ws ++ flat_map kept_in_place (map (place_at T q) ns)) (one_place n (forwards T q n))
    ∙ (ap (λ ws. map kept_under (tag n (forwards T q n)) ++ ws) (all_places T q ns)
    ∙ sym (map-append kept_under (tag n (forwards T q n)) (tagged (forwards T q) ns)))

pub kept_is : (v : View) (T : List Step) (q : ℕ) → Stands T v → q < length v.shape.queues → kept_at v q ≡ map kept_under (kept T q)
kept_is v T q stands h = ap (flat_map kept_in_place) (places_is v T q stands h) ∙ by_kind (cases_Bool (is_ordered (queue_of v.shape q).kind))
  where
    by_kind : (is_ordered (queue_of v.shape q).kind ≡ true) ⊎ (is_ordered (queue_of v.shape q).kind ≡ false)
        → flat_map kept_in_place (places v.shape T q) ≡ map kept_under (kept T q)
    by_kind (inl ordered) =
        ap (flat_map kept_in_place) (places_ordered v.shape T q ordered)
        ∙ (all_places T q (open_of T q)
        ∙ ap (map kept_under) (sym (kept_is_open v.shape T q ordered (facts_of v.shape T stands.lawful)
        ((Known-allowed v.shape T (steps-Lawful v.shape T stands.lawful).steps).order.ordered q ordered) stands.lawful.prompt.end)))
    by_kind (inr plain) =
        ap (flat_map kept_in_place) (places_plain v.shape T q plain)
        ∙ sym (ap (map kept_under) (kept_plain v.shape T q plain ∙ settled_overdue v.shape T stands.lawful.prompt.end q))
