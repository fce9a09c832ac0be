-- A worker's burst: what it receives, and what it answered.
use Rattle.std.proofs.Common.{◌≡◌, ◌≢◌, ℕ, zero, suc, ◌+◌, ◌<◌, Bool, true, false, List, [], ◌∷◌, ◌++◌, length, map, take, drop, All, Option, Some, None, get_or, refl, sym, ap, subst, ◌∙◌, arith, append-nil}
use Rattle.std.proofs.lemmas.Bool.{false≢true}
use Rattle.std.proofs.lemmas.List.{append_assoc, length-map, map-append, nil_from_length, take_more}
use Rattle.std.proofs.lemmas.List.Elements.{All-head, All-map, All-nil, All-push, All-tail}
use Rattle.event_ports.proofs.Refusals.{one_answer}
use Rattle.event_ports.specs.Lanes.{Arrival, Dequeues, Hand, IsEmptyHand, IsLinkedTo, Rests, Submits, SubmitsAll, SubmitsTo, from_lane, holding_of, lane_for, releases_for, reply_of}
use Rattle.event_ports.specs.Ports.{hand, links}
use Rattle.event_ports.specs.declared.lane.Holding.{Holding}
use Rattle.event_ports.specs.declared.lane.Lane.{Lane}
use Rattle.event_ports.specs.declared.lane.Lane.TheVariants.{Own, Flow}
use Rattle.event_ports.specs.declared.port.Port.{Port}
use Rattle.event_device.specs.Device.{PortSite, site_of}
use Rattle.evt_types.specs.Operation.{is_answer_op, is_new_op, is_new_reply}
use Rattle.evt_types.specs.declared.event.Delivery.{Delivery}
use Rattle.evt_types.specs.declared.event.Event.{Event}
use Rattle.evt_types.specs.declared.event.Op.{Op}
use Rattle.evt_types.specs.declared.event.Op.TheVariants as ops
use Rattle.evt_types.specs.declared.event.Reply.{Reply}
use Rattle.lists.specs.Lists.{has}
use Rattle.pipeline_laws.specs.Promises.{said_to}
use Rattle.pipeline_laws.specs.declared.stage.Action.{Action}
use Rattle.pipeline_threads.specs.Ports.{AreDue, HasCounted, HasNoNews, HasWorked, IsDue, Owes}
use Rattle.transcripts.specs.Replies.{Said, said}

-- ---- what a port receives

-- whether the lane is a port's own
abbrev is_own : Lane → Bool
is_own Own = true
is_own (Flow j) = false

none_released : (n : ℕ) → releases_for Own (take n []) ≡ []
none_released zero = refl
none_released (suc n) = refl

none_dropped : (n : ℕ) (xs : List Holding) → xs ≡ [] → drop n xs ≡ []
none_dropped zero xs e = e
none_dropped (suc n) xs e = ap (drop (suc n)) e

-- These came, and are all that it holds; where it has its own lane alone they came from that.
record Took (ls : List ℕ) (h k : Hand) (came : List Arrival) : Type 0 where
  pub said : k.said Own ≡ h.said Own
  pub got : k.got Own ≡ h.got Own ++ from_lane Own came
  pub holding : k.holding ≡ map (λ (a : Arrival). holding_of a.0 a.1) came
  pub linked : All (λ (a : Arrival). IsLinkedTo ls a.0) came

took : (linked : List ℕ) (n : ℕ) (h k : Hand) (ds : List Delivery) → h.holding ≡ [] → Dequeues linked n h k ds
    → (came : List Arrival) × (ds ≡ map (λ (a : Arrival). a.1) came) × Took linked h k came
took linked n h k ds none d =
    let between = d.between in
    let came = d.arrived.arrived in
    let before : between.said Own ≡ h.said Own =
    d.released.said Own ∙ (ap (λ xs. h.said Own ++ releases_for Own (take n xs)) none ∙ (ap (λ rs. h.said Own ++ rs) (none_released n) ∙ append-nil (h.said Own))) in
    let empty : between.holding ≡ [] = d.released.holding ∙ none_dropped n h.holding none in (
      came,
      d.arrived.deliveries,
      record {
        said = d.arrived.said Own ∙ before;
        got = d.arrived.got Own ∙ ap (λ xs. xs ++ from_lane Own came) (d.released.got Own);
        holding = d.arrived.holding ∙ ap (λ xs. xs ++ map (λ (a : Arrival). holding_of a.0 a.1) came) empty;
        linked = d.arrived.linked;
      },
    )

-- a port with its own lane alone takes from that
from_own : (linked : List ℕ) (l : Lane) → IsLinkedTo linked l → linked ≡ [] → l ≡ Own
from_own linked Own is none = refl
from_own linked (Flow j) is none = absurd (false≢true (subst (λ ls. has j ls ≡ true) none is))

all_from_own : (linked : List ℕ) (came : List Arrival) → All (λ (a : Arrival). IsLinkedTo linked a.0) came → linked ≡ [] → All (λ (a : Arrival). a.0 ≡ Own) came
all_from_own linked came h none i a there = from_own linked (get_or came i a).0 (h i a there) none

own_deliveries : (came : List Arrival) → All (λ (a : Arrival). a.0 ≡ Own) came → from_lane Own came ≡ map (λ (a : Arrival). a.1) came
own_deliveries [] h = refl
own_deliveries ((l, d) ∷ came) h =
    ap (λ (m : Lane). from_lane Own ((m, d) ∷ came)) (All-head (λ (a : Arrival). a.0 ≡ Own) (l, d) came h)
    ∙ ap (λ ds. d ∷ ds) (own_deliveries came (All-tail (λ (a : Arrival). a.0 ≡ Own) (l, d) came h))

-- what a dequeue brings such a port is what it receives there
pub received_more : (linked : List ℕ) (n : ℕ) (h k : Hand) (ds : List Delivery) → linked ≡ [] → Dequeues linked n h k ds → k.got Own ≡ h.got Own ++ ds
received_more linked n h k ds none d =
    let came = d.arrived.arrived in
    d.arrived.got Own
    ∙ (ap (λ xs. xs ++ from_lane Own came) (d.released.got Own)
    ∙ ap (λ xs. h.got Own ++ xs) (own_deliveries came (all_from_own linked came d.arrived.linked none) ∙ sym d.arrived.deliveries))

-- what is submitted changes nothing of it
submits_got : (o : Option Lane) (r : Reply) (h k : Hand) → SubmitsTo o r h k → k.got Own ≡ h.got Own
submits_got None r h k s = absurd s
submits_got (Some l) r h k s = s.got Own

pub submitted_got : (es : List Event) (h k : Hand) → SubmitsAll es h k → k.got Own ≡ h.got Own
submitted_got [] h k s = s.got Own
submitted_got (e ∷ es) h k s = submitted_got es s.0 k s.2 ∙ submits_got (lane_for e.op h.holding) (reply_of e) h s.0 s.1

-- ---- what it owes

lane_first : (o : Op) (x : Holding) (xs : List Holding) → is_answer_op o ≡ true → lane_for o (x ∷ xs) ≡ Some x.lane
lane_first ops.New x xs e = absurd (false≢true e)
lane_first ops.Forward x xs e = refl
lane_first ops.Release x xs e = refl
lane_first ops.ForwardMore x xs e = absurd (false≢true e)

no_new : (o : Op) → is_answer_op o ≡ true → is_new_op o ≡ false
no_new ops.New e = absurd (false≢true e)
no_new ops.Forward e = refl
no_new ops.Release e = refl
no_new ops.ForwardMore e = absurd (false≢true e)

-- an answer to any lane is no NEW to its own
no_news_more : (l : Lane) (r : Reply) (h k : Hand) → is_new_reply r ≡ false → Submits l r h k → HasNoNews h → HasNoNews k
no_news_more Own r h k new s none =
    subst (All (λ (x : Reply). is_new_reply x ≡ false)) (sym s.said_here) (All-push (λ (x : Reply). is_new_reply x ≡ false) (h.said Own) r none new)
no_news_more (Flow j) r h k new s none = subst (All (λ (x : Reply). is_new_reply x ≡ false)) (sym (s.said Own own_differs)) none
  where
    own_differs : Own ≢ Flow j
    own_differs e = false≢true (sym (ap is_own e))

-- with its own lane alone
abbrev IsOwn : Holding → Type 0
IsOwn x = x.lane ≡ Own

module _ (actions : List Action) (linked : List ℕ) where
  -- an idle port owes nothing
  pub idle_owes : (h : Hand) → IsEmptyHand h → Owes actions linked [] h
  idle_owes h e =
      record {
        due = λ none. append-nil (map said (h.said Own)) ∙ (ap (map said) (e.said Own) ∙ ap (map (said_to actions)) (sym (e.got Own)));
        own = λ none. subst (All IsOwn) (sym e.holding) (All-nil IsOwn);
        held = ap length e.holding;
        no_news = subst (All (λ (r : Reply). is_new_reply r ≡ false)) (sym (e.said Own)) (All-nil (λ (r : Reply). is_new_reply r ≡ false));
      }

  -- a call that submitted and received nothing changes nothing
  pub rests_owes : (ds : List Delivery) (h k : Hand) → Owes actions linked ds h → Rests h k → Owes actions linked ds k
  rests_owes ds h k o r =
      record {
        due = λ none. ap (λ rs. map said rs ++ map (said_to actions) ds) (r.said Own) ∙ (o.due none ∙ ap (map (said_to actions)) (sym (r.got Own)));
        own = λ none. subst (All IsOwn) (sym r.holding) (o.own none);
        held = ap length r.holding ∙ o.held;
        no_news = subst (All (λ (x : Reply). is_new_reply x ≡ false)) (sym (r.said Own)) o.no_news;
      }

  took_owes : (h k : Hand) (came : List Arrival) → Owes actions linked [] h → Took linked h k came → Owes actions linked (map (λ (a : Arrival). a.1) came) k
  took_owes h k came o t =
      let ds = map (λ (a : Arrival). a.1) came in
      let to = said_to actions in
      record {
        due = λ none.
            let own = own_deliveries came (all_from_own linked came t.linked none) in
            ap (λ rs. map said rs ++ map to ds) t.said
            ∙ (ap (λ xs. xs ++ map to ds) (sym (append-nil (map said (h.said Own))) ∙ o.due none)
            ∙ (sym (map-append to (h.got Own) ds) ∙ ap (map to) (ap (λ xs. h.got Own ++ xs) (sym own) ∙ sym t.got)));
        own = λ none. subst (All IsOwn) (sym t.holding) (All-map IsOwn (λ (a : Arrival). holding_of a.0 a.1) came (all_from_own linked came t.linked none));
        held =
            ap length t.holding ∙ (length-map came (λ (a : Arrival). holding_of a.0 a.1) ∙ sym (length-map came (λ (a : Arrival). a.1)));
        no_news = subst (All (λ (r : Reply). is_new_reply r ≡ false)) (sym t.said) o.no_news;
      }

  -- it owes what a dequeue gave it, where it owed nothing
  pub dequeued_owes : (n : ℕ) (h k : Hand) (ds : List Delivery) → Owes actions linked [] h → Dequeues linked n h k ds → Owes actions linked ds k
  dequeued_owes n h k ds o d =
      let t = took linked n h k ds (nil_from_length h.holding o.held) d in
      subst (λ (xs : List Delivery). Owes actions linked xs k) (sym t.1) (took_owes h k t.0 o t.2)

  -- the answer that is due to the first of what it owes
  answered_one : (d : Delivery) (ds : List Delivery) (e : Event) (xs : List Holding) (h k : Hand) → Owes actions linked (d ∷ ds) h → IsDue actions d e → h.holding ≡ xs
      → SubmitsTo (lane_for e.op xs) (reply_of e) h k → Owes actions linked ds k
  answered_one d ds e [] h k o due holds s = absurd (omega (arith, o.held, ap length holds))
  answered_one d ds e (x ∷ xs) h k o due holds s =
      let here : Submits x.lane (reply_of e) h k = subst (λ (l : Option Lane). SubmitsTo l (reply_of e) h k) (lane_first e.op x xs due.answers) s in
      let left : k.holding ≡ xs = here.holding ∙ (ap (λ n. drop n h.holding) (one_answer (reply_of e) due.answers) ∙ ap (drop 1) holds) in
      record {
        due = λ none.
            let first : x.lane ≡ Own = All-head IsOwn x xs (subst (All IsOwn) holds (o.own none)) in
            let own : Submits Own (reply_of e) h k = subst (λ (l : Lane). Submits l (reply_of e) h k) first here in
            ap (λ rs. map said rs ++ map (said_to actions) ds) own.said_here
            ∙ (ap (λ ss. ss ++ map (said_to actions) ds) (map-append said (h.said Own) (reply_of e ∷ []))
            ∙ (append_assoc (map said (h.said Own)) (said (reply_of e) ∷ []) (map (said_to actions) ds)
            ∙ (ap (λ (s : Said). map said (h.said Own) ++ s ∷ map (said_to actions) ds) due.said ∙ (o.due none ∙ ap (map (said_to actions)) (sym (own.got Own))))));
        own = λ none. subst (All IsOwn) (sym left) (All-tail IsOwn x xs (subst (All IsOwn) holds (o.own none)));
        held = omega (arith, o.held, ap length holds, ap length left);
        no_news = no_news_more x.lane (reply_of e) h k (no_new e.op due.answers) here o.no_news;
      }

  -- what is answered isn't owed any longer, and the rest is
  pub answered_owes : (ds : List Delivery) (es : List Event) (n : ℕ) (h k : Hand) → Owes actions linked ds h → AreDue actions ds es → SubmitsAll (take n es) h k
      → Owes actions linked (drop n ds) k
  answered_owes ds es zero h k o due s = rests_owes ds h k o s
  answered_owes [] [] (suc n) h k o due s = rests_owes [] h k o s
  answered_owes [] (e ∷ es) (suc n) h k o due s = absurd due
  answered_owes (d ∷ ds) [] (suc n) h k o due s = absurd due
  answered_owes (d ∷ ds) (e ∷ es) (suc n) h k o due s = answered_owes ds es n s.0 k (answered_one d ds e h.holding h s.0 o due.0 refl s.1) due.1 s.2

  -- where all is answered nothing is owed
  pub answered_all : (ds : List Delivery) (es : List Event) (h k : Hand) → Owes actions linked ds h → AreDue actions ds es → SubmitsAll es h k → Owes actions linked [] k
  answered_all [] [] h k o due s = rests_owes [] h k o s
  answered_all [] (e ∷ es) h k o due s = absurd due
  answered_all (d ∷ ds) [] h k o due s = absurd due
  answered_all (d ∷ ds) (e ∷ es) h k o due s = answered_all ds es s.0 k (answered_one d ds e h.holding h s.0 o due.0 refl s.1) due.1 s.2

-- a port with the same site has the same links
pub owes_at : (actions : List Action) (p q : Port) (ds : List Delivery) → site_of q ≡ site_of p → Owes actions (links p) ds (hand q) → Owes actions (links q) ds (hand q)
owes_at actions p q ds site o = subst (λ (ls : List ℕ). Owes actions ls ds (hand q)) (ap (λ (s : PortSite). s.links) (sym site)) o

-- one answer more
due_push : (actions : List Action) (ds : List Delivery) (es : List Event) (d : Delivery) (e : Event) → AreDue actions ds es → IsDue actions d e → AreDue actions (ds ++ d ∷ []) (es ++ e ∷ [])
due_push actions [] [] d e due one = (one, tt)
due_push actions [] (y ∷ es) d e due one = absurd due
due_push actions (x ∷ ds) [] d e due one = absurd due
due_push actions (x ∷ ds) (y ∷ es) d e due one = (due.0, due_push actions ds es d e due.1 one)

pub due_more : (actions : List Action) (ds : List Delivery) (i : ℕ) (d : Delivery) (es : List Event) (e : Event) → i < length ds → d ≡ get_or ds i d → AreDue actions (take i ds) es → IsDue actions d e
    → AreDue actions (take (i + 1) ds) (es ++ e ∷ [])
due_more actions ds i d es e there is due one =
    subst (λ (xs : List Delivery). AreDue actions xs (es ++ e ∷ [])) (ap (λ x. take i ds ++ x ∷ []) is ∙ sym (take_more ds i d there)) (due_push actions (take i ds) es d e due one)

-- as many answers as deliveries
pub due_count : (actions : List Action) (ds : List Delivery) (es : List Event) → AreDue actions ds es → length es ≡ length ds
due_count actions [] [] due = refl
due_count actions [] (e ∷ es) due = absurd due
due_count actions (d ∷ ds) [] due = absurd due
due_count actions (d ∷ ds) (e ∷ es) due = ap suc (due_count actions ds es due.1)

-- at every moment a worker's answers are due
pub owes_worked : (actions : List Action) (p : Port) (ds : List Delivery) → Owes actions (links p) ds (hand p) → HasCounted p → HasWorked actions p
owes_worked actions p ds o counted = record { worker = λ none. (map (said_to actions) ds, o.due none); no_news = o.no_news; counted = counted }
