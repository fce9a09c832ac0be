-- What a seat knows of its stints, and what each kind of step makes of it.
use Rattle.std.specs.Prelude.{◌≡◌, ℕ, ◌+◌, ◌-◌, ◌<◌, Bool, cond, ◌==◌, List, [], ◌∷◌, ◌++◌, Option, option_to_list, All}
use Rattle.std.specs.Prelude.Option.{Some, None}
use Rattle.lane_rings.specs.declared.far.Far.{Far}
use Rattle.flow_claims.specs.declared.seating.Begun.{Begun}
use Rattle.flow_claims.specs.declared.seating.Past.{Past}
use Rattle.flow_claims.specs.declared.seating.Reading.{Reading}
use Rattle.flow_claims.specs.declared.seating.Seating.{Seating}
use Rattle.flow_claims.specs.Lists.{lists_of}
use Rattle.flow_claims.specs.Stints.{surrenders}

-- the open stint of the lane
abbrev pub find_lane : ℕ → List Begun → Option Begun
find_lane lane [] = None
find_lane lane (b ∷ bs) = cond (b.lane == lane) (Some b) (find_lane lane bs)

-- the open stints without that of the lane
abbrev pub without : ℕ → List Begun → List Begun
without lane [] = []
without lane (b ∷ bs) = cond (b.lane == lane) bs (b ∷ without lane bs)

-- the same with that of the lane first
abbrev pub fronted : ℕ → List Begun → List Begun
fronted lane bs = option_to_list (find_lane lane bs) ++ without lane bs

abbrev pub stint_at : Seating → ℕ → Option Begun
stint_at v lane = find_lane lane v.held

-- the seat has no open stint
abbrev pub HoldsNone : Seating → Type 0
HoldsNone v = v.held ≡ []

-- the seat has all 64 parts, and so all stints
abbrev pub HasAll : Seating → Type 0
HasAll v = v.parts ≡ 64

-- another seat has parts
abbrev pub IsShared : Seating → Type 0
IsShared v = v.parts < 64

-- the seat neither has the lane nor surrendered it
pub record IsLeft (lane : ℕ) (v : Seating) : Type 0 where
  pub not_held : stint_at v lane ≡ None
  pub not_surrendered : surrenders lane v.finished ≡ 0

-- all stints of the seat, open and finished, are the port's
pub record IsPorts (port : ℕ) (v : Seating) : Type 0 where
  pub held : All (λ b. b.port ≡ port) v.held
  pub finished : All (λ p. p.port ≡ port) v.finished

-- the slot that the seat has during a stint, which is empty
abbrev pub slot_of : Begun → ℕ × Option Far
slot_of b = (b.lane, None)

-- a stint of the port that begins with the end's lists
abbrev pub begun_by : ℕ → ℕ → ℕ → Far → Begun
begun_by port lane number far = record { lane = lane; number = number; port = port; start = lists_of far }

-- and that stint, as it ends with the end's lists, the lane being surrendered or given back
abbrev pub past_of : Bool → Begun → Far → Past
past_of surrendered b far = record { lane = b.lane; number = b.number; port = b.port; start = b.start; end = lists_of far; surrendered = surrendered }

abbrev pub no_reading : Reading
no_reading = record { lane = 0; word = 0 }

-- the first seat: all parts and no stint
abbrev pub first_seating : List Far → Seating
first_seating lanes = record { lanes = lanes; parts = 64; last = no_reading; before = no_reading; reads = 0; loads = []; held = []; finished = []; closed = 0 }

-- a seat that was joined to another
abbrev pub spent_seating : Seating
spent_seating = record { lanes = []; parts = 0; last = no_reading; before = no_reading; reads = 0; loads = []; held = []; finished = []; closed = 0 }

-- the read of a load or of an exchange: the lane's word, beside the one read before it, and one read more
abbrev pub after_look : ℕ → ℕ → Seating → Seating
after_look lane word v = record v { last = record { lane = lane; word = word }; before = v.last; reads = v.reads + 1 }

-- a load: a look, which is noted with its lane
abbrev pub after_load : ℕ → ℕ → Seating → Seating
after_load lane word v = record (after_look lane word v) { loads = v.loads ++ lane ∷ [] }

-- a claim that succeeded
abbrev pub after_begin : Begun → Seating → Seating
after_begin b v = record v { held = b ∷ v.held }

-- the slot of the lane is brought before the others that the seat has
abbrev pub after_front : ℕ → Seating → Seating
after_front lane v = record v { held = fronted lane v.held }

-- that stint is finished
abbrev pub finished_by : Bool → ℕ → Far → Option Begun → Seating → Seating
finished_by surrendered lane far None v = v
finished_by surrendered lane far (Some b) v = record v { held = without lane v.held; finished = v.finished ++ past_of surrendered b far ∷ [] }

-- the lane is surrendered or given back, with its end
abbrev pub after_end : Bool → ℕ → Far → Seating → Seating
after_end surrendered lane far v = finished_by surrendered lane far (stint_at v lane) v

-- one lane more is closed
abbrev pub after_close : Seating → Seating
after_close v = record v { closed = v.closed + 1 }

-- a split: the first seat has one part less
abbrev pub rest_of : Seating → Seating
rest_of v = record v { parts = v.parts - 1 }

-- and the second has that part, the same lanes and no stint
abbrev pub part_of : Seating → Seating
part_of v = record v { parts = 1; last = no_reading; before = no_reading; reads = 0; loads = []; held = []; finished = []; closed = 0 }

-- a join: the stints and the parts of both; the words and reads are the first seat's
abbrev pub after_join : Seating → Seating → Seating
after_join v w = record v { parts = v.parts + w.parts; held = v.held ++ w.held; finished = v.finished ++ w.finished }
