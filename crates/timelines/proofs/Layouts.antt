-- Rows and tracks, one more.
use Rattle.std.proofs.Common.{◌≡◌, ℕ, suc, ◌+◌, ◌-◌, ◌*◌, ◌<◌, ◌≤◌, List, [], ◌∷◌, ◌++◌, length, map, drop, take, get_or, sym, ap, ◌∙◌, arith, add-one, append_assoc, append-nil, drop-cons}
use Rattle.std.specs.Prelude.{max, slice_index}
use Rattle.std.specs.List.{range_with_len}
use Rattle.std.proofs.lemmas.List.{drop_all, take_all, length-drop}
use Rattle.evt_types.specs.declared.step.Step.{Step}
use Rattle.std.specs.declared.alloc.Global.{Global}
use Rattle.std.specs.declared.vec.Vec.{Vec}
use Rattle.timelines.specs.Layout.{bottom_from, crowd, end_at, flows_of, Frame, frame_of, meets, rows_from, unit_of}
use Rattle.timelines.specs.Links.{begun, ends, rows, spots}
use Rattle.timelines.specs.declared.layout.Row.{Row}
use Rattle.timelines.specs.declared.links.Spot.{Spot}

-- what a row's bars meet, from this place on
pub crowd_at : (us ps : List ℕ) (k : ℕ) → k < length ps → crowd us (drop k ps) ≡ max (meets (end_at us (slice_index ps k)) (drop (k + 1) ps)) (crowd us (drop (k + 1) ps))
crowd_at us ps k lt = let at : drop k ps ≡ slice_index ps k ∷ drop (k + 1) ps = rw add-one (drop-cons ps k 0 lt) in ap (crowd us) at

-- the rest of a list, as it is cut
pub rest_whole : (ps : List ℕ) (k : ℕ) → take (length ps - k) (drop k ps) ≡ drop k ps
rest_whole ps k = take_all (length ps - k) (drop k ps) (omega (arith, length-drop k ps))

rows_at : (lists : List (Vec ℕ Global)) (k : ℕ) (v : Vec ℕ Global) → k < length lists → v ≡ get_or lists k v → rows (drop k lists) ≡ v.items ∷ rows (drop (k + 1) lists)
rows_at lists k v lt is =
    let at : drop k lists ≡ v ∷ drop (k + 1) lists = rw add-one (drop-cons lists k v lt ∙ ap (λ (x : Vec ℕ Global). x ∷ drop (suc k) lists) (sym is)) in ap rows at

pub rows_more : (us : List ℕ) (lists : List (Vec ℕ Global)) (k top extra : ℕ) (v : Vec ℕ Global) (old new all : List Row) → k < length lists → v ≡ get_or lists k v → extra ≡ crowd us v.items
    → new ≡ old ++ record { top = top; extra = extra } ∷ [] → old ++ rows_from us top (rows (drop k lists)) ≡ all → new ++ rows_from us (top + (34 + 16 * extra)) (rows (drop (k + 1) lists)) ≡ all
rows_more us lists k top extra v old new all lt is e written was =
    let rest = rows (drop (k + 1) lists) in
    let r : ℕ → Row = λ n. record { top = top; extra = n } in
    ap (λ xs. xs ++ rows_from us (top + (34 + 16 * extra)) rest) written
    ∙ (append_assoc old (r extra ∷ []) (rows_from us (top + (34 + 16 * extra)) rest)
    ∙ (ap (λ n. old ++ r n ∷ rows_from us (top + (34 + 16 * n)) rest) e
    ∙ (sym (ap (λ pss. old ++ rows_from us top pss) (rows_at lists k v lt is)) ∙ was)))

pub bottom_more : (us : List ℕ) (lists : List (Vec ℕ Global)) (k top extra all : ℕ) (v : Vec ℕ Global) → k < length lists → v ≡ get_or lists k v → extra ≡ crowd us v.items
    → bottom_from us top (rows (drop k lists)) ≡ all → bottom_from us (top + (34 + 16 * extra)) (rows (drop (k + 1) lists)) ≡ all
bottom_more us lists k top extra all v lt is e was =
    ap (λ n. bottom_from us (top + (34 + 16 * n)) (rows (drop (k + 1) lists))) e ∙ (sym (ap (bottom_from us top) (rows_at lists k v lt is)) ∙ was)

pub rows_end : (us : List ℕ) (lists : List (Vec ℕ Global)) (k top : ℕ) (old all : List Row) → length lists ≤ k → old ++ rows_from us top (rows (drop k lists)) ≡ all → old ≡ all
rows_end us lists k top old all le was = sym (ap (λ xs. old ++ rows_from us top (rows xs)) (drop_all k lists le) ∙ append-nil old) ∙ was

pub bottom_end : (us : List ℕ) (lists : List (Vec ℕ Global)) (k top all : ℕ) → length lists ≤ k → bottom_from us top (rows (drop k lists)) ≡ all → top ≡ all
bottom_end us lists k top all le was = sym (ap (λ xs. bottom_from us top (rows xs)) (drop_all k lists le)) ∙ was

-- the whole, part by part
abbrev pub made : List Spot → List ℕ → List Row → ℕ → List ℕ → ℕ → Frame
made sp us rs b fl u = record { spots = sp; ends = us; rows = rs; bottom = b; flows = fl; unit = u }

pub frame_is : (qs ls : ℕ) (T : List Step) (sp : List Spot) (us vs : List ℕ) (bars : List (List ℕ)) (rs : List Row) (b : ℕ) (fl : List ℕ) (u : ℕ) → sp ≡ spots qs T → us ≡ ends qs T → vs ≡ us
    → bars ≡ map (begun qs T) (range_with_len 0 (qs + ls)) → rs ≡ rows_from vs 136 bars → b ≡ bottom_from vs 136 bars → fl ≡ flows_of T → u ≡ unit_of (length T)
    → made sp us rs b fl u ≡ frame_of qs ls T
unfolding frame_of
frame_is qs ls T sp us vs bars rs b fl u es eu ev ebars er eb ef ew =
    let all = map (begun qs T) (range_with_len 0 (qs + ls)) in
    let er' : rs ≡ rows_from (ends qs T) 136 all = er ∙ (ap (λ xs. rows_from xs 136 bars) (ev ∙ eu) ∙ ap (rows_from (ends qs T) 136) ebars) in
    let eb' : b ≡ bottom_from (ends qs T) 136 all = eb ∙ (ap (λ xs. bottom_from xs 136 bars) (ev ∙ eu) ∙ ap (bottom_from (ends qs T) 136) ebars) in
    ap (λ x. made x us rs b fl u) es
    ∙ (ap (λ x. made (spots qs T) x rs b fl u) eu
    ∙ (ap (λ x. made (spots qs T) (ends qs T) x b fl u) er'
    ∙ (ap (λ x. made (spots qs T) (ends qs T) (rows_from (ends qs T) 136 all) x fl u) eb'
    ∙ (ap (λ x. made (spots qs T) (ends qs T) (rows_from (ends qs T) 136 all) (bottom_from (ends qs T) 136 all) x u) ef
    ∙ ap (made (spots qs T) (ends qs T) (rows_from (ends qs T) 136 all) (bottom_from (ends qs T) 136 all) (flows_of T)) ew))))
