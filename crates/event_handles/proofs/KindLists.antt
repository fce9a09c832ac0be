-- The scheduling types of the queues, written one after the other.
use Rattle.std.proofs.Common.{◌≡◌, ℕ, ◌+◌, ◌-◌, ◌<◌, ◌≤◌, suc, List, [], ◌∷◌, ◌++◌, length, map, take, set, get_or, replicate, sym, ap, ◌∙◌, arith, append_assoc, length-take}
use Rattle.std.proofs.lemmas.List.{length-map, map_more, set_at, take_all}
use Rattle.evt_types.specs.declared.draft.QueueDraft.{QueueDraft}
use Rattle.evt_types.specs.declared.event.Kind.{Kind}
use Rattle.evt_types.specs.declared.event.Kind.TheVariants.{Parallel}

-- those of the first queues
abbrev pub written : List QueueDraft → ℕ → List Kind
written qs i = map (λ (q : QueueDraft). q.kind) (take i qs) ++ replicate (32 - i) Parallel

pub one_written : (qs : List QueueDraft) (i : ℕ) (d : QueueDraft) → i < length qs → length qs ≤ 32 → set (written qs i) i (get_or qs i d).kind ≡ written qs (i + 1)
one_written qs i d low few =
    let kind : QueueDraft → Kind = λ (q : QueueDraft). q.kind in
    let front : List Kind = map kind (take i qs) in
    let left : 32 - i ≡ suc (32 - (i + 1)) = omega (arith, low, few) in
    let long : length front ≡ i = omega (arith, length-map (take i qs) kind, length-take i qs, low) in
    ap (λ n. set (front ++ replicate n Parallel) i (kind (get_or qs i d))) left
    ∙ (set_at front Parallel (replicate (32 - (i + 1)) Parallel) (kind (get_or qs i d)) i long
    ∙ (sym (append_assoc front (kind (get_or qs i d) ∷ []) (replicate (32 - (i + 1)) Parallel))
    ∙ ap (λ xs. xs ++ replicate (32 - (i + 1)) Parallel) (sym (map_more kind qs i d low))))

pub all_written : (qs : List QueueDraft) (i : ℕ) → i ≡ length qs → written qs i ≡ map (λ (q : QueueDraft). q.kind) qs ++ replicate (32 - length qs) Parallel
all_written qs i all =
    ap (λ n. written qs n) all ∙ ap (λ xs. map (λ (q : QueueDraft). q.kind) xs ++ replicate (32 - length qs) Parallel) (take_all (length qs) qs (omega arith))
