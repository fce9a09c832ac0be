-- A trace with one entry more.
use Rattle.std.proofs.Common.{◌≡◌, ℕ, ◌+◌, List, [], ◌∷◌, ◌++◌, map, sym, ap, ◌∙◌, arith}
use Rattle.std.specs.List.{range_with_len}
use Rattle.std.proofs.lemmas.List.{map-append}
use Rattle.std.proofs.lemmas.List.FromFn.{map-range_with_len_more}
use Rattle.pipeline_laws.specs.declared.stage.Entry.{Entry}
use Rattle.device_bench.specs.Trace.{IsTrace, entry_parts, parts}

pub trace_more : (n : ℕ) (trace more : List Entry) (t : Entry) → IsTrace n trace → parts t ≡ entry_parts n → more ≡ trace ++ t ∷ [] → IsTrace (n + 1) more
trace_more n trace more t before is_next e =
    ap (map parts) e
    ∙ (map-append parts trace (t ∷ [])
    ∙ (ap (λ xs. xs ++ parts t ∷ []) before
    ∙ (ap (λ x. map entry_parts (range_with_len 0 n) ++ x ∷ []) is_next
    ∙ sym (map-range_with_len_more entry_parts 0 n n (omega arith)))))
