-- Commands that are played one after the other.
use Rattle.std.specs.Prelude.{All}
use Rattle.std.proofs.Common.{◌≡◌, ℕ, ◌+◌, ◌<◌, List, [], ◌∷◌, ◌++◌, length, get_or, take, map, refl, sym, ap, subst, ◌∙◌}
use Rattle.std.proofs.lemmas.List.{map-append, take_more}
use Rattle.std.proofs.lemmas.List.Elements.{All-get_or}
use Rattle.play_documents.specs.Command.{IsPortThere, Line, line_of}
use Rattle.play_documents.specs.declared.command.Command.{Command}
use Rattle.event_device.specs.Parts.{Parts}
use Rattle.play_text.specs.declared.answer.Answer.{Answer}
use Rattle.pipeline_app.specs.Commands.{ArePlayed, IsAnswerTo}

-- one command more
played_push : (s : Parts) (cs : List Line) (answers : List Answer) (t : Parts) (c : Line) (a : Answer) (u : Parts) → ArePlayed s cs answers t → IsAnswerTo c a t u → ArePlayed s (cs ++ c ∷ []) (answers ++ a ∷ []) u
played_push s [] [] t c a u h k =
    let P : Parts → Type 0 = λ x. IsAnswerTo c a x u in
    (u, subst P h k, refl)
played_push s [] (b ∷ more) t c a u h k = absurd h
played_push s (d ∷ cs) [] t c a u h k = absurd h
played_push s (d ∷ cs) (b ∷ more) t c a u h k = (h.0, h.1, played_push h.0 cs more t c a u h.2 k)

-- the next of these commands
pub played_more : (cs : List Command) (i : ℕ) (c : Command) → i < length cs → c ≡ get_or cs i c → (s t u : Parts) (answers all : List Answer) (a : Answer) → ArePlayed s (map line_of (take i cs)) answers t → IsAnswerTo (line_of c) a t u → all ≡ answers ++ a ∷ [] → ArePlayed s (map line_of (take (i + 1) cs)) all u
played_more cs i c lt is s t u answers all a h k e =
    let lines : map line_of (take (i + 1) cs) ≡ map line_of (take i cs) ++ line_of c ∷ [] =
    ap (map line_of) (take_more cs i c lt ∙ ap (λ x. take i cs ++ x ∷ []) (sym is)) ∙ map-append line_of (take i cs) (c ∷ []) in
    let P : List Line → Type 0 = λ xs. ArePlayed s xs all u in
    let Q : List Answer → Type 0 = λ xs. ArePlayed s (map line_of (take i cs) ++ line_of c ∷ []) xs u in
    subst P (sym lines) (subst Q (sym e) (played_push s (map line_of (take i cs)) answers t (line_of c) a u h k))

-- the port of the next one is there
pub next_there : (cs : List Command) (i : ℕ) (c : Command) (count now : ℕ) → i < length cs → c ≡ get_or cs i c → count ≡ now → All (IsPortThere count) cs → IsPortThere now c
next_there cs i c count now lt is same there =
    subst (λ k. IsPortThere k c) same (subst (IsPortThere count) (sym is) (All-get_or (IsPortThere count) cs i c lt there))
