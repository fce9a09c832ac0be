-- Steps in a row by which no event is turned away.
use Rattle.std.proofs.Common.{◌≡◌, ℕ, zero, suc, List, [], ◌∷◌, ◌++◌, ap, append-nil, filter_map, refl, ◌∙◌}
use Rattle.std.proofs.lemmas.List.Elements.{filter_map-append}
use Rattle.event_device.specs.Listed.{turned_all, turned_by}
use Rattle.evt_types.specs.declared.event.Reply.{Reply}
use Rattle.evt_types.specs.declared.step.Step.{Step}
use Rattle.step_log.specs.Rows.{forward_steps, news_steps, release_steps}

none_of_news : (l q : ℕ) (rs : List Reply) → filter_map turned_by (news_steps l q rs) ≡ []
none_of_news l q [] = refl
none_of_news l q (r ∷ rs) = none_of_news l q rs

none_of_releases : (l n : ℕ) → filter_map turned_by (release_steps l n) ≡ []
none_of_releases l zero = refl
none_of_releases l (suc n) = none_of_releases l n

none_of_forwards : (l q : ℕ) (ns : List ℕ) (rs : List Reply) → filter_map turned_by (forward_steps l q ns rs) ≡ []
none_of_forwards l q [] rs = refl
none_of_forwards l q (n ∷ ns) [] = refl
none_of_forwards l q (n ∷ ns) (r ∷ rs) = none_of_forwards l q ns rs

pub news_turned_all : (T : List Step) (l q : ℕ) (rs : List Reply) → turned_all (T ++ news_steps l q rs) ≡ turned_all T
news_turned_all T l q rs = filter_map-append turned_by T (news_steps l q rs) ∙ (ap (λ ts. turned_all T ++ ts) (none_of_news l q rs) ∙ append-nil (turned_all T))

pub releases_turned_all : (T : List Step) (l n : ℕ) → turned_all (T ++ release_steps l n) ≡ turned_all T
releases_turned_all T l n = filter_map-append turned_by T (release_steps l n) ∙ (ap (λ ts. turned_all T ++ ts) (none_of_releases l n) ∙ append-nil (turned_all T))

pub forwards_turned_all : (T : List Step) (l q : ℕ) (ns : List ℕ) (rs : List Reply) → turned_all (T ++ forward_steps l q ns rs) ≡ turned_all T
forwards_turned_all T l q ns rs = filter_map-append turned_by T (forward_steps l q ns rs) ∙ (ap (λ ts. turned_all T ++ ts) (none_of_forwards l q ns rs) ∙ append-nil (turned_all T))
