-- The names under which the names of a unit are exported, as a function.
use Rattle.std.specs.Prelude.{ℕ, Bool, true, false, List, [], ◌∷◌, map, bytes_eq, unwrap_or}
use Rattle.std.specs.declared.hash.FoldHasher.{FoldHasher}
use Rattle.std.specs.declared.hash.BuildHasherDefault.{BuildHasherDefault}
use Rattle.indexmap.specs.IndexMap.{IndexMap, get_by}
use denote.Ref.{Bor}

abbrev pub LinkTable : Type 0
LinkTable = IndexMap (Bor (List ℕ)) (List (Bor (List ℕ))) (BuildHasherDefault FoldHasher)

abbrev pub links_at : LinkTable → List ℕ → List (List ℕ)
links_at table x = map (λ n. n.now) (unwrap_or (get_by (λ k. bytes_eq x k.now) table) [])

-- a name, if it is one of some
abbrev pub link_if : Bool → List ℕ → List (List ℕ)
link_if true link = link ∷ []
link_if false link = []
