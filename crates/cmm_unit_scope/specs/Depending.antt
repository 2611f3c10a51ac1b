-- Which declarations of a unit name which: a graph by their numbers. Names that are not declared are left out.
use Rattle.std.specs.Prelude.{ℕ, List, map, flat_map, Option, Some}
use Rattle.cmm_static_semantics.specs.Declarations.{Declared, Entry}
use Rattle.cmm_static_semantics.specs.Mentions.{listed}
use Rattle.cmm_static_semantics.specs.Scopes.{named_by}
use Rattle.cmm_symbols.specs.Numbering.{numbering, number_in}

abbrev pub numbers_of : List (Declared ℕ) → List (List ℕ) → List ℕ
numbers_of numbers names = flat_map (λ n. listed (number_in numbers n)) names

abbrev pub mentioned_by : List (Declared ℕ) → Option Entry → List ℕ
mentioned_by numbers e = numbers_of numbers (named_by e)

abbrev pub graph_by : List (Declared ℕ) → List (Declared Entry) → List (List ℕ)
graph_by numbers ds = map (λ d. mentioned_by numbers (Some d.as_what)) ds

abbrev pub graph_of : List (Declared Entry) → List (List ℕ)
graph_of ds = graph_by (numbering ds) ds
