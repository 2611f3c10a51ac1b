-- Places at which components of open nodes begin.
use Rattle.std.specs.Prelude.{◌≡◌, ◌≢◌, ℕ, ◌+◌, ◌<◌, ◌≤◌, min, Bool, true, false, List, [], ◌∷◌, ◌++◌, length, get_or, Option, Some, None}
use Rattle.cmm_digraph.specs.Graphs.{is_among}
use Rattle.cmm_digraph.specs.declared.search.State.{State}
use Rattle.cmm_digraph.specs.declared.search.State.TheVariants.{New, Open, Closed}

abbrev pub state_of : List State → ℕ → State
state_of states node = get_or states node New

-- the lower of a place and that of a state
abbrev pub lower_of : Option ℕ → State → Option ℕ
lower_of lowest (Open place) = elim lowest [ Some low ↦ Some (min low place) | None ↦ Some place ]
lower_of lowest _ = lowest

-- the lowest place of those among some nodes that are open
pub record IsLowest (nodes : List ℕ) (states : List State) (lowest : Option ℕ) : Type 0 where
  pub is : (low : ℕ) → lowest ≡ Some low → (node : ℕ) × (is_among node nodes ≡ true) × (state_of states node ≡ Open low)
  pub least : (node place : ℕ) → is_among node nodes ≡ true → state_of states node ≡ Open place → (low : ℕ) × (lowest ≡ Some low) × (low ≤ place)

abbrev pub IsAscending : List ℕ → Type 0
IsAscending starts = (i j : ℕ) → i < j → j < length starts → get_or starts i 0 < get_or starts j 0

-- a place is not after one, if there is one
abbrev pub IsUpTo : Option ℕ → ℕ → Type 0
IsUpTo lowest place = (low : ℕ) → lowest ≡ Some low → place ≤ low

-- the components that begin no later than at a place are left
pub record IsJoined (lowest : Option ℕ) (starts starts' : List ℕ) : Type 0 where
  pub kept : (start : ℕ) → is_among start starts' ≡ true → (is_among start starts ≡ true) × IsUpTo lowest start
  pub all : (start : ℕ) → is_among start starts ≡ true → IsUpTo lowest start → is_among start starts' ≡ true
  pub ascending : IsAscending starts'

-- the last component is taken off, or it begins elsewhere
pub record IsCut (place : ℕ) (starts starts' : List ℕ) (begins : Bool) : Type 0 where
  pub off : begins ≡ true → starts ≡ starts' ++ place ∷ []
  pub same : begins ≡ false → starts' ≡ starts
  pub other : begins ≡ false → (last : ℕ) → last + 1 ≡ length starts → get_or starts last 0 ≢ place

pub record AreClosed (nodes : List ℕ) (states states' : List State) : Type 0 where
  pub size : length states' ≡ length states
  pub closed : (node : ℕ) → is_among node nodes ≡ true → state_of states' node ≡ Closed
  pub others : (node : ℕ) → is_among node nodes ≡ false → state_of states' node ≡ state_of states node
