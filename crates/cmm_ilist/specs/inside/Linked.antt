-- The tables of links that stand for lists.
use Rattle.std.specs.Prelude.{◌≡◌, ℕ, zero, suc, ◌<◌, ◌==◌, true, false, List, [], ◌∷◌, length, map, slice_index_or, slice_set, Option, Some, None}
use Rattle.cmm_ilist.specs.NodeLists.{after_in, front_of, has, is_distinct, list_at}

-- an entry of a table that a node has, if there is one
abbrev pub set_when : Option ℕ → Option ℕ → List (Option ℕ) → List (Option ℕ)
set_when (Some n) entry table = slice_set table n entry
set_when None entry table = table

-- or else that of a list
abbrev pub set_unless : Option ℕ → ℕ → Option ℕ → List (Option ℕ) → List (Option ℕ)
set_unless (Some n) k entry table = table
set_unless None k entry table = slice_set table k entry

-- the node before a node in a list that something stands before
abbrev pub before_in : Option ℕ → ℕ → List ℕ → Option ℕ
before_in front x [] = None
before_in front x (y ∷ ys) = elim (y == x) [ true ↦ front | false ↦ before_in (Some y) x ys ]

-- the last node of such a list, or what stands before it
abbrev pub back_of : Option ℕ → List ℕ → Option ℕ
back_of front [] = front
back_of front (x ∷ xs) = back_of (Some x) xs

-- the nodes from one on, at most so many, each behind the one before
abbrev pub nodes_from : ℕ → List (Option ℕ) → Option ℕ → List ℕ
nodes_from zero after at = []
nodes_from (suc n) after None = []
nodes_from (suc n) after (Some x) = x ∷ nodes_from n after (slice_index_or after x None)

-- the lists of which these are the first nodes
abbrev pub lists_of : ℕ → List (Option ℕ) → List (Option ℕ) → List (List ℕ)
lists_of n after first = map (nodes_from n after) first

pub record Tables : Type 0 where
  pub owner : List (Option ℕ)
  pub before : List (Option ℕ)
  pub after : List (Option ℕ)
  pub first : List (Option ℕ)
  pub last : List (Option ℕ)

abbrev pub entry : List (Option ℕ) → ℕ → Option ℕ
entry table k = slice_index_or table k None

pub record AreLinked (t : Tables) (lists : List (List ℕ)) : Type 0 where
  pub befores : length t.before ≡ length t.owner
  pub afters : length t.after ≡ length t.owner
  pub firsts : length t.first ≡ length lists
  pub lasts : length t.last ≡ length lists
  pub distinct : (k : ℕ) → is_distinct (list_at lists k) ≡ true
  -- the owner of a node is the list that has it
  pub owned : (k x : ℕ) → has x (list_at lists k) ≡ true → entry t.owner x ≡ Some k
  pub owner : (k x : ℕ) → entry t.owner x ≡ Some k → has x (list_at lists k) ≡ true
  pub before : (k x : ℕ) → has x (list_at lists k) ≡ true → entry t.before x ≡ before_in None x (list_at lists k)
  pub after : (k x : ℕ) → has x (list_at lists k) ≡ true → entry t.after x ≡ after_in x (list_at lists k)
  pub first : (k : ℕ) → k < length lists → entry t.first k ≡ front_of (list_at lists k)
  pub last : (k : ℕ) → k < length lists → entry t.last k ≡ back_of None (list_at lists k)
