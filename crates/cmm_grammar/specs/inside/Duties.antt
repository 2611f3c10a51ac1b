-- What a reader owes the grammar: what it reads is a tree of the tokens that it takes, it reads each tree that what follows
-- does not go on, its answer hangs on no token beyond the one that it looks at, and it stops no later than it must.
use Rattle.std.specs.Prelude.{◌≡◌, ℕ, suc, ◌+◌, ◌-◌, ◌<◌, ◌≤◌, Bool, true, false, List, [], ◌++◌, length, take, Option, Some, None}
use Rattle.cmm_lexer.specs.declared.piece.Lexeme.{Lexeme}
use Rattle.cmm_grammar.specs.Taking.{Reading, Takes}
use Rattle.cmm_grammar.specs.Reading.{Point, Fault, Unexpected, TooDeep, Answer, Read, Stopped, Reads, next}
use Rattle.cmm_grammar.specs.ReadingLaws.{within, point}

-- what is read is a tree of the tokens that are taken, and they pass no limit
pub record Sound {A : Type 0} (reads : Reads A) (takes : A → Takes) : Type 0 where
  pub sound : (p : Point) (a : A) (after : Point) → reads true p ≡ Read a after → takes a (within p) ≡ Some (within after)

-- ---- complete

-- the token that stops a reader: the first over a limit, where these are kept
abbrev pub passed : Bool → Reading → Option ℕ
passed limited r = elim limited [ true ↦ r.over | false ↦ None ]

-- the answer where a tree takes the tokens up to there
abbrev pub outcome : {A : Type 0} → Bool → A → Reading → Answer A
outcome limited a r = elim (passed limited r) [ Some token ↦ Stopped TooDeep token | None ↦ Read a (point r) ]

-- taking tokens leaves no more of them, and a token over a limit stays the first
pub record Moves (r after : Reading) : Type 0 where
  pub shrinks : length after.left ≤ length r.left
  pub stays : (token : ℕ) → r.over ≡ Some token → after.over ≡ Some token

-- the reader reads this tree wherever the tree takes the tokens and what then follows is such a token, if there are fewer tokens
-- than this; and then the token that it begins with is such a one
pub record Complete {A : Type 0} (fuel : ℕ) (takes : Takes) (tree : A) (reads : Reads A) (first follow : Option Lexeme → Type 0) : Type 0 where
  pub moves : (r after : Reading) → takes r ≡ Some after → Moves r after
  pub begins : (r after : Reading) → takes r ≡ Some after → follow (next after.left) → first (next r.left)
  pub complete : (limited : Bool) (r after : Reading) → takes r ≡ Some after → follow (next after.left) → length r.left < fuel →
      passed limited r ≡ None → reads limited (point r) ≡ outcome limited tree after

-- ---- local

-- two points whose tokens are the same up to and including one
pub record Same (token : ℕ) (p q : Point) : Type 0 where
  pub left : take (suc token - p.taken) p.left ≡ take (suc token - p.taken) q.left
  pub taken : p.taken ≡ q.taken
  pub open_brackets : p.open_brackets ≡ q.open_brackets
  pub operators : p.operators ≡ q.operators

-- an answer that looks at no token beyond that one is the same at both
abbrev pub Agrees : {A : Type 0} → ℕ → Point → Answer A → Answer A → Type 0
Agrees token p (Read a after) other = (p.taken ≤ after.taken) × (after.taken ≤ token → (q : Point) × (other ≡ Read a q) × Same token after q)
Agrees token p (Stopped fault at) other = (p.taken ≤ at) × (at ≤ token → other ≡ Stopped fault at)

pub record Local {A : Type 0} (reads : Reads A) : Type 0 where
  pub local : (token : ℕ) (p q : Point) → Same token p q → Agrees token p (reads true p) (reads true q)

-- ---- viable

-- how many tokens a reader has gone through that stops at this one: it too where it passes a limit
abbrev pub reach : Fault → ℕ → ℕ
reach Unexpected token = token
reach TooDeep token = suc token

-- some tree begins with the tokens gone through, and passes a limit at the last of them first if that is why the reader stops
pub record Begun {A : Type 0} (takes : A → Takes) (fault : Fault) (token : ℕ) (p : Point) : Type 0 where
  pub tree : A
  pub more : List Lexeme
  pub after : Reading
  pub taken : takes tree (within record p { left = take (reach fault token - p.taken) p.left ++ more }) ≡ Some after
  pub all : after.left ≡ []
  pub over : fault ≡ TooDeep → after.over ≡ Some token
  -- there are as many
  pub from : p.taken ≤ reach fault token
  pub up_to : reach fault token ≤ length p.left + p.taken

-- a reader stops no later than it must
pub record Viable {A : Type 0} (reads : Reads A) (takes : A → Takes) : Type 0 where
  pub viable : (p : Point) (fault : Fault) (token : ℕ) → reads true p ≡ Stopped fault token → Begun takes fault token p
