-- Constants, evaluated from those that they name, by the numbers of declarations.
use Rattle.std.specs.Prelude.{◌≡◌, ℕ, zero, suc, Bool, true, false, List, [], ◌∷◌, length, get_or, Option, Some, None}
use Rattle.cmm_words.specs.declared.width.Width.{Width}
use Rattle.cmm_ast.specs.declared.expression.TypeName.{TypeName}
use Rattle.cmm_static_semantics.specs.declared.sense.Sense.{Sense}
use Rattle.cmm_static_semantics.specs.declared.sense.Sense.TheVariants.{Broken}
use Rattle.cmm_static_semantics.specs.Senses.{Senses}
use Rattle.cmm_static_semantics.specs.Algebras.{knowns}
use Rattle.cmm_static_semantics.specs.Judging.{if_ok}
use Rattle.cmm_static_semantics.specs.Typing.{wanted, type_width}
use Rattle.cmm_unit_scope.specs.declared.types.Types.{Types}
use Rattle.cmm_unit_scope.specs.Types.{senses_of as types_senses}
use Rattle.cmm_static_semantics.specs.Declarations.{Declared, Entry, Const}
use Rattle.cmm_static_semantics.specs.Scopes.{untyped_sense, typed_sense, entry_sense}
use Rattle.cmm_static_semantics.specs.Linking.{Program}
use Rattle.cmm_digraph.specs.Graphs.{is_among, mentions}
use Rattle.cmm_digraph.specs.Peeled.{IsPeeled}
use Rattle.cmm_unit_scope.specs.Depending.{graph_of}

-- the declaration with a number
abbrev pub declared_at : List (Declared Entry) → ℕ → Option (Declared Entry)
declared_at [] number = None
declared_at (d ∷ ds) zero = Some d
declared_at (d ∷ ds) (suc number) = declared_at ds number

-- what a declaration means before any constant is evaluated
abbrev pub first_sense : Program → List (Declared Entry) → Declared Entry → Sense
first_sense program ds d = entry_sense program ds (λ t e. Broken None) d.name.name d.as_what

-- what a declaration means, where names mean what a function says. A constant with a type that leads to a cycle has its width alone; what is no
-- constant means what it did.
abbrev pub sense_after : Senses → (TypeName → Option Width) → Bool → Sense → Entry → Sense
sense_after names width cyclic before (Const None e) = untyped_sense e.token (wanted knowns names None e)
sense_after names width cyclic before (Const (Some t) e) = elim cyclic [ true ↦ Broken (width t) | false ↦ typed_sense names e (width t) ]
sense_after names width cyclic before _ = before

-- the width of a type, where typedefs have theirs
abbrev pub width_by : Types → TypeName → Option Width
width_by types t = if_ok (type_width (types_senses types) t)

-- ---- the order

-- what a constant waits for: all that it names, but for a constant with a type that leads to a cycle
abbrev pub waits_for : Bool → Entry → List ℕ → List ℕ
waits_for cyclic (Const None e) named = named
waits_for cyclic (Const (Some t) e) named = elim cyclic [ true ↦ [] | false ↦ named ]
waits_for cyclic _ named = []

abbrev pub waits_at : List (Declared Entry) → (ℕ → Bool) → ℕ → List ℕ
waits_at ds cyclic number = elim (declared_at ds number) [ Some d ↦ waits_for (cyclic number) d.as_what (mentions (graph_of ds) number) | None ↦ [] ]

abbrev pub flag_at : List Bool → ℕ → Bool
flag_at flags number = get_or flags number false

-- for each declaration those that it waits for
pub record AreWaiting (ds : List (Declared Entry)) (cyclic : ℕ → Bool) (graph : List (List ℕ)) : Type 0 where
  pub size : length graph ≡ length ds
  pub each : (number : ℕ) → mentions graph number ≡ waits_at ds cyclic number

pub record IsOrder (ds : List (Declared Entry)) (cyclic : ℕ → Bool) (order left : List ℕ) : Type 0 where
  pub graph : List (List ℕ)
  pub waiting : AreWaiting ds cyclic graph
  pub peeled : IsPeeled graph order left

-- which constants lead to a cycle
pub record AreCyclic (ds : List (Declared Entry)) (cyclic : ℕ → Bool) : Type 0 where
  pub order : List ℕ
  pub left : List ℕ
  pub found : IsOrder ds (λ number. false) order left
  pub flags : (number : ℕ) → cyclic number ≡ is_among number left
