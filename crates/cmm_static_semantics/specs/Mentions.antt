-- The names that stand in an expression and what words in memory are said to be aligned to, in textual order.
use Rattle.std.specs.Prelude.{ℕ, List, [], ◌∷◌, ◌++◌, flat_map, Option, Some, None}
use Rattle.cmm_ast.specs.declared.token.Ident.{Ident}
use Rattle.cmm_ast.specs.declared.token.Int.{Int}
use Rattle.cmm_ast.specs.declared.expression.Expr.{Expr}
use Rattle.cmm_ast.specs.declared.expression.ExprForm.{ExprForm, Row_of-Expr, end_of-Expr, more_of-Expr}
use Rattle.cmm_ast.specs.declared.expression.ExprForm.TheVariants.{Infix', Prefix', Prim, Memory as InMemory, Named'}
use Rattle.cmm_ast.specs.declared.expression.PrimForm.{PrimForm}
use Rattle.cmm_ast.specs.declared.expression.PrimForm.TheVariants.{Literal, Name, Bracketed'}
use Rattle.cmm_ast.specs.declared.expression.Primary.{Primary}
use Rattle.cmm_ast.specs.declared.expression.Memory.{Memory, Memory'}
use Rattle.cmm_ast.specs.declared.expression.TypeName.{TypeName}
use Rattle.cmm_ast.specs.declared.expression.TypeForm.TheVariants.{Bits as OfBits, Named as OfName}

abbrev pub ident : List ℕ → ℕ → Ident
ident name token = record { name = name; token = token }

abbrev pub listed : {A : Type 0} → Option A → List A
listed (Some a) = a ∷ []
listed None = []

-- ---- what stands in an expression, by what is taken of its types, names and alignments

pub record Taken : Type 0 where
  pub of_type : TypeName → List Ident
  pub of_name : Ident → List Ident

module _ (take : Taken) where
  abbrev mutual
    pub form_names : ℕ → ExprForm → List Ident
    form_names token (Infix' _ left operator _ right) = row_names left ++ row_names right
    form_names token (Prefix' operator _ operand) = row_names operand
    form_names token (Prim prim) = prim_names token prim
    form_names token (InMemory m) = memory_names m
    form_names token (Named' operator _ operands) = row_names operands

    pub row_names : {n : _} → Row_of-Expr n → List Ident
    row_names end_of-Expr = []
    row_names (more_of-Expr token form rest) = form_names token form ++ row_names rest

    pub prim_names : ℕ → PrimForm → List Ident
    prim_names token (Literal number width) = flat_map take.of_type (listed width)
    prim_names token (Name name) = take.of_name (ident name token)
    prim_names token (Bracketed' _ inner) = row_names inner

    pub memory_names : Memory → List Ident
    memory_names (Memory' width _ address aligned) = take.of_type width ++ row_names address

  abbrev pub expr_names : Expr → List Ident
  expr_names e = form_names e.token e.form

  abbrev pub primary_names : Primary → List Ident
  primary_names p = prim_names p.token p.form

-- the name of a type, if it has one
abbrev pub type_names : TypeName → List Ident
type_names t = elim t.form [ OfBits width ↦ [] | OfName name ↦ ident name t.token ∷ [] ]

-- the names that are values
abbrev pub values_alone : Taken
values_alone = record { of_type = λ t. []; of_name = λ i. i ∷ [] }

-- every name, those of types too
abbrev pub all_names : Taken
all_names = record { of_type = type_names; of_name = λ i. i ∷ [] }

-- ---- alignments

abbrev mutual
  pub form_alignments : ExprForm → List Int
  form_alignments (Infix' _ left operator _ right) = row_alignments left ++ row_alignments right
  form_alignments (Prefix' operator _ operand) = row_alignments operand
  form_alignments (Prim prim) = prim_alignments prim
  form_alignments (InMemory m) = memory_alignments m
  form_alignments (Named' operator _ operands) = row_alignments operands

  pub row_alignments : {n : _} → Row_of-Expr n → List Int
  row_alignments end_of-Expr = []
  row_alignments (more_of-Expr token form rest) = form_alignments form ++ row_alignments rest

  pub prim_alignments : PrimForm → List Int
  prim_alignments (Bracketed' _ inner) = row_alignments inner
  prim_alignments _ = []

  pub memory_alignments : Memory → List Int
  memory_alignments (Memory' width _ address aligned) = row_alignments address ++ listed aligned
