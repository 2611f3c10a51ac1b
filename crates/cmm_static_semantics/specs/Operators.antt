-- The operators by their names, and those that have a sign (C-- Language Specification 2.0, the table of primitive operators).
use Rattle.std.specs.Prelude.{ℕ, true, false, List, [], ◌∷◌, ◌++◌, bytes_eq, codes, option_map, Option, Some, None}
use Rattle.std.specs.List.{find}
use Rattle.cmm_words.specs.declared.operators.Op1.TheVariants.{Com, Neg}
use Rattle.cmm_words.specs.declared.operators.Op2.TheVariants as op
use Rattle.cmm_words.specs.declared.operators.Cmp.TheVariants as cmp
use Rattle.cmm_words.specs.declared.width.Width.TheVariants.{W8, W16, W32, W64}
use Rattle.cmm_words.specs.Words.{is_division}
use Rattle.cmm_ast.specs.declared.expression.Infix.{Infix}
use Rattle.cmm_ast.specs.declared.expression.Infix.TheVariants as sign
use Rattle.cmm_ast.specs.declared.expression.Prefix.{Prefix}
use Rattle.cmm_ast.specs.declared.expression.Prefix.TheVariants.{Negate, Complement}
use Rattle.cmm_static_semantics.specs.declared.operator.Operator.{Operator}
use Rattle.cmm_static_semantics.specs.declared.operator.Operator.TheVariants.{Unary, Binary, Compare, Not, Conjoin, Disjoin, SignExtend, ZeroExtend, LowBits}

-- an operator with the name that stands after the percent sign
pub record Row : Type 0 where
  pub name : List ℕ
  pub operator : Operator

abbrev pub row : List ℕ → Operator → Row
row name operator = record { name = name; operator = operator }

abbrev pub arithmetic_rows : List Row
arithmetic_rows =
    row (codes "add") (Binary op.Add) ∷ row (codes "sub") (Binary op.Sub) ∷ row (codes "mul") (Binary op.Mul)
    ∷ row (codes "neg") (Unary Neg) ∷ row (codes "com") (Unary Com)
    ∷ row (codes "and") (Binary op.And) ∷ row (codes "or") (Binary op.Or) ∷ row (codes "xor") (Binary op.Xor)
    ∷ row (codes "shl") (Binary op.Shl) ∷ row (codes "shrl") (Binary op.Shrl) ∷ row (codes "shra") (Binary op.Shra)
    ∷ row (codes "rotl") (Binary op.Rotl) ∷ row (codes "rotr") (Binary op.Rotr) ∷ []

abbrev pub division_rows : List Row
division_rows =
    row (codes "divu") (Binary op.Divu) ∷ row (codes "modu") (Binary op.Modu)
    ∷ row (codes "div") (Binary op.Div) ∷ row (codes "mod") (Binary op.Mod)
    ∷ row (codes "quot") (Binary op.Quot) ∷ row (codes "rem") (Binary op.Rem) ∷ []

abbrev pub condition_rows : List Row
condition_rows =
    row (codes "eq") (Compare cmp.Eq) ∷ row (codes "ne") (Compare cmp.Ne)
    ∷ row (codes "ltu") (Compare cmp.Ltu) ∷ row (codes "leu") (Compare cmp.Leu)
    ∷ row (codes "gtu") (Compare cmp.Gtu) ∷ row (codes "geu") (Compare cmp.Geu)
    ∷ row (codes "lt") (Compare cmp.Lt) ∷ row (codes "le") (Compare cmp.Le)
    ∷ row (codes "gt") (Compare cmp.Gt) ∷ row (codes "ge") (Compare cmp.Ge)
    ∷ row (codes "not") Not ∷ row (codes "conjoin") Conjoin ∷ row (codes "disjoin") Disjoin ∷ []

-- `%sx8`, `%zx8` and `%lobits64` leave an operand of their width as it is
abbrev pub width_rows : List Row
width_rows =
    row (codes "sx8") (SignExtend W8) ∷ row (codes "sx16") (SignExtend W16) ∷ row (codes "sx32") (SignExtend W32) ∷ row (codes "sx64") (SignExtend W64)
    ∷ row (codes "zx8") (ZeroExtend W8) ∷ row (codes "zx16") (ZeroExtend W16) ∷ row (codes "zx32") (ZeroExtend W32) ∷ row (codes "zx64") (ZeroExtend W64)
    ∷ row (codes "lobits8") (LowBits W8) ∷ row (codes "lobits16") (LowBits W16) ∷ row (codes "lobits32") (LowBits W32) ∷ row (codes "lobits64") (LowBits W64) ∷ []

abbrev pub operator_rows : List Row
operator_rows = arithmetic_rows ++ division_rows ++ condition_rows ++ width_rows

-- the operator of a name in some rows
abbrev pub operator_in : List Row → List ℕ → Option Operator
operator_in rows name = option_map (λ r. r.operator) (find (λ r. bytes_eq name r.name) rows)

abbrev pub operator_named : List ℕ → Option Operator
operator_named name = operator_in operator_rows name

-- only divisions may be checked
abbrev pub if_division : Option Operator → Option Operator
if_division (Some (Binary op)) = elim (is_division op) [ true ↦ Some (Binary op) | false ↦ None ]
if_division _ = None

abbrev pub checked_named : List ℕ → Option Operator
checked_named name = if_division (operator_named name)

-- the signs stand for the unsigned operators
abbrev pub infix_operator : Infix → Operator
infix_operator sign.Eq = Compare cmp.Eq
infix_operator sign.Ne = Compare cmp.Ne
infix_operator sign.Lt = Compare cmp.Ltu
infix_operator sign.Le = Compare cmp.Leu
infix_operator sign.Gt = Compare cmp.Gtu
infix_operator sign.Ge = Compare cmp.Geu
infix_operator sign.Or = Binary op.Or
infix_operator sign.Xor = Binary op.Xor
infix_operator sign.And = Binary op.And
infix_operator sign.Shl = Binary op.Shl
infix_operator sign.Shr = Binary op.Shrl
infix_operator sign.Add = Binary op.Add
infix_operator sign.Sub = Binary op.Sub
infix_operator sign.Mul = Binary op.Mul
infix_operator sign.Div = Binary op.Divu
infix_operator sign.Mod = Binary op.Modu

abbrev pub prefix_operator : Prefix → Operator
prefix_operator Negate = Unary Neg
prefix_operator Complement = Unary Com
