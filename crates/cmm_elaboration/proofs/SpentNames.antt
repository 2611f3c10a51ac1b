-- What a name of a unit means is one token: a constant is a number, and the address of a procedure or of a label that of its first byte.
use Rattle.std.proofs.Common.{◌≡◌, ℕ, zero, suc, refl, Bool, true, false, List, [], ◌∷◌, ◌++◌, Option, Some, None, Ok, Err, length}
use Rattle.std.specs.Prelude.{map, flat_map, unwrap_or, bytes_eq}
use Rattle.cmm_words.specs.declared.constant.Constant.{Constant}
use Rattle.cmm_words.specs.declared.constant.Constant.TheVariants.{Code}
use Rattle.cmm_words.specs.declared.width.Width.{Width}
use Rattle.cmm_ast.specs.declared.declaration.Export.{Export}
use Rattle.cmm_ast.specs.declared.expression.Expr.{Expr}
use Rattle.cmm_ast.specs.declared.expression.TypeName.{TypeName}
use Rattle.cmm_ast.specs.declared.procedure.Proc.{Proc as ProcTree}
use Rattle.cmm_program.specs.ExpressionTokens.{known_tokens}
use Rattle.cmm_static_semantics.specs.declared.known.Known.{Known}
use Rattle.cmm_static_semantics.specs.declared.judged.Bits.{Bits}
use Rattle.cmm_static_semantics.specs.declared.sense.Host.{Host}
use Rattle.cmm_static_semantics.specs.declared.sense.Sense.{Sense}
use Rattle.cmm_static_semantics.specs.declared.sense.Sense.TheVariants as meanings
use Rattle.cmm_static_semantics.specs.Senses.{Senses, host_named}
use Rattle.cmm_static_semantics.specs.Judging.{Judged}
use Rattle.cmm_static_semantics.specs.Constants.{as_number}
use Rattle.cmm_static_semantics.specs.Declarations.{Declared, Entry, Typedef, Const, Register, Import, DataLabel, Procedure, Local, Variable, Room, Label, Continuation, NamedUnit, entry_of, found}
use Rattle.cmm_static_semantics.specs.Linking.{Published, published, published_as, address_of, export_link, exports_of, program_of}
use Rattle.cmm_static_semantics.specs.Scopes.{Scope, valued, untyped_sense, typed_sense, const_sense, senses_by, unit_senses, width_in, local_sense, senses}
use Rattle.cmm_static_semantics.specs.Statements.{scope_of}
use Rattle.cmm_elaboration.proofs.Declaring.{meant}
use Rattle.cmm_elaboration.proofs.Judged.{OnSome}
use Rattle.cmm_elaboration.proofs.Spent.{IsShort}

abbrev IsPlain : Constant → Type 0
IsPlain k = (asked : ℕ) → known_tokens k asked ≡ 1

-- ---- what units export

abbrev EachPlain : List Published → Type 0
EachPlain [] = Unit {0}
EachPlain (p ∷ ps) = OnSome IsPlain p.address × EachPlain ps

plain_append : (xs ys : List Published) → EachPlain xs → EachPlain ys → EachPlain (xs ++ ys)
plain_append [] ys h k = k
plain_append (x ∷ xs) ys h k = (h.0, plain_append xs ys h.1 k)

plain_address : (o : Option Entry) → OnSome IsPlain (address_of o)
plain_address (Some (Typedef t)) = tt
plain_address (Some (Const t x)) = tt
plain_address (Some (Register t)) = tt
plain_address (Some (Import link)) = tt
plain_address (Some (DataLabel n)) = λ asked. refl
plain_address (Some (Procedure n p)) = λ asked. refl
plain_address None = tt

plain_exports : (ds : List (Declared Entry)) (es : List Export) → EachPlain (map (λ e. record { link = export_link e; address = address_of (entry_of e.name.name ds) }) es)
plain_exports ds [] = tt
plain_exports ds (e ∷ es) = (plain_address (entry_of e.name.name ds), plain_exports ds es)

plain_units : (us : List NamedUnit) → EachPlain (flat_map published us)
plain_units [] = tt
plain_units (u ∷ us) = plain_append (published u) (flat_map published us) (plain_exports u.entries (exports_of u)) (plain_units us)

plain_by : (b : Bool) (o p : Option Constant) → OnSome IsPlain o → OnSome IsPlain p → OnSome IsPlain (elim b as (λ x. Option Constant) [ true ↦ o | false ↦ p ])
plain_by true o p h k = h
plain_by false o p h k = k

plain_as : (link : List ℕ) (ps : List Published) → EachPlain ps → OnSome IsPlain (published_as link ps)
plain_as link [] h = tt
plain_as link (p ∷ ps) h = plain_by (bytes_eq link p.link) p.address (published_as link ps) h.0 (plain_as link ps h.1)

plain_or : (o : Option Constant) → OnSome IsPlain o → IsPlain (unwrap_or o (Code 0 0))
plain_or (Some k) h = h
plain_or None h = λ asked. refl

-- ---- a unit

short_valued : (w : Width) (j : Judged ℕ) → IsShort (Some (valued w j))
short_valued w (Ok value) = λ asked. refl
short_valued w (Err broken) = tt

short_untyped : (token : ℕ) (j : Judged (Bits Known)) → IsShort (Some (untyped_sense token j))
short_untyped token (Ok x) = short_valued x.width (as_number token x)
short_untyped token (Err broken) = tt

short_typed : (names : Senses) (x : Expr) (o : Option Width) → IsShort (Some (typed_sense names x o))
short_typed names x (Some w) = short_valued w _
short_typed names x None = tt

short_imported : (h : Option Host) (k : Constant) → IsPlain k → IsShort (Some (elim h as (λ x. Sense) [ Some x ↦ meanings.Host x | None ↦ meanings.Value k ]))
short_imported (Some x) k plain = tt
short_imported None k plain = plain

module _ (us : List NamedUnit) (ds : List (Declared Entry)) where
  short_const : (count : ℕ) (t : Option TypeName) (x : Expr) → IsShort (Some (const_sense (program_of us) ds count t x))
  short_const zero t x = tt
  short_const (suc count) None x = short_untyped x.token _
  short_const (suc count) (Some t) x = short_typed (senses_by (program_of us) ds (const_sense (program_of us) ds count)) x (width_in ds t)

  short_meant : (count : ℕ) (name : List ℕ) (h : Option Host) (o : Option Entry) → IsShort (meant (program_of us) ds (const_sense (program_of us) ds count) name h o)
  short_meant count name (Some x) o = tt
  short_meant count name None None = tt
  short_meant count name None (Some (Typedef t)) = tt
  short_meant count name None (Some (Const t x)) = short_const count t x
  short_meant count name None (Some (Register t)) = tt
  short_meant count name None (Some (Import link)) = short_imported (host_named link) _ (plain_or (published_as link (flat_map published us)) (plain_as link (flat_map published us) (plain_units us)))
  short_meant count name None (Some (DataLabel n)) = λ asked. refl
  short_meant count name None (Some (Procedure n p)) = λ asked. refl

  pub unit_short : (name : List ℕ) → IsShort (unit_senses (program_of us) ds name)
  unit_short name = short_meant (suc (length ds)) name (host_named name) (found name ds)

-- ---- a procedure

module _ (outer : Senses) (short : (name : List ℕ) → IsShort (outer name)) (tree : ProcTree) where
  abbrev s : Scope
  s = scope_of outer tree

  own_short : (name : List ℕ) (l : Local) → IsShort (Some (local_sense s name l))
  own_short name (Variable t) = tt
  own_short name Room = tt
  own_short name Label = tt
  own_short name Continuation = tt

  short_by : (name : List ℕ) (o : Option Local) → IsShort (elim o as (λ x. Option Sense) [ Some l ↦ Some (local_sense s name l) | None ↦ outer name ])
  short_by name (Some l) = own_short name l
  short_by name None = short name

  pub scope_short : (name : List ℕ) → IsShort (senses s name)
  scope_short name = short_by name (found name s.own)
