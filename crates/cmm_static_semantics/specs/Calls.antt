-- Which rules callees, what is passed and annotations break (C-- Language Specification 2.0, calls and call-site annotations).
use Rattle.std.specs.Prelude.{ℕ, ◌==◌, ◌&&◌, Bool, true, false, List, [], ◌∷◌, ◌++◌, flat_map, bytes_eq, codes, Option, Some, None, Ok, Err}
use Rattle.cmm_words.specs.declared.width.Width.{Width}
use Rattle.cmm_words.specs.declared.width.Width.TheVariants.{W64}
use Rattle.cmm_words.specs.Widths.{bits}
use Rattle.cmm_ast.specs.declared.token.Ident.{Ident}
use Rattle.cmm_ast.specs.declared.token.Text.{Text}
use Rattle.cmm_ast.specs.declared.statement.Actual.{Actual}
use Rattle.cmm_ast.specs.declared.statement.Callee.{Callee}
use Rattle.cmm_ast.specs.declared.statement.CalleeForm.TheVariants as callees
use Rattle.cmm_ast.specs.declared.statement.Flow.{Flow}
use Rattle.cmm_ast.specs.declared.statement.FlowForm.TheVariants as flows
use Rattle.cmm_ast.specs.declared.statement.Kinded.{Kinded}
use Rattle.cmm_rules.specs.declared.rule.Rule.TheVariants.{Undeclared, NotAVariable, NoSuchLabel, NotALocalVariable, TooManyValues, BadHostCall, Limit}
use Rattle.cmm_static_semantics.specs.declared.spot.Spot.{Spot}
use Rattle.cmm_static_semantics.specs.declared.judged.Typed.TheVariants as typed
use Rattle.cmm_static_semantics.specs.declared.sense.Sense.{Sense}
use Rattle.cmm_static_semantics.specs.declared.sense.Sense.TheVariants.{Variable, Register, Host}
use Rattle.cmm_static_semantics.specs.declared.sense.Host.{Host as HostProcedure}
use Rattle.cmm_static_semantics.specs.declared.sense.Host.TheVariants.{Yield, PutByte, GetByte}
use Rattle.cmm_static_semantics.specs.Spots.{at, unless}
use Rattle.cmm_static_semantics.specs.Senses.{target_width}
use Rattle.cmm_static_semantics.specs.Judging.{with_ok, spots, as_wanted}
use Rattle.cmm_static_semantics.specs.Algebras.{knowns}
use Rattle.cmm_static_semantics.specs.Typing.{expr_type, name_type, of_memory}
use Rattle.cmm_static_semantics.specs.Constants.{Judgement}
use Rattle.cmm_static_semantics.specs.Declarations.{is_label, is_continuation, is_variable, is_declared}
use Rattle.cmm_static_semantics.specs.Scopes.{Scope, senses}
use Rattle.cmm_static_semantics.specs.Expressions.{bits_spots, past_limit}

-- ---- names

-- 21, 22: a name to the left of `=` is declared, as a variable or register
abbrev pub target_spots : ℕ → Option Sense → List Spot
target_spots token None = at Undeclared token
target_spots token (Some (Variable number width)) = []
target_spots token (Some (Register number width)) = []
target_spots token (Some _) = at NotAVariable token

abbrev pub ident_spots : Scope → Ident → List Spot
ident_spots s i = target_spots i.token (senses s i.name)

-- 29: `goto` names a label of the procedure
abbrev pub goto_spots : Scope → Ident → List Spot
goto_spots s i = unless (is_declared is_label i.name s.own) NoSuchLabel i.token

-- 29: an annotation names a continuation of it
abbrev pub exit_spots : Scope → Ident → List Spot
exit_spots s i = unless (is_declared is_continuation i.name s.own) NoSuchLabel i.token

-- 30: a parameter of a continuation is a variable of the procedure
abbrev pub parameter_spots : Scope → Kinded → List Spot
parameter_spots s k = unless (is_declared is_variable k.name.name s.own) NotALocalVariable k.name.token

-- ---- what is passed

-- a kind and what stands after it begin with the kind
abbrev pub first_token : Option Text → ℕ → ℕ
first_token (Some kind) token = kind.token
first_token None token = token

-- 33: no more than 64
abbrev pub too_many_actuals : List Actual → List Spot
too_many_actuals as_ = past_limit TooManyValues 64 (λ a. first_token a.kind a.value.token) as_

abbrev pub too_many_names : List Kinded → List Spot
too_many_names ks = past_limit TooManyValues 64 (λ k. first_token k.kind k.name.token) ks

abbrev pub actuals_spots : Scope → List Actual → List Spot
actuals_spots s as_ = too_many_actuals as_ ++ flat_map (λ a. bits_spots (senses s) None a.value) as_

abbrev pub results_spots : Scope → List Kinded → List Spot
results_spots s ks = too_many_names ks ++ flat_map (λ k. ident_spots s k.name) ks

abbrev pub parameters_spots : Scope → List Kinded → List Spot
parameters_spots s ks = too_many_names ks ++ flat_map (parameter_spots s) ks

-- ---- annotations

abbrev pub flow_names : Flow → List Ident
flow_names f = elim f.form [
  | flows.CutsTo names ↦ names
  | flows.UnwindsTo names ↦ names
  | flows.ReturnsTo names ↦ names
  | _ ↦ []
]

-- the alternate exits
abbrev pub return_names : Flow → List Ident
return_names f = elim f.form [ flows.ReturnsTo names ↦ names | _ ↦ [] ]

abbrev pub flows_spots : Scope → List Flow → List Spot
flows_spots s fs = flat_map (λ f. flat_map (exit_spots s) (flow_names f)) fs

-- 40: a call site has no more than 64 alternate exits
abbrev pub site_flows_spots : Scope → List Flow → List Spot
site_flows_spots s fs = flows_spots s fs ++ past_limit Limit 64 (λ i. i.token) (flat_map return_names fs)

-- ---- callees

-- 38: a procedure of the host is called as none of its statements
abbrev pub called_host : Bool → ℕ → Option Sense → List Spot
called_host allowed token (Some (Host Yield)) = unless allowed BadHostCall token
called_host allowed token (Some (Host h)) = at BadHostCall token
called_host allowed token _ = []

-- a callee is bits64; where it is the plain callee of a call it may be `yield`
abbrev pub callee_spots : Scope → Bool → Callee → List Spot
callee_spots s may_yield c = elim c.form [
  | callees.Name i ↦ spots (with_ok (name_type knowns c.token (senses s i.name)) (as_wanted (Some W64) c.token)) ++ called_host may_yield c.token (senses s i.name)
  | callees.Memory m ↦ bits_spots (senses s) (Some W64) (of_memory c.token m)
  | callees.Bracketed e ↦ bits_spots (senses s) (Some W64) e
]

-- ---- foreign calls

-- a value of 64 bits, also one that is broken
abbrev pub may_be_bits64 : Judgement → Bool
may_be_bits64 (Ok (typed.Bits x)) = bits x.width == 64
may_be_bits64 (Ok (typed.Test c)) = false
may_be_bits64 (Err broken) = true

-- a variable or register of 64 bits, also one that is broken
abbrev pub may_hold_bits64 : Option Width → Bool
may_hold_bits64 (Some width) = bits width == 64
may_hold_bits64 None = true

-- `cmm_putbyte` with one bits64 actual and no result, or `cmm_getbyte` with no actual and one bits64 result
abbrev pub is_host_call : Scope → HostProcedure → List Kinded → List Actual → Bool
is_host_call s PutByte [] (a ∷ []) = may_be_bits64 (expr_type knowns (senses s) a.value)
is_host_call s GetByte (k ∷ []) [] = may_hold_bits64 (target_width (senses s k.name.name))
is_host_call s _ _ _ = false

abbrev pub foreign_callee : Scope → Callee → Option HostProcedure
foreign_callee s c = elim c.form [
  | callees.Name i ↦ elim (senses s i.name) [ Some sense ↦ elim sense [ Host h ↦ Some h | _ ↦ None ] | None ↦ None ]
  | _ ↦ None
]

-- 38: a foreign call is a call of the host in C, without annotations
abbrev pub is_foreign : Scope → Text → List Kinded → Callee → List Actual → List Flow → Bool
is_foreign s convention results c as_ fs =
    bytes_eq convention.bytes (codes "C")
    && elim (foreign_callee s c) [ Some h ↦ is_host_call s h results as_ | None ↦ false ]
    && elim fs [ [] ↦ true | _ ∷ _ ↦ false ]

-- the callee of a foreign call breaks the rules of callees, but may be any procedure of the host
abbrev pub foreign_callee_spots : Scope → Callee → List Spot
foreign_callee_spots s c = elim c.form [
  | callees.Name i ↦ spots (with_ok (name_type knowns c.token (senses s i.name)) (as_wanted (Some W64) c.token))
  | _ ↦ callee_spots s false c
]
