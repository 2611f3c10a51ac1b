-- What the names of a procedure mean is there in the procedure that it means.
use Rattle.std.proofs.Common.{◌≡◌, ℕ, suc, ◌+◌, ◌<◌, refl, sym, ap, ◌∙◌, subst, Bool, true, false, List, [], ◌∷◌, ◌++◌, Option, Some, None, IsTrue, length, arith}
use Rattle.std.specs.Prelude.{map, flat_map, option_map, slice_get, unwrap_or, bytes_eq}
use Rattle.std.proofs.lemmas.List.{map-append}
use Rattle.std.proofs.lemmas.Bool.{lt-ltb}
use Rattle.std.proofs.lemmas.Option.{slice_get-map}
use Rattle.std.proofs.lemmas.Grind.{flat_map-append}
use Rattle.cmm_words.specs.declared.width.Width.{Width}
use Rattle.cmm_words.specs.declared.width.Width.TheVariants.{W64}
use Rattle.cmm_ast.specs.declared.token.Ident.{Ident}
use Rattle.cmm_ast.specs.declared.expression.TypeName.{TypeName}
use Rattle.cmm_ast.specs.declared.procedure.Formal.{Formal}
use Rattle.cmm_ast.specs.declared.procedure.LocalForm.{LocalForm}
use Rattle.cmm_ast.specs.declared.procedure.LocalForm.TheVariants as locals
use Rattle.cmm_ast.specs.declared.procedure.Modifiers.{Modifiers}
use Rattle.cmm_ast.specs.declared.procedure.Proc.{Proc as ProcTree}
use Rattle.cmm_ast.specs.declared.procedure.Room.{Room}
use Rattle.cmm_ast.specs.declared.procedure.RoomForm.{RoomForm}
use Rattle.cmm_ast.specs.declared.procedure.RoomForm.TheVariants as rooms
use Rattle.cmm_ast.specs.declared.statement.Part.{Part}
use Rattle.cmm_ast.specs.declared.statement.Part.TheVariants as parts
use Rattle.cmm_ast.specs.declared.statement.StmtForm.TheVariants as stmts
use Rattle.cmm_program.specs.declared.procedure.Proc.{Proc}
use Rattle.cmm_program.specs.declared.procedure.VarInfo.{VarInfo}
use Rattle.cmm_program.specs.declared.program.Program.{Program}
use Rattle.cmm_program.specs.Layout.{stackdata_labels, stackdata_labels_from}
use Rattle.cmm_program.specs.Typing.{same_width}
use Rattle.cmm_static_semantics.specs.declared.sense.Sense.TheVariants as meanings
use Rattle.cmm_static_semantics.specs.Senses.{Senses}
use Rattle.cmm_static_semantics.specs.Items.{SpanTree, parts_of}
use Rattle.cmm_static_semantics.specs.Declarations.{Declared, Local, Variable, Room as RoomName, Label, Continuation, found, number_in, each_as, formal_name, room_names, local_names, part_names, own_names, is_variable, is_room, is_continuation}
use Rattle.cmm_static_semantics.specs.Judging.{if_ok}
use Rattle.cmm_static_semantics.specs.Typing.{type_width}
use Rattle.cmm_static_semantics.specs.Limits.{local_rooms}
use Rattle.cmm_static_semantics.specs.Scopes.{Scope, types, local_sense}
use Rattle.cmm_static_semantics.specs.Statements.{scope_of}
use Rattle.cmm_elaboration.specs.Resolving.{width_at}
use Rattle.cmm_elaboration.specs.Procedures.{formal_info, local_infos, part_infos, variable_infos, variable_info, stack_items, part_conts, procedure_of}
use Rattle.cmm_elaboration.specs.Fitting.{sense_fits, NamesFit}
use Rattle.cmm_elaboration.specs.Laws.{ScopesFit}
use Rattle.cmm_elaboration.proofs.Naming.{how_many, how_many_append}
use Rattle.cmm_elaboration.proofs.MarkNumbers.{formals_none, conts_are, continuations_alone}
use Rattle.cmm_elaboration.proofs.Widths.{own_width}

-- ---- the number of what is found is below how many there are

-- the number where the first declaration is another, and where it is this one
abbrev number_after : Bool → Bool → ℕ → ℕ
number_after same passes n = elim same [ true ↦ 0 | false ↦ elim passes [ true ↦ suc n | false ↦ n ] ]

abbrev count_after : Bool → ℕ → ℕ
count_after passes n = elim passes [ true ↦ suc n | false ↦ n ]

abbrev found_after : {A : Type 0} → Bool → A → Option A → Option A
found_after same a o = elim same [ true ↦ Some a | false ↦ o ]

below_past : {A : Type 0} (test : A → Bool) (same passes : Bool) (x a : A) (o : Option A) (m n : ℕ) → test x ≡ passes → test a ≡ true →
    found_after same x o ≡ Some a → (o ≡ Some a → m < n) → number_after same passes m < count_after passes n
below_past test true true x a o m n here goal is later = omega arith
below_past test true false x a o m n here goal is later =
    let one : x ≡ a = let e : Some x ≡ Some a = is in cc in let bad : false ≡ true = sym here ∙ ap test one ∙ goal in cc
below_past test false true x a o m n here goal is later = let below : m < n = later is in omega arith
below_past test false false x a o m n here goal is later = later is

pub number_below : {A : Type 0} (test : A → Bool) (name : List ℕ) (a : A) (ds : List (Declared A)) → found name ds ≡ Some a → test a ≡ true → number_in test name ds < how_many test ds
number_below test name a [] is passes = let bad : None ≡ Some a = is in cc
number_below test name a (d ∷ ds) is passes =
    below_past test (bytes_eq name d.name.name) (test d.as_what) d.as_what a (found name ds) (number_in test name ds) (how_many test ds) refl passes is
    (λ later. number_below test name a ds later passes)

-- ---- variables

-- the widths of those that are declared
abbrev pub local_widths : Scope → Local → List Width
local_widths s (Variable t) = width_at (types s) t ∷ []
local_widths s RoomName = []
local_widths s Label = []
local_widths s Continuation = []

abbrev pub widths_in : Scope → List (Declared Local) → List Width
widths_in s ds = flat_map (λ d. local_widths s d.as_what) ds

variable_past : (s : Scope) (same : Bool) (l : Local) (t : TypeName) (o : Option Local) (n : ℕ) (ws : List Width) → found_after same l o ≡ Some (Variable t) →
    (o ≡ Some (Variable t) → slice_get ws n ≡ Some (width_at (types s) t)) →
    slice_get (local_widths s l ++ ws) (number_after same (is_variable l) n) ≡ Some (width_at (types s) t)
variable_past s true (Variable u) t o n ws is later = let one : u ≡ t = let e : Some (Variable u) ≡ Some (Variable t) = is in cc in ap (λ v. Some (width_at (types s) v)) one
variable_past s true RoomName t o n ws is later = let e : Some RoomName ≡ Some (Variable t) = is in cc
variable_past s true Label t o n ws is later = let e : Some Label ≡ Some (Variable t) = is in cc
variable_past s true Continuation t o n ws is later = let e : Some Continuation ≡ Some (Variable t) = is in cc
variable_past s false (Variable u) t o n ws is later = later is
variable_past s false RoomName t o n ws is later = later is
variable_past s false Label t o n ws is later = later is
variable_past s false Continuation t o n ws is later = later is

variable_at : (s : Scope) (name : List ℕ) (t : TypeName) (ds : List (Declared Local)) → found name ds ≡ Some (Variable t) →
    slice_get (widths_in s ds) (number_in is_variable name ds) ≡ Some (width_at (types s) t)
variable_at s name t [] is = let e : None ≡ Some (Variable t) = is in cc
variable_at s name t (d ∷ ds) is =
    variable_past s (bytes_eq name d.name.name) d.as_what t (found name ds) (number_in is_variable name ds) (widths_in s ds) is (variable_at s name t ds)

abbrev pub info_widths : List VarInfo → List Width
info_widths vs = map (λ v. v.width) vs

formal_widths : (s : Scope) (fs : List Formal) → info_widths (map (formal_info s) fs) ≡ widths_in s (map formal_name fs)
formal_widths s [] = refl
formal_widths s (f ∷ fs) = ap (λ ws. width_at (types s) f.width ∷ ws) (formal_widths s fs)

names_widths : (s : Scope) (before : Modifiers) (t : TypeName) (is : List Ident) → info_widths (map (λ i. variable_info s before t) is) ≡ widths_in s (each_as (Variable t) is)
names_widths s before t [] = refl
names_widths s before t (i ∷ is) = ap (λ ws. width_at (types s) t ∷ ws) (names_widths s before t is)

room_widths : (s : Scope) (form : RoomForm) (token : ℕ) → widths_in s (room_names record { token = token; form = form }) ≡ []
room_widths s (rooms.Label name) token = refl
room_widths s (rooms.Align k) token = refl
room_widths s (rooms.Data width count) token = refl

rooms_widths : (s : Scope) (rs : List Room) → widths_in s (flat_map room_names rs) ≡ []
rooms_widths s [] = refl
rooms_widths s (r ∷ rs) =
    flat_map-append (λ d. local_widths s d.as_what) (room_names r) (flat_map room_names rs) ∙ rw (room_widths s r.form r.token, rooms_widths s rs) refl

local_widths_are : (s : Scope) (form : LocalForm) → info_widths (local_infos s form) ≡ widths_in s (local_names form)
local_widths_are s (locals.Variables before width names) = names_widths s before width names
local_widths_are s (locals.Stackdata rs) = sym (rooms_widths s rs)

part_widths : (s : Scope) (p : Part) → info_widths (part_infos s p) ≡ widths_in s (part_names p)
part_widths s (parts.Local l) = local_widths_are s l.form
part_widths s (parts.Stmt' first past (stmts.Label name)) = refl
part_widths s (parts.Stmt' first past (stmts.Continuation name parameters)) = refl
part_widths s (parts.Stmt' first past f) = refl

parts_widths : (s : Scope) (ps : List Part) → info_widths (flat_map (part_infos s) ps) ≡ widths_in s (flat_map part_names ps)
parts_widths s [] = refl
parts_widths s (p ∷ ps) =
    map-append (λ v. v.width) (part_infos s p) (flat_map (part_infos s) ps)
    ∙ rw (part_widths s p, parts_widths s ps) (sym (flat_map-append (λ d. local_widths s d.as_what) (part_names p) (flat_map part_names ps)))

pub variables_are : (s : Scope) (p : ProcTree) → info_widths (variable_infos s p) ≡ widths_in s (own_names p)
variables_are s p = let parts = parts_of p.body in
    map-append (λ v. v.width) (map (formal_info s) p.formals) (flat_map (part_infos s) parts)
    ∙ rw (formal_widths s p.formals, parts_widths s parts) (sym (flat_map-append (λ d. local_widths s d.as_what) (map formal_name p.formals) (flat_map part_names parts)))

has_by : (o : Option VarInfo) (w : Width) → option_map (λ v. v.width) o ≡ Some w → ◌≡◌ {A = Bool} (elim o [ Some v ↦ same_width v.width w | None ↦ false ]) true
has_by (Some v) w is = let e : v.width ≡ w = let f : Some v.width ≡ Some w = is in cc in ap (λ u. same_width u w) e ∙ own_width w
has_by None w is = let e : None ≡ Some w = is in cc

-- ---- stackdata labels

item_after : (s : Scope) (form : RoomForm) (token place : ℕ) (rs : List Room) → ((at_ : ℕ) → length (stackdata_labels_from at_ (stack_items s rs)) ≡ how_many is_room (flat_map room_names rs)) →
    length (stackdata_labels_from place (stack_items s (record { token = token; form = form } ∷ rs))) ≡ how_many is_room (flat_map room_names (record { token = token; form = form } ∷ rs))
item_after s (rooms.Label name) token place rs later = ap suc (later _)
item_after s (rooms.Align k) token place rs later = later _
item_after s (rooms.Data width count) token place rs later = later _

items_labels : (s : Scope) (place : ℕ) (rs : List Room) → length (stackdata_labels_from place (stack_items s rs)) ≡ how_many is_room (flat_map room_names rs)
items_labels s place [] = refl
items_labels s place (r ∷ rs) = item_after s r.form r.token place rs (λ at_. items_labels s at_ rs)

variables_no_rooms : (t : TypeName) (is : List Ident) → how_many is_room (each_as (Variable t) is) ≡ 0
variables_no_rooms t [] = refl
variables_no_rooms t (i ∷ is) = variables_no_rooms t is

formals_no_rooms : (fs : List Formal) → how_many is_room (map formal_name fs) ≡ 0
formals_no_rooms [] = refl
formals_no_rooms (f ∷ fs) = formals_no_rooms fs

form_rooms : (form : LocalForm) (token past : ℕ) →
    how_many is_room (flat_map room_names (local_rooms (parts.Local record { token = token; past = past; form = form }))) ≡ how_many is_room (local_names form)
form_rooms (locals.Variables before width names) token past = sym (variables_no_rooms width names)
form_rooms (locals.Stackdata rs) token past = refl

part_rooms : (p : Part) → how_many is_room (flat_map room_names (local_rooms p)) ≡ how_many is_room (part_names p)
part_rooms (parts.Local l) = form_rooms l.form l.token l.past
part_rooms (parts.Stmt' first past (stmts.Label name)) = refl
part_rooms (parts.Stmt' first past (stmts.Continuation name parameters)) = refl
part_rooms (parts.Stmt' first past f) = refl

parts_rooms : (ps : List Part) → how_many is_room (flat_map room_names (flat_map local_rooms ps)) ≡ how_many is_room (flat_map part_names ps)
parts_rooms [] = refl
parts_rooms (p ∷ ps) =
    ap (how_many is_room) (flat_map-append room_names (local_rooms p) (flat_map local_rooms ps))
    ∙ how_many_append is_room (flat_map room_names (local_rooms p)) (flat_map room_names (flat_map local_rooms ps))
    ∙ rw (part_rooms p, parts_rooms ps) (sym (how_many_append is_room (part_names p) (flat_map part_names ps)))

pub rooms_are : (s : Scope) (p : ProcTree) → length (stackdata_labels (stack_items s (flat_map local_rooms (parts_of p.body)))) ≡ how_many is_room (own_names p)
rooms_are s p = let ps = parts_of p.body in
    items_labels s 0 (flat_map local_rooms ps) ∙ parts_rooms ps
    ∙ sym (how_many_append is_room (map formal_name p.formals) (flat_map part_names ps) ∙ ap (λ n. n + how_many is_room (flat_map part_names ps)) (formals_no_rooms p.formals)
    ∙ (let e : 0 + how_many is_room (flat_map part_names ps) ≡ how_many is_room (flat_map part_names ps) = omega arith in e))

pub continuations_are : (s : Scope) (p : ProcTree) → length (flat_map (part_conts s) (parts_of p.body)) ≡ how_many is_continuation (own_names p)
continuations_are s p = let ps = parts_of p.body in
    conts_are s ps
    ∙ sym (how_many_append is_continuation (map formal_name p.formals) (flat_map part_names ps)
    ∙ ap (λ n. n + how_many is_continuation (flat_map part_names ps)) (formals_none is_continuation continuations_alone p.formals)
    ∙ (let e : 0 + how_many is_continuation (flat_map part_names ps) ≡ how_many is_continuation (flat_map part_names ps) = omega arith in e))

-- ---- a procedure's names

module _ (p : Program) (outer : Senses) (unit : ℕ) (around : List SpanTree) (tree : ProcTree) where
  abbrev s : Scope
  s = scope_of outer tree

  abbrev q : Proc
  q = procedure_of outer unit around tree

  variable_fits : (name : List ℕ) (t : TypeName) (o : Option Width) → found name (own_names tree) ≡ Some (Variable t) → if_ok (type_width (types s) t) ≡ o →
      sense_fits p q (Some (meanings.Variable (number_in is_variable name (own_names tree)) o)) ≡ true
  variable_fits name t None is wide = refl
  variable_fits name t (Some w) is wide = let n = number_in is_variable name (own_names tree) in
      has_by (slice_get q.vars n) w
      (sym (slice_get-map (λ v. v.width) q.vars n) ∙ ap (λ ws. slice_get ws n) (variables_are s tree) ∙ variable_at s name t (own_names tree) is
      ∙ ap (λ x. Some (unwrap_or x W64)) wide)

  found_fits : NamesFit p q outer → (name : List ℕ) (o : Option Local) → found name (own_names tree) ≡ o →
      IsTrue (sense_fits p q (elim o [ Some l ↦ Some (local_sense s name l) | None ↦ outer name ]))
  found_fits fit name None is = fit name
  found_fits fit name (Some (Variable t)) is = variable_fits name t (if_ok (type_width (types s) t)) is refl
  found_fits fit name (Some RoomName) is =
      let below : number_in is_room name (own_names tree) < length (stackdata_labels q.stack) =
      subst (λ n. number_in is_room name (own_names tree) < n) (sym (rooms_are s tree)) (number_below is_room name RoomName (own_names tree) is refl) in
      lt-ltb (number_in is_room name (own_names tree)) (length (stackdata_labels q.stack)) below
  found_fits fit name (Some Label) is = refl
  found_fits fit name (Some Continuation) is =
      let below : number_in is_continuation name (own_names tree) < length q.conts =
      subst (λ n. number_in is_continuation name (own_names tree) < n) (sym (continuations_are s tree)) (number_below is_continuation name Continuation (own_names tree) is refl) in
      lt-ltb (number_in is_continuation name (own_names tree)) (length q.conts) below

pub scopes_fit : ScopesFit
scopes_fit p outer unit around tree fit name = found_fits p outer unit around tree fit name (found name (own_names tree)) refl
