-- Where no rule is broken, no variable, register or type is broken.
use Rattle.std.proofs.Common.{◌≡◌, ℕ, zero, suc, refl, subst, Bool, true, false, List, [], ◌∷◌, ◌++◌, Option, Some, None, Ok, Err, length}
use Rattle.std.specs.Prelude.{map, flat_map, bytes_eq}
use Rattle.cmm_words.specs.declared.width.Width.{Width}
use Rattle.cmm_words.specs.declared.constant.Constant.{Constant}
use Rattle.cmm_ast.specs.declared.token.Ident.{Ident}
use Rattle.cmm_ast.specs.declared.expression.Expr.{Expr}
use Rattle.cmm_ast.specs.declared.expression.TypeName.{TypeName}
use Rattle.cmm_ast.specs.declared.expression.TypeForm.{TypeForm}
use Rattle.cmm_ast.specs.declared.expression.TypeForm.TheVariants.{Bits as OfBits, Named as OfName}
use Rattle.cmm_ast.specs.declared.procedure.Formal.{Formal}
use Rattle.cmm_ast.specs.declared.procedure.LocalForm.{LocalForm}
use Rattle.cmm_ast.specs.declared.procedure.LocalForm.TheVariants as locals
use Rattle.cmm_ast.specs.declared.procedure.Proc.{Proc as ProcTree}
use Rattle.cmm_ast.specs.declared.procedure.Room.{Room}
use Rattle.cmm_ast.specs.declared.procedure.RoomForm.{RoomForm}
use Rattle.cmm_ast.specs.declared.procedure.RoomForm.TheVariants as rooms
use Rattle.cmm_ast.specs.declared.statement.Part.{Part}
use Rattle.cmm_ast.specs.declared.statement.Part.TheVariants as parts
use Rattle.cmm_ast.specs.declared.statement.StmtForm.TheVariants as stmts
use Rattle.cmm_static_semantics.specs.declared.judged.Bits.{Bits}
use Rattle.cmm_static_semantics.specs.declared.known.Known.{Known}
use Rattle.cmm_static_semantics.specs.declared.sense.Host.{Host}
use Rattle.cmm_static_semantics.specs.declared.sense.Sense.{Sense}
use Rattle.cmm_static_semantics.specs.declared.sense.Sense.TheVariants as meanings
use Rattle.cmm_static_semantics.specs.Senses.{Senses, host_named}
use Rattle.cmm_static_semantics.specs.Judging.{Judged, spots, if_ok}
use Rattle.cmm_static_semantics.specs.Constants.{as_number}
use Rattle.cmm_static_semantics.specs.Typing.{typedef_width, type_width}
use Rattle.cmm_static_semantics.specs.Items.{parts_of}
use Rattle.cmm_static_semantics.specs.Declarations.{Declared, Entry, Typedef, Const, Register, Import, DataLabel, Procedure, Local, Variable, Room as RoomName, Label, Continuation, found, each_as, formal_name, room_names, local_names, part_names, own_names, number_in, is_variable}
use Rattle.cmm_static_semantics.specs.Linking.{Program as Linked, register_number}
use Rattle.cmm_static_semantics.specs.Scopes.{Scope, types, senses, local_sense, width_in, valued, untyped_sense, typed_sense, const_sense, senses_by, unit_senses}
use Rattle.cmm_static_semantics.specs.Expressions.{type_spots}
use Rattle.cmm_static_semantics.specs.Statements.{scope_of, local_spots, part_spots, proc_spots}
use Rattle.cmm_static_semantics.specs.Units.{entry_spots}
use Rattle.cmm_elaboration.proofs.Nothing.{no_left, no_right}
use Rattle.cmm_elaboration.proofs.Cycles.{found_at}
use Rattle.cmm_elaboration.proofs.Declaring.{meant, type_wide}

-- what has a width has one
abbrev pub IsWide : Option Sense → Type 0
IsWide (Some (meanings.Variable n None)) = ⊥
IsWide (Some (meanings.Register n None)) = ⊥
IsWide (Some (meanings.Typedef None)) = ⊥
IsWide (Some (meanings.Variable n (Some w))) = Unit {0}
IsWide (Some (meanings.Register n (Some w))) = Unit {0}
IsWide (Some (meanings.Typedef (Some w))) = Unit {0}
IsWide (Some (meanings.Value c)) = Unit {0}
IsWide (Some (meanings.Broken w)) = Unit {0}
IsWide (Some (meanings.Stackdata n)) = Unit {0}
IsWide (Some (meanings.Continuation n)) = Unit {0}
IsWide (Some meanings.CodeLabel) = Unit {0}
IsWide (Some (meanings.Host h)) = Unit {0}
IsWide None = Unit {0}

-- ---- a unit

wide_typedef : (o : Option Width) → (o ≡ None → ⊥) → IsWide (Some (meanings.Typedef o))
wide_typedef (Some w) h = tt
wide_typedef None h = h refl

wide_register : (n : ℕ) (o : Option Width) → (o ≡ None → ⊥) → IsWide (Some (meanings.Register n o))
wide_register n (Some w) h = tt
wide_register n None h = h refl

wide_variable : (n : ℕ) (o : Option Width) → (o ≡ None → ⊥) → IsWide (Some (meanings.Variable n o))
wide_variable n (Some w) h = tt
wide_variable n None h = h refl

wide_valued : (w : Width) (j : Judged ℕ) → IsWide (Some (valued w j))
wide_valued w (Ok value) = tt
wide_valued w (Err broken) = tt

wide_untyped : (token : ℕ) (j : Judged (Bits Known)) → IsWide (Some (untyped_sense token j))
wide_untyped token (Ok x) = wide_valued x.width (as_number token x)
wide_untyped token (Err broken) = tt

wide_typed : (names : Senses) (x : Expr) (o : Option Width) → IsWide (Some (typed_sense names x o))
wide_typed names x (Some w) = wide_valued w _
wide_typed names x None = tt

wide_imported : (h : Option Host) (c : Constant) → IsWide (Some (elim h as (λ x. Sense) [ Some x ↦ meanings.Host x | None ↦ meanings.Value c ]))
wide_imported (Some x) c = tt
wide_imported None c = tt

module _ (program : Linked) (ds : List (Declared Entry)) where
  wide_const : (count : ℕ) (t : Option TypeName) (x : Expr) → IsWide (Some (const_sense program ds count t x))
  wide_const zero t x = tt
  wide_const (suc count) None x = wide_untyped x.token _
  wide_const (suc count) (Some t) x = wide_typed (senses_by program ds (const_sense program ds count)) x (width_in ds t)

  module _ (none : flat_map (entry_spots (unit_senses program ds) ds) ds ≡ []) where
    wide_meant : (count : ℕ) (name : List ℕ) (h : Option Host) (o : Option Entry) → found name ds ≡ o → IsWide (meant program ds (const_sense program ds count) name h o)
    wide_meant count name (Some x) o is = tt
    wide_meant count name None None is = tt
    wide_meant count name None (Some (Typedef t)) is =
        wide_typedef (width_in ds t) (type_wide program ds none t (no_left (type_spots (unit_senses program ds) t) _ (found_at (entry_spots (unit_senses program ds) ds) name (Typedef t) ds none is).nothing))
    wide_meant count name None (Some (Const t x)) is = wide_const count t x
    wide_meant count name None (Some (Register t)) is =
        wide_register (register_number program name) (width_in ds t) (type_wide program ds none t (found_at (entry_spots (unit_senses program ds) ds) name (Register t) ds none is).nothing)
    wide_meant count name None (Some (Import link)) is = wide_imported (host_named link) _
    wide_meant count name None (Some (DataLabel n)) is = tt
    wide_meant count name None (Some (Procedure n p)) is = tt

    -- also where constants are asked for in n steps alone
    pub steps_wide : (count : ℕ) (name : List ℕ) → IsWide (senses_by program ds (const_sense program ds count) name)
    steps_wide count name = wide_meant count name (host_named name) (found name ds) refl

    pub unit_wide : (name : List ℕ) → IsWide (unit_senses program ds name)
    unit_wide name = steps_wide (suc (length ds)) name

-- ---- a procedure

module _ (outer : Senses) (wide : (name : List ℕ) → IsWide (outer name)) (tree : ProcTree) where
  abbrev s : Scope
  s = scope_of outer tree

  outside : (name : List ℕ) (o : Option Local) → IsWide (elim o as (λ x. Option Sense) [ Some l ↦ None | None ↦ outer name ])
  outside name (Some l) = tt
  outside name None = wide name

  typedef_there : (token : ℕ) (sense : Option Sense) → IsWide sense → spots (typedef_width token sense) ≡ [] → if_ok (typedef_width token sense) ≡ None → ⊥
  typedef_there token (Some (meanings.Typedef (Some w))) h none e = let bad : Some w ≡ None = e in cc
  typedef_there token (Some (meanings.Typedef None)) h none e = h
  typedef_there token (Some (meanings.Variable n w)) h none e = cc
  typedef_there token (Some (meanings.Register n w)) h none e = cc
  typedef_there token (Some (meanings.Value c)) h none e = cc
  typedef_there token (Some (meanings.Broken w)) h none e = cc
  typedef_there token (Some (meanings.Stackdata n)) h none e = cc
  typedef_there token (Some (meanings.Continuation n)) h none e = cc
  typedef_there token (Some meanings.CodeLabel) h none e = cc
  typedef_there token (Some (meanings.Host x)) h none e = cc
  typedef_there token None h none e = cc

  type_there : (token : ℕ) (form : TypeForm) → type_spots (types s) record { token = token; form = form } ≡ [] → if_ok (type_width (types s) record { token = token; form = form }) ≡ None → ⊥
  type_there token (OfBits w) none e = let bad : Some w ≡ None = e in cc
  type_there token (OfName n) none e = typedef_there token (types s n) (outside n (found n s.own)) none e

  -- each variable's type breaks no rule
  abbrev IsGood : Local → Type 0
  IsGood (Variable t) = type_spots (types s) t ≡ []
  IsGood RoomName = Unit {0}
  IsGood Label = Unit {0}
  IsGood Continuation = Unit {0}

  abbrev EachGood : List (Declared Local) → Type 0
  EachGood [] = Unit {0}
  EachGood (d ∷ ds) = IsGood d.as_what × EachGood ds

  good_append : (xs ys : List (Declared Local)) → EachGood xs → EachGood ys → EachGood (xs ++ ys)
  good_append [] ys h k = k
  good_append (x ∷ xs) ys h k = (h.0, good_append xs ys h.1 k)

  good_by : (same : Bool) (x l : Local) (o : Option Local) → ◌≡◌ {A = Option Local} (elim same [ true ↦ Some x | false ↦ o ]) (Some l) → IsGood x → (o ≡ Some l → IsGood l) → IsGood l
  good_by true x l o is h later = subst IsGood (let e : Some x ≡ Some l = is in let f : x ≡ l = cc in f) h
  good_by false x l o is h later = later is

  good_found : (name : List ℕ) (l : Local) (ds : List (Declared Local)) → EachGood ds → found name ds ≡ Some l → IsGood l
  good_found name l [] each is = let bad : None ≡ Some l = is in cc
  good_found name l (d ∷ ds) each is = good_by (bytes_eq name d.name.name) d.as_what l (found name ds) is each.0 (good_found name l ds each.1)

  good_formals : (fs : List Formal) → flat_map (λ f. type_spots (types s) f.width) fs ≡ [] → EachGood (map formal_name fs)
  good_formals [] none = tt
  good_formals (f ∷ fs) none =
      (no_left (type_spots (types s) f.width) (flat_map (λ g. type_spots (types s) g.width) fs) none, good_formals fs (no_right (type_spots (types s) f.width) (flat_map (λ g. type_spots (types s) g.width) fs) none))

  good_names : (t : TypeName) (is : List Ident) → type_spots (types s) t ≡ [] → EachGood (each_as (Variable t) is)
  good_names t [] none = tt
  good_names t (i ∷ is) none = (none, good_names t is none)

  good_room : (form : RoomForm) (token : ℕ) → EachGood (room_names record { token = token; form = form })
  good_room (rooms.Label name) token = (tt, tt)
  good_room (rooms.Align k) token = tt
  good_room (rooms.Data width size) token = tt

  good_rooms : (rs : List Room) → EachGood (flat_map room_names rs)
  good_rooms [] = tt
  good_rooms (r ∷ rs) = good_append (room_names r) (flat_map room_names rs) (good_room r.form r.token) (good_rooms rs)

  good_local : (form : LocalForm) → local_spots s form ≡ [] → EachGood (local_names form)
  good_local (locals.Variables before width names) none = good_names width names none
  good_local (locals.Stackdata rs) none = good_rooms rs

  good_part : (p : Part) → part_spots s p ≡ [] → EachGood (part_names p)
  good_part (parts.Local l) none = good_local l.form none
  good_part (parts.Stmt' first past (stmts.Label name)) none = (tt, tt)
  good_part (parts.Stmt' first past (stmts.Continuation name parameters)) none = (tt, tt)
  good_part (parts.Stmt' first past f) none = tt

  good_parts : (ps : List Part) → flat_map (part_spots s) ps ≡ [] → EachGood (flat_map part_names ps)
  good_parts [] none = tt
  good_parts (p ∷ ps) none =
      good_append (part_names p) (flat_map part_names ps) (good_part p (no_left (part_spots s p) (flat_map (part_spots s) ps) none)) (good_parts ps (no_right (part_spots s p) (flat_map (part_spots s) ps) none))

  good_own : proc_spots outer tree ≡ [] → EachGood (own_names tree)
  good_own none = good_append (map formal_name tree.formals) (flat_map part_names (parts_of tree.body))
      (good_formals tree.formals (no_right _ (flat_map (λ f. type_spots (types s) f.width) tree.formals) (no_left _ (flat_map (part_spots s) (parts_of tree.body)) none)))
      (good_parts (parts_of tree.body) (no_right _ (flat_map (part_spots s) (parts_of tree.body)) none))

  wide_local : proc_spots outer tree ≡ [] → (name : List ℕ) (l : Local) → found name s.own ≡ Some l → IsWide (Some (local_sense s name l))
  wide_local none name (Variable t) is =
      wide_variable (number_in is_variable name s.own) (if_ok (type_width (types s) t)) (type_there t.token t.form (good_found name (Variable t) s.own (good_own none) is))
  wide_local none name RoomName is = tt
  wide_local none name Label is = tt
  wide_local none name Continuation is = tt

  wide_by : proc_spots outer tree ≡ [] → (name : List ℕ) (o : Option Local) → found name s.own ≡ o →
      IsWide (elim o as (λ x. Option Sense) [ Some l ↦ Some (local_sense s name l) | None ↦ outer name ])
  wide_by none name (Some l) is = wide_local none name l is
  wide_by none name None is = wide name

  -- so no name of a procedure that keeps the rules is broken
  pub scope_wide : proc_spots outer tree ≡ [] → (name : List ℕ) → IsWide (senses s name)
  scope_wide none name = wide_by none name (found name s.own) refl
