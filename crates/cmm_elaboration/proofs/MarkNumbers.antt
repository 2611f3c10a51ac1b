-- The labels and the continuations of a body are numbered in textual order, where no name of the procedure is declared twice.
use Rattle.std.proofs.Common.{◌≡◌, ℕ, refl, sym, ap, ◌∙◌, subst, List, [], ◌∷◌, ◌++◌, append-nil, length, length-append, Bool, true, false, Some, None, IsTrue}
use Rattle.std.specs.Prelude.{map, flat_map}
use Rattle.std.specs.List.{range_with_len}
use Rattle.std.proofs.lemmas.List.FromFn.{length-range_with_len}
use Rattle.cmm_ast.specs.declared.token.Ident.{Ident}
use Rattle.cmm_ast.specs.declared.expression.TypeName.{TypeName}
use Rattle.cmm_ast.specs.declared.procedure.Formal.{Formal}
use Rattle.cmm_ast.specs.declared.procedure.LocalForm.{LocalForm}
use Rattle.cmm_ast.specs.declared.procedure.LocalForm.TheVariants as locals
use Rattle.cmm_ast.specs.declared.procedure.Proc.{Proc as ProcTree}
use Rattle.cmm_ast.specs.declared.procedure.Room.{Room}
use Rattle.cmm_ast.specs.declared.procedure.RoomForm.{RoomForm}
use Rattle.cmm_ast.specs.declared.procedure.RoomForm.TheVariants as rooms
use Rattle.cmm_ast.specs.declared.statement.Callee.{Callee}
use Rattle.cmm_ast.specs.declared.statement.Part.{Part}
use Rattle.cmm_ast.specs.declared.statement.Part.TheVariants as parts
use Rattle.cmm_ast.specs.declared.statement.StmtForm.TheVariants as stmts
use Rattle.cmm_program.specs.declared.expression.Expression.{Expression}
use Rattle.cmm_program.specs.declared.statement.Form.{Form}
use Rattle.cmm_program.specs.declared.statement.Form.TheVariants as forms
use Rattle.cmm_program.specs.Numbering.{are_each_once, body_numbers, label_number, continuation_number}
use Rattle.cmm_ast.specs.declared.unit.Item.TheVariants as items
use Rattle.cmm_static_semantics.specs.Senses.{Senses}
use Rattle.cmm_static_semantics.specs.Items.{SpanTree, parts_of}
use Rattle.cmm_static_semantics.specs.Declarations.{Local, Variable, Room as RoomName, Label, Continuation, again, each_as, formal_name, room_names, local_names, part_names, own_names, is_label, is_continuation, named_units}
use Rattle.cmm_static_semantics.specs.Faults.{item_procedure_spots}
use Rattle.cmm_static_semantics.specs.Limits.{proc_limits}
use Rattle.cmm_static_semantics.specs.Linking.{program_of}
use Rattle.cmm_static_semantics.specs.Scopes.{Scope, senses, unit_senses}
use Rattle.cmm_static_semantics.specs.Calls.{foreign_callee}
use Rattle.cmm_static_semantics.specs.Statements.{scope_of, proc_spots}
use Rattle.cmm_elaboration.specs.Resolving.{values_of, callee_of}
use Rattle.cmm_elaboration.specs.Sites.{is_yield}
use Rattle.cmm_elaboration.specs.Bodies.{part_of}
use Rattle.cmm_elaboration.specs.Procedures.{procedure_of, part_conts}
use Rattle.cmm_elaboration.specs.Laws.{AreInOrder, MarksInOrder, MarksAreInOrder}
use Rattle.cmm_elaboration.proofs.Everywhere.{all_accepted}
use Rattle.cmm_elaboration.proofs.Nothing.{no_left}
use Rattle.cmm_elaboration.proofs.Flat.{procedure_is}
use Rattle.cmm_elaboration.proofs.Counting.{numbers_in, host_number, return_number}
use Rattle.cmm_elaboration.proofs.Ranges.{each_once}
use Rattle.cmm_elaboration.proofs.Naming.{how_many, how_many_append, IsNumbering, WithNone, WithOne, again_rest, numbers_ascend}

-- ---- declarations of variables and stackdata

-- what neither a variable nor a room of stackdata passes
pub record IsOfStatements (test : Local → Bool) : Type 0 where
  pub variables : (t : TypeName) → test (Variable t) ≡ false
  pub rooms : test RoomName ≡ false

module _ (test : Local → Bool) (none : IsOfStatements test) where
  variables_none : (t : TypeName) (names : List Ident) → how_many test (each_as (Variable t) names) ≡ 0
  variables_none t [] = refl
  variables_none t (i ∷ is) = rw (none.variables t) (variables_none t is)

  pub formals_none : (fs : List Formal) → how_many test (map formal_name fs) ≡ 0
  formals_none [] = refl
  formals_none (f ∷ fs) = rw (none.variables f.width) (formals_none fs)

  room_none : (form : RoomForm) (token : ℕ) → how_many test (room_names record { token = token; form = form }) ≡ 0
  room_none (rooms.Label name) token = rw none.rooms refl
  room_none (rooms.Align k) token = refl
  room_none (rooms.Data width count) token = refl

  rooms_none : (rs : List Room) → how_many test (flat_map room_names rs) ≡ 0
  rooms_none [] = refl
  rooms_none (r ∷ rs) = how_many_append test (room_names r) (flat_map room_names rs) ∙ rw (room_none r.form r.token, rooms_none rs) refl

  pub local_none : (form : LocalForm) → how_many test (local_names form) ≡ 0
  local_none (locals.Variables before width names) = variables_none width names
  local_none (locals.Stackdata rs) = rooms_none rs

pub labels_alone : IsOfStatements is_label
labels_alone = record { variables = λ t. refl; rooms = refl }

pub continuations_alone : IsOfStatements is_continuation
continuations_alone = record { variables = λ t. refl; rooms = refl }

-- ---- the number of each part

call_none : (number : Form → List ℕ) → ((n : ℕ) (vs : List Expression) → number (forms.Yield n vs) ≡ []) → ((n : ℕ) (e : Expression) (vs : List Expression) → number (forms.Call n e vs) ≡ []) →
    (s : Scope) (n : ℕ) (c : Callee) (values : List Expression) (b : Bool) →
    number (elim b [ true ↦ forms.Yield n values | false ↦ forms.Call n (callee_of (senses s) c) values ]) ≡ []
call_none number yield call s n c values true = yield n values
call_none number yield call s n c values false = call n (callee_of (senses s) c) values

one : (number : Form → List ℕ) (f : Form) → number f ≡ [] → number f ++ [] ≡ []
one number f is = append-nil (number f) ∙ is

pub label_part : (s : Scope) (n : ℕ) (p : Part) → IsNumbering is_label (part_names p) s.own (numbers_in label_number (part_of s n p))
label_part s n (parts.Local l) = WithNone (local_none is_label labels_alone l.form) refl
label_part s n (parts.Stmt' first past (stmts.If' c _ body otherwise)) = WithNone refl refl
label_part s n (parts.Stmt' first past (stmts.Switch' range value _ arms)) = WithNone refl refl
label_part s n (parts.Stmt' first past (stmts.Span' key value _ body)) = WithNone refl refl
label_part s n (parts.Stmt' first past (stmts.Assign to values)) = WithNone refl refl
label_part s n (parts.Stmt' first past (stmts.Checked result operator left right flows)) = WithNone refl refl
label_part s n (parts.Stmt' first past (stmts.Call results None callee actuals flows)) =
    WithNone refl (one label_number _ (call_none label_number (λ m vs. refl) (λ m e vs. refl) s n callee (values_of (senses s) actuals) (is_yield s callee)))
label_part s n (parts.Stmt' first past (stmts.Call results (Some convention) callee actuals flows)) =
    WithNone refl (one label_number _ (host_number label_number (λ x. refl) (λ t. refl) refl s (foreign_callee s callee) results (values_of (senses s) actuals)))
label_part s n (parts.Stmt' first past (stmts.Jump callee actuals)) = WithNone refl refl
label_part s n (parts.Stmt' first past (stmts.Return exit None)) = WithNone refl (one label_number _ (return_number label_number (λ x m es. refl) s exit []))
label_part s n (parts.Stmt' first past (stmts.Return exit (Some values))) =
    WithNone refl (one label_number _ (return_number label_number (λ x m es. refl) s exit (values_of (senses s) values)))
label_part s n (parts.Stmt' first past (stmts.Label name)) = WithOne record { name = name; as_what = Label } refl refl refl
label_part s n (parts.Stmt' first past (stmts.Continuation name parameters)) = WithNone refl refl
label_part s n (parts.Stmt' first past (stmts.Goto name)) = WithNone refl refl
label_part s n (parts.Stmt' first past (stmts.Cut callee actuals flows)) = WithNone refl refl
label_part s n (parts.Stmt' first past stmts.Empty) = WithNone refl refl

continuation_part : (s : Scope) (n : ℕ) (p : Part) → IsNumbering is_continuation (part_names p) s.own (numbers_in continuation_number (part_of s n p))
continuation_part s n (parts.Local l) = WithNone (local_none is_continuation continuations_alone l.form) refl
continuation_part s n (parts.Stmt' first past (stmts.If' c _ body otherwise)) = WithNone refl refl
continuation_part s n (parts.Stmt' first past (stmts.Switch' range value _ arms)) = WithNone refl refl
continuation_part s n (parts.Stmt' first past (stmts.Span' key value _ body)) = WithNone refl refl
continuation_part s n (parts.Stmt' first past (stmts.Assign to values)) = WithNone refl refl
continuation_part s n (parts.Stmt' first past (stmts.Checked result operator left right flows)) = WithNone refl refl
continuation_part s n (parts.Stmt' first past (stmts.Call results None callee actuals flows)) =
    WithNone refl (one continuation_number _ (call_none continuation_number (λ m vs. refl) (λ m e vs. refl) s n callee (values_of (senses s) actuals) (is_yield s callee)))
continuation_part s n (parts.Stmt' first past (stmts.Call results (Some convention) callee actuals flows)) =
    WithNone refl (one continuation_number _ (host_number continuation_number (λ x. refl) (λ t. refl) refl s (foreign_callee s callee) results (values_of (senses s) actuals)))
continuation_part s n (parts.Stmt' first past (stmts.Jump callee actuals)) = WithNone refl refl
continuation_part s n (parts.Stmt' first past (stmts.Return exit None)) = WithNone refl (one continuation_number _ (return_number continuation_number (λ x m es. refl) s exit []))
continuation_part s n (parts.Stmt' first past (stmts.Return exit (Some values))) =
    WithNone refl (one continuation_number _ (return_number continuation_number (λ x m es. refl) s exit (values_of (senses s) values)))
continuation_part s n (parts.Stmt' first past (stmts.Label name)) = WithNone refl refl
continuation_part s n (parts.Stmt' first past (stmts.Continuation name parameters)) = WithOne record { name = name; as_what = Continuation } refl refl refl
continuation_part s n (parts.Stmt' first past (stmts.Goto name)) = WithNone refl refl
continuation_part s n (parts.Stmt' first past (stmts.Cut callee actuals flows)) = WithNone refl refl
continuation_part s n (parts.Stmt' first past stmts.Empty) = WithNone refl refl

-- ---- a procedure none of whose names is declared twice

module _ (test : Local → Bool) (number : Form → List ℕ) (alone : IsOfStatements test)
    (each : (s : Scope) (n : ℕ) (p : Part) → IsNumbering test (part_names p) s.own (numbers_in number (part_of s n p))) where
  pub marks_ascend : (names : Senses) (unit : ℕ) (around : List SpanTree) (p : ProcTree) → again [] (own_names p) ≡ [] →
      body_numbers number (procedure_of names unit around p) ≡ range_with_len 0 (how_many test (flat_map part_names (parts_of p.body)))
  marks_ascend names unit around p once =
      let s = scope_of names p in let formals = map formal_name p.formals in let rest = flat_map part_names (parts_of p.body) in
      ap (numbers_in number) (procedure_is names unit around p)
      ∙ numbers_ascend test number s (each s) 0 formals (parts_of p.body) refl (again_rest [] formals rest once)
      ∙ ap (λ n. range_with_len n (how_many test rest)) (formals_none test alone p.formals)

  -- and each number stands once
  pub marks_in_order : (names : Senses) (unit : ℕ) (around : List SpanTree) (p : ProcTree) (count : ℕ) → again [] (own_names p) ≡ [] →
      count ≡ how_many test (flat_map part_names (parts_of p.body)) → AreInOrder number count (procedure_of names unit around p)
  marks_in_order names unit around p count once is =
      let numbers : body_numbers number (procedure_of names unit around p) ≡ range_with_len 0 count =
      marks_ascend names unit around p once ∙ ap (range_with_len 0) (sym is) in
      record { ascending = numbers; once = subst (λ ns. IsTrue (are_each_once count ns)) (sym numbers) (each_once count) }

-- ---- labels, which are as many as their numbers, and continuations

pub labels_in_order : (names : Senses) (unit : ℕ) (around : List SpanTree) (p : ProcTree) → again [] (own_names p) ≡ [] →
    let q = procedure_of names unit around p in AreInOrder label_number (length (body_numbers label_number q)) q
labels_in_order names unit around p once =
    let rest = flat_map part_names (parts_of p.body) in
    marks_in_order is_label label_number labels_alone label_part names unit around p _ once
    (ap length (marks_ascend is_label label_number labels_alone label_part names unit around p once) ∙ length-range_with_len 0 (how_many is_label rest))

pub part_conts_are : (s : Scope) (p : Part) → length (part_conts s p) ≡ how_many is_continuation (part_names p)
part_conts_are s (parts.Local l) = sym (local_none is_continuation continuations_alone l.form)
part_conts_are s (parts.Stmt' first past (stmts.Continuation name parameters)) = refl
part_conts_are s (parts.Stmt' first past (stmts.Label name)) = refl
part_conts_are s (parts.Stmt' first past f) = refl

pub conts_are : (s : Scope) (ps : List Part) → length (flat_map (part_conts s) ps) ≡ how_many is_continuation (flat_map part_names ps)
conts_are s [] = refl
conts_are s (p ∷ ps) =
    length-append (part_conts s p) (flat_map (part_conts s) ps)
    ∙ rw (part_conts_are s p, conts_are s ps) (sym (how_many_append is_continuation (part_names p) (flat_map part_names ps)))

pub continuations_in_order : (names : Senses) (unit : ℕ) (around : List SpanTree) (p : ProcTree) → again [] (own_names p) ≡ [] →
    let q = procedure_of names unit around p in AreInOrder continuation_number (length q.conts) q
continuations_in_order names unit around p once =
    marks_in_order is_continuation continuation_number continuations_alone continuation_part names unit around p _ once (conts_are (scope_of names p) (parts_of p.body))

-- ---- of accepted units

-- no name of a procedure without broken rules is declared twice
pub declared_once : (names : Senses) (p : ProcTree) → item_procedure_spots names (items.Proc p) ≡ [] → again [] (own_names p) ≡ []
declared_once names p none =
    no_left _ _ (no_left _ _ (no_left _ _ (no_left (proc_spots names p) (proc_limits names p) none)))

pub marks_are_in_order : MarksAreInOrder
marks_are_in_order us accepted = all_accepted MarksInOrder us accepted (λ earlier u number place around p none.
    let names = unit_senses (program_of (named_units us)) u.entries in let once = declared_once names p none in
    record { labels = labels_in_order names number around p once; continuations = continuations_in_order names number around p once })
