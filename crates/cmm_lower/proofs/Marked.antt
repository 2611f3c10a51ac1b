-- Where no name of a procedure is declared twice, each label and each continuation of its body is declared as what it is.
use Rattle.std.proofs.Common.{◌≡◌, refl, sym, ap, ◌∙◌, subst, Bool, true, false, List, [], ◌∷◌, ◌++◌, append_assoc, Option, Some, None}
use Rattle.std.specs.Prelude.{bytes_eq, flat_map, map, IsTrue}
use Rattle.std.specs.List.{All}
use Rattle.std.proofs.lemmas.List.Elements.{All-nil, All-cons}
use Rattle.cmm_ast.specs.declared.procedure.Proc.{Proc as ProcTree}
use Rattle.cmm_ast.specs.declared.statement.Part.{Part}
use Rattle.cmm_ast.specs.declared.statement.Part.TheVariants as parts
use Rattle.cmm_ast.specs.declared.statement.StmtForm.{StmtForm}
use Rattle.cmm_ast.specs.declared.statement.StmtForm.TheVariants as stmts
use Rattle.cmm_static_semantics.specs.Declarations.{Declared, Local, Label, Continuation, again, each_as, formal_name, found, is_continuation, is_declared, is_label, own_names, part_names}
use Rattle.cmm_static_semantics.specs.Items.{parts_of}
use Rattle.cmm_static_semantics.specs.Scopes.{Scope}
use Rattle.cmm_static_semantics.specs.Senses.{Senses}
use Rattle.cmm_static_semantics.specs.Statements.{scope_of}
use Rattle.cmm_elaboration.proofs.Shared.{again_head, again_rest, same_name}

abbrev pub IsMarked : Scope → Part → Type 0
IsMarked s (parts.Local l) = Unit {0}
IsMarked s (parts.Stmt' first past (stmts.Label i)) = IsTrue (is_declared is_label i.name s.own)
IsMarked s (parts.Stmt' first past (stmts.Continuation i parameters)) = IsTrue (is_declared is_continuation i.name s.own)
IsMarked s (parts.Stmt' first past form) = Unit {0}

found_step : {A : Type 0} (b : Bool) (x y : A) (o r : Option A) → ◌≡◌ {A = Option A} (elim b [ true ↦ Some x | false ↦ o ]) None → (o ≡ None → r ≡ Some y) →
    ◌≡◌ {A = Option A} (elim b [ true ↦ Some x | false ↦ r ]) (Some y)
found_step true x y o r e f = absurd (let bad : Some x ≡ None = e in cc)
found_step false x y o r e f = f e

-- a name that stands behind others that are not it
found_here : {A : Type 0} (d : Declared A) (earlier rest : List (Declared A)) → found d.name.name earlier ≡ None → found d.name.name (earlier ++ d ∷ rest) ≡ Some d.as_what
found_here d [] rest none = ap (λ b. elim b [ true ↦ Some d.as_what | false ↦ found d.name.name rest ]) (same_name d.name.name)
found_here d (e ∷ es) rest none =
    found_step (bytes_eq d.name.name e.name.name) e.as_what d.as_what (found d.name.name es) (found d.name.name (es ++ d ∷ rest)) none (found_here d es rest)

declared_here : (test : Local → Bool) (d : Declared Local) (own earlier rest : List (Declared Local)) → own ≡ earlier ++ d ∷ rest → again [] own ≡ [] → test d.as_what ≡ true →
    is_declared test d.name.name own ≡ true
declared_here test d own earlier rest is once passes =
    let behind : again earlier (d ∷ rest) ≡ [] = again_rest [] earlier (d ∷ rest) (subst (λ ds. again [] ds ≡ []) is once) in
    ap (λ ds. is_declared test d.name.name ds) is
    ∙ ap (λ o. elim o [ Some a ↦ test a | None ↦ false ]) (found_here d earlier rest (again_head earlier d rest behind)) ∙ passes

one_marked : (s : Scope) (p : Part) (earlier rest : List (Declared Local)) → s.own ≡ earlier ++ (part_names p ++ rest) → again [] s.own ≡ [] → IsMarked s p
one_marked s (parts.Local l) earlier rest is once = tt
one_marked s (parts.Stmt' first past (stmts.Label i)) earlier rest is once =
    declared_here is_label (record { name = i; as_what = Label }) s.own earlier rest is once refl
one_marked s (parts.Stmt' first past (stmts.Continuation i parameters)) earlier rest is once =
    declared_here is_continuation (record { name = i; as_what = Continuation }) s.own earlier rest is once refl
one_marked s (parts.Stmt' first past form) earlier rest is once = tt

all_marked : (s : Scope) (ps : List Part) (earlier : List (Declared Local)) → s.own ≡ earlier ++ flat_map part_names ps → again [] s.own ≡ [] → All (IsMarked s) ps
all_marked s [] earlier is once = All-nil (IsMarked s)
all_marked s (p ∷ ps) earlier is once =
    All-cons (IsMarked s) p ps (one_marked s p earlier (flat_map part_names ps) is once)
    (all_marked s ps (earlier ++ part_names p) (is ∙ sym (append_assoc earlier (part_names p) (flat_map part_names ps))) once)

pub marked : (outer : Senses) (p : ProcTree) → again [] (own_names p) ≡ [] → All (IsMarked (scope_of outer p)) (parts_of p.body)
marked outer p once = all_marked (scope_of outer p) (parts_of p.body) (map formal_name p.formals) refl once
