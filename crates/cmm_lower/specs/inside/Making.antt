-- Statements and call sites that are made together, from trees before which n call sites stand.
use Rattle.std.specs.Prelude.{◌≡◌, ℕ, ◌+◌, List, [], ◌∷◌, ◌++◌, true, false, flat_map, length, map, Option}
use Rattle.cmm_words.specs.declared.width.Width.{Width}
use Rattle.cmm_ast.specs.declared.statement.Arm.{Arm as ArmTree}
use Rattle.cmm_ast.specs.declared.statement.Otherwise.{Otherwise}
use Rattle.cmm_ast.specs.declared.statement.Part.{Part}
use Rattle.cmm_ast.specs.declared.statement.Part.TheVariants as parts
use Rattle.cmm_ast.specs.declared.statement.Stmt.{Stmt}
use Rattle.cmm_ast.specs.declared.statement.StmtForm.{StmtForm}
use Rattle.cmm_program.specs.declared.procedure.Site.{Site}
use Rattle.cmm_program.specs.declared.statement.Arm.{Arm, roll-Arm}
use Rattle.cmm_program.specs.declared.statement.Form.{Form}
use Rattle.cmm_program.specs.declared.statement.Statement.{Statement}
use Rattle.cmm_static_semantics.specs.Items.{SpanTree, Within, part_within, parts_in, parts_inside, parts_otherwise}
use Rattle.cmm_static_semantics.specs.Limits.{is_site, site_count}
use Rattle.cmm_static_semantics.specs.Scopes.{Scope, senses}
use Rattle.cmm_symbols.specs.Shown.{whats}
use Rattle.cmm_elaboration.specs.Sites.{SpanValue, innermost, sites_among, span_value}
use Rattle.cmm_elaboration.specs.Bodies.{case_of, counted, form_of, otherwise_of, part_of}
use Rattle.cmm_lower.specs.Fitting.{FormFits, PartsFit}

-- ---- what stands for each of some trees

module _ {A B : Type 0} (inside : List SpanTree → A → List (Within Part)) (make : ℕ → A → List B) where
  abbrev pub from : ℕ → List A → List B
  from n [] = []
  from n (x ∷ xs) = make n x ++ from (n + site_count (whats (inside [] x))) xs

abbrev pub parts_from : Scope → ℕ → List Part → List Statement
parts_from s = from part_within (part_of s)

abbrev pub arm_inside : List SpanTree → ArmTree → List (Within Part)
arm_inside spans a = parts_in spans a.body

abbrev pub arm_of : Scope → Option Width → ℕ → ArmTree → List Arm
arm_of s width n a = roll-Arm record { case = case_of s width a.case; body = parts_from s n a.body.parts } ∷ []

abbrev pub arms_from : Scope → Option Width → ℕ → List ArmTree → List Arm
arms_from s width = from arm_inside (arm_of s width)

-- a statement may be a call site itself
abbrev pub own_sites : StmtForm → ℕ
own_sites f = elim (is_site f) [ true ↦ 1 | false ↦ 0 ]

-- ---- made in spans in force, where call sites were before and are after

-- the spans in force are those of some trees, and those around the procedure
abbrev pub AreInForce : Scope → List SpanValue → List SpanTree → List SpanValue → Type 0
AreInForce s in_force spans around = in_force ≡ innermost (map (span_value (senses s)) spans ++ around)

module _ (s : Scope) (in_force : List SpanValue) (before after : List Site) where
  -- of some trees those that are done
  abbrev pub AreMade : {A B : Type 0} → (List SpanTree → A → List (Within Part)) → (ℕ → A → List B) → List A → List A → List B → Type 0
  AreMade inside make all done made = (spans : List SpanTree) (around : List SpanValue) → AreInForce s in_force spans around →
      PartsFit s (length before) (whats (flat_map (inside spans) all)) →
      (made ≡ from inside make (length before) done) × (after ≡ before ++ sites_among s around (flat_map (inside spans) done))

  abbrev pub PartsMade : List Part → List Statement → Type 0
  PartsMade ps made = AreMade part_within (part_of s) ps ps made

  abbrev pub ArmsMade : Option Width → List ArmTree → List Arm → Type 0
  ArmsMade width as_ made = AreMade arm_inside (arm_of s width) as_ as_ made

  -- one part, behind others
  abbrev pub PartMade : Part → List Statement → List Statement → Type 0
  PartMade p old new = (spans : List SpanTree) (around : List SpanValue) → AreInForce s in_force spans around →
      PartsFit s (length before) (whats (part_within spans p)) →
      (new ≡ old ++ part_of s (length before) p) × (after ≡ before ++ sites_among s around (part_within spans p))

  abbrev pub OtherwiseMade : Otherwise → List Statement → Type 0
  OtherwiseMade o made = (spans : List SpanTree) (around : List SpanValue) → AreInForce s in_force spans around →
      PartsFit s (length before) (whats (parts_otherwise spans o)) →
      (made ≡ otherwise_of s (length before) o) × (after ≡ before ++ sites_among s around (parts_otherwise spans o))

  abbrev pub StatementMade : Stmt → Statement → Type 0
  StatementMade t made = (spans : List SpanTree) (around : List SpanValue) → AreInForce s in_force spans around →
      PartsFit s (length before) (whats (part_within spans (parts.Stmt t))) →
      (made ≡ counted t.token t.past t.form (form_of s (length before) t.form)) × (after ≡ before ++ sites_among s around (part_within spans (parts.Stmt t)))

  -- what a statement is, where its own site, if it is one, stands already among those before
  abbrev pub FormMade : ℕ → StmtForm → Form → Type 0
  FormMade n f made = (spans : List SpanTree) (around : List SpanValue) → AreInForce s in_force spans around → FormFits s f →
      length before ≡ n + own_sites f → PartsFit s (length before) (whats (parts_inside spans f)) →
      (made ≡ form_of s n f) × (after ≡ before ++ sites_among s around (parts_inside spans f))
