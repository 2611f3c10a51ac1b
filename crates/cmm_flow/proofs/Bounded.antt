-- The statements of a procedure in range have room for its temporaries, beside its variables and the pairs of its continuations.
use Rattle.std.proofs.Common.{◌≡◌, ℕ, ◌+◌, ◌*◌, ◌-◌, ◌≤◌, ◌==◌, nat_le, IsTrue, flat_map, List, [], ◌∷◌, drop, length, take, refl, arith}
use Rattle.std.proofs.lemmas.Bool.{and_parts, eqb-true}
use Rattle.std.proofs.lemmas.List.{length-append, length-drop, length-take}
use Rattle.std.proofs.lemmas.List.Sums.{sum_by-cons}
use Rattle.std.specs.List.{list_all}
use Rattle.std.specs.Prelude.{sum_by}
use Rattle.cmm_program.specs.declared.procedure.Proc.{Proc}
use Rattle.cmm_program.specs.declared.procedure.VarInfo.{VarInfo}
use Rattle.cmm_program.specs.declared.program.Program.{Program}
use Rattle.cmm_program.specs.declared.statement.Form.{Form}
use Rattle.cmm_program.specs.declared.statement.Form.TheVariants.{Continuation}
use Rattle.cmm_program.specs.declared.statement.Statement.{Statement}
use Rattle.cmm_program.specs.Bodies.{body_statements}
use Rattle.cmm_program.specs.InRange.{IsProcInRange, is_form, is_site, is_statement}
use Rattle.cmm_program.specs.Numbering.{body_numbers, continuation_number}
use Rattle.cmm_program.specs.Tokens.{before_name, heading_tokens, local_tokens, own_tokens}
use Rattle.cmm_flow.specs.inside.LayingBlocks.{passes_own}
use Rattle.cmm_flow.specs.inside.Nodes.{nodes_of_form}
use Rattle.cmm_flow.proofs.Belongs.{belongs}
use Rattle.cmm_flow.proofs.Costs.{commas_least}
use Rattle.cmm_flow.proofs.FormsBelong.{form_belongs}
use Rattle.cmm_flow.proofs.Laying.{and_both}

module _ (p : Program) (q : Proc) where
  -- ---- declarations

  each_least : (vs : List VarInfo) → length vs ≤ sum_by (λ v. before_name v + 1) vs
  each_least [] = omega arith
  each_least (v ∷ vs) = omega (arith, sum_by-cons (λ (v : VarInfo). before_name v + 1) v vs, each_least vs)

  locals_least : (vs : List VarInfo) → length vs ≤ local_tokens vs
  locals_least [] = omega arith
  locals_least (v ∷ []) = omega arith
  locals_least (v ∷ w ∷ rest) = omega (arith, locals_least (w ∷ rest))

  pub variables_least : length q.vars + 5 ≤ heading_tokens q
  variables_least =
      omega (
        arith,
        each_least (take q.formals q.vars),
        commas_least (λ (v : VarInfo). before_name v + 1) (take q.formals q.vars),
        locals_least (drop q.formals q.vars),
        length-take q.formals q.vars,
        length-drop q.formals q.vars,
      )

  -- ---- statements

  abbrev own : Statement → ℕ
  own s = own_tokens q s.form

  -- the numbers of continuations among statements
  abbrev marked : List Statement → ℕ
  marked ss = length (flat_map (λ (s : Statement). continuation_number s.form) ss)

  mark_least : (f : Form) → 2 * length (continuation_number f) ≤ own_tokens q f
  mark_least (Continuation n) = omega arith
  mark_least f = omega arith

  marks_least : (ss : List Statement) → 2 * marked ss ≤ sum_by own ss
  marks_least [] = omega arith
  marks_least (s ∷ ss) =
      omega (
        arith,
        sum_by-cons own s ss,
        mark_least s.form,
        marks_least ss,
        length-append (continuation_number s.form) (flat_map (λ (s : Statement). continuation_number s.form) ss),
      )

  -- the nodes of statements, where a statement that is no continuation has at most what all leave besides continuations
  form_pass : (limit : ℕ) (sites : IsTrue (list_all (is_site p q) q.sites)) (tokens : ℕ) (f : Form) → IsTrue (is_form p q f) → own_tokens q f ≤ limit + 2 * length (continuation_number f) →
      IsTrue (list_all (belongs p q limit) (nodes_of_form q tokens f))
  form_pass limit sites tokens (Continuation n) is room = refl
  form_pass limit sites tokens f is room = form_belongs p q limit sites tokens f is (omega (arith, room))

  all_pass : (limit : ℕ) (sites : IsTrue (list_all (is_site p q) q.sites)) (ss : List Statement) → IsTrue (list_all (is_statement p q) ss) → sum_by own ss ≤ limit + 2 * marked ss →
      IsTrue (list_all (passes_own q (belongs p q limit)) ss)
  all_pass limit sites [] all room = refl
  all_pass limit sites (s ∷ ss) all room =
      let both = and_parts (is_statement p q s) (list_all (is_statement p q) ss) all in
      let is = (and_parts (is_form p q s.form) (nat_le (own_tokens q s.form) s.tokens) both.0).0 in
      let numbers = length-append (continuation_number s.form) (flat_map (λ (s : Statement). continuation_number s.form) ss) in
      let sum = sum_by-cons own s ss in
      and_both (passes_own q (belongs p q limit) s) (list_all (passes_own q (belongs p q limit)) ss)
      (form_pass limit sites s.tokens s.form is (omega (arith, room, numbers, sum, marks_least ss)))
      (all_pass limit sites ss both.1 (omega (arith, room, numbers, sum, mark_least s.form)))

  -- the limit: what all statements have, but for two tokens of each continuation
  abbrev pub room_of : ℕ
  room_of = sum_by own (body_statements q) - 2 * length q.conts

  module _ (range : IsProcInRange p q) where
    many : marked (body_statements q) ≡ length q.conts
    many =
        let both = and_parts (length (body_numbers continuation_number q) == length q.conts) _ range.continuations_numbered in
        eqb-true (length (body_numbers continuation_number q)) (length q.conts) both.0

    pub fits : room_of + length q.vars + 2 * length q.conts ≤ q.tokens
    fits = let shortest = range.shortest in omega (arith, shortest, variables_least, marks_least (body_statements q), many)

    pub statements_pass : IsTrue (list_all (passes_own q (belongs p q room_of)) (body_statements q))
    statements_pass = all_pass room_of range.sites (body_statements q) range.body (omega (arith, marks_least (body_statements q), many))
