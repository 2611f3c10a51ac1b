-- Each procedure of accepted units that derive some tokens counts at least the tokens of its shortest text.
use Rattle.std.proofs.Common.{◌≡◌, ℕ, suc, ◌+◌, ◌-◌, ◌≤◌, ap, subst, true, List, [], ◌∷◌, ◌++◌, Some, arith, length, take, drop, All}
use Rattle.std.specs.Prelude.{map, flat_map, nat_le, sum_by}
use Rattle.std.specs.List.{list_all}
use Rattle.std.proofs.lemmas.Bool.{and_parts, leb-true}
use Rattle.std.proofs.lemmas.List.Elements.{All-head, All-tail}
use Rattle.std.proofs.lemmas.List.Sums.{sum_by-cons}
use Rattle.std.proofs.lemmas.List.{length-map, take_at, drop_at}
use Rattle.cmm_lexer.specs.declared.symbol.Symbol.TheVariants as sign
use Rattle.cmm_ast.specs.declared.procedure.Proc.{Proc as ProcTree}
use Rattle.cmm_ast.specs.declared.statement.Otherwise.TheBlock as OtherwiseForms
use Rattle.cmm_ast.specs.declared.statement.Part.{Part}
use Rattle.cmm_ast.specs.declared.statement.Part.TheVariants as parts
use Rattle.cmm_grammar.specs.Taking.{Reading, ◌⨾◌, token, is_name, here, round, may_list}
use Rattle.cmm_grammar.specs.ExpressionGrammar.{ident}
use Rattle.cmm_grammar.specs.StatementGrammar.{formal, part_row, block, proc}
use Rattle.cmm_program.specs.declared.procedure.Proc.{Proc}
use Rattle.cmm_program.specs.declared.procedure.VarInfo.{VarInfo}
use Rattle.cmm_program.specs.declared.statement.Statement.{Statement}
use Rattle.cmm_program.specs.Bodies.{body_statements}
use Rattle.cmm_program.specs.Tokens.{with_commas, before_name, local_tokens, stackdata_tokens, own_tokens, procedure_tokens}
use Rattle.cmm_static_semantics.specs.Senses.{Senses}
use Rattle.cmm_static_semantics.specs.Items.{SpanTree, Within, parts_in, parts_of, parts_row, part_within}
use Rattle.cmm_static_semantics.specs.Declarations.{named_units}
use Rattle.cmm_static_semantics.specs.Limits.{local_rooms}
use Rattle.cmm_static_semantics.specs.Linking.{program_of}
use Rattle.cmm_static_semantics.specs.Scopes.{Scope, senses, unit_senses}
use Rattle.cmm_static_semantics.specs.Statements.{scope_of}
use Rattle.cmm_elaboration.specs.Bodies.{row_length}
use Rattle.cmm_elaboration.specs.Procedures.{formal_info, part_infos, stack_items, procedure_of}
use Rattle.cmm_elaboration.specs.Laws.{ProceduresHaveShortest}
use Rattle.cmm_elaboration.proofs.Derived.{Taken, middle, block_is}
use Rattle.cmm_static_semantics.proofs.Shared.{hidden_parts}
use Rattle.cmm_elaboration.proofs.Flat.{whats, flat_from, procedure_is}
use Rattle.cmm_elaboration.proofs.Steady.{here_is}
use Rattle.cmm_elaboration.proofs.BodyTokens.{owns, sum_owns, without_spans, all_declared, flat_counted, row_fits}
use Rattle.cmm_elaboration.proofs.TakenParts.{PartTaken, body_taken}
use Rattle.cmm_elaboration.proofs.Spent.{IsShort, enclosed_of}
use Rattle.cmm_elaboration.proofs.SpentForms.{ident_token, list_cost}
use Rattle.cmm_elaboration.proofs.SpentHeadings.{stack_least, stack_few, formal_cost, local_cost}
use Rattle.cmm_elaboration.proofs.SpentNames.{unit_short, scope_short}
use Rattle.cmm_elaboration.proofs.SpentBodies.{all_taken, tree_shortest}

-- a body between its braces
block_room : (ps : List Part) (r t : Reading) → block (record { parts = ps }) r ≡ Some t → r.taken + 2 + owns (flat_map (part_within []) ps) ≤ t.taken
block_room ps r t is =
    let row = OtherwiseForms.hidden-the_row-Part-0 ps in
    let e = enclosed_of sign.OpenBrace (part_row row) sign.CloseBrace r t (subst (λ p. p r ≡ Some t) (block_is ps) is) in
    let f = row_fits [] _ row e.from e.to e.is in
    let low : e.from.taken ≡ suc r.taken = e.low in let high : t.taken ≡ suc e.to.taken = e.high in
    let few : owns (parts_row [] row) ≤ row_length row = f.few in let room : e.from.taken + row_length row ≤ e.to.taken = f.room in
    subst (λ xs. r.taken + 2 + owns xs ≤ t.taken) (hidden_parts [] ps) (let goal : r.taken + 2 + owns (parts_row [] row) ≤ t.taken = omega arith in goal)

-- statements count at most what they are counted as
fewer : (q : Proc) (ss : List Statement) → list_all (λ st. nat_le (own_tokens q st.form) st.tokens) ss ≡ true → sum_by (λ st. own_tokens q st.form) ss ≤ sum_by (λ st. st.tokens) ss
fewer q [] h = omega arith
fewer q (st ∷ ss) h =
    let both = and_parts (nat_le (own_tokens q st.form) st.tokens) (list_all (λ (x : Statement). nat_le (own_tokens q x.form) x.tokens) ss) h in
    let a : own_tokens q st.form ≤ st.tokens = leb-true (own_tokens q st.form) st.tokens both.0 in
    let b : sum_by (λ (x : Statement). own_tokens q x.form) ss ≤ sum_by (λ (x : Statement). x.tokens) ss = fewer q ss both.1 in
    let c : sum_by (λ (x : Statement). own_tokens q x.form) (st ∷ ss) ≡ own_tokens q st.form + sum_by (λ (x : Statement). own_tokens q x.form) ss = sum_by-cons (λ (x : Statement). own_tokens q x.form) st ss in
    let d : sum_by (λ (x : Statement). x.tokens) (st ∷ ss) ≡ st.tokens + sum_by (λ (x : Statement). x.tokens) ss = sum_by-cons (λ (x : Statement). x.tokens) st ss in
    let goal : sum_by (λ (x : Statement). own_tokens q x.form) (st ∷ ss) ≤ sum_by (λ (x : Statement). x.tokens) (st ∷ ss) = omega arith in goal

module _ (s : Scope) (short : (name : List ℕ) → IsShort (senses s name)) where
  one_declared : (x : Part) (ps : List Part) → PartTaken x → local_tokens (flat_map (part_infos s) ps) + stack_least s (flat_map local_rooms ps) ≤ all_declared ps →
      local_tokens (flat_map (part_infos s) (x ∷ ps)) + stack_least s (flat_map local_rooms (x ∷ ps)) ≤ all_declared (x ∷ ps)
  one_declared (parts.Local l) ps taken h =
      let vs = flat_map (part_infos s) ps in let rs = flat_map local_rooms ps in
      let a : l.token ≡ taken.from.taken = taken.first_is in let b : l.past ≡ taken.to.taken = taken.past_is in
      let k : taken.from.taken + (local_tokens (part_infos s (parts.Local l) ++ vs) + stack_least s (local_rooms (parts.Local l) ++ rs)) ≤ taken.to.taken + (local_tokens vs + stack_least s rs) =
      local_cost s short l.form vs rs taken.from taken.to taken.is in
      let goal : local_tokens (part_infos s (parts.Local l) ++ vs) + stack_least s (local_rooms (parts.Local l) ++ rs) ≤ l.past - l.token + all_declared ps = omega arith in goal
  one_declared (parts.Stmt' first past form) ps taken h =
      let goal : local_tokens (flat_map (part_infos s) ps) + stack_least s (flat_map local_rooms ps) ≤ 0 + all_declared ps = omega arith in goal

  declarations_cost : (ps : List (Within Part)) → All (λ x. PartTaken x.what) ps →
      local_tokens (flat_map (part_infos s) (whats ps)) + stack_least s (flat_map local_rooms (whats ps)) ≤ all_declared (whats ps)
  declarations_cost [] taken = omega arith
  declarations_cost (x ∷ ps) taken = one_declared x.what (whats ps) (All-head (λ y. PartTaken y.what) x ps taken) (declarations_cost ps (All-tail (λ y. PartTaken y.what) x ps taken))

-- a procedure, each of whose statements counts its shortest text
whole_cost : (outer : Senses) (short : (name : List ℕ) → IsShort (outer name)) (number : ℕ) (around : List SpanTree) (tree : ProcTree) → Taken (proc tree) → let q = procedure_of outer number around tree in
    list_all (λ st. nat_le (own_tokens q st.form) st.tokens) (body_statements q) ≡ true → procedure_tokens q ≤ q.tokens
whole_cost outer short number around tree taken h =
    let q = procedure_of outer number around tree in let s = scope_of outer tree in let own_short = scope_short outer short tree in
    let r = taken.from in let t = taken.to in let ps = parts_of tree.body in
    let m = middle (ident tree.name r) (round (may_list formal tree.formals) ⨾ block tree.body ⨾ here tree.past) t taken.is in
    let g = middle (here tree.name.token r) (token (is_name tree.name.name)) m.at_ m.first in
    let b = middle (round (may_list formal tree.formals) m.at_) (block tree.body ⨾ here tree.past) t m.next in
    let e = middle (block tree.body b.at_) (here tree.past) t b.next in
    let i = enclosed_of sign.Open (may_list formal tree.formals) sign.Close m.at_ b.at_ b.first in
    let infos = map (formal_info s) tree.formals in let rest = flat_map (part_infos s) ps in let items = stack_items s (flat_map local_rooms ps) in
    let x0 : tree.name.token ≡ r.taken = (here_is tree.name.token r g.at_ g.first).0 in
    let x1 : m.at_.taken ≡ suc r.taken = ident_token tree.name r m.at_ m.first in
    let x2 : i.from.taken ≡ suc m.at_.taken = i.low in let x3 : b.at_.taken ≡ suc i.to.taken = i.high in
    let x4 : i.from.taken + with_commas (λ (v : VarInfo). before_name v + 1) infos ≤ i.to.taken =
    list_cost formal (formal_info s) (λ (v : VarInfo). before_name v + 1) (formal_cost s own_short) tree.formals i.from i.to i.is in
    let x5 : b.at_.taken + 2 + owns (parts_in [] tree.body) ≤ e.at_.taken = block_room tree.body.parts b.at_ e.at_ e.first in
    let x6 : owns (parts_in [] tree.body) ≡ sum_owns ps = without_spans (parts_in [] tree.body) in
    let x7 : tree.past ≡ e.at_.taken = (here_is tree.past e.at_ t e.next).0 in
    let x8 : local_tokens rest + stack_least s (flat_map local_rooms ps) ≤ all_declared ps = declarations_cost s own_short (parts_in [] tree.body) (body_taken tree taken) in
    let x9 : stackdata_tokens items ≤ stack_least s (flat_map local_rooms ps) = stack_few s (flat_map local_rooms ps) in
    let counted : sum_by (λ (st : Statement). st.tokens) (flat_from s 0 ps) + all_declared ps ≡ sum_owns ps = flat_counted s 0 ps in
    let same : sum_by (λ (st : Statement). st.tokens) (body_statements q) ≡ sum_by (λ (st : Statement). st.tokens) (flat_from s 0 ps) = ap (sum_by (λ (st : Statement). st.tokens)) (procedure_is outer number around tree) in
    let few : sum_by (λ (st : Statement). own_tokens q st.form) (body_statements q) ≤ sum_by (λ (st : Statement). st.tokens) (body_statements q) = fewer q (body_statements q) h in
    let long : length infos ≡ length tree.formals = length-map tree.formals (formal_info s) in
    let first : with_commas (λ (v : VarInfo). before_name v + 1) (take (length tree.formals) (infos ++ rest)) ≡ with_commas (λ (v : VarInfo). before_name v + 1) infos =
    ap (with_commas (λ (v : VarInfo). before_name v + 1)) (take_at infos rest (length tree.formals) long) in
    let last : local_tokens (drop (length tree.formals) (infos ++ rest)) ≡ local_tokens rest = ap local_tokens (drop_at infos rest (length tree.formals) long) in
    let goal : 5 + with_commas (λ (v : VarInfo). before_name v + 1) (take (length tree.formals) (infos ++ rest)) + local_tokens (drop (length tree.formals) (infos ++ rest)) + stackdata_tokens items
    + sum_by (λ (st : Statement). own_tokens q st.form) (body_statements q) ≤ tree.past - tree.name.token = omega arith in goal

pub procedures_have_shortest : ProceduresHaveShortest
procedures_have_shortest us accepted derived = all_taken (λ q. procedure_tokens q ≤ q.tokens) us accepted derived
    (λ earlier u number place around tree none taken.
    whole_cost (unit_senses (program_of (named_units us)) u.entries) (unit_short (named_units us) u.entries) number around tree taken (tree_shortest us accepted earlier u number place around tree none taken))
