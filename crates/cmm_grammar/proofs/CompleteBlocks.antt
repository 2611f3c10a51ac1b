-- Each statement that holds blocks, and each block, is read.
use Rattle.std.proofs.Common.{◌≡◌, ℕ, zero, suc, ◌≤◌, ◌⊎◌, inl, inr, List, [], ◌∷◌, Option, Some, None, refl, sym, ap, ◌∙◌, arith, subst, le_refl}
use denote.Hole.Carrier as Carrier
use Rattle.cmm_lexer.specs.declared.piece.Lexeme.{Lexeme}
use Rattle.cmm_lexer.specs.declared.piece.Lexeme.TheVariants as l
use Rattle.cmm_lexer.specs.declared.keyword.Keyword.TheVariants.{Else, If, Span, Switch}
use Rattle.cmm_lexer.specs.declared.symbol.Symbol.TheVariants.{OpenBrace, CloseBrace, OpenSquare}
use Rattle.cmm_ast.specs.declared.expression.Expr.{Expr}
use Rattle.cmm_ast.specs.declared.expression.Primary.{Primary}
use Rattle.cmm_ast.specs.declared.statement.Arm.{Arm}
use Rattle.cmm_ast.specs.declared.statement.Block.{Block, Row_of-Part, end_of-Part, more_of-Part, items-the_row-Part, items_shown-the_row-Part-0}
use Rattle.cmm_ast.specs.declared.statement.Otherwise.{Otherwise, end_of-Stmt, more_of-Stmt, roll-Otherwise, out-Otherwise, roll-out-Otherwise}
use Rattle.cmm_ast.specs.declared.statement.Otherwise.TheVariants as otherwises
use Rattle.cmm_ast.specs.declared.statement.Otherwise.TheVariants.{Else', ElseIf'}
use Rattle.cmm_ast.specs.declared.statement.Part.{Part}
use Rattle.cmm_ast.specs.declared.statement.Part.TheVariants as parts
use Rattle.cmm_ast.specs.declared.statement.Part.TheVariants.{Stmt'}
use Rattle.cmm_ast.specs.declared.statement.Span.{Span as SwitchSpan}
use Rattle.cmm_ast.specs.declared.statement.Stmt.{Stmt}
use Rattle.cmm_ast.specs.declared.statement.StmtForm.{StmtForm, Row_of-Arm, end_of-Arm, more_of-Arm, items-the_row-Arm, items_shown-the_row-Arm-2, roll-StmtForm, out-StmtForm, roll-out-StmtForm}
use Rattle.cmm_ast.specs.declared.statement.StmtForm.TheVariants as stmts
use Rattle.cmm_ast.specs.declared.statement.StmtForm.TheVariants.{If', Switch', Span'}
use Rattle.cmm_lexer.specs.Spellings.{keyword_number, symbol_number}
use Rattle.cmm_grammar.specs.Taking.{Reading, Takes, ◌⨾◌, is_word, is_sign, keyword as keyword_is, here as here_is, opening as opening_is, enclosed as enclosed_is, braces as braces_is, optional as optional_is, many as many_is}
use Rattle.cmm_grammar.specs.ExpressionGrammar as grammar
use Rattle.cmm_grammar.specs.StatementGrammar as bodies
use Rattle.cmm_grammar.specs.Reading.{Reads, ◌>>=◌, give, stop, if_next, here, skip, skip_opening}
use Rattle.cmm_grammar.specs.inside.Duties.{Complete}
use Rattle.cmm_grammar.specs.StatementReading.{PartForm, OfLocal, OfStmt, flat_part, if_form, chained, otherwise, is_within, arm, switch_form, span_form, part_of, part_form, part, block}
use Rattle.cmm_grammar.specs.ExpressionReading.{begins_expression}
use Rattle.cmm_grammar.proofs.Takings.{takes_assoc, many_to-nothing}
use Rattle.cmm_grammar.proofs.StatementForms.{opened, form_of_if, chained_if, form_of_span, form_of_else, form_of_else_if, form_is, part_is, block_is, arm_, form_of_switch}
use Rattle.cmm_grammar.proofs.Completes.{Next, Anything, both, follow_complete, less_complete, after_complete, fewer_complete, give_complete, last_complete, holds_complete, fails_complete, skip_complete, opening_complete, here_complete, enclosed_complete, token_strict, never_complete, same_complete}
use Rattle.cmm_grammar.proofs.Tokens.{only_keyword}
use Rattle.cmm_grammar.proofs.Lists.{zero_complete, Each, each_of, by_turns}
use Rattle.cmm_grammar.proofs.CompleteExpressions.{Begins, in_brackets_complete, whole_complete, ends_before}
use Rattle.cmm_grammar.proofs.CompleteParts.{whole_prim_complete}
use Rattle.cmm_grammar.proofs.CompleteUnits.{begins_no_more}
use Rattle.cmm_grammar.proofs.CompleteCalls.{switch_span_complete}
use Rattle.cmm_grammar.proofs.CompleteCases.{arm_spends}
use Rattle.cmm_grammar.proofs.CompleteRepeats.{Passes, Not, Spends, here_strict, follow_spends, not_next_spends, if_next_spends, Rows, many_complete, strict_then, optional_complete, other_symbol, word_fewer, same_spends}
use Rattle.cmm_grammar.proofs.CompleteFlatParts.{FlatStart, HoldsNoBlock, local_spends, stmt_spends}

-- ---- what a part begins with

abbrev pub NotElse : Option Lexeme → Type 0
NotElse = Not (is_word Else)

-- a part of a block begins with no brace that ends the block, and with no `else`
abbrev pub PartStart : Option Lexeme → Type 0
PartStart x = Passes is_within x × NotElse x

-- ---- how each tree is made of its parts

if_is : (c : Expr) (shape : _) (row : _) (o : Otherwise) → stmts.If c (record { parts = items-the_row-Part _ row }) o ≡ If' c shape row o
unfolding opened roll-StmtForm out-StmtForm Carrier.out
if_is c shape row o = ap (λ ps. stmts.If c (record { parts = ps }) o) (sym (items_shown-the_row-Part-0 shape row)) ∙ roll-out-StmtForm (If' c shape row o)

switch_is : (over : Option SwitchSpan) (v : Expr) (shape : _) (row : _) → stmts.Switch over v (items-the_row-Arm _ row) ≡ Switch' over v shape row
unfolding opened roll-StmtForm out-StmtForm Carrier.out
switch_is over v shape row = ap (λ as_. stmts.Switch over v as_) (sym (items_shown-the_row-Arm-2 shape row)) ∙ roll-out-StmtForm (Switch' over v shape row)

span_is : (key : Primary) (v : Expr) (shape : _) (row : _) → stmts.Span key v (record { parts = items-the_row-Part _ row }) ≡ Span' key v shape row
unfolding opened roll-StmtForm out-StmtForm Carrier.out
span_is key v shape row =
    ap (λ ps. stmts.Span key v (record { parts = ps })) (sym (items_shown-the_row-Part-0 shape row)) ∙ roll-out-StmtForm (Span' key v shape row)

else_is : (shape : _) (row : _) → otherwises.Else (record { parts = items-the_row-Part _ row }) ≡ Else' shape row
unfolding opened roll-Otherwise out-Otherwise Carrier.out
else_is shape row = ap (λ ps. otherwises.Else (record { parts = ps })) (sym (items_shown-the_row-Part-0 shape row)) ∙ roll-out-Otherwise (Else' shape row)

else_if_is : (shape : _) (first past : ℕ) (form : StmtForm) →
    otherwises.ElseIf (record { token = first; past = past; form = form }) ≡ ElseIf' shape (more_of-Stmt first past form end_of-Stmt)
unfolding opened roll-Otherwise out-Otherwise Carrier.out
else_if_is shape first past form = refl

stmt_is : (first past : ℕ) (form : StmtForm) → parts.Stmt (record { token = first; past = past; form = form }) ≡ Stmt' first past form
unfolding opened
stmt_is first past form = refl

-- ---- blocks, over their parts

abbrev Opened : Option Lexeme → Type 0
Opened = Next (l.Symbol (symbol_number OpenBrace))

-- how each tree is read, for any count of tokens
record BlockLaw (b : Block) : Type 0 where
  complete : (n : ℕ) → Complete n (bodies.block b) b (block n) Opened Anything

record PartLaw (p : Part) : Type 0 where
  spends : (n : ℕ) → Spends (suc n) (bodies.part_ p) p (part (suc n) (block n)) PartStart NotElse

part_rows : Rows is_within PartStart NotElse (Next (l.Symbol (symbol_number CloseBrace)))
part_rows = record { starts = λ x f. f.0; ends = λ x e. rw e refl; goes_on = after } where
  after : (x : Option Lexeme) → PartStart x ⊎ Next (l.Symbol (symbol_number CloseBrace)) x → NotElse x
  after x (inl f) = f.1
  after x (inr e) = rw e refl

each_part : (n : ℕ) (ps : List Part) → Each PartLaw ps → Each (λ p. Spends (suc n) (bodies.part_ p) p (part (suc n) (block n)) PartStart NotElse) ps
each_part n [] laws = tt
each_part n (p ∷ ps) laws = (laws.0.spends n, each_part n ps laws.1)

block_law : (ps : List Part) → Each PartLaw ps → BlockLaw (record { parts = ps })
block_law ps laws = record { complete = by } where
  row : (n : ℕ) → Complete (suc n) (braces_is (many_is bodies.part_ ps)) (record { parts = ps }) (block (suc n)) Opened Anything
  row n =
      last_complete (λ ps. record { parts = ps })
      (less_complete (omega arith)
      (in_brackets_complete OpenBrace CloseBrace (λ x e. e)
      (many_complete (part (suc n) (block n)) bodies.part_ part_rows ps (each_part n ps laws))))

  same : bodies.block (record { parts = ps }) ≡ braces_is (many_is bodies.part_ ps)
  same = block_is ps ∙ ap braces_is (sym (many_to-nothing bodies.part_ ps))

  by : (n : ℕ) → Complete n (bodies.block (record { parts = ps })) (record { parts = ps }) (block n) Opened Anything
  by n = by_turns block (λ n le. same_complete same (row n)) n (le_refl n)

-- ---- an `if` and what follows its block

record OtherwiseLaw (o : Otherwise) : Type 0 where
  complete : (n turns : ℕ) → turns ≤ suc n → Complete turns (bodies.otherwise_ o) o (otherwise turns (suc n) (block n)) Anything NotElse

-- how an `if` is read after its first word
abbrev after_if : ℕ → ℕ → Reads StmtForm
after_if n turns = if_form (suc n) (block n) (otherwise turns (suc n) (block n))

-- a statement is read after an `else`
abbrev Chained : StmtForm → Type 0
Chained f =
    (first past n turns : ℕ) → turns ≤ n →
    Complete turns (enclosed_is (here_is first ⨾ bodies.chained f ⨾ here_is past)) (record { token = first; past = past; form = f })
    (chained (after_if n turns)) (Next (l.Word (keyword_number If))) NotElse

record FormLaw (f : StmtForm) : Type 0 where
  form : (n : ℕ) → Spends (suc n) (bodies.stmt_form f) (OfStmt f) (part_form (suc n) (block n)) PartStart NotElse
  chained : Chained f

if_complete : {fuel n : ℕ} {blocks : Reads Block} {others : Reads Otherwise} (c : Expr) (b : Block) (o : Otherwise) → fuel ≤ n →
    Complete fuel (bodies.block b) b blocks Opened Anything → Complete fuel (bodies.otherwise_ o) o others Anything NotElse →
    Complete fuel (grammar.whole c ⨾ bodies.block b ⨾ bodies.otherwise_ o) (stmts.If c b o) (if_form n blocks others) Begins NotElse
if_complete {n = n} c b o le body rest =
    after_complete {b = λ c. stmts.If c b o} (less_complete le (whole_complete n c)) (ends_before OpenBrace refl refl) (λ c.
    after_complete {b = λ b. stmts.If c b o} body (λ x f. tt) (λ b. last_complete (λ o. stmts.If c b o) rest))

-- the number of its first token, and that after its last
chained_complete : {fuel : ℕ} (form : Reads StmtForm) (first past : ℕ) (f : StmtForm) →
    ((n : ℕ) → Complete {A = Stmt} fuel (bodies.chained f ⨾ here_is past) (record { token = n; past = past; form = f })
    (if_next (is_word If) skip_opening stop >>= λ _. form >>= λ form. here >>= λ past.
    give record { token = n; past = past; form = form }) (Next (l.Word (keyword_number If))) NotElse) →
    Complete fuel (enclosed_is (here_is first ⨾ bodies.chained f ⨾ here_is past)) (record { token = first; past = past; form = f })
    (chained form) (Next (l.Word (keyword_number If))) NotElse
chained_complete form first past f each =
    enclosed_complete (after_complete {b = λ n. record { token = n; past = past; form = f }} (here_complete first) (λ x f. f) each)

-- no other statement follows an `else`
never_chained : (f : StmtForm) → ((r : Reading) → bodies.chained f r ≡ None) → Chained f
never_chained f never first past n turns le =
    chained_complete _ first past f (λ m.
    never_complete (λ r after e. let s = both (bodies.chained f) (here_is past) r after e in no (bodies.chained f r) s.between (never r) s.first))
  where
    no : (o : Option Reading) (between : Reading) → o ≡ None → o ≡ Some between → ⊥
    no o between e f = absurd cc

if_law : (c : Expr) (b : Block) (o : Otherwise) → BlockLaw b → OtherwiseLaw o → FormLaw (stmts.If c b o)
if_law c b o body rest = record { form = form; chained = chain } where
  takes : Takes
  takes = grammar.whole c ⨾ bodies.block b ⨾ bodies.otherwise_ o

  inner : (n turns : ℕ) → turns ≤ n → Complete turns takes (stmts.If c b o) (after_if n turns) Begins NotElse
  inner n turns le =
      let le' : turns ≤ suc n = omega arith in
      if_complete c b o le' (less_complete le (body.complete n)) (rest.complete n turns le')

  outer : (n : ℕ) → Complete n takes (stmts.If c b o) (after_if n (suc n)) Begins NotElse
  outer n = if_complete {n = suc n} c b o (omega arith) (body.complete n) (less_complete (omega arith) (rest.complete n (suc n) (le_refl (suc n))))

  form : (n : ℕ) → Spends (suc n) (bodies.stmt_form (stmts.If c b o)) (OfStmt (stmts.If c b o)) (part_form (suc n) (block n)) PartStart NotElse
  form n =
      same_spends (form_of_if c b o)
      (follow_spends (λ x e. rw e (refl, refl)) (λ x f. f)
      (if_next_spends _ (λ x e. rw e refl) (word_fewer If (last_complete OfStmt (outer n)))))

  chain_takes : (past : ℕ) → (bodies.chained (stmts.If c b o) ⨾ here_is past) ≡ (opening_is (keyword_is If) ⨾ takes ⨾ here_is past)
  chain_takes past = ap (λ t. t ⨾ here_is past) (chained_if c b o) ∙ takes_assoc (opening_is (keyword_is If)) takes (here_is past)

  chain : Chained (stmts.If c b o)
  chain first past n turns le =
      chained_complete _ first past (stmts.If c b o) (λ m.
      same_complete (chain_takes past)
      (after_complete {b = λ _. record { token = m; past = past; form = stmts.If c b o }}
      (holds_complete {fails = stop} (is_word If) (λ x e. rw e refl) (opening_complete (is_word If) (only_keyword If)))
      (λ x f. tt) (λ _.
      after_complete {b = λ form. record { token = m; past = past; form = form }} (inner n turns le) (λ x f. f) (λ form.
      last_complete (λ past. record { token = m; past = past; form = form }) (here_complete past)))))

-- by how many turns are left
each_turn : (o : Otherwise) →
    ((n turns : ℕ) → turns ≤ n → Complete (suc turns) (bodies.otherwise_ o) o (otherwise (suc turns) (suc n) (block n)) Anything NotElse) → OtherwiseLaw o
each_turn o each = record { complete = by } where
  by : (n turns : ℕ) → turns ≤ suc n → Complete turns (bodies.otherwise_ o) o (otherwise turns (suc n) (block n)) Anything NotElse
  by n zero le = zero_complete (each n 0 (omega arith))
  by n (suc turns) le = each n turns (omega arith)

nothing_law : OtherwiseLaw otherwises.Nothing
nothing_law =
    each_turn otherwises.Nothing (λ n turns le.
    follow_complete (λ x f. tt) (λ x f. f) (fails_complete (is_word Else) (λ x f. f) (give_complete otherwises.Nothing)))

-- what follows an `else`
after_else : {turns : ℕ} {rest : Takes} {o : Otherwise} {reads : Reads Otherwise} {first follow : Option Lexeme → Type 0} →
    Complete turns rest o reads first follow →
    Complete (suc turns) (keyword_is Else ⨾ rest) o (if_next (is_word Else) (skip >>= λ _. reads) (give otherwises.Nothing))
    (Next (l.Word (keyword_number Else))) follow
after_else {o = o} rest =
    holds_complete (is_word Else) (λ x e. rw e refl)
    (fewer_complete {b = λ _. o} (token_strict (only_keyword Else)) (skip_complete (is_word Else) (only_keyword Else)) (λ x f. tt) (λ _. rest))

else_law : (b : Block) → BlockLaw b → OtherwiseLaw (otherwises.Else b)
else_law b body =
    each_turn (otherwises.Else b) (λ n turns le.
    same_complete (form_of_else b)
    (follow_complete (λ x f. tt) (λ x f. tt)
    (after_else
    (holds_complete {fails = chained (after_if n turns) >>= λ s. give (otherwises.ElseIf s)}
    (is_sign OpenBrace) (λ x e. rw e refl) (last_complete otherwises.Else (less_complete le (body.complete n)))))))

else_if_law : (s : Stmt) → FormLaw s.form → OtherwiseLaw (otherwises.ElseIf s)
else_if_law s law =
    each_turn (otherwises.ElseIf s) (λ n turns le.
    same_complete (form_of_else_if s)
    (follow_complete (λ x f. tt) (λ x f. f)
    (after_else
    (fails_complete {holds = block n >>= λ body. give (otherwises.Else body)} (is_sign OpenBrace) (λ x e. rw e refl)
    (last_complete otherwises.ElseIf (law.chained s.token s.past n turns le))))))

-- ---- a switch and a span

begins_no_square : (x : Option Lexeme) → Begins x → Not (is_sign OpenSquare) x
begins_no_square = other_symbol begins_expression OpenSquare refl

arm_rows : Rows is_within (Passes is_within) Anything (Next (l.Symbol (symbol_number CloseBrace)))
arm_rows = record { starts = λ x f. f; ends = λ x e. rw e refl; goes_on = λ x f. tt }

each_arm : (n : ℕ) (as_ : List Arm) → Each (λ a. BlockLaw a.body) as_ →
    Each (λ a. Spends (suc n) (arm_ a) a (arm (suc n) (block n)) (Passes is_within) Anything) as_
each_arm n [] laws = tt
each_arm n (a ∷ as_) laws = (arm_spends a (laws.0.complete n), each_arm n as_ laws.1)

switch_complete : (n : ℕ) (over : Option SwitchSpan) (v : Expr) (as_ : List Arm) → Each (λ a. BlockLaw a.body) as_ →
    Complete n (optional_is bodies.switch_span over ⨾ grammar.whole v ⨾ braces_is (many_is arm_ as_)) (stmts.Switch over v as_)
    (switch_form (suc n) (block n)) Anything Anything
switch_complete n over v as_ laws =
    less_complete (omega arith)
    (follow_complete (λ x f. tt) (λ x f. f)
    (after_complete {fuel = suc n} {b = λ over. stmts.Switch over v as_}
    (optional_complete {follow = Begins} (is_sign OpenSquare) (λ x e. rw e refl) begins_no_square
    (λ s. follow_complete (λ x f. f) (λ x f. tt) (switch_span_complete (suc n) s)) over)
    (λ x f. f) (λ over.
    after_complete {b = λ v. stmts.Switch over v as_} (whole_complete (suc n) v) (ends_before OpenBrace refl refl) (λ v.
    last_complete (λ as_. stmts.Switch over v as_)
    (less_complete (omega arith)
    (in_brackets_complete OpenBrace CloseBrace (λ x e. e) (many_complete (arm (suc n) (block n)) arm_ arm_rows as_ (each_arm n as_ laws))))))))

span_complete : (n : ℕ) (key : Primary) (v : Expr) (b : Block) → BlockLaw b →
    Complete n (grammar.whole_prim key ⨾ grammar.whole v ⨾ bodies.block b) (stmts.Span key v b) (span_form (suc n) (block n)) Anything Anything
span_complete n key v b law =
    follow_complete (λ x f. tt) (λ x f. f)
    (after_complete {b = λ key. stmts.Span key v b} (less_complete (omega arith) (whole_prim_complete (suc n) key)) begins_no_more (λ key.
    after_complete {b = λ v. stmts.Span key v b} (less_complete (omega arith) (whole_complete (suc n) v)) (ends_before OpenBrace refl refl) (λ v.
    last_complete (λ body. stmts.Span key v body) (law.complete n))))

switch_law : (over : Option SwitchSpan) (v : Expr) (as_ : List Arm) → Each (λ a. BlockLaw a.body) as_ → FormLaw (stmts.Switch over v as_)
switch_law over v as_ laws = record {
  form = λ n.
      same_spends same
      (follow_spends (λ x e. rw e (refl, refl)) (λ x f. tt)
      (not_next_spends _ (λ x e. rw e refl)
      (if_next_spends _ (λ x e. rw e refl) (word_fewer Switch (last_complete OfStmt (switch_complete n over v as_ laws))))));
  chained = never_chained (stmts.Switch over v as_) (λ r. refl);
}
  where
    same : bodies.stmt_form (stmts.Switch over v as_)
        ≡ (keyword_is Switch ⨾ optional_is bodies.switch_span over ⨾ grammar.whole v ⨾ braces_is (many_is arm_ as_))
    same =
        form_of_switch over v as_
        ∙ ap (λ t. keyword_is Switch ⨾ optional_is bodies.switch_span over ⨾ grammar.whole v ⨾ braces_is t) (sym (many_to-nothing arm_ as_))

span_law : (key : Primary) (v : Expr) (b : Block) → BlockLaw b → FormLaw (stmts.Span key v b)
span_law key v b law = record {
  form = λ n.
      same_spends (form_of_span key v b)
      (follow_spends (λ x e. rw e (refl, refl)) (λ x f. tt)
      (not_next_spends _ (λ x e. rw e refl)
      (not_next_spends _ (λ x e. rw e refl)
      (if_next_spends _ (λ x e. rw e refl) (word_fewer Span (last_complete OfStmt (span_complete n key v b law)))))));
  chained = never_chained (stmts.Span key v b) (λ r. refl);
}

-- ---- every block

-- a part, with the number of its first token and that after its last
part_law_of : (first past : ℕ) (f : PartForm) →
    ((n : ℕ) → Spends (suc n) (form_is f) f (part_form (suc n) (block n)) PartStart NotElse) → PartLaw (part_of first past f)
part_law_of first past f law = record {
  spends = λ n.
      same_spends (part_is first past f) record {
        complete = after_complete {b = λ m. part_of m past f} (here_complete first) (λ x f. f) (λ m.
            after_complete {b = λ f. part_of m past f} (law n).complete (λ x f. f) (λ f. last_complete (λ past. part_of m past f) (here_complete past)));
        strict = here_strict first (strict_then (law n).strict (here_complete {fuel = 0} {follow = Anything} past).moves);
      };
}

flat_spends : {p : Takes} (n : ℕ) (f : PartForm) → Spends (suc n) p f (flat_part (suc n)) FlatStart Anything →
    Spends (suc n) p f (part_form (suc n) (block n)) PartStart NotElse
flat_spends n f one =
    follow_spends {first = FlatStart} (λ x s. (s.within, s.no_else)) (λ x f. tt)
    (not_next_spends _ (λ x s. s.no_if) (not_next_spends _ (λ x s. s.no_switch) (not_next_spends _ (λ x s. s.no_span) one)))

flat_law : (f : StmtForm) → HoldsNoBlock f → ((r : Reading) → bodies.chained f r ≡ None) → FormLaw f
flat_law f none never = record {
  form = λ n. flat_spends n (OfStmt f) (stmt_spends f none);
  chained = never_chained f never;
}

mutual
  form_law : (f : StmtForm) → FormLaw f
  form_law (If' c shape row o) =
      subst (λ f. FormLaw f) (if_is c shape row o)
      (if_law c (record { parts = items-the_row-Part _ row }) o (block_law (items-the_row-Part _ row) (parts_law row)) (otherwise_law o))
  form_law (Switch' over v shape row) =
      subst (λ f. FormLaw f) (switch_is over v shape row) (switch_law over v (items-the_row-Arm _ row) (arms_law row))
  form_law (Span' key v shape row) =
      subst (λ f. FormLaw f) (span_is key v shape row)
      (span_law key v (record { parts = items-the_row-Part _ row }) (block_law (items-the_row-Part _ row) (parts_law row)))
  form_law stmts.Empty = flat_law stmts.Empty tt (λ r. refl)
  form_law (stmts.Assign to found) = flat_law (stmts.Assign to found) tt (λ r. refl)
  form_law (stmts.Checked result op left right fs) = flat_law (stmts.Checked result op left right fs) tt (λ r. refl)
  form_law (stmts.Call to by what actuals fs) = flat_law (stmts.Call to by what actuals fs) tt (λ r. refl)
  form_law (stmts.Jump what actuals) = flat_law (stmts.Jump what actuals) tt (λ r. refl)
  form_law (stmts.Return by found) = flat_law (stmts.Return by found) tt (λ r. refl)
  form_law (stmts.Label name) = flat_law (stmts.Label name) tt (λ r. refl)
  form_law (stmts.Continuation name ks) = flat_law (stmts.Continuation name ks) tt (λ r. refl)
  form_law (stmts.Goto name) = flat_law (stmts.Goto name) tt (λ r. refl)
  form_law (stmts.Cut what actuals fs) = flat_law (stmts.Cut what actuals fs) tt (λ r. refl)

  otherwise_law : (o : Otherwise) → OtherwiseLaw o
  otherwise_law otherwises.Nothing = nothing_law
  otherwise_law (Else' shape row) =
      subst (λ o. OtherwiseLaw o) (else_is shape row)
      (else_law (record { parts = items-the_row-Part _ row }) (block_law (items-the_row-Part _ row) (parts_law row)))
  otherwise_law (ElseIf' shape (more_of-Stmt first past form end_of-Stmt)) =
      subst (λ o. OtherwiseLaw o) (else_if_is shape first past form) (else_if_law (record { token = first; past = past; form = form }) (form_law form))

  part_law : (p : Part) → PartLaw p
  part_law (parts.Local found) =
      part_law_of found.token found.past (OfLocal found.form) (λ n.
      flat_spends n (OfLocal found.form) (local_spends found.form))
  part_law (Stmt' first past form) = subst (λ p. PartLaw p) (stmt_is first past form) (part_law_of first past (OfStmt form) (form_law form).form)

  parts_law : {n : _} (row : Row_of-Part n) → Each PartLaw (items-the_row-Part n row)
  parts_law end_of-Part = tt
  parts_law (more_of-Part p rest) = (part_law p, parts_law rest)

  arms_law : {n : _} (row : Row_of-Arm n) → Each (λ a. BlockLaw a.body) (items-the_row-Arm n row)
  arms_law end_of-Arm = tt
  arms_law (more_of-Arm first what shape body rest) =
      (block_law _ (subst (λ ps. Each PartLaw ps) (sym (items_shown-the_row-Part-0 shape body)) (parts_law body)), arms_law rest)

pub blocks_complete : (fuel : ℕ) (b : Block) → Complete fuel (bodies.block b) b (block fuel) Anything Anything
blocks_complete fuel b = follow_complete (λ x f. tt) (λ x f. f) ((block_law b.parts (each_of part_law b.parts)).complete fuel)
