-- Units mean one program at most, and none where they have a fault, of which they have one at most.
use Rattle.std.proofs.Common.{◌≡◌, inl, inr, ℕ, suc, List, [], ◌∷◌, Some, refl, ap, sym, ◌∙◌}
use Rattle.std.specs.Prelude.{slice_get}
use Rattle.std.specs.List.{All, AllZip}
use Rattle.std.proofs.lemmas.List.Elements.{All-head, All-tail}
use Rattle.cmm_ast.specs.declared.unit.Place.{Place}
use Rattle.cmm_ast.specs.declared.unit.Unit.{Unit as UnitTree}
use Rattle.cmm_elaboration.specs.Meaning.{meaning_of}
use Rattle.cmm_grammar.specs.UnitLaws.{EachHasOneAnswer, OneUnit}
use Rattle.cmm_lexer.specs.Lexing.{Fault as LexicalFault}
use Rattle.cmm_lexer.specs.Places.{column_at, line_at}
use Rattle.cmm_parser.specs.declared.fault.SyntaxFault.TheVariants as syntax
use Rattle.cmm_parser.specs.Faults as parser
use Rattle.cmm_rules.specs.declared.rule.Rule.{Rule}
use Rattle.cmm_static_semantics.specs.declared.fault.Fault.{Fault}
use Rattle.cmm_static_semantics.specs.Faults.{first_fault}
use Rattle.cmm_front.specs.Laws.{NeverBoth, OneFault, OneProgram}
use Rattle.cmm_front.specs.Refusing.{IsOfFirst}
use Rattle.cmm_front.specs.Sources.{HasTokens, HasTree, IsLexicalFault, IsSyntaxFault, IsTreeOf, lexemes_in, places_in}
use Rattle.cmm_front.proofs.First.{have_trees}

-- ---- the first of units that is not whole

module _ (W : List ℕ → Type 0) (B : List ℕ → ℕ → Fault → Type 0) (never : (unit : List ℕ) (n : ℕ) (f : Fault) → W unit → B unit n f → ⊥) where
  no_first : (n : ℕ) (units : List (List ℕ)) (f : Fault) → All W units → IsOfFirst W B n units f → ⊥
  no_first n [] f all first = first
  no_first n (u ∷ us) f all (inl broken) = never u n f (All-head W u us all) broken
  no_first n (u ∷ us) f all (inr later) = no_first (suc n) us f (All-tail W u us all) later.1

  one_first : ((unit : List ℕ) (n : ℕ) (f g : Fault) → B unit n f → B unit n g → f ≡ g) → (n : ℕ) (units : List (List ℕ)) (f g : Fault) → IsOfFirst W B n units f →
      IsOfFirst W B n units g → f ≡ g
  one_first one n [] f g first other = absurd first
  one_first one n (u ∷ us) f g (inl broken) (inl too) = one u n f g broken too
  one_first one n (u ∷ us) f g (inl broken) (inr later) = absurd (never u n f later.0 broken)
  one_first one n (u ∷ us) f g (inr later) (inl broken) = absurd (never u n g later.0 broken)
  one_first one n (u ∷ us) f g (inr later) (inr more) = one_first one (suc n) us f g later.1 more.1

same_fault : (f g : Fault) → f.rule ≡ g.rule → f.unit ≡ g.unit → f.line ≡ g.line → f.column ≡ g.column → f ≡ g
same_fault f g rule unit line column = λ i. record { rule = rule i; unit = unit i; line = line i; column = column i }

-- ---- the lexical form

never_lexical : (unit : List ℕ) (n : ℕ) (f : Fault) → HasTokens unit → IsLexicalFault unit n f → ⊥
never_lexical unit n f whole broken = absurd (cc (sym whole ∙ broken.first.1))

one_start : (p q : LexicalFault) → Some p ≡ Some q → p ≡ q
one_start p q same = cc

one_lexical : (unit : List ℕ) (n : ℕ) (f g : Fault) → IsLexicalFault unit n f → IsLexicalFault unit n g → f ≡ g
one_lexical unit n f g broken other =
    let same = one_start _ _ (sym broken.first.1 ∙ other.first.1) in
    same_fault f g (ap (λ (p : LexicalFault). p.rule) same) (broken.is_unit ∙ sym other.is_unit)
    (broken.first.2 ∙ (ap (λ (p : LexicalFault). line_at unit p.start) same ∙ sym other.first.2))
    (broken.first.3 ∙ (ap (λ (p : LexicalFault). column_at unit p.start) same ∙ sym other.first.3))

-- ---- the syntax, and what units mean

module _ (one : OneUnit) where
  -- a unit has one tree
  one_tree : (unit : List ℕ) (t u : UnitTree) → IsTreeOf unit t → IsTreeOf unit u → t ≡ u
  one_tree unit t u is other =
      let parts = one (lexemes_in unit) t u is.derives.derives other.derives.derives in
      let places = is.places ∙ sym other.places in
      λ i. record { parts = parts i; places = places i }

  one_trees : (units : List (List ℕ)) (ts us : List UnitTree) → AllZip IsTreeOf units ts → AllZip IsTreeOf units us → ts ≡ us
  one_trees [] [] [] are others = refl
  one_trees [] [] (u ∷ us) are others = absurd others
  one_trees [] (t ∷ ts) us are others = absurd are
  one_trees (unit ∷ units) [] us are others = absurd are
  one_trees (unit ∷ units) (t ∷ ts) [] are others = absurd others
  one_trees (unit ∷ units) (t ∷ ts) (u ∷ us) are others = λ i. one_tree unit t u are.0 others.0 i ∷ one_trees units ts us are.1 others.1 i

  pub one_program : OneProgram
  one_program units p q is other = is.is_program ∙ ap meaning_of (one_trees units is.trees other.trees is.are_trees other.are_trees) ∙ sym other.is_program

all_tokens : (units : List (List ℕ)) → All HasTree units → All HasTokens units
all_tokens units all = λ k d inside. (all k d inside).1.unbroken

module _ (answer : EachHasOneAnswer) where
  never_syntax : (unit : List ℕ) (n : ℕ) (f : Fault) → HasTree unit → IsSyntaxFault unit n f → ⊥
  never_syntax unit n f whole broken = by broken.broken
    where
      by : parser.IsFaultOf (lexemes_in unit) (syntax.At f.rule broken.token) → ⊥
      by (inl unexpected) = (answer (lexemes_in unit)).expected whole.0 whole.1.derives broken.token unexpected.1
      by (inr deep) = (answer (lexemes_in unit)).shallow whole.0 whole.1.derives broken.token deep.1

  -- a unit has one token where its syntax breaks, and one rule there
  one_token : (unit : List ℕ) (rule other : Rule) (token at : ℕ) → parser.IsFaultOf (lexemes_in unit) (syntax.At rule token) →
      parser.IsFaultOf (lexemes_in unit) (syntax.At other at) → (rule ≡ other) × (token ≡ at)
  one_token unit rule other token at (inl is) (inl too) = (is.0 ∙ sym too.0, (answer (lexemes_in unit)).one_unexpected token at is.1 too.1)
  one_token unit rule other token at (inl is) (inr deep) = absurd ((answer (lexemes_in unit)).not_both token at is.1 deep.1)
  one_token unit rule other token at (inr deep) (inl is) = absurd ((answer (lexemes_in unit)).not_both at token is.1 deep.1)
  one_token unit rule other token at (inr deep) (inr too) = (deep.0 ∙ sym too.0, (answer (lexemes_in unit)).one_too_deep token at deep.1 too.1)

  one_place : (p q : Place) → Some p ≡ Some q → p ≡ q
  one_place p q same = cc

  one_syntax : (unit : List ℕ) (n : ℕ) (f g : Fault) → IsSyntaxFault unit n f → IsSyntaxFault unit n g → f ≡ g
  one_syntax unit n f g broken other =
      let same = one_token unit f.rule g.rule broken.token other.token broken.broken other.broken in
      let place = one_place _ _ (sym broken.place ∙ (ap (slice_get (places_in unit)) same.1 ∙ other.place)) in
      same_fault f g same.0 (broken.is_unit ∙ sym other.is_unit) (ap (λ (p : Place). p.line) place) (ap (λ (p : Place). p.column) place)

module _ (one : OneUnit) (answer : EachHasOneAnswer) where
  pub never_both : NeverBoth
  never_both units p f is (inl lexis) = no_first HasTokens IsLexicalFault never_lexical 0 units f (all_tokens units (have_trees units is.trees is.are_trees)) lexis
  never_both units p f is (inr (inl broken)) = no_first HasTree IsSyntaxFault (never_syntax answer) 0 units f (have_trees units is.trees is.are_trees) broken.1
  never_both units p f is (inr (inr static)) =
      absurd (cc (sym is.accepted ∙ ap first_fault (one_trees one units is.trees static.trees is.are_trees static.are_trees) ∙ static.first))

  one_static : (f g : Fault) → Some f ≡ Some g → f ≡ g
  one_static f g same = cc

  no_lexis : (units : List (List ℕ)) (f : Fault) → All HasTokens units → IsOfFirst HasTokens IsLexicalFault 0 units f → ⊥
  no_lexis units f = no_first HasTokens IsLexicalFault never_lexical 0 units f

  no_syntax : (units : List (List ℕ)) (f : Fault) → All HasTree units → IsOfFirst HasTree IsSyntaxFault 0 units f → ⊥
  no_syntax units f = no_first HasTree IsSyntaxFault (never_syntax answer) 0 units f

  pub one_fault : OneFault
  one_fault units f g (inl lexis) (inl other) = one_first HasTokens IsLexicalFault never_lexical one_lexical 0 units f g lexis other
  one_fault units f g (inl lexis) (inr (inl broken)) = absurd (no_lexis units f broken.0 lexis)
  one_fault units f g (inl lexis) (inr (inr static)) = absurd (no_lexis units f (all_tokens units (have_trees units static.trees static.are_trees)) lexis)
  one_fault units f g (inr (inl broken)) (inl lexis) = absurd (no_lexis units g broken.0 lexis)
  one_fault units f g (inr (inr static)) (inl lexis) = absurd (no_lexis units g (all_tokens units (have_trees units static.trees static.are_trees)) lexis)
  one_fault units f g (inr (inl broken)) (inr (inl other)) = one_first HasTree IsSyntaxFault (never_syntax answer) (one_syntax answer) 0 units f g broken.1 other.1
  one_fault units f g (inr (inl broken)) (inr (inr static)) = absurd (no_syntax units f (have_trees units static.trees static.are_trees) broken.1)
  one_fault units f g (inr (inr static)) (inr (inl broken)) = absurd (no_syntax units g (have_trees units static.trees static.are_trees) broken.1)
  one_fault units f g (inr (inr static)) (inr (inr other)) =
      one_static f g (sym static.first ∙ (ap first_fault (one_trees one units static.trees other.trees static.are_trees other.are_trees) ∙ other.first))
