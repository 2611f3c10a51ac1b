-- The order of a statement in range: what it passes and writes fits the widths that go with it.
use Rattle.std.proofs.lemmas.Bool.Decides.{nat_tests}
use Rattle.std.proofs.Common.{Ok, ◌≡◌, ℕ, ◌<◌, Option, Some, List, [], ◌∷◌, map, All, IsTrue, IfSome, slice_get, length, arith}
use Rattle.std.proofs.lemmas.List.{nil_from_length}
use Rattle.std.specs.List.{AllByRecursion}
use Rattle.std.specs.Prelude.{⊤}
use Rattle.std.proofs.lemmas.List.Elements.{All-from_recursion, All-nil, All-cons}
use Rattle.std.proofs.lemmas.Option.{slice_get_within}
use Rattle.cmm_words.specs.declared.width.Width.{Width}
use Rattle.cmm_words.specs.declared.width.Width.TheVariants.{W64}
use Rattle.cmm_words.specs.Widths.{IsWord}
use Rattle.cmm_words.proofs.Shared.{value2-word, word_64}
use Rattle.cmm_program.specs.declared.expression.Expression.{Expression}
use Rattle.cmm_program.specs.declared.statement.Form.{Form}
use Rattle.cmm_program.specs.declared.statement.Form.TheVariants.{Assign, Call, Yield, Checked, Jump, Return, Cut}
use Rattle.cmm_program.specs.declared.statement.Lvalue.{Lvalue}
use Rattle.cmm_program.specs.declared.procedure.Proc.{Proc}
use Rattle.cmm_program.specs.declared.procedure.Site.{Site}
use Rattle.cmm_program.specs.declared.program.Program.{Program}
use Rattle.cmm_program.specs.Acts.{words_of, values_of, places_of, checked_order, evaluated}
use Rattle.cmm_program.specs.Orders as order
use Rattle.cmm_program.specs.Orders.{Place, Held, Memory, Word, Write, Order, target_width, writes}
use Rattle.cmm_program.specs.InRange.{is_form, is_site, lvalue_width, are_assigned, at_site, is_checked_site}
use Rattle.std.specs.List.{list_all}
use Rattle.cmm_program.specs.Todo.{aim_of, passed, act_of, site_results}
use Rattle.cmm_program.specs.Typing.{is_target, is_typed, same_width}
use Rattle.cmm_program.specs.Values.{Reads, value_of}
use Rattle.cmm_machine_laws.proofs.FittingExpressions.{ReadsFit, width_gives, typed_gives}
use Rattle.cmm_machine_laws.proofs.Kept.{KeptBy, kept_ok, kept_after}
use Rattle.cmm_program.proofs.Shared.{list_all_get}

-- ---- what fits

-- a word that is passed fits its width
abbrev pub WordFits : Word → Type 0
WordFits w = IsWord w.width w.value

module _ (p : Program) (q : Proc) where
  -- a value may be put into a place of a procedure's
  abbrev pub PlaceFits : Place → ℕ → Type 0
  PlaceFits (Held target) value = IsTrue (is_target p q target) × IsWord (target_width target) value
  PlaceFits (Memory width aligned address) value = ⊤

  -- a value that is written fits its place
  abbrev pub WriteFits : Write → Type 0
  WriteFits w = PlaceFits w.place w.value

  -- what an order passes and writes fits, and the site that it names is there
  abbrev pub OrderFits : Order → Type 0
  OrderFits (order.Assign ws) = All WriteFits ws
  OrderFits (order.GetByte target) = IsTrue (is_target p q target) × IsTrue (same_width (target_width target) W64)
  OrderFits (order.Call site address words) = (site < length q.sites) × All WordFits words
  OrderFits (order.Yield site values) = (site < length q.sites) × All (IsWord W64) values
  OrderFits (order.Jump address words) = All WordFits words
  OrderFits (order.Return exit alternates words) = All WordFits words
  OrderFits (order.Cut value words own) = All WordFits words
  OrderFits _ = ⊤

  -- what takes the values of a site's normal exit
  pub results_fit : (n : ℕ) (site : Site) → IsTrue (list_all (is_site p q) q.sites) → slice_get q.sites n ≡ Some site →
      IsTrue (list_all (is_target p q) site.results)
  results_fit n site sites is = grind (arith, nat_tests, list_all_get (is_site p q) q.sites n site sites is)

  -- the order of a checked operator writes what fits, or yields 1
  checked_fits : (n : ℕ) (width : Width) (value : Option ℕ) → IsTrue (list_all (is_site p q) q.sites) →
      IsTrue (at_site p q n (is_checked_site p q width)) → IfSome value (IsWord width) → OrderFits (checked_order n (site_results q n) value)
  checked_fits n width value sites here fits = grind (arith, nat_tests, results_fit n, nil_from_length, slice_get_within)

  module _ (r : Reads) (reads : ReadsFit p q r) where
    -- expressions that are passed give words that fit, and those that are yielded give words of 64 bits
    listed_fit : (es : List Expression) → IsTrue (list_all (is_typed p q) es) →
        KeptBy (All WordFits) (words_of r (map passed es)) × KeptBy (All (IsWord W64)) (values_of r (map value_of es))
    listed_fit [] is = grind (arith, All-nil WordFits, All-nil (IsWord W64))
    listed_fit (e ∷ es) is = grind (arith, nat_tests, typed_gives p q r reads e, listed_fit es, word_64, All-cons)

    -- in an assignment each place takes the value that stands for it
    assigned_fit : (ls : List Lvalue) (es : List Expression) (ps : List Place) (vs : List ℕ) → IsTrue (are_assigned p q ls es) →
        places_of r (map aim_of ls) ≡ Ok ps → values_of r (map value_of es) ≡ Ok vs → AllByRecursion WriteFits (writes ps vs)
    assigned_fit (l ∷ ls) (e ∷ es) ps vs is places values =
        grind (arith, nat_tests, width_gives p q r reads (lvalue_width p q l) e, assigned_fit ls es)
    assigned_fit ls es ps vs is places values = grind arith

    -- each statement in range has an order that fits
    pub order_fits : (form : Form) → IsTrue (list_all (is_site p q) q.sites) → IsTrue (is_form p q form) → KeptBy OrderFits (evaluated r (act_of q form))
    order_fits (Assign to values) sites is = grind (arith, assigned_fit to values, All-from_recursion WriteFits)
    order_fits (Call site callee actuals) sites is = grind (arith, nat_tests, listed_fit actuals, slice_get_within)
    order_fits (Yield site values) sites is = grind (arith, nat_tests, listed_fit values, slice_get_within)
    order_fits (Checked site op width left right) sites is =
        kept_after (width_gives p q r reads width left (grind (arith, nat_tests))) (λ a first.
        kept_after (width_gives p q r reads width right (grind (arith, nat_tests))) (λ b second.
        kept_ok (checked_fits site width _ sites (grind (arith, nat_tests)) (value2-word op width a b first second))))
    order_fits (Jump callee actuals) sites is = grind (arith, nat_tests, listed_fit actuals)
    order_fits (Return exit alternates values) sites is = grind (arith, nat_tests, listed_fit values)
    order_fits (Cut to values own) sites is = grind (arith, nat_tests, listed_fit values)
    order_fits form sites is = grind (arith, nat_tests)
