-- The rules that a procedure breaks, from those of its names, its formals and its parts.
use Rattle.std.proofs.Common.{◌≡◌, ap, sym, ◌∙◌, List, [], ◌++◌, Option}
use Rattle.std.specs.Prelude.{flat_map}
use Rattle.cmm_ast.specs.declared.procedure.Formal.{Formal}
use Rattle.cmm_ast.specs.declared.procedure.Proc.{Proc}
use Rattle.cmm_ast.specs.declared.statement.Part.{Part}
use Rattle.cmm_rules.specs.declared.rule.Rule.TheVariants.{TooManyValues}
use Rattle.cmm_static_semantics.specs.declared.spot.Spot.{Spot}
use Rattle.cmm_static_semantics.specs.Declarations.{again, own_names}
use Rattle.cmm_static_semantics.specs.Expressions.{past_limit}
use Rattle.cmm_static_semantics.specs.Items.{parts_of}
use Rattle.cmm_static_semantics.specs.Scopes.{Scope}
use Rattle.cmm_static_semantics.specs.Senses.{Senses}
use Rattle.cmm_static_semantics.specs.Spots.{first_of}
use Rattle.cmm_static_semantics.specs.Statements.{scope_of, proc_spots, part_spots, formal_token}
use Rattle.cmm_static_semantics.proofs.Shared.{first_of_append}
use Rattle.cmm_check_procedure.specs.inside.Formals.{formal_spots, formals_spots}

by_parts : (best : Option Spot) (a b c d : List Spot) → first_of (first_of (first_of best a) (b ++ c)) d ≡ first_of best (a ++ b ++ c ++ d)
by_parts best a b c d =
    ap (λ t. first_of t d) (first_of_append (first_of best a) b c ∙ ap (λ t. first_of t c) (sym (first_of_append best a b)) ∙ sym (first_of_append best (a ++ b) c))
    ∙ sym (first_of_append best (a ++ b ++ c) d)

pub whole : (outer : Senses) (p : Proc) (s : Scope) (formals : List Formal) (parts : List Part) (before named declared noted : Option Spot) →
    s ≡ scope_of outer p → formals ≡ p.formals → parts ≡ parts_of p.body →
    named ≡ first_of before (again [] (own_names p)) → declared ≡ first_of named (formals_spots s formals) →
    noted ≡ first_of declared (flat_map (part_spots s) parts) → noted ≡ first_of before (proc_spots outer p)
whole outer p s formals parts before named declared noted scope are stand names types rest =
    rest
    ∙ ap (λ q. first_of declared (flat_map (part_spots q) parts)) scope
    ∙ ap (λ q. first_of declared (flat_map (part_spots (scope_of outer p)) q)) stand
    ∙ ap (λ b. first_of b (flat_map (part_spots (scope_of outer p)) (parts_of p.body)))
    (types ∙ ap (λ b. first_of b (formals_spots s formals)) names
    ∙ ap (λ q. first_of (first_of before (again [] (own_names p))) (formals_spots q formals)) scope
    ∙ ap (λ q. first_of (first_of before (again [] (own_names p))) (formals_spots (scope_of outer p) q)) are)
    ∙ by_parts before (again [] (own_names p)) (past_limit TooManyValues 64 formal_token p.formals) (flat_map (formal_spots (scope_of outer p)) p.formals)
    (flat_map (part_spots (scope_of outer p)) (parts_of p.body))
