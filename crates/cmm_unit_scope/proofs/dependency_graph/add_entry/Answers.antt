use Rattle.std.proofs.Common.{◌++◌, ◌∙◌, List, ℕ, Some, map, ap, sym}
use Rattle.cmm_symbols.specs.Numbering.{numbering}
use Rattle.cmm_symbols.specs.Shown.{shown, entry_shown}
use Rattle.cmm_symbols.specs.declared.entry.Entry.{Entry}
use Rattle.cmm_unit_scope.specs.Depending.{mentioned_by}
use Rattle.cmm_unit_scope.proofs.Listed.{const_numbers}
use Rattle.cmm_unit_scope.proofs.dependency_graph.add_entry.Goals as goal

pub returns-in_ok-add_expr-in-Const : goal.returns-in_ok-add_expr-in-Const
returns-in_ok-add_expr-in-Const c =
    let ns = numbering (map shown c.args.table.now.declared) in
    c.in_ok-add_expr-in-Const.ensures ∙ ap (λ (t : List ℕ). c.args.to.now ++ t) (sym (const_numbers ns c.in-Const.value.now))
    ∙ ap (λ (e : Entry). c.args.to.now ++ mentioned_by ns (Some (entry_shown e))) (sym c.in-Const.is)
