use Rattle.std.proofs.Common.{◌∙◌, ℕ, List, Some, map, ap}
use Rattle.std.proofs.Math.Path.{fun_ext}
use Rattle.cmm_static_semantics.specs.Judging.{if_ok}
use Rattle.cmm_static_semantics.specs.Senses.{Senses}
use Rattle.cmm_static_semantics.specs.Typing.{type_width}
use Rattle.cmm_symbols.specs.Shown.{shown, entry_shown}
use Rattle.cmm_symbols.specs.declared.table.Named.{Named}
use Rattle.cmm_symbols.specs.declared.entry.Entry.{Entry}
use Rattle.cmm_unit_scope.specs.Types.{type_sense}
use Rattle.cmm_unit_scope.proofs.Evaluated.{type_settled}
use Rattle.cmm_unit_scope.proofs.Meanings.{sense_found}
use Rattle.cmm_unit_scope.proofs.types.types_of.Goals as goal

pub returns-clause-senses : goal.returns-clause-senses
returns-clause-senses c = λ name.
    sense_found c.args.table.now.declared c.in_ok-senses.senses name
    (c.in_ok-senses.ensures ∙ ap (λ (ds : List (Named Entry)). map (λ (n : Named Entry). type_sense (map shown ds) (Some (entry_shown n.what))) ds) c.as_slice.ensures)

pub returns-clause-widths : goal.returns-clause-widths
returns-clause-widths c = λ t.
    ap (λ (n : Senses). if_ok (type_width n t))
    (fun_ext (λ (name : List ℕ). sense_found c.args.table.now.declared c.in_ok-senses.senses name
    (c.in_ok-senses.ensures ∙ ap (λ (ds : List (Named Entry)). map (λ (n : Named Entry). type_sense (map shown ds) (Some (entry_shown n.what))) ds) c.as_slice.ensures)))
    ∙ type_settled (map shown c.args.table.now.declared) c.in_ok-widths.widths c.in_ok-widths.ensures.widths c.in_ok-widths.ensures.settled t
