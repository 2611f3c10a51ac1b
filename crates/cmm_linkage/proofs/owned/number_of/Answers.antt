use Rattle.std.proofs.Common.{◌∙◌, Bool, true, false, Option, None, ℕ, sym, ap, map}
use Rattle.cmm_static_semantics.specs.Senses.{is_host}
use Rattle.cmm_static_semantics.specs.Declarations.{found}
use Rattle.cmm_symbols.specs.Numbering.{numbering}
use Rattle.cmm_symbols.specs.Shown.{shown}
use Rattle.cmm_symbols.proofs.Shared.{numbering_shown}
use Rattle.cmm_linkage.proofs.owned.number_of.Goals as goal

pub returns-else-is_host : goal.returns-else-is_host
returns-else-is_host c =
    c.number.ensures ∙ ap (found c.args.name.now) (numbering_shown c.args.table.now.declared)
    ∙ sym (ap (λ (b : Bool). elim b as (λ _. Option ℕ) [ true ↦ None | false ↦ found c.args.name.now (numbering (map shown c.args.table.now.declared)) ])
    (sym (c.is_host.ensures ∙ ap is_host c.as_bytes.ensures) ∙ c.if-is_host.false))
