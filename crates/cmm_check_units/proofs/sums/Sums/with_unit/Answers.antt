use Rattle.std.proofs.Common.{◌∙◌, ◌-◌, length, map, ap, sym, subst}
use Rattle.cmm_ast.specs.declared.unit.Unit.{Unit as UnitTree}
use Rattle.cmm_program.specs.Layout.{end_of}
use Rattle.cmm_static_semantics.specs.Declarations.{procs_in}
use Rattle.cmm_static_semantics.specs.Limits.{data_pieces, proc_count, site_spans, site_variables, token_count}
use Rattle.cmm_static_semantics.specs.Senses.{Senses}
use Rattle.cmm_check_declarations.specs.DataEnds.{IsEnd, data_of}
use Rattle.cmm_limits.specs.Capped.{capped}
use Rattle.cmm_symbols.specs.Shown.{thing_item, whats}
use Rattle.cmm_symbols.proofs.Shared.{sum_is}
use Rattle.cmm_check_units.proofs.Totals.{total_next, end_next}
use Rattle.cmm_check_units.proofs.sums.Sums.with_unit.Goals as goal

pub returns : goal.returns
returns g c = λ program. λ before. λ u. λ tree. λ items. λ names. λ sums.
    let told : Senses = g.N.Names.senses c.args.names.now in
    let same = c.things-things.ensures ∙ ap whats (sym items) in
    let end = end_of 0 (data_pieces program before) in record {
      tokens = total_next program token_count before u c.args.self.tokens c.token_count.result c.saturating_add.result sums.tokens
          (c.token_count.ensures ∙ ap (λ (t : UnitTree). capped (length t.places - 1)) (c.tree.ensures ∙ sym tree)) c.saturating_add.ensures;
      procedures = total_next program proc_count before u c.args.self.procedures c.in_ok-procedures.procedures c.saturating_add-2.result sums.procedures
          (c.in_ok-procedures.ensures ∙ ap capped (sum_is procs_in c.things-things.result.now u.items same)) c.saturating_add-2.ensures;
      variables = total_next program site_variables before u c.args.self.site_variables c.site_variables-variables.result c.saturating_add-3.result sums.variables
          (c.site_variables-variables.ensures told u items) c.saturating_add-3.ensures;
      spans = total_next program site_spans before u c.args.self.site_spans c.in_ok-spans.spans c.saturating_add-4.result sums.spans
          (c.in_ok-spans.ensures u items ∙ ap (λ (n : Senses). capped (site_spans n u)) names) c.saturating_add-4.ensures;
      ends = end_next program before u (map thing_item c.things-things.result.now) c.end_after.result same
          (subst (λ (n : Senses). IsEnd end (data_of n (map thing_item c.things-things.result.now)) c.end_after.result) names (c.end_after.ensures end sums.ends));
    }
