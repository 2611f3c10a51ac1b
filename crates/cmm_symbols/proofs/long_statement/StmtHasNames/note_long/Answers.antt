use Rattle.std.proofs.Common.{◌++◌, refl}
use Rattle.std.specs.Prelude.{flat_map}
use Rattle.cmm_static_semantics.specs.Mentions.{listed}
use Rattle.cmm_static_semantics.specs.LongNames.{of_expr, of_span}
use Rattle.cmm_symbols.specs.inside.Arms.{of_case}
use Rattle.cmm_symbols.proofs.Lengths.{long_append}
use Rattle.cmm_symbols.proofs.Mentioned.{switch_law}
use Rattle.cmm_symbols.proofs.long_statement.StmtHasNames.note_long.Goals as goal

pub returns-in-Switch : goal.returns-in-Switch
returns-in-Switch c =
    let over = flat_map of_span (listed c.in-Switch.range) in
    let value = of_expr c.in-Switch.value in
    rw (
      switch_law c.args.self.now.form c.in-Switch.range c.in-Switch.value c.in-Switch.arms c.in-Switch.is,
      long_append c.args.best.now (over ++ value) (flat_map (λ a. of_case a.case) c.in-Switch.arms),
      long_append c.args.best.now over value,
      c.note_each.ensures,
      c.note_long-in-Switch.ensures,
      c.note_some.ensures,
      c.as_slice.ensures,
    ) refl
