use Rattle.std.proofs.Common.{◌++◌, ◌∙◌, List, ℕ, Option, map, take, ap, subst}
use Rattle.std.specs.Prelude.{bytes_eq}
use Rattle.cmm_words.specs.declared.width.Width.{Width}
use Rattle.cmm_ast.specs.declared.expression.TypeName.{TypeName}
use Rattle.cmm_static_semantics.specs.Declarations.{Declared}
use Rattle.cmm_static_semantics.specs.Judging.{if_ok}
use Rattle.cmm_static_semantics.specs.Typing.{type_width}
use Rattle.cmm_symbols.specs.Indexed.{indexed, or_else}
use Rattle.cmm_symbols.specs.Shown.{with_what}
use Rattle.cmm_check_units.specs.inside.Flat.{widths_by}
use Rattle.cmm_check_units.specs.inside.Linked.{AreFound}
use Rattle.cmm_linkage.specs.Registers.{register_shown}
use Rattle.cmm_linkage.proofs.Shared.{listed_next}
use Rattle.cmm_check_units.proofs.Links.{found_added}
use Rattle.cmm_unit_scope.specs.Types.{senses_of}
use Rattle.cmm_check_units.proofs.registers.add_registers.Goals as goal

pub loop-register-preserved : goal.loop-register-preserved
loop-register-preserved c = λ before. λ are.
    let w : TypeName → Option Width = λ t. if_ok (type_width (senses_of c.args.types.now) t) in
    let rs = c.args.registers.now in
    let k = c.loop-register.register-index in
    let r = c.register-item.result in
    let old = c.loop-register.earlier in
    subst (λ (q : List (Declared (Option Width))). AreFound c.add.new.self q) (listed_next register_shown (with_what w) before rs k r c.loop-register-test.true c.register-item.is)
    (found_added old c.add.new.self (before ++ widths_by w (map register_shown (take k rs))) (with_what w (register_shown r)) (c.loop-register.invariant before are)
    (λ x. c.in_ok-add.ensures.names x ∙ ap (λ (n : List ℕ). or_else (indexed old x) (bytes_eq x n) c.width_of-width.result) c.as_bytes.ensures
    ∙ ap (λ (v : Option Width). or_else (indexed old x) (bytes_eq x r.name.now.name) v) c.width_of-width.ensures))
