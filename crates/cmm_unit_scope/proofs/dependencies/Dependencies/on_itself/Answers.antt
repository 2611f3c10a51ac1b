use Rattle.std.proofs.Common.{◌≡◌, ◌<◌, ◌∙◌, false, length, sym, arith}
use Rattle.std.proofs.lemmas.List.{get_or_read}
use Rattle.cmm_unit_scope.proofs.Depended.{depends_is}
use Rattle.cmm_unit_scope.proofs.dependencies.Dependencies.on_itself.Goals as goal

pub returns : goal.returns
returns c = λ ds. λ d. λ are. λ number. λ at.
    let flags = c.args.self.now.cyclic.items in
    let size : length c.requires.0 ≡ length ds = sym c.requires.1.size ∙ are.size in
    let own : length flags ≡ length ds = are.size in
    let known : c.args.number < length c.requires.0 = c.requires.2 in
    let within : c.args.number < length ds = omega arith in
    let inside : c.args.number < length flags = omega arith in
    get_or_read flags c.args.number c.index.result.now inside c.index.ensures false ∙ are.cyclic c.args.number within ∙ depends_is ds d c.args.number number at
