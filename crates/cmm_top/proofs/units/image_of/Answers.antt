use Rattle.std.proofs.Common.{subst, sym, ◌∷◌, ◌++◌}
use Rattle.cmm_front.specs.Refusing.{BreaksLexis, IsFaultOf, IsRefused as IsRefusedBy}
use Rattle.cmm_compile.specs.Refusing.{IsRefused}
use Rattle.cmm_top.proofs.Refusing.{lexis_is}
use Rattle.cmm_top.proofs.FilesRead.{cut_is}
use Rattle.cmm_top.proofs.units.image_of.Goals as goal

pub returns-then-sources-clause-err : goal.returns-then-sources-clause-err
returns-then-sources-clause-err c units are =
    let cut = cut_is units c.args.sources.now c.if-sources.true are in
    subst (IsRefused (IsFaultOf units)) (sym c.from.ensures)
    (lexis_is units c.too_long.result (subst (λ us. IsRefusedBy (BreaksLexis us) c.too_long.result) (sym cut.is)
    (subst (λ us. IsRefusedBy (BreaksLexis (us ++ cut.unit ∷ cut.rest)) c.too_long.result) c.as_slice-units.ensures (c.too_long.ensures.first cut.unit cut.rest cut.more))))
