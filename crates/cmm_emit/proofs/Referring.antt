-- The code of a program lists what it names.
use Rattle.std.proofs.Common.{◌≡◌, ℕ, ◌+◌, refl, sym, ◌∙◌, ap, subst, arith, List, [], ◌∷◌, length, map, slice_index}
use Rattle.std.proofs.lemmas.List.{length-map}
use Rattle.rv_asm.specs.declared.part.Label.{Label}
use Rattle.cmm_program.specs.declared.program.Program.{Program}
use Rattle.cmm_graph.specs.declared.graph.Graph.{Graph}
use Rattle.cmm_allocate.specs.declared.procedure.ProcedurePlaces.{ProcedurePlaces}
use Rattle.cmm_unit_code.specs.declared.unit_code.Reference.{Reference}
use Rattle.cmm_unit_code.specs.declared.unit_code.UnitCode.{UnitCode}
use Rattle.cmm_emit.proofs.Belonging.{length-entry_labels}
use Rattle.cmm_emit.specs.LaidProcedures.{CanAllBeLaidIn}
use Rattle.cmm_emit.specs.Mentions.{references_of}
use Rattle.cmm_emit.specs.Outlines.{own, share}
use Rattle.cmm_emit.specs.Units.{AreUnits, HaveReferences, IsUnit}

module _ (p : Program) (graphs : List Graph) (found : List ProcedurePlaces)
    (can_of : (first count : ℕ) (u : UnitCode) (is : IsUnit p graphs found first count u) → CanAllBeLaidIn p graphs found is.outline) where
  module _ (first count : ℕ) (u : UnitCode) (is : IsUnit p graphs found first count u) where
    -- it has an entry for each of its procedures
    pub procedures_counted : length u.procedures ≡ length is.outline.contexts
    procedures_counted =
        let can = can_of first count u is in
        let graph_count = can.graph_count in
        let contexts = is.is_outline.contexts.count in
        ap (λ (ns : List ℕ). length ns) is.finished.procedures
        ∙ (length-map is.outline.entries (λ (l : Label). slice_index is.finished.places l.number)
        ∙ (ap (λ (ls : List Label). length ls) is.is_outline.entries
        ∙ length-entry_labels is.outline.contexts (own is.outline graphs) (omega (arith, graph_count, contexts))))

    counted : length u.procedures ≡ count
    counted = procedures_counted ∙ is.count_is

    listed : u.references ≡ references_of p (share first count graphs) first count
    listed =
        let procs : length (own is.outline p.procs) ≡ count = let contexts = is.is_outline.contexts.count in omega (arith, contexts, is.count_is) in
        is.finished.references
        ∙ (is.is_outline.references
        ∙ (is.is_outline.are_symbols.references
        ∙ (ap (λ (n : ℕ). references_of p (share n (length is.outline.contexts) graphs) n (length (own is.outline p.procs))) is.first_is
        ∙ (ap (λ (n : ℕ). references_of p (share first n graphs) first (length (own is.outline p.procs))) is.count_is
        ∙ ap (λ (n : ℕ). references_of p (share first count graphs) first n) procs))))

  pub have_references : (first : ℕ) (us : List UnitCode) → AreUnits p graphs found first (length p.procs) us → HaveReferences p graphs first us
  have_references first [] are = are
  have_references first (u ∷ us) are =
      subst (λ (n : ℕ). (u.references ≡ references_of p (share first n graphs) first n) × HaveReferences p graphs (first + n) us)
      (sym (counted first are.0 u are.1)) (listed first are.0 u are.1, have_references (first + are.0) us are.2)
