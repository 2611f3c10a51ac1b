use Rattle.std.proofs.Common.{ℕ, ◌∙◌, ap, List, map}
use Rattle.rv_asm.specs.declared.part.Label.{Label}
use Rattle.cmm_emit.specs.declared.context.Context.{Context}
use Rattle.cmm_emit.specs.Finishing.{places_at}
use Rattle.cmm_emit.proofs.finishing.finish_unit.Goals as goal

pub returns : goal.returns
returns c =
    let placed = c.in_ok-placed.placed in
    let e = c.in_ok-placed.ensures in
    let o = c.args.outline.now in
    record {
      places = placed.places;
      done = record {
        runs = e.runs;
        have = e.places;
        symbols = e.symbols;
        fit = e.fit;
        few = e.size;
        apart = e.apart;
        whole = e.whole;
      };
      references = c.in_ok-references.ensures ∙ c.as_slice-4.ensures;
      procedures = c.in_ok-procedures.ensures
          ∙ (ap (λ (ps : List ℕ). places_at ps c.as_slice.result.now) c.as_slice-places.ensures ∙ ap (λ (ls : List Label). places_at placed.places ls) c.as_slice.ensures);
      landings = c.in_ok-landings.ensures
          ∙ (ap (λ (ps : List ℕ). map (λ p. places_at ps p.landings) c.as_slice-2.result.now) c.as_slice-places.ensures
          ∙ ap (λ (cs : List Context). map (λ p. places_at placed.places p.landings) cs) c.as_slice-2.ensures);
      sites = c.in_ok-sites.ensures
          ∙ (ap (λ (ps : List ℕ). map (λ p. places_at ps p.sites) c.as_slice-3.result.now) c.as_slice-places.ensures
          ∙ ap (λ (cs : List Context). map (λ p. places_at placed.places p.sites) cs) c.as_slice-3.ensures);
    }
