-- The colours are as the call says.
use Rattle.std.proofs.Common.{◌≡◌, ℕ, ◌<◌, ◌^◌, true, List, take, is_some, Option, sym, ◌∙◌, subst, arith}
use Rattle.cmm_ilist.specs.NodeLists.{has}
use Rattle.cmm_colour.specs.Colours.{AreColours, colour_of}
use Rattle.cmm_colour.specs.Graphs.{IsUndirected, adjacent}
use Rattle.cmm_colour.specs.inside.Choosing.{AreChosen}
use Rattle.cmm_colour.specs.inside.Removing.{AreRemoved, AreSimple}
use Rattle.cmm_colour.specs.inside.Simple.{AreOnce}
use Rattle.cmm_colour.proofs.Ordering.{find_in, peels_is_first}

module _ (g rows : List (List ℕ)) (undirected : IsUndirected g) (once : AreOnce g rows) where
  joins : (v w : ℕ) → adjacent rows v w ≡ true → adjacent g v w ≡ true
  joins v w is = sym ((once.rows v).same w) ∙ is

  pub simple_rows : AreSimple rows
  simple_rows = record {
    undirected = record {
      few = subst (λ n. n < 2 ^ 32) (sym once.size) undirected.few;
      within = λ v w is. subst (λ n. w < n) (sym once.size) (undirected.within v w (joins v w is));
      different = λ v w is. undirected.different v w (joins v w is);
      both = λ v w is. (once.rows w).same v ∙ undirected.both v w (joins v w is);
    };
    distinct = λ v. (once.rows v).distinct;
  }

  pub are_colours : (k : ℕ) (order : List ℕ) (peeled : ℕ) (colours : List (Option ℕ)) → AreRemoved rows k order peeled → AreChosen rows k order peeled 0 colours → AreColours g k colours
  are_colours k order peeled colours removed chosen = record {
    size = chosen.size ∙ once.size;
    below = chosen.below;
    proper = λ v w c is. chosen.proper v w c ((once.rows v).same w ∙ is);
    full = λ v low peels. (
        let front : has v (take peeled order) ≡ true = peels_is_first g rows k undirected once (take peeled order) removed.stuck v low peels in
        let r = find_in peeled v order front in
        subst (λ n. is_some (colour_of colours n) ≡ true) r.2 (chosen.full r.0 (omega arith) r.1));
  }
