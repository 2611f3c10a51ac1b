-- The link names under which units export something.
use Rattle.std.specs.Prelude.{ℕ, List, map}
use Rattle.cmm_static_semantics.specs.Linking.{Program}

abbrev pub exported_links : Program → List (List ℕ)
exported_links program = map (λ p. p.link) program.exports
