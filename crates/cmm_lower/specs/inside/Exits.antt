-- The continuations that annotations name, by what the annotations say.
use Rattle.std.specs.Prelude.{List}
use Rattle.cmm_ast.specs.declared.statement.Flow.{Flow}
use Rattle.cmm_ast.specs.declared.token.Ident.{Ident}
use Rattle.cmm_static_semantics.specs.Calls.{return_names}
use Rattle.cmm_elaboration.specs.Sites.{cut_names, unwind_names}
use Rattle.cmm_lower.specs.declared.exits.Exits.{Exits}
use Rattle.cmm_lower.specs.declared.exits.Exits.TheVariants.{Cuts, Returns, Unwinds}

abbrev pub names_by : Exits → Flow → List Ident
names_by Cuts f = cut_names f
names_by Unwinds f = unwind_names f
names_by Returns f = return_names f
