-- The rooms of stackdata, by the form of a declaration.
use Rattle.std.specs.Prelude.{List, []}
use Rattle.cmm_ast.specs.declared.procedure.LocalForm.{LocalForm}
use Rattle.cmm_ast.specs.declared.procedure.LocalForm.TheVariants as locals
use Rattle.cmm_ast.specs.declared.procedure.Room.{Room}

abbrev pub rooms_in : LocalForm → List Room
rooms_in (locals.Stackdata rs) = rs
rooms_in (locals.Variables before width names) = []
