use Rattle.std.proofs.Common.{◌≡◌, ℕ, ◌+◌, ◌∙◌, ap, subst, arith, List, [], ◌∷◌, ◌++◌, length}
use Rattle.std.specs.Prelude.{slice_index}
use Rattle.rv_asm.specs.Appending.{Codes}
use Rattle.rv_asm.specs.Sizes.{all_longest}
use Rattle.rv_asm.specs.declared.part.Label.{Label}
use Rattle.rv_asm.specs.declared.part.Meaning.{Meaning}
use Rattle.rv_table.specs.declared.request.Request.TheVariants.{End}
use Rattle.cmm_effects.specs.Requests.{AsksFor}
use Rattle.cmm_emit.proofs.Starting.{begins, labels_are, last_is, main_is}
use Rattle.cmm_emit.specs.Finishing.{AreFinished}
use Rattle.cmm_unit_code.specs.declared.unit_code.Reference.{Reference}
use Rattle.cmm_unit_code.specs.declared.unit_code.Reference.TheVariants.{Procedure}
use Rattle.cmm_emit.proofs.start.start_code.Goals as goal

pub returns : goal.returns
returns c =
    let p = c.args.program.now in
    let placed = c.in_ok-placed.placed in
    let e = c.in_ok-placed.ensures in
    let laid = c.in_ok-lay_start.ensures in
    let main = c.in_ok-main.main in
    let last = c.in_ok-last.last in
    let none = c.new-asm.result.labels in
    let one = c.outer.new.self.labels in
    let two = c.label.new.self.labels in
    let new = c.lay_start.new.asm.labels in
    let parts = c.lay_start.new.asm.parts in
    let is_none = c.new-asm.ensures.labels in
    let is_one = c.in_ok-main.ensures.labels in
    let is_two = c.in_ok-last.ensures.labels in
    let is_main = c.in_ok-main.ensures.number in
    let is_last = c.in_ok-last.ensures.number in
    let empty = c.label.ensures.parts ∙ (c.outer.ensures.parts ∙ c.new-asm.ensures.parts) in
    let behind = last_is none one two new main last is_none is_one is_two is_main is_last in
    record {
      parts = parts;
      places = placed.places;
      done = subst (λ (ms : List Meaning). AreFinished ms parts placed.places (record { code = placed.bytes; references = c.push.new.self; fixes = placed.fixes; procedures = c.new.result; landings = c.new-2.result; sites = c.new-3.result }))
          (labels_are none one two new main last is_none is_one is_two is_main is_last laid.labels) (record {
            runs = e.runs;
            have = e.places;
            symbols = e.symbols;
            fit = e.fit;
            few = e.size;
            apart = e.apart;
            whole = e.whole;
          });
      begins = begins main last c.label.new.self.parts parts empty (main_is none one two new main last is_none is_one is_two is_main is_last) behind laid.calls;
      ends = subst (λ (l : Label). Codes parts l (λ x from to. AsksFor 1 (λ t. End (t.registers 10)) x from)) behind laid.ends;
      closed = laid.closed;
      size = omega (arith, laid.size, ap all_longest empty);
      last = c.place-last.ensures
          ∙ (ap (λ (ps : List ℕ). slice_index ps last.number) c.as_slice.ensures ∙ ap (λ (l : Label). slice_index placed.places l.number) behind);
      references = c.in_ok-push.ensures.ok ∙ ap (λ (rs : List Reference). rs ++ Procedure p.main ∷ []) c.new-references.ensures;
      procedures = c.new.ensures;
      landings = c.new-2.ensures;
      sites = c.new-3.ensures;
    }
