-- A yield of an image is the line and the client's answer, whatever the chain is.
use Rattle.std.proofs.Common.{◌≡◌, ℕ, List, [], ◌∷◌, ◌++◌, Option, Some, None, Result, Ok, Err, refl, sym, ap, ◌∙◌, append-nil, append_assoc}
use Rattle.std.specs.Result.{IsErr}
use Rattle.rv_table.specs.Machine.{State}
use Rattle.cmm_abi.specs.Regions.{Region, values_in}
use Rattle.cmm_outside.specs.Output.{WritesAll}
use Rattle.cmm_outside.specs.declared.Failed.{Failed}
use Rattle.cmm_report.proofs.Shared.{front_longer}
use Rattle.cmm_script.specs.declared.script.Script.{Script}
use Rattle.cmm_script.specs.Lines.{yield_line}
use Rattle.cmm_program.specs.Asking.{Break, Chain, Cursor, at_youngest}
use Rattle.cmm_image.specs.declared.parts.ImageParts.{ImageParts}
use Rattle.cmm_image.specs.Images.{IsImage}
use Rattle.cmm_image_machine.specs.Frames.{Element, chain_of, first_point, found_at}
use Rattle.cmm_image_machine.specs.Machine as image
use Rattle.cmm_image_machine.specs.Machine.{Launch, Run, answered, askable, region_of, yielded, yielded_at, yields}
use Rattle.cmm_walk.specs.declared.activation.Activation.{Activation as ActivationOf}
use Rattle.cmm_walk.specs.Activations.{element_of}
use Rattle.cmm_walk.specs.Walking.{found_by}
use Rattle.cmm_walk.proofs.Shared.{begins, rest_of, written_ok, written_then}
use Rattle.cmm_client.specs.Stops.{cursor_of}
use Rattle.cmm_client.specs.Yields.{YieldsAreAnswers, at_chain, at_yield, run_behind, with_values}
use Rattle.cmm_client.specs.inside.Counting.{count_at, count_of}

goes_behind : (l : Launch) (values : List ℕ) (run : Run) → let s = run.machine in let first = at_youngest (chain_of l.image (region_of l) s) in
    yields l values run ≡ run_behind (with_values l.image (region_of l) l.script values first s) run
goes_behind l values run =
    let answer = answered l values run.machine in
    ap (λ (log : List ℕ). image.left answer.left record run { log = log }) (append_assoc run.log (yield_line values) answer.text)

by : (l : Launch) (activations : List Element) (broken : Option Break) (run : Run) → let chain : Chain Element = record { activations = activations; broken = broken } in
    yielded l chain run ≡ run_behind (at_chain l.image (region_of l) l.script chain run.machine) run
by l [] None run = goes_behind l [] run
by l [] (Some b) run = ap (λ (log : List ℕ). record run { log = log; status = image.Torn b }) (sym (append-nil run.log))
by l (e ∷ older) broken run = goes_behind l (yielded_at (region_of l) run.machine (e ∷ older)) run

pub yields_are_answers : YieldsAreAnswers
yields_are_answers l run = let chain = chain_of l.image (region_of l) run.machine in by l chain.activations chain.broken run

-- ---- what is found at the first point of the chain

yielded_by : (r : Region) (s : State) (e : Element) (older : List Element) (o : Option ℕ) → e.site.yield_values ≡ o → yielded_at r s (e ∷ older) ≡ values_in r s (count_of e.site.yield_values)
yielded_by r s e older (Some count) is = rw is refl
yielded_by r s e older None is = rw is refl

module _ (i : ImageParts) (h : IsImage i) (r : Region) (script : Script) (s : State) where
  with_first : (first : Option ActivationOf) (cursor : Cursor Element) → at_youngest (chain_of i r s) ≡ cursor →
      at_chain i r script (rest_of i r s (found_by i (Ok first))) s ≡ with_values i r script (values_in r s (count_at i first)) cursor s
  with_first (Some a) cursor is =
      let e = element_of i a in
      (λ j. with_values i r script (yielded_by r s e (rest_of i r s (found_by i (Ok (Some a)))).activations e.site.yield_values refl j) (is j) s)
  with_first None cursor is = ap (λ (c : Cursor Element). with_values i r script [] c s) is

  first_cursor : (first : Option ActivationOf) → at_youngest (rest_of i r s (found_by i (Ok first))) ≡ cursor_of i record { activation = first }
  first_cursor (Some a) = refl
  first_cursor None = refl

  -- a yield is of the values that were found, with the cursor at the youngest activation
  pub yield_is : (first : Option ActivationOf) (values : List ℕ) → found_by i (Ok first) ≡ found_at i r (first_point s) → values ≡ values_in r s (count_at i first) →
      at_yield i r script s ≡ with_values i r script values (cursor_of i record { activation = first }) s
  yield_is first values is are =
      let chain : chain_of i r s ≡ rest_of i r s (found_by i (Ok first)) = begins i h r s ∙ ap (rest_of i r s) (sym is) in
      ap (λ (c : Chain Element). at_chain i r script c s) chain
      ∙ with_first first (cursor_of i record { activation = first }) (ap at_youngest chain ∙ first_cursor first)
      ∙ ap (λ (vs : List ℕ). with_values i r script vs (cursor_of i record { activation = first }) s) (sym are)

-- ---- the line of a yield, and what is behind it

module _ {Sink A B : Type 0} (taken : Sink → Option (List ℕ)) (faults : Sink → ℕ) (old mid new : Sink) (line rest : List ℕ) where
  -- it could not be written
  pub line_fails : (written : Result A Failed) (e : Failed) (result : Result B Failed) → written ≡ Err e → IsErr result → WritesAll taken faults old new line written →
      WritesAll taken faults old new (line ++ rest) result
  line_fails (Ok a) e result was failed writes = absurd (cc was)
  line_fails (Err f) e (Ok b) was failed writes = absurd (cc failed)
  line_fails (Err f) e (Err d) was failed writes = record {
    ok = tt;
    err = front_longer (taken old) (taken new) line rest writes.err;
    no_fault = tt;
    fault = writes.fault;
  }

  -- it is written, and then the rest
  pub line_then : (written : Result A Failed) (a : A) (result : Result B Failed) → written ≡ Ok a → WritesAll taken faults old mid line written →
      WritesAll taken faults mid new rest result → WritesAll taken faults old new (line ++ rest) result
  line_then written a result was writes answers =
      written_then taken faults old mid new line rest result (written_ok taken faults old mid line written a was writes) answers
