-- Whether a program is in range, as one test that computes: a worked row says `refl` of it.
use Rattle.std.proofs.Common.{◌≡◌, ℕ, ◌+◌, ◌*◌, ◌^◌, Bool, true, false, ◌&&◌, All, List, [], ◌∷◌, length, slice_get, Option, Some, None, refl, sym, ap, ◌∙◌}
use Rattle.std.proofs.lemmas.Bool.{leb-true, eqb-true}
use Rattle.std.proofs.lemmas.List.Elements.{All-cons, All-nil}
use Rattle.std.specs.List.{list_all}
use Rattle.std.specs.Prelude.{◌==◌, nat_le, nat_lt, sum_by}
use Rattle.rv_table.specs.Memory.{data_base}
use Rattle.cmm_program.specs.declared.statement.Form.TheVariants.{Span}
use Rattle.cmm_program.specs.declared.procedure.Proc.{Proc}
use Rattle.cmm_program.specs.declared.program.Program.{Program}
use Rattle.cmm_program.specs.InRange.{IsInRange, IsProcInRange, is_body_in, is_continuation, is_datum, is_item, is_label, is_name, is_site}
use Rattle.cmm_program.specs.Layout.{end_before, stackdata_size}
use Rattle.cmm_program.specs.Limits.{data_limit, procedure_limit, procedure_token_limit, register_limit, site_span_limit, site_variable_limit, stackdata_limit, token_limit, unit_limit, variable_limit}
use Rattle.cmm_program.specs.Numbering.{are_each_once, body_numbers, body_tokens, continuation_number, label_number, site_number}
use Rattle.cmm_program.specs.Tokens.{procedure_tokens}

-- all of some tests are passed
abbrev AreTrue : List Bool → Type 0
AreTrue [] = Unit
AreTrue (b ∷ bs) = (b ≡ true) × AreTrue bs

each_true : (bs : List Bool) → list_all (λ b. b) bs ≡ true → AreTrue bs
each_true [] is = tt
each_true (true ∷ bs) is = (refl, each_true bs is)
each_true (false ∷ bs) is = absurd (cc)

two_true : (a b : Bool) → (a && b) ≡ true → list_all (λ b. b) (a ∷ b ∷ []) ≡ true
two_true true true is = refl
two_true true false is = absurd (cc)
two_true false b is = absurd (cc)

module _ (p : Program) where
  abbrev tests : Proc → List Bool
  tests q =
      is_name q.name
      ∷ nat_lt q.unit unit_limit
      ∷ (nat_le q.formals (length q.vars) && nat_le q.formals 64)
      ∷ nat_le (length q.vars) variable_limit
      ∷ list_all (λ v. is_name v.kind) q.vars
      ∷ list_all is_item q.stack
      ∷ nat_le (stackdata_size q.stack) stackdata_limit
      ∷ nat_le q.tokens procedure_token_limit
      ∷ list_all (is_continuation p q) q.conts
      ∷ list_all (is_site p q) q.sites
      ∷ is_body_in p q (Span q.body)
      ∷ are_each_once (length (body_numbers label_number q)) (body_numbers label_number q)
      ∷ are_each_once (length q.conts) (body_numbers continuation_number q)
      ∷ are_each_once (length q.sites) (body_numbers site_number q)
      ∷ nat_le (procedure_tokens q) q.tokens
      ∷ nat_le (body_tokens q) q.tokens
      ∷ []

  abbrev pub is_procedure_in_range : Proc → Bool
  is_procedure_in_range q = list_all (λ b. b) (tests q)

  pub procedure_in_range : (q : Proc) → is_procedure_in_range q ≡ true → IsProcInRange p q
  procedure_in_range q passed =
      let t = each_true (tests q) passed in
      let frames = t.1.1.1.1.1 in
      let numbers = frames.1.1.1.1.1.1 in
      record {
        name = t.0;
        unit = leb-true _ _ t.1.0;
        formals = t.1.1.0;
        variables = leb-true _ _ t.1.1.1.0;
        kinds = t.1.1.1.1.0;
        frames = record { items = frames.0; stackdata = leb-true _ _ frames.1.0; tokens = leb-true _ _ frames.1.1.0 };
        continuations = frames.1.1.1.0;
        sites = frames.1.1.1.1.0;
        body = frames.1.1.1.1.1.0;
        labels_numbered = numbers.0;
        continuations_numbered = numbers.1.0;
        sites_numbered = numbers.1.1.0;
        shortest = leb-true _ _ numbers.1.1.1.0;
        counts = leb-true _ _ numbers.1.1.1.1.0;
      }

  all_in_range : (qs : List Proc) → list_all is_procedure_in_range qs ≡ true → All (IsProcInRange p) qs
  all_in_range [] passed = All-nil (IsProcInRange p)
  all_in_range (q ∷ qs) passed =
      let both = each_true (is_procedure_in_range q ∷ list_all is_procedure_in_range qs ∷ []) (two_true (is_procedure_in_range q) (list_all is_procedure_in_range qs) passed) in
      All-cons (IsProcInRange p) q qs (procedure_in_range q both.0) (all_in_range qs both.1.0)

  -- no formal of the procedure that is called first
  abbrev main_takes_none : Bool
  main_takes_none = elim (slice_get p.procs p.main) [ Some q ↦ q.formals == 0 | None ↦ true ]

  abbrev program_tests : List Bool
  program_tests =
      list_all is_procedure_in_range p.procs
      ∷ nat_le (length p.procs) procedure_limit
      ∷ nat_lt p.main (length p.procs)
      ∷ main_takes_none
      ∷ list_all (is_datum p) p.datums
      ∷ nat_lt (length p.datums) (2 ^ 32)
      ∷ nat_le (end_before p (length p.datums)) (data_base + data_limit)
      ∷ list_all (is_label p) p.labels
      ∷ nat_lt (length p.labels) (2 ^ 32)
      ∷ nat_le (length p.globals) register_limit
      ∷ list_all (λ g. is_name g.name) p.globals
      ∷ nat_le (sum_by (λ q. q.tokens) p.procs) token_limit
      ∷ nat_le (sum_by (λ q. length q.sites * length q.vars) p.procs) site_variable_limit
      ∷ nat_le (sum_by (λ q. sum_by (λ site. length site.spans) q.sites) p.procs) site_span_limit
      ∷ []

  abbrev pub is_program_in_range : Bool
  is_program_in_range = list_all (λ b. b) program_tests

  pub program_in_range : is_program_in_range ≡ true → IsInRange p
  program_in_range passed =
      let t = each_true program_tests passed in
      let datums = t.1.1.1.1 in
      let sums = datums.1.1.1.1.1.1.1 in
      record {
        procedures = all_in_range p.procs t.0;
        procedure_count = leb-true _ _ t.1.0;
        main = leb-true _ _ t.1.1.0;
        main_formals = λ q is.
            eqb-true q.formals 0 (ap (λ (found : Option Proc). elim found as (λ _. Bool) [ Some q ↦ q.formals == 0 | None ↦ true ]) (sym is) ∙ t.1.1.1.0);
        datums = datums.0;
        datum_count = leb-true _ _ datums.1.0;
        data_size = leb-true _ _ datums.1.1.0;
        labels = datums.1.1.1.0;
        label_count = leb-true _ _ datums.1.1.1.1.0;
        registers = leb-true _ _ datums.1.1.1.1.1.0;
        register_names = datums.1.1.1.1.1.1.0;
        tokens = leb-true _ _ sums.0;
        site_variables = leb-true _ _ sums.1.0;
        site_spans = leb-true _ _ sums.1.1.0;
      }
