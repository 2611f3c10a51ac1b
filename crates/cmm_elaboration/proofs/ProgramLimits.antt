-- The program of accepted units keeps the limits.
use Rattle.std.proofs.Common.{◌≡◌, ◌+◌, ◌<◌, ◌≤◌, refl, sym, ap, ◌∙◌, subst, List, [], ◌∷◌, length}
use Rattle.std.specs.Prelude.{flat_map, codes}
use Rattle.std.proofs.lemmas.List.{length-map}
use Rattle.std.proofs.lemmas.Bool.{leb-true}
use Rattle.cmm_static_semantics.specs.Declarations.{NamedUnit, named_units, procs_in, labels_in}
use Rattle.cmm_static_semantics.specs.Linking.{Program as Linked, program_of, published, published_as, register_names}
use Rattle.cmm_static_semantics.specs.Limits.{over_units, proc_count, site_variables, site_spans}
use Rattle.cmm_static_semantics.specs.Scopes.{unit_senses}
use Rattle.cmm_elaboration.specs.Meaning.{meaning_of, global_of}
use Rattle.cmm_elaboration.specs.Laws.{ProcKeepsLimits, LimitsAreKept}
use Rattle.cmm_elaboration.proofs.Entries.{counted_in, procedures_length, published_fits, all_published}
use Rattle.cmm_elaboration.proofs.Everywhere.{all_accepted}
use Rattle.cmm_elaboration.proofs.Keeping.{procedure_keeps, registers_few, procedures_few, variables_few, spans_few, number_by}
use Rattle.cmm_elaboration.proofs.Sums.{variables_sum, spans_sum}
use Rattle.cmm_elaboration.proofs.UnitNames.{fit, some}

counted : (program : Linked) (us : List NamedUnit) → over_units program proc_count us ≡ counted_in procs_in us
counted program [] = refl
counted program (u ∷ us) = ap (λ n. proc_count (unit_senses program u.entries) u + n) (counted program us)

pub limits_are_kept : LimitsAreKept
limits_are_kept us accepted =
    let ns = named_units us in let program = program_of ns in
    let many : length (meaning_of us).procs ≡ counted_in procs_in ns = procedures_length program 0 ns in
    record {
      procedures = all_accepted (ProcKeepsLimits (meaning_of us)) us accepted (procedure_keeps us accepted);
      procedure_count = subst (λ n. n ≤ 65535) (counted program ns ∙ sym many) (leb-true (over_units program proc_count ns) 65535 (procedures_few us accepted));
      main = subst (λ n. (meaning_of us).main < n) (sym many)
          (number_by us accepted (published_as (codes "main") (flat_map published ns)) (counted_in labels_in ns)
          (published_fits (counted_in procs_in ns) (counted_in labels_in ns) (codes "main") (flat_map published ns)
          (all_published (counted_in procs_in ns) (counted_in labels_in ns) ns (fit us accepted)))
          (some us accepted));
      registers = subst (λ n. n ≤ 256) (sym (length-map (register_names ns) (global_of ns))) (leb-true (length (register_names ns)) 256 (registers_few us accepted));
      site_variables = subst (λ n. n ≤ 8000000) (sym (variables_sum program ns)) (leb-true (over_units program site_variables ns) 8000000 (variables_few us accepted));
      site_spans = subst (λ n. n ≤ 1000000) (sym (spans_sum program ns)) (leb-true (over_units program site_spans ns) 1000000 (spans_few us accepted));
    }
