-- What is counted over all units, and the limits on it.
use Rattle.std.specs.Prelude.{◌≡◌, ◌&&◌, is_some, nat_le, Bool, List}
use Rattle.cmm_program.specs.Layout.{end_of}
use Rattle.cmm_program.specs.Limits.{data_limit, procedure_limit, site_span_limit, site_variable_limit, token_limit}
use Rattle.cmm_static_semantics.specs.Declarations.{NamedUnit}
use Rattle.cmm_static_semantics.specs.Limits.{data_pieces, over_units, proc_count, site_spans, site_variables, token_count}
use Rattle.cmm_static_semantics.specs.Linking.{Program}
use Rattle.cmm_check_declarations.specs.DataEnds.{IsEnd}
use Rattle.cmm_limits.specs.Capped.{capped}
use Rattle.cmm_check_units.specs.declared.sums.Sums.{Sums}

-- these are the sums over units, and where their data ends
pub record AreSums (program : Program) (us : List NamedUnit) (s : Sums) : Type 0 where
  pub tokens : s.tokens ≡ capped (over_units program token_count us)
  pub procedures : s.procedures ≡ capped (over_units program proc_count us)
  pub variables : s.site_variables ≡ capped (over_units program site_variables us)
  pub spans : s.site_spans ≡ capped (over_units program site_spans us)
  pub ends : IsEnd 0 (data_pieces program us) s.data_end

-- none of them passes its limit
abbrev pub are_within : Sums → Bool
are_within s = nat_le s.tokens token_limit && nat_le s.procedures procedure_limit && is_some s.data_end && nat_le s.site_variables site_variable_limit && nat_le s.site_spans site_span_limit

abbrev pub totals_are_within : Program → List NamedUnit → Bool
totals_are_within program us =
    nat_le (over_units program token_count us) token_limit && nat_le (over_units program proc_count us) procedure_limit && nat_le (end_of 0 (data_pieces program us)) data_limit
    && nat_le (over_units program site_variables us) site_variable_limit && nat_le (over_units program site_spans us) site_span_limit
