-- The program of accepted units is in range, part by part, where its counts of tokens are those of texts.
use Rattle.std.proofs.Common.{◌≡◌, suc, ◌≤◌, List, [], ◌∷◌, length, All, IsTrue}
use Rattle.std.proofs.lemmas.Bool.{and_from}
use Rattle.std.specs.Prelude.{nat_le}
use Rattle.std.specs.List.{list_all}
use Rattle.std.proofs.lemmas.List.Elements.{All-nil, All-cons, All-head, All-tail, All-weaker}
use Rattle.cmm_lexer.specs.declared.piece.Lexeme.{Lexeme}
use Rattle.cmm_grammar.specs.Derivation.{Derives}
use Rattle.cmm_program.specs.declared.procedure.Proc.{Proc}
use Rattle.cmm_program.specs.declared.program.Program.{Program}
use Rattle.cmm_program.specs.Bodies.{body_statements}
use Rattle.cmm_program.specs.InRange.{is_form, is_statement, is_site, IsProcInRange}
use Rattle.cmm_program.specs.Layout.{stackdata_size}
use Rattle.cmm_program.specs.Numbering.{body_tokens, site_number}
use Rattle.cmm_program.specs.Tokens.{own_tokens, procedure_tokens}
use Rattle.cmm_elaboration.specs.Meaning.{meaning_of}
use Rattle.cmm_elaboration.specs.Laws.{AreInOrder, MarksInOrder, ProcKeepsLimits, NamesShort, AreDerived, ProgramsAreInRange}
use Rattle.cmm_elaboration.proofs.SiteNumbers.{sites_are_in_order}
use Rattle.cmm_elaboration.proofs.MarkNumbers.{marks_are_in_order}
use Rattle.cmm_elaboration.proofs.ProgramLimits.{limits_are_kept}
use Rattle.cmm_elaboration.proofs.SiteParts.{sites_are_there}
use Rattle.cmm_elaboration.proofs.Rooms.{stackdata_fits}
use Rattle.cmm_elaboration.proofs.Short.{names_are_short}
use Rattle.cmm_elaboration.proofs.Starting.{start_has_no_formals}
use Rattle.cmm_elaboration.proofs.Labels.{labels_are_there}
use Rattle.cmm_elaboration.proofs.RegisterNames.{register_names_are_short}
use Rattle.cmm_elaboration.proofs.DataSize.{data_fits}
use Rattle.cmm_elaboration.proofs.Datums.{datums_are_in_range}
use Rattle.cmm_elaboration.proofs.Forms.{all_three}
use Rattle.cmm_elaboration.proofs.AllForms.{forms_are_in_range}
use Rattle.cmm_elaboration.proofs.Weighing.{counts_are_kept}
use Rattle.cmm_elaboration.proofs.BodyTokens.{bodies_are_counted}
use Rattle.cmm_elaboration.proofs.SpentBodies.{statements_have_shortest}
use Rattle.cmm_elaboration.proofs.SpentProcedures.{procedures_have_shortest}

all_both : {A : Type 0} (P Q : A → Type 0) (xs : List A) → All P xs → All Q xs → All (λ x. P x × Q x) xs
all_both P Q [] h k = All-nil (λ x. P x × Q x)
all_both P Q (x ∷ xs) h k = All-cons (λ y. P y × Q y) x xs (All-head P x xs h, All-head Q x xs k) (all_both P Q xs (All-tail P x xs h) (All-tail Q x xs k))

-- what is shown of each procedure apart
record Parts (p : Program) (q : Proc) : Type 0 where
  pub names : NamesShort q
  pub limits : ProcKeepsLimits p q
  pub sites : IsTrue (list_all (is_site p q) q.sites)
  pub forms : IsTrue (list_all (λ st. is_form p q st.form) (body_statements q))
  pub marks : MarksInOrder q
  pub ascending : AreInOrder site_number (length q.sites) q
  pub stackdata : stackdata_size q.stack ≤ 65536
  pub counts : body_tokens q ≤ q.tokens
  pub statements : IsTrue (list_all (λ st. nat_le (own_tokens q st.form) st.tokens) (body_statements q))
  pub whole : procedure_tokens q ≤ q.tokens

procedure_in : (p : Program) (q : Proc) → Parts p q → IsProcInRange p q
procedure_in p q x = record {
  name = x.names.name;
  unit = x.limits.unit;
  formals = x.limits.formals;
  variables = x.limits.variables;
  kinds = x.names.kinds;
  frames = record { items = x.limits.items; stackdata = x.stackdata; tokens = x.limits.tokens };
  continuations = x.limits.continuations;
  sites = x.sites;
  body = all_three (λ st. is_form p q st.form) (λ st. nat_le (own_tokens q st.form) st.tokens) (λ st. nat_le (own_tokens q st.form) st.tokens) (is_statement p q)
      (λ st a b c. and_from (is_form p q st.form) (nat_le (own_tokens q st.form) st.tokens) a b) (body_statements q) x.forms x.statements x.statements;
  labels_numbered = x.marks.labels.once;
  continuations_numbered = x.marks.continuations.once;
  sites_numbered = x.ascending.once;
  shortest = x.whole;
  counts = x.counts;
}

pub programs_are_in_range : ProgramsAreInRange
programs_are_in_range us accepted read text =
    let p = meaning_of us in let qs = p.procs in
    let derived : AreDerived us = All-weaker (λ v. (tokens : List Lexeme) × (Derives tokens v × (length v.places ≡ suc (length tokens)))) (λ v. (tokens : List Lexeme) × Derives tokens v) (λ v x. (x.0, x.1.0)) us read in
    let limits = limits_are_kept us accepted in let counts = counts_are_kept us accepted read in
    let a = all_both NamesShort (ProcKeepsLimits p) qs (names_are_short us accepted) limits.procedures in
    let b = all_both (λ q. IsTrue (list_all (is_site p q) q.sites)) (λ q. IsTrue (list_all (λ st. is_form p q st.form) (body_statements q))) qs (sites_are_there us accepted) (forms_are_in_range us accepted derived) in
    let c = all_both MarksInOrder (λ q. AreInOrder site_number (length q.sites) q) qs (marks_are_in_order us accepted) (sites_are_in_order us) in
    let d = all_both (λ q. stackdata_size q.stack ≤ 65536) (λ q. body_tokens q ≤ q.tokens) qs (stackdata_fits us accepted) (bodies_are_counted us accepted derived) in
    let ab = all_both (λ q. NamesShort q × ProcKeepsLimits p q) (λ q. IsTrue (list_all (is_site p q) q.sites) × IsTrue (list_all (λ st. is_form p q st.form) (body_statements q))) qs a b in
    let cd = all_both (λ q. MarksInOrder q × AreInOrder site_number (length q.sites) q) (λ q. (stackdata_size q.stack ≤ 65536) × (body_tokens q ≤ q.tokens)) qs c d in
    let first : Proc → Type 0 = λ q. (NamesShort q × ProcKeepsLimits p q) × (IsTrue (list_all (is_site p q) q.sites) × IsTrue (list_all (λ st. is_form p q st.form) (body_statements q))) in
    let second : Proc → Type 0 = λ q. (MarksInOrder q × AreInOrder site_number (length q.sites) q) × ((stackdata_size q.stack ≤ 65536) × (body_tokens q ≤ q.tokens)) in
    let abcd = all_both first second qs ab cd in
    let short = all_both (λ q. IsTrue (list_all (λ st. nat_le (own_tokens q st.form) st.tokens) (body_statements q))) (λ q. procedure_tokens q ≤ q.tokens) qs
    (statements_have_shortest us accepted derived) (procedures_have_shortest us accepted derived) in
    let third : Proc → Type 0 = λ q. IsTrue (list_all (λ st. nat_le (own_tokens q st.form) st.tokens) (body_statements q)) × (procedure_tokens q ≤ q.tokens) in
    let all = all_both (λ q. first q × second q) third qs abcd short in
    record {
      procedures = All-weaker (λ q. (first q × second q) × third q) (IsProcInRange p) (λ q x. procedure_in p q record {
        names = x.0.0.0.0;
        limits = x.0.0.0.1;
        sites = x.0.0.1.0;
        forms = x.0.0.1.1;
        marks = x.0.1.0.0;
        ascending = x.0.1.0.1;
        stackdata = x.0.1.1.0;
        counts = x.0.1.1.1;
        statements = x.1.0;
        whole = x.1.1;
      }) qs all;
      procedure_count = limits.procedure_count;
      main = limits.main;
      main_formals = start_has_no_formals us accepted;
      datums = datums_are_in_range us accepted text;
      datum_count = counts.datum_count;
      data_size = data_fits us accepted;
      labels = labels_are_there us accepted;
      label_count = counts.label_count;
      registers = limits.registers;
      register_names = register_names_are_short us accepted;
      tokens = counts.tokens;
      site_variables = limits.site_variables;
      site_spans = limits.site_spans;
    }
