use Rattle.std.proofs.Common.{◌≡◌, ℕ, ◌+◌, ◌-◌, ◌≤◌, ◌^◌, refl, sym, ◌∙◌, ap, subst, arith, false, List, ◌++◌, add-zero, length, Option}
use Rattle.std.specs.Prelude.{replicate}
use Rattle.rv_asm.specs.declared.part.Label.{Label}
use Rattle.rv_asm.specs.declared.part.Meaning.{Meaning}
use Rattle.rv_asm.specs.declared.part.Meaning.TheVariants.{Inner}
use Rattle.cmm_graph.specs.declared.graph.Graph.{Graph}
use Rattle.cmm_program.specs.declared.procedure.Proc.{Proc}
use Rattle.cmm_program.specs.declared.program.Program.{Program}
use Rattle.cmm_unit_code.specs.declared.unit_code.Reference.{Reference}
use Rattle.cmm_emit.specs.declared.context.Context.{Context}
use Rattle.cmm_emit.specs.Contexts.{AreMade, entry_labels, first_label}
use Rattle.cmm_emit.specs.Labels.{symbol_labels}
use Rattle.cmm_emit.specs.Outlines.{IsOutline, share, symbol_count, with_own}
use Rattle.cmm_emit.specs.Symbols.{AreSymbols}
use Rattle.cmm_emit.specs.declared.outline.Outline.{Outline}
use Rattle.cmm_emit.specs.declared.symbols.Symbols.{Symbols}
use Rattle.cmm_emit.proofs.Belonging.{first_label_grows, length-entry_labels, share_counted}
use Rattle.cmm_emit.proofs.Making.{client_counted, first_label_shift, limit_counted, one_more_counted, outline_labels, symbols_counted}
use Rattle.cmm_emit.proofs.Numbering.{length-symbol_labels}
use Rattle.cmm_emit.proofs.Symbolled.{references_few}
use Rattle.cmm_emit.proofs.outline.make_outline.Goals as goal

pub returns-clause-made : goal.returns-clause-made
returns-clause-made c =
    let p = c.args.program.now in
    let first = c.args.first in
    let count = c.args.count in
    let graphs = c.args.graphs.now in
    let procs = c.as_slice.result.now in
    let found = c.args.places.now in
    let symbols = c.in_ok-symbols.symbols in
    let rs = symbols.references in
    let l1 = c.make_symbols.new.asm.labels in
    let l2 = c.label.new.asm.labels in
    let l3 = c.label-2.new.asm.labels in
    let l4 = c.contexts.new.asm.labels in
    let qs = share first count p.procs in
    let gs = share first count c.args.graphs.now in
    let ks = share first count c.args.places.now in
    let size : first + count - first ≡ count = omega arith in
    let t = first_label 0 (share first (first + count - first) procs) (share first (first + count - first) graphs) (length (share first (first + count - first) procs)) in
    let e1 = c.in_ok-symbols.ensures.labels in
    let e2 = c.in_ok-limit.ensures.labels in
    let e3 = c.in_ok-client.ensures.labels in
    let e4 = c.in_ok-contexts.ensures.labels in
    let contexts = c.in_ok-contexts.contexts in
    let made : AreMade (length rs + 2) qs gs ks contexts =
    subst (λ (n : ℕ). AreMade n qs gs ks contexts) (client_counted rs t l1 l2 l3 l4 e1 e2 e3 e4)
    (subst (λ (xs : List Proc). AreMade (length l3) (share first count xs) gs ks contexts) c.as_slice.ensures
    (subst (λ (n : ℕ). AreMade (length l3) (share first n procs) (share first n graphs) (share first n found) contexts) size c.in_ok-contexts.ensures.made))
    in
    let many = share_counted first count p.procs c.requires.within in
    let counted : length contexts ≡ count = made.count ∙ many in
    let own : AreSymbols p gs first (length qs) symbols =
    subst (λ (n : ℕ). AreSymbols p gs first n symbols) (sym many)
    (subst (λ (n : ℕ). AreSymbols p (share first n graphs) first count symbols) size c.in_ok-symbols.ensures.made) in
    let o : Outline = record {
      first = first;
      references = rs;
      contexts = contexts;
      entries = c.in_ok-entries.entries;
      targets = record { procedures = c.in_ok-procedures.procedures; data_labels = symbols.data_labels; registers = symbols.registers; limit = c.in_ok-limit.limit; client = c.in_ok-client.client };
    } in
    subst (λ (n : ℕ). IsOutline p (share first n p.procs) (share first n c.args.graphs.now) (share first n c.args.places.now) o) (sym counted)
    (record {
      within = omega (arith, many, c.requires.within);
      symbols = symbols;
      are_symbols = own;
      references = refl;
      registers = refl;
      data_labels = refl;
      limit = c.in_ok-limit.ensures.number ∙ ap (λ (n : ℕ). record { number = n }) (symbols_counted rs t l1 l2 l3 l4 e1 e2 e3 e4);
      client = c.in_ok-client.ensures.number ∙ ap (λ (n : ℕ). record { number = n }) (limit_counted rs t l1 l2 l3 l4 e1 e2 e3 e4);
      contexts = made;
      entries = c.in_ok-entries.ensures
          ∙ (ap (λ (ps : List Context). entry_labels ps (share first (first + count - first) graphs)) c.as_slice-2.ensures
          ∙ ap (λ (n : ℕ). entry_labels contexts (share first n graphs)) size);
      procedures = c.in_ok-procedures.ensures
          ∙ (ap (λ (ls : List Label). with_own first ls c.as_slice-4.result.now) c.as_slice-3.ensures
          ∙ ap (λ (ls : List (Option Label)). with_own first c.in_ok-entries.entries ls) c.as_slice-4.ensures);
    })

pub returns-clause-labels : goal.returns-clause-labels
returns-clause-labels c =
    let p = c.args.program.now in
    let first = c.args.first in
    let count = c.args.count in
    let graphs = c.args.graphs.now in
    let procs = c.as_slice.result.now in
    let rs = (c.in_ok-symbols.symbols).references in
    let qs = share first count p.procs in
    let gs = share first count c.args.graphs.now in
    let size : first + count - first ≡ count = omega arith in
    let t = first_label 0 (share first (first + count - first) procs) (share first (first + count - first) graphs) (length (share first (first + count - first) procs)) in
    let total : t ≡ first_label 0 qs gs count =
    ap (λ (n : ℕ). first_label 0 (share first n procs) (share first n graphs) (length (share first n procs))) size
    ∙ (ap (λ (xs : List Proc). first_label 0 (share first count xs) (share first count graphs) (length (share first count xs))) c.as_slice.ensures
    ∙ ap (λ (n : ℕ). first_label 0 qs gs n) (share_counted first count p.procs c.requires.within))
    in
    outline_labels rs t c.make_symbols.new.asm.labels c.label.new.asm.labels c.label-2.new.asm.labels c.contexts.new.asm.labels c.in_ok-symbols.ensures.labels c.in_ok-limit.ensures.labels
    c.in_ok-client.ensures.labels c.in_ok-contexts.ensures.labels
    ∙ ap (λ (n : ℕ). symbol_labels rs ++ replicate n (Inner false)) (ap (λ (n : ℕ). 2 + n) total ∙ sym (first_label_shift 2 0 qs gs count))

pub make_symbols-requires-clause-few : goal.make_symbols-requires-clause-few
make_symbols-requires-clause-few c =
    let p = c.args.program.now in
    let grows = first_label_grows (symbol_count p + 2) (share c.args.first c.args.count p.procs) (share c.args.first c.args.count c.args.graphs.now) c.args.count in
    let few = c.requires.few in
    omega (arith, grows, few)

-- what is named has few labels
symbols_few : (p : Program) (graphs : List Graph) (first count : ℕ) (s : Symbols) → AreSymbols p graphs first count s → length s.references ≤ symbol_count p
symbols_few p graphs first count s are = omega (arith, ap (λ (rs : List Reference). length rs) are.references, references_few p graphs first count)

pub label-requires : goal.label-requires
label-requires c =
    let p = c.args.program.now in
    let grows = first_label_grows (symbol_count p + 2) (share c.args.first c.args.count p.procs) (share c.args.first c.args.count c.args.graphs.now) c.args.count in
    let few = c.requires.few in
    let symbols = c.in_ok-symbols.symbols in
    let named = symbols_few p _ c.args.first c.args.count symbols c.in_ok-symbols.ensures.made in
    omega (arith, grows, few, named, ap (λ (ms : List Meaning). length ms) c.in_ok-symbols.ensures.labels, length-symbol_labels symbols.references)

pub label-requires-2 : goal.label-requires-2
label-requires-2 c =
    let p = c.args.program.now in
    let grows = first_label_grows (symbol_count p + 2) (share c.args.first c.args.count p.procs) (share c.args.first c.args.count c.args.graphs.now) c.args.count in
    let few = c.requires.few in
    let symbols = c.in_ok-symbols.symbols in
    let named = symbols_few p _ c.args.first c.args.count symbols c.in_ok-symbols.ensures.made in
    omega (
      arith,
      grows,
      few,
      named,
      ap (λ (ms : List Meaning). length ms) c.in_ok-symbols.ensures.labels,
      length-symbol_labels symbols.references,
      one_more_counted c.make_symbols.new.asm.labels c.label.new.asm.labels c.in_ok-limit.ensures.labels,
    )

pub contexts-requires-clause-few : goal.contexts-requires-clause-few
contexts-requires-clause-few c =
    let p = c.args.program.now in
    let first = c.args.first in
    let count = c.args.count in
    let graphs = c.args.graphs.now in
    let procs = c.as_slice.result.now in
    let qs = share first count p.procs in
    let gs = share first count c.args.graphs.now in
    let size : first + count - first ≡ count = omega arith in
    let symbols = c.in_ok-symbols.symbols in
    let named = symbols_few p _ first count symbols c.in_ok-symbols.ensures.made in
    let begin : length c.label-2.new.asm.labels ≡ length symbols.references + 2 =
    omega (
      arith,
      ap (λ (ms : List Meaning). length ms) c.in_ok-symbols.ensures.labels,
      length-symbol_labels symbols.references,
      one_more_counted c.make_symbols.new.asm.labels c.label.new.asm.labels c.in_ok-limit.ensures.labels,
      one_more_counted c.label.new.asm.labels c.label-2.new.asm.labels c.in_ok-client.ensures.labels,
    )
    in
    let same : first_label (length c.label-2.new.asm.labels) (share first (first + count - first) procs) (share first (first + count - first) graphs) (length (share first (first + count - first) procs))
    ≡ first_label (length symbols.references + 2) qs gs count =
    ap (λ (n : ℕ). first_label n (share first (first + count - first) procs) (share first (first + count - first) graphs) (length (share first (first + count - first) procs))) begin
    ∙ (ap (λ (n : ℕ). first_label (length symbols.references + 2) (share first n procs) (share first n graphs) (length (share first n procs))) size
    ∙ (ap (λ (xs : List Proc). first_label (length symbols.references + 2) (share first count xs) (share first count graphs) (length (share first count xs))) c.as_slice.ensures
    ∙ ap (λ (n : ℕ). first_label (length symbols.references + 2) qs gs n) (share_counted first count p.procs c.requires.within)))
    in
    let few = c.requires.few in
    omega (
      arith,
      same,
      few,
      named,
      first_label_shift (length symbols.references + 2) 0 qs gs count,
      first_label_shift (symbol_count p + 2) 0 qs gs count,
      ap (λ (n : ℕ). first_label n qs gs count) (add-zero (length symbols.references + 2)),
      ap (λ (n : ℕ). first_label n qs gs count) (add-zero (symbol_count p + 2)),
    )

pub with_own-requires : goal.with_own-requires
with_own-requires c =
    let first = c.args.first in
    let count = c.args.count in
    let graphs = c.args.graphs.now in
    let procs = c.as_slice.result.now in
    let contexts = c.in_ok-contexts.contexts in
    let gs = share first (first + count - first) graphs in
    let size : first + count - first ≡ count = omega arith in
    let many : length procs ≡ length c.args.program.now.procs = ap (λ (xs : List Proc). length xs) c.as_slice.ensures in
    let made : length contexts ≡ count =
    c.in_ok-contexts.ensures.made.count
    ∙ (ap (λ (n : ℕ). length (share first n procs)) size ∙ share_counted first count procs (omega (arith, many, c.requires.within))) in
    let beside : length gs ≡ count = ap (λ (n : ℕ). length (share first n graphs)) size ∙ share_counted first count graphs (omega (arith, c.requires.graphs, c.requires.within)) in
    let entries : length c.as_slice-3.result.now ≡ count =
    ap (λ (ls : List Label). length ls) (c.as_slice-3.ensures ∙ (c.in_ok-entries.ensures ∙ ap (λ (ps : List Context). entry_labels ps gs) c.as_slice-2.ensures))
    ∙ (length-entry_labels contexts gs (beside ∙ sym made) ∙ made) in
    let others : length c.as_slice-4.result.now ≡ length c.args.program.now.procs =
    ap (λ (ls : List (Option Label)). length ls) c.as_slice-4.ensures ∙ c.in_ok-symbols.ensures.made.procedures.counted in
    omega (arith, entries, others, c.requires.within)
