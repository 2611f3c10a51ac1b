use Rattle.std.proofs.Common.{◌≡◌, ℕ, ◌+◌, ◌*◌, List, length, map, ap, subst, sym, ◌∙◌, arith, true}
use Rattle.std.specs.List.{All}
use Rattle.std.specs.List.Sorted.{IsPermutation}
use Rattle.std.proofs.lemmas.List.Sorted.{All-permutation, length_permutation}
use Rattle.rv_asm.specs.Assembly.{IsInner}
use Rattle.rv_asm.specs.declared.part.Meaning.{Meaning}
use Rattle.cmm_effects.proofs.Shared.{adds_then, adds_weaker}
use Rattle.cmm_effects.specs.Pieces.{Adds}
use Rattle.cmm_select.proofs.Halving.{makes_none}
use Rattle.cmm_select.proofs.Ranging.{switches}
use Rattle.cmm_select.proofs.Spans.{all_of, count_of, in_another_order, in_arms, ranges_are}
use Rattle.cmm_select.specs.Operands.{most_for}
use Rattle.cmm_select.specs.Switches.{AreApart, MakesInner, Switches, ranges_in}
use Rattle.cmm_select.specs.inside.Searches.{GoesInSpans, ascend, range_of, span_address, spans_of}
use Rattle.cmm_select.specs.declared.span.Span.{Span}
use Rattle.cmm_select.proofs.switching.switch.Goals.{in-Some+in_ok-go_among-in-Some, in-None+in_ok-branch_in_spans-in-None}
use Rattle.cmm_select.proofs.switching.switch.Goals as goal

pub go_among-requires-clause-inner : goal.go_among-requires-clause-inner
go_among-requires-clause-inner c =
    let now = c.bring_operand.new.asm.labels in
    let labels = c.args.labels.now in
    let arms = c.args.arms.now in
    let P : Span → Type 0 = λ s. IsInner now s.label in
    let whole : c.deref.result.now ≡ spans_of labels arms = c.deref.ensures.value ∙ c.in_ok-spans.ensures in
    let there : All (IsInner now) labels = subst (λ (ms : List Meaning). All (IsInner ms) labels) (sym c.in_ok-bring_operand.ensures.labels) c.requires.inner in
    let all : All P c.deref.result.now = subst (All P) (sym whole) (all_of (IsInner now) labels arms there c.requires.arms) in
    let found : IsPermutation c.deref.result.now c.in-Some.ordered.items × (ascend 0 c.in-Some.ordered.items ≡ true) = rw c.in-Some.is at c.in_ok-ordered.ensures.found in
    subst (All P) (sym c.deref-in-Some.ensures.value) (All-permutation P c.deref.result.now c.in-Some.ordered.items found.0 all)

pub branch_in_spans-requires : goal.branch_in_spans-requires
branch_in_spans-requires c =
    let now = c.bring_operand.new.asm.labels in
    let labels = c.args.labels.now in
    let arms = c.args.arms.now in
    let P : Span → Type 0 = λ s. IsInner now s.label in
    let whole : c.deref-in-None.result.now ≡ spans_of labels arms = c.deref-in-None.ensures.value ∙ c.in_ok-spans.ensures in
    let there : All (IsInner now) labels = subst (λ (ms : List Meaning). All (IsInner ms) labels) (sym c.in_ok-bring_operand.ensures.labels) c.requires.inner in
    subst (All P) (sym whole) (all_of (IsInner now) labels arms there c.requires.arms)

pub returns-clause-switches : goal.returns-clause-switches
returns-clause-switches c =
    let labels = c.args.labels.now in
    let arms = c.args.arms.now in
    let value = c.args.value.now in
    let mid = c.bring_operand.new.asm.parts in
    let spans = c.deref.result.now in
    let whole : spans ≡ spans_of labels arms = c.deref.ensures.value ∙ c.in_ok-spans.ensures in
    elim c.match-branch-4.branch [
      | in-Some+in_ok-go_among-in-Some w ↦
          let ordered = w.in-Some.ordered.items in
          let found : IsPermutation spans ordered × (ascend 0 ordered ≡ true) = rw w.in-Some.is at c.in_ok-ordered.ensures.found in
          let count : length ordered ≡ ranges_in arms = length_permutation spans ordered found.0 ∙ ap (λ (ss : List Span). length ss) whole ∙ count_of labels arms in
          let goes : Adds (27 * length ordered) mid w.go_among.new.asm.parts (GoesInSpans (20 * length ordered) ordered) = rw w.deref-in-Some.ensures.value at w.in_ok-go_among-in-Some.ensures.goes in
          rw w.asm-is
          (adds_weaker (adds_then c.in_ok-bring_operand.ensures.brings goes) (omega (arith, count))
          (λ x from on does.
          subst (λ (n : ℕ). Switches (most_for value + 20 * n) value labels arms x from on) count
          (switches x labels arms ordered value from on (20 * length ordered)
          (λ v. in_another_order x.at spans ordered v on found.0 found.1 ∙ ap (λ (ss : List Span). span_address x.at ss v on) whole ∙ in_arms x.at labels arms v on) does)))
      | in-None+in_ok-branch_in_spans-in-None w ↦
          let all : w.deref-in-None.result.now ≡ spans_of labels arms = w.deref-in-None.ensures.value ∙ c.in_ok-spans.ensures in
          let count : length (spans_of labels arms) ≡ ranges_in arms = count_of labels arms in
          let goes : Adds (20 * length (spans_of labels arms)) mid w.branch_in_spans.new.asm.parts (GoesInSpans (20 * length (spans_of labels arms)) (spans_of labels arms)) =
          rw all at w.in_ok-branch_in_spans-in-None.ensures.goes in
          rw w.asm-is
          (adds_weaker (adds_then c.in_ok-bring_operand.ensures.brings goes) (omega (arith, count))
          (λ x from on does.
          subst (λ (n : ℕ). Switches (most_for value + 20 * n) value labels arms x from on) count
          (switches x labels arms (spans_of labels arms) value from on (20 * length (spans_of labels arms)) (λ v. in_arms x.at labels arms v on) does)))
    ]

pub returns-clause-labels : goal.returns-clause-labels
returns-clause-labels c =
    let labels = c.args.labels.now in
    let arms = c.args.arms.now in
    let spans = c.deref.result.now in
    let old = c.args.asm.now.labels in
    let whole : spans ≡ spans_of labels arms = c.deref.ensures.value ∙ c.in_ok-spans.ensures in
    elim c.match-branch-4.branch [
      | in-Some+in_ok-go_among-in-Some w ↦
          let ordered = w.in-Some.ordered.items in
          let found : IsPermutation spans ordered × (ascend 0 ordered ≡ true) = rw w.in-Some.is at c.in_ok-ordered.ensures.found in
          let count : length ordered ≡ ranges_in arms = length_permutation spans ordered found.0 ∙ ap (λ (ss : List Span). length ss) whole ∙ count_of labels arms in
          let made : MakesInner (length ordered) c.bring_operand.new.asm.labels w.go_among.new.asm.labels = rw w.deref-in-Some.ensures.value at w.in_ok-go_among-in-Some.ensures.labels in
          let from_old : MakesInner (length ordered) old w.go_among.new.asm.labels =
          subst (λ (ms : List Meaning). MakesInner (length ordered) ms w.go_among.new.asm.labels) c.in_ok-bring_operand.ensures.labels made in
          rw w.asm-is (subst (λ (n : ℕ). MakesInner n old w.go_among.new.asm.labels) count from_old)
      | in-None+in_ok-branch_in_spans-in-None w ↦
          rw w.asm-is
          (makes_none (ranges_in arms) old w.branch_in_spans.new.asm.labels (w.in_ok-branch_in_spans-in-None.ensures.labels ∙ c.in_ok-bring_operand.ensures.labels))
    ]

pub returns-clause-halves : goal.returns-clause-halves
returns-clause-halves c = λ k few apart room.
    let labels = c.args.labels.now in
    let arms = c.args.arms.now in
    let value = c.args.value.now in
    let mid = c.bring_operand.new.asm.parts in
    let spans = c.deref.result.now in
    let whole : spans ≡ spans_of labels arms = c.deref.ensures.value ∙ c.in_ok-spans.ensures in
    let made : length c.bring_operand.new.asm.labels ≡ length c.args.asm.now.labels = ap length c.in_ok-bring_operand.ensures.labels in
    elim c.match-branch-4.branch [
      | in-Some+in_ok-go_among-in-Some w ↦
          let ordered = w.in-Some.ordered.items in
          let found : IsPermutation spans ordered × (ascend 0 ordered ≡ true) = rw w.in-Some.is at c.in_ok-ordered.ensures.found in
          let count : length ordered ≡ ranges_in arms = length_permutation spans ordered found.0 ∙ ap (λ (ss : List Span). length ss) whole ∙ count_of labels arms in
          let halves = rw w.deref-in-Some.ensures.value at w.in_ok-go_among-in-Some.ensures.halves in
          let goes : Adds (27 * length ordered) mid w.go_among.new.asm.parts (GoesInSpans (82 + 11 * k) ordered) = halves k (omega (arith, count, few)) (omega (arith, count, made, room)) in
          rw w.asm-is
          (adds_weaker (adds_then c.in_ok-bring_operand.ensures.brings goes) (omega (arith, count))
          (λ x from on does.
          switches x labels arms ordered value from on (82 + 11 * k)
          (λ v. in_another_order x.at spans ordered v on found.0 found.1 ∙ ap (λ (ss : List Span). span_address x.at ss v on) whole ∙ in_arms x.at labels arms v on) does))
      | in-None+in_ok-branch_in_spans-in-None w ↦
          let not : AreApart (map range_of spans) → ⊥ = rw w.in-None.is at c.in_ok-ordered.ensures.none in
          absurd (not (subst AreApart (sym (ap (map range_of) whole ∙ ranges_are labels arms)) apart))
    ]
