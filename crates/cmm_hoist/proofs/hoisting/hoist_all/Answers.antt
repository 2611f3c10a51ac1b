use Rattle.std.proofs.Common.{◌≡◌, ◌-◌, ◌++◌, ◌∙◌, [], ◌∷◌, List, ap, append-nil, append_assoc, arith, length, subst, sym}
use Rattle.std.specs.List.{AllZip}
use Rattle.std.proofs.lemmas.List.Elements.{AllZip-push}
use Rattle.cmm_graph.specs.declared.graph.Graph.{Graph}
use Rattle.cmm_program.specs.declared.procedure.Proc.{Proc}
use Rattle.cmm_program.specs.Bounds.{longest}
use Rattle.cmm_hoist.specs.Graphs.{IsHoistedWithin}
use Rattle.cmm_hoist.proofs.Hoisted.{all_left}
use Rattle.cmm_hoist.proofs.hoisting.hoist_all.Goals as goal

pub returns-then-longest : goal.returns-then-longest
returns-then-longest c = all_left (longest c.args.program.now.procs) c.args.graphs c.requires.begin c.requires.tokens

pub returns-then-not-may_all_be_hoisted : goal.returns-then-not-may_all_be_hoisted
returns-then-not-may_all_be_hoisted c = all_left (longest c.args.program.now.procs) c.args.graphs c.requires.begin c.requires.tokens

pub loop-g-init : goal.loop-g-init
loop-g-init c =
    let within = IsHoistedWithin (c.longest-longest.result - 24) (longest c.args.program.now.procs) in
    record {
      rest = c.into_iter-g-iterator.ensures.into_iter_gives.0 ∙ c.into_vec-g-items.ensures;
      hoisted = subst (λ (made : List Graph). AllZip within [] made) (sym c.new-made.ensures) tt;
    }

pub loop-g-preserved : goal.loop-g-preserved
loop-g-preserved c =
    let procs = c.args.program.now.procs in
    let within = IsHoistedWithin (c.longest-longest.result - 24) (longest procs) in
    let before = c.loop-g.yielded in
    let made = c.loop-g.made in
    let g = c.in-Some.g in
    let rest = c.next.new.self.rest.items in
    let new = c.in_ok-g.g in
    let most : c.longest-longest.result ≡ longest procs = c.longest-longest.ensures ∙ ap (λ (ps : List Proc). longest ps) c.as_slice.ensures in
    let one : within g new = c.in_ok-g.ensures (longest procs) (omega (arith, most, c.if-longest.false)) in
    record {
      rest = append_assoc before (g ∷ []) rest ∙ (ap (λ (gs : List Graph). before ++ gs) (sym c.in-Some.ensures.steps.0) ∙ c.loop-g.invariant.rest);
      hoisted =
          subst (λ (all : List Graph). AllZip within (before ++ g ∷ []) all) (sym c.in_ok-push.ensures.ok) (AllZip-push within before made g new c.loop-g.invariant.hoisted one);
    }

all_of : (xs ys zs : List Graph) → xs ++ ys ≡ zs → length ys ≡ 0 → xs ≡ zs
all_of xs [] zs is none = sym (append-nil xs) ∙ is
all_of xs (y ∷ ys) zs is none = absurd (omega (arith, none))

pub returns : goal.returns
returns c =
    let most = c.longest-longest.result - 24 in
    let left = c.loop-g.g-iterator.rest in
    let none : length left.items ≡ 0 = omega (arith, left.ok.0, c.in-None.ensures.steps.0) in
    let all = all_of c.loop-g.yielded left.items c.args.graphs c.loop-g.invariant.rest none in
    record {
      most = most;
      all = subst (λ (gs : List Graph). AllZip (IsHoistedWithin most (longest c.args.program.now.procs)) gs c.loop-g.made) all c.loop-g.invariant.hoisted;
    }
