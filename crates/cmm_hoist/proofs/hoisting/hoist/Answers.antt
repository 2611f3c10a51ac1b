use Rattle.std.proofs.Common.{◌≡◌, ℕ, ◌+◌, ◌≤◌, ap, arith, length, List, subst, sym}
use Rattle.std.proofs.lemmas.Result.{IfOk-weaker}
use Rattle.cmm_words.specs.declared.constant.Constant.{Constant}
use Rattle.cmm_graph.specs.declared.graph.Graph.{Graph}
use Rattle.cmm_hoist.specs.Graphs.{IsHoistedFrom, IsHoistedWithin, all_operands}
use Rattle.cmm_hoist.specs.inside.Room.{IsEnough}
use Rattle.cmm_hoist.specs.inside.Worth.{AreNamed}
use Rattle.cmm_hoist.proofs.Hoisted.{begins_at_entry, hoisted_within, itself, same_formals}
use Rattle.cmm_hoist.proofs.hoisting.hoist.Goals as goal

pub returns-then-found-enough : goal.returns-then-found-enough
returns-then-found-enough c = λ longest spared.
    let g = c.args.g in
    let most = c.args.most in
    let found = c.read_entry-found.result in
    let begins = c.read_entry-found.ensures in
    let may = c.requires in
    let entry : IsEnough g found.formals most = subst (λ (n : ℕ). IsEnough g n most) (same_formals g may.beginning found may.begins begins) may.entry in
    let least = c.enough-enough.ensures.least most entry in
    let is = itself g (begins_at_entry g found begins) in
    let none : length is.0.kept ≡ 0 = ap (λ (kept : List Constant). length kept) is.1 in
    hoisted_within most longest g g is.0 may.others (omega (arith, entry.some)) (omega (arith, is.2, c.if-found-enough.true, least)) (omega (arith, none)) spared

pub returns-then-found-most : goal.returns-then-found-most
returns-then-found-most c = λ longest spared.
    let g = c.args.g in
    let may = c.requires in
    let is = itself g (begins_at_entry g c.read_entry-found.result c.read_entry-found.ensures) in
    let none : length is.0.kept ≡ 0 = ap (λ (kept : List Constant). length kept) is.1 in
    hoisted_within c.args.most longest g g is.0 may.others (omega (arith, may.entry.some)) (omega (arith, is.2, c.if-found-most.true)) (omega (arith, none)) spared

pub keep-requires-clause-named : goal.keep-requires-clause-named
keep-requires-clause-named c = subst (AreNamed (all_operands c.args.g)) (sym c.as_slice.ensures) c.in_ok-kept.ensures.named

pub returns : goal.returns
returns c =
    let g = c.args.g in
    let most = c.args.most in
    let kept = c.in_ok-kept.kept in
    let may = c.requires in
    IfOk-weaker c.keep.result
    (λ (made : Graph). (is : IsHoistedFrom g made) × (is.kept ≡ c.as_slice.result.now) × (is.tokens ≡ c.min-tokens.result))
    (λ (made : Graph). (longest : ℕ) → most + 24 ≤ longest → IsHoistedWithin most longest g made)
    (λ made it longest spared.
    let same : length it.0.kept ≡ length c.as_slice.result.now = ap (λ (ks : List Constant). length ks) it.1 in
    let all : length c.as_slice.result.now ≡ length kept = ap (λ (ks : List Constant). length ks) c.as_slice.ensures in
    hoisted_within most longest g made it.0 may.others (omega (arith, may.entry.some)) (omega (arith, it.2, c.min-tokens.ensures))
    (omega (arith, same, all, c.in_ok-kept.ensures.few, c.limit-limit.ensures.few)) spared)
    c.keep.ensures
