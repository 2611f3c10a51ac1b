-- A node's code, and what leads on behind it.
use Rattle.std.proofs.Common.{◌≡◌, ℕ, ◌+◌, ◌-◌, ◌≤◌, refl, sym, ◌∙◌, subst, IsTrue, Option, Some, None, true, arith}
use Rattle.std.proofs.lemmas.Bool.Decides.{nat_tests}
use Rattle.rv_asm.specs.Parts.{Code, Does}
use Rattle.rv_asm.specs.declared.part.Label.{Label}
use Rattle.rv_asm.specs.declared.part.Part.TheVariants.{Place}
use Rattle.cmm_effects.proofs.Shared.{goes_none, keeps_same, keeps_then, leads_turns, turns_weaker}
use Rattle.cmm_effects.specs.Changes.{Keeps}
use Rattle.cmm_effects.specs.Pieces.{Always, Leads}
use Rattle.cmm_effects.specs.Ways.{Goes, Turns}
use Rattle.cmm_graph.specs.declared.node.NodeKind.{NodeKind}
use Rattle.cmm_graph.specs.declared.node.NodeKind.TheVariants.{Assign, Branch, Call, CopyIn, Cut, Entry, Goto, Host, Jump, Return, Stop, Store, Switch, Yield}
use Rattle.cmm_graph.specs.declared.number.NodeId.{NodeId}
use Rattle.cmm_emit_laws.specs.Finished.{Finished, code_of}
use Rattle.cmm_emit.specs.declared.context.Context.{Context}
use Rattle.cmm_emit.specs.declared.context.Targets.{Targets}
use Rattle.cmm_emit.specs.Costs.{cost_of, jump_cost, jump_of}
use Rattle.cmm_emit.specs.LaidNodes.{CodesAlone}
use Rattle.cmm_emit.specs.Naming.{has_kind, has_node, label_at}
use Rattle.cmm_emit.specs.Standing.{CodesOwn, CodesWhole, GoesOnTo, HasCode, LeadsFrom, falls_to, is_bare}
use Rattle.std.specs.Prelude.{◌==◌, ◌<◌, Bool, List, [], ◌∷◌, false, length}
use Rattle.cmm_program.specs.State.{Setting}
use Rattle.cmm_program.specs.declared.procedure.Target.{Target}
use Rattle.cmm_located.specs.Compiled.{Compiled}
use Rattle.cmm_image_machine.specs.Machine.{Launch}

-- where a label is placed, control is there already
pub goes_here : (x : Code) (from to : ℕ) (l : Label) → Does x (Place l) from to → Goes 0 jump_cost Always (λ t. x.at l.number) Keeps x from
goes_here x from to l placed = goes_none (sym placed.1) (λ s. keeps_same s)

-- where it is placed behind an instruction, that leads there
pub turns_here : (x : Code) (from mid to : ℕ) (l : Label) → Leads 1 Always Keeps x from mid → Does x (Place l) mid to → Turns jump_cost Always (λ t. x.at l.number) Keeps x from
turns_here x from mid to l leads placed =
    turns_weaker
    (leads_turns {l = 0} leads (goes_none {most = 0} (sym placed.1) (λ s. keeps_same s)) (λ s t sound sound_after can kept. tt) (λ s. x.at l.number) (λ s t can kept. refl))
    (omega arith) (λ s sound can. can) (λ s u can kept. keeps_then s kept.0 u kept.1 kept.2)

-- a node that is not bare has code of its own
own_codes : (p : Context) (y : Targets) (kind : NodeKind) (x : Code) (from to : ℕ) → is_bare kind ≡ false → CodesOwn p y kind x from to → CodesWhole p y kind x from to
own_codes p y kind x from to full own = subst (λ (b : Bool). elim b as (λ _. Type 0) [ true ↦ from ≡ to | false ↦ CodesWhole p y kind x from to ]) full own

-- so has one that falls to none
falls_is_full : (kind : NodeKind) → falls_to kind ≡ None → is_bare kind ≡ false
falls_is_full (Entry formals next) falls = refl
falls_is_full (CopyIn to next) falls = absurd (cc)
falls_is_full (Assign to value next) falls = refl
falls_is_full (Store width aligned address value next) falls = refl
falls_is_full (Branch test then_ otherwise) falls = refl
falls_is_full (Switch value arms otherwise) falls = refl
falls_is_full (Call site callee arguments exits) falls = refl
falls_is_full (Yield site values exits) falls = refl
falls_is_full (Jump callee arguments) falls = refl
falls_is_full (Cut to arguments own) falls = refl
falls_is_full (Return exit alternates results) falls = refl
falls_is_full (Host call next) falls = refl
falls_is_full (Goto next) falls = absurd (cc)
falls_is_full Stop falls = refl

some_same : {m n : NodeId} → Some m ≡ Some n → m ≡ n
some_same e = cc

module _ (s : Setting) (c : Compiled) (l : Launch) (f : Finished) (q : ℕ) (p : Context) (y : Targets) where
  goto_codes : (m next : NodeId) → Turns jump_cost Always (λ t. f.node_at q next) Keeps (code_of l f q) (f.node_at q m) → HasCode s c l f q m (Goto next) (cost_of p y (Goto next))
  goto_codes m next turns = record { node = record { goes = turns }; site = tt }

  landing_codes : (m : NodeId) (to : List Target) (next : NodeId) → (length to == 0) ≡ true → Turns jump_cost Always (λ t. f.node_at q next) Keeps (code_of l f q) (f.node_at q m) →
      HasCode s c l f q m (CopyIn to next) (cost_of p y (CopyIn to next))
  landing_codes m [] next none turns = record {
    node = record {
      destinations = [];
      are = tt;
      turns = λ r. turns_weaker turns (omega arith) (λ u sound region. tt) (λ u w region keeps. (u, refl, keeps));
      few_values = omega arith;
    };
    site = tt;
  }
  landing_codes m (t ∷ ts) next none turns = let are_none : length (t ∷ ts) ≡ 0 = grind (arith, nat_tests, none) in absurd (omega (arith, are_none))

  -- the code of a bare node is an instruction that leads on
  bare_codes : (kind : NodeKind) (m n : NodeId) → falls_to kind ≡ Some n → is_bare kind ≡ true → Turns jump_cost Always (λ t. f.node_at q n) Keeps (code_of l f q) (f.node_at q m) →
      HasCode s c l f q m kind (cost_of p y kind)
  bare_codes (Entry formals next) m n falls bare turns = absurd (cc)
  bare_codes (CopyIn to next) m n falls bare turns =
      landing_codes m to next bare (subst (λ (k : NodeId). Turns jump_cost Always (λ t. f.node_at q k) Keeps (code_of l f q) (f.node_at q m)) (sym (some_same falls)) turns)
  bare_codes (Assign to value next) m n falls bare turns = absurd (cc)
  bare_codes (Store width aligned address value next) m n falls bare turns = absurd (cc)
  bare_codes (Branch test then_ otherwise) m n falls bare turns = absurd (cc)
  bare_codes (Switch value arms otherwise) m n falls bare turns = absurd (cc)
  bare_codes (Call site callee arguments exits) m n falls bare turns = absurd (cc)
  bare_codes (Yield site values exits) m n falls bare turns = absurd (cc)
  bare_codes (Jump callee arguments) m n falls bare turns = absurd (cc)
  bare_codes (Cut to arguments own) m n falls bare turns = absurd (cc)
  bare_codes (Return exit alternates results) m n falls bare turns = absurd (cc)
  bare_codes (Host call next) m n falls bare turns = absurd (cc)
  bare_codes (Goto next) m n falls bare turns =
      goto_codes m next (subst (λ (k : NodeId). Turns jump_cost Always (λ t. f.node_at q k) Keeps (code_of l f q) (f.node_at q m)) (sym (some_same falls)) turns)
  bare_codes Stop m n falls bare turns = absurd (cc)

module _ (p : Context) (y : Targets) (kind : NodeKind) (x : Code) (from mid to : ℕ) where
  -- a node with code of its own, behind which control goes on
  goes_on : (n : NodeId) → falls_to kind ≡ Some n → n.number < length p.nodes → is_bare kind ≡ false → CodesOwn p y kind x from mid →
      Goes 0 jump_cost Always (λ t. x.at (label_at p.nodes n.number).number) Keeps x mid → CodesAlone p y kind x from to
  goes_on n falls within full own goes s c l f q m is-x of at = record { node = codes.0 s c l f q m is-x of at (rw falls on); site = codes.1 s c l f q is-x of (rw falls on) }
    where
      codes : CodesWhole p y kind x from mid
      codes = own_codes p y kind x from mid full own

      on : GoesOnTo s c l f q (Some n) mid
      on =
          let here : Goes 0 jump_cost Always (λ t. f.labels q (label_at p.nodes n.number).number) Keeps (code_of l f q) mid =
          subst (λ (z : Code). Goes 0 jump_cost Always (λ t. z.at (label_at p.nodes n.number).number) Keeps z mid) is-x goes
          in
          subst (λ (a : ℕ). Goes 0 jump_cost Always (λ t. a) Keeps (code_of l f q) mid) (of.nodes n within) here

  -- a bare one, from which an instruction leads on
  passes_on : (n : NodeId) → falls_to kind ≡ Some n → n.number < length p.nodes → is_bare kind ≡ true → CodesOwn p y kind x from mid →
      Turns jump_cost Always (λ t. x.at (label_at p.nodes n.number).number) Keeps x mid → CodesAlone p y kind x from to
  passes_on n falls within bare own turns s c l f q m is-x of at =
      let here : from ≡ mid = subst (λ (b : Bool). elim b as (λ _. Type 0) [ true ↦ from ≡ mid | false ↦ CodesWhole p y kind x from mid ]) bare own in
      let first : Turns jump_cost Always (λ t. f.labels q (label_at p.nodes n.number).number) Keeps (code_of l f q) mid =
      subst (λ (z : Code). Turns jump_cost Always (λ t. z.at (label_at p.nodes n.number).number) Keeps z mid) is-x turns
      in
      let second : Turns jump_cost Always (λ t. f.node_at q n) Keeps (code_of l f q) mid =
      subst (λ (a : ℕ). Turns jump_cost Always (λ t. a) Keeps (code_of l f q) mid) (of.nodes n within) first
      in
      bare_codes s c l f q p y kind m n falls bare (subst (λ (a : ℕ). Turns jump_cost Always (λ t. f.node_at q n) Keeps (code_of l f q) a) (sym (at ∙ here)) second)

  -- a node that falls to another, and what leads on to that
  pub leads_on : (n : NodeId) → falls_to kind ≡ Some n → n.number < length p.nodes → CodesOwn p y kind x from mid →
      LeadsFrom (is_bare kind) (x.at (label_at p.nodes n.number).number) x mid → CodesAlone p y kind x from to
  leads_on n falls within own leads = by (is_bare kind) refl leads
    where
      by : (bare : Bool) → is_bare kind ≡ bare → LeadsFrom bare (x.at (label_at p.nodes n.number).number) x mid → CodesAlone p y kind x from to
      by true is turns = passes_on n falls within is own turns
      by false is goes = goes_on n falls within is own goes

  -- one that falls to none
  pub leads_nowhere : falls_to kind ≡ None → CodesOwn p y kind x from to → CodesAlone p y kind x from to
  leads_nowhere falls own s c l f q m is-x of at = record { node = codes.0 s c l f q m is-x of at (rw falls tt); site = codes.1 s c l f q is-x of (rw falls tt) }
    where
      codes : CodesWhole p y kind x from to
      codes = own_codes p y kind x from to (falls_is_full kind falls) own

-- a jump fits in the cost of a node that falls to another
pub jump_fits : (p : Context) (y : Targets) (kind : NodeKind) (n : NodeId) → IsTrue (has_kind p y kind) → falls_to kind ≡ Some n →
    cost_of p y kind - jump_of kind + jump_cost ≤ cost_of p y kind
jump_fits p y (Entry formals next) n has falls = omega arith
jump_fits p y (CopyIn to next) n has falls = omega arith
jump_fits p y (Assign to value next) n has falls = omega arith
jump_fits p y (Store width aligned address value next) n has falls = omega arith
jump_fits p y (Branch test then_ otherwise) n has falls = omega arith
jump_fits p y (Switch value arms otherwise) n has falls = omega arith
jump_fits p y (Call site callee arguments exits) n has falls = omega arith
jump_fits p y (Yield site values exits) n has falls = omega arith
jump_fits p y (Jump callee arguments) n has falls = absurd (cc)
jump_fits p y (Cut to arguments own) n has falls = absurd (cc)
jump_fits p y (Return exit alternates results) n has falls = absurd (cc)
jump_fits p y (Host call next) n has falls = omega arith
jump_fits p y (Goto next) n has falls = omega arith
jump_fits p y Stop n has falls = absurd (cc)

named : (p : Context) (m n : NodeId) → IsTrue (has_node p m) → m ≡ n → n.number < length p.nodes
named p m n has same = subst (λ (z : NodeId). z.number < length p.nodes) same (grind (arith, nat_tests, has))

of_normal : (p : Context) (o : Option NodeId) (n : NodeId) → IsTrue (elim o [ Some n ↦ has_node p n | None ↦ true ]) → o ≡ Some n → n.number < length p.nodes
of_normal p (Some m) n has same = named p m n has (cc)
of_normal p None n has same = absurd (cc)

-- the node to which a node falls is there
pub falls_within : (p : Context) (y : Targets) (kind : NodeKind) (n : NodeId) → IsTrue (has_kind p y kind) → falls_to kind ≡ Some n → n.number < length p.nodes
falls_within p y (Entry formals next) n has falls = named p next n (grind (arith, has)) (cc)
falls_within p y (CopyIn to next) n has falls = named p next n (grind (arith, has)) (cc)
falls_within p y (Assign to value next) n has falls = named p next n (grind (arith, has)) (cc)
falls_within p y (Store width aligned address value next) n has falls = named p next n (grind (arith, has)) (cc)
falls_within p y (Branch test then_ otherwise) n has falls = named p otherwise n (grind (arith, has)) (cc)
falls_within p y (Switch value arms otherwise) n has falls = named p otherwise n (grind (arith, has)) (cc)
falls_within p y (Call site callee arguments exits) n has falls = of_normal p exits.normal n (grind (arith, has)) falls
falls_within p y (Yield site values exits) n has falls = of_normal p exits.normal n (grind (arith, has)) falls
falls_within p y (Jump callee arguments) n has falls = absurd (cc)
falls_within p y (Cut to arguments own) n has falls = absurd (cc)
falls_within p y (Return exit alternates results) n has falls = absurd (cc)
falls_within p y (Host call next) n has falls = named p next n (grind (arith, has)) (cc)
falls_within p y (Goto next) n has falls = named p next n (grind (arith, has)) (cc)
falls_within p y Stop n has falls = absurd (cc)
