-- What a value put into a place leaves as it is: the status, what is seen, and the activations but for the youngest one's variables.
use Rattle.std.proofs.Common.{◌≡◌, ℕ, Bool, true, false, Ok, List, [], ◌∷◌, refl, ap, sym, ◌∙◌, arith}
use Rattle.cmm_machine_laws.specs.Observed.{store_seen}
use Rattle.cmm_program.specs.declared.procedure.Target.{Target}
use Rattle.cmm_program.specs.declared.procedure.Target.TheVariants.{Variable, Register}
use Rattle.cmm_program.specs.Orders.{Held, Memory, Place, Write}
use Rattle.cmm_program.specs.State.{Activation, Store}
use Rattle.cmm_program.specs.Values.{may_access}
use Rattle.cmm_program.specs.Memory.{cell_at}
use Rattle.cmm_program.specs.Writes.{assigned, put, put_all, with_variable}
use Rattle.cmm_words.specs.Widths.{bytes}
use Rattle.cmm_flow.proofs.Expressions.{bound}

-- the youngest activation is of the same procedure, and the others are the same
abbrev pub IsSameBelow : List Activation → List Activation → Type 0
IsSameBelow [] [] = Unit {0}
IsSameBelow (a ∷ older) (b ∷ others) = (b.procedure ≡ a.procedure) × (others ≡ older)
IsSameBelow _ _ = ⊥

pub record Leaves (before after : Store) : Type 0 where
  pub status : after.status ≡ before.status
  pub seen : store_seen after ≡ store_seen before
  pub activations : IsSameBelow before.activations after.activations

pub same_below : (as_ : List Activation) → IsSameBelow as_ as_
same_below [] = tt
same_below (a ∷ older) = (refl, refl)

same_below_trans : (as_ bs cs : List Activation) → IsSameBelow as_ bs → IsSameBelow bs cs → IsSameBelow as_ cs
same_below_trans [] [] [] first second = tt
same_below_trans (a ∷ as_) (b ∷ bs) (c ∷ cs) first second = (second.0 ∙ first.0, second.1 ∙ first.1)
same_below_trans [] [] (c ∷ cs) first second = elim second [ ]
same_below_trans [] (b ∷ bs) cs first second = elim first [ ]
same_below_trans (a ∷ as_) [] cs first second = elim first [ ]
same_below_trans (a ∷ as_) (b ∷ bs) [] first second = elim second [ ]

pub leaves_itself : (store : Store) → Leaves store store
leaves_itself store = record { status = refl; seen = refl; activations = same_below store.activations }

pub leaves_trans : {a b c : Store} → Leaves a b → Leaves b c → Leaves a c
leaves_trans {a = a} {b = b} {c = c} first second = record {
  status = second.status ∙ first.status;
  seen = second.seen ∙ first.seen;
  activations = same_below_trans a.activations b.activations c.activations first.activations second.activations;
}

variable_below : (as_ : List Activation) (number value : ℕ) → IsSameBelow as_ (with_variable as_ number value)
variable_below [] number value = tt
variable_below (a ∷ older) number value = (refl, refl)

pub assigned_leaves : (target : Target) (value : ℕ) (store : Store) → Leaves store (assigned target value store)
assigned_leaves (Variable number width) value store =
    record { status = refl; seen = refl; activations = variable_below store.activations number value }
assigned_leaves (Register number width) value store = record { status = refl; seen = refl; activations = same_below store.activations }

pub put_leaves : (place : Place) (value : ℕ) (store after : Store) → put place value store ≡ Ok after → Leaves store after
put_leaves (Held target) value store after is = rw (sym (given is)) (assigned_leaves target value store)
  where
    given : put (Held target) value store ≡ Ok after → assigned target value store ≡ after
    given is = grind (arith, is)
put_leaves (Memory width aligned address) value store after is = by (may_access (cell_at store.memory) (bytes width) aligned address) refl
  where
    by : (test : Bool) → may_access (cell_at store.memory) (bytes width) aligned address ≡ test → Leaves store after
    by true at = let same : record store { memory = after.memory } ≡ after = grind (arith, at, is) in
        record { status = ap (λ (s : Store). s.status) (sym same); seen = ap store_seen (sym same); activations = rw (sym same) (same_below store.activations) }
    by false at = grind (arith, at, is)

pub put_all_leaves : (ws : List Write) (store after : Store) → put_all ws store ≡ Ok after → Leaves store after
put_all_leaves [] store after is = let same : store ≡ after = grind (arith, is) in rw (sym same) (leaves_itself store)
put_all_leaves (w ∷ ws) store after is =
    let first = bound (put w.place w.value store) (put_all ws) after is in
    leaves_trans (put_leaves w.place w.value store first.0 first.1) (put_all_leaves ws first.0 after first.2)
