-- A node that leads on stays in its activation, so it enters no procedure.
use Rattle.std.proofs.Common.{◌≡◌, ℕ, refl, sym, ap, List, [], ◌∷◌, is_some}
use Rattle.std.specs.Prelude.{true, Ok, Err, Option, Some, None}
use Rattle.cmm_program.specs.Acts.{places_of, values_of}
use Rattle.cmm_program.specs.Errors.{Tried, and_then}
use Rattle.cmm_program.specs.Orders as order
use Rattle.cmm_program.specs.Orders.{Held, Place, writes}
use Rattle.cmm_program.specs.Performing.{Transfer, Stay, Wait, Away, Over, perform}
use Rattle.cmm_program.specs.State.{Setting, Store}
use Rattle.cmm_program.specs.Todo.{if_way}
use Rattle.cmm_program.specs.Values.{Value}
use Rattle.cmm_program.specs.Writes.{put_all, reads_of}
use Rattle.cmm_graph.specs.Acting.{act_of, aim_at, arm_way, led}
use Rattle.cmm_graph.specs.GraphControl.{Position, held_by, keeping, put_to}
use Rattle.cmm_graph.specs.Values.{operand_value, rvalue_value, test_value}
use Rattle.cmm_graph.specs.declared.node.HostCall.TheVariants.{PutByte, GetByte}
use Rattle.cmm_graph.specs.declared.node.NodeKind.{NodeKind}
use Rattle.cmm_graph.specs.declared.node.NodeKind.TheVariants.{Assign, Store as StoreNode, Branch, Switch, Host, Goto}
use Rattle.cmm_graph.specs.declared.number.NodeId.{NodeId}
use Rattle.cmm_graph.specs.declared.operand.Destination.{Destination}
use Rattle.cmm_graph.specs.declared.operand.Destination.TheVariants as destination
use Rattle.cmm_rewriting.specs.Places.{comes_to, entry_cost}

-- control stays in its activation, or the machine is wrong
abbrev Stays : Tried Transfer → Type 0
Stays (Ok (Stay way store)) = Unit {0}
Stays (Ok _) = ⊥
Stays (Err error) = Unit {0}

module _ (s : Setting) (store : Store) where
  put_stays : (r : Tried Store) → Stays (and_then r (λ after. Ok (Stay 0 after)))
  put_stays (Ok after) = tt
  put_stays (Err error) = tt

  assign_stays : (places : Tried (List Place)) (values : Tried (List ℕ)) →
      Stays (and_then (and_then places (λ ps. and_then values (λ vs. Ok (order.Assign (writes ps vs))))) (λ what. perform s what store))
  assign_stays (Ok places) (Ok values) = put_stays (put_all (writes places values) store)
  assign_stays (Ok places) (Err error) = tt
  assign_stays (Err error) values = tt

  choice_stays : (way : Tried ℕ) → Stays (and_then (and_then way (λ n. Ok (order.Choose n))) (λ what. perform s what store))
  choice_stays (Ok way) = tt
  choice_stays (Err error) = tt

  output_stays : (value : Tried ℕ) → Stays (and_then (and_then value (λ v. Ok (order.PutByte v))) (λ what. perform s what store))
  output_stays (Ok value) = tt
  output_stays (Err error) = tt

  put_to_stays : (to : Destination) (value : Value) → Stays (comes_to s store (put_to to value))
  put_to_stays (destination.Target target) value =
      assign_stays (places_of (reads_of s store) ((λ reads. Ok (Held target)) ∷ [])) (values_of (reads_of s store) (value ∷ []))
  put_to_stays (destination.Temporary t) value = choice_stays (value (reads_of s store))

  -- a node that leads on
  leading_stays : (c : Position) (kind : NodeKind) (n : NodeId) → led 0 kind ≡ Some n → Stays (comes_to s store (act_of (keeping c) kind))
  leading_stays c (Assign to value next) n is = put_to_stays to (rvalue_value (held_by c.temporaries) value)
  leading_stays c (StoreNode width aligned address value next) n is =
      assign_stays (places_of (reads_of s store) (aim_at (keeping c) width aligned (operand_value (held_by c.temporaries) address) ∷ []))
      (values_of (reads_of s store) (operand_value (held_by c.temporaries) value ∷ []))
  leading_stays c (Branch test then_ otherwise) n is = choice_stays (if_way (test_value (held_by c.temporaries) test) (reads_of s store))
  leading_stays c (Switch value arms otherwise) n is =
      choice_stays (and_then (operand_value (held_by c.temporaries) value (reads_of s store)) (λ v. Ok (arm_way arms v)))
  leading_stays c (Host (PutByte value) next) n is = output_stays (operand_value (held_by c.temporaries) value (reads_of s store))
  leading_stays c (Host (GetByte to) next) n is = tt
  leading_stays c (Goto next) n is = tt
  leading_stays c kind n is = absurd (cc)

-- one that stays enters no procedure
stays_free : (r : Tried Transfer) → Stays r → (t : Transfer) → r ≡ Ok t → (more : ℕ) → entry_cost more t ≡ 0
stays_free (Ok (Stay way after)) stays t is more = let same : Stay way after ≡ t = cc in ap (entry_cost more) (sym same)
stays_free (Ok (Wait after)) stays t is more = absurd stays
stays_free (Ok (Away gone after landing)) stays t is more = absurd stays
stays_free (Ok (Over gone after)) stays t is more = absurd stays
stays_free (Err error) stays t is more = absurd (cc)

pub leading_enters_nothing : (s : Setting) (store : Store) (c : Position) (kind : NodeKind) → is_some (led 0 kind) ≡ true → (t : Transfer) →
    comes_to s store (act_of (keeping c) kind) ≡ Ok t → (more : ℕ) → entry_cost more t ≡ 0
leading_enters_nothing s store c kind leads t is more = by (led 0 kind) refl leads
  where
    by : (o : Option NodeId) → led 0 kind ≡ o → is_some o ≡ true → entry_cost more t ≡ 0
    by (Some n) there some = stays_free (comes_to s store (act_of (keeping c) kind)) (leading_stays s store c kind n there) t is more
    by None there some = absurd (cc (some))
