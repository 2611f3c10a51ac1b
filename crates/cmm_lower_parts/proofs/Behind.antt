-- Rooms of stackdata from behind, one by one.
use mathlib.Core.List.{reverse}
use Rattle.std.proofs.Common.{◌≡◌, refl, sym, ap, ◌∙◌, ℕ, ◌+◌, ◌<◌, List, [], ◌∷◌, ◌++◌, length, get_or, map, drop, Option, Some, None}
use Rattle.std.proofs.lemmas.List.{reverse-append}
use denote.Ref.{Bor}
use Rattle.cmm_ast.specs.declared.expression.Expr.{Expr}
use Rattle.cmm_ast.specs.declared.expression.TypeName.{TypeName}
use Rattle.cmm_ast.specs.declared.procedure.Room.{Room}
use Rattle.cmm_ast.specs.declared.procedure.RoomForm.{RoomForm}
use Rattle.cmm_ast.specs.declared.procedure.RoomForm.TheVariants as rooms
use Rattle.cmm_program.specs.declared.procedure.StackItem.{StackItem}
use Rattle.cmm_static_semantics.specs.Scopes.{Scope}
use Rattle.cmm_elaboration.specs.Procedures.{label_alignment, stack_items}
use Rattle.cmm_static_semantics.proofs.Shared.{rest_next}
use Rattle.cmm_lower_parts.specs.Held.{item_held}
use Rattle.cmm_lower_parts.specs.inside.Rooms.{alignment_before, form_item}

module _ (s : Scope) where
  data_item : (token : ℕ) (width : TypeName) (count : Option Expr) (rs : List Room) →
      stack_items s (record { token = token; form = rooms.Data width count } ∷ rs) ≡ form_item s (label_alignment s rs) (rooms.Data width count) ∷ stack_items s rs
  data_item token width (Some e) rs = refl
  data_item token width None rs = refl

  data_alignment : (token : ℕ) (width : TypeName) (count : Option Expr) (rs : List Room) →
      label_alignment s (record { token = token; form = rooms.Data width count } ∷ rs) ≡ (form_item s (label_alignment s rs) (rooms.Data width count)).align
  data_alignment token width (Some e) rs = refl
  data_alignment token width None rs = refl

  item_first : (r : Room) (rs : List Room) → stack_items s (r ∷ rs) ≡ form_item s (label_alignment s rs) r.form ∷ stack_items s rs
  item_first r rs = by r.token r.form
    where
      by : (token : ℕ) (form : RoomForm) → stack_items s (record { token = token; form = form } ∷ rs) ≡ form_item s (label_alignment s rs) form ∷ stack_items s rs
      by token (rooms.Label name) = refl
      by token (rooms.Align k) = refl
      by token (rooms.Data width count) = data_item token width count rs

  alignment_first : (r : Room) (rs : List Room) → label_alignment s (r ∷ rs) ≡ alignment_before r.form (form_item s (label_alignment s rs) r.form).align (label_alignment s rs)
  alignment_first r rs = by r.token r.form
    where
      by : (token : ℕ) (form : RoomForm) → label_alignment s (record { token = token; form = form } ∷ rs) ≡ alignment_before form (form_item s (label_alignment s rs) form).align (label_alignment s rs)
      by token (rooms.Label name) = refl
      by token (rooms.Align k) = refl
      by token (rooms.Data width count) = data_alignment token width count rs

  -- the items of the rooms from one on, the last first, and how a label before them is aligned
  pub record AreBehind (is : List StackItem) (behind : ℕ) (rs : List Room) : Type 0 where
    pub items : reverse is ≡ map item_held (stack_items s rs)
    pub alignment : behind ≡ label_alignment s rs

  pub none_behind : AreBehind [] 1 []
  none_behind = record { items = refl; alignment = refl }

  one_before : (items : List StackItem) (behind : ℕ) (item : StackItem) (r : Room) (rs : List Room) → AreBehind items behind rs → item ≡ item_held (form_item s behind r.form) →
      AreBehind (items ++ item ∷ []) (alignment_before r.form item.align behind) (r ∷ rs)
  one_before items behind item r rs are is = record {
    items = reverse-append items (item ∷ []) ∙ ap (λ t. item ∷ t) are.items
        ∙ ap (λ t. t ∷ map item_held (stack_items s rs)) (is ∙ ap (λ b. item_held (form_item s b r.form)) are.alignment) ∙ ap (map item_held) (sym (item_first r rs));
    alignment = ap (λ i. alignment_before r.form i.align behind) is ∙ ap (λ b. alignment_before r.form (form_item s b r.form).align b) are.alignment ∙ sym (alignment_first r rs);
  }

  pub behind_next : (rooms : List (Bor Room)) (k : ℕ) (r : Bor Room) (items new : List StackItem) (behind next : ℕ) (item : StackItem) → k < length rooms → r ≡ get_or rooms k r →
      AreBehind items behind (map (λ x. x.now) (drop (k + 1) rooms)) → item ≡ item_held (form_item s behind r.now.form) → new ≡ items ++ item ∷ [] → next ≡ alignment_before r.now.form item.align behind →
      AreBehind new next (map (λ x. x.now) (drop k rooms))
  behind_next rooms k r items new behind next item within here are is pushed before =
      let one = one_before items behind item r.now (map (λ x. x.now) (drop (k + 1) rooms)) are is in
      let whole = rest_next (λ (x : Bor Room). x.now) rooms k r within here in
      record {
        items = ap reverse pushed ∙ one.items ∙ ap (λ rs. map item_held (stack_items s rs)) (sym whole);
        alignment = before ∙ one.alignment ∙ ap (label_alignment s) (sym whole);
      }
