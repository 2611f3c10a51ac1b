-- The stackdata of a procedure takes as much room with its labels as without them: a label stands where what comes behind it moves up to anyway.
use Rattle.std.proofs.Common.{◌≡◌, ℕ, ◌+◌, ◌*◌, ◌≤◌, refl, sym, ap, ◌∙◌, subst, true, List, [], ◌∷◌, max, arith, add-zero}
use Rattle.std.specs.Prelude.{map, flat_map, nat_le}
use Rattle.std.proofs.lemmas.Bool.{leb-true}
use Rattle.cmm_ast.specs.declared.procedure.Room.{Room}
use Rattle.cmm_ast.specs.declared.procedure.RoomForm.{RoomForm}
use Rattle.cmm_ast.specs.declared.procedure.RoomForm.TheVariants as rooms
use Rattle.cmm_program.specs.Typing.{is_alignment}
use Rattle.cmm_program.specs.Layout.{aligned_up, end_of, item_piece, stackdata_size}
use Rattle.cmm_rules.specs.declared.rule.Rule.TheVariants.{Limit}
use Rattle.cmm_static_semantics.specs.Items.{parts_of}
use Rattle.cmm_static_semantics.specs.Scopes.{Scope, unit_senses}
use Rattle.cmm_static_semantics.specs.Statements.{scope_of, proc_spots}
use Rattle.cmm_static_semantics.specs.Limits.{local_rooms, room_piece, room_limits, proc_limits}
use Rattle.cmm_static_semantics.specs.Declarations.{named_units}
use Rattle.cmm_static_semantics.specs.Linking.{program_of}
use Rattle.cmm_elaboration.specs.Procedures.{label_alignment, stack_items}
use Rattle.cmm_elaboration.specs.Laws.{StackdataFits}
use Rattle.cmm_elaboration.proofs.Nothing.{no_left, no_right, no_unless}
use Rattle.cmm_elaboration.proofs.Everywhere.{all_accepted}
use Rattle.cmm_elaboration.proofs.Keeping.{piece_alignment, label_aligned}
use Rattle.cmm_elaboration.proofs.Aligning.{at_multiple, up_twice}

up_one : (x : ℕ) → aligned_up 1 x ≡ x
up_one x = let e : x ≡ x * 1 = omega arith in ap (aligned_up 1) e ∙ at_multiple 1 x (omega arith) ∙ sym e

up_none : (x : ℕ) → aligned_up 1 x + 0 ≡ x
up_none x = add-zero (aligned_up 1 x) ∙ up_one x

module _ (s : Scope) where
  abbrev room : RoomForm → ℕ → Room
  room form token = record { token = token; form = form }

  -- where rooms end, without places for labels
  abbrev laid : ℕ → List Room → ℕ
  laid place rs = end_of place (map (room_piece s) rs)

  -- nothing changes where a place moves up first as a label there would
  abbrev Moves : List Room → Type 0
  Moves rs = (place : ℕ) → laid (aligned_up (label_alignment s rs) place) rs ≡ laid place rs

  moves_by : (form : RoomForm) (token : ℕ) (rs : List Room) → Moves rs → Moves (room form token ∷ rs)
  moves_by (rooms.Label name) token rs later place =
      ap (λ n. laid n rs) (up_none (aligned_up (label_alignment s rs) place)) ∙ later place ∙ ap (λ n. laid n rs) (sym (up_none place))
  moves_by (rooms.Align k) token rs later place =
      let a = (room_piece s (room (rooms.Align k) token)).align in let b = label_alignment s rs in
      let ha : is_alignment a ≡ true = piece_alignment s (rooms.Align k) token in
      let hb : is_alignment b ≡ true = label_aligned s rs in
      let hm : is_alignment (max a b) ≡ true = label_aligned s (room (rooms.Align k) token ∷ rs) in
      let most : max a (max a b) ≡ max a b = omega arith in
      let turned : max b a ≡ max a b = omega arith in
      let once : aligned_up a (aligned_up (max a b) place) ≡ aligned_up (max a b) place = up_twice a (max a b) place ha hm ∙ ap (λ n. aligned_up n place) most in
      let apart : aligned_up b (aligned_up a place) ≡ aligned_up (max a b) place = up_twice b a place hb ha ∙ ap (λ n. aligned_up n place) turned in
      ap (λ n. laid (n + 0) rs) (once ∙ sym apart) ∙ ap (λ n. laid n rs) (add-zero (aligned_up b (aligned_up a place)))
      ∙ later (aligned_up a place) ∙ ap (λ n. laid n rs) (sym (add-zero (aligned_up a place)))
  moves_by (rooms.Data width count) token rs later place =
      let piece = room_piece s (room (rooms.Data width count) token) in
      let h : is_alignment piece.align ≡ true = piece_alignment s (rooms.Data width count) token in
      let same : max piece.align piece.align ≡ piece.align = omega arith in
      ap (λ n. laid (n + piece.length) rs) (up_twice piece.align piece.align place h h ∙ ap (λ n. aligned_up n place) same)

  moves : (rs : List Room) → Moves rs
  moves [] place = up_one place
  moves (r ∷ rs) place = moves_by r.form r.token rs (moves rs) place

  abbrev Ends : List Room → Type 0
  Ends rs = (place : ℕ) → end_of place (map item_piece (stack_items s rs)) ≡ laid place rs

  ends_by : (form : RoomForm) (token : ℕ) (rs : List Room) → Ends rs → Ends (room form token ∷ rs)
  ends_by (rooms.Label name) token rs later place =
      later (aligned_up (label_alignment s rs) place + 0)
      ∙ ap (λ n. laid n rs) (add-zero (aligned_up (label_alignment s rs) place)) ∙ moves rs place ∙ ap (λ n. laid n rs) (sym (up_none place))
  ends_by (rooms.Align k) token rs later place = let piece = room_piece s (room (rooms.Align k) token) in later (aligned_up piece.align place + piece.length)
  ends_by (rooms.Data width count) token rs later place =
      let piece = room_piece s (room (rooms.Data width count) token) in later (aligned_up piece.align place + piece.length)

  ends : (rs : List Room) → Ends rs
  ends [] place = refl
  ends (r ∷ rs) place = ends_by r.form r.token rs (ends rs) place

  within : (place : ℕ) (rs : List Room) → room_limits s place rs ≡ [] → place ≤ 65536 → laid place rs ≤ 65536
  within place [] none small = small
  within place (r ∷ rs) none small =
      let behind = end_of place (room_piece s r ∷ []) in
      within behind rs (no_right _ (room_limits s behind rs) none)
      (leb-true behind 65536 (no_unless (nat_le behind 65536) Limit r.token (no_left _ (room_limits s behind rs) none)))

pub stackdata_fits : StackdataFits
stackdata_fits us accepted = all_accepted (λ q. stackdata_size q.stack ≤ 65536) us accepted
    (λ earlier u number place around tree none.
    let outer = unit_senses (program_of (named_units us)) u.entries in let s = scope_of outer tree in let rs = flat_map local_rooms (parts_of tree.body) in
    subst (λ n. n ≤ 65536) (sym (ends s rs 0))
    (within s 0 rs (no_right _ (room_limits s 0 rs) (no_right (proc_spots outer tree) (proc_limits outer tree) none)) (omega arith)))
