-- Where rooms end, one after another.
use Rattle.std.proofs.Common.{◌≡◌, ℕ, suc, ◌+◌, ◌<◌, ◌≤◌, map, refl, ap, sym, ◌∙◌, subst, true, false, Bool, List, [], ◌∷◌, ◌++◌, Option, Some, None, arith, append_assoc, append-nil}
use Rattle.std.specs.Prelude.{zero, nat_le, is_some}
use Rattle.std.specs.Option.{ForSome}
use Rattle.std.proofs.lemmas.Bool.{le-leb, leb-true}
use Rattle.cmm_ast.specs.declared.procedure.Room.{Room}
use Rattle.cmm_ast.specs.declared.procedure.RoomForm.{RoomForm}
use Rattle.cmm_ast.specs.declared.procedure.RoomForm.TheVariants as rooms
use Rattle.cmm_program.specs.Layout.{end_of}
use Rattle.cmm_program.specs.Typing.{is_alignment}
use Rattle.cmm_program.proofs.Shared.{aligned_up-grows}
use Rattle.cmm_rules.specs.declared.rule.Rule.TheVariants.{Limit}
use Rattle.cmm_static_semantics.specs.declared.spot.Spot.{Spot}
use Rattle.cmm_static_semantics.specs.Spots.{first_of, unless}
use Rattle.cmm_static_semantics.specs.Scopes.{Scope, types}
use Rattle.cmm_static_semantics.specs.Limits.{room_piece, room_limits}
use Rattle.cmm_static_semantics.proofs.Shared.{first_of_append}
use Rattle.cmm_check_declarations.proofs.Shared.{aligned_by, bytes_bounds}
use Rattle.cmm_limits.specs.inside.Ends.{IsWithin, form_piece}

-- ---- sizes and alignments

form_aligned : (s : Scope) (f : RoomForm) → 0 < (form_piece s f).align
form_aligned s (rooms.Label name) = omega arith
form_aligned s (rooms.Align k) = aligned_by (is_alignment k.value) k.value refl
form_aligned s (rooms.Data width count) = (bytes_bounds (types s) width).0

-- a room never ends before its place
room_grows : (s : Scope) (place : ℕ) (r : Room) → place ≤ end_of place (room_piece s r ∷ [])
room_grows s place r = omega (arith, aligned_up-grows (form_piece s r.form).align place (form_aligned s r.form))

pub past_stays : (s : Scope) (place : ℕ) (r : Room) → IsWithin None place → IsWithin None (end_of place (room_piece s r ∷ []))
past_stays s place r past within = past (omega (arith, room_grows s place r))

pub within_bounds : (o : Option ℕ) (place : ℕ) → IsWithin o place → ForSome o (λ p. p ≤ 65536)
within_bounds o place is p e = let w : (place ≤ 65536) × (p ≡ place) = subst (λ q. IsWithin q place) e is in omega (arith, w.0, w.1)

-- ---- a walk

pub end_push : (s : Scope) (place : ℕ) (rs : List Room) (r : Room) → end_of place (map (room_piece s) (rs ++ r ∷ [])) ≡ end_of (end_of place (map (room_piece s) rs)) (room_piece s r ∷ [])
end_push s place [] r = refl
end_push s place (q ∷ qs) r = end_push s (end_of place (room_piece s q ∷ [])) qs r

pub limits_push : (s : Scope) (place : ℕ) (rs : List Room) (r : Room) →
    room_limits s place (rs ++ r ∷ []) ≡ room_limits s place rs ++ unless (nat_le (end_of (end_of place (map (room_piece s) rs)) (room_piece s r ∷ [])) 65536) Limit r.token
limits_push s place [] r = append-nil (unless (nat_le (end_of place (room_piece s r ∷ [])) 65536) Limit r.token)
limits_push s place (q ∷ qs) r = let end_ = end_of place (room_piece s q ∷ []) in let here = unless (nat_le end_ 65536) Limit q.token in
    ap (λ t. here ++ t) (limits_push s end_ qs r)
    ∙ sym (append_assoc here (room_limits s end_ qs) (unless (nat_le (end_of (end_of end_ (map (room_piece s) qs)) (room_piece s r ∷ [])) 65536) Limit r.token))

not_le : (b : Bool) (a c : ℕ) → nat_le a c ≡ b → (a ≤ c → ⊥) → false ≡ b
not_le true a c is past = absurd (past (leb-true a c is))
not_le false a c is past = refl

within_is : (o : Option ℕ) (place : ℕ) → IsWithin o place → is_some o ≡ nat_le place 65536
within_is (Some p) place is = sym (le-leb place 65536 is.0)
within_is None place is = not_le (nat_le place 65536) place 65536 refl is

pub record Walked (s : Scope) (first best : Option Spot) (o : Option ℕ) (rs : List Room) : Type 0 where
  pub noted : best ≡ first_of first (room_limits s 0 rs)
  pub ends : IsWithin o (end_of 0 (map (room_piece s) rs))

pub walked : (s : Scope) (first best next : Option Spot) (o o' : Option ℕ) (rs more : List Room) (r : Room) (test : Bool) → more ≡ rs ++ r ∷ [] → Walked s first best o rs →
    ((place : ℕ) → IsWithin o place → IsWithin o' (end_of place (room_piece s r ∷ []))) → test ≡ is_some o' →
    next ≡ first_of best (unless test Limit r.token) → Walked s first next o' more
walked s first best next o o' rs more r test grown so_far after is turn =
    let here = end_of 0 (map (room_piece s) rs) in
    let there : IsWithin o' (end_of here (room_piece s r ∷ [])) = after here so_far.ends in record {
      noted = turn ∙ ap (λ b. first_of best (unless b Limit r.token)) (is ∙ within_is o' (end_of here (room_piece s r ∷ [])) there)
          ∙ ap (λ b. first_of b (unless (nat_le (end_of here (room_piece s r ∷ [])) 65536) Limit r.token)) so_far.noted
          ∙ sym (first_of_append first (room_limits s 0 rs) (unless (nat_le (end_of here (room_piece s r ∷ [])) 65536) Limit r.token))
          ∙ ap (first_of first) (sym (limits_push s 0 rs r) ∙ ap (room_limits s 0) (sym grown));
      ends = subst (IsWithin o') (sym (end_push s 0 rs r) ∙ ap (λ t. end_of 0 (map (room_piece s) t)) (sym grown)) there;
    }
