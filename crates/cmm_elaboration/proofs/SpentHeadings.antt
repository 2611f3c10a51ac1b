-- What stands before the statements of a procedure counts at least the tokens of its shortest text: its formals, its variables and its stackdata.
use Rattle.std.proofs.Common.{◌≡◌, ℕ, zero, suc, ◌+◌, ◌≤◌, refl, sym, ap, ◌∙◌, subst, Bool, true, false, List, [], ◌∷◌, ◌++◌, Option, Some, None, arith, length}
use Rattle.std.specs.Prelude.{map, not, ◌==◌, ◌&&◌, sum_by, bytes_eq}
use Rattle.std.proofs.lemmas.List.Sums.{sum_by-cons}
use Rattle.cmm_lexer.specs.declared.keyword.Keyword.TheVariants as word
use Rattle.cmm_lexer.specs.declared.symbol.Symbol.TheVariants as sign
use Rattle.cmm_words.specs.declared.width.Width.{Width}
use Rattle.cmm_words.specs.declared.width.Width.TheVariants.{W8, W16, W32, W64}
use Rattle.cmm_words.specs.Widths.{bytes}
use Rattle.cmm_ast.specs.declared.token.Ident.{Ident}
use Rattle.cmm_ast.specs.declared.procedure.Formal.{Formal}
use Rattle.cmm_ast.specs.declared.procedure.LocalForm.{LocalForm}
use Rattle.cmm_ast.specs.declared.procedure.LocalForm.TheVariants as locals
use Rattle.cmm_ast.specs.declared.procedure.Modifiers.{Modifiers}
use Rattle.cmm_ast.specs.declared.procedure.Modifiers.TheVariants as before
use Rattle.cmm_ast.specs.declared.procedure.Room.{Room}
use Rattle.cmm_ast.specs.declared.procedure.RoomForm.{RoomForm}
use Rattle.cmm_ast.specs.declared.procedure.RoomForm.TheVariants as rooms
use Rattle.cmm_grammar.specs.Taking.{Reading, ◌⨾◌, is_word, is_sign, keyword, symbol, here, braces, square, many, listed}
use Rattle.cmm_grammar.specs.ExpressionGrammar.{ident, text, int, type_name, whole}
use Rattle.cmm_grammar.specs.StatementGrammar.{modifiers, formal, room_form, local_form}
use Rattle.cmm_program.specs.declared.procedure.StackItem.{StackItem}
use Rattle.cmm_program.specs.declared.procedure.VarInfo.{VarInfo}
use Rattle.cmm_program.specs.Tokens.{names as name_tokens, when, before_name, declared_alike, local_tokens, item_tokens, stackdata_tokens}
use Rattle.cmm_program.specs.Typing.{same_width}
use Rattle.cmm_static_semantics.specs.Judging.{if_ok}
use Rattle.cmm_static_semantics.specs.Typing.{type_width}
use Rattle.cmm_static_semantics.specs.Limits.{piece_of, bytes_of, number_or_zero, room_piece}
use Rattle.cmm_static_semantics.specs.Scopes.{Scope, senses, types}
use Rattle.cmm_elaboration.specs.Procedures.{kind_in, is_invariant, variable_info, formal_info, local_infos, label_alignment, item_of, stack_items}
use Rattle.cmm_elaboration.proofs.Derived.{middle}
use Rattle.cmm_elaboration.proofs.Steady.{next_token}
use Rattle.cmm_elaboration.proofs.Naming.{same_name}
use Rattle.cmm_elaboration.proofs.Widths.{own_width}
use Rattle.cmm_elaboration.proofs.Weighing.{taken_of}
use Rattle.cmm_elaboration.proofs.Spent.{IsShort, enclosed_of, here_taken, int_token, type_token, whole_strict}
use Rattle.cmm_elaboration.proofs.SpentForms.{ones, ident_token, text_token, listed_cost}

-- ---- what stands before a name

abbrev kind_tokens : List ℕ → ℕ
kind_tokens kind = elim kind [ [] ↦ 0 | _ ∷ _ ↦ 1 ]

kind_few : (kind : List ℕ) → kind_tokens kind ≤ 1
kind_few [] = omega arith
kind_few (b ∷ kind) = omega arith

abbrev modifier_tokens : Modifiers → ℕ
modifier_tokens m = kind_tokens (kind_in m) + when (is_invariant m) 1

modifiers_cost : (m : Modifiers) (r t : Reading) → modifiers m r ≡ Some t → r.taken + modifier_tokens m ≤ t.taken
modifiers_cost before.Nothing r t is = let e : r.taken ≡ t.taken = ap taken_of is in omega arith
modifiers_cost (before.Kind kind) r t is = let e : t.taken ≡ suc r.taken = text_token kind r t is in omega (arith, kind_few kind.bytes)
modifiers_cost (before.KindInvariant kind) r t is =
    let a = middle (text kind r) (keyword word.Invariant) t is in
    let x : a.at_.taken ≡ suc r.taken = text_token kind r a.at_ a.first in let y : t.taken ≡ suc a.at_.taken = next_token (is_word word.Invariant) a.at_ t a.next in omega (arith, kind_few kind.bytes)
modifiers_cost (before.Invariant first) r t is =
    let a = middle (here first r) (keyword word.Invariant) t is in
    let x : a.at_.taken ≡ r.taken = here_taken first r a.at_ a.first in let y : t.taken ≡ suc a.at_.taken = next_token (is_word word.Invariant) a.at_ t a.next in omega arith
modifiers_cost (before.InvariantKind first kind) r t is =
    let a = middle (here first r) (keyword word.Invariant ⨾ text kind) t is in let b = middle (keyword word.Invariant a.at_) (text kind) t a.next in
    let x : a.at_.taken ≡ r.taken = here_taken first r a.at_ a.first in let y : b.at_.taken ≡ suc a.at_.taken = next_token (is_word word.Invariant) a.at_ b.at_ b.first in
    let z : t.taken ≡ suc b.at_.taken = text_token kind b.at_ t b.next in omega (arith, kind_few kind.bytes)

-- ---- variables

alike_by : (i : Bool) → elim i as (λ x. Bool) [ true ↦ i | false ↦ not i ] ≡ true
alike_by true = refl
alike_by false = refl

both_are : (a b c : Bool) → a ≡ true → b ≡ true → c ≡ true → (a && b && c) ≡ true
both_are true true true x y z = refl
both_are true true false x y z = z
both_are true false c x y z = cc
both_are false b c x y z = cc

alike_self : (v : VarInfo) → declared_alike v v ≡ true
alike_self v = both_are (same_width v.width v.width) (bytes_eq v.kind v.kind) (elim v.invariant as (λ x. Bool) [ true ↦ v.invariant | false ↦ not v.invariant ]) (own_width v.width) (same_name v.kind) (alike_by v.invariant)

when_few : (b : Bool) (n : ℕ) → when b n ≤ n
when_few true n = omega arith
when_few false n = omega arith

one_more : (v : VarInfo) (vs : List VarInfo) → local_tokens (v ∷ vs) ≤ before_name v + 2 + local_tokens vs
one_more v [] = omega arith
one_more v (w ∷ vs) = let h : when (not (declared_alike v w)) (before_name v) ≤ before_name v = when_few (not (declared_alike v w)) (before_name v) in omega arith

same_more : (v : VarInfo) (vs : List VarInfo) → local_tokens (v ∷ v ∷ vs) ≡ 2 + local_tokens (v ∷ vs)
same_more v vs = ap (λ b. when (not b) (before_name v) + 2 + local_tokens (v ∷ vs)) (alike_self v) ∙ (let e : 0 + 2 + local_tokens (v ∷ vs) ≡ 2 + local_tokens (v ∷ vs) = omega arith in e)

declared_few : (v : VarInfo) (is : List Ident) (rest : List VarInfo) → local_tokens (v ∷ (map (λ i. v) is ++ rest)) ≤ before_name v + 2 + (length is + length is) + local_tokens rest
declared_few v [] rest = omega (arith, one_more v rest)
declared_few v (i ∷ is) rest =
    let h : local_tokens (v ∷ (map (λ j. v) is ++ rest)) ≤ before_name v + 2 + (length is + length is) + local_tokens rest = declared_few v is rest in
    let e : local_tokens (v ∷ v ∷ (map (λ j. v) is ++ rest)) ≡ 2 + local_tokens (v ∷ (map (λ j. v) is ++ rest)) = same_more v (map (λ j. v) is ++ rest) in
    let goal : local_tokens (v ∷ v ∷ (map (λ j. v) is ++ rest)) ≤ before_name v + 2 + (suc (length is) + suc (length is)) + local_tokens rest = omega arith in goal

-- ---- stackdata

item_few : (i : StackItem) → i.label ≡ false → item_tokens i ≤ 5
item_few i is = subst (λ b. elim b as (λ x. ℕ) [ true ↦ 2 | false ↦ elim i.length as (λ x. ℕ) [ zero ↦ 3 | suc _ ↦ elim (i.length == i.align) as (λ x. ℕ) [ true ↦ 2 | false ↦ 5 ] ] ] ≤ 5) (sym is) (by i.length) where
  last : (b : Bool) → elim b as (λ x. ℕ) [ true ↦ 2 | false ↦ 5 ] ≤ 5
  last true = omega arith
  last false = omega arith

  by : (n : ℕ) → elim n as (λ x. ℕ) [ zero ↦ 3 | suc _ ↦ elim (i.length == i.align) as (λ x. ℕ) [ true ↦ 2 | false ↦ 5 ] ] ≤ 5
  by zero = omega arith
  by (suc n) = last (i.length == i.align)

abbrev room_least : Room → ℕ
room_least r = elim r.form [
  | rooms.Label name ↦ 2
  | rooms.Align k ↦ 3
  | rooms.Data width count ↦ elim count [ Some e ↦ 5 | None ↦ 2 ]
]

abbrev rooms_least : List Room → ℕ
rooms_least [] = 0
rooms_least (r ∷ rs) = room_least r + rooms_least rs

least_append : (xs ys : List Room) → rooms_least (xs ++ ys) ≡ rooms_least xs + rooms_least ys
least_append [] ys = let e : rooms_least ys ≡ 0 + rooms_least ys = omega arith in e
least_append (x ∷ xs) ys = let e : rooms_least (xs ++ ys) ≡ rooms_least xs + rooms_least ys = least_append xs ys in
    let goal : room_least x + rooms_least (xs ++ ys) ≡ room_least x + rooms_least xs + rooms_least ys = omega arith in goal

word_by : (o : Option Width) → item_tokens (item_of (piece_of (elim o as (λ x. ℕ) [ Some width ↦ bytes width | None ↦ 1 ]) 1)) ≡ 2
word_by (Some W8) = refl
word_by (Some W16) = refl
word_by (Some W32) = refl
word_by (Some W64) = refl
word_by None = refl

abbrev rooms_of : LocalForm → List Room
rooms_of form = elim form [ locals.Stackdata rooms_ ↦ rooms_ | _ ↦ [] ]

plain_map : (is : List Ident) → map (λ (j : Ident). j) is ≡ is
plain_map [] = refl
plain_map (i ∷ is) = ap (λ js. i ∷ js) (plain_map is)

module _ (s : Scope) where
  abbrev first_item : RoomForm → ℕ → List Room → StackItem
  first_item form token rs = elim form as (λ x. StackItem) [
    | rooms.Label name ↦ record { align = label_alignment s rs; length = 0; label = true }
    | rooms.Align k ↦ item_of (room_piece s record { token = token; form = form })
    | rooms.Data width count ↦ item_of (room_piece s record { token = token; form = form })
  ]

  room_few : (form : RoomForm) (token : ℕ) (rs : List Room) → item_tokens (first_item form token rs) ≤ room_least record { token = token; form = form }
  room_few (rooms.Label name) token rs = omega arith
  room_few (rooms.Align k) token rs = omega arith
  room_few (rooms.Data width None) token rs = let e : item_tokens (item_of (piece_of (bytes_of (types s) width) 1)) ≡ 2 = word_by (if_ok (type_width (types s) width)) in omega arith
  room_few (rooms.Data width (Some e)) token rs = item_few (item_of (piece_of (bytes_of (types s) width) (number_or_zero (senses s) e))) refl

  items_few : (rs : List Room) → sum_by item_tokens (stack_items s rs) ≤ rooms_least rs
  items_few [] = omega arith
  items_few (r ∷ rs) =
      let h : sum_by item_tokens (stack_items s rs) ≤ rooms_least rs = items_few rs in let x = first_item r.form r.token rs in
      let k : item_tokens x ≤ room_least r = room_few r.form r.token rs in
      let e : sum_by item_tokens (x ∷ stack_items s rs) ≡ item_tokens x + sum_by item_tokens (stack_items s rs) = sum_by-cons item_tokens x (stack_items s rs) in
      let goal : sum_by item_tokens (x ∷ stack_items s rs) ≤ room_least r + rooms_least rs = omega arith in goal

  abbrev pub stack_least : List Room → ℕ
  stack_least [] = 0
  stack_least (r ∷ rs) = 3 + rooms_least (r ∷ rs)

  pub stack_few : (rs : List Room) → stackdata_tokens (stack_items s rs) ≤ stack_least rs
  stack_few [] = omega arith
  stack_few (r ∷ rs) = omega (arith, items_few (r ∷ rs))

  least_few : (rs : List Room) → rooms_least rs ≤ stack_least rs
  least_few [] = omega arith
  least_few (r ∷ rs) = omega arith

  stack_more : (xs ys : List Room) → stack_least (xs ++ ys) ≤ 3 + rooms_least xs + stack_least ys
  stack_more [] ys = omega arith
  stack_more (x ∷ xs) ys =
      let e : rooms_least (xs ++ ys) ≡ rooms_least xs + rooms_least ys = least_append xs ys in let h : rooms_least ys ≤ stack_least ys = least_few ys in
      let goal : 3 + (room_least x + rooms_least (xs ++ ys)) ≤ 3 + (room_least x + rooms_least xs) + stack_least ys = omega arith in goal

  -- ---- their texts

  module _ (short : (name : List ℕ) → IsShort (senses s name)) where
    room_cost : (form : RoomForm) (token : ℕ) (r t : Reading) → room_form form r ≡ Some t → r.taken + room_least record { token = token; form = form } ≤ t.taken
    room_cost (rooms.Label name) token r t is =
        let a = middle (ident name r) (symbol sign.Colon) t is in
        let x : a.at_.taken ≡ suc r.taken = ident_token name r a.at_ a.first in let y : t.taken ≡ suc a.at_.taken = next_token (is_sign sign.Colon) a.at_ t a.next in omega arith
    room_cost (rooms.Align k) token r t is =
        let a = middle (keyword word.Align r) (int k ⨾ symbol sign.Semicolon) t is in let b = middle (int k a.at_) (symbol sign.Semicolon) t a.next in
        let x : a.at_.taken ≡ suc r.taken = next_token (is_word word.Align) r a.at_ a.first in let y : b.at_.taken ≡ suc a.at_.taken = int_token k a.at_ b.at_ b.first in
        let z : t.taken ≡ suc b.at_.taken = next_token (is_sign sign.Semicolon) b.at_ t b.next in omega arith
    room_cost (rooms.Data width None) token r t is =
        let a = middle (type_name width r) (symbol sign.Semicolon) t is in
        let x : a.at_.taken ≡ suc r.taken = type_token width r a.at_ a.first in let y : t.taken ≡ suc a.at_.taken = next_token (is_sign sign.Semicolon) a.at_ t a.next in omega arith
    room_cost (rooms.Data width (Some e)) token r t is =
        let a = middle (type_name width r) (square (whole e) ⨾ symbol sign.Semicolon) t is in let b = middle (square (whole e) a.at_) (symbol sign.Semicolon) t a.next in
        let i = enclosed_of sign.OpenSquare (whole e) sign.CloseSquare a.at_ b.at_ b.first in
        let x : a.at_.taken ≡ suc r.taken = type_token width r a.at_ a.first in let y : i.from.taken ≡ suc a.at_.taken = i.low in let z : b.at_.taken ≡ suc i.to.taken = i.high in
        let w : suc i.from.taken ≤ i.to.taken = whole_strict (senses s) short e i.from i.to i.is in
        let v : t.taken ≡ suc b.at_.taken = next_token (is_sign sign.Semicolon) b.at_ t b.next in omega arith

    rooms_cost : (rs : List Room) (r t : Reading) → many (λ x. here x.token ⨾ room_form x.form) rs r ≡ Some t → r.taken + rooms_least rs ≤ t.taken
    rooms_cost [] r t is = let e : r.taken ≡ t.taken = ap taken_of is in omega arith
    rooms_cost (x ∷ rs) r t is =
        let m = middle ((here x.token ⨾ room_form x.form) r) (many (λ y. here y.token ⨾ room_form y.form) rs) t is in let a = middle (here x.token r) (room_form x.form) m.at_ m.first in
        let p : a.at_.taken ≡ r.taken = here_taken x.token r a.at_ a.first in let q : a.at_.taken + room_least x ≤ m.at_.taken = room_cost x.form x.token a.at_ m.at_ a.next in
        let h : m.at_.taken + rooms_least rs ≤ t.taken = rooms_cost rs m.at_ t m.next in
        let goal : r.taken + (room_least x + rooms_least rs) ≤ t.taken = omega arith in goal

    pub formal_cost : (f : Formal) (r t : Reading) → formal f r ≡ Some t → r.taken + (before_name (formal_info s f) + 1) ≤ t.taken
    formal_cost f r t is =
        let a = middle (modifiers f.modifiers r) (type_name f.width ⨾ ident f.name) t is in let b = middle (type_name f.width a.at_) (ident f.name) t a.next in
        let x : r.taken + modifier_tokens f.modifiers ≤ a.at_.taken = modifiers_cost f.modifiers r a.at_ a.first in let y : b.at_.taken ≡ suc a.at_.taken = type_token f.width a.at_ b.at_ b.first in
        let z : t.taken ≡ suc b.at_.taken = ident_token f.name b.at_ t b.next in
        let goal : r.taken + (kind_tokens (kind_in f.modifiers) + when (is_invariant f.modifiers) 1 + 1 + 1) ≤ t.taken = omega arith in goal

    -- a declaration, before others
    pub local_cost : (form : LocalForm) (vs : List VarInfo) (rs : List Room) (r t : Reading) → local_form form r ≡ Some t →
        r.taken + (local_tokens (local_infos s form ++ vs) + stack_least (rooms_of form ++ rs)) ≤ t.taken + (local_tokens vs + stack_least rs)
    local_cost (locals.Variables m width []) vs rs r t is =
        let a = middle (modifiers m r) (type_name width ⨾ listed ident [] ⨾ symbol sign.Semicolon) t is in let b = middle (type_name width a.at_) (listed ident [] ⨾ symbol sign.Semicolon) t a.next in
        let x : r.taken + modifier_tokens m ≤ a.at_.taken = modifiers_cost m r a.at_ a.first in let y : b.at_.taken ≡ suc a.at_.taken = type_token width a.at_ b.at_ b.first in
        let bad : None ≡ Some t = b.next in cc
    local_cost (locals.Variables m width (i ∷ is_)) vs rs r t is =
        let a = middle (modifiers m r) (type_name width ⨾ listed ident (i ∷ is_) ⨾ symbol sign.Semicolon) t is in
        let b = middle (type_name width a.at_) (listed ident (i ∷ is_) ⨾ symbol sign.Semicolon) t a.next in
        let d = middle (listed ident (i ∷ is_) b.at_) (symbol sign.Semicolon) t b.next in
        let v = variable_info s m width in
        let x : r.taken + modifier_tokens m ≤ a.at_.taken = modifiers_cost m r a.at_ a.first in let y : b.at_.taken ≡ suc a.at_.taken = type_token width a.at_ b.at_ b.first in
        let z : b.at_.taken + name_tokens (map (λ (j : Ident). j) (i ∷ is_)) ≤ d.at_.taken =
        listed_cost ident (λ (j : Ident). j) (λ _. 1) (λ j p q e. let h : q.taken ≡ suc p.taken = ident_token j p q e in omega arith) (i ∷ is_) b.at_ d.at_ d.first in
        let w : t.taken ≡ suc d.at_.taken = next_token (is_sign sign.Semicolon) d.at_ t d.next in
        let same : map (λ (j : Ident). j) is_ ≡ is_ = plain_map is_ in
        let n : sum_by (λ (j : Ident). 1) (i ∷ map (λ (j : Ident). j) is_) ≡ suc (length (map (λ (j : Ident). j) is_)) = ones (i ∷ map (λ (j : Ident). j) is_) in
        let l : length (map (λ (j : Ident). j) is_) ≡ length is_ = ap length same in
        let few : local_tokens (v ∷ (map (λ j. v) is_ ++ vs)) ≤ before_name v + 2 + (length is_ + length is_) + local_tokens vs = declared_few v is_ vs in
        let own : before_name v ≡ modifier_tokens m + 1 = refl in
        let goal : r.taken + (local_tokens (v ∷ (map (λ j. v) is_ ++ vs)) + stack_least rs) ≤ t.taken + (local_tokens vs + stack_least rs) = omega arith in goal
    local_cost (locals.Stackdata rooms_) vs rs r t is =
        let a = middle (keyword word.Stackdata r) (braces (many (λ x. here x.token ⨾ room_form x.form) rooms_)) t is in
        let i = enclosed_of sign.OpenBrace (many (λ x. here x.token ⨾ room_form x.form) rooms_) sign.CloseBrace a.at_ t a.next in
        let x : a.at_.taken ≡ suc r.taken = next_token (is_word word.Stackdata) r a.at_ a.first in let y : i.from.taken ≡ suc a.at_.taken = i.low in let z : t.taken ≡ suc i.to.taken = i.high in
        let h : i.from.taken + rooms_least rooms_ ≤ i.to.taken = rooms_cost rooms_ i.from i.to i.is in
        let k : stack_least (rooms_ ++ rs) ≤ 3 + rooms_least rooms_ + stack_least rs = stack_more rooms_ rs in
        let goal : r.taken + (local_tokens vs + stack_least (rooms_ ++ rs)) ≤ t.taken + (local_tokens vs + stack_least rs) = omega arith in goal
