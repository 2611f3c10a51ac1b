-- A line's words mean what spells them, and nothing else.
use Rattle.std.proofs.Common.{◌≡◌, ℕ, ◌≤◌, Bool, true, false, nat_lt, cond, List, [], ◌∷◌, length, Option, Some, None, refl, sym, ap, subst, ◌∙◌, arith}
use Rattle.std.proofs.lemmas.Bool.Decides.{nat_tests}
use Rattle.std.proofs.lemmas.Option.{same_Some}
use Rattle.std.specs.Prelude.{bytes_eq, codes}
use Rattle.std.specs.List.{find, AllZip}
use Rattle.std.specs.Cmp.Lexicographic.{same_text}
use Rattle.cmm_script.specs.declared.keyword.Keyword.{Keyword}
use Rattle.cmm_script.specs.declared.keyword.Keyword.TheVariants as keyword
use Rattle.cmm_script.specs.declared.line.Line.{Line}
use Rattle.cmm_script.specs.declared.line.Line.TheVariants.{Begins, Does}
use Rattle.cmm_script.specs.declared.script.Command.TheVariants.{List as ListAll, Youngest, Next, Desc, Seek, Var, Set, Poke, Return, Unwind, Cut, Stop}
use Rattle.cmm_script.specs.declared.script.Value.{Value}
use Rattle.cmm_script.specs.Words.{Word}
use Rattle.cmm_script.specs.Numbers.{number_of, index_of, value_of}
use Rattle.cmm_script.specs.inside.Keywords.{spelling_of, keywords, keyword_of}
use Rattle.cmm_script.specs.inside.Reading.{◌>>=◌, alone, one, two, three, each_value, values_of, exit_of, cut_of, line_as, line_of}
use Rattle.cmm_script.specs.Spelling.{AreValues, SpellsHead, SpellsCommand}

-- ---- steps of reading

-- a step of reading that has an answer
bind-some : {A B : Type 0} (o : Option A) (f : A → Option B) (y : B) → (o >>= f) ≡ Some y → (x : A) × (o ≡ Some x) × (f x ≡ Some y)
bind-some (Some x) f y e = (x, refl, e)
bind-some None f y e = absurd cc

found-passes : {X : Type 0} (p : X → Bool) (xs : List X) (x : X) → find p xs ≡ Some x → p x ≡ true
found-passes p [] x e = absurd cc
found-passes p (y ∷ ys) x e = by (found-passes p ys x) (p y) refl e
  where
    by : (find p ys ≡ Some x → p x ≡ true) → (b : Bool) → p y ≡ b → cond b (Some y) (find p ys) ≡ Some x → p x ≡ true
    by rest true t h = ap p (sym (same_Some y x h)) ∙ t
    by rest false t h = rest h

-- a word that is a keyword spells it
keyword-spelled : (w : Word) (k : Keyword) → keyword_of w ≡ Some k → w ≡ spelling_of k
keyword-spelled w k e = sym (same_text (spelling_of k) w (sym (found-passes (λ j. bytes_eq (spelling_of j) w) keywords k e)))

-- ---- operands

alone-is : (ws : List Word) (line l : Line) → alone ws line ≡ Some l → (ws ≡ []) × (line ≡ l)
alone-is [] line l e = (refl, same_Some line l e)
alone-is (w ∷ ws) line l e = absurd cc

one-is : (ws : List Word) (w : Word) → one ws ≡ Some w → ws ≡ w ∷ []
one-is [] w e = absurd cc
one-is (a ∷ []) w e = ap (λ (x : Word). x ∷ []) (same_Some a w e)
one-is (a ∷ b ∷ ws) w e = absurd cc

two-is : (ws : List Word) (w : Word × Word) → two ws ≡ Some w → ws ≡ w.0 ∷ w.1 ∷ []
two-is [] w e = absurd cc
two-is (a ∷ []) w e = absurd cc
two-is (a ∷ b ∷ []) w e = ap (λ (x : Word × Word). x.0 ∷ x.1 ∷ []) (same_Some (a, b) w e)
two-is (a ∷ b ∷ c ∷ ws) w e = absurd cc

three-is : (ws : List Word) (w : Word × Word × Word) → three ws ≡ Some w → ws ≡ w.0 ∷ w.1 ∷ w.2 ∷ []
three-is [] w e = absurd cc
three-is (a ∷ []) w e = absurd cc
three-is (a ∷ b ∷ []) w e = absurd cc
three-is (a ∷ b ∷ c ∷ []) w e = ap (λ (x : Word × Word × Word). x.0 ∷ x.1 ∷ x.2 ∷ []) (same_Some (a, b, c) w e)
three-is (a ∷ b ∷ c ∷ d ∷ ws) w e = absurd cc

-- one operand that is read, and the line that it makes
read-one : {A : Type 0} (ws : List Word) (f : Word → Option A) (made : A → Line) (l : Line) → (one ws >>= λ w. f w >>= λ a. Some (made a)) ≡ Some l → (w : Word) × (a : A) × (ws ≡ w ∷ []) × (f w ≡ Some a) × (made a ≡ l)
read-one ws f made l e =
    let p = bind-some (one ws) (λ w. f w >>= λ a. Some (made a)) l e in
    let q = bind-some (f p.0) (λ a. Some (made a)) l p.2 in
    (p.0, q.0, one-is ws p.0 p.1, q.1, same_Some (made q.0) l q.2)

read-two : {A B : Type 0} (ws : List Word) (f : Word → Option A) (g : Word → Option B) (made : A → B → Line) (l : Line) → (two ws >>= λ w. f w.0 >>= λ a. g w.1 >>= λ b. Some (made a b)) ≡ Some l
    → (w : Word × Word) × (a : A) × (b : B) × (ws ≡ w.0 ∷ w.1 ∷ []) × (f w.0 ≡ Some a) × (g w.1 ≡ Some b) × (made a b ≡ l)
read-two ws f g made l e =
    let p = bind-some (two ws) (λ w. f w.0 >>= λ a. g w.1 >>= λ b. Some (made a b)) l e in
    let q = bind-some (f p.0.0) (λ a. g p.0.1 >>= λ b. Some (made a b)) l p.2 in
    let r = bind-some (g p.0.1) (λ b. Some (made q.0 b)) l q.2 in
    (p.0, q.0, r.0, two-is ws p.0 p.1, q.1, r.1, same_Some (made q.0 r.0) l r.2)

read-poke : (ws : List Word) (l : Line) → (three ws >>= λ w. number_of w.1 >>= λ o. value_of w.2 >>= λ v. Some (Does (Poke w.0 o v))) ≡ Some l
    → (w : Word × Word × Word) × (o : ℕ) × (v : Value) × (ws ≡ w.0 ∷ w.1 ∷ w.2 ∷ []) × (number_of w.1 ≡ Some o) × (value_of w.2 ≡ Some v) × (Does (Poke w.0 o v) ≡ l)
read-poke ws l e =
    let p = bind-some (three ws) (λ w. number_of w.1 >>= λ o. value_of w.2 >>= λ v. Some (Does (Poke w.0 o v))) l e in
    let q = bind-some (number_of p.0.1) (λ o. value_of p.0.2 >>= λ v. Some (Does (Poke p.0.0 o v))) l p.2 in
    let r = bind-some (value_of p.0.2) (λ v. Some (Does (Poke p.0.0 q.0 v))) l q.2 in
    (p.0, q.0, r.0, three-is ws p.0 p.1, q.1, r.1, same_Some (Does (Poke p.0.0 q.0 r.0)) l r.2)

-- ---- values

each-spelled : (ws : List Word) (vs : List Value) → each_value ws ≡ Some vs → AllZip (λ w v. value_of w ≡ Some v) ws vs × (length ws ≡ length vs)
each-spelled [] [] e = (tt, refl)
each-spelled [] (v ∷ vs) e = absurd cc
each-spelled (w ∷ ws) vs e =
    let p = bind-some (value_of w) (λ v. each_value ws >>= λ more. Some (v ∷ more)) vs e in
    let q = bind-some (each_value ws) (λ more. Some (p.0 ∷ more)) vs p.2 in
    let rest = each-spelled ws q.0 q.1 in
    subst (λ (all : List Value). AllZip (λ w v. value_of w ≡ Some v) (w ∷ ws) all × (length (w ∷ ws) ≡ length all)) (same_Some (p.0 ∷ q.0) vs q.2) ((p.1, rest.0), omega (arith, rest.1))

each-read : (ws : List Word) (vs : List Value) → AllZip (λ w v. value_of w ≡ Some v) ws vs → (each_value ws ≡ Some vs) × (length ws ≡ length vs)
each-read [] [] h = (refl, refl)
each-read [] (v ∷ vs) h = absurd h
each-read (w ∷ ws) [] h = absurd h
each-read (w ∷ ws) (v ∷ vs) (first, h) = let rest = each-read ws vs h in (rw (first, rest.0) refl, omega (arith, rest.1))

-- what is read as values are values
values-spelled : (ws : List Word) (vs : List Value) → values_of ws ≡ Some vs → AreValues ws vs
unfolding values_of
values-spelled ws vs e = by (nat_lt 64 (length ws)) refl e
  where
    few : nat_lt 64 (length ws) ≡ false → length ws ≤ 64
    few t = grind (arith, nat_tests)

    by : (b : Bool) → nat_lt 64 (length ws) ≡ b → elim b [ true ↦ None | false ↦ each_value ws ] ≡ Some vs → AreValues ws vs
    by true t h = absurd cc
    by false t h = let all = each-spelled ws vs h in record { each = all.0; few = omega (arith, all.1, few t) }

-- values are read
values-read : (ws : List Word) (vs : List Value) → AreValues ws vs → values_of ws ≡ Some vs
unfolding values_of
values-read ws vs h =
    let all = each-read ws vs h.each in
    let few : nat_lt 64 (length ws) ≡ false = by (omega (arith, all.1, h.few)) in
    rw (values_of, few) all.0
  where
    by : length ws ≤ 64 → nat_lt 64 (length ws) ≡ false
    by le = grind (arith, nat_tests)

exit-spelled : (ws : List Word) (x : ℕ × List Value) → exit_of ws ≡ Some x → (w : Word) × (more : List Word) × (ws ≡ w ∷ more) × (index_of w ≡ Some x.0) × AreValues more x.1
unfolding exit_of
exit-spelled [] x e = absurd cc
exit-spelled (w ∷ ws) x e =
    let p = bind-some (index_of w) (λ n. values_of ws >>= λ vs. Some (n, vs)) x e in
    let q = bind-some (values_of ws) (λ vs. Some (p.0, vs)) x p.2 in
    let made : ℕ × List Value = (p.0, q.0) in
    subst (λ (y : ℕ × List Value). (v : Word) × (more : List Word) × (w ∷ ws ≡ v ∷ more) × (index_of v ≡ Some y.0) × AreValues more y.1) (same_Some made x q.2) (w, ws, refl, p.1, values-spelled ws q.0 q.1)

cut-spelled : (ws : List Word) (x : Value × List Value) → cut_of ws ≡ Some x → (w : Word) × (more : List Word) × (ws ≡ w ∷ more) × (value_of w ≡ Some x.0) × AreValues more x.1
unfolding cut_of
cut-spelled [] x e = absurd cc
cut-spelled (w ∷ ws) x e =
    let p = bind-some (value_of w) (λ v. values_of ws >>= λ vs. Some (v, vs)) x e in
    let q = bind-some (values_of ws) (λ vs. Some (p.0, vs)) x p.2 in
    let made : Value × List Value = (p.0, q.0) in
    subst (λ (y : Value × List Value). (v : Word) × (more : List Word) × (w ∷ ws ≡ v ∷ more) × (value_of v ≡ Some y.0) × AreValues more y.1) (same_Some made x q.2) (w, ws, refl, p.1, values-spelled ws q.0 q.1)

-- ---- lines

-- the words of a line that says this
abbrev pub Spells : List Word → Line → Type 0
Spells ws (Begins code) = SpellsHead ws code
Spells ws (Does c) = SpellsCommand ws c

-- what is spelled is read
pub line-read : (ws : List Word) (l : Line) → Spells ws l → line_of ws ≡ Some l
unfolding line_of line_as keywords exit_of cut_of
line-read ws (Begins (Some code)) (T, e, h) = rw (e, h) refl
line-read ws (Begins None) e = rw e refl
line-read ws (Does ListAll) e = rw e refl
line-read ws (Does Youngest) e = rw e refl
line-read ws (Does Next) e = rw e refl
line-read ws (Does (Desc t)) (T, e, h) = rw (e, h) refl
line-read ws (Does (Seek t v)) (T, V, e, h, k) = rw (e, h, k) refl
line-read ws (Does (Var n)) (N, e, h) = rw (e, h) refl
line-read ws (Does (Set n v)) (N, V, e, h, k) = rw (e, h, k) refl
line-read ws (Does (Poke l o v)) (O, V, e, h, k) = rw (e, h, k) refl
line-read ws (Does (Return i vs)) (I, Vs, e, h, k) = rw (e, h, values-read Vs vs k) refl
line-read ws (Does (Unwind i vs)) (I, Vs, e, h, k) = rw (e, h, values-read Vs vs k) refl
line-read ws (Does (Cut v vs)) (V, Vs, e, h, k) = rw (e, h, values-read Vs vs k) refl
line-read ws (Does Stop) e = rw e refl

-- a keyword that stands alone
alone-spelled : (k : Keyword) (ws : List Word) (line l : Line) → Spells (spelling_of k ∷ []) line → alone ws line ≡ Some l → Spells (spelling_of k ∷ ws) l
alone-spelled k ws line l h e =
    let p = alone-is ws line l e in
    subst (λ (x : Line). Spells (spelling_of k ∷ ws) x) p.1 (rw p.0 h)

-- what is read after a keyword is spelled
as-spelled : (k : Keyword) (ws : List Word) (l : Line) → line_as k ws ≡ Some l → Spells (spelling_of k ∷ ws) l
unfolding line_as
as-spelled keyword.At ws l e =
    let p = read-one ws number_of (λ code. Begins (Some code)) l e in
    subst (λ (x : Line). Spells (codes "at" ∷ ws) x) p.4 (p.0, ap (λ (r : List Word). codes "at" ∷ r) p.2, p.3)
as-spelled keyword.Other ws l e = alone-spelled keyword.Other ws (Begins None) l refl e
as-spelled keyword.List ws l e = alone-spelled keyword.List ws (Does ListAll) l refl e
as-spelled keyword.Youngest ws l e = alone-spelled keyword.Youngest ws (Does Youngest) l refl e
as-spelled keyword.Next ws l e = alone-spelled keyword.Next ws (Does Next) l refl e
as-spelled keyword.Desc ws l e =
    let p = read-one ws number_of (λ t. Does (Desc t)) l e in
    subst (λ (x : Line). Spells (codes "desc" ∷ ws) x) p.4 (p.0, ap (λ (r : List Word). codes "desc" ∷ r) p.2, p.3)
as-spelled keyword.Seek ws l e =
    let p = read-two ws number_of value_of (λ t v. Does (Seek t v)) l e in
    subst (λ (x : Line). Spells (codes "seek" ∷ ws) x) p.6 (p.0.0, p.0.1, ap (λ (r : List Word). codes "seek" ∷ r) p.3, p.4, p.5)
as-spelled keyword.Var ws l e =
    let p = read-one ws index_of (λ n. Does (Var n)) l e in
    subst (λ (x : Line). Spells (codes "var" ∷ ws) x) p.4 (p.0, ap (λ (r : List Word). codes "var" ∷ r) p.2, p.3)
as-spelled keyword.Set ws l e =
    let p = read-two ws index_of value_of (λ n v. Does (Set n v)) l e in
    subst (λ (x : Line). Spells (codes "set" ∷ ws) x) p.6 (p.0.0, p.0.1, ap (λ (r : List Word). codes "set" ∷ r) p.3, p.4, p.5)
as-spelled keyword.Poke ws l e =
    let p = read-poke ws l e in
    subst (λ (x : Line). Spells (codes "poke" ∷ ws) x) p.6 (p.0.1, p.0.2, ap (λ (r : List Word). codes "poke" ∷ r) p.3, p.4, p.5)
as-spelled keyword.Return ws l e =
    let p = bind-some (exit_of ws) (λ x. Some (Does (Return x.0 x.1))) l e in
    let q = exit-spelled ws p.0 p.1 in
    subst (λ (x : Line). Spells (codes "return" ∷ ws) x) (same_Some (Does (Return p.0.0 p.0.1)) l p.2) (q.0, q.1, ap (λ (s : List Word). codes "return" ∷ s) q.2, q.3, q.4)
as-spelled keyword.Unwind ws l e =
    let p = bind-some (exit_of ws) (λ x. Some (Does (Unwind x.0 x.1))) l e in
    let q = exit-spelled ws p.0 p.1 in
    subst (λ (x : Line). Spells (codes "unwind" ∷ ws) x) (same_Some (Does (Unwind p.0.0 p.0.1)) l p.2) (q.0, q.1, ap (λ (s : List Word). codes "unwind" ∷ s) q.2, q.3, q.4)
as-spelled keyword.Cut ws l e =
    let p = bind-some (cut_of ws) (λ x. Some (Does (Cut x.0 x.1))) l e in
    let q = cut-spelled ws p.0 p.1 in
    subst (λ (x : Line). Spells (codes "cut" ∷ ws) x) (same_Some (Does (Cut p.0.0 p.0.1)) l p.2) (q.0, q.1, ap (λ (s : List Word). codes "cut" ∷ s) q.2, q.3, q.4)
as-spelled keyword.Stop ws l e = alone-spelled keyword.Stop ws (Does Stop) l refl e

-- what is read is spelled
pub line-spelled : (ws : List Word) (l : Line) → line_of ws ≡ Some l → Spells ws l
unfolding line_of
line-spelled [] l e = absurd cc
line-spelled (w ∷ ws) l e =
    let p = bind-some (keyword_of w) (λ k. line_as k ws) l e in
    rw (keyword-spelled w p.0 p.1) (as-spelled p.0 ws l p.2)
