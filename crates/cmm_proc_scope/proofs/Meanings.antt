-- What the names of a procedure mean, by their numbers.
use Rattle.std.proofs.Common.{◌≡◌, ℕ, List, refl, ap, ◌∙◌, Bool, true, false, IsTrue, Option, Some, None, option_map}
use Rattle.cmm_static_semantics.specs.Declarations.{Declared, Local, Variable, Room, Label, Continuation, found, is_declared, is_label, number_in}
use Rattle.cmm_static_semantics.specs.Scopes.{Scope, types, local_sense, senses}
use Rattle.cmm_proc_scope.specs.inside.Numbering.{number_of, sense_by}

sense_numbered : (s : Scope) (name : List ℕ) (l : Local) → sense_by (types s) (number_of name s.own l) l ≡ local_sense s name l
sense_numbered s name (Variable t) = refl
sense_numbered s name Room = refl
sense_numbered s name Label = refl
sense_numbered s name Continuation = refl

abbrev own_or : {A : Type 0} → (Local → Option A) → Option A → Option Local → Option A
own_or own outer found = elim found [ Some l ↦ own l | None ↦ outer ]

own_found : (s : Scope) (name : List ℕ) (o : Option Local) (l : Local) (n : ℕ) → Some l ≡ o → Some n ≡ option_map (number_of name s.own) o →
    Some (sense_by (types s) n l) ≡ own_or (λ k. Some (local_sense s name k)) (s.outer name) o
own_found s name None l n e f = cc
own_found s name (Some k) l n e f =
    let same : l ≡ k = cc in
    let number : n ≡ number_of name s.own k = cc in
    ap Some (ap (λ m. sense_by (types s) m l) number ∙ ap (sense_by (types s) (number_of name s.own k)) same ∙ sense_numbered s name k)

-- what a name of the procedure means, by its declaration and number
pub sense_own : (s : Scope) (name : List ℕ) (l : Local) (n : ℕ) → Some l ≡ found name s.own → Some n ≡ option_map (number_of name s.own) (found name s.own) →
    Some (sense_by (types s) n l) ≡ senses s name
sense_own s name l n e f = own_found s name (found name s.own) l n e f

-- ---- the numbers of labels

label_by : (name : List ℕ) (ds : List (Declared Local)) (o : Option Local) (l : Local) (n : ℕ) → Some l ≡ o → Some n ≡ option_map (number_of name ds) o →
    ◌≡◌ {A = Bool} (elim o [ Some a ↦ is_label a | None ↦ false ]) true → n ≡ number_in is_label name ds
label_by name ds None l n e f passes = cc
label_by name ds (Some Label) l n e f passes = cc
label_by name ds (Some (Variable t)) l n e f passes = cc
label_by name ds (Some Room) l n e f passes = cc
label_by name ds (Some Continuation) l n e f passes = cc

-- the number of a name of the procedure that is declared as a label
pub label_numbered : (name : List ℕ) (ds : List (Declared Local)) (l : Local) (n : ℕ) → Some l ≡ found name ds → Some n ≡ option_map (number_of name ds) (found name ds) →
    IsTrue (is_declared is_label name ds) → n ≡ number_in is_label name ds
label_numbered name ds l n local number passes = label_by name ds (found name ds) l n local number passes

none_declared : (o : Option Local) → None ≡ o → ◌≡◌ {A = Bool} (elim o [ Some a ↦ is_label a | None ↦ false ]) true → ⊥
none_declared None e passes = cc
none_declared (Some l) e passes = cc

-- what is not declared is no label
pub no_label : (name : List ℕ) (ds : List (Declared Local)) → None ≡ found name ds → IsTrue (is_declared is_label name ds) → ⊥
no_label name ds e passes = none_declared (found name ds) e passes
