-- Which places moves read and write.
use Rattle.std.proofs.Common.{◌≡◌, ◌≢◌, ◌<◌, ℕ, suc, ◌==◌, not, Bool, true, false, List, [], ◌∷◌, ◌++◌, length, get_or, take, drop, sym, ap, ◌∙◌}
use Rattle.std.proofs.Math.Seq.{split_at}
use Rattle.std.specs.List.{list_any, remove}
use Rattle.std.proofs.lemmas.List.{get_or_default}
use Rattle.std.proofs.lemmas.List.Folds.{list_any-append}
use Rattle.std.proofs.lemmas.Bool.{or_from, or_parts, and_parts, and_from, not-true, not_from_false, eqb-false, ne_eqb}
use Rattle.cmm_moves.specs.declared.sequencing.Move.{Move}
use Rattle.cmm_moves.specs.Moves.{is_target, are_apart}
use Rattle.cmm_moves.specs.inside.Pending.{IsTaken, reads_at}

-- ---- numbers that differ

pub differ : (a b : ℕ) → a ≢ b → (a == b) ≡ false
differ a b other = ne_eqb a b other

pub differ_both : (a b : ℕ) → (a == b) ≡ false → (b == a) ≡ false
differ_both a b isnt = ne_eqb b a (λ e. eqb-false a b isnt (sym e))

-- ---- what no move of two lists mentions is mentioned by none of either

pub none_of : (p : Move → Bool) (as_ bs : List Move) → list_any p (as_ ++ bs) ≡ false → (list_any p as_ ≡ false) × (list_any p bs ≡ false)
none_of p as_ bs none = or_parts (list_any p as_) (list_any p bs) (sym (list_any-append p as_ bs) ∙ none)

pub none_in : (p : Move → Bool) (as_ bs : List Move) → list_any p as_ ≡ false → list_any p bs ≡ false → list_any p (as_ ++ bs) ≡ false
none_in p as_ bs none more = list_any-append p as_ bs ∙ or_from (list_any p as_) (list_any p bs) none more

-- a move between them
pub none_between : (p : Move → Bool) (as_ bs : List Move) (m : Move) → list_any p (as_ ++ m ∷ bs) ≡ false → (p m ≡ false) × (list_any p (as_ ++ bs) ≡ false)
none_between p as_ bs m none =
    let parts : (list_any p as_ ≡ false) × (list_any p (m ∷ bs) ≡ false) = none_of p as_ (m ∷ bs) none in
    let rest : (p m ≡ false) × (list_any p bs ≡ false) = or_parts (p m) (list_any p bs) parts.1 in
    (rest.0, none_in p as_ bs parts.0 rest.1)

pub none_with : (p : Move → Bool) (as_ bs : List Move) (m : Move) → p m ≡ false → list_any p (as_ ++ bs) ≡ false → list_any p (as_ ++ m ∷ bs) ≡ false
none_with p as_ bs m isnt none =
    let parts : (list_any p as_ ≡ false) × (list_any p bs ≡ false) = none_of p as_ bs none in
    none_in p as_ (m ∷ bs) parts.0 (or_from (p m) (list_any p bs) isnt parts.1)

-- ---- targets that differ

apart_parts : (m : Move) (ms : List Move) → are_apart (m ∷ ms) ≡ true → (is_target m.to ms ≡ false) × (are_apart ms ≡ true)
apart_parts m ms apart =
    let parts : (not (is_target m.to ms) ≡ true) × (are_apart ms ≡ true) = and_parts (not (is_target m.to ms)) (are_apart ms) apart in
    (not-true (is_target m.to ms) parts.0, parts.1)

apart_with : (m : Move) (ms : List Move) → is_target m.to ms ≡ false → are_apart ms ≡ true → are_apart (m ∷ ms) ≡ true
apart_with m ms isnt apart = and_from (not (is_target m.to ms)) (are_apart ms) (not_from_false (is_target m.to ms) isnt) apart

-- a move is taken out
pub apart_out : (as_ bs : List Move) (m : Move) → are_apart (as_ ++ m ∷ bs) ≡ true → (is_target m.to (as_ ++ bs) ≡ false) × (are_apart (as_ ++ bs) ≡ true)
apart_out [] bs m apart = apart_parts m bs apart
apart_out (a ∷ as_) bs m apart =
    let first : (is_target a.to (as_ ++ m ∷ bs) ≡ false) × (are_apart (as_ ++ m ∷ bs) ≡ true) = apart_parts a (as_ ++ m ∷ bs) apart in
    let rest : (is_target m.to (as_ ++ bs) ≡ false) × (are_apart (as_ ++ bs) ≡ true) = apart_out as_ bs m first.1 in
    let other : ((a.to == m.to) ≡ false) × (is_target a.to (as_ ++ bs) ≡ false) = none_between (λ n. a.to == n.to) as_ bs m first.0 in
    (or_from (m.to == a.to) (is_target m.to (as_ ++ bs)) (differ_both a.to m.to other.0) rest.0, apart_with a (as_ ++ bs) other.1 rest.1)

-- a move is put in
pub apart_in : (as_ bs : List Move) (m : Move) → is_target m.to (as_ ++ bs) ≡ false → are_apart (as_ ++ bs) ≡ true → are_apart (as_ ++ m ∷ bs) ≡ true
apart_in [] bs m isnt apart = apart_with m bs isnt apart
apart_in (a ∷ as_) bs m isnt apart =
    let first : (is_target a.to (as_ ++ bs) ≡ false) × (are_apart (as_ ++ bs) ≡ true) = apart_parts a (as_ ++ bs) apart in
    let other : ((m.to == a.to) ≡ false) × (is_target m.to (as_ ++ bs) ≡ false) = or_parts (m.to == a.to) (is_target m.to (as_ ++ bs)) isnt in
    apart_with a (as_ ++ m ∷ bs) (none_with (λ n. a.to == n.to) as_ bs m (differ_both m.to a.to other.0) first.0) (apart_in as_ bs m other.1 first.1)

-- ---- a move that is taken out

pub taken_at : (old new : List Move) (index place : ℕ) (m : Move) → index < length old → reads_at old index ≡ place → m ≡ get_or old index m → new ≡ remove old index → IsTaken place old m new
taken_at old new index place m within reads m_is new_is = record {
  before = take index old;
  after = drop (suc index) old;
  old_is = split_at old index m within ∙ ap (λ n. take index old ++ n ∷ drop (suc index) old) (sym m_is);
  new_is = new_is;
  reads = ap (λ n. n.from) (m_is ∙ get_or_default old index m (record { to = 0; from = 0 }) within) ∙ reads;
}
