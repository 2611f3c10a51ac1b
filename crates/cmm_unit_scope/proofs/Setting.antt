-- What declarations mean in a list, set constant by constant along the order.
use Rattle.std.proofs.Common.{◌≡◌, ℕ, zero, suc, ◌+◌, ◌^◌, ◌<◌, Bool, true, false, List, [], ◌∷◌, length, map, get_or, take, set, Option, Some, None, option_map, refl, sym, ◌∙◌, ap, subst, arith}
use Rattle.std.specs.Prelude.{option_and_then, slice_get}
use Rattle.std.specs.List.{All}
use Rattle.std.proofs.Math.Path.{fun_ext}
use Rattle.std.proofs.lemmas.Bool.{lt-ltb, ltb-true}
use Rattle.std.proofs.lemmas.List.Elements.{All-set}
use Rattle.cmm_words.specs.declared.width.Width.{Width}
use Rattle.cmm_words.specs.Widths.{bits}
use Rattle.cmm_words.specs.declared.constant.Constant.{Constant}
use Rattle.cmm_words.specs.declared.constant.Constant.TheVariants as constants
use Rattle.cmm_ast.specs.declared.expression.Expr.{Expr}
use Rattle.cmm_ast.specs.declared.expression.TypeName.{TypeName}
use Rattle.cmm_static_semantics.specs.declared.sense.Host.{Host}
use Rattle.cmm_static_semantics.specs.declared.sense.Sense.{Sense}
use Rattle.cmm_static_semantics.specs.declared.sense.Sense.TheVariants as meanings
use Rattle.cmm_static_semantics.specs.Senses.{Senses, host_named}
use Rattle.cmm_static_semantics.specs.Algebras.{knowns}
use Rattle.cmm_static_semantics.specs.Typing.{wanted}
use Rattle.cmm_static_semantics.specs.Declarations.{Declared, Entry, Typedef, Const, Register, Import, DataLabel, Procedure, found}
use Rattle.cmm_static_semantics.specs.Scopes.{entry_sense, untyped_sense, typed_sense, unit_senses}
use Rattle.cmm_static_semantics.specs.Linking.{Program}
use Rattle.cmm_typing.specs.Fitting.{FitsSense, AreWords}
use Rattle.cmm_symbols.specs.Numbering.{numbering}
use Rattle.cmm_unit_scope.specs.declared.types.Types.{Types}
use Rattle.cmm_digraph.proofs.Shared.{AreSet, set_next, set_all, below_index}
use Rattle.cmm_elaboration.proofs.Shared.{SenseFits, IsKnownBy, untyped_is_word, typed_is_word}
use Rattle.cmm_unit_scope.specs.Senses.{senses_by, AreTypes}
use Rattle.cmm_unit_scope.specs.inside.Evaluating.{declared_at, first_sense, sense_after, width_by, IsOrder, AreCyclic}
use Rattle.cmm_unit_scope.proofs.Outcomes.{Outcome, nothing, sense_of, outcome_of, entry_outcome, declared_sense, number_sense, senses_at, of_declared, after, next, or_host, same_some, untyped_exact, typed_exact, names_in, value_in}
use Rattle.cmm_unit_scope.proofs.Order.{nodes_below, local, fixed, left_nothing}

-- what constants come to, of the senses of declarations
abbrev pub outcomes : List (Declared Entry) → List Sense → List Outcome
outcomes [] ss = []
outcomes (d ∷ ds) [] = nothing ∷ outcomes ds []
outcomes (d ∷ ds) (s ∷ ss) = entry_outcome d.as_what s ∷ outcomes ds ss

abbrev pub outcome_at : List (Declared Entry) → List Sense → ℕ → Outcome
outcome_at ds ss v = get_or (outcomes ds ss) v nothing

module _ (program : Program) (ds : List (Declared Entry)) where
  -- each means what it is declared as, with what a constant comes to
  abbrev pub AreMeant : List (Declared Entry) → List Sense → Type 0
  AreMeant [] [] = Unit {0}
  AreMeant [] (s ∷ ss) = ⊥
  AreMeant (d ∷ rest) [] = ⊥
  AreMeant (d ∷ rest) (s ∷ ss) = (s ≡ declared_sense program ds (entry_outcome d.as_what s) d) × AreMeant rest ss

  pub meant_size : (rest : List (Declared Entry)) (ss : List Sense) → AreMeant rest ss → length ss ≡ length rest
  meant_size [] [] h = refl
  meant_size [] (s ∷ ss) h = absurd h
  meant_size (d ∷ rest) [] h = absurd h
  meant_size (d ∷ rest) (s ∷ ss) h = ap suc (meant_size rest ss h.1)

  meant_at : (rest : List (Declared Entry)) (ss : List Sense) (j : ℕ) → AreMeant rest ss → slice_get ss j ≡ option_map (declared_sense program ds (outcome_at rest ss j)) (declared_at rest j)
  meant_at [] [] j h = refl
  meant_at [] (s ∷ ss) j h = absurd h
  meant_at (d ∷ rest) [] j h = absurd h
  meant_at (d ∷ rest) (s ∷ ss) zero h = ap (λ (x : Sense). Some x) h.0
  meant_at (d ∷ rest) (s ∷ ss) (suc j) h = meant_at rest ss j h.1

  pub meant_set : (rest : List (Declared Entry)) (ss : List Sense) (j : ℕ) (d : Declared Entry) (s : Sense) → declared_at rest j ≡ Some d → s ≡ declared_sense program ds (entry_outcome d.as_what s) d →
      AreMeant rest ss → AreMeant rest (set ss j s)
  meant_set [] [] j d s at_ is h = tt
  meant_set [] (x ∷ ss) j d s at_ is h = absurd h
  meant_set (x ∷ rest) [] j d s at_ is h = absurd h
  meant_set (x ∷ rest) (y ∷ ss) zero d s at_ is h =
      let same : d ≡ x = cc in
      (subst (λ (e : Declared Entry). s ≡ declared_sense program ds (entry_outcome e.as_what s) e) same is, h.1)
  meant_set (x ∷ rest) (y ∷ ss) (suc j) d s at_ is h = (h.0, meant_set rest ss j d s at_ is h.1)

  pub outcomes_set : (rest : List (Declared Entry)) (ss : List Sense) (j : ℕ) (d : Declared Entry) (s : Sense) → declared_at rest j ≡ Some d → AreMeant rest ss →
      outcomes rest (set ss j s) ≡ set (outcomes rest ss) j (entry_outcome d.as_what s)
  outcomes_set [] [] j d s at_ h = refl
  outcomes_set [] (x ∷ ss) j d s at_ h = absurd h
  outcomes_set (x ∷ rest) [] j d s at_ h = absurd h
  outcomes_set (x ∷ rest) (y ∷ ss) zero d s at_ h = let same : x ≡ d = cc in ap (λ (e : Declared Entry). entry_outcome e.as_what s ∷ outcomes rest ss) same
  outcomes_set (x ∷ rest) (y ∷ ss) (suc j) d s at_ h = ap (λ t. entry_outcome x.as_what y ∷ t) (outcomes_set rest ss j d s at_ h.1)

  -- ---- as it begins

  entry_first : (name : List ℕ) (e : Entry) → entry_sense program ds (λ t x. meanings.Broken None) name e
      ≡ entry_sense program ds (λ t x. sense_of (entry_outcome e (entry_sense program ds (λ t' x'. meanings.Broken None) name e))) name e
  entry_first name (Const t e) = refl
  entry_first name (Typedef t) = refl
  entry_first name (Register t) = refl
  entry_first name (Import link) = refl
  entry_first name (DataLabel n) = refl
  entry_first name (Procedure n p) = refl

  pub first_meant : (rest : List (Declared Entry)) → AreMeant rest (map (first_sense program ds) rest)
  first_meant [] = tt
  first_meant (d ∷ rest) = (entry_first d.name.name d.as_what, first_meant rest)

  entry_none : (name : List ℕ) (e : Entry) → entry_outcome e (entry_sense program ds (λ t x. meanings.Broken None) name e) ≡ nothing
  entry_none name (Const t e) = refl
  entry_none name (Typedef t) = refl
  entry_none name (Register t) = refl
  entry_none name (Import link) = refl
  entry_none name (DataLabel n) = refl
  entry_none name (Procedure n p) = refl

  first_none : (rest : List (Declared Entry)) (v : ℕ) → outcome_at rest (map (first_sense program ds) rest) v ≡ nothing
  first_none [] v = refl
  first_none (d ∷ rest) zero = entry_none d.name.name d.as_what
  first_none (d ∷ rest) (suc v) = first_none rest v

  pub first_set : (final : ℕ → Outcome) (ss : List Sense) → ss ≡ map (first_sense program ds) ds → AreSet final nothing [] (outcomes ds ss)
  first_set final ss is = record { done = λ v h. cc; others = λ v h. ap (λ (q : List Sense). outcome_at ds q v) is ∙ first_none ds v }

  pub first_are_meant : (ss : List Sense) → ss ≡ map (first_sense program ds) ds → AreMeant ds ss
  first_are_meant ss is = subst (λ (q : List Sense). AreMeant ds q) (sym is) (first_meant ds)

  -- ---- names

  by_number : (ss : List Sense) (o : Option ℕ) → AreMeant ds ss → option_and_then (slice_get ss) o ≡ option_and_then (number_sense program ds (outcome_at ds ss)) o
  by_number ss None h = refl
  by_number ss (Some j) h = meant_at ds ss j h

  pub unit_names : (ss : List Sense) → AreMeant ds ss → (name : List ℕ) → senses_by ds ss name ≡ senses_at program ds (outcome_at ds ss) name
  unit_names ss h name = ap (or_host (host_named name)) (by_number ss (found name (numbering ds)) h)

  -- ---- a step

  entry_any : (names : Senses) (width : TypeName → Option Width) (cyclic : Bool) (s t : Sense) (e : Entry) → entry_outcome e (sense_after names width cyclic s e) ≡ entry_outcome e (sense_after names width cyclic t e)
  entry_any names width cyclic s t (Const None e) = refl
  entry_any names width cyclic s t (Const (Some u) e) = refl
  entry_any names width cyclic s t (Typedef u) = refl
  entry_any names width cyclic s t (Register u) = refl
  entry_any names width cyclic s t (Import link) = refl
  entry_any names width cyclic s t (DataLabel n) = refl
  entry_any names width cyclic s t (Procedure n p) = refl

  before_is : (ss : List Sense) (j : ℕ) (d : Declared Entry) (s : Sense) → AreMeant ds ss → declared_at ds j ≡ Some d → slice_get ss j ≡ Some s → s ≡ declared_sense program ds (outcome_at ds ss j) d
  before_is ss j d s h at_ got = same_some s _ (sym got ∙ meant_at ds ss j h ∙ ap (option_map (declared_sense program ds (outcome_at ds ss j))) at_)

  typed_meant : (names : Senses) (width : Option Width) (cyclic : Bool) (e : Expr) →
      ◌≡◌ {A = Sense} (elim cyclic as (λ _. Sense) [ true ↦ meanings.Broken width | false ↦ typed_sense names e width ])
      (sense_of (outcome_of (elim cyclic as (λ _. Sense) [ true ↦ meanings.Broken width | false ↦ typed_sense names e width ])))
  typed_meant names width true e = refl
  typed_meant names width false e = sym (typed_exact names e width)

  after_meant : (names : Senses) (width : TypeName → Option Width) (cyclic : Bool) (o : Outcome) (s : Sense) (name : List ℕ) (e : Entry) → s ≡ entry_sense program ds (λ t x. sense_of o) name e →
      sense_after names width cyclic s e ≡ entry_sense program ds (λ t x. sense_of (entry_outcome e (sense_after names width cyclic s e))) name e
  after_meant names width cyclic o s name (Const None e) is = sym (untyped_exact e.token (wanted knowns names None e))
  after_meant names width cyclic o s name (Const (Some t) e) is = typed_meant names (width t) cyclic e
  after_meant names width cyclic o s name (Typedef t) is = is
  after_meant names width cyclic o s name (Register t) is = is
  after_meant names width cyclic o s name (Import link) is = is
  after_meant names width cyclic o s name (DataLabel n) is = is
  after_meant names width cyclic o s name (Procedure n p) is = is

-- ---- words

abbrev Anywhere : Width → Constant → Type 0
Anywhere w c = Unit {0}

to_known : (s : Option Sense) → FitsSense s → SenseFits knowns (IsKnownBy Anywhere) s
to_known (Some (meanings.Value (constants.Number value width))) h = lt-ltb value (2 ^ bits width) h
to_known (Some (meanings.Value (constants.Code proc plus))) h = tt
to_known (Some (meanings.Value (constants.Address label plus))) h = tt
to_known (Some (meanings.Variable n (Some w))) h = tt
to_known (Some (meanings.Variable n None)) h = tt
to_known (Some (meanings.Register n (Some w))) h = tt
to_known (Some (meanings.Register n None)) h = tt
to_known (Some (meanings.Broken w)) h = tt
to_known (Some (meanings.Stackdata n)) h = tt
to_known (Some (meanings.Continuation n)) h = tt
to_known (Some (meanings.Typedef w)) h = tt
to_known (Some meanings.CodeLabel) h = tt
to_known (Some (meanings.Host x)) h = tt
to_known None h = tt

from_known : (s : Option Sense) → SenseFits knowns (IsKnownBy Anywhere) s → FitsSense s
from_known (Some (meanings.Value (constants.Number value width))) h = ltb-true value (2 ^ bits width) h
from_known (Some (meanings.Value (constants.Code proc plus))) h = tt
from_known (Some (meanings.Value (constants.Address label plus))) h = tt
from_known (Some (meanings.Variable n w)) h = tt
from_known (Some (meanings.Register n w)) h = tt
from_known (Some (meanings.Broken w)) h = tt
from_known (Some (meanings.Stackdata n)) h = tt
from_known (Some (meanings.Continuation n)) h = tt
from_known (Some (meanings.Typedef w)) h = tt
from_known (Some meanings.CodeLabel) h = tt
from_known (Some (meanings.Host x)) h = tt
from_known None h = tt

module _ (names : Senses) (words : AreWords names) where
  known_names : (name : List ℕ) → SenseFits knowns (IsKnownBy Anywhere) (names name)
  known_names name = to_known (names name) (words name)

  typed_fits : (width : Option Width) (cyclic : Bool) (e : Expr) → FitsSense (Some (elim cyclic as (λ _. Sense) [ true ↦ meanings.Broken width | false ↦ typed_sense names e width ]))
  typed_fits width true e = tt
  typed_fits width false e = from_known (Some (typed_sense names e width)) (typed_is_word Anywhere (λ w c more h. h) names known_names e width)

  after_fits : (width : TypeName → Option Width) (cyclic : Bool) (s : Sense) (e : Entry) → FitsSense (Some s) → FitsSense (Some (sense_after names width cyclic s e))
  after_fits width cyclic s (Const None e) h = from_known (Some (untyped_sense e.token (wanted knowns names None e))) (untyped_is_word Anywhere (λ w c more k. k) names known_names e)
  after_fits width cyclic s (Const (Some t) e) h = typed_fits (width t) cyclic e
  after_fits width cyclic s (Typedef t) h = h
  after_fits width cyclic s (Register t) h = h
  after_fits width cyclic s (Import link) h = h
  after_fits width cyclic s (DataLabel n) h = h
  after_fits width cyclic s (Procedure n p) h = h

fits_at : (ss : List Sense) (j : ℕ) → All (λ s. FitsSense (Some s)) ss → FitsSense (slice_get ss j)
fits_at [] j h = tt
fits_at (s ∷ ss) zero h = h 0 s (omega arith)
fits_at (s ∷ ss) (suc j) h = fits_at ss j (λ k d lt. h (suc k) d (omega arith))

by_found : (ss : List Sense) (o : Option ℕ) → All (λ s. FitsSense (Some s)) ss → FitsSense (option_and_then (slice_get ss) o)
by_found ss None h = tt
by_found ss (Some j) h = fits_at ss j h

by_host : (h : Option Host) (s : Option Sense) → FitsSense s → FitsSense (or_host h s)
by_host (Some x) s fits = tt
by_host None s fits = fits

pub unit_words : (ds : List (Declared Entry)) (ss : List Sense) → All (λ s. FitsSense (Some s)) ss → AreWords (senses_by ds ss)
unit_words ds ss fits name = by_host (host_named name) _ (by_found ss (found name (numbering ds)) fits)

-- ---- on the way

-- an order, as it is read
pub order_as : (ds : List (Declared Entry)) (cyclic : ℕ → Bool) (order items left : List ℕ) → items ≡ order → IsOrder ds cyclic order left → IsOrder ds cyclic items left
order_as ds cyclic order items left is o = subst (λ (q : List ℕ). IsOrder ds cyclic q left) (sym is) o

outcomes_size : (ds : List (Declared Entry)) (ss : List Sense) → length (outcomes ds ss) ≡ length ds
outcomes_size [] ss = refl
outcomes_size (d ∷ ds) [] = ap suc (outcomes_size ds [])
outcomes_size (d ∷ ds) (s ∷ ss) = ap suc (outcomes_size ds ss)

declared_below : (ds : List (Declared Entry)) (j : ℕ) (d : Declared Entry) → declared_at ds j ≡ Some d → j < length ds
declared_below [] j d is = cc
declared_below (x ∷ ds) zero d is = omega arith
declared_below (x ∷ ds) (suc j) d is = let lt : j < length ds = declared_below ds j d is in omega arith

pub node_below : (ds : List (Declared Entry)) (cyclic : ℕ → Bool) (order left : List ℕ) → IsOrder ds cyclic order left → (k : ℕ) → k < length order → get_or order k 0 < length ds
node_below ds cyclic order left o k lt = below_index (length ds) order k (nodes_below ds cyclic order left o).0 lt

-- each sense that is set fits
pub set_fits : (ds : List (Declared Entry)) (before after : List Sense) (width : TypeName → Option Width) (cyclic : Bool) (node : ℕ) (sense : Sense) (e : Entry) → slice_get before node ≡ Some sense →
    All (λ s. FitsSense (Some s)) before → after ≡ set before node (sense_after (senses_by ds before) width cyclic sense e) → All (λ s. FitsSense (Some s)) after
set_fits ds before after width cyclic node sense e got fits is =
    subst (λ (q : List Sense). All (λ s. FitsSense (Some s)) q) (sym is)
    (All-set (λ s. FitsSense (Some s)) before node (sense_after (senses_by ds before) width cyclic sense e)
    (after_fits (senses_by ds before) (unit_words ds before fits) width cyclic sense e (subst (λ (o : Option Sense). FitsSense o) got (fits_at before node fits)))
    fits)

module _ (program : Program) (ds : List (Declared Entry)) where
  abbrev pub end : ℕ → Outcome
  end v = value_in program ds (suc (length ds)) v

  -- what is known of the senses of a unit when some nodes are done
  pub record IsOnTheWay (nodes : List ℕ) (ss : List Sense) : Type 0 where
    pub meant : AreMeant program ds ds ss
    pub set_ : AreSet end nothing nodes (outcomes ds ss)
    pub fits : All (λ s. FitsSense (Some s)) ss

  pub way_begins : (ss : List Sense) → ss ≡ map (first_sense program ds) ds → All (λ s. FitsSense (Some s)) ss → IsOnTheWay [] ss
  way_begins ss is fits = record { meant = first_are_meant program ds ss is; set_ = first_set program ds end ss is; fits = fits }

  module _ (cyclic : ℕ → Bool) (first : AreCyclic ds cyclic) (order left : List ℕ) (second : IsOrder ds cyclic order left) where
    module _ (types : Types) (widths : AreTypes ds types) (k : ℕ) (lt : k < length order) (old : List Sense) (way : IsOnTheWay (take k order) old) (d : Declared Entry)
        (at_ : declared_at ds (get_or order k 0) ≡ Some d) (before : Sense) (got : slice_get old (get_or order k 0) ≡ Some before) where
      abbrev node : ℕ
      node = get_or order k 0

      abbrev new : Sense
      new = sense_after (senses_by ds old) (width_by types) (cyclic node) before d.as_what

      outcome_is : entry_outcome d.as_what new ≡ next program ds cyclic (outcome_at ds old) node
      outcome_is =
          entry_any program ds (senses_by ds old) (width_by types) (cyclic node) before (meanings.Broken None) d.as_what
          ∙ ap (λ (n : Senses). entry_outcome d.as_what (sense_after n (width_by types) (cyclic node) (meanings.Broken None) d.as_what))
          (fun_ext (λ (name : List ℕ). unit_names program ds old way.meant name))
          ∙ ap (λ (w : TypeName → Option Width). entry_outcome d.as_what (sense_after (senses_at program ds (outcome_at ds old)) w (cyclic node) (meanings.Broken None) d.as_what))
          (fun_ext (λ (t : TypeName). widths t))
          ∙ ap (of_declared nothing (after program ds (cyclic node) (outcome_at ds old))) (sym at_)

      new_meant : new ≡ declared_sense program ds (entry_outcome d.as_what new) d
      new_meant =
          after_meant program ds (senses_by ds old) (width_by types) (cyclic node) (outcome_at ds old node) before d.name.name d.as_what
          (before_is program ds old node d before way.meant at_ got)

      set_is : set (outcomes ds old) node (next program ds cyclic (outcome_at ds old) node) ≡ outcomes ds (set old node new)
      set_is = sym (outcomes_set program ds ds old node d new at_ way.meant ∙ ap (set (outcomes ds old) node) outcome_is)

      pub way_goes : (ss : List Sense) → ss ≡ set old node new → IsOnTheWay (take (k + 1) order) ss
      way_goes ss is = record {
        meant = subst (λ (q : List Sense). AreMeant program ds ds q) (sym is) (meant_set program ds ds old node d new at_ new_meant way.meant);
        set_ = subst (λ (q : List Outcome). AreSet end nothing (take (k + 1) order) q) (set_is ∙ ap (outcomes ds) (sym is))
            (set_next second.graph (next program ds cyclic) end nothing (local program ds cyclic second.graph second.waiting) order second.peeled.ordered
            (fixed program ds cyclic first order left second) k lt (outcomes ds old)
            (let size : length (outcomes ds old) ≡ length ds = outcomes_size ds old in let below : node < length ds = node_below ds cyclic order left second k lt in omega arith) way.set_);
        fits = set_fits ds old ss (width_by types) (cyclic node) node before d.as_what got way.fits is;
      }

    -- ---- in the end

    same_number : (w w' : ℕ → Outcome) → ((v : ℕ) → v < length ds → w v ≡ w' v) → (j : ℕ) (o : Option (Declared Entry)) → declared_at ds j ≡ o →
        option_map (declared_sense program ds (w j)) o ≡ option_map (declared_sense program ds (w' j)) o
    same_number w w' same j None at_ = refl
    same_number w w' same j (Some d) at_ = ap (λ (q : Outcome). Some (declared_sense program ds q d)) (same j (declared_below ds j d at_))

    same_found : (w w' : ℕ → Outcome) → ((v : ℕ) → v < length ds → w v ≡ w' v) → (o : Option ℕ) → option_and_then (number_sense program ds w) o ≡ option_and_then (number_sense program ds w') o
    same_found w w' same None = refl
    same_found w w' same (Some j) = same_number w w' same j (declared_at ds j) refl

    pub way_ends : (ss : List Sense) → IsOnTheWay order ss → (name : List ℕ) → senses_by ds ss name ≡ unit_senses program ds name
    way_ends ss way name =
        unit_names program ds ss way.meant name
        ∙ ap (or_host (host_named name))
        (same_found (outcome_at ds ss) end
        (λ v lt. set_all second.graph end nothing order left second.peeled (λ u among. left_nothing program ds cyclic first order left second (suc (length ds)) u among)
        (outcomes ds ss) way.set_ v (let size : length second.graph ≡ length ds = second.waiting.size in omega arith))
        (found name (numbering ds)))
        ∙ sym (names_in program ds (suc (length ds)) name)
