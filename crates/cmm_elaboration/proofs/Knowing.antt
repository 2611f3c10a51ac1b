-- What is known of a value before the program runs is a word of its width.
use Rattle.std.proofs.Common.{◌≡◌, ℕ, ◌^◌, ◌<◌, refl, ap, subst, Bool, true, false, List, Option, Some, None, Ok, Err, arith, pow_mono, lt_of_lt_of_le, inr, length}
use Rattle.std.specs.Prelude.{nat_lt, nat_le, IfSome}
use Rattle.std.specs.Option.{is_some}
use Rattle.std.proofs.lemmas.Bool.{lt-ltb, ltb-true, leb-true}
use Rattle.std.proofs.lemmas.Nat.{mod_below, pow_pos}
use Rattle.cmm_words.specs.declared.width.Width.{Width}
use Rattle.cmm_words.specs.declared.width.Width.TheVariants.{W64}
use Rattle.cmm_words.specs.declared.constant.Constant.{Constant}
use Rattle.cmm_words.specs.declared.constant.Constant.TheVariants.{Number, Code, Address}
use Rattle.cmm_words.specs.declared.operators.Op1.{Op1}
use Rattle.cmm_words.specs.declared.operators.Op1.TheVariants.{Com, Neg}
use Rattle.cmm_words.specs.declared.operators.Op2.{Op2}
use Rattle.cmm_words.specs.declared.operators.Op2.TheVariants as op
use Rattle.cmm_words.specs.Widths.{bits}
use Rattle.cmm_words.specs.Words.{value1, value2, low_bits, sign_extended}
use Rattle.cmm_words.proofs.Shared.{value2-word, wrapped-below}
use Rattle.cmm_ast.specs.declared.expression.Expr.{Expr}
use Rattle.cmm_ast.specs.declared.expression.Prefix.TheVariants.{Negate}
use Rattle.cmm_program.specs.declared.procedure.Proc.{Proc}
use Rattle.cmm_program.specs.declared.program.Program.{Program}
use Rattle.cmm_program.specs.Typing.{if_holds, constant_width}
use Rattle.cmm_static_semantics.specs.declared.judged.Bits.{Bits}
use Rattle.cmm_static_semantics.specs.declared.known.Known.{Known}
use Rattle.cmm_static_semantics.specs.declared.known.Known.TheVariants as known
use Rattle.cmm_static_semantics.specs.declared.sense.Sense.{Sense}
use Rattle.cmm_static_semantics.specs.declared.sense.Sense.TheVariants.{Value, Broken}
use Rattle.cmm_static_semantics.specs.declared.sense.Sense.TheVariants as meanings
use Rattle.cmm_static_semantics.specs.Senses.{Senses, constant_width as declared_width}
use Rattle.cmm_static_semantics.specs.Algebras.{knowns, known_constant, known_value, known_sum, moved}
use Rattle.cmm_static_semantics.specs.Operators.{prefix_operator}
use Rattle.cmm_static_semantics.specs.Judging.{Judged, as_wanted}
use Rattle.cmm_static_semantics.specs.Typing.{expr_type, wanted, literal, operand_at, applied_to_one}
use Rattle.cmm_static_semantics.specs.Constants.{Alone, Plain, Negative, alone, alone_type, alone_or, wanted_alone, number_known, as_number, number_alone, constant_known, as_constant, constant_alone, constant_of}
use Rattle.cmm_static_semantics.specs.Scopes.{valued, untyped_sense, typed_sense}
use Rattle.cmm_elaboration.specs.Fitting.{sense_fits, NamesFit}
use Rattle.cmm_elaboration.specs.Resolving.{or_zero, constant_at}
use Rattle.cmm_elaboration.proofs.Judged.{Holds, OnSome, IsKept, SenseFits, BitsFit, TypedFits, OperandFits, WantedFit, holds_with, bits_fit, wanted_fits, literal_fits, one_fits, operand_fits, clean_fits}

-- a number that is known is a word, and of an address something holds
abbrev pub IsKnownBy : (Width → Constant → Type 0) → Width → Known → Type 0
IsKnownBy At w (known.Number a) = nat_lt a (2 ^ bits w) ≡ true
IsKnownBy At w (known.Symbol c) = At w c
IsKnownBy At w (known.Sum c) = At w c
IsKnownBy At w known.Nothing = Unit {0}

-- an address is there in a program, with its width
abbrev pub IsAt : Program → Width → Constant → Type 0
IsAt p w c = constant_width p c ≡ Some w

abbrev pub IsKnown : Program → Width → Known → Type 0
IsKnown p w k = IsKnownBy (IsAt p) w k

-- of conditions nothing is known
abbrev pub Any : Unit {0} → Type 0
Any t = Unit {0}

word : (w : Width) (a : ℕ) → nat_lt a (2 ^ bits w) ≡ true → a < 2 ^ bits w
word w a is = ltb-true a (2 ^ bits w) is

is_word : (w : Width) (a : ℕ) → a < 2 ^ bits w → nat_lt a (2 ^ bits w) ≡ true
is_word w a below = lt-ltb a (2 ^ bits w) below

value1_known : (o : Op1) (w : Width) (a : ℕ) → value1 o w a < 2 ^ bits w
value1_known Com w a = let h : 0 < 2 ^ bits w = pow_pos (bits w) in omega arith
value1_known Neg w a = wrapped-below (bits w) _

abbrev IsNumber : Width → ℕ → Type 0
IsNumber w a = nat_lt a (2 ^ bits w) ≡ true

-- an address with a number added to it is there where it is
moved_there : (p : Program) (w : Width) (c : Constant) (more : ℕ) → constant_width p c ≡ Some w → constant_width p (moved c more) ≡ Some w
moved_there p w (Number value width) more h = h
moved_there p w (Code n plus) more h = h
moved_there p w (Address n plus) more h = h

module _ (At : Width → Constant → Type 0) (stays : (w : Width) (c : Constant) (more : ℕ) → At w c → At w (moved c more)) where
  unary_known : (o : Op1) (w : Width) (a : Known) → IsKnownBy At w a → IsKnownBy At w (knowns.unary o w a)
  unary_known o w (known.Number a) h = is_word w (value1 o w a) (value1_known o w a)
  unary_known o w (known.Symbol c) h = tt
  unary_known o w (known.Sum c) h = tt
  unary_known o w known.Nothing h = tt

  value_known : (w : Width) (o : Option ℕ) → IfSome o (λ a. a < 2 ^ bits w) → IsKnownBy At w (known_value o)
  value_known w (Some a) h = is_word w a h
  value_known w None h = tt

  sum_known : (w : Width) (o : Op2) (c : Constant) (b : ℕ) → At w c → IsKnownBy At w (known_sum o c b)
  sum_known w op.Add c b h = stays w c _ h
  sum_known w op.Sub c b h = stays w c _ h
  sum_known w op.Mul c b h = tt
  sum_known w op.And c b h = tt
  sum_known w op.Or c b h = tt
  sum_known w op.Xor c b h = tt
  sum_known w op.Shl c b h = tt
  sum_known w op.Shrl c b h = tt
  sum_known w op.Shra c b h = tt
  sum_known w op.Rotl c b h = tt
  sum_known w op.Rotr c b h = tt
  sum_known w op.Divu c b h = tt
  sum_known w op.Modu c b h = tt
  sum_known w op.Div c b h = tt
  sum_known w op.Mod c b h = tt
  sum_known w op.Quot c b h = tt
  sum_known w op.Rem c b h = tt

  binary_known : (o : Op2) (w : Width) (a b : Known) → IsKnownBy At w a → IsKnownBy At w b → IsKnownBy At w (knowns.binary o w a b)
  binary_known o w (known.Number a) (known.Number b) h k = value_known w (value2 o w a b) (value2-word o w a b (word w a h) (word w b k))
  binary_known o w (known.Symbol c) (known.Number b) h k = sum_known w o c b h
  binary_known o w (known.Number a) (known.Symbol d) h k = tt
  binary_known o w (known.Number a) (known.Sum d) h k = tt
  binary_known o w (known.Number a) known.Nothing h k = tt
  binary_known o w (known.Symbol c) (known.Symbol d) h k = tt
  binary_known o w (known.Symbol c) (known.Sum d) h k = tt
  binary_known o w (known.Symbol c) known.Nothing h k = tt
  binary_known o w (known.Sum c) b h k = tt
  binary_known o w known.Nothing b h k = tt

  sign_known : (from to : Width) (a : Known) → IsKnownBy At from a → IsKnownBy At to (knowns.sign_extend from to a)
  sign_known from to (known.Number a) h = is_word to (sign_extended from to a) (wrapped-below (bits to) _)
  sign_known from to (known.Symbol c) h = tt
  sign_known from to (known.Sum c) h = tt
  sign_known from to known.Nothing h = tt

  zero_known : (from to : Width) (a : Known) → nat_le (bits from) (bits to) ≡ true → IsKnownBy At from a → IsKnownBy At to (knowns.zero_extend from to a)
  zero_known from to (known.Number a) wide h = is_word to a (lt_of_lt_of_le (word from a h) (pow_mono {i = bits from} {j = bits to} (leb-true (bits from) (bits to) wide)))
  zero_known from to (known.Symbol c) wide h = tt
  zero_known from to (known.Sum c) wide h = tt
  zero_known from to known.Nothing wide h = tt

  low_known : (from to : Width) (a : Known) → IsKnownBy At from a → IsKnownBy At to (knowns.low_part from to a)
  low_known from to (known.Number a) h = is_word to (low_bits to a) (mod_below a (2 ^ bits to) (pow_pos (bits to)))
  low_known from to (known.Symbol c) h = tt
  low_known from to (known.Sum c) h = tt
  low_known from to known.Nothing h = tt

  knowns_kept : IsKept knowns (IsKnownBy At) Any
  knowns_kept = record {
    constant = λ value width is. is;
    load = λ width aligned a is h. tt;
    unary = unary_known;
    binary = binary_known;
    sign_extend = λ from to a is h. sign_known from to a h;
    zero_extend = λ from to a is h. zero_known from to a is h;
    low_part = λ from to a is h. low_known from to a h;
    compare = λ cmp width a b h k. tt;
    negated = λ c h. tt;
    conjoined = λ c d h k. tt;
    disjoined = λ c d h k. tt;
  }

-- ---- constants, over names whose constants are words

module _ (At : Width → Constant → Type 0) (stays : (w : Width) (c : Constant) (more : ℕ) → At w c → At w (moved c more)) (names : Senses)
    (sound : (name : List ℕ) → SenseFits knowns (IsKnownBy At) (names name)) where
  known_fits : (e : Expr) → Holds (TypedFits knowns (IsKnownBy At) Any) (expr_type knowns names e)
  known_fits e = clean_fits knowns (IsKnownBy At) Any (knowns_kept At stays) names sound e record { hosts = inr tt; alignments = inr (λ width aligned a h. tt) }

  bits_known : (e : Expr) → Holds (BitsFit knowns (IsKnownBy At) Any) (wanted knowns names None e)
  bits_known e = holds_with (TypedFits knowns (IsKnownBy At) Any) (BitsFit knowns (IsKnownBy At) Any) (expr_type knowns names e) (as_wanted None e.token) (known_fits e) (bits_fit knowns (IsKnownBy At) Any e.token)

  wanted_known : (width : Width) (e : Expr) → Holds (WantedFit knowns (IsKnownBy At) Any width) (wanted knowns names (Some width) e)
  wanted_known width e = holds_with (TypedFits knowns (IsKnownBy At) Any) (WantedFit knowns (IsKnownBy At) Any width) (expr_type knowns names e) (as_wanted (Some width) e.token) (known_fits e)
      (wanted_fits knowns (IsKnownBy At) Any width e.token)

  alone_known : (token : ℕ) (width : Width) (a : Alone) → Holds (TypedFits knowns (IsKnownBy At) Any) (alone_type knowns token width a)
  alone_known token width (Plain value) = literal_fits knowns (IsKnownBy At) Any (knowns_kept At stays) token value width
  alone_known token width (Negative own value) =
      holds_with (OperandFits knowns (IsKnownBy At) Any) (TypedFits knowns (IsKnownBy At) Any) (operand_at knowns own (literal knowns own value width)) (applied_to_one knowns (prefix_operator Negate) token)
      (operand_fits knowns (IsKnownBy At) Any (knowns_kept At stays) own (literal knowns own value width) (literal_fits knowns (IsKnownBy At) Any (knowns_kept At stays) own value width))
      (one_fits knowns (IsKnownBy At) Any (knowns_kept At stays) (prefix_operator Negate) token)

  alone_or_known : (width : Width) (e : Expr) (o : Option Alone) → Holds (WantedFit knowns (IsKnownBy At) Any width) (alone_or knowns names width e o)
  alone_or_known width e (Some a) =
      holds_with (TypedFits knowns (IsKnownBy At) Any) (WantedFit knowns (IsKnownBy At) Any width) (alone_type knowns e.token width a) (as_wanted (Some width) e.token) (alone_known e.token width a)
      (wanted_fits knowns (IsKnownBy At) Any width e.token)
  alone_or_known width e None = wanted_known width e

  number_is : (token : ℕ) (w : Width) (a : Known) → IsKnownBy At w a → Holds (IsNumber w) (number_known token a)
  number_is token w (known.Number a) h = h
  number_is token w (known.Symbol c) h = tt
  number_is token w (known.Sum c) h = tt
  number_is token w known.Nothing h = tt

  some_number : (token : ℕ) (w : Width) (o : Option Known) → OnSome (IsKnownBy At w) o → Holds (IsNumber w) (as_number token record { width = w; value = o })
  some_number token w (Some a) h = number_is token w a h
  some_number token w None h = tt

  pub number_is_word : (width : Width) (e : Expr) → Holds (IsNumber width) (number_alone names (Some width) e)
  number_is_word width e =
      holds_with (WantedFit knowns (IsKnownBy At) Any width) (IsNumber width) (wanted_alone knowns names (Some width) e) (as_number e.token) (alone_or_known width e (alone e.form))
      (λ x h. subst (λ w. Holds (IsNumber w) (as_number e.token x)) h.1 (some_number e.token x.width x.value h.0))

  -- and names over it know a word

  valued_known : (w : Width) (j : Judged ℕ) → Holds (IsNumber w) j → SenseFits knowns (IsKnownBy At) (Some (valued w j))
  valued_known w (Ok value) h = h
  valued_known w (Err broken) h = tt

  untyped_by : (token : ℕ) (j : Judged (Bits Known)) → Holds (BitsFit knowns (IsKnownBy At) Any) j → SenseFits knowns (IsKnownBy At) (Some (untyped_sense token j))
  untyped_by token (Ok x) h = valued_known x.width (as_number token x) (some_number token x.width x.value h)
  untyped_by token (Err broken) h = tt

  pub untyped_is_word : (e : Expr) → SenseFits knowns (IsKnownBy At) (Some (untyped_sense e.token (wanted knowns names None e)))
  untyped_is_word e = untyped_by e.token (wanted knowns names None e) (bits_known e)

  pub typed_is_word : (e : Expr) (width : Option Width) → SenseFits knowns (IsKnownBy At) (Some (typed_sense names e width))
  typed_is_word e (Some width) = valued_known width (number_alone names (Some width) e) (number_is_word width e)
  typed_is_word e None = tt

-- ---- over names whose addresses are there in a program

module _ (p : Program) (names : Senses) (sound : (name : List ℕ) → SenseFits knowns (IsKnown p) (names name)) where
  pub number_alone_is : (width : Width) (e : Expr) → Holds (IsNumber width) (number_alone names (Some width) e)
  number_alone_is width e = number_is_word (IsAt p) (moved_there p) names sound width e

  pub untyped_known : (e : Expr) → SenseFits knowns (IsKnown p) (Some (untyped_sense e.token (wanted knowns names None e)))
  untyped_known e = untyped_is_word (IsAt p) (moved_there p) names sound e

  pub typed_known : (e : Expr) (width : Option Width) → SenseFits knowns (IsKnown p) (Some (typed_sense names e width))
  typed_known e width = typed_is_word (IsAt p) (moved_there p) names sound e width

  -- a constant that takes the width that is wanted has it
  constant_wide : (token : ℕ) (w : Width) (a : Known) → IsKnown p w a → Holds (λ c. constant_width p c ≡ Some w) (constant_known token w a)
  constant_wide token w (known.Number a) h = ap (λ b. if_holds b w) h
  constant_wide token w (known.Symbol c) h = h
  constant_wide token w (known.Sum c) h = h
  constant_wide token w known.Nothing h = tt

  some_constant : (token : ℕ) (w : Width) (o : Option Known) → OnSome (IsKnown p w) o → Holds (λ c. constant_width p c ≡ Some w) (as_constant token record { width = w; value = o })
  some_constant token w (Some a) h = constant_wide token w a h
  some_constant token w None h = tt

  pub constant_alone_is : (width : Width) (e : Expr) → Holds (λ c. constant_width p c ≡ Some width) (constant_alone names (Some width) e)
  constant_alone_is width e =
      holds_with (WantedFit knowns (IsKnownBy (IsAt p)) Any width) (λ c. constant_width p c ≡ Some width) (wanted_alone knowns names (Some width) e) (as_constant e.token)
      (alone_or_known (IsAt p) (moved_there p) names sound width e (alone e.form))
      (λ x h. subst (λ w. Holds (λ c. constant_width p c ≡ Some w) (as_constant e.token x)) h.1 (some_constant e.token x.width x.value h.0))

  -- ---- what a constant of a unit means fits every program

  module _ (q : Proc) where
    valued_fits : (w : Width) (j : Judged ℕ) → Holds (IsNumber w) j → sense_fits p q (Some (valued w j)) ≡ true
    valued_fits w (Ok value) h = ap (λ b. elim (if_holds b w) as (λ o. Bool) [ Some u ↦ true | None ↦ false ]) h
    valued_fits w (Err broken) h = refl

    untyped_fits : (token : ℕ) (j : Judged (Bits Known)) → Holds (BitsFit knowns (IsKnown p) Any) j → sense_fits p q (Some (untyped_sense token j)) ≡ true
    untyped_fits token (Ok x) h = valued_fits x.width (as_number token x) (some_number (IsAt p) (moved_there p) names sound token x.width x.value h)
    untyped_fits token (Err broken) h = refl

    pub untyped_is : (e : Expr) → sense_fits p q (Some (untyped_sense e.token (wanted knowns names None e))) ≡ true
    untyped_is e = untyped_fits e.token (wanted knowns names None e) (bits_known (IsAt p) (moved_there p) names sound e)

    pub typed_is : (e : Expr) (width : Option Width) → sense_fits p q (Some (typed_sense names e width)) ≡ true
    typed_is e (Some width) = valued_fits width (number_alone names (Some width) e) (number_is_word (IsAt p) (moved_there p) names sound width e)
    typed_is e None = refl

-- ---- link-time constants, over names that fit a program

known_by : (b : Bool) (w : Width) → is_some (if_holds b w) ≡ true → b ≡ true
known_by true w is = refl
known_by false w is = cc

value_from : (p : Program) (c : Constant) → is_some (constant_width p c) ≡ true → IsKnown p (declared_width c) (known_constant c)
value_from p (Number value width) is = known_by (nat_lt value (2 ^ bits width)) width is
value_from p (Code n plus) is = ap (λ b. if_holds b W64) (known_by (nat_lt n (length p.procs)) W64 is)
value_from p (Address n plus) is = ap (λ b. if_holds b W64) (known_by (nat_lt n (length p.labels)) W64 is)

pub known_from : (p : Program) (q : Proc) (sense : Option Sense) → sense_fits p q sense ≡ true → SenseFits knowns (IsKnown p) sense
known_from p q (Some (meanings.Variable n (Some w))) is = tt
known_from p q (Some (meanings.Variable n None)) is = tt
known_from p q (Some (meanings.Register n (Some w))) is = tt
known_from p q (Some (meanings.Register n None)) is = tt
known_from p q (Some (Value c)) is = value_from p c is
known_from p q (Some (Broken w)) is = tt
known_from p q (Some (meanings.Stackdata n)) is = tt
known_from p q (Some (meanings.Continuation n)) is = tt
known_from p q (Some (meanings.Typedef w)) is = tt
known_from p q (Some meanings.CodeLabel) is = tt
known_from p q (Some (meanings.Host h)) is = tt
known_from p q None is = tt

-- a constant is there in a program
abbrev pub IsThere : Program → Constant → Type 0
IsThere p c = is_some (constant_width p c) ≡ true

constant_by : (p : Program) (token : ℕ) (w : Width) (a : Known) → IsKnown p w a → Holds (IsThere p) (constant_known token w a)
constant_by p token w (known.Number a) h = ap (λ b. elim (if_holds b w) as (λ o. Bool) [ Some u ↦ true | None ↦ false ]) h
constant_by p token w (known.Symbol c) h = ap is_some h
constant_by p token w (known.Sum c) h = ap is_some h
constant_by p token w known.Nothing h = tt

constant_in : (p : Program) (token : ℕ) (w : Width) (o : Option Known) → OnSome (IsKnown p w) o → Holds (IsThere p) (as_constant token record { width = w; value = o })
constant_in p token w (Some a) h = constant_by p token w a h
constant_in p token w None h = tt

default_there : (p : Program) (j : Judged Constant) → Holds (IsThere p) j → IsThere p (or_zero W64 j)
default_there p (Ok c) h = h
default_there p (Err broken) h = refl

pub constant_there : (p : Program) (q : Proc) (names : Senses) → NamesFit p q names → (e : Expr) → IsThere p (constant_at names e)
constant_there p q names fit e =
    default_there p (constant_of names e)
    (holds_with (BitsFit knowns (IsKnown p) Any) (IsThere p) (wanted knowns names None e) (as_constant e.token)
    (bits_known (IsAt p) (moved_there p) names (λ name. known_from p q (names name) (fit name)) e) (λ x h. constant_in p e.token x.width x.value h))
