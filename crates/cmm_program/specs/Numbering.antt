-- What a body holds, over all its blocks: the numbers of its labels, continuations and call sites, and the sum of its
-- statements' counts of tokens.
use Rattle.std.specs.List.{filter, list_all, range_with_len}
use Rattle.std.specs.Prelude.{ℕ, ◌==◌, ◌&&◌, Bool, IsTrue, List, [], ◌∷◌, flat_map, length, sum_by}
use Rattle.cmm_program.specs.declared.statement.Form.{Form}
use Rattle.cmm_program.specs.declared.statement.Form.TheVariants.{Call, Yield, Checked, Label, Continuation}
use Rattle.cmm_program.specs.declared.procedure.Proc.{Proc}
use Rattle.cmm_program.specs.Bodies.{body_statements}

-- ---- numbers

abbrev pub label_number : Form → List ℕ
label_number (Label n) = n ∷ []
label_number _ = []

abbrev pub continuation_number : Form → List ℕ
continuation_number (Continuation n) = n ∷ []
continuation_number _ = []

abbrev pub site_number : Form → List ℕ
site_number (Call site callee actuals) = site ∷ []
site_number (Yield site values) = site ∷ []
site_number (Checked site op width left right) = site ∷ []
site_number _ = []

-- the numbers that the statements of a body have, in textual order
abbrev pub body_numbers : (Form → List ℕ) → Proc → List ℕ
body_numbers number q = flat_map (λ s. number s.form) (body_statements q)

-- each number below a count stands in a list once, and no other does
abbrev pub are_each_once : ℕ → List ℕ → Bool
are_each_once count ns = (length ns == count) && list_all (λ n. length (filter (λ m. m == n) ns) == 1) (range_with_len 0 count)

-- a body has each number below a count once, in whatever order
abbrev pub AreNumbered : (Form → List ℕ) → ℕ → Proc → Type 0
AreNumbered number count q = IsTrue (are_each_once count (body_numbers number q))

-- ---- counts of tokens

-- the sum of the counts that the statements of a body have
abbrev pub body_tokens : Proc → ℕ
body_tokens q = sum_by (λ s. s.tokens) (body_statements q)
