-- Programs in range: each number names what is there, the rules that a resolved program can show are kept, no count of
-- tokens is less than the shortest text with the same parts has, and the counts of a procedure's statements come to at most
-- the procedure's. What `check` answers is in range, and whatever
-- works on a program may rely on it (C-- Language Specification 2.0, static semantics).
use Rattle.std.specs.List.{list_all}
use Rattle.std.specs.Option.{is_some}
use Rattle.rv_table.specs.Memory.{data_base}
use Rattle.std.specs.Prelude.{◌≡◌, ℕ, ◌+◌, ◌*◌, ◌^◌, ◌<◌, ◌≤◌, ◌==◌, ◌&&◌, ◌||◌, not, nat_le, nat_lt, Bool, true, false, IsTrue, All, List, [], ◌∷◌, ◌++◌, length, sum_by, slice_get, Option, Some, None}
use Rattle.cmm_words.specs.declared.width.Width.{Width}
use Rattle.cmm_words.specs.declared.width.Width.TheVariants.{W64}
use Rattle.cmm_words.specs.declared.constant.Constant.{Constant}
use Rattle.cmm_words.specs.Widths.{bits, bytes}
use Rattle.cmm_words.specs.Words.{is_division}
use Rattle.cmm_program.specs.declared.expression.Expression.{Expression}
use Rattle.cmm_program.specs.declared.statement.Form.{Form}
use Rattle.cmm_program.specs.declared.statement.Form.TheVariants.{Empty, If', Switch', Span', Span, Assign, Call, Yield, Checked, PutByte, GetByte, Jump, Return, Label, Goto, Continuation, Cut}
use Rattle.cmm_program.specs.declared.statement.Statement.{Statement}
use Rattle.cmm_program.specs.declared.statement.Lvalue.{Lvalue}
use Rattle.cmm_program.specs.declared.statement.Lvalue.TheVariants as lvalue
use Rattle.cmm_program.specs.declared.statement.Case.{Case}
use Rattle.cmm_program.specs.declared.statement.Case.TheVariants.{In, Default}
use Rattle.cmm_program.specs.declared.statement.Range.{Range}
use Rattle.cmm_program.specs.declared.procedure.Proc.{Proc}
use Rattle.cmm_program.specs.declared.procedure.Site.{Site}
use Rattle.cmm_program.specs.declared.procedure.StackItem.{StackItem}
use Rattle.cmm_program.specs.declared.procedure.Cont.{Cont}
use Rattle.cmm_program.specs.declared.program.Program.{Program}
use Rattle.cmm_program.specs.declared.program.Datum.{Datum}
use Rattle.cmm_program.specs.declared.program.Label.{Label as DataLabel}
use Rattle.cmm_program.specs.Orders.{target_width}
use Rattle.cmm_program.specs.Bodies.{Mark, AtLabel, Branch, branches, within, after_inside}
use Rattle.cmm_program.specs.Numbering.{AreNumbered, body_numbers, label_number, continuation_number, site_number, body_tokens}
use Rattle.cmm_program.specs.Layout.{end_before, stackdata_size}
use Rattle.cmm_program.specs.Limits.{data_limit, name_limit, procedure_limit, procedure_token_limit, register_limit, site_span_limit, site_variable_limit, stackdata_limit, token_limit, unit_limit, variable_limit}
use Rattle.cmm_program.specs.Tokens.{own_tokens, procedure_tokens}
use Rattle.cmm_program.specs.Typing.{is_alignment, same_width, constant_width, is_target, typed, has_width, is_typed, is_condition}

-- at most 64 values are passed at once
abbrev pub at_most_64 : {A : Type 0} → List A → Bool
at_most_64 list = nat_le (length list) 64

-- a name is not longer than its limit
abbrev pub is_name : List ℕ → Bool
is_name name = nat_le (length name) name_limit

abbrev pub below : ℕ → ℕ → Bool
below limit n = nat_lt n limit

-- ---- the arms of a switch on values of a width: each but the default has a range, no range falls, none leaves the width, and no
-- two meet

abbrev pub has_ranges : Case → Bool
has_ranges (In ranges) = nat_lt 0 (length ranges)
has_ranges Default = true

abbrev pub is_range : Width → Range → Bool
is_range width r = nat_le r.from r.to && nat_lt r.to (2 ^ bits width)

abbrev pub do_not_meet : Range → Range → Bool
do_not_meet a b = nat_lt a.to b.from || nat_lt b.to a.from

abbrev pub none_meet : List Range → Bool
none_meet [] = true
none_meet (r ∷ rs) = list_all (do_not_meet r) rs && none_meet rs

abbrev pub all_ranges : List Branch → List Range
all_ranges [] = []
all_ranges (b ∷ bs) = elim b.case [ In ranges ↦ ranges ++ all_ranges bs | Default ↦ all_ranges bs ]

abbrev pub defaults : List Branch → ℕ
defaults [] = 0
defaults (b ∷ bs) = elim b.case [ In ranges ↦ defaults bs | Default ↦ 1 + defaults bs ]

abbrev pub are_arms : Option Width → List Branch → Bool
are_arms None bs = false
are_arms (Some width) bs =
    list_all (λ b. has_ranges b.case) bs && list_all (is_range width) (all_ranges bs) && none_meet (all_ranges bs) && nat_le (defaults bs) 1

-- ---- a statement: what it names, its widths and its counts

module _ (p : Program) (q : Proc) where
  -- the body has this place
  abbrev pub has_mark : Mark → Bool
  has_mark m = is_some (after_inside m (Span q.body))

  abbrev pub is_lvalue : Lvalue → Bool
  is_lvalue (lvalue.Target target) = is_target p q target
  is_lvalue (lvalue.Memory width aligned address) = is_alignment aligned && has_width p q W64 address

  abbrev pub lvalue_width : Lvalue → Width
  lvalue_width (lvalue.Target target) = target_width target
  lvalue_width (lvalue.Memory width aligned address) = width

  -- as many values as there are places, of their widths
  abbrev pub are_assigned : List Lvalue → List Expression → Bool
  are_assigned [] [] = true
  are_assigned (l ∷ ls) (e ∷ es) = is_lvalue l && has_width p q (lvalue_width l) e && are_assigned ls es
  are_assigned _ _ = false

  abbrev pub are_passed : List Expression → Bool
  are_passed es = at_most_64 es && list_all (is_typed p q) es

  abbrev pub at_site : ℕ → (Site → Bool) → Bool
  at_site n test = elim (slice_get q.sites n) [ Some site ↦ test site | None ↦ false ]

  abbrev pub is_call_site : Site → Bool
  is_call_site site = not (is_some site.yield_values)

  abbrev pub is_yield_site : ℕ → Site → Bool
  is_yield_site count site = elim site.yield_values [ Some n ↦ n == count | None ↦ false ]

  -- a checked operator has one result, of its operands' width, and yields one value
  abbrev pub is_checked_site : Width → Site → Bool
  is_checked_site width site = is_yield_site 1 site && elim site.results [
    | [] ↦ false
    | target ∷ more ↦ same_width (target_width target) width && (length more == 0)
  ]

  -- a statement without the blocks inside it
  abbrev pub is_form : Form → Bool
  is_form Empty = true
  is_form (If' condition _ then_ _ otherwise) = is_condition p q condition
  is_form (Switch' value _ arms) = are_arms (typed p q value) (branches arms)
  is_form (Span' _ body) = true
  is_form (Assign to values) = nat_lt 0 (length to) && are_assigned to values
  is_form (Call site callee actuals) = at_site site is_call_site && has_width p q W64 callee && are_passed actuals
  is_form (Yield site values) = at_site site (is_yield_site (length values)) && are_passed values
  is_form (Checked site op width left right) =
      at_site site (is_checked_site width) && is_division op && has_width p q width left && has_width p q width right
  is_form (PutByte value) = has_width p q W64 value
  is_form (GetByte target) = is_target p q target && same_width (target_width target) W64
  is_form (Jump callee actuals) = has_width p q W64 callee && are_passed actuals
  is_form (Return exit alternates values) = nat_le exit alternates && nat_le alternates 64 && are_passed values
  is_form (Label n) = true
  is_form (Goto n) = has_mark (AtLabel n)
  is_form (Continuation n) = below (length q.conts) n
  is_form (Cut to values own) = has_width p q W64 to && are_passed values && list_all (below (length q.conts)) own

  -- and its count is at least that of its shortest text
  abbrev pub is_statement : Statement → Bool
  is_statement statement = is_form statement.form && nat_le (own_tokens q statement.form) statement.tokens

  -- the statements inside a statement's blocks
  abbrev pub is_body_in : Form → Bool
  is_body_in form = list_all is_statement (within form)

  -- ---- the sites

  -- ascending, each token once
  abbrev pub are_spans : List (ℕ × Constant) → Bool
  are_spans [] = true
  are_spans (s ∷ []) = is_some (constant_width p s.1)
  are_spans (s ∷ t ∷ rest) = is_some (constant_width p s.1) && nat_lt s.0 t.0 && are_spans (t ∷ rest)

  abbrev pub is_site : Site → Bool
  is_site site =
      at_most_64 site.results && list_all (is_target p q) site.results
      && at_most_64 site.returns && list_all (below (length q.conts)) site.returns
      && list_all (below (length q.conts)) site.unwinds && list_all (below (length q.conts)) site.cuts
      && are_spans site.spans

  abbrev pub is_continuation : Cont → Bool
  is_continuation c = at_most_64 c.params && list_all (below (length q.vars)) c.params

-- ---- procedures

-- alignments are those of the language; an item with a label has no length
abbrev pub is_item : StackItem → Bool
is_item i = is_alignment i.align && (not i.label || (i.length == 0))

-- what a test of a frame relies on: its parts are small
pub record FitsFrames (q : Proc) : Type 0 where
  pub items : IsTrue (list_all is_item q.stack)
  pub stackdata : stackdata_size q.stack ≤ stackdata_limit
  pub tokens : q.tokens ≤ procedure_token_limit

pub record IsProcInRange (p : Program) (q : Proc) : Type 0 where
  pub name : IsTrue (is_name q.name)
  pub unit : q.unit < unit_limit
  pub formals : IsTrue (nat_le q.formals (length q.vars) && nat_le q.formals 64)
  pub variables : length q.vars ≤ variable_limit
  pub kinds : IsTrue (list_all (λ v. is_name v.kind) q.vars)
  pub frames : FitsFrames q
  pub continuations : IsTrue (list_all (is_continuation p q) q.conts)
  pub sites : IsTrue (list_all (is_site p q) q.sites)
  pub body : IsTrue (is_body_in p q (Span q.body))
  pub labels_numbered : AreNumbered label_number (length (body_numbers label_number q)) q
  pub continuations_numbered : AreNumbered continuation_number (length q.conts) q
  pub sites_numbered : AreNumbered site_number (length q.sites) q
  -- the shortest text of the procedure has at most its count of tokens, and so have its statements, as they are counted
  pub shortest : procedure_tokens q ≤ q.tokens
  pub counts : body_tokens q ≤ q.tokens

-- ---- data

abbrev pub is_initial : Program → Width → Constant → Bool
is_initial p width c = elim (constant_width p c) [ Some found ↦ same_width found width | None ↦ false ]

-- values fill the datum, and each has its width
abbrev pub is_datum : Program → Datum → Bool
is_datum p d = is_alignment d.align && elim d.values [
  | [] ↦ true
  | _ ∷ _ ↦ (d.length == length d.values * bytes d.width) && list_all (is_initial p d.width) d.values
]

abbrev pub is_label : Program → DataLabel → Bool
is_label p l = is_name l.name && list_all is_name l.links && elim l.at_end [ true ↦ nat_le l.datum (length p.datums) | false ↦ nat_lt l.datum (length p.datums) ]

-- ---- programs

pub record IsInRange (p : Program) : Type 0 where
  pub procedures : All (IsProcInRange p) p.procs
  pub procedure_count : length p.procs ≤ procedure_limit
  pub main : p.main < length p.procs
  pub main_formals : (q : Proc) → slice_get p.procs p.main ≡ Some q → q.formals ≡ 0
  pub datums : IsTrue (list_all (is_datum p) p.datums)
  pub datum_count : length p.datums < 2 ^ 32
  pub data_size : end_before p (length p.datums) ≤ data_base + data_limit
  pub labels : IsTrue (list_all (is_label p) p.labels)
  pub label_count : length p.labels < 2 ^ 32
  pub registers : length p.globals ≤ register_limit
  pub register_names : IsTrue (list_all (λ g. is_name g.name) p.globals)
  pub tokens : sum_by (λ q. q.tokens) p.procs ≤ token_limit
  pub site_variables : sum_by (λ q. length q.sites * length q.vars) p.procs ≤ site_variable_limit
  pub site_spans : sum_by (λ q. sum_by (λ site. length site.spans) q.sites) p.procs ≤ site_span_limit
