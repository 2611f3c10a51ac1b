-- What the names of a unit mean: types have widths, constants are words, and addresses are those of what is there.
use Rattle.std.proofs.Common.{◌≡◌, ℕ, zero, suc, ◌<◌, refl, sym, ap, ◌∙◌, subst, Bool, true, false, List, [], Option, Some, None, Ok, Err, length}
use Rattle.std.specs.Prelude.{flat_map, unwrap_or, nat_lt, not}
use Rattle.std.specs.Option.{is_some}
use Rattle.std.proofs.lemmas.Bool.{lt-ltb, not-true}
use Rattle.cmm_words.specs.declared.width.Width.{Width}
use Rattle.cmm_words.specs.declared.width.Width.TheVariants.{W64}
use Rattle.cmm_words.specs.declared.constant.Constant.{Constant}
use Rattle.cmm_words.specs.declared.constant.Constant.TheVariants.{Number, Code, Address}
use Rattle.cmm_ast.specs.declared.expression.Expr.{Expr}
use Rattle.cmm_ast.specs.declared.expression.TypeName.{TypeName}
use Rattle.cmm_program.specs.declared.procedure.Proc.{Proc}
use Rattle.cmm_program.specs.declared.program.Program.{Program}
use Rattle.cmm_program.specs.Typing.{if_holds, has_register}
use Rattle.cmm_rules.specs.declared.rule.Rule.TheVariants.{Cycle}
use Rattle.cmm_static_semantics.specs.declared.sense.Host.{Host}
use Rattle.cmm_static_semantics.specs.declared.sense.Sense.{Sense}
use Rattle.cmm_static_semantics.specs.declared.sense.Sense.TheVariants as meanings
use Rattle.cmm_static_semantics.specs.declared.judged.Bits.{Bits}
use Rattle.cmm_static_semantics.specs.declared.known.Known.{Known}
use Rattle.cmm_static_semantics.specs.Senses.{Senses, host_named, is_host, is_there}
use Rattle.cmm_static_semantics.specs.Algebras.{knowns}
use Rattle.cmm_static_semantics.specs.Judging.{Judged}
use Rattle.cmm_static_semantics.specs.Constants.{as_number}
use Rattle.cmm_static_semantics.specs.Declarations.{Declared, Entry, Typedef, Const, Register, Import, DataLabel, Procedure, found, entry_of}
use Rattle.cmm_static_semantics.specs.Linking.{Program as Linked, published_as, register_number}
use Rattle.cmm_static_semantics.specs.Scopes.{width_in, entry_sense, senses_by, valued, untyped_sense, typed_sense, const_sense, unit_senses, named_by, reaches, depends_on_itself}
use Rattle.cmm_static_semantics.specs.Expressions.{type_spots}
use Rattle.cmm_static_semantics.specs.Units.{cycle_spots, entry_spots}
use Rattle.cmm_elaboration.specs.Fitting.{sense_fits, NamesFit}
use Rattle.cmm_elaboration.proofs.Judged.{SenseFits}
use Rattle.cmm_elaboration.proofs.Knowing.{IsKnown, known_from, untyped_known, typed_known, untyped_is, typed_is}
use Rattle.cmm_elaboration.proofs.Entries.{EachEntry, EntryFits, found_each, AddressFits, EachPublished, published_fits, some_address}
use Rattle.cmm_elaboration.proofs.Cycles.{AreSound, IsAt, found_at, own_is, has_width}
use Rattle.cmm_elaboration.proofs.Nothing.{no_left, no_right, no_unless}

-- ---- a typedef is one by its declaration

valued_never : (v : Width) (j : Judged ℕ) (w : Option Width) → valued v j ≡ meanings.Typedef w → ⊥
valued_never v (Ok value) w e = cc
valued_never v (Err broken) w e = cc

untyped_never : (token : ℕ) (j : Judged (Bits Known)) (w : Option Width) → untyped_sense token j ≡ meanings.Typedef w → ⊥
untyped_never token (Ok x) w e = valued_never x.width (as_number token x) w e
untyped_never token (Err broken) w e = cc

typed_never : (names : Senses) (x : Expr) (o : Option Width) (w : Option Width) → typed_sense names x o ≡ meanings.Typedef w → ⊥
typed_never names x (Some v) w e = valued_never v _ w e
typed_never names x None w e = cc

imported_never : (h : Option Host) (c : Constant) (w : Option Width) → ◌≡◌ {A = Sense} (elim h [ Some x ↦ meanings.Host x | None ↦ meanings.Value c ]) (meanings.Typedef w) → ⊥
imported_never (Some x) c w e = cc
imported_never None c w e = cc

inner : (a b : Sense) → Some a ≡ Some b → a ≡ b
inner a b e = cc

module _ (program : Linked) (ds : List (Declared Entry)) where
  const_never : (count : ℕ) (t : Option TypeName) (x : Expr) (w : Option Width) → const_sense program ds count t x ≡ meanings.Typedef w → ⊥
  const_never zero t x w e = cc
  const_never (suc count) None x w e = untyped_never x.token _ w e
  const_never (suc count) (Some t) x w e = typed_never (senses_by program ds (const_sense program ds count)) x (width_in ds t) w e

  -- what a name means by the host's names and by its declaration
  abbrev pub meant : (Option TypeName → Expr → Sense) → List ℕ → Option Host → Option Entry → Option Sense
  meant value name h o = elim h [ Some x ↦ Some (meanings.Host x) | None ↦ elim o [ Some e ↦ Some (entry_sense program ds value name e) | None ↦ None ] ]

  pub entry_by : (name : List ℕ) (e : Entry) → host_named name ≡ None → found name ds ≡ Some e → entry_of name ds ≡ Some e
  entry_by name e host is = ap (λ h. elim (is_there h) as (λ b. Option Entry) [ true ↦ None | false ↦ found name ds ]) host ∙ is

  typedef_by : (name : List ℕ) (w : Option Width) (h : Option Host) (o : Option Entry) → host_named name ≡ h → found name ds ≡ o →
      meant (const_sense program ds (suc (length ds))) name h o ≡ Some (meanings.Typedef w) → (t : TypeName) × (entry_of name ds ≡ Some (Typedef t))
  typedef_by name w (Some x) o host is e = let bad : Some (meanings.Host x) ≡ Some (meanings.Typedef w) = e in cc
  typedef_by name w None None host is e = let bad : None ≡ Some (meanings.Typedef w) = e in cc
  typedef_by name w None (Some (Typedef t)) host is e = (t, entry_by name (Typedef t) host is)
  typedef_by name w None (Some (Const t x)) host is e = absurd (const_never (suc (length ds)) t x w (inner _ _ e))
  typedef_by name w None (Some (Register t)) host is e = let bad : Some (meanings.Register (register_number program name) (width_in ds t)) ≡ Some (meanings.Typedef w) = e in cc
  typedef_by name w None (Some (Import link)) host is e = absurd (imported_never (host_named link) _ w (inner _ _ e))
  typedef_by name w None (Some (DataLabel n)) host is e = let bad : Some (meanings.Value (Address n 0)) ≡ Some (meanings.Typedef w) = e in cc
  typedef_by name w None (Some (Procedure n p)) host is e = let bad : Some (meanings.Value (Code n 0)) ≡ Some (meanings.Typedef w) = e in cc

  -- ---- types, where no rule on declarations is broken

  module _ (none : flat_map (entry_spots (unit_senses program ds) ds) ds ≡ []) where
    typedef_at : (name : List ℕ) (t : TypeName) → entry_of name ds ≡ Some (Typedef t) → IsAt (entry_spots (unit_senses program ds) ds) name (Typedef t)
    typedef_at name t is = found_at (entry_spots (unit_senses program ds) ds) name (Typedef t) ds none (own_is (is_host name) (found name ds) (Typedef t) is)

    acyclic : (name : List ℕ) (t : TypeName) → IsAt (entry_spots (unit_senses program ds) ds) name (Typedef t) → reaches (length ds) ds name (named_by (Some (Typedef t))) ≡ false
    acyclic name t at_ =
        let d : Declared Entry = record { name = at_.ident; as_what = Typedef t } in
        let free : depends_on_itself ds d ≡ false =
        not-true (depends_on_itself ds d) (no_unless (not (depends_on_itself ds d)) Cycle at_.ident.token (no_right (type_spots (unit_senses program ds) t) (cycle_spots ds d) at_.nothing)) in
        subst (λ n. reaches (length ds) ds n (named_by (Some (Typedef t))) ≡ false) at_.named free

    sound : AreSound ds (unit_senses program ds)
    sound = record {
      types = λ name t is. no_left (type_spots (unit_senses program ds) t) _ (typedef_at name t is).nothing;
      acyclic = λ name t is. acyclic name t (typedef_at name t is);
      typedefs = λ name w is. typedef_by name w (host_named name) (found name ds) refl refl is;
    }

    -- a type that breaks no rule has a width
    pub type_wide : (t : TypeName) → type_spots (unit_senses program ds) t ≡ [] → width_in ds t ≡ None → ⊥
    type_wide t good broken = has_width ds (unit_senses program ds) sound t good broken

  -- ---- constants

  module _ (procedures labels : ℕ) (some : 0 < procedures) (exported : EachPublished procedures labels program.exports)
      (entries : EachEntry (EntryFits procedures labels) ds) (p : Program) (q : Proc) (procs : length p.procs ≡ procedures) (marks : length p.labels ≡ labels) where
    some_if : (b : Bool) (w : Width) → b ≡ true → is_some (if_holds b w) ≡ true
    some_if true w is = refl
    some_if false w is = is

    code_fits : (n plus : ℕ) → n < procedures → sense_fits p q (Some (meanings.Value (Code n plus))) ≡ true
    code_fits n plus below = some_if (nat_lt n (length p.procs)) W64 (lt-ltb n (length p.procs) (subst (λ m. n < m) (sym procs) below))

    label_fits : (n plus : ℕ) → n < labels → sense_fits p q (Some (meanings.Value (Address n plus))) ≡ true
    label_fits n plus below = some_if (nat_lt n (length p.labels)) W64 (lt-ltb n (length p.labels) (subst (λ m. n < m) (sym marks) below))

    address_is : (c : Constant) → AddressFits procedures labels c → sense_fits p q (Some (meanings.Value c)) ≡ true
    address_is (Number value width) h = absurd h
    address_is (Code n plus) h = code_fits n plus h
    address_is (Address n plus) h = label_fits n plus h

    address_known : (c : Constant) → AddressFits procedures labels c → SenseFits knowns (IsKnown p) (Some (meanings.Value c))
    address_known (Number value width) h = absurd h
    address_known (Code n plus) h = known_from p q (Some (meanings.Value (Code n plus))) (code_fits n plus h)
    address_known (Address n plus) h = known_from p q (Some (meanings.Value (Address n plus))) (label_fits n plus h)

    imported_address : (link : List ℕ) → AddressFits procedures labels (unwrap_or (published_as link program.exports) (Code 0 0))
    imported_address link = some_address procedures labels (published_as link program.exports) some (published_fits procedures labels link program.exports exported)

    imported_known : (link : List ℕ) (h : Option Host) →
        SenseFits knowns (IsKnown p) (Some (elim h as (λ x. Sense) [ Some x ↦ meanings.Host x | None ↦ meanings.Value (unwrap_or (published_as link program.exports) (Code 0 0)) ]))
    imported_known link (Some x) = tt
    imported_known link None = address_known _ (imported_address link)

    register_known : (n : ℕ) (w : Option Width) → SenseFits knowns (IsKnown p) (Some (meanings.Register n w))
    register_known n (Some w) = tt
    register_known n None = tt

    meant_known : (value : Option TypeName → Expr → Sense) → ((t : Option TypeName) (x : Expr) → SenseFits knowns (IsKnown p) (Some (value t x))) →
        (name : List ℕ) (h : Option Host) (o : Option Entry) → found name ds ≡ o → SenseFits knowns (IsKnown p) (meant value name h o)
    meant_known value each name (Some x) o is = tt
    meant_known value each name None None is = tt
    meant_known value each name None (Some (Typedef t)) is = tt
    meant_known value each name None (Some (Const t x)) is = each t x
    meant_known value each name None (Some (Register t)) is = register_known (register_number program name) (width_in ds t)
    meant_known value each name None (Some (Import link)) is = imported_known link (host_named link)
    meant_known value each name None (Some (DataLabel n)) is = address_known (Address n 0) (found_each (EntryFits procedures labels) name (DataLabel n) ds entries is)
    meant_known value each name None (Some (Procedure n x)) is = address_known (Code n 0) (found_each (EntryFits procedures labels) name (Procedure n x) ds entries is)

    const_known : (count : ℕ) (t : Option TypeName) (x : Expr) → SenseFits knowns (IsKnown p) (Some (const_sense program ds count t x))
    const_known zero t x = tt
    const_known (suc count) None x =
        untyped_known p (senses_by program ds (const_sense program ds count)) (λ name. meant_known (const_sense program ds count) (const_known count) name (host_named name) (found name ds) refl) x
    const_known (suc count) (Some t) x =
        typed_known p (senses_by program ds (const_sense program ds count)) (λ name. meant_known (const_sense program ds count) (const_known count) name (host_named name) (found name ds) refl) x
        (width_in ds t)

    -- ---- in a program with n procedures and labels

    const_fits : (count : ℕ) (t : Option TypeName) (x : Expr) → sense_fits p q (Some (const_sense program ds count t x)) ≡ true
    const_fits zero t x = refl
    const_fits (suc count) None x =
        untyped_is p (senses_by program ds (const_sense program ds count)) (λ name. meant_known (const_sense program ds count) (const_known count) name (host_named name) (found name ds) refl) q x
    const_fits (suc count) (Some t) x =
        typed_is p (senses_by program ds (const_sense program ds count)) (λ name. meant_known (const_sense program ds count) (const_known count) name (host_named name) (found name ds) refl) q x
        (width_in ds t)

    imported_is : (link : List ℕ) (h : Option Host) →
        sense_fits p q (Some (elim h as (λ x. Sense) [ Some x ↦ meanings.Host x | None ↦ meanings.Value (unwrap_or (published_as link program.exports) (Code 0 0)) ])) ≡ true
    imported_is link (Some x) = refl
    imported_is link None = address_is _ (imported_address link)

    register_by : (name : List ℕ) (t : TypeName) (o : Option Width) → width_in ds t ≡ o → ((w : Width) → width_in ds t ≡ Some w → has_register p (register_number program name) w ≡ true) →
        sense_fits p q (Some (meanings.Register (register_number program name) o)) ≡ true
    register_by name t (Some w) is each = each w is
    register_by name t None is each = refl

    -- a register stands in the program with its width
    abbrev pub RegistersFit : Type 0
    RegistersFit = (name : List ℕ) (t : TypeName) → host_named name ≡ None → found name ds ≡ Some (Register t) → (w : Width) → width_in ds t ≡ Some w →
        has_register p (register_number program name) w ≡ true

    meant_fits : RegistersFit → (name : List ℕ) (h : Option Host) (o : Option Entry) → host_named name ≡ h → found name ds ≡ o →
        sense_fits p q (meant (const_sense program ds (suc (length ds))) name h o) ≡ true
    meant_fits registers name (Some x) o host is = refl
    meant_fits registers name None None host is = refl
    meant_fits registers name None (Some (Typedef t)) host is = refl
    meant_fits registers name None (Some (Const t x)) host is = const_fits (suc (length ds)) t x
    meant_fits registers name None (Some (Register t)) host is = register_by name t (width_in ds t) refl (registers name t host is)
    meant_fits registers name None (Some (Import link)) host is = imported_is link (host_named link)
    meant_fits registers name None (Some (DataLabel n)) host is = label_fits n 0 (found_each (EntryFits procedures labels) name (DataLabel n) ds entries is)
    meant_fits registers name None (Some (Procedure n x)) host is = code_fits n 0 (found_each (EntryFits procedures labels) name (Procedure n x) ds entries is)

    pub unit_fits : RegistersFit → NamesFit p q (unit_senses program ds)
    unit_fits registers name = meant_fits registers name (host_named name) (found name ds) refl refl
