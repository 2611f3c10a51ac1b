-- What declarations mean as types.
use Rattle.std.proofs.Common.{◌≡◌, ℕ, suc, zero, ◌<◌, Bool, true, false, List, [], ◌∷◌, length, map, get_or, Option, Some, None, refl, sym, ◌∙◌, ap, arith}
use Rattle.std.specs.Prelude.{option_and_then}
use Rattle.cmm_words.specs.declared.width.Width.{Width}
use Rattle.cmm_static_semantics.specs.declared.sense.Sense.{Sense}
use Rattle.cmm_static_semantics.specs.Senses.{is_host}
use Rattle.cmm_static_semantics.specs.Declarations.{Declared, Entry, Typedef, Const, Register, Import, DataLabel, Procedure, found}
use Rattle.cmm_symbols.specs.Numbering.{numbering, number_in}
use Rattle.cmm_symbols.specs.Shown.{shown, entry_shown}
use Rattle.cmm_symbols.specs.declared.table.Named.{Named}
use Rattle.cmm_symbols.specs.declared.entry.Entry.{Entry as EntryTree}
use Rattle.cmm_unit_scope.specs.Types.{sense_at, type_sense, type_senses}
use Rattle.cmm_unit_scope.specs.inside.Numbers.{sense_by, width_at}
use Rattle.cmm_unit_scope.specs.inside.Widths.{entry_in, AreWidths}
use Rattle.cmm_unit_scope.specs.Numbers.{entry_at}
use Rattle.cmm_unit_scope.proofs.Numbering.{found_numbering}

-- the declaration with a number, as it is listed
pub entry_listed : (ds : List (Named EntryTree)) (k : ℕ) (d : Named EntryTree) → k < length ds → d ≡ get_or ds k d → entry_at (map shown ds) k ≡ Some (entry_shown d.what)
entry_listed [] k d lt is = absurd (omega arith)
entry_listed (e ∷ ds) zero d lt is = ap (λ (n : Named EntryTree). Some (entry_shown n.what)) (sym is)
entry_listed (e ∷ ds) (suc k) d lt is = entry_listed ds k d (omega arith) is

entry_sense : (ds : List (Declared Entry)) (e : Entry) (width : Option Width) → width ≡ entry_in (suc (length ds)) ds e → sense_by width e ≡ type_sense ds (Some e)
entry_sense ds (Typedef t) width is = ap (λ w. sense_by w (Typedef t)) is
entry_sense ds (Const t e) width is = refl
entry_sense ds (Register t) width is = refl
entry_sense ds (Import link) width is = refl
entry_sense ds (DataLabel n) width is = refl
entry_sense ds (Procedure n p) width is = refl

pub sense_listed : (ds : List (Named EntryTree)) (widths : List (Option Width)) (k : ℕ) (d : Named EntryTree) → AreWidths (map shown ds) widths → k < length ds → d ≡ get_or ds k d →
    sense_by (width_at widths k) (entry_shown d.what) ≡ type_sense (map shown ds) (Some (entry_shown d.what))
sense_listed ds widths k d are lt is =
    entry_sense (map shown ds) (entry_shown d.what) (width_at widths k)
    (are k ∙ ap (option_and_then (entry_in (suc (length (map shown ds))) (map shown ds))) (entry_listed ds k d lt is))

-- what the declaration with a number means
sense_numbered : (ds : List (Declared Entry)) (rest : List (Named EntryTree)) (number : ℕ) →
    sense_at (map (λ n. type_sense ds (Some (entry_shown n.what))) rest) number ≡ type_sense ds (entry_at (map shown rest) number)
sense_numbered ds [] number = refl
sense_numbered ds (d ∷ rest) zero = refl
sense_numbered ds (d ∷ rest) (suc number) = sense_numbered ds rest number

own : (host : Bool) (ds : List (Named EntryTree)) (o : Option ℕ) (p : Option Entry) → option_and_then (entry_at (map shown ds)) o ≡ p →
    option_and_then (sense_at (map (λ n. type_sense (map shown ds) (Some (entry_shown n.what))) ds)) (elim host as (λ _. Option ℕ) [ true ↦ None | false ↦ o ])
    ≡ type_sense (map shown ds) (elim host as (λ _. Option Entry) [ true ↦ None | false ↦ p ])
own true ds o p is = refl
own false ds None p is = ap (type_sense (map shown ds)) is
own false ds (Some number) p is = sense_numbered (map shown ds) ds number ∙ ap (type_sense (map shown ds)) is

-- what a name means, by the number of its declaration
pub sense_found : (ds : List (Named EntryTree)) (senses : List (Option Sense)) (name : List ℕ) → senses ≡ map (λ n. type_sense (map shown ds) (Some (entry_shown n.what))) ds →
    option_and_then (sense_at senses) (number_in (numbering (map shown ds)) name) ≡ type_senses (map shown ds) name
sense_found ds senses name is =
    ap (λ (ss : List (Option Sense)). option_and_then (sense_at ss) (number_in (numbering (map shown ds)) name)) is
    ∙ own (is_host name) ds (found name (numbering (map shown ds))) (found name (map shown ds)) (found_numbering name (map shown ds))
