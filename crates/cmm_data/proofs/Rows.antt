-- Worked rows: programs whose data can be laid out, what waits in it, and how that is filled.
use Rattle.std.proofs.Common.{◌≡◌, ℕ, refl, sym, ◌∙◌, ap, subst, arith, List, [], ◌∷◌, true, false, Bool}
use Rattle.std.specs.List.{All}
use Rattle.std.proofs.lemmas.List.Elements.{All-from_recursion}
use Rattle.cmm_words.specs.declared.width.Width.TheVariants.{W8, W16, W64}
use Rattle.cmm_words.specs.declared.constant.Constant.TheVariants.{Number, Code, Address}
use Rattle.cmm_program.specs.declared.program.Program.{Program}
use Rattle.cmm_program.specs.declared.program.Datum.{Datum}
use Rattle.cmm_program.specs.declared.program.Label.{Label}
use Rattle.cmm_program.specs.Layout.{data_bytes, label_addresses}
use Rattle.cmm_program.proofs.Shared.{datum, frame, placed, program}
use Rattle.cmm_data.specs.Conditions.{CanBeLaidOut, IsLayable, IsOnDatum, IsThere, MayStandIn}
use Rattle.cmm_data.specs.Filling.{AreApart, IsWaiting, code_in, filled, fix_value, procedure_addresses}
use Rattle.cmm_data.specs.declared.fix.Fix.{Fix}

-- a label without a name, on a datum or at an end
abbrev pub label : ℕ → Bool → Label
label number at_end = record { name = []; links = []; datum = number; at_end = at_end }

abbrev pub with_data : List Datum → List Label → Program
with_data datums labels = record (program []) { datums = datums; labels = labels }

--     section "data" { msg: bits8[] "bad\n"; align 8; tag: bits64 { 3, 5 }; end: }
abbrev pub message : Datum
message = datum 1 4 W8 (Number 98 W8 ∷ Number 97 W8 ∷ Number 100 W8 ∷ Number 10 W8 ∷ [])

abbrev pub padding : Datum
padding = datum 8 0 W8 []

abbrev pub tags : Datum
tags = datum 8 16 W64 (Number 3 W64 ∷ Number 5 W64 ∷ [])

abbrev pub tagged : Program
tagged = with_data (message ∷ padding ∷ tags ∷ []) (label 0 false ∷ label 2 false ∷ label 3 true ∷ [])

tagged_addresses : label_addresses tagged ≡ 0x40000000 ∷ 0x40000008 ∷ 0x40000018 ∷ []
tagged_addresses = refl

tagged_bytes : data_bytes tagged (placed []) ≡
    98 ∷ 97 ∷ 100 ∷ 10 ∷ 0 ∷ 0 ∷ 0 ∷ 0 ∷ 3 ∷ 0 ∷ 0 ∷ 0 ∷ 0 ∷ 0 ∷ 0 ∷ 0 ∷ 5 ∷ 0 ∷ 0 ∷ 0 ∷ 0 ∷ 0 ∷ 0 ∷ 0 ∷ []
tagged_bytes = refl

message_layable : IsLayable 3 message
message_layable = record {
  align = omega arith;
  length = refl;
  there = All-from_recursion (IsThere 3) message.values (tt, (tt, (tt, (tt, tt))));
  width = All-from_recursion (MayStandIn W8) message.values (tt, (tt, (tt, (tt, tt))));
}

padding_layable : IsLayable 3 padding
padding_layable = record {
  align = omega arith;
  length = tt;
  there = All-from_recursion (IsThere 3) [] tt;
  width = All-from_recursion (MayStandIn W8) [] tt;
}

tags_layable : IsLayable 3 tags
tags_layable = record {
  align = omega arith;
  length = refl;
  there = All-from_recursion (IsThere 3) tags.values (tt, (tt, tt));
  width = All-from_recursion (MayStandIn W64) tags.values (tt, (tt, tt));
}

pub tagged_can : CanBeLaidOut tagged
tagged_can = record {
  datums = All-from_recursion (IsLayable 3) tagged.datums (message_layable, (padding_layable, (tags_layable, tt)));
  labels = All-from_recursion (IsOnDatum 3) tagged.labels (omega arith, (omega arith, (omega arith, tt)));
  size = omega arith;
}

-- a program that is made of these parts
pub tagged_made : (p : Program) (ds : List Datum) (ls : List Label) (first second third : Datum) (a b d : Label) → first ≡ message → second ≡ padding → third ≡ tags →
    ds ≡ first ∷ second ∷ third ∷ [] → a ≡ label 0 false → b ≡ label 2 false → d ≡ label 3 true → ls ≡ a ∷ b ∷ d ∷ [] → p ≡ with_data ds ls → CanBeLaidOut p
tagged_made p ds ls first second third a b d e f g datums h i j labels is =
    let data_are : ds ≡ tagged.datums =
    datums ∙ ap (λ (x : Datum). x ∷ second ∷ third ∷ []) e ∙ ap (λ (x : Datum). message ∷ x ∷ third ∷ []) f ∙ ap (λ (x : Datum). message ∷ padding ∷ x ∷ []) g
    in
    let labels_are : ls ≡ tagged.labels =
    labels ∙ ap (λ (x : Label). x ∷ b ∷ d ∷ []) h ∙ ap (λ (x : Label). label 0 false ∷ x ∷ d ∷ []) i ∙ ap (λ (x : Label). label 0 false ∷ label 2 false ∷ x ∷ []) j
    in
    let same : p ≡ tagged = is ∙ ap (λ (ds : List Datum). with_data ds ls) data_are ∙ ap (λ (ls : List Label). with_data tagged.datums ls) labels_are in
    subst CanBeLaidOut (sym same) tagged_can

-- Zeros, a word, and the addresses of two procedures and of a label between them, whose word stands behind padding:
--     section "data" { bits8[3]; half: bits16 { 0x1234 }; middle: }
--     section "data" { align 8; bits64 { f + 4, middle + 8, g - 2 }; }
abbrev pub zeros : Datum
zeros = datum 1 3 W8 []

abbrev pub half : Datum
half = datum 2 2 W16 (Number 0x1234 W16 ∷ [])

abbrev pub pointers : Datum
pointers = datum 8 24 W64 (Code 0 4 ∷ Address 1 8 ∷ Code 1 0xFFFF_FFFF_FFFF_FFFE ∷ [])

abbrev pub mixed : Program
mixed = with_data (zeros ∷ half ∷ pointers ∷ []) (label 1 false ∷ label 2 true ∷ label 0 true ∷ [])

mixed_addresses : label_addresses mixed ≡ 0x40000004 ∷ 0x40000006 ∷ 0x40000000 ∷ []
mixed_addresses = refl

mixed_procedures : procedure_addresses mixed ≡ (0, 4) ∷ (1, 0xFFFF_FFFF_FFFF_FFFE) ∷ []
mixed_procedures = refl

-- what is to be filled, and the bytes that wait for it
abbrev fixes : List Fix
fixes = record { place = 8; procedure = 0; plus = 4 } ∷ record { place = 24; procedure = 1; plus = 0xFFFF_FFFF_FFFF_FFFE } ∷ []

abbrev waiting : List ℕ
waiting =
    0 ∷ 0 ∷ 0 ∷ 0 ∷ 0x34 ∷ 0x12 ∷ 0 ∷ 0
    ∷ 0 ∷ 0 ∷ 0 ∷ 0 ∷ 0 ∷ 0 ∷ 0 ∷ 0
    ∷ 0x0E ∷ 0 ∷ 0 ∷ 0x40 ∷ 0 ∷ 0 ∷ 0 ∷ 0
    ∷ 0 ∷ 0 ∷ 0 ∷ 0 ∷ 0 ∷ 0 ∷ 0 ∷ 0 ∷ []

mixed_bytes : data_bytes mixed (placed (frame 0 ∷ frame 0 ∷ [])) ≡
    0 ∷ 0 ∷ 0 ∷ 0 ∷ 0x34 ∷ 0x12 ∷ 0 ∷ 0
    ∷ 4 ∷ 0 ∷ 1 ∷ 0 ∷ 0 ∷ 0 ∷ 0 ∷ 0
    ∷ 0x0E ∷ 0 ∷ 0 ∷ 0x40 ∷ 0 ∷ 0 ∷ 0 ∷ 0
    ∷ 0xFE ∷ 0x0F ∷ 1 ∷ 0 ∷ 0 ∷ 0 ∷ 0 ∷ 0 ∷ []
mixed_bytes = refl

mixed_filled : filled (code_in (placed (frame 0 ∷ frame 0 ∷ []))) fixes waiting ≡ data_bytes mixed (placed (frame 0 ∷ frame 0 ∷ []))
mixed_filled = refl

mixed_apart : AreApart 0 fixes 32
mixed_apart = (omega arith, (omega arith, omega arith))

mixed_waiting : All (IsWaiting waiting) fixes
mixed_waiting = All-from_recursion (IsWaiting waiting) fixes (refl, (refl, tt))

zeros_layable : IsLayable 3 zeros
zeros_layable = record {
  align = omega arith;
  length = tt;
  there = All-from_recursion (IsThere 3) [] tt;
  width = All-from_recursion (MayStandIn W8) [] tt;
}

half_layable : IsLayable 3 half
half_layable = record {
  align = omega arith;
  length = refl;
  there = All-from_recursion (IsThere 3) half.values (tt, tt);
  width = All-from_recursion (MayStandIn W16) half.values (tt, tt);
}

pointers_layable : IsLayable 3 pointers
pointers_layable = record {
  align = omega arith;
  length = refl;
  there = All-from_recursion (IsThere 3) pointers.values (tt, (omega arith, (tt, tt)));
  width = All-from_recursion (MayStandIn W64) pointers.values (refl, (tt, (refl, tt)));
}

pub mixed_can : CanBeLaidOut mixed
mixed_can = record {
  datums = All-from_recursion (IsLayable 3) mixed.datums (zeros_layable, (half_layable, (pointers_layable, tt)));
  labels = All-from_recursion (IsOnDatum 3) mixed.labels (omega arith, (omega arith, (omega arith, tt)));
  size = omega arith;
}

-- a program that is made of these parts
pub mixed_made : (p : Program) (ds : List Datum) (ls : List Label) (first second third : Datum) (a b d : Label) → first ≡ zeros → second ≡ half → third ≡ pointers →
    ds ≡ first ∷ second ∷ third ∷ [] → a ≡ label 1 false → b ≡ label 2 true → d ≡ label 0 true → ls ≡ a ∷ b ∷ d ∷ [] → p ≡ with_data ds ls → CanBeLaidOut p
mixed_made p ds ls first second third a b d e f g datums h i j labels is =
    let data_are : ds ≡ mixed.datums =
    datums ∙ ap (λ (x : Datum). x ∷ second ∷ third ∷ []) e ∙ ap (λ (x : Datum). zeros ∷ x ∷ third ∷ []) f ∙ ap (λ (x : Datum). zeros ∷ half ∷ x ∷ []) g
    in
    let labels_are : ls ≡ mixed.labels =
    labels ∙ ap (λ (x : Label). x ∷ b ∷ d ∷ []) h ∙ ap (λ (x : Label). label 1 false ∷ x ∷ d ∷ []) i ∙ ap (λ (x : Label). label 1 false ∷ label 2 true ∷ x ∷ []) j
    in
    let same : p ≡ mixed = is ∙ ap (λ (ds : List Datum). with_data ds ls) data_are ∙ ap (λ (ls : List Label). with_data mixed.datums ls) labels_are in
    subst CanBeLaidOut (sym same) mixed_can

-- a label where there is no data
abbrev pub none : Program
none = with_data [] (label 0 true ∷ [])

none_addresses : label_addresses none ≡ 0x40000000 ∷ []
none_addresses = refl

pub none_can : CanBeLaidOut none
none_can = record {
  datums = All-from_recursion (IsLayable 1) [] tt;
  labels = All-from_recursion (IsOnDatum 0) none.labels (omega arith, tt);
  size = omega arith;
}

-- an address is modulo 2 ^ 64
wraps : fix_value 0x10000 record { place = 0; procedure = 0; plus = 0xFFFF_FFFF_FFFF_0000 } ≡ 0
wraps = refl
