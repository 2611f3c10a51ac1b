-- The words of parts with labels near and far, at the edge of reach too, as the GNU assembler and linker make them: made by tools/riscv_parts.py.
use Rattle.std.proofs.Common.{◌≡◌, ℕ, refl}
use Rattle.std.specs.Prelude.{List, [], ◌∷◌, true}
use Rattle.std.specs.Int.{w32, to_le_bytes}
use Rattle.std.specs.List.{flat_map}
use Rattle.cmm_words.specs.declared.operators.Cmp.{Cmp}
use Rattle.cmm_words.specs.declared.operators.Cmp.TheVariants.{Eq, Ne, Lt, Ge, Ltu, Geu}
use Rattle.rv_table.specs.Stands.{code_of}
use Rattle.rv_asm.specs.inside.Forms.{instructions, number_of, unfilled}
use Rattle.rv_asm.specs.declared.part.Label.{Label}
use Rattle.rv_asm.specs.declared.part.Meaning.TheVariants.{Inner}
use Rattle.rv_asm.specs.declared.part.Part.{Part}
use Rattle.rv_asm.specs.declared.part.Part.TheVariants.{Branch, Jump, Call, Address, Table}

abbrev words : List ℕ → List ℕ
words ws = flat_map (to_le_bytes w32) ws

abbrev l : Label
l = record { number = 0 }

-- the bytes of a part at an address whose label has a place
abbrev made : Part → ℕ → ℕ → List ℕ
made part place from = code_of (instructions (number_of (Inner true ∷ []) (place ∷ []) unfilled) (place ∷ []) (Inner true ∷ []) from part)

abbrev branch : Cmp → Part
branch c = Branch c 10 31 l

-- ---- jump

jump_1 : made (Jump l) 0x10000 0x3fff0000 ≡ words (0xc0020317 ∷ 0x00030067 ∷ [])
jump_1 = refl

jump_2 : made (Jump l) 0x3fff0000 0x10000 ≡ words (0x3ffe0317 ∷ 0x00030067 ∷ [])
jump_2 = refl

jump_3 : made (Jump l) 0x10000 0x10000 ≡ words (0x0000006f ∷ [])
jump_3 = refl

jump_4 : made (Jump l) 0x3fff0000 0x3fff0000 ≡ words (0x0000006f ∷ [])
jump_4 = refl

jump_5 : made (Jump l) 0x210000 0x210000 ≡ words (0x0000006f ∷ [])
jump_5 = refl

jump_6 : made (Jump l) 0x210004 0x210000 ≡ words (0x0040006f ∷ [])
jump_6 = refl

jump_7 : made (Jump l) 0x20fffc 0x210000 ≡ words (0xffdff06f ∷ [])
jump_7 = refl

jump_8 : made (Jump l) 0x2107fc 0x210000 ≡ words (0x7fc0006f ∷ [])
jump_8 = refl

jump_9 : made (Jump l) 0x210800 0x210000 ≡ words (0x0010006f ∷ [])
jump_9 = refl

jump_10 : made (Jump l) 0x20f800 0x210000 ≡ words (0x801ff06f ∷ [])
jump_10 = refl

jump_11 : made (Jump l) 0x20f7fc 0x210000 ≡ words (0xffcff06f ∷ [])
jump_11 = refl

jump_12 : made (Jump l) 0x210ffc 0x210000 ≡ words (0x7fd0006f ∷ [])
jump_12 = refl

jump_13 : made (Jump l) 0x20f000 0x210000 ≡ words (0x800ff06f ∷ [])
jump_13 = refl

jump_14 : made (Jump l) 0x30fffc 0x210000 ≡ words (0x7fdff06f ∷ [])
jump_14 = refl

jump_15 : made (Jump l) 0x110000 0x210000 ≡ words (0x8000006f ∷ [])
jump_15 = refl

jump_16 : made (Jump l) 0x30fffe 0x210000 ≡ words (0x7ffff06f ∷ [])
jump_16 = refl

jump_17 : made (Jump l) 0x310000 0x210000 ≡ words (0x00100317 ∷ 0x00030067 ∷ [])
jump_17 = refl

jump_18 : made (Jump l) 0x10fffe 0x210000 ≡ words (0xfff00317 ∷ 0xffe30067 ∷ [])
jump_18 = refl

-- ---- call

call_1 : made (Call l) 0x10000 0x3fff0000 ≡ words (0xc0020097 ∷ 0x000080e7 ∷ [])
call_1 = refl

call_2 : made (Call l) 0x3fff0000 0x10000 ≡ words (0x3ffe0097 ∷ 0x000080e7 ∷ [])
call_2 = refl

call_3 : made (Call l) 0x10000 0x10000 ≡ words (0x000000ef ∷ [])
call_3 = refl

call_4 : made (Call l) 0x3fff0000 0x3fff0000 ≡ words (0x000000ef ∷ [])
call_4 = refl

call_5 : made (Call l) 0x210000 0x210000 ≡ words (0x000000ef ∷ [])
call_5 = refl

call_6 : made (Call l) 0x210004 0x210000 ≡ words (0x004000ef ∷ [])
call_6 = refl

call_7 : made (Call l) 0x20fffc 0x210000 ≡ words (0xffdff0ef ∷ [])
call_7 = refl

call_8 : made (Call l) 0x2107fc 0x210000 ≡ words (0x7fc000ef ∷ [])
call_8 = refl

call_9 : made (Call l) 0x210800 0x210000 ≡ words (0x001000ef ∷ [])
call_9 = refl

call_10 : made (Call l) 0x20f800 0x210000 ≡ words (0x801ff0ef ∷ [])
call_10 = refl

call_11 : made (Call l) 0x20f7fc 0x210000 ≡ words (0xffcff0ef ∷ [])
call_11 = refl

call_12 : made (Call l) 0x210ffc 0x210000 ≡ words (0x7fd000ef ∷ [])
call_12 = refl

call_13 : made (Call l) 0x20f000 0x210000 ≡ words (0x800ff0ef ∷ [])
call_13 = refl

call_14 : made (Call l) 0x30fffc 0x210000 ≡ words (0x7fdff0ef ∷ [])
call_14 = refl

call_15 : made (Call l) 0x110000 0x210000 ≡ words (0x800000ef ∷ [])
call_15 = refl

call_16 : made (Call l) 0x30fffe 0x210000 ≡ words (0x7ffff0ef ∷ [])
call_16 = refl

call_17 : made (Call l) 0x310000 0x210000 ≡ words (0x00100097 ∷ 0x000080e7 ∷ [])
call_17 = refl

call_18 : made (Call l) 0x10fffe 0x210000 ≡ words (0xfff00097 ∷ 0xffe080e7 ∷ [])
call_18 = refl

-- ---- address

address_1 : made (Address 31 l) 0x10000 0x3fff0000 ≡ words (0xc0020f97 ∷ 0x000f8f93 ∷ [])
address_1 = refl

address_2 : made (Address 31 l) 0x3fff0000 0x10000 ≡ words (0x3ffe0f97 ∷ 0x000f8f93 ∷ [])
address_2 = refl

address_3 : made (Address 31 l) 0x10000 0x10000 ≡ words (0x00000f97 ∷ 0x000f8f93 ∷ [])
address_3 = refl

address_4 : made (Address 31 l) 0x3fff0000 0x3fff0000 ≡ words (0x00000f97 ∷ 0x000f8f93 ∷ [])
address_4 = refl

address_5 : made (Address 31 l) 0x210000 0x210000 ≡ words (0x00000f97 ∷ 0x000f8f93 ∷ [])
address_5 = refl

address_6 : made (Address 31 l) 0x210004 0x210000 ≡ words (0x00000f97 ∷ 0x004f8f93 ∷ [])
address_6 = refl

address_7 : made (Address 31 l) 0x20fffc 0x210000 ≡ words (0x00000f97 ∷ 0xffcf8f93 ∷ [])
address_7 = refl

address_8 : made (Address 31 l) 0x2107fc 0x210000 ≡ words (0x00000f97 ∷ 0x7fcf8f93 ∷ [])
address_8 = refl

address_9 : made (Address 31 l) 0x210800 0x210000 ≡ words (0x00001f97 ∷ 0x800f8f93 ∷ [])
address_9 = refl

address_10 : made (Address 31 l) 0x20f800 0x210000 ≡ words (0x00000f97 ∷ 0x800f8f93 ∷ [])
address_10 = refl

address_11 : made (Address 31 l) 0x20f7fc 0x210000 ≡ words (0xffffff97 ∷ 0x7fcf8f93 ∷ [])
address_11 = refl

address_12 : made (Address 31 l) 0x210ffc 0x210000 ≡ words (0x00001f97 ∷ 0xffcf8f93 ∷ [])
address_12 = refl

address_13 : made (Address 31 l) 0x20f000 0x210000 ≡ words (0xffffff97 ∷ 0x000f8f93 ∷ [])
address_13 = refl

address_14 : made (Address 31 l) 0x30fffc 0x210000 ≡ words (0x00100f97 ∷ 0xffcf8f93 ∷ [])
address_14 = refl

address_15 : made (Address 31 l) 0x110000 0x210000 ≡ words (0xfff00f97 ∷ 0x000f8f93 ∷ [])
address_15 = refl

address_16 : made (Address 31 l) 0x30fffe 0x210000 ≡ words (0x00100f97 ∷ 0xffef8f93 ∷ [])
address_16 = refl

address_17 : made (Address 31 l) 0x310000 0x210000 ≡ words (0x00100f97 ∷ 0x000f8f93 ∷ [])
address_17 = refl

address_18 : made (Address 31 l) 0x10fffe 0x210000 ≡ words (0xfff00f97 ∷ 0xffef8f93 ∷ [])
address_18 = refl

-- ---- branch

branch_eq_1 : made (branch Eq) 0x10000 0x3fff0000 ≡ words (0x01f51663 ∷ 0xc0020317 ∷ 0xffc30067 ∷ [])
branch_eq_1 = refl

branch_eq_2 : made (branch Eq) 0x3fff0000 0x10000 ≡ words (0x01f51663 ∷ 0x3ffe0317 ∷ 0xffc30067 ∷ [])
branch_eq_2 = refl

branch_eq_3 : made (branch Eq) 0x210004 0x210000 ≡ words (0x01f50263 ∷ [])
branch_eq_3 = refl

branch_eq_4 : made (branch Eq) 0x20f7fc 0x210000 ≡ words (0xfff50e63 ∷ [])
branch_eq_4 = refl

branch_eq_5 : made (branch Eq) 0x210ffe 0x210000 ≡ words (0x7ff50fe3 ∷ [])
branch_eq_5 = refl

branch_eq_6 : made (branch Eq) 0x211000 0x210000 ≡ words (0x01f51663 ∷ 0x00001317 ∷ 0xffc30067 ∷ [])
branch_eq_6 = refl

branch_eq_7 : made (branch Eq) 0x20f000 0x210000 ≡ words (0x81f50063 ∷ [])
branch_eq_7 = refl

branch_eq_8 : made (branch Eq) 0x20effe 0x210000 ≡ words (0x01f51663 ∷ 0xfffff317 ∷ 0xffa30067 ∷ [])
branch_eq_8 = refl

branch_ne_1 : made (branch Ne) 0x10000 0x3fff0000 ≡ words (0x01f50663 ∷ 0xc0020317 ∷ 0xffc30067 ∷ [])
branch_ne_1 = refl

branch_ne_2 : made (branch Ne) 0x3fff0000 0x10000 ≡ words (0x01f50663 ∷ 0x3ffe0317 ∷ 0xffc30067 ∷ [])
branch_ne_2 = refl

branch_ne_3 : made (branch Ne) 0x210004 0x210000 ≡ words (0x01f51263 ∷ [])
branch_ne_3 = refl

branch_ne_4 : made (branch Ne) 0x20f7fc 0x210000 ≡ words (0xfff51e63 ∷ [])
branch_ne_4 = refl

branch_ne_5 : made (branch Ne) 0x210ffe 0x210000 ≡ words (0x7ff51fe3 ∷ [])
branch_ne_5 = refl

branch_ne_6 : made (branch Ne) 0x211000 0x210000 ≡ words (0x01f50663 ∷ 0x00001317 ∷ 0xffc30067 ∷ [])
branch_ne_6 = refl

branch_ne_7 : made (branch Ne) 0x20f000 0x210000 ≡ words (0x81f51063 ∷ [])
branch_ne_7 = refl

branch_ne_8 : made (branch Ne) 0x20effe 0x210000 ≡ words (0x01f50663 ∷ 0xfffff317 ∷ 0xffa30067 ∷ [])
branch_ne_8 = refl

branch_lt_1 : made (branch Lt) 0x10000 0x3fff0000 ≡ words (0x01f55663 ∷ 0xc0020317 ∷ 0xffc30067 ∷ [])
branch_lt_1 = refl

branch_lt_2 : made (branch Lt) 0x3fff0000 0x10000 ≡ words (0x01f55663 ∷ 0x3ffe0317 ∷ 0xffc30067 ∷ [])
branch_lt_2 = refl

branch_lt_3 : made (branch Lt) 0x210004 0x210000 ≡ words (0x01f54263 ∷ [])
branch_lt_3 = refl

branch_lt_4 : made (branch Lt) 0x20f7fc 0x210000 ≡ words (0xfff54e63 ∷ [])
branch_lt_4 = refl

branch_lt_5 : made (branch Lt) 0x210ffe 0x210000 ≡ words (0x7ff54fe3 ∷ [])
branch_lt_5 = refl

branch_lt_6 : made (branch Lt) 0x211000 0x210000 ≡ words (0x01f55663 ∷ 0x00001317 ∷ 0xffc30067 ∷ [])
branch_lt_6 = refl

branch_lt_7 : made (branch Lt) 0x20f000 0x210000 ≡ words (0x81f54063 ∷ [])
branch_lt_7 = refl

branch_lt_8 : made (branch Lt) 0x20effe 0x210000 ≡ words (0x01f55663 ∷ 0xfffff317 ∷ 0xffa30067 ∷ [])
branch_lt_8 = refl

branch_ge_1 : made (branch Ge) 0x10000 0x3fff0000 ≡ words (0x01f54663 ∷ 0xc0020317 ∷ 0xffc30067 ∷ [])
branch_ge_1 = refl

branch_ge_2 : made (branch Ge) 0x3fff0000 0x10000 ≡ words (0x01f54663 ∷ 0x3ffe0317 ∷ 0xffc30067 ∷ [])
branch_ge_2 = refl

branch_ge_3 : made (branch Ge) 0x210004 0x210000 ≡ words (0x01f55263 ∷ [])
branch_ge_3 = refl

branch_ge_4 : made (branch Ge) 0x20f7fc 0x210000 ≡ words (0xfff55e63 ∷ [])
branch_ge_4 = refl

branch_ge_5 : made (branch Ge) 0x210ffe 0x210000 ≡ words (0x7ff55fe3 ∷ [])
branch_ge_5 = refl

branch_ge_6 : made (branch Ge) 0x211000 0x210000 ≡ words (0x01f54663 ∷ 0x00001317 ∷ 0xffc30067 ∷ [])
branch_ge_6 = refl

branch_ge_7 : made (branch Ge) 0x20f000 0x210000 ≡ words (0x81f55063 ∷ [])
branch_ge_7 = refl

branch_ge_8 : made (branch Ge) 0x20effe 0x210000 ≡ words (0x01f54663 ∷ 0xfffff317 ∷ 0xffa30067 ∷ [])
branch_ge_8 = refl

branch_ltu_1 : made (branch Ltu) 0x10000 0x3fff0000 ≡ words (0x01f57663 ∷ 0xc0020317 ∷ 0xffc30067 ∷ [])
branch_ltu_1 = refl

branch_ltu_2 : made (branch Ltu) 0x3fff0000 0x10000 ≡ words (0x01f57663 ∷ 0x3ffe0317 ∷ 0xffc30067 ∷ [])
branch_ltu_2 = refl

branch_ltu_3 : made (branch Ltu) 0x210004 0x210000 ≡ words (0x01f56263 ∷ [])
branch_ltu_3 = refl

branch_ltu_4 : made (branch Ltu) 0x20f7fc 0x210000 ≡ words (0xfff56e63 ∷ [])
branch_ltu_4 = refl

branch_ltu_5 : made (branch Ltu) 0x210ffe 0x210000 ≡ words (0x7ff56fe3 ∷ [])
branch_ltu_5 = refl

branch_ltu_6 : made (branch Ltu) 0x211000 0x210000 ≡ words (0x01f57663 ∷ 0x00001317 ∷ 0xffc30067 ∷ [])
branch_ltu_6 = refl

branch_ltu_7 : made (branch Ltu) 0x20f000 0x210000 ≡ words (0x81f56063 ∷ [])
branch_ltu_7 = refl

branch_ltu_8 : made (branch Ltu) 0x20effe 0x210000 ≡ words (0x01f57663 ∷ 0xfffff317 ∷ 0xffa30067 ∷ [])
branch_ltu_8 = refl

branch_geu_1 : made (branch Geu) 0x10000 0x3fff0000 ≡ words (0x01f56663 ∷ 0xc0020317 ∷ 0xffc30067 ∷ [])
branch_geu_1 = refl

branch_geu_2 : made (branch Geu) 0x3fff0000 0x10000 ≡ words (0x01f56663 ∷ 0x3ffe0317 ∷ 0xffc30067 ∷ [])
branch_geu_2 = refl

branch_geu_3 : made (branch Geu) 0x210004 0x210000 ≡ words (0x01f57263 ∷ [])
branch_geu_3 = refl

branch_geu_4 : made (branch Geu) 0x20f7fc 0x210000 ≡ words (0xfff57e63 ∷ [])
branch_geu_4 = refl

branch_geu_5 : made (branch Geu) 0x210ffe 0x210000 ≡ words (0x7ff57fe3 ∷ [])
branch_geu_5 = refl

branch_geu_6 : made (branch Geu) 0x211000 0x210000 ≡ words (0x01f56663 ∷ 0x00001317 ∷ 0xffc30067 ∷ [])
branch_geu_6 = refl

branch_geu_7 : made (branch Geu) 0x20f000 0x210000 ≡ words (0x81f57063 ∷ [])
branch_geu_7 = refl

branch_geu_8 : made (branch Geu) 0x20effe 0x210000 ≡ words (0x01f56663 ∷ 0xfffff317 ∷ 0xffa30067 ∷ [])
branch_geu_8 = refl

-- ---- tables of one label

table_of_1 : made (Table (l ∷ [])) 0x3fff0000 0x10000 ≡ words (0x0080006f ∷ 0x00c0006f ∷ 0x3ffe0317 ∷ 0xff830067 ∷ [])
table_of_1 = refl

table_of_2 : made (Table (l ∷ l ∷ [])) 0x3fff0000 0x10000 ≡ words (0x00c0006f ∷ 0x0100006f ∷ 0x0140006f ∷ 0x3ffe0317 ∷ 0xff430067 ∷ 0x3ffe0317 ∷ 0xfec30067 ∷ [])
table_of_2 = refl

table_of_64 : made (Table (l ∷ l ∷ l ∷ l ∷ l ∷ l ∷ l ∷ l ∷ l ∷ l ∷ l ∷ l ∷ l ∷ l ∷ l ∷ l ∷ l ∷ l ∷ l ∷ l ∷ l ∷ l ∷ l ∷ l ∷ l ∷ l ∷ l ∷ l ∷ l ∷ l ∷ l ∷ l ∷ l ∷ l ∷ l ∷ l ∷ l ∷ l ∷ l ∷ l ∷ l ∷ l ∷ l ∷ l ∷ l ∷ l ∷ l ∷ l ∷ l ∷ l ∷ l ∷ l ∷ l ∷ l ∷ l ∷ l ∷ l ∷ l ∷ l ∷ l ∷ l ∷ l ∷ l ∷ l ∷ [])) 0x3fff0000 0x10000 ≡ words (0x1040006f ∷ 0x1080006f ∷ 0x10c0006f ∷ 0x1100006f ∷ 0x1140006f ∷ 0x1180006f ∷ 0x11c0006f ∷ 0x1200006f ∷ 0x1240006f ∷ 0x1280006f ∷ 0x12c0006f ∷ 0x1300006f ∷ 0x1340006f ∷ 0x1380006f ∷ 0x13c0006f ∷ 0x1400006f ∷ 0x1440006f ∷ 0x1480006f ∷ 0x14c0006f ∷ 0x1500006f ∷ 0x1540006f ∷ 0x1580006f ∷ 0x15c0006f ∷ 0x1600006f ∷ 0x1640006f ∷ 0x1680006f ∷ 0x16c0006f ∷ 0x1700006f ∷ 0x1740006f ∷ 0x1780006f ∷ 0x17c0006f ∷ 0x1800006f ∷ 0x1840006f ∷ 0x1880006f ∷ 0x18c0006f ∷ 0x1900006f ∷ 0x1940006f ∷ 0x1980006f ∷ 0x19c0006f ∷ 0x1a00006f ∷ 0x1a40006f ∷ 0x1a80006f ∷ 0x1ac0006f ∷ 0x1b00006f ∷ 0x1b40006f ∷ 0x1b80006f ∷ 0x1bc0006f ∷ 0x1c00006f ∷ 0x1c40006f ∷ 0x1c80006f ∷ 0x1cc0006f ∷ 0x1d00006f ∷ 0x1d40006f ∷ 0x1d80006f ∷ 0x1dc0006f ∷ 0x1e00006f ∷ 0x1e40006f ∷ 0x1e80006f ∷ 0x1ec0006f ∷ 0x1f00006f ∷ 0x1f40006f ∷ 0x1f80006f ∷ 0x1fc0006f ∷ 0x2000006f ∷ 0x2040006f ∷ 0x3ffe0317 ∷ 0xefc30067 ∷ 0x3ffe0317 ∷ 0xef430067 ∷ 0x3ffe0317 ∷ 0xeec30067 ∷ 0x3ffe0317 ∷ 0xee430067 ∷ 0x3ffe0317 ∷ 0xedc30067 ∷ 0x3ffe0317 ∷ 0xed430067 ∷ 0x3ffe0317 ∷ 0xecc30067 ∷ 0x3ffe0317 ∷ 0xec430067 ∷ 0x3ffe0317 ∷ 0xebc30067 ∷ 0x3ffe0317 ∷ 0xeb430067 ∷ 0x3ffe0317 ∷ 0xeac30067 ∷ 0x3ffe0317 ∷ 0xea430067 ∷ 0x3ffe0317 ∷ 0xe9c30067 ∷ 0x3ffe0317 ∷ 0xe9430067 ∷ 0x3ffe0317 ∷ 0xe8c30067 ∷ 0x3ffe0317 ∷ 0xe8430067 ∷ 0x3ffe0317 ∷ 0xe7c30067 ∷ 0x3ffe0317 ∷ 0xe7430067 ∷ 0x3ffe0317 ∷ 0xe6c30067 ∷ 0x3ffe0317 ∷ 0xe6430067 ∷ 0x3ffe0317 ∷ 0xe5c30067 ∷ 0x3ffe0317 ∷ 0xe5430067 ∷ 0x3ffe0317 ∷ 0xe4c30067 ∷ 0x3ffe0317 ∷ 0xe4430067 ∷ 0x3ffe0317 ∷ 0xe3c30067 ∷ 0x3ffe0317 ∷ 0xe3430067 ∷ 0x3ffe0317 ∷ 0xe2c30067 ∷ 0x3ffe0317 ∷ 0xe2430067 ∷ 0x3ffe0317 ∷ 0xe1c30067 ∷ 0x3ffe0317 ∷ 0xe1430067 ∷ 0x3ffe0317 ∷ 0xe0c30067 ∷ 0x3ffe0317 ∷ 0xe0430067 ∷ 0x3ffe0317 ∷ 0xdfc30067 ∷ 0x3ffe0317 ∷ 0xdf430067 ∷ 0x3ffe0317 ∷ 0xdec30067 ∷ 0x3ffe0317 ∷ 0xde430067 ∷ 0x3ffe0317 ∷ 0xddc30067 ∷ 0x3ffe0317 ∷ 0xdd430067 ∷ 0x3ffe0317 ∷ 0xdcc30067 ∷ 0x3ffe0317 ∷ 0xdc430067 ∷ 0x3ffe0317 ∷ 0xdbc30067 ∷ 0x3ffe0317 ∷ 0xdb430067 ∷ 0x3ffe0317 ∷ 0xdac30067 ∷ 0x3ffe0317 ∷ 0xda430067 ∷ 0x3ffe0317 ∷ 0xd9c30067 ∷ 0x3ffe0317 ∷ 0xd9430067 ∷ 0x3ffe0317 ∷ 0xd8c30067 ∷ 0x3ffe0317 ∷ 0xd8430067 ∷ 0x3ffe0317 ∷ 0xd7c30067 ∷ 0x3ffe0317 ∷ 0xd7430067 ∷ 0x3ffe0317 ∷ 0xd6c30067 ∷ 0x3ffe0317 ∷ 0xd6430067 ∷ 0x3ffe0317 ∷ 0xd5c30067 ∷ 0x3ffe0317 ∷ 0xd5430067 ∷ 0x3ffe0317 ∷ 0xd4c30067 ∷ 0x3ffe0317 ∷ 0xd4430067 ∷ 0x3ffe0317 ∷ 0xd3c30067 ∷ 0x3ffe0317 ∷ 0xd3430067 ∷ 0x3ffe0317 ∷ 0xd2c30067 ∷ 0x3ffe0317 ∷ 0xd2430067 ∷ 0x3ffe0317 ∷ 0xd1c30067 ∷ 0x3ffe0317 ∷ 0xd1430067 ∷ 0x3ffe0317 ∷ 0xd0c30067 ∷ 0x3ffe0317 ∷ 0xd0430067 ∷ [])
table_of_64 = refl
