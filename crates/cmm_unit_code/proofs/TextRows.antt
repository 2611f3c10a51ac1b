-- Worked rows of what is asked of a text: of two procedures, the first with a site that has one alternate exit.
use Rattle.std.proofs.Common.{◌≡◌, ◌+◌, ◌*◌, [], ◌∷◌, refl, true, false, Some, None}
use Rattle.cmm_program.specs.declared.procedure.Site.{Site}
use Rattle.cmm_image.specs.ImageFormat.{is_in_code}
use Rattle.cmm_unit_code.specs.Texts.{IsSiteAt, address_in, ascend_above}

-- procedures ascend, and no two begin at one address
ascending : ascend_above 0 (0x10000 ∷ 0x1000c ∷ []) ≡ true
ascending = refl

equal_is_not : ascend_above 0 (0x10000 ∷ 0x10000 ∷ []) ≡ false
equal_is_not = refl

back_is_not : ascend_above 0 (0x1000c ∷ 0x10000 ∷ []) ≡ false
back_is_not = refl

-- an address by the number of its procedure and its own
second_of_first : address_in ((0x10008 ∷ 0x10014 ∷ []) ∷ (0x1001c ∷ []) ∷ []) 0 1 ≡ Some 0x10014
second_of_first = refl

first_of_second : address_in ((0x10008 ∷ 0x10014 ∷ []) ∷ (0x1001c ∷ []) ∷ []) 1 0 ≡ Some 0x1001c
first_of_second = refl

no_such_site : address_in ((0x10008 ∷ 0x10014 ∷ []) ∷ (0x1001c ∷ []) ∷ []) 1 1 ≡ None
no_such_site = refl

no_such_procedure : address_in ((0x10008 ∷ 0x10014 ∷ []) ∷ (0x1001c ∷ []) ∷ []) 2 0 ≡ None
no_such_procedure = refl

-- a site with one alternate exit may stand at the last word but one of 32 bytes of code, and not at the last
abbrev one_exit : Site
one_exit = record { results = []; returns = 0 ∷ []; unwinds = []; cuts = []; aborts = false; never = false; yield_values = None; spans = [] }

room_for_exit : IsSiteAt 32 one_exit 0x10018
room_for_exit = (refl, refl)

no_room_for_exit : is_in_code 32 (0x1001c + 4 * 1) ≡ false
no_room_for_exit = refl
