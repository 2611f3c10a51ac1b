-- Numbers that are all where they are to be were put there one after the other, and the other way round: for zeros and formals together.
use Rattle.std.proofs.lemmas.Bool.{and_parts, or_parts, or_from, or_right, or_cases}
use Rattle.std.proofs.Common.{◌≡◌, ◌⊎◌, inl, inr, ℕ, suc, ◌+◌, ◌≤◌, Bool, true, false, List, [], ◌∷◌, ◌++◌, length, map, refl, sym, ◌∙◌, ap, subst, arith, Option, Some, None}
use Rattle.std.specs.Prelude.{◌==◌, ◌||◌, is_some, if◌then◌else◌}
use Rattle.std.specs.List.{list_all, list_any}
use Rattle.std.proofs.lemmas.Bool.Decides.{nat_tests}
use Rattle.cmm_abi.specs.Regions.{value_place, word_at}
use Rattle.cmm_abi.specs.Registers.{is_scratch}
use Rattle.cmm_chain.specs.Plans.{is_place}
use Rattle.cmm_chain.specs.declared.frame.Frame.{Frame}
use Rattle.cmm_chain.specs.declared.frame.Location.{Location}
use Rattle.cmm_chain.specs.declared.frame.Location.TheVariants.{Slot, Saved, Temp}
use Rattle.rv_table.proofs.Shared.{loaded-below}
use Rattle.rv_table.specs.Machine.{Region, State, loaded, stored}
use Rattle.cmm_effects.specs.Changes.{PutsRegister}
use Rattle.cmm_select.specs.Destinations.{PutsTo}
use Rattle.cmm_select.specs.declared.destination.Destination.{Destination}
use Rattle.cmm_select.specs.declared.destination.Destination.TheVariants.{Place, Register}
use Rattle.cmm_calls.proofs.Arrived.{put_beside, puts_one}
use Rattle.cmm_calls.proofs.Tests.{alike}
use Rattle.cmm_calls.specs.Copying.{PutsEachTo, is_destination, values_to}
use Rattle.cmm_calls.specs.Frames.{PutsEach, stored_words, zeros}
use Rattle.cmm_calls.specs.Values.{values_for}
use Rattle.cmm_calls.specs.inside.Arriving.{HasAllTo, after_memory, after_registers, is_again, is_register, last_to, put_memory, put_register, register_of, unless}
use Rattle.cmm_calls.specs.inside.Zeroing.{is_zeroed_in, zeroed_in}

abbrev pub are_good : Frame → List (Destination × ℕ) → Bool
are_good f list = list_all (λ p. is_destination f p.0) list

after_same : (list : List (Destination × ℕ)) (g h : ℕ → ℕ) (r : ℕ) → g r ≡ h r → after_registers list g r ≡ after_registers list h r
after_same [] g h r is = is
after_same ((d, n) ∷ rest) g h r is = after_same rest (put_register (register_of d) n g) (put_register (register_of d) n h) r (by (register_of d))
  where
    by : (o : Option ℕ) → put_register o n g r ≡ put_register o n h r
    by None = is
    by (Some k) = ap (λ (m : ℕ). if r == k then n else m) is

register_seen : (k n : ℕ) (s u : State) (r : ℕ) → is_scratch r ≡ false → PutsRegister k n s u → u.registers r ≡ (if r == k then n else s.registers r)
register_seen k n s u r kept puts = by (r == k) refl
  where
    by : (c : Bool) → (r == k) ≡ c → u.registers r ≡ (if c then n else s.registers r)
    by true is = ap u.registers (alike r k is) ∙ puts.0
    by false is = puts.1 r (or_from (r == k) (is_scratch r) is kept)

registers_seen : (at : ℕ → ℕ) (d : Destination) (n : ℕ) (s u : State) (r : ℕ) → is_scratch r ≡ false → PutsTo at d n s u → u.registers r ≡ put_register (register_of d) n s.registers r
registers_seen at (Place (Slot o)) n s u r kept puts = puts.registers r kept
registers_seen at (Place (Saved k)) n s u r kept puts = register_seen k n s u r kept puts
registers_seen at (Place (Temp k)) n s u r kept puts = register_seen k n s u r kept puts
registers_seen at (Register l) n s u r kept puts = puts.registers r kept

memory_seen : (at : ℕ → ℕ) (d : Destination) (n : ℕ) (s u : State) → PutsTo at d n s u → u.memory ≡ put_memory at d n (s.registers 2) (s.registers 4) s.memory
memory_seen at (Place (Slot o)) n s u puts = puts.memory
memory_seen at (Place (Saved k)) n s u puts = puts.2
memory_seen at (Place (Temp k)) n s u puts = puts.2
memory_seen at (Register l) n s u puts = puts.memory

pub end_from_puts : (f : Frame) (at : ℕ → ℕ) (list : List (Destination × ℕ)) (s t : State) → are_good f list ≡ true → PutsEachTo at list s t → HasAllTo at list s t
end_from_puts f at [] s t good same = record { registers = λ r kept. ap (λ (w : State). w.registers r) (sym same); memory = ap (λ (w : State). w.memory) (sym same) }
end_from_puts f at ((d, n) ∷ rest) s t good puts =
    let parts = and_parts (is_destination f d) (are_good f rest) good in
    let u = puts.0 in
    let later = end_from_puts f at rest u t parts.1 puts.2 in
    let two = registers_seen at d n s u 2 refl puts.1 ∙ put_beside f d n 2 s.registers parts.0 (omega arith) in
    let four = registers_seen at d n s u 4 refl puts.1 ∙ put_beside f d n 4 s.registers parts.0 (omega arith) in
    record {
      registers = λ r kept. later.registers r kept ∙ after_same rest u.registers (put_register (register_of d) n s.registers) r (registers_seen at d n s u r kept puts.1);
      memory = later.memory
          ∙ ap (λ (a : ℕ). after_memory at rest a (u.registers 4) u.memory) two
          ∙ ap (λ (a : ℕ). after_memory at rest (s.registers 2) a u.memory) four
          ∙ ap (λ (m : ℕ → ℕ). after_memory at rest (s.registers 2) (s.registers 4) m) (memory_seen at d n s u puts.1);
    }

pub puts_from_any : (f : Frame) (at : ℕ → ℕ) (d : Destination) (n : ℕ) (rest : List (Destination × ℕ)) (s t : State) → are_good f ((d, n) ∷ rest) ≡ true → HasAllTo at ((d, n) ∷ rest) s t →
    PutsEachTo at ((d, n) ∷ rest) s t
puts_from_any f at d n [] s t good has = (t, puts_one f at d n s t (and_parts (is_destination f d) true good).0 has.registers has.memory, refl)
puts_from_any f at d n ((e, m) ∷ rest) s t good has =
    (between, puts_one f at d n s between parts.0 (λ r kept. refl) refl, puts_from_any f at e m rest between t parts.1 later)
  where
    parts : (is_destination f d ≡ true) × (are_good f ((e, m) ∷ rest) ≡ true)
    parts = and_parts (is_destination f d) (are_good f ((e, m) ∷ rest)) good

    between : State
    between = record { registers = put_register (register_of d) n s.registers; pc = t.pc; memory = put_memory at d n (s.registers 2) (s.registers 4) s.memory }

    later : HasAllTo at ((e, m) ∷ rest) between t
    later = record {
      registers = has.registers;
      memory = has.memory
          ∙ ap (λ (a : ℕ). after_memory at ((e, m) ∷ rest) a (s.registers 4) (put_memory at d n (s.registers 2) (s.registers 4) s.memory)) (sym (put_beside f d n 2 s.registers parts.0 (omega arith)))
          ∙ ap (λ (a : ℕ). after_memory at ((e, m) ∷ rest) (between.registers 2) a (put_memory at d n (s.registers 2) (s.registers 4) s.memory)) (sym (put_beside f d n 4 s.registers parts.0 (omega arith)));
    }

-- ---- zeros, and then formals: slots are made 0 first, and registers that no formal has are made 0 last

abbrev pub zero_pairs : List Destination → List (Destination × ℕ)
zero_pairs [] = []
zero_pairs (d ∷ ds) = (d, 0) ∷ zero_pairs ds

-- a register is put
abbrev pub has_target : ℕ → List (Destination × ℕ) → Bool
has_target r list = list_any (λ p. is_register r (register_of p.0)) list

not_put : (o : Option ℕ) (n r : ℕ) (g : ℕ → ℕ) → is_register r o ≡ false → put_register o n g r ≡ g r
not_put None n r g none = refl
not_put (Some k) n r g none = ap (λ (c : Bool). if c then n else g r) (turned r k none)
  where
    turned : (r k : ℕ) → (k == r) ≡ false → (r == k) ≡ false
    turned r k h = grind (arith, nat_tests, h)

is_put : (o : Option ℕ) (n r : ℕ) (g : ℕ → ℕ) → is_register r o ≡ true → put_register o n g r ≡ n
is_put None n r g one = absurd (cc (one))
is_put (Some k) n r g one = ap (λ (c : Bool). if c then n else g r) (turned r k one)
  where
    turned : (r k : ℕ) → (k == r) ≡ true → (r == k) ≡ true
    turned r k h = grind (arith, nat_tests, h)

beside_all : (list : List (Destination × ℕ)) (g : ℕ → ℕ) (r : ℕ) → has_target r list ≡ false → after_registers list g r ≡ g r
beside_all [] g r none = refl
beside_all ((d, n) ∷ rest) g r none =
    let parts = or_parts (is_register r (register_of d)) (has_target r rest) none in
    beside_all rest (put_register (register_of d) n g) r parts.1 ∙ not_put (register_of d) n r g parts.0

whatever_was : (list : List (Destination × ℕ)) (g h : ℕ → ℕ) (r : ℕ) → has_target r list ≡ true → after_registers list g r ≡ after_registers list h r
whatever_was [] g h r one = absurd (cc (one))
whatever_was ((d, n) ∷ rest) g h r one = by (is_register r (register_of d)) refl one (λ later. whatever_was rest (put_register (register_of d) n g) (put_register (register_of d) n h) r later)
  where
    by : (c : Bool) → is_register r (register_of d) ≡ c → (c || has_target r rest) ≡ true →
        (has_target r rest ≡ true → after_registers rest (put_register (register_of d) n g) r ≡ after_registers rest (put_register (register_of d) n h) r) →
        after_registers rest (put_register (register_of d) n g) r ≡ after_registers rest (put_register (register_of d) n h) r
    by true is some later =
        after_same rest (put_register (register_of d) n g) (put_register (register_of d) n h) r (is_put (register_of d) n r g is ∙ sym (is_put (register_of d) n r h is))
    by false is some later = later some

made_zero : (ds : List Destination) (g : ℕ → ℕ) (r : ℕ) → has_target r (zero_pairs ds) ≡ true → after_registers (zero_pairs ds) g r ≡ 0
made_zero [] g r one = absurd (cc (one))
made_zero (d ∷ ds) g r one = by (has_target r (zero_pairs ds)) refl (λ later. made_zero ds (put_register (register_of d) 0 g) r later)
  where
    left : (a b : Bool) → (a || b) ≡ true → b ≡ false → a ≡ true
    left true b h e = refl
    left false b h e = absurd (cc (h, e))

    by : (c : Bool) → has_target r (zero_pairs ds) ≡ c → (c ≡ true → after_registers (zero_pairs ds) (put_register (register_of d) 0 g) r ≡ 0) →
        after_registers (zero_pairs ds) (put_register (register_of d) 0 g) r ≡ 0
    by true is later = later refl
    by false is later =
        beside_all (zero_pairs ds) (put_register (register_of d) 0 g) r is
        ∙ is_put (register_of d) 0 r g (left (is_register r (register_of d)) (has_target r (zero_pairs ds)) one is)

registers_joined : (xs ys : List (Destination × ℕ)) (g : ℕ → ℕ) → after_registers (xs ++ ys) g ≡ after_registers ys (after_registers xs g)
registers_joined [] ys g = refl
registers_joined ((d, n) ∷ xs) ys g = registers_joined xs ys (put_register (register_of d) n g)

memory_joined : (at : ℕ → ℕ) (xs ys : List (Destination × ℕ)) (frame region : ℕ) (m : ℕ → ℕ) → after_memory at (xs ++ ys) frame region m ≡ after_memory at ys frame region (after_memory at xs frame region m)
memory_joined at [] ys frame region m = refl
memory_joined at ((d, n) ∷ xs) ys frame region m = memory_joined at xs ys frame region (put_memory at d n frame region m)

-- slots of zeroed destinations are 0
pub record HasZeroSlots (at : ℕ → ℕ) (zeroed : List Destination) (s t : State) : Type 0 where
  pub registers : (r : ℕ) → is_scratch r ≡ false → t.registers r ≡ s.registers r
  pub memory : t.memory ≡ after_memory at (zero_pairs zeroed) (s.registers 2) (s.registers 4) s.memory

-- registers of zeroed destinations that nothing else has are 0
pub record HasZeroRegisters (zeroed : List Destination) (values : List (Destination × ℕ)) (s t : State) : Type 0 where
  pub zero : (r : ℕ) → is_scratch r ≡ false → has_target r (zero_pairs zeroed) ≡ true → has_target r values ≡ false → t.registers r ≡ 0
  pub others : (r : ℕ) → is_scratch r ≡ false → (has_target r (zero_pairs zeroed) ≡ true → has_target r values ≡ true) → t.registers r ≡ s.registers r
  pub memory : t.memory ≡ s.memory

pub zeros_and_values : (at : ℕ → ℕ) (zeroed : List Destination) (values : List (Destination × ℕ)) (s t u w : State) → HasZeroSlots at zeroed s t → HasAllTo at values t u → HasZeroRegisters zeroed values u w →
    HasAllTo at (zero_pairs zeroed ++ values) s w
zeros_and_values at zeroed values s t u w first second third = record {
  registers = λ r kept. by r kept (has_target r values) refl ∙ sym (ap (λ (g : ℕ → ℕ). g r) (registers_joined (zero_pairs zeroed) values s.registers));
  memory = third.memory ∙ second.memory
      ∙ ap (λ (a : ℕ). after_memory at values a (t.registers 4) t.memory) (first.registers 2 refl)
      ∙ ap (λ (a : ℕ). after_memory at values (s.registers 2) a t.memory) (first.registers 4 refl)
      ∙ ap (λ (m : ℕ → ℕ). after_memory at values (s.registers 2) (s.registers 4) m) first.memory
      ∙ sym (memory_joined at (zero_pairs zeroed) values (s.registers 2) (s.registers 4) s.memory);
}
  where
    by : (r : ℕ) → is_scratch r ≡ false → (c : Bool) → has_target r values ≡ c → w.registers r ≡ after_registers values (after_registers (zero_pairs zeroed) s.registers) r
    by r kept true is = third.others r kept (λ some. is) ∙ second.registers r kept ∙ whatever_was values t.registers (after_registers (zero_pairs zeroed) s.registers) r is
    by r kept false is = zeroed_or (has_target r (zero_pairs zeroed)) refl ∙ sym (beside_all values (after_registers (zero_pairs zeroed) s.registers) r is)
      where
        zeroed_or : (c : Bool) → has_target r (zero_pairs zeroed) ≡ c → w.registers r ≡ after_registers (zero_pairs zeroed) s.registers r
        zeroed_or true one = third.zero r kept one is ∙ sym (made_zero zeroed s.registers r one)
        zeroed_or false none =
            third.others r kept (λ some. let clash : true ≡ false = sym some ∙ none in absurd (cc (clash)))
            ∙ second.registers r kept ∙ beside_all values t.registers r is ∙ first.registers r kept ∙ sym (beside_all (zero_pairs zeroed) s.registers r none)

-- ---- places alone

abbrev pub as_destinations : List (Location × ℕ) → List (Destination × ℕ)
as_destinations [] = []
as_destinations ((p, n) ∷ rest) = (Place p, n) ∷ as_destinations rest

as_append : (xs ys : List (Location × ℕ)) → as_destinations (xs ++ ys) ≡ as_destinations xs ++ as_destinations ys
as_append [] ys = refl
as_append ((p, n) ∷ xs) ys = ap (λ rest. (Place p, n) ∷ rest) (as_append xs ys)

as_zeros : (places : List Location) → as_destinations (zeros places) ≡ zero_pairs (map Place places)
as_zeros [] = refl
as_zeros (p ∷ places) = ap (λ rest. (Place p, 0) ∷ rest) (as_zeros places)

as_values : (region : Region) (k : ℕ) (places : List Location) (s : State) → as_destinations (values_for region k places s) ≡ values_to region k (map Place places) s
as_values region k [] s = refl
as_values region k (p ∷ places) s = ap (λ rest. (Place p, word_at s (value_place region k)) ∷ rest) (as_values region (suc k) places s)

puts_to : (at : ℕ → ℕ) (list : List (Location × ℕ)) (s t : State) → PutsEach list s t → PutsEachTo at (as_destinations list) s t
puts_to at [] s t puts = puts
puts_to at ((p, n) ∷ rest) s t puts = (puts.0, puts.1, puts_to at rest puts.0 t puts.2)

puts_at : (at : ℕ → ℕ) (list : List (Location × ℕ)) (s t : State) → PutsEachTo at (as_destinations list) s t → PutsEach list s t
puts_at at [] s t puts = puts
puts_at at ((p, n) ∷ rest) s t puts = (puts.0, puts.1, puts_at at rest puts.0 t puts.2)

abbrev pub are_placed : Frame → List (Location × ℕ) → Bool
are_placed f list = list_all (λ p. is_place f p.0) list

good_placed : (f : Frame) (list : List (Location × ℕ)) → are_placed f list ≡ true → are_good f (as_destinations list) ≡ true
good_placed f [] all = refl
good_placed f ((p, n) ∷ rest) all =
    let parts = and_parts (is_place f p) (are_placed f rest) all in
    rw (parts.0, good_placed f rest parts.1) refl

pub zeros_placed : (f : Frame) (places : List Location) → list_all (is_place f) places ≡ true → are_placed f (zeros places) ≡ true
zeros_placed f [] all = refl
zeros_placed f (p ∷ places) all =
    let parts = and_parts (is_place f p) (list_all (is_place f) places) all in
    rw (parts.0, zeros_placed f places parts.1) refl

pub values_placed : (f : Frame) (region : Region) (k : ℕ) (places : List Location) (s : State) → list_all (is_place f) places ≡ true → are_placed f (values_for region k places s) ≡ true
values_placed f region k [] s all = refl
values_placed f region k (p ∷ places) s all =
    let parts = and_parts (is_place f p) (list_all (is_place f) places) all in
    rw (parts.0, values_placed f region (suc k) places s parts.1) refl

both_placed : (f : Frame) (xs ys : List (Location × ℕ)) → are_placed f xs ≡ true → are_placed f ys ≡ true → are_placed f (xs ++ ys) ≡ true
both_placed f [] ys one two = two
both_placed f ((p, n) ∷ xs) ys one two =
    let parts = and_parts (is_place f p) (are_placed f xs) one in
    rw (parts.0, both_placed f xs ys parts.1 two) refl

-- there are no labels
abbrev nowhere : ℕ → ℕ
nowhere l = 0

pub end_of_puts : (f : Frame) (list : List (Location × ℕ)) (s t : State) → are_placed f list ≡ true → PutsEach list s t → HasAllTo nowhere (as_destinations list) s t
end_of_puts f list s t placed puts = end_from_puts f nowhere (as_destinations list) s t (good_placed f list placed) (puts_to nowhere list s t puts)

-- nothing was done for an empty list
pub puts_of_end : (f : Frame) (list : List (Location × ℕ)) (s t : State) → are_placed f list ≡ true → (list ≡ [] → s ≡ t) → HasAllTo nowhere (as_destinations list) s t → PutsEach list s t
puts_of_end f [] s t placed none has = none refl
puts_of_end f ((p, n) ∷ rest) s t placed none has =
    puts_at nowhere ((p, n) ∷ rest) s t (puts_from_any f nowhere (Place p) n (as_destinations rest) s t (good_placed f ((p, n) ∷ rest) placed) has)

-- ---- slots that are made 0

slots_registers : (formals : List Destination) (places : List Location) (g : ℕ → ℕ) (r : ℕ) → after_registers (zero_pairs (map Place (zeroed_in true formals places))) g r ≡ g r
slots_registers formals [] g r = refl
slots_registers formals (Slot o ∷ places) g r =
    after_same (zero_pairs (map Place (zeroed_in true formals places))) (put_register None 0 g) g r refl ∙ slots_registers formals places g r
slots_registers formals (Saved k ∷ places) g r = slots_registers formals places g r
slots_registers formals (Temp k ∷ places) g r = slots_registers formals places g r

slots_memory : (formals : List Destination) (places : List Location) (frame region : ℕ) (m : ℕ → ℕ) →
    after_memory nowhere (zero_pairs (map Place (zeroed_in true formals places))) frame region m ≡ after_memory nowhere (zero_pairs (map Place places)) frame region m
slots_memory formals [] frame region m = refl
slots_memory formals (Slot o ∷ places) frame region m = slots_memory formals places frame region (stored m (frame + o) 8 0)
slots_memory formals (Saved k ∷ places) frame region m = slots_memory formals places frame region m
slots_memory formals (Temp k ∷ places) frame region m = slots_memory formals places frame region m

pub slots_zero : (f : Frame) (formals : List Destination) (zeroed : List Location) (s t : State) → list_all (is_place f) (zeroed_in true formals zeroed) ≡ true →
    PutsEach (zeros (zeroed_in true formals zeroed)) s t → HasZeroSlots nowhere (map Place zeroed) s t
slots_zero f formals zeroed s t are puts =
    let slots = zeroed_in true formals zeroed in
    let end : HasAllTo nowhere (zero_pairs (map Place slots)) s t =
    subst (λ (list : List (Destination × ℕ)). HasAllTo nowhere list s t) (as_zeros slots) (end_of_puts f (zeros slots) s t (zeros_placed f slots are) puts) in
    record {
      registers = λ r kept. end.registers r kept ∙ slots_registers formals zeroed s.registers r;
      memory = end.memory ∙ slots_memory formals zeroed (s.registers 2) (s.registers 4) s.memory;
    }

-- ---- registers that are made 0

target_values : (region : Region) (k : ℕ) (formals : List Destination) (s : State) (r : ℕ) → has_target r (values_to region k formals s) ≡ is_again r formals
target_values region k [] s r = refl
target_values region k (d ∷ formals) s r = ap (λ (c : Bool). is_register r (register_of d) || c) (target_values region (suc k) formals s r)

abbrev chosen : Bool → Location → List Location
chosen c p = elim c [ true ↦ p ∷ [] | false ↦ [] ]

-- a register that is made 0 stays among them, if no formal has it
left_by : (c : Bool) (formals : List Destination) (p : Location) (k r : ℕ) (rest : List Location) → is_again k formals ≡ c → is_register r (register_of (Place p)) ≡ (k == r) → is_again r formals ≡ false →
    ((k == r) ≡ true) ⊎ (has_target r (zero_pairs (map Place rest)) ≡ true) → has_target r (zero_pairs (map Place (chosen (is_some (unless c k)) p ++ rest))) ≡ true
left_by true formals p k r rest again e none (inl same) =
    let yes : is_again r formals ≡ true = ap (λ (n : ℕ). is_again n formals) (sym (alike k r same)) ∙ again in
    absurd (cc (yes, none))
left_by true formals p k r rest again e none (inr later) = later
left_by false formals p k r rest again e none (inl same) = ap (λ (b : Bool). b || has_target r (zero_pairs (map Place rest))) (e ∙ same)
left_by false formals p k r rest again e none (inr later) = or_right (is_register r (register_of (Place p))) (has_target r (zero_pairs (map Place rest))) later

left_in : (formals : List Destination) (places : List Location) (r : ℕ) → is_again r formals ≡ false → has_target r (zero_pairs (map Place places)) ≡ true →
    has_target r (zero_pairs (map Place (zeroed_in false formals places))) ≡ true
left_in formals [] r none one = one
left_in formals (Slot o ∷ places) r none one = left_in formals places r none one
left_in formals (Saved k ∷ places) r none one =
    left_by (is_again k formals) formals (Saved k) k r (zeroed_in false formals places) refl refl none
    (elim (or_cases (k == r) (has_target r (zero_pairs (map Place places))) one) [ inl same ↦ inl same | inr later ↦ inr (left_in formals places r none later) ])
left_in formals (Temp k ∷ places) r none one =
    left_by (is_again k formals) formals (Temp k) k r (zeroed_in false formals places) refl refl none
    (elim (or_cases (k == r) (has_target r (zero_pairs (map Place places))) one) [ inl same ↦ inl same | inr later ↦ inr (left_in formals places r none later) ])

-- and those that stay are such
abbrev IsLeft : List Destination → List Location → ℕ → Type 0
IsLeft formals places r = (has_target r (zero_pairs (map Place places)) ≡ true) × (is_again r formals ≡ false)

from_by : (c : Bool) (formals : List Destination) (p : Location) (k r : ℕ) (places rest : List Location) → is_again k formals ≡ c → is_register r (register_of (Place p)) ≡ (k == r) →
    (has_target r (zero_pairs (map Place rest)) ≡ true → IsLeft formals places r) → has_target r (zero_pairs (map Place (chosen (is_some (unless c k)) p ++ rest))) ≡ true → IsLeft formals (p ∷ places) r
from_by true formals p k r places rest again e more one =
    let later = more one in
    (or_right (is_register r (register_of (Place p))) (has_target r (zero_pairs (map Place places))) later.0, later.1)
from_by false formals p k r places rest again e more one = elim (or_cases (is_register r (register_of (Place p))) (has_target r (zero_pairs (map Place rest))) one) [
  | inl same ↦ (
    ap (λ (b : Bool). b || has_target r (zero_pairs (map Place places))) same,
    ap (λ (n : ℕ). is_again n formals) (sym (alike k r (sym e ∙ same))) ∙ again,
  )
  | inr rest_has ↦ let later = more rest_has in
      (or_right (is_register r (register_of (Place p))) (has_target r (zero_pairs (map Place places))) later.0, later.1)
]

is_left : (formals : List Destination) (places : List Location) (r : ℕ) → has_target r (zero_pairs (map Place (zeroed_in false formals places))) ≡ true → IsLeft formals places r
is_left formals [] r one = absurd (cc (one))
is_left formals (Slot o ∷ places) r one = is_left formals places r one
is_left formals (Saved k ∷ places) r one =
    from_by (is_again k formals) formals (Saved k) k r places (zeroed_in false formals places) refl refl (λ later. is_left formals places r later) one
is_left formals (Temp k ∷ places) r one =
    from_by (is_again k formals) formals (Temp k) k r places (zeroed_in false formals places) refl refl (λ later. is_left formals places r later) one

kept_memory : (b : Bool) (p : Location) (rest : List Location) (frame region : ℕ) (m : ℕ → ℕ) → put_memory nowhere (Place p) 0 frame region m ≡ m →
    after_memory nowhere (zero_pairs (map Place (chosen b p ++ rest))) frame region m ≡ after_memory nowhere (zero_pairs (map Place rest)) frame region m
kept_memory true p rest frame region m same = ap (after_memory nowhere (zero_pairs (map Place rest)) frame region) same
kept_memory false p rest frame region m same = refl

left_memory : (formals : List Destination) (places : List Location) (frame region : ℕ) (m : ℕ → ℕ) → after_memory nowhere (zero_pairs (map Place (zeroed_in false formals places))) frame region m ≡ m
left_memory formals [] frame region m = refl
left_memory formals (Slot o ∷ places) frame region m = left_memory formals places frame region m
left_memory formals (Saved k ∷ places) frame region m =
    kept_memory (is_some (last_to (Some k) formals)) (Saved k) (zeroed_in false formals places) frame region m refl ∙ left_memory formals places frame region m
left_memory formals (Temp k ∷ places) frame region m =
    kept_memory (is_some (last_to (Some k) formals)) (Temp k) (zeroed_in false formals places) frame region m refl ∙ left_memory formals places frame region m

pub registers_zero : (f : Frame) (region : Region) (formals : List Destination) (zeroed : List Location) (s t u : State) → list_all (is_place f) (zeroed_in false formals zeroed) ≡ true →
    PutsEach (zeros (zeroed_in false formals zeroed)) t u → HasZeroRegisters (map Place zeroed) (values_to region 0 formals s) t u
registers_zero f region formals zeroed s t u are puts = record {
  zero = λ r kept one none. end.registers r kept ∙ made_zero (map Place left) t.registers r (left_in formals zeroed r (sym (target_values region 0 formals s r) ∙ none) one);
  others = λ r kept only. end.registers r kept ∙ beside_all (zero_pairs (map Place left)) t.registers r (by r only (has_target r (zero_pairs (map Place left))) refl);
  memory = end.memory ∙ left_memory formals zeroed (t.registers 2) (t.registers 4) t.memory;
}
  where
    left : List Location
    left = zeroed_in false formals zeroed

    end : HasAllTo nowhere (zero_pairs (map Place (zeroed_in false formals zeroed))) t u
    end = subst (λ (list : List (Destination × ℕ)). HasAllTo nowhere list t u) (as_zeros (zeroed_in false formals zeroed)) (end_of_puts f (zeros (zeroed_in false formals zeroed)) t u (zeros_placed f (zeroed_in false formals zeroed) are) puts)

    by : (r : ℕ) → (has_target r (zero_pairs (map Place zeroed)) ≡ true → has_target r (values_to region 0 formals s) ≡ true) → (c : Bool) →
        has_target r (zero_pairs (map Place (zeroed_in false formals zeroed))) ≡ c → c ≡ false
    by r only true is =
        let one = is_left formals zeroed r is in
        let clash : true ≡ false = sym (only one.0) ∙ target_values region 0 formals s r ∙ one.1 in
        absurd (cc (clash))
    by r only false is = refl

-- ---- the lists

list_placed : (f : Frame) (b : Bool) (p : Location) (rest : List Location) → is_place f p ≡ true → list_all (is_place f) rest ≡ true → list_all (is_place f) (chosen b p ++ rest) ≡ true
list_placed f true p rest is all = rw (is, all) refl
list_placed f false p rest is all = all

pub zeroed_placed : (f : Frame) (slots : Bool) (formals : List Destination) (places : List Location) → list_all (is_place f) places ≡ true → list_all (is_place f) (zeroed_in slots formals places) ≡ true
zeroed_placed f slots formals [] all = refl
zeroed_placed f slots formals (p ∷ places) all =
    let parts = and_parts (is_place f p) (list_all (is_place f) places) all in
    list_placed f (is_zeroed_in slots formals p) p (zeroed_in slots formals places) parts.0 (zeroed_placed f slots formals places parts.1)

one_more : (b : Bool) (p : Location) (rest : List Location) → length (chosen b p ++ rest) ≤ suc (length rest)
one_more true p rest = omega arith
one_more false p rest = omega arith

pub zeroed_few : (formals : List Destination) (places : List Location) → length (zeroed_in true formals places) + length (zeroed_in false formals places) ≤ length places
zeroed_few formals [] = omega arith
zeroed_few formals (Slot o ∷ places) = let h = zeroed_few formals places in omega (arith, h)
zeroed_few formals (Saved k ∷ places) =
    let h = zeroed_few formals places in
    let one = one_more (is_some (last_to (Some k) formals)) (Saved k) (zeroed_in false formals places) in
    omega (arith, h, one)
zeroed_few formals (Temp k ∷ places) =
    let h = zeroed_few formals places in
    let one = one_more (is_some (last_to (Some k) formals)) (Temp k) (zeroed_in false formals places) in
    omega (arith, h, one)

-- ---- words below a frame

pub words_below : (words : List (ℕ × ℕ)) (frame : ℕ) (m : ℕ → ℕ) (a : ℕ) → a + 8 ≤ frame → loaded (stored_words frame words m) a 8 ≡ loaded m a 8
words_below [] frame m a low = refl
words_below ((o, n) ∷ words) frame m a low =
    words_below words frame (stored m (frame + o) 8 n) a low ∙ loaded-below m (frame + o) 8 n a 8 (omega (arith, low))

pub zeros_below : (places : List Location) (frame region : ℕ) (m : ℕ → ℕ) (a : ℕ) → a + 8 ≤ frame → loaded (after_memory nowhere (zero_pairs (map Place places)) frame region m) a 8 ≡ loaded m a 8
zeros_below [] frame region m a low = refl
zeros_below (Slot o ∷ places) frame region m a low =
    zeros_below places frame region (stored m (frame + o) 8 0) a low ∙ loaded-below m (frame + o) 8 0 a 8 (omega (arith, low))
zeros_below (Saved k ∷ places) frame region m a low = zeros_below places frame region m a low
zeros_below (Temp k ∷ places) frame region m a low = zeros_below places frame region m a low

-- ---- all together

pub begun_puts : (f : Frame) (region : Region) (zeroed formals : List Location) (s t u v w : State) → list_all (is_place f) zeroed ≡ true → list_all (is_place f) formals ≡ true →
    values_for region 0 formals u ≡ values_for region 0 formals s → PutsEach (zeros (zeroed_in true (map Place formals) zeroed)) t u → PutsEach (values_for region 0 formals u) u v →
    PutsEach (zeros (zeroed_in false (map Place formals) zeroed)) v w → PutsEach (zeros zeroed ++ values_for region 0 formals s) t w
begun_puts f region zeroed formals s t u v w zeroed_are formals_are same first second third =
    puts_of_end f (zeros zeroed ++ values_for region 0 formals s) t w
    (both_placed f (zeros zeroed) (values_for region 0 formals s) (zeros_placed f zeroed zeroed_are) (values_placed f region 0 formals s formals_are))
    (λ none. nothing zeroed formals none first second third)
    (subst (λ (list : List (Destination × ℕ)). HasAllTo nowhere list t w) (sym listed)
    (zeros_and_values nowhere (map Place zeroed) (values_to region 0 to s) t u v w
    (slots_zero f to zeroed t u (zeroed_placed f true to zeroed zeroed_are) first)
    (subst (λ (list : List (Destination × ℕ)). HasAllTo nowhere list u v) (ap as_destinations same ∙ as_values region 0 formals s)
    (end_of_puts f (values_for region 0 formals u) u v (values_placed f region 0 formals u formals_are) second))
    (registers_zero f region to zeroed s v w (zeroed_placed f false to zeroed zeroed_are) third)))
  where
    to : List Destination
    to = map Place formals

    listed : as_destinations (zeros zeroed ++ values_for region 0 formals s) ≡ zero_pairs (map Place zeroed) ++ values_to region 0 (map Place formals) s
    listed =
        as_append (zeros zeroed) (values_for region 0 formals s)
        ∙ ap (λ (list : List (Destination × ℕ)). list ++ as_destinations (values_for region 0 formals s)) (as_zeros zeroed)
        ∙ ap (λ (list : List (Destination × ℕ)). zero_pairs (map Place zeroed) ++ list) (as_values region 0 formals s)

    nothing : (zeroed formals : List Location) → zeros zeroed ++ values_for region 0 formals s ≡ [] → PutsEach (zeros (zeroed_in true (map Place formals) zeroed)) t u →
        PutsEach (values_for region 0 formals u) u v → PutsEach (zeros (zeroed_in false (map Place formals) zeroed)) v w → t ≡ w
    nothing [] [] none first second third = first ∙ second ∙ third
    nothing [] (p ∷ formals) none first second third = absurd (cc (none))
    nothing (z ∷ zeroed) formals none first second third = absurd (cc (none))
