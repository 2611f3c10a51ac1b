-- What is named is added to sets, one thing after another.
use Rattle.std.proofs.Common.{◌≡◌, ℕ, ◌+◌, ◌<◌, ◌≤◌, refl, sym, ◌∙◌, ap, arith, Bool, true, false, List, [], ◌∷◌, get_or, length, map, take}
use Rattle.std.specs.Prelude.{◌||◌, replicate}
use Rattle.std.specs.List.{list_any}
use Rattle.std.proofs.lemmas.List.{length-replicate, take_all}
use Rattle.std.proofs.lemmas.List.Folds.{list_any_more}
use Rattle.cmm_unit_code.specs.declared.unit_code.Reference.{Reference}
use Rattle.cmm_unit_code.specs.declared.unit_code.Reference.TheVariants.{Register, Label, Procedure}
use Rattle.cmm_bitset.proofs.Shared.{has-replicate}
use Rattle.cmm_bitset.specs.Sets.{has}
use Rattle.cmm_program.specs.declared.program.Program.{Program}
use Rattle.cmm_graph.specs.declared.graph.Graph.{Graph}
use Rattle.cmm_emit.specs.Mentions.{AddsNamed, AreMentioned, HasRoomFor, graphs_name, mentions}
use Rattle.cmm_emit.specs.declared.mentions.Mentions.{Mentions}

-- ---- truth values

pub or_none : (b : Bool) → b ≡ (b || false)
or_none true = refl
or_none false = refl

pub or_group : (a b c : Bool) → ((a || b) || c) ≡ (a || (b || c))
or_group true b c = refl
or_group false b c = refl

-- ---- sets

-- there is room for what there was
pub room_stays : (f : Reference → Bool) (old new : Mentions) → AddsNamed f old new → (r : Reference) → HasRoomFor old r → HasRoomFor new r
room_stays f old new adds (Register n) room = let size = adds.registers in omega (arith, room, size)
room_stays f old new adds (Label n) room = let size = adds.labels in omega (arith, room, size)
room_stays f old new adds (Procedure n) room = let size = adds.procedures in omega (arith, room, size)

-- nothing is added
pub adds_none : (m : Mentions) → AddsNamed (λ r. false) m m
adds_none m = record { registers = refl; labels = refl; procedures = refl; each = λ r room. or_none (mentions m r) }

-- one thing, and then another
pub adds_both : (f g : Reference → Bool) (a b c : Mentions) → AddsNamed f a b → AddsNamed g b c → AddsNamed (λ r. f r || g r) a c
adds_both f g a b c first second = record {
  registers = second.registers ∙ first.registers;
  labels = second.labels ∙ first.labels;
  procedures = second.procedures ∙ first.procedures;
  each = λ r room.
      second.each r (room_stays f a b first r room) ∙ (ap (λ (z : Bool). z || g r) (first.each r room) ∙ or_group (mentions a r) (f r) (g r));
}

-- the same is named in another way
pub adds_so : (f g : Reference → Bool) (old new : Mentions) → ((r : Reference) → f r ≡ g r) → AddsNamed f old new → AddsNamed g old new
adds_so f g old new so adds = record {
  registers = adds.registers;
  labels = adds.labels;
  procedures = adds.procedures;
  each = λ r room. adds.each r room ∙ ap (λ (z : Bool). mentions old r || z) (so r);
}

-- ---- lists

-- of a list that something is made of
pub any_made : {A B : Type 0} (test : B → Bool) (make : A → B) (xs : List A) → list_any (λ x. test (make x)) xs ≡ list_any test (map make xs)
any_made test make [] = refl
any_made test make (x ∷ xs) = ap (λ (z : Bool). test (make x) || z) (any_made test make xs)

-- the elements up to an index, and the next one
pub adds_more : {A : Type 0} (names : A → Reference → Bool) (xs : List A) (i : ℕ) (d : A) (a b c : Mentions) → i < length xs →
    AddsNamed (λ r. list_any (λ y. names y r) (take i xs)) a b → AddsNamed (names (get_or xs i d)) b c → AddsNamed (λ r. list_any (λ y. names y r) (take (i + 1) xs)) a c
adds_more names xs i d a b c less before adds =
    adds_so (λ r. list_any (λ y. names y r) (take i xs) || names (get_or xs i d) r) (λ r. list_any (λ y. names y r) (take (i + 1) xs)) a c
    (λ r. sym (list_any_more (λ y. names y r) xs i d less)) (adds_both (λ r. list_any (λ y. names y r) (take i xs)) (names (get_or xs i d)) a b c before adds)

-- and all of them
pub adds_all : {A : Type 0} (names : A → Reference → Bool) (xs : List A) (i : ℕ) (a b : Mentions) → length xs ≤ i →
    AddsNamed (λ r. list_any (λ y. names y r) (take i xs)) a b → AddsNamed (λ r. list_any (λ y. names y r) xs) a b
adds_all names xs i a b done adds =
    adds_so (λ r. list_any (λ y. names y r) (take i xs)) (λ r. list_any (λ y. names y r) xs) a b
    (λ r. ap (λ ys. list_any (λ y. names y r) ys) (take_all i xs done)) adds

-- ---- graphs

-- there is room for what the program has, and nothing is named
pub none_mentioned : (p : Program) (m : Mentions) (registers labels procedures : ℕ) → m.registers ≡ replicate registers false → m.labels ≡ replicate labels false →
    m.procedures ≡ replicate procedures false → registers ≡ length p.globals → labels ≡ length p.labels → procedures ≡ length p.procs → AreMentioned p [] m
none_mentioned p m registers labels procedures are_registers are_labels are_procedures a b c = record {
  registers = ap (λ (s : List Bool). length s) are_registers ∙ (length-replicate registers false ∙ a);
  labels = ap (λ (s : List Bool). length s) are_labels ∙ (length-replicate labels false ∙ b);
  procedures = ap (λ (s : List Bool). length s) are_procedures ∙ (length-replicate procedures false ∙ c);
  each = each;
}
  where
    each : (r : Reference) → HasRoomFor m r → mentions m r ≡ false
    each (Register n) room = ap (λ (s : List Bool). has s n) are_registers ∙ has-replicate registers n
    each (Label n) room = ap (λ (s : List Bool). has s n) are_labels ∙ has-replicate labels n
    each (Procedure n) room = ap (λ (s : List Bool). has s n) are_procedures ∙ has-replicate procedures n

-- what is added to nothing is all
pub all_mentioned : (p : Program) (graphs : List Graph) (none found : Mentions) → AreMentioned p [] none → AddsNamed (graphs_name graphs) none found → AreMentioned p graphs found
all_mentioned p graphs none found before adds = record {
  registers = adds.registers ∙ before.registers;
  labels = adds.labels ∙ before.labels;
  procedures = adds.procedures ∙ before.procedures;
  each = λ r room.
      let back = room_back r room in
      adds.each r back ∙ ap (λ (b : Bool). b || graphs_name graphs r) (before.each r back);
}
  where
    room_back : (r : Reference) → HasRoomFor found r → HasRoomFor none r
    room_back (Register n) room = let size = adds.registers in omega (arith, room, size)
    room_back (Label n) room = let size = adds.labels in omega (arith, room, size)
    room_back (Procedure n) room = let size = adds.procedures in omega (arith, room, size)
