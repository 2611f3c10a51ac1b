-- Labels stay behind their instructions while more is appended.
use Rattle.std.proofs.Common.{◌≡◌, ℕ, ◌*◌, ◌≤◌, refl, ◌∙◌, ap, arith, List, [], ◌∷◌, ◌++◌, append_assoc}
use Rattle.rv_asm.specs.Appending.{AddsWords, Appends, IsBehind}
use Rattle.rv_asm.specs.Parts.{Code}
use Rattle.rv_asm.specs.Sizes.{all_shortest, shortest}
use Rattle.rv_asm.specs.declared.part.Label.{Label}
use Rattle.rv_asm.specs.declared.part.Part.{Part}
use Rattle.rv_asm.specs.declared.part.Part.TheVariants.{Place}
use Rattle.rv_asm.proofs.Sizes.{shortest-append}

-- a part of a word, and behind it the label
pub behind_new : (old : List Part) (part : Part) (l : Label) → 4 ≤ shortest part → IsBehind l 0 ((old ++ part ∷ []) ++ Place l ∷ [])
behind_new old part l long = record {
  front = old;
  part = part;
  back = [];
  is = append_assoc old (part ∷ []) (Place l ∷ []);
  long = long;
  room = omega arith;
}

-- more parts, with which so many words are behind it
pub behind_parts : {l : Label} {words : ℕ} {old new : List Part} → (behind : IsBehind l words old) (parts : List Part) (more : ℕ) → new ≡ old ++ parts →
    4 * more ≤ all_shortest (behind.back ++ parts) → IsBehind l more new
behind_parts {l} behind parts more added room = record {
  front = behind.front;
  part = behind.part;
  back = behind.back ++ parts;
  is = added ∙ (ap (λ (ps : List Part). ps ++ parts) behind.is ∙ append_assoc behind.front (behind.part ∷ (Place l ∷ behind.back)) parts);
  long = behind.long;
  room = room;
}

-- words behind it
pub behind_words : {l : Label} {a b : ℕ} {old new : List Part} → IsBehind l a old → AddsWords b old new → IsBehind l b new
behind_words {l} {a} {b} behind more =
    behind_parts behind more.parts b more.added (let room = more.room in omega (arith, room, shortest-append behind.back more.parts))

-- whatever is appended
pub behind_more : {l : Label} {a : ℕ} {old new : List Part} {So : Code → ℕ → ℕ → Type 0} → IsBehind l a old → Appends old new So → IsBehind l a new
behind_more {l} {a} behind more =
    behind_parts behind more.parts a more.added (let room = behind.room in omega (arith, room, shortest-append behind.back more.parts))

-- one part of so many words, and what is appended behind it
pub words_one : (old : List Part) (part : Part) (words : ℕ) → 4 * words ≤ shortest part → AddsWords words old (old ++ part ∷ [])
words_one old part words room = record { parts = part ∷ []; added = refl; room = omega (arith, room) }

pub words_more : {words : ℕ} {old mid new : List Part} {So : Code → ℕ → ℕ → Type 0} → AddsWords words old mid → Appends mid new So → AddsWords words old new
words_more {words} {old} adds more = record {
  parts = adds.parts ++ more.parts;
  added = more.added ∙ (ap (λ (ps : List Part). ps ++ more.parts) adds.added ∙ append_assoc old adds.parts more.parts);
  room = let room = adds.room in omega (arith, room, shortest-append adds.parts more.parts);
}
