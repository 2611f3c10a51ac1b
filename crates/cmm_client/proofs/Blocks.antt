-- The block that answers a yield.
use Rattle.std.proofs.Common.{◌≡◌, ℕ, Bool, true, false, cond, nat_eq, List, [], ◌∷◌, suc, Option, Some, None, IfSome, refl, sym, ap, subst, ◌∙◌, arith}
use Rattle.std.proofs.lemmas.Bool.Decides.{nat_tests}
use Rattle.std.specs.Option.{option_eq}
use Rattle.std.specs.List.{All}
use Rattle.std.proofs.lemmas.List.Elements.{All-nil}
use Rattle.cmm_script.specs.declared.script.Block.{Block}
use Rattle.cmm_script.specs.declared.script.Command.{Command}
use Rattle.cmm_script.specs.declared.script.Script.{Script}
use Rattle.cmm_script.specs.Limits.{GivesFew, HasFewValues}
use Rattle.cmm_program.specs.Commands.{block_with, commands_for, is_for_code, is_other}
use Rattle.cmm_client.specs.inside.Counting.{block_of, or_other, own_block}

-- the commands of a block that was found
abbrev pub commands_of : Option Block → Option (List Command)
commands_of (Some b) = Some b.commands
commands_of None = None

with_by : (test : Option ℕ → Bool) (code : Option ℕ) → ((c : Option ℕ) → test c ≡ option_eq nat_eq c code) → (bs : List Block) → block_with test bs ≡ commands_of (block_of code bs)
with_by test code same [] = refl
with_by test code same (b ∷ bs) = by (test b.code) (option_eq nat_eq b.code code) (same b.code) (with_by test code same bs)
  where
    by : (x y : Bool) → x ≡ y → block_with test bs ≡ commands_of (block_of code bs) →
        elim x [ true ↦ Some b.commands | false ↦ block_with test bs ] ≡ commands_of (cond y (Some b) (block_of code bs))
    by true true is rest = refl
    by true false is rest = absurd (cc is)
    by false true is rest = absurd (cc is)
    by false false is rest = rest

same_as : (code : ℕ) (c : Option ℕ) → is_for_code (code ∷ []) c ≡ option_eq nat_eq c (Some code)
same_as code None = refl
same_as code (Some other) = grind (arith, nat_tests)

for_first : (value : ℕ) (values : List ℕ) (c : Option ℕ) → is_for_code (value ∷ values) c ≡ option_eq nat_eq c (Some value)
for_first value values None = refl
for_first value values (Some other) = same_as value (Some other)

for_none : (bs : List Block) → block_with (is_for_code []) bs ≡ None
for_none [] = refl
for_none (b ∷ bs) = for_none bs

others : (c : Option ℕ) → is_other c ≡ option_eq nat_eq c None
others None = refl
others (Some code) = refl

own_is : (values : List ℕ) (bs : List Block) → block_with (is_for_code values) bs ≡ commands_of (own_block values bs)
own_is [] bs = for_none bs
own_is (value ∷ values) bs = with_by (is_for_code (value ∷ values)) (Some value) (for_first value values) bs

chosen : (own other : Option Block) (x y : Option (List Command)) → x ≡ commands_of own → y ≡ commands_of other →
    elim x [ Some commands ↦ commands | None ↦ elim y [ Some commands ↦ commands | None ↦ [] ] ] ≡ or_other own other
chosen (Some b) other x y is there = rw is refl
chosen None (Some b) x y is there = rw (is, there) refl
chosen None None x y is there = rw (is, there) refl

pub commands_are : (values : List ℕ) (script : Script) → commands_for values script ≡ or_other (own_block values script.blocks) (block_of None script.blocks)
commands_are values script = chosen _ _ _ _ (own_is values script.blocks) (with_by is_other None others script.blocks)

-- ---- they give few values

few_by : (x : Bool) (code : Option ℕ) (b : Block) (bs : List Block) (o : Option Block) → cond x (Some b) (block_of code bs) ≡ o → All GivesFew b.commands →
    ((o : Option Block) → block_of code bs ≡ o → IfSome o (λ c. All GivesFew c.commands)) → IfSome o (λ c. All GivesFew c.commands)
few_by true code b bs o is here rest = subst (λ (p : Option Block). IfSome p (λ c. All GivesFew c.commands)) is here
few_by false code b bs o is here rest = rest o is

pub block_gives_few : (code : Option ℕ) (bs : List Block) → All (λ b. All GivesFew b.commands) bs → (o : Option Block) → block_of code bs ≡ o → IfSome o (λ b. All GivesFew b.commands)
block_gives_few code [] all o is = subst (λ (p : Option Block). IfSome p (λ c. All GivesFew c.commands)) is tt
block_gives_few code (b ∷ bs) all o is =
    few_by (option_eq nat_eq b.code code) code b bs o is (all 0 b (omega arith)) (block_gives_few code bs (λ k d below. all (suc k) d (omega arith)))

-- those of the block that is chosen
pub chosen_few : (values : List ℕ) (bs : List Block) → All (λ b. All GivesFew b.commands) bs → All GivesFew (or_other (own_block values bs) (block_of None bs))
chosen_few values bs all = by (own_block values bs) (block_of None bs) (own_few values) (block_gives_few None bs all (block_of None bs) refl)
  where
    own_few : (values : List ℕ) → IfSome (own_block values bs) (λ b. All GivesFew b.commands)
    own_few [] = tt
    own_few (value ∷ values) = block_gives_few (Some value) bs all (block_of (Some value) bs) refl

    by : (own other : Option Block) → IfSome own (λ b. All GivesFew b.commands) → IfSome other (λ b. All GivesFew b.commands) → All GivesFew (or_other own other)
    by (Some b) other few others = few
    by None (Some b) few others = others
    by None None few others = All-nil GivesFew

module _ (values : List ℕ) (script : Script) where
  pub from_own : (b : Block) → own_block values script.blocks ≡ Some b → b.commands ≡ commands_for values script
  from_own b is = sym (commands_are values script ∙ ap (λ (o : Option Block). or_other o (block_of None script.blocks)) is)

  pub from_other : (b : Block) → own_block values script.blocks ≡ None → block_of None script.blocks ≡ Some b → b.commands ≡ commands_for values script
  from_other b none is = sym (commands_are values script ∙ (λ i. or_other (none i) (is i)))

  pub from_none : own_block values script.blocks ≡ None → block_of None script.blocks ≡ None → ◌≡◌ {A = List Command} [] (commands_for values script)
  from_none none neither = sym (commands_are values script ∙ (λ i. or_other (none i) (neither i)))

  pub few_for : HasFewValues script → All GivesFew (commands_for values script)
  few_for all = subst (All GivesFew) (sym (commands_are values script)) (chosen_few values script.blocks all)
