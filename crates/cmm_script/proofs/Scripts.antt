-- What whole texts are.
use Rattle.std.proofs.Common.{◌≡◌, ℕ, ◌≤◌, ◌<◌, List, [], length, Result, Ok, Err, refl, sym, ap, ◌∙◌, arith, inl, inr, ◌⊎◌}
use Rattle.std.proofs.lemmas.Bool.{cases_lt}
use Rattle.cmm_rules.specs.declared.rule.Rule.{Rule}
use Rattle.cmm_rules.specs.declared.rule.Rule.TheVariants.{ScriptTooLong}
use Rattle.cmm_script.specs.declared.fault.ScriptFault.{ScriptFault}
use Rattle.cmm_script.specs.declared.fault.ScriptFault.TheVariants.{At, Memory}
use Rattle.cmm_script.specs.declared.script.Block.{Block}
use Rattle.cmm_script.specs.declared.script.Script.{Script}
use Rattle.cmm_script.specs.Words.{said_in}
use Rattle.cmm_script.specs.inside.Building.{blocks_after, Makes}
use Rattle.cmm_script.specs.Spelling.{SpellsScript}
use Rattle.cmm_script.specs.Faults.{IsFirstFault, ScriptFaultAt, IsScript, IsRefusal}
use Rattle.cmm_script.specs.Laws.{OneScript, OneFault, ScriptOrFault, NeverBoth}
use Rattle.cmm_script.proofs.Blocks.{Comes, comes, spelled-made, broken-made}

-- the first fault of bytes that are not too long
fault-made : (bytes : List ℕ) (rule : Rule) (line : ℕ) → length bytes ≤ 65536 → IsFirstFault bytes rule line → blocks_after [] (said_in bytes) ≡ Err (rule, line)
fault-made bytes rule line short (inl (long, _, _)) = absurd (omega arith)
fault-made bytes rule line short (inr (_, h)) = broken-made (said_in bytes) rule line h

-- what the blocks that were made say of the text
comes-of : (bytes : List ℕ) (r : Result (List Block) (Rule × ℕ)) → blocks_after [] (said_in bytes) ≡ r → Comes (said_in bytes) r
comes-of bytes r e = rw (← e) (comes (said_in bytes))

pub made-script : (bytes : List ℕ) (bs : List Block) → length bytes ≤ 65536 → blocks_after [] (said_in bytes) ≡ Ok bs → SpellsScript bytes (record { blocks = bs })
made-script bytes bs short e = record { short = short; blocks = comes-of bytes (Ok bs) e }

-- what a fault that was made says of the text
pub made-fault : (bytes : List ℕ) (e : ScriptFault) → length bytes ≤ 65536 → Makes (Err e) (blocks_after [] (said_in bytes)) → ScriptFaultAt bytes e
made-fault bytes Memory short h = tt
made-fault bytes (At rule line) short h = inr (short, comes-of bytes (Err (rule, line)) h)

abbrev Made : Type 0
Made = Result (List Block) (Rule × ℕ)

same-made : (a b c : Made) → c ≡ a → c ≡ b → a ≡ b
same-made a b c e h = sym e ∙ h

ok-parts : (bs cs : List Block) → ◌≡◌ {A = Made} (Ok bs) (Ok cs) → bs ≡ cs
ok-parts bs cs e = cc

err-parts : (rule other : Rule) (line n : ℕ) → ◌≡◌ {A = Made} (Err (rule, line)) (Err (other, n)) → (rule ≡ other) × (line ≡ n)
err-parts rule other line n e = let both : ◌≡◌ {A = Rule × ℕ} (rule, line) (other, n) = cc in (ap (λ (p : Rule × ℕ). p.0) both, ap (λ (p : Rule × ℕ). p.1) both)

ok-err : (bs : List Block) (rule : Rule) (line : ℕ) → ◌≡◌ {A = Made} (Ok bs) (Err (rule, line)) → ⊥
ok-err bs rule line e = absurd cc

-- the blocks that are made are those of the script
pub made-is : (bytes : List ℕ) (bs : List Block) (s : Script) → blocks_after [] (said_in bytes) ≡ Ok bs → SpellsScript bytes s → ◌≡◌ {A = Script} (record { blocks = bs }) s
made-is bytes bs s e h = ap (λ (xs : List Block). record { blocks = xs }) (ok-parts bs s.blocks (same-made (Ok bs) (Ok s.blocks) (blocks_after [] (said_in bytes)) e (spelled-made (said_in bytes) s.blocks h.blocks)))

-- a script has no fault
no-fault : (bytes : List ℕ) (s : Script) (rule : Rule) (line : ℕ) → blocks_after [] (said_in bytes) ≡ Err (rule, line) → SpellsScript bytes s → ⊥
no-fault bytes s rule line e h = ok-err s.blocks rule line (same-made (Ok s.blocks) (Err (rule, line)) (blocks_after [] (said_in bytes)) (spelled-made (said_in bytes) s.blocks h.blocks) e)

pub script-fault : (bytes : List ℕ) (s : Script) (e : ScriptFault) → Makes (Err e) (blocks_after [] (said_in bytes)) → SpellsScript bytes s → IsScript s (Err e)
script-fault bytes s Memory h spelled = tt
script-fault bytes s (At rule line) h spelled = no-fault bytes s rule line h spelled

-- where blocks are made there is no fault
pub made-no-fault : (bytes : List ℕ) (bs : List Block) (rule : Rule) (line : ℕ) → length bytes ≤ 65536 → blocks_after [] (said_in bytes) ≡ Ok bs → IsFirstFault bytes rule line → ⊥
made-no-fault bytes bs rule line short e h = ok-err bs rule line (same-made (Ok bs) (Err (rule, line)) (blocks_after [] (said_in bytes)) e (fault-made bytes rule line short h))

-- the fault that is made is the first
pub fault-is : (bytes : List ℕ) (rule : Rule) (line : ℕ) (e : ScriptFault) → length bytes ≤ 65536 → Makes (Err e) (blocks_after [] (said_in bytes)) → IsFirstFault bytes rule line → IsRefusal rule line (Err e)
fault-is bytes rule line Memory short h first = tt
fault-is bytes rule line (At other n) short h first =
    err-parts other rule n line (same-made (Err (other, n)) (Err (rule, line)) (blocks_after [] (said_in bytes)) h (fault-made bytes rule line short first))

-- ---- laws

pub one-script : OneScript
one-script bytes s t h k = made-is bytes s.blocks t (spelled-made (said_in bytes) s.blocks h.blocks) k

-- faults of lines
one-of-lines : (bytes : List ℕ) (rule other : Rule) (line n : ℕ) → length bytes ≤ 65536 → IsFirstFault bytes rule line → IsFirstFault bytes other n → (rule ≡ other) × (line ≡ n)
one-of-lines bytes rule other line n short h k =
    err-parts rule other line n (same-made (Err (rule, line)) (Err (other, n)) (blocks_after [] (said_in bytes)) (fault-made bytes rule line short h) (fault-made bytes other n short k))

too-long : (bytes : List ℕ) (rule : Rule) (line : ℕ) → 65536 < length bytes → IsFirstFault bytes rule line → (rule ≡ ScriptTooLong) × (line ≡ 1)
too-long bytes rule line long (inl (_, rule-is, line-is)) = (rule-is, line-is)
too-long bytes rule line long (inr (short, _)) = absurd (omega arith)

pub one-fault : OneFault
one-fault bytes rule other line n h k =
    elim (cases_lt 65536 (length bytes)) [
      | inl long ↦ let a = too-long bytes rule line long h in let b = too-long bytes other n long k in (a.0 ∙ sym b.0, a.1 ∙ sym b.1)
      | inr short ↦ one-of-lines bytes rule other line n short h k
    ]

pub script-or-fault : ScriptOrFault
script-or-fault bytes =
    elim (cases_lt 65536 (length bytes)) [
      | inl long ↦ inr (ScriptTooLong, 1, inl (long, refl, refl))
      | inr short ↦ by short (blocks_after [] (said_in bytes)) refl
    ]
  where
    by : length bytes ≤ 65536 → (r : Result (List Block) (Rule × ℕ)) → blocks_after [] (said_in bytes) ≡ r → ((s : Script) × SpellsScript bytes s) ⊎ ((rule : Rule) × (line : ℕ) × IsFirstFault bytes rule line)
    by short (Ok bs) e = inl (record { blocks = bs }, made-script bytes bs short e)
    by short (Err (rule, line)) e = inr (rule, line, inr (short, comes-of bytes (Err (rule, line)) e))

pub never-both : NeverBoth
never-both bytes s rule line h k = no-fault bytes s rule line (fault-made bytes rule line h.short k) h
