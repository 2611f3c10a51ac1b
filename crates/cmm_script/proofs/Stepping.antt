-- One line after another makes the blocks.
use Rattle.std.proofs.Common.{◌≡◌, ℕ, zero, suc, ◌+◌, ◌<◌, Bool, true, false, List, [], ◌∷◌, ◌++◌, length, get_or, set, drop, Result, Ok, Err, refl, sym, ap, ◌∙◌, arith, add-one}
use Rattle.std.proofs.Math.Seq.{drop-cons}
use Rattle.std.proofs.lemmas.List.{drop_all}
use Rattle.cmm_rules.specs.declared.rule.Rule.{Rule}
use Rattle.cmm_script.specs.declared.fault.ScriptFault.{ScriptFault}
use Rattle.cmm_script.specs.declared.fault.ScriptFault.TheVariants.{At, Memory}
use Rattle.cmm_script.specs.declared.script.Block.{Block}
use Rattle.cmm_script.specs.declared.script.Command.{Command}
use Rattle.cmm_script.specs.Words.{Word, words_in, is_skipped, said_from}
use Rattle.cmm_script.specs.inside.Reading.{line_of}
use Rattle.cmm_script.specs.inside.Building.{with_command, onto_last, with_last, with_line, with_words, blocks_after, Leaves, Makes}

-- to change the last block is to put another in its place
onto_last-set : (f : Block → Block) (bs : List Block) (k : ℕ) (b : Block) → length bs ≡ suc k → b ≡ get_or bs k b → onto_last f bs ≡ set bs k (f b)
onto_last-set f [] k b len at = absurd cc
onto_last-set f (a ∷ []) zero b len at = rw at refl
onto_last-set f (a ∷ []) (suc k) b len at = absurd (omega arith)
onto_last-set f (a ∷ c ∷ bs) zero b len at = absurd (omega (arith, len))
onto_last-set f (a ∷ c ∷ bs) (suc k) b len at = ap (λ (xs : List Block). a ∷ xs) (onto_last-set f (c ∷ bs) k b (omega arith) at)

-- a command is added at the place of the last block
pub with_last-set : (bs : List Block) (n k : ℕ) (c : Command) (b : Block) (cs : List Command) (ns : List ℕ) → length bs ≡ suc k → b ≡ get_or bs k b → cs ≡ b.commands ++ c ∷ [] → ns ≡ b.lines ++ n ∷ []
    → with_last bs n c ≡ Ok (set bs k (record { code = b.code; commands = cs; lines = ns }))
with_last-set [] n k c b cs ns len at d e = absurd cc
with_last-set (a ∷ bs) n k c b cs ns len at d e = rw (d, e) (ap (λ (xs : List Block). Ok xs) (onto_last-set (with_command n c) (a ∷ bs) k b len at))

-- the blocks after the line of this number and those that follow it
abbrev after_line : ℕ → List (List ℕ) → Result (List Block) Rule → Result (List Block) (Rule × ℕ)
after_line n lines (Err rule) = Err (rule, n)
after_line n lines (Ok cs) = blocks_after cs (said_from (suc n) lines)

blocks_after-line : (bs : List Block) (n : ℕ) (line : List ℕ) (lines : List (List ℕ)) → blocks_after bs (said_from n (line ∷ lines)) ≡ after_line n lines (with_words bs n (words_in line))
unfolding with_words
blocks_after-line bs n line lines = by (is_skipped (words_in line)) (words_in line)
  where
    over : (r : Result (List Block) Rule) → elim r [ Err rule ↦ Err (rule, n) | Ok cs ↦ blocks_after cs (said_from (suc n) lines) ] ≡ after_line n lines r
    over (Ok cs) = refl
    over (Err rule) = refl

    by : (t : Bool) (ws : List Word) → blocks_after bs (elim t [ true ↦ said_from (suc n) lines | false ↦ record { number = n; words = ws } ∷ said_from (suc n) lines ])
        ≡ after_line n lines (elim t [ true ↦ Ok bs | false ↦ with_line bs n (line_of ws) ])
    by true ws = refl
    by false ws = over (with_line bs n (line_of ws))

blocks_after-at : (bs : List Block) (i : ℕ) (lines : List (List ℕ)) (line : List ℕ) (made : Result (List Block) Rule) → i < length lines → line ≡ get_or lines i line → with_words bs (i + 1) (words_in line) ≡ made
    → blocks_after bs (said_from (suc i) (drop i lines)) ≡ after_line (suc i) (drop (suc i) lines) made
blocks_after-at bs i lines line made h at e =
    let there : with_words bs (suc i) (words_in line) ≡ made = rw (← add-one i) e in
    rw (drop-cons lines i line h, ← at) (blocks_after-line bs (suc i) line (drop (suc i) lines) ∙ ap (after_line (suc i) (drop (suc i) lines)) there)

-- one more line is read
pub lines-more : (bs cs : List Block) (i : ℕ) (lines : List (List ℕ)) (line : List ℕ) (all : Result (List Block) (Rule × ℕ)) → (i < length lines) × (line ≡ get_or lines i line) → with_words bs (i + 1) (words_in line) ≡ Ok cs
    → blocks_after bs (said_from (suc i) (drop i lines)) ≡ all → blocks_after cs (said_from (suc (i + 1)) (drop (i + 1) lines)) ≡ all
lines-more bs cs i lines line all (h, at) e so_far = rw add-one (sym (blocks_after-at bs i lines line (Ok cs) h at e) ∙ so_far)

-- a line breaks a rule
pub lines-broken : (bs left : List Block) (i : ℕ) (lines : List (List ℕ)) (line : List ℕ) (all : Result (List Block) (Rule × ℕ)) (e : ScriptFault) → (i < length lines) × (line ≡ get_or lines i line)
    → Leaves (Err e) (i + 1) left (with_words bs (i + 1) (words_in line)) → blocks_after bs (said_from (suc i) (drop i lines)) ≡ all → Makes (Err e) all
lines-broken bs left i lines line all Memory (h, at) fault so_far = tt
lines-broken bs left i lines line all (At rule n) (h, at) (here, e) so_far =
    let there : suc i ≡ n = omega (arith, here) in
    sym so_far ∙ blocks_after-at bs i lines line (Err rule) h at e ∙ ap (λ (k : ℕ). Err (rule, k)) there

-- all lines are read
pub lines-done : (bs : List Block) (i : ℕ) (lines : List (List ℕ)) (all : Result (List Block) (Rule × ℕ)) (cs : List Block) → cs ≡ bs → i ≡ length lines → blocks_after bs (said_from (suc i) (drop i lines)) ≡ all → all ≡ Ok cs
lines-done bs i lines all cs same e so_far = rw same (sym so_far ∙ ap (λ (ls : List (List ℕ)). blocks_after bs (said_from (suc i) ls)) (drop_all i lines (omega (arith, e))))
