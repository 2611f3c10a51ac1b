-- Lines make the blocks that they spell, or break the first rule that they break.
use Rattle.std.proofs.Common.{◌≡◌, ℕ, Bool, true, false, cond, nat_eq, ◌||◌, List, [], ◌∷◌, ◌++◌, map, Option, Some, None, Result, Ok, Err, refl, sym, ap, subst, ◌∙◌, append_assoc, append-nil, inl, inr}
use Rattle.std.proofs.lemmas.List.{map-append}
use Rattle.std.proofs.lemmas.Map.Keys.{IsDistinct-push, IsDistinct-head, IsDistinct-tail}
use Rattle.std.specs.Cmp.{nat_eq_equiv}
use Rattle.std.specs.Cmp.Lexicographic.{options_equiv}
use Rattle.std.specs.List.{AllByRecursion, IsDistinct, list_any}
use Rattle.std.specs.Option.{option_eq}
use Rattle.cmm_rules.specs.declared.rule.Rule.{Rule}
use Rattle.cmm_rules.specs.declared.rule.Rule.TheVariants.{UnknownLine, RepeatedBlock}
use Rattle.cmm_script.specs.declared.line.Line.{Line}
use Rattle.cmm_script.specs.declared.line.Line.TheVariants.{Begins, Does}
use Rattle.cmm_script.specs.declared.script.Block.{Block}
use Rattle.cmm_script.specs.declared.script.Command.{Command}
use Rattle.cmm_script.specs.Words.{Word, Said}
use Rattle.cmm_script.specs.inside.Reading.{line_of}
use Rattle.cmm_script.specs.Spelling.{SpellsHead, SpellsCommand, SpellsCommands, SpellsBlock, SpellsBlocks, has_code, AreBlocks}
use Rattle.cmm_script.specs.Faults.{Breaks, BreaksFirst}
use Rattle.cmm_script.specs.inside.Building.{begun, with_command, onto_last, with_head, with_last, with_line, blocks_after}
use Rattle.cmm_script.proofs.Forms.{line-read, line-spelled}

-- ---- codes

abbrev codes_of : List Block → List (Option ℕ)
codes_of bs = map (λ b. b.code) bs

-- two codes are the same
abbrev same : Option ℕ → Option ℕ → Bool
same = option_eq nat_eq

same-flip : (a b : Option ℕ) → same a b ≡ same b a
same-flip a b = (options_equiv nat_eq_equiv).symm a b

has_code-list : (code : Option ℕ) (bs : List Block) → list_any (same code) (codes_of bs) ≡ has_code code bs
has_code-list code [] = refl
has_code-list code (b ∷ bs) = ap (λ (t : Bool). same code b.code || t) (has_code-list code bs)

all-mid : (P : Option ℕ → Type 0) (done : List Block) (b : Block) (bs : List Block) → AllByRecursion P (codes_of (done ++ b ∷ bs)) → P b.code
all-mid P [] b bs (h, rest) = h
all-mid P (a ∷ done) b bs (h, rest) = all-mid P done b bs rest

-- a code that is not given twice is not among those before it
new-code : (done : List Block) (b : Block) (bs : List Block) → IsDistinct same (codes_of (done ++ b ∷ bs)) → has_code b.code done ≡ false
new-code [] b bs h = refl
new-code (a ∷ done) b bs h =
    let other : same b.code a.code ≡ false = same-flip b.code a.code ∙ all-mid (λ c. same a.code c ≡ false) done b bs (IsDistinct-head same a.code (codes_of (done ++ b ∷ bs)) h) in
    rw (other, new-code done b bs (IsDistinct-tail same a.code (codes_of (done ++ b ∷ bs)) h)) refl

-- ---- what is spelled is made

onto_last-end : (f : Block → Block) (bs : List Block) (b : Block) → onto_last f (bs ++ b ∷ []) ≡ bs ++ f b ∷ []
onto_last-end f [] b = refl
onto_last-end f (a ∷ []) b = refl
onto_last-end f (a ∷ c ∷ bs) b = ap (λ (xs : List Block). a ∷ xs) (onto_last-end f (c ∷ bs) b)

with_last-end : (bs : List Block) (b : Block) (n : ℕ) (c : Command) → with_last (bs ++ b ∷ []) n c ≡ Ok (bs ++ with_command n c b ∷ [])
with_last-end [] b n c = refl
with_last-end (a ∷ bs) b n c = ap (λ (xs : List Block). Ok xs) (onto_last-end (with_command n c) (a ∷ bs) b)

-- what comes after a line of this number
abbrev after_line : ℕ → List Said → Result (List Block) Rule → Result (List Block) (Rule × ℕ)
after_line n ls r = elim r [ Err rule ↦ Err (rule, n) | Ok cs ↦ blocks_after cs ls ]

goes-on : (bs cs : List Block) (l : Said) (ls : List Said) → with_line bs l.number (line_of l.words) ≡ Ok cs → blocks_after bs (l ∷ ls) ≡ blocks_after cs ls
goes-on bs cs l ls e = ap (after_line l.number ls) e

stops : (bs : List Block) (rule : Rule) (l : Said) (ls : List Said) → with_line bs l.number (line_of l.words) ≡ Err rule → blocks_after bs (l ∷ ls) ≡ Err (rule, l.number)
stops bs rule l ls e = ap (after_line l.number ls) e

-- a block begins, where its code is new or is not
abbrev headed : List Block → Option ℕ → Bool → Result (List Block) Rule
headed bs code t = cond t (Err RepeatedBlock) (Ok (bs ++ begun code ∷ []))

-- the commands of the last block
commands-made : (ls : List Said) (cs : List Command) (ns : List ℕ) (done : List Block) (b : Block) (more : List Said) → SpellsCommands ls cs ns
    → blocks_after (done ++ b ∷ []) (ls ++ more) ≡ blocks_after (done ++ record { code = b.code; commands = b.commands ++ cs; lines = b.lines ++ ns } ∷ []) more
commands-made [] [] [] done b more h = rw (append-nil b.commands, append-nil b.lines) refl
commands-made [] [] (n ∷ ns) done b more h = absurd h
commands-made [] (c ∷ cs) ns done b more h = absurd h
commands-made (l ∷ ls) [] ns done b more h = absurd h
commands-made (l ∷ ls) (c ∷ cs) [] done b more h = absurd h
commands-made (l ∷ ls) (c ∷ cs) (n ∷ ns) done b more (first, here, h) =
    let made : with_line (done ++ b ∷ []) l.number (line_of l.words) ≡ Ok (done ++ with_command n c b ∷ []) = rw (line-read l.words (Does c) first, here) (with_last-end done b n c) in
    goes-on (done ++ b ∷ []) (done ++ with_command n c b ∷ []) l (ls ++ more) made
    ∙ commands-made ls cs ns done (with_command n c b) more h
    ∙ rw (append_assoc b.commands (c ∷ []) cs, append_assoc b.lines (n ∷ []) ns) refl

block-made : (front : List Said) (b : Block) (done : List Block) (more : List Said) → SpellsBlock front b → has_code b.code done ≡ false → blocks_after done (front ++ more) ≡ blocks_after (done ++ b ∷ []) more
block-made [] b done more h new = absurd h
block-made (l ∷ ls) b done more (head, h) new =
    let made : with_line done l.number (line_of l.words) ≡ Ok (done ++ begun b.code ∷ []) = rw (line-read l.words (Begins b.code) head) (ap (headed done b.code) new) in
    goes-on done (done ++ begun b.code ∷ []) l (ls ++ more) made ∙ commands-made ls b.commands b.lines done (begun b.code) more h

-- the lines of blocks make them, after others with other codes
pub blocks-made : (bs done : List Block) (ls more : List Said) → SpellsBlocks ls bs → IsDistinct same (codes_of (done ++ bs)) → blocks_after done (ls ++ more) ≡ blocks_after (done ++ bs) more
blocks-made [] done ls more h distinct = rw (h, append-nil done) refl
blocks-made (b ∷ bs) done ls more (front, rest, e, first, h) distinct =
    let regrouped : (done ++ b ∷ []) ++ bs ≡ done ++ b ∷ bs = append_assoc done (b ∷ []) bs in
    ap (λ (xs : List Said). blocks_after done (xs ++ more)) e
    ∙ ap (blocks_after done) (append_assoc front rest more)
    ∙ block-made front b done (rest ++ more) first (new-code done b bs distinct)
    ∙ blocks-made bs (done ++ b ∷ []) rest more h (subst (λ (xs : List Block). IsDistinct same (codes_of xs)) (sym regrouped) distinct)
    ∙ ap (λ (xs : List Block). blocks_after xs more) regrouped

-- ---- what is made is spelled

commands-end : (ls : List Said) (cs : List Command) (ns : List ℕ) (l : Said) (c : Command) → SpellsCommands ls cs ns → SpellsCommand l.words c → SpellsCommands (ls ++ l ∷ []) (cs ++ c ∷ []) (ns ++ l.number ∷ [])
commands-end [] [] [] l c h s = (s, refl, tt)
commands-end [] [] (n ∷ ns) l c h s = absurd h
commands-end [] (d ∷ cs) ns l c h s = absurd h
commands-end (k ∷ ls) [] ns l c h s = absurd h
commands-end (k ∷ ls) (d ∷ cs) [] l c h s = absurd h
commands-end (k ∷ ls) (d ∷ cs) (n ∷ ns) l c (first, here, h) s = (first, here, commands-end ls cs ns l c h s)

block-end : (ls : List Said) (b : Block) (l : Said) (c : Command) → SpellsBlock ls b → SpellsCommand l.words c → SpellsBlock (ls ++ l ∷ []) (with_command l.number c b)
block-end [] b l c h s = absurd h
block-end (k ∷ ls) b l c (head, h) s = (head, commands-end ls b.commands b.lines l c h s)

-- a command goes on the last block
command-end : (bs : List Block) (b : Block) (ls : List Said) (l : Said) (c : Command) → SpellsBlocks ls (b ∷ bs) → SpellsCommand l.words c → SpellsBlocks (ls ++ l ∷ []) (onto_last (with_command l.number c) (b ∷ bs))
command-end [] b ls l c (front, rest, e, first, h) s =
    let whole : ls ≡ front = e ∙ ap (λ (xs : List Said). front ++ xs) h ∙ append-nil front in
    (front ++ l ∷ [], [], ap (λ (xs : List Said). xs ++ l ∷ []) whole ∙ sym (append-nil (front ++ l ∷ [])), block-end front b l c first s, refl)
command-end (a ∷ bs) b ls l c (front, rest, e, first, h) s =
    (front, rest ++ l ∷ [], ap (λ (xs : List Said). xs ++ l ∷ []) e ∙ append_assoc front rest (l ∷ []), first, command-end bs a rest l c h s)

-- a block begins after the others
head-end : (bs : List Block) (ls : List Said) (l : Said) (code : Option ℕ) → SpellsBlocks ls bs → SpellsHead l.words code → SpellsBlocks (ls ++ l ∷ []) (bs ++ begun code ∷ [])
head-end [] ls l code h s = (l ∷ [], [], ap (λ (xs : List Said). xs ++ l ∷ []) h, (s, tt), refl)
head-end (b ∷ bs) ls l code (front, rest, e, first, h) s =
    (front, rest ++ l ∷ [], ap (λ (xs : List Said). xs ++ l ∷ []) e ∙ append_assoc front rest (l ∷ []), first, head-end bs rest l code h s)

codes_of-last : (n : ℕ) (c : Command) (bs : List Block) → codes_of (onto_last (with_command n c) bs) ≡ codes_of bs
codes_of-last n c [] = refl
codes_of-last n c (b ∷ []) = refl
codes_of-last n c (b ∷ a ∷ bs) = ap (λ (xs : List (Option ℕ)). b.code ∷ xs) (codes_of-last n c (a ∷ bs))

-- the blocks with one line more
head-sound : (bs ds : List Block) (ls : List Said) (l : Said) (code : Option ℕ) → AreBlocks ls bs → SpellsHead l.words code → with_head bs code ≡ Ok ds → AreBlocks (ls ++ l ∷ []) ds
head-sound bs ds ls l code sound s e = by (has_code code bs) refl e
  where
    by : (t : Bool) → has_code code bs ≡ t → headed bs code t ≡ Ok ds → AreBlocks (ls ++ l ∷ []) ds
    by true new e = absurd cc
    by false new e =
        let made : bs ++ begun code ∷ [] ≡ ds = cc in
        let pushed : IsDistinct same (codes_of (bs ++ begun code ∷ [])) = rw (map-append (λ (b : Block). b.code) bs (begun code ∷ [])) (IsDistinct-push (options_equiv nat_eq_equiv) (codes_of bs) code sound.distinct (has_code-list code bs ∙ new)) in
        subst (AreBlocks (ls ++ l ∷ [])) made (record { spelled = head-end bs ls l code sound.spelled s; distinct = pushed })

last-sound : (bs ds : List Block) (ls : List Said) (l : Said) (c : Command) → AreBlocks ls bs → SpellsCommand l.words c → with_last bs l.number c ≡ Ok ds → AreBlocks (ls ++ l ∷ []) ds
last-sound [] ds ls l c sound s e = absurd cc
last-sound (b ∷ bs) ds ls l c sound s e =
    let made : onto_last (with_command l.number c) (b ∷ bs) ≡ ds = cc in
    subst (AreBlocks (ls ++ l ∷ [])) made (record { spelled = command-end bs b ls l c sound.spelled s; distinct = rw (codes_of-last l.number c (b ∷ bs)) sound.distinct })

line-sound : (bs ds : List Block) (ls : List Said) (l : Said) (o : Option Line) → line_of l.words ≡ o → AreBlocks ls bs → with_line bs l.number o ≡ Ok ds → AreBlocks (ls ++ l ∷ []) ds
line-sound bs ds ls l None read sound e = absurd cc
line-sound bs ds ls l (Some (Begins code)) read sound e = head-sound bs ds ls l code sound (line-spelled l.words (Begins code) read) e
line-sound bs ds ls l (Some (Does c)) read sound e = last-sound bs ds ls l c sound (line-spelled l.words (Does c) read) e

-- ---- what breaks a rule

none-some : {X : Type 0} (o : Option X) (x : X) → o ≡ None → o ≡ Some x → ⊥
none-some o x e h = let both : None ≡ Some x = sym e ∙ h in cc

-- why a rule is broken
line-breaks : (bs : List Block) (ws : List Word) (n : ℕ) (rule : Rule) (o : Option Line) → line_of ws ≡ o → with_line bs n o ≡ Err rule → Breaks bs ws rule
line-breaks bs ws n rule None read e =
    let form : rule ≡ UnknownLine = cc in
    inl (form, inl (λ code h. none-some (line_of ws) (Begins code) read (line-read ws (Begins code) h), λ c h. none-some (line_of ws) (Does c) read (line-read ws (Does c) h)))
line-breaks bs ws n rule (Some (Begins code)) read e = by (has_code code bs) refl e
  where
    by : (t : Bool) → has_code code bs ≡ t → headed bs code t ≡ Err rule → Breaks bs ws rule
    by true has e = let repeat : rule ≡ RepeatedBlock = cc in inr (repeat, code, line-spelled ws (Begins code) read, has)
    by false has e = absurd cc
line-breaks [] ws n rule (Some (Does c)) read e =
    let form : rule ≡ UnknownLine = cc in
    inl (form, inr (refl, c, line-spelled ws (Does c) read))
line-breaks (b ∷ bs) ws n rule (Some (Does c)) read e = absurd cc

-- a line that breaks a rule is refused
breaks-made : (bs : List Block) (ws : List Word) (n : ℕ) (rule : Rule) → Breaks bs ws rule → with_line bs n (line_of ws) ≡ Err rule
breaks-made bs ws n rule (inl (form, inl none)) = rw form (by (line_of ws) refl)
  where
    by : (o : Option Line) → line_of ws ≡ o → with_line bs n (line_of ws) ≡ Err UnknownLine
    by None e = rw e refl
    by (Some (Begins code)) e = absurd (none.0 code (line-spelled ws (Begins code) e))
    by (Some (Does c)) e = absurd (none.1 c (line-spelled ws (Does c) e))
breaks-made bs ws n rule (inl (form, inr (first, c, h))) = rw (form, line-read ws (Does c) h, first) refl
breaks-made bs ws n rule (inr (repeat, code, h, has)) = rw (repeat, line-read ws (Begins code) h) (ap (headed bs code) has)

-- ---- both

-- what lines make is what they spell, or the first rule that they break
abbrev pub Comes : List Said → Result (List Block) (Rule × ℕ) → Type 0
Comes ls (Ok bs) = AreBlocks ls bs
Comes ls (Err (rule, n)) = BreaksFirst ls rule n

comes-after : (ls before : List Said) (bs : List Block) → AreBlocks before bs → Comes (before ++ ls) (blocks_after bs ls)
comes-after [] before bs sound = rw (append-nil before) sound
comes-after (l ∷ ls) before bs sound = by (λ ds h. comes-after ls (before ++ l ∷ []) ds h) (with_line bs l.number (line_of l.words)) refl
  where
    by : ((ds : List Block) → AreBlocks (before ++ l ∷ []) ds → Comes ((before ++ l ∷ []) ++ ls) (blocks_after ds ls)) → (r : Result (List Block) Rule) → with_line bs l.number (line_of l.words) ≡ r
        → Comes (before ++ l ∷ ls) (after_line l.number ls r)
    by later (Ok ds) e = subst (λ (xs : List Said). Comes xs (blocks_after ds ls)) (append_assoc before (l ∷ []) ls) (later ds (line-sound bs ds before l (line_of l.words) refl sound e))
    by later (Err rule) e = record { before = before; at = l; after = ls; parts = refl; blocks = bs; sound = sound; breaks = line-breaks bs l.words l.number rule (line_of l.words) refl e; here = refl }

-- of a whole text
pub comes : (ls : List Said) → Comes ls (blocks_after [] ls)
unfolding IsDistinct
comes ls = comes-after ls [] [] (record { spelled = refl; distinct = tt })

-- blocks are made of the lines that spell them
pub spelled-made : (ls : List Said) (bs : List Block) → AreBlocks ls bs → blocks_after [] ls ≡ Ok bs
spelled-made ls bs h = ap (blocks_after []) (sym (append-nil ls)) ∙ blocks-made bs [] ls [] h.spelled h.distinct

-- the first rule that is broken is found
pub broken-made : (ls : List Said) (rule : Rule) (n : ℕ) → BreaksFirst ls rule n → blocks_after [] ls ≡ Err (rule, n)
broken-made ls rule n h =
    ap (blocks_after []) h.parts ∙ blocks-made h.blocks [] h.before (h.at ∷ h.after) h.sound.spelled h.sound.distinct
    ∙ stops h.blocks rule h.at h.after (breaks-made h.blocks h.at.words h.at.number rule h.breaks) ∙ ap (λ (k : ℕ). Err (rule, k)) (sym h.here)
