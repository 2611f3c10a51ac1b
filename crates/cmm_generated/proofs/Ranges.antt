-- Texts that grow by one number at a time.
use Rattle.std.proofs.Common.{◌≡◌, ℕ, zero, suc, ◌+◌, ◌-◌, ◌%◌, ◌≤◌, List, ◌++◌, Result, Ok, Err, OnOk, codes, decimal, flat_map, ap, sym, ◌∙◌, arith, append-nil, append_assoc}
use Rattle.std.specs.List.{range_with_len}
use Rattle.cmm_generated.specs.Generated.{cell, cells, next_cell, procedure_line, procedure_lines}

-- what comes of one number more
flat_map-range : (f : ℕ → List ℕ) (a n j : ℕ) → a + n ≡ j → flat_map f (range_with_len a (n + 1)) ≡ flat_map f (range_with_len a n) ++ f j
flat_map-range f a zero j e =
    let same : a ≡ j = omega arith in
    append-nil (f a) ∙ ap f same
flat_map-range f a (suc n) j e =
    let on : suc n + 1 ≡ suc (n + 1) = omega arith in
    ap (λ k. flat_map f (range_with_len a k)) on
    ∙ ap (λ l. f a ++ l) (flat_map-range f (a + 1) n j (omega arith))
    ∙ sym (append_assoc (f a) (flat_map f (range_with_len (a + 1) n)) (f j))

-- the table with its first number alone
pub cells-first : (number : ℕ) → decimal (number % 1000) ≡ cells number 0
unfolding cells
cells-first number =
    let same : number % 1000 ≡ cell number 0 = omega arith in
    ap decimal same ∙ sym (append-nil (decimal (cell number 0)))

-- the table with one number more
pub cells-more : (number i : ℕ) → 1 ≤ i → cells number (i - 1) ++ (codes ", " ++ decimal ((number % 1000 + i) % 1000)) ≡ cells number (i + 1 - 1)
unfolding cells
cells-more number i from =
    let same : (number % 1000 + i) % 1000 ≡ cell number i = omega arith in
    let on : i + 1 - 1 ≡ i - 1 + 1 = omega arith in
    ap (λ n. (decimal (cell number 0) ++ flat_map (next_cell number) (range_with_len 1 (i - 1))) ++ (codes ", " ++ decimal n)) same
    ∙ append_assoc (decimal (cell number 0)) (flat_map (next_cell number) (range_with_len 1 (i - 1))) (next_cell number i)
    ∙ ap (λ l. decimal (cell number 0) ++ l) (sym (flat_map-range (next_cell number) 1 (i - 1) i (omega arith)))
    ∙ ap (λ n. decimal (cell number 0) ++ flat_map (next_cell number) (range_with_len 1 n)) (sym on)

-- the lines with one procedure more
pub lines-more : (i : ℕ) → procedure_lines i ++ procedure_line i ≡ procedure_lines (i + 1)
unfolding procedure_lines
lines-more i = sym (flat_map-range procedure_line 0 i i (omega arith))

-- two texts written one after another
pub then : (old mid new xs ys : List ℕ) → mid ≡ old ++ xs → new ≡ mid ++ ys → new ≡ old ++ (xs ++ ys)
then old mid new xs ys first second = second ∙ ap (λ l. l ++ ys) first ∙ append_assoc old xs ys

-- what follows from what a call that went well promises
pub on_ok : {T E : Type 0} (r : Result T E) {P Q : Type 0} → (P → Q) → OnOk r P → OnOk r Q
on_ok (Ok x) f p = f p
on_ok (Err e) f p = tt
