-- The unit that the compiler is measured on, as text. It has a table of 2,000 numbers and as many procedures, each of which calls
-- the next with what it was given and its own number of the table: by a call, by a jump, with an alternate return, and with a cut
-- from a procedure between, in turn. The last gives back what it is given, which is the sum.
use Rattle.std.specs.Prelude.{ℕ, zero, suc, ◌+◌, ◌*◌, ◌%◌, List, ◌++◌, flat_map, codes, decimal}
use Rattle.std.specs.List.{range_with_len}

-- number i of the table
abbrev pub cell : ℕ → ℕ → ℕ
cell number i = (number + i) % 1000

-- number i of the table, behind a comma and a space
abbrev pub next_cell : ℕ → ℕ → List ℕ
next_cell number i = codes ", " ++ decimal (cell number i)

-- numbers 0 to n of the table
unfoldable pub cells : ℕ → ℕ → List ℕ
cells number n = decimal (cell number 0) ++ flat_map (next_cell number) (range_with_len 1 n)

-- the line of the table
unfoldable pub table_line : ℕ → List ℕ
table_line number = codes "section \"data\" { t: bits64 { " ++ (cells number 1999 ++ codes " }; }\n")

-- the line of main
unfoldable pub main_line : ℕ → List ℕ
main_line number = codes "main() { bits64 r; r = p0(" ++ (decimal number ++ codes "); return (r); }\n")

-- the lines before those of the procedures that are alike
unfoldable pub first_lines : ℕ → List ℕ
first_lines number = codes "export main;\n" ++ (table_line number ++ (main_line number ++ codes "w(bits64 x, bits64 k) { cut to k(x); }\n"))

-- the line of procedure i, by its sort: j is the next procedure, and a the place of its number in the table
unfoldable pub line : ℕ → ℕ → ℕ → ℕ → List ℕ
line i j a zero =
    codes "p" ++ (decimal i ++ (codes "(bits64 x) { bits64 r; r = p" ++ (decimal j ++ (codes "(x + bits64[t + " ++ (decimal a
    ++ codes "]); return (r); }\n")))))
line i j a (suc zero) =
    codes "p" ++ (decimal i ++ (codes "(bits64 x) { jump p" ++ (decimal j ++ (codes "(x + bits64[t + " ++ (decimal a
    ++ codes "]); }\n")))))
line i j a (suc (suc zero)) =
    codes "p" ++ (decimal i ++ (codes "(bits64 x) { bits64 r; r = p" ++ (decimal j ++ (codes "(x + bits64[t + " ++ (decimal a
    ++ codes "]) also returns to k; return (r); continuation k(r): return (r); }\n")))))
line i j a (suc (suc (suc sort))) =
    codes "p" ++ (decimal i ++ (codes "(bits64 x) { bits64 r; r = w(x + bits64[t + " ++ (decimal a
    ++ (codes "], k) also cuts to k; return <1/1> (r); continuation k(r): r = p" ++ (decimal j ++ codes "(r); return <0/1> (r); }\n")))))

-- the line of procedure i
abbrev pub procedure_line : ℕ → List ℕ
procedure_line i = line i (i + 1) (8 * i) (i % 4)

-- the lines of the first n procedures
unfoldable pub procedure_lines : ℕ → List ℕ
procedure_lines n = flat_map procedure_line (range_with_len 0 n)

-- the whole text
unfoldable pub generated : ℕ → List ℕ
generated number = first_lines number ++ (procedure_lines 2000 ++ codes "p2000(bits64 x) { return (x); }\n")
