-- Lines of the unit, as the definitions compute them.
use Rattle.std.proofs.Common.{◌≡◌, codes, refl}
use Rattle.std.specs.Fmt.{digits}
use Rattle.cmm_generated.specs.Generated.{cells, line, main_line, procedure_line}

table-row : cells 998 4 ≡ codes "998, 999, 0, 1, 2"
unfolding cells digits
table-row = refl

main-row : main_line 7 ≡ codes "main() { bits64 r; r = p0(7); return (r); }\n"
unfolding main_line digits
main-row = refl

call-row : procedure_line 0 ≡ codes "p0(bits64 x) { bits64 r; r = p1(x + bits64[t + 0]); return (r); }\n"
unfolding line digits
call-row = refl

jump-row : procedure_line 1 ≡ codes "p1(bits64 x) { jump p2(x + bits64[t + 8]); }\n"
unfolding line digits
jump-row = refl

return-row : procedure_line 2 ≡ codes "p2(bits64 x) { bits64 r; r = p3(x + bits64[t + 16]) also returns to k; return (r); continuation k(r): return (r); }\n"
unfolding line digits
return-row = refl

cut-row : procedure_line 1999 ≡ codes "p1999(bits64 x) { bits64 r; r = w(x + bits64[t + 15992], k) also cuts to k; return <1/1> (r); continuation k(r): r = p2000(r); return <0/1> (r); }\n"
unfolding line digits
cut-row = refl
