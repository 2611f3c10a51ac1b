use Rattle.std.proofs.Common.{◌++◌, codes, string_bytes}
use Rattle.cmm_generated.specs.Generated.{first_lines, main_line, table_line}
use Rattle.cmm_generated.proofs.Ranges.{on_ok, then}
use Rattle.cmm_generated.proofs.put_first_lines.Goals as goal

pub returns : goal.returns
unfolding first_lines main_line
returns c =
    let first = codes "export main;\n" in
    let table = table_line c.args.number in
    let main = main_line c.args.number in
    let last = codes "w(bits64 x, bits64 k) { cut to k(x); }\n" in
    let old = string_bytes c.args.text.now in
    let one = string_bytes c.writeln.new.self in
    let two = string_bytes c.put_table.new.text in
    let three = string_bytes c.writeln-2.new.self in
    let new = string_bytes c.writeln-3.new.self in
    on_ok c.writeln-3.result
    (λ bytes. then old one new first (table ++ (main ++ last)) c.in_ok-writeln.ensures.bytes
    (then one two new table (main ++ last) c.in_ok-put_table.ensures
    (then two three new main last c.in_ok-writeln-2.ensures.bytes bytes)))
    c.writeln-3.ensures.bytes
