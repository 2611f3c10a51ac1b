use Rattle.std.proofs.Common.{◌≡◌, ◌+◌, ◌≤◌, take}
use Rattle.std.specs.List.{count_by}
use Rattle.cmm_lexer.specs.Places.{ends_line}
use Rattle.cmm_lexer.specs.inside.Columns.{column_past}
use Rattle.cmm_lexer.proofs.tokens.Tokens.pass.Given as goal

-- the place reached is the one after the bytes so far
abbrev pub invariant-loop-byte : goal.invariant-loop-byte
invariant-loop-byte l = record {
  line : l.self.line ≡ l.initial.self.line + count_by ends_line (take l.byte-index l.bytes);
  column : l.self.column ≡ column_past l.initial.self.column (take l.byte-index l.bytes);
  low : l.self.line ≤ l.initial.self.line + l.byte-index;
  left : l.self.column ≤ l.initial.self.column + l.byte-index;
  list : l.self.list ≡ l.initial.self.list;
  spellings : l.self.spellings ≡ l.initial.self.spellings;
}
