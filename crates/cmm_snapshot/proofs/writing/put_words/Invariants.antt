use Rattle.std.proofs.Common.{◌≡◌, ◌++◌, take}
use Rattle.cmm_snapshot.specs.inside.Takings.{numbered_bytes}
use Rattle.cmm_snapshot.proofs.writing.put_words.Given as goal

abbrev pub invariant-loop-word : goal.invariant-loop-word
invariant-loop-word l = l.out.items ≡ l.fn.out.items ++ numbered_bytes (take l.word-index l.words)
