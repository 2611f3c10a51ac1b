-- The rules by the numbers and texts that users see.
use Rattle.std.specs.Prelude.{ℕ, ◌==◌, List, [], ◌∷◌, ◌++◌, Option, codes, decimal}
use Rattle.std.specs.List.{find}
use Rattle.cmm_rules.specs.declared.rule.Rule.{Rule}
use Rattle.cmm_rules.specs.declared.rule.Rule.TheVariants as rule
use Rattle.cmm_rules.specs.declared.rule.Phase.{Phase}
use Rattle.cmm_rules.specs.declared.rule.Phase.TheVariants as phase

abbrev pub rule_number : Rule → ℕ
rule_number rule.BadByte = 1
rule_number rule.OpenComment = 2
rule_number rule.OpenText = 3
rule_number rule.BadNumber = 4
rule_number rule.UnitTooLong = 5
rule_number rule.Syntax = 10
rule_number rule.TooDeep = 11
rule_number rule.DeclaredTwice = 20
rule_number rule.Undeclared = 21
rule_number rule.NotAVariable = 22
rule_number rule.WidthsDiffer = 23
rule_number rule.ConditionOrBitsWanted = 24
rule_number rule.LiteralDoesNotFit = 25
rule_number rule.UnknownOperator = 26
rule_number rule.NotAConstant = 27
rule_number rule.CountsDiffer = 28
rule_number rule.NoSuchLabel = 29
rule_number rule.NotALocalVariable = 30
rule_number rule.ArmsOverlap = 31
rule_number rule.BadReturnIndex = 32
rule_number rule.TooManyValues = 33
rule_number rule.NotExported = 34
rule_number rule.ExportedTwice = 35
rule_number rule.NoMain = 36
rule_number rule.OtherTarget = 37
rule_number rule.BadHostCall = 38
rule_number rule.Cycle = 39
rule_number rule.Limit = 40
rule_number rule.NotAnImage = 50
rule_number rule.OtherImageVersion = 51
rule_number rule.ImageIsCut = 52
rule_number rule.BadImageField = 53
rule_number rule.ImageOutOfRange = 54
rule_number rule.BytesAfterImage = 55
rule_number rule.ImageTooLong = 56
rule_number rule.TwoPlaces = 57
rule_number rule.NoActivation = 60
rule_number rule.NoVariable = 61
rule_number rule.DeadVariable = 62
rule_number rule.DoesNotFit = 63
rule_number rule.NoExit = 64
rule_number rule.OtherCount = 65
rule_number rule.InvariantVariable = 66
rule_number rule.NoCut = 67
rule_number rule.NoPlace = 68
rule_number rule.NoYieldedValue = 69
rule_number rule.SnapshotIsCut = 70
rule_number rule.OtherImageHeader = 71
rule_number rule.BadSnapshotField = 72
rule_number rule.SnapshotTooLong = 73
rule_number rule.BytesAfterSnapshot = 74
rule_number rule.NotASnapshot = 75
rule_number rule.UnknownLine = 80
rule_number rule.RepeatedBlock = 81
rule_number rule.ScriptTooLong = 82
rule_number rule.NotAnElfFile = 110
rule_number rule.ElfFileIsCut = 111
rule_number rule.BadElfField = 112
rule_number rule.BytesOutsideSegments = 113
rule_number rule.ElfFileTooLong = 114

-- what is wrong, in a few words
abbrev pub rule_text : Rule → List ℕ
rule_text rule.BadByte = codes "bad byte"
rule_text rule.OpenComment = codes "open comment"
rule_text rule.OpenText = codes "open text"
rule_text rule.BadNumber = codes "bad number"
rule_text rule.UnitTooLong = codes "unit too long"
rule_text rule.Syntax = codes "syntax"
rule_text rule.TooDeep = codes "too deep"
rule_text rule.DeclaredTwice = codes "declared twice"
rule_text rule.Undeclared = codes "undeclared"
rule_text rule.NotAVariable = codes "not a variable"
rule_text rule.WidthsDiffer = codes "widths differ"
rule_text rule.ConditionOrBitsWanted = codes "condition or bits wanted"
rule_text rule.LiteralDoesNotFit = codes "literal does not fit"
rule_text rule.UnknownOperator = codes "unknown operator"
rule_text rule.NotAConstant = codes "not a constant"
rule_text rule.CountsDiffer = codes "counts differ"
rule_text rule.NoSuchLabel = codes "no such label"
rule_text rule.NotALocalVariable = codes "not a local variable"
rule_text rule.ArmsOverlap = codes "arms overlap or leave the range"
rule_text rule.BadReturnIndex = codes "bad return index"
rule_text rule.TooManyValues = codes "too many values"
rule_text rule.NotExported = codes "not exported"
rule_text rule.ExportedTwice = codes "exported twice"
rule_text rule.NoMain = codes "no main"
rule_text rule.OtherTarget = codes "other target"
rule_text rule.BadHostCall = codes "bad host call"
rule_text rule.Cycle = codes "cycle"
rule_text rule.Limit = codes "limit"
rule_text rule.NotAnImage = codes "not an image"
rule_text rule.OtherImageVersion = codes "other image version"
rule_text rule.ImageIsCut = codes "image is cut"
rule_text rule.BadImageField = codes "bad image field"
rule_text rule.ImageOutOfRange = codes "image out of range"
rule_text rule.BytesAfterImage = codes "bytes after image"
rule_text rule.ImageTooLong = codes "image too long"
rule_text rule.TwoPlaces = codes "two places"
rule_text rule.NoActivation = codes "no activation"
rule_text rule.NoVariable = codes "no variable"
rule_text rule.DeadVariable = codes "dead variable"
rule_text rule.DoesNotFit = codes "does not fit"
rule_text rule.NoExit = codes "no exit"
rule_text rule.OtherCount = codes "other count"
rule_text rule.InvariantVariable = codes "invariant variable"
rule_text rule.NoCut = codes "no cut"
rule_text rule.NoPlace = codes "no place"
rule_text rule.NoYieldedValue = codes "no yielded value"
rule_text rule.SnapshotIsCut = codes "snapshot is cut"
rule_text rule.OtherImageHeader = codes "other image header"
rule_text rule.BadSnapshotField = codes "bad snapshot field"
rule_text rule.SnapshotTooLong = codes "snapshot too long"
rule_text rule.BytesAfterSnapshot = codes "bytes after snapshot"
rule_text rule.NotASnapshot = codes "not a snapshot"
rule_text rule.UnknownLine = codes "unknown line"
rule_text rule.RepeatedBlock = codes "repeated block"
rule_text rule.ScriptTooLong = codes "script too long"
rule_text rule.NotAnElfFile = codes "not an elf file"
rule_text rule.ElfFileIsCut = codes "elf file is cut"
rule_text rule.BadElfField = codes "bad elf field"
rule_text rule.BytesOutsideSegments = codes "bytes outside segments"
rule_text rule.ElfFileTooLong = codes "elf file too long"

-- when a rule is tested
abbrev pub phase_of : Rule → Phase
phase_of rule.BadByte = phase.Lexical
phase_of rule.OpenComment = phase.Lexical
phase_of rule.OpenText = phase.Lexical
phase_of rule.BadNumber = phase.Lexical
phase_of rule.UnitTooLong = phase.Lexical
phase_of rule.Syntax = phase.Syntax
phase_of rule.TooDeep = phase.Syntax
phase_of rule.DeclaredTwice = phase.Static
phase_of rule.Undeclared = phase.Static
phase_of rule.NotAVariable = phase.Static
phase_of rule.WidthsDiffer = phase.Static
phase_of rule.ConditionOrBitsWanted = phase.Static
phase_of rule.LiteralDoesNotFit = phase.Static
phase_of rule.UnknownOperator = phase.Static
phase_of rule.NotAConstant = phase.Static
phase_of rule.CountsDiffer = phase.Static
phase_of rule.NoSuchLabel = phase.Static
phase_of rule.NotALocalVariable = phase.Static
phase_of rule.ArmsOverlap = phase.Static
phase_of rule.BadReturnIndex = phase.Static
phase_of rule.TooManyValues = phase.Static
phase_of rule.NotExported = phase.Static
phase_of rule.ExportedTwice = phase.Static
phase_of rule.NoMain = phase.Static
phase_of rule.OtherTarget = phase.Static
phase_of rule.BadHostCall = phase.Static
phase_of rule.Cycle = phase.Static
phase_of rule.Limit = phase.Static
phase_of rule.NotAnImage = phase.Image
phase_of rule.OtherImageVersion = phase.Image
phase_of rule.ImageIsCut = phase.Image
phase_of rule.BadImageField = phase.Image
phase_of rule.ImageOutOfRange = phase.Image
phase_of rule.BytesAfterImage = phase.Image
phase_of rule.ImageTooLong = phase.Image
phase_of rule.TwoPlaces = phase.Image
phase_of rule.NoActivation = phase.Client
phase_of rule.NoVariable = phase.Client
phase_of rule.DeadVariable = phase.Client
phase_of rule.DoesNotFit = phase.Client
phase_of rule.NoExit = phase.Client
phase_of rule.OtherCount = phase.Client
phase_of rule.InvariantVariable = phase.Client
phase_of rule.NoCut = phase.Client
phase_of rule.NoPlace = phase.Client
phase_of rule.NoYieldedValue = phase.Client
phase_of rule.SnapshotIsCut = phase.Snapshot
phase_of rule.OtherImageHeader = phase.Snapshot
phase_of rule.BadSnapshotField = phase.Snapshot
phase_of rule.SnapshotTooLong = phase.Snapshot
phase_of rule.BytesAfterSnapshot = phase.Snapshot
phase_of rule.NotASnapshot = phase.Snapshot
phase_of rule.UnknownLine = phase.Script
phase_of rule.RepeatedBlock = phase.Script
phase_of rule.ScriptTooLong = phase.Script
phase_of rule.NotAnElfFile = phase.Elf
phase_of rule.ElfFileIsCut = phase.Elf
phase_of rule.BadElfField = phase.Elf
phase_of rule.BytesOutsideSegments = phase.Elf
phase_of rule.ElfFileTooLong = phase.Elf

-- every rule
unfoldable pub rules : List Rule
rules =
    rule.BadByte ∷ rule.OpenComment ∷ rule.OpenText ∷ rule.BadNumber ∷ rule.UnitTooLong ∷ rule.Syntax ∷ rule.TooDeep
    ∷ rule.DeclaredTwice ∷ rule.Undeclared ∷ rule.NotAVariable ∷ rule.WidthsDiffer ∷ rule.ConditionOrBitsWanted
    ∷ rule.LiteralDoesNotFit ∷ rule.UnknownOperator ∷ rule.NotAConstant ∷ rule.CountsDiffer ∷ rule.NoSuchLabel
    ∷ rule.NotALocalVariable ∷ rule.ArmsOverlap ∷ rule.BadReturnIndex ∷ rule.TooManyValues ∷ rule.NotExported
    ∷ rule.ExportedTwice ∷ rule.NoMain ∷ rule.OtherTarget ∷ rule.BadHostCall ∷ rule.Cycle ∷ rule.Limit ∷ rule.NotAnImage
    ∷ rule.OtherImageVersion ∷ rule.ImageIsCut ∷ rule.BadImageField ∷ rule.ImageOutOfRange ∷ rule.BytesAfterImage
    ∷ rule.ImageTooLong ∷ rule.TwoPlaces ∷ rule.NoActivation ∷ rule.NoVariable ∷ rule.DeadVariable ∷ rule.DoesNotFit ∷ rule.NoExit ∷ rule.OtherCount ∷ rule.InvariantVariable
    ∷ rule.NoCut ∷ rule.NoPlace ∷ rule.NoYieldedValue ∷ rule.SnapshotIsCut ∷ rule.OtherImageHeader ∷ rule.BadSnapshotField
    ∷ rule.SnapshotTooLong ∷ rule.BytesAfterSnapshot ∷ rule.NotASnapshot ∷ rule.UnknownLine ∷ rule.RepeatedBlock ∷ rule.ScriptTooLong
    ∷ rule.NotAnElfFile ∷ rule.ElfFileIsCut ∷ rule.BadElfField ∷ rule.BytesOutsideSegments ∷ rule.ElfFileTooLong ∷ []

-- the rule of a number
abbrev pub rule_of : ℕ → Option Rule
rule_of number = find (λ r. rule_number r == number) rules

-- a rule as a message names it
abbrev pub shown : Rule → List ℕ
shown r = decimal (rule_number r) ++ codes " " ++ rule_text r
