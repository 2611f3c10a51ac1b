mod RuleTexts
mod NameRuleRows
mod ExpressionRuleRows
mod StatementRuleRows
mod LimitRuleRows
mod Texts
mod StatementRows
mod UnitRows
pub mod Flat
pub mod Ranges
pub mod Counting
pub mod Everywhere
pub mod SiteNumbers
pub mod Nothing
pub mod Naming
pub mod MarkNumbers
pub mod Judged
pub mod Widths
pub mod Scoping
pub mod Knowing
pub mod Entries
pub mod Cycles
pub mod Declaring
pub mod Registers
pub mod UnitNames
pub mod Keeping
pub mod Wide
pub mod SiteParts
pub mod Sums
pub mod ProgramLimits
pub mod Leading
pub mod Aligning
pub mod Rooms
pub mod Short
pub mod Starting
pub mod Labels
pub mod RegisterNames
pub mod UnitOrder
pub mod DataSize
pub mod Mentioned
pub mod Whole
pub mod Settled
pub mod WholeUnits
pub mod Datums
mod LawRows
pub mod Values
pub mod Assigning
pub mod Checking
pub mod Forms
pub mod Switching
pub mod Derived
pub mod AllForms
pub mod Steady
pub mod SteadyUnits
mod Nesting
mod FewSpans
pub mod Exporting
pub mod Weighing
pub mod BodyTokens
pub mod Spent
pub mod SpentForms
pub mod SpentStatements
pub mod SpentNames
pub mod TakenParts
pub mod SpentBodies
pub mod SpentHeadings
pub mod SpentProcedures
pub mod Together
pub mod OfBytes
pub mod Shared
