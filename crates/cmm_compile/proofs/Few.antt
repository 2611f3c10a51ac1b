-- The graphs of procedures in range have few locals, and rows of sites have room for their spans.
use Rattle.std.proofs.Common.{◌<◌, ◌≤◌, ◌^◌, List, length, [], ◌∷◌, arith}
use Rattle.std.specs.List.{All, AllZip}
use Rattle.std.proofs.lemmas.List.Elements.{All-cons, All-head, All-nil, All-tail, All-weaker}
use Rattle.cmm_program.specs.InRange.{IsProcInRange}
use Rattle.cmm_program.specs.declared.procedure.Proc.{Proc}
use Rattle.cmm_program.specs.declared.procedure.Site.{Site}
use Rattle.cmm_program.specs.declared.program.Program.{Program}
use Rattle.cmm_graph.specs.declared.graph.Graph.{Graph}
use Rattle.cmm_flow.specs.Flow.{IsBounded}
use Rattle.cmm_hoisted.specs.Flow.{IsHoistedFlow}
use Rattle.cmm_hoisted.specs.Laws.{HoistedFlowsAreBounded}
use Rattle.cmm_live.specs.Locals.{local_count}
use Rattle.cmm_link.specs.Linked.{HaveFewSpans}

abbrev HasFewLocals : Graph → Type 0
HasFewLocals g = local_count g < 2 ^ 32

pub few_locals : HoistedFlowsAreBounded → (p : Program) (procs : List Proc) (graphs : List Graph) → All (IsProcInRange p) procs → AllZip IsHoistedFlow procs graphs →
    All (λ g. local_count g < 2 ^ 32) graphs
few_locals bounded p [] [] range flows = All-nil HasFewLocals
few_locals bounded p [] (g ∷ graphs) range flows = absurd flows
few_locals bounded p (q ∷ procs) [] range flows = absurd flows
few_locals bounded p (q ∷ procs) (g ∷ graphs) range flows =
    let own = All-head (IsProcInRange p) q procs range in
    let tokens = own.frames.tokens in
    let most : IsBounded q g = bounded p q g own flows.0 in
    let here : local_count g < 2 ^ 32 = omega (arith, tokens, most) in
    All-cons HasFewLocals g graphs here (few_locals bounded p procs graphs (All-tail (IsProcInRange p) q procs range) flows.1)

abbrev AreFew : Site → Type 0
AreFew site = length site.spans ≤ 200

abbrev HaveRoom : Site → Type 0
HaveRoom site = length site.spans < 2 ^ 16

pub few_spans : (procs : List Proc) → All (λ q. All (λ site. length site.spans ≤ 200) q.sites) procs → HaveFewSpans procs
few_spans procs few =
    All-weaker (λ (q : Proc). All AreFew q.sites) (λ q. All HaveRoom q.sites)
    (λ q sites. All-weaker AreFew HaveRoom (λ site most. omega (arith, most)) q.sites sites) procs few
