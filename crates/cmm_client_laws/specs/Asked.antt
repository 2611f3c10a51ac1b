-- Which states of an image are asked alike as a stopped located program, and how both go on.
use Rattle.std.specs.Prelude.{◌≡◌, ◌⊎◌, ◌+◌, ◌*◌, ℕ, List, [], ◌∷◌, length, slice_get, Some}
use Rattle.rv_table.specs.Bounds.{IsSound}
use Rattle.rv_table.specs.Machine.{State}
use Rattle.cmm_program.specs.declared.procedure.Proc.{Proc}
use Rattle.cmm_program.specs.declared.procedure.Site.{Site}
use Rattle.cmm_program.specs.Errors.{UncheckedError}
use Rattle.cmm_program.specs.Frames.{procedure_at}
use Rattle.cmm_program.specs.State as program
use Rattle.cmm_program.specs.State.{Setting}
use Rattle.cmm_graph.specs.declared.node.Exits.{Exits}
use Rattle.cmm_chain.specs.Chain.{Suspension}
use Rattle.cmm_chain.specs.Walks as chain
use Rattle.cmm_image.specs.declared.parts.ImageParts.{ImageParts}
use Rattle.cmm_program.specs.Client as client
use Rattle.cmm_image_machine.specs.Frames.{Element}
use Rattle.cmm_emit_laws.specs.Words.{Symbols}
use Rattle.cmm_emit_laws.specs.Represented.{IsRepresented}
use Rattle.cmm_located.specs.Answering.{listed}
use Rattle.cmm_located.specs.Compiled.{Compiled, Located, landing_in, site_exits}
use Rattle.cmm_client_laws.specs.Walked.{IsFoundAs, IsWalked}

module _ (s : Setting) (c : Compiled) (y : Symbols) (i : ImageParts) where
  -- a located activation, and one that the tables find
  pub record IsActivationAs (at : Located) (a : client.Located) (x : Element) : Type 0 where
    pub element : chain.Element
    pub is_listed : slice_get (listed s c at) a.younger ≡ Some element
    pub found : IsFoundAs i y element x
    pub procedure : procedure_at s element.procedure ≡ Some a.procedure
    pub number : a.number ≡ element.site
    pub site : slice_get a.procedure.sites element.site ≡ Some a.site

  -- whatever the state of the image
  abbrev pub AreAs : Located → State → client.Located → Element → Type 0
  AreAs at t a x = IsActivationAs at a x

  -- where control is once a client has resumed the program: behind the return address of a site, or at a landing
  pub data IsAtExit (at : Located) (t : State) : Type 0 where
    Alternate : (p : Proc) (site : Site) (number n k : ℕ) → procedure_at s at.procedure ≡ Some p → slice_get p.sites number ≡ Some site →
        slice_get site.returns n ≡ Some k → landing_in c.graphs at.procedure k ≡ Some at.node → t.pc ≡ y.return_to at.procedure number + 4 * n → IsAtExit at t
    Normal : (p : Proc) (site : Site) (number : ℕ) (out : Exits) → procedure_at s at.procedure ≡ Some p → slice_get p.sites number ≡ Some site →
        site_exits c.graphs at.procedure number ≡ Some out → out.normal ≡ Some at.node → t.pc ≡ y.return_to at.procedure number + 4 * length site.returns →
        IsAtExit at t
    Landing : (k : ℕ) → landing_in c.graphs at.procedure k ≡ Some at.node → t.pc ≡ y.landing_of at.procedure k → IsAtExit at t

-- elsewhere, memory is the rest
module _ (s : Setting) (c : Compiled) (y : Symbols) (rest : ℕ → ℕ) (i : ImageParts) where
  -- a stopped program is represented, and its activations are found along the stack
  pub record IsStoppedAs (at : Located) (t : State) : Type 0 where
    pub suspended : List Suspension
    pub walked : IsWalked s c at.holdings at.store.activations suspended
    pub shown : IsRepresented y rest s at.holdings at.store [] t
    pub sound : IsSound t

  -- the program goes on alike
  pub record IsResumedAs (at : Located) (t : State) : Type 0 where
    pub activation : program.Activation
    pub older : List program.Activation
    pub youngest : at.store.activations ≡ activation ∷ older
    pub same : activation.procedure ≡ at.procedure
    pub sound : IsSound t
    pub shown : IsRepresented y rest s at.holdings at.store at.carried t
    pub control : IsAtExit s c y i at t

  -- or it is wrong to go on
  abbrev pub GoesOnAs : Located → State → Type 0
  GoesOnAs at t = ((error : UncheckedError) × (at.store.status ≡ program.Wrong error)) ⊎ ((at.store.status ≡ program.Running) × IsResumedAs at t)
