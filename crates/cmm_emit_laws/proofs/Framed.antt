-- The youngest activation has its frame.
use Rattle.std.proofs.Common.{◌≡◌, ℕ, ◌+◌, ◌%◌, ◌≤◌, sym, ◌∙◌, ap, arith, List, [], ◌∷◌}
use Rattle.rv_table.specs.Machine.{State}
use Rattle.cmm_chain.specs.Running.{Holdings}
use Rattle.cmm_program.specs.Frames.{frame_address, frame_size, place_row}
use Rattle.cmm_program.specs.State.{Activation, Setting, Store, stack_top}
use Rattle.cmm_machine_laws.proofs.Shared.{frames_adjoin, frames_aligned}
use Rattle.cmm_machine_laws.specs.Stacks.{stack_of}
use Rattle.cmm_calls.specs.Frames.{HasFrame}
use Rattle.cmm_image_machine.specs.Machine.{Launch, map_of}
use Rattle.cmm_emit_laws.specs.Represented.{IsFor, IsRepresented, stack_region}
use Rattle.cmm_located.specs.Compiled.{Compiled, Located}
use Rattle.cmm_emit_laws.specs.Finished.{Finished}
use Rattle.cmm_emit_laws.specs.ProgramCode.{IsLaidFor}
use Rattle.cmm_emit_laws.specs.Standing.{IsInBody, Stands}
use Rattle.cmm_emit_laws.proofs.Regions.{bottom_is, top_is}

-- a frame of the youngest activation lies in the stack
pub has_frame : (f : Finished) (rest : ℕ → ℕ) (s : Setting) (l : Launch) → IsFor s (map_of l) → (h : Holdings) (store : Store) (carried : List ℕ) (a : Activation) (older : List Activation) (t : State)
    (size : ℕ) → store.activations ≡ a ∷ older → IsRepresented f.symbols rest s h store carried t → frame_address s (a ∷ older) + size ≡ frame_address s older →
    HasFrame (stack_region s) size (map_of l) t
has_frame f rest s l is_for h store carried a older t size youngest shown next =
    let aligned = frames_aligned.of_stack s (stack_of store) shown.stack is_for.set in
    let here : h.point.at ≡ frame_address s (a ∷ older) = shown.at ∙ ap (frame_address s) youngest in
    let high : frame_address s older ≤ stack_top s = omega arith in
    record {
      lies = is_for.lies;
      aligned = ap (λ (n : ℕ). n % 16) (shown.holdings.frame ∙ shown.at) ∙ aligned.0;
      low = omega (arith, aligned.1, shown.holdings.frame, shown.at, bottom_is s (map_of l) is_for);
      high = omega (arith, shown.holdings.frame, here, next, high, top_is s (map_of l) is_for);
    }

pub size_of : (s : Setting) (c : Compiled) (q : ℕ) (a : Activation) → IsLaidFor s c q → a.procedure ≡ q → (c.plan.frame q).size ≡ frame_size s a
size_of s c q a laid same = laid.size ∙ sym (ap (λ (p : ℕ). (place_row s p).frame) same)

pub framed_here : (s : Setting) (c : Compiled) (l : Launch) (f : Finished) (rest : ℕ → ℕ) → IsFor s (map_of l) → (q : ℕ) (h : Holdings) (store : Store) (carried : List ℕ) (a : Activation) (older : List Activation)
    (t : State) → IsLaidFor s c q → store.activations ≡ a ∷ older → a.procedure ≡ q → IsRepresented f.symbols rest s h store carried t → HasFrame (stack_region s) (c.plan.frame q).size (map_of l) t
framed_here s c l f rest is_for q h store carried a older t laid youngest same shown =
    let next = frames_adjoin.of_stack s (stack_of store) shown.stack a older youngest in
    has_frame f rest s l is_for h store carried a older t (c.plan.frame q).size youngest shown (omega (arith, next, size_of s c q a laid same))

-- while control is inside of a body
pub framed_inside : (s : Setting) (c : Compiled) (l : Launch) (f : Finished) (rest : ℕ → ℕ) → IsFor s (map_of l) → (at : Located) (t : State) → Stands s c l f rest at t → IsInBody at → IsLaidFor s c at.procedure →
    HasFrame (stack_region s) (c.plan.frame at.procedure).size (map_of l) t
framed_inside s c l f rest is_for at t stands body laid =
    framed_here s c l f rest is_for at.procedure at.holdings at.store at.carried body.activation body.older t laid body.youngest body.same stands.shown
