-- What `walk` writes of the snapshot of a run is the walk of where the run was stopped.
use Rattle.std.proofs.Common.{◌≡◌, ◌⊎◌, ℕ, List, ◌++◌, Option, Some, None, map, codes, inl, inr, refl, ap, sym, ◌∙◌, subst}
use Rattle.rv_table.specs.Machine as rv
use Rattle.rv_table.specs.Machine.{region_base}
use Rattle.rv_memory.specs.Regions as regions
use Rattle.rv_memory.specs.States.{state_of}
use Rattle.cmm_abi.specs.Regions.{Region}
use Rattle.cmm_outside.specs.Output.{Appends, AppendsFront}
use Rattle.cmm_script.specs.Walk.{Activation, activation_texts, line, walk_text}
use Rattle.cmm_program.specs.Asking.{Break}
use Rattle.cmm_image.specs.declared.parts.ImageParts.{ImageParts}
use Rattle.cmm_image.specs.Laws.{ImagesAreOne}
use Rattle.cmm_image_machine.specs.Frames.{Element}
use Rattle.cmm_image_machine.specs.Machine.{region_of, launch_of}
use Rattle.cmm_image_machine.specs.Walks.{chain_walk, element_shown}
use Rattle.cmm_snapshot.specs.Laws.{SnapshotsAreOne, SnapshotsKeepStates}
use Rattle.cmm_snapshot.specs.SnapshotFormat.{taken_of}
use Rattle.cmm_snapshot.specs.Snapshots.{SpellsSnapshot}
use Rattle.cmm_walk.specs.Texts.{end_text}
use Rattle.cmm_work.specs.Walking.{FailsToWalk, IsTorn, IsWhole, Stopped, chain_in}
use Rattle.cmm_work.specs.Work.{Work}
use Rattle.cmm_top_laws.specs.Laws.{SavedRunsWalkSo, SnapshotsWalkSo}
use Rattle.cmm_top_laws.specs.Walked.{WalksSo}

-- a chain with a walk does not break, and its text is that of the walk
text_of : (s : rv.State) (as_ : List Element) (broken : Option Break) (walk : List Activation) →
    elim broken [ None ↦ Some (map (element_shown s) as_) | Some b ↦ None ] ≡ Some walk →
    (broken ≡ None) × (activation_texts 0 (map (element_shown s) as_) ++ end_text broken ≡ walk_text walk)
text_of s as_ None walk is =
    let same : map (element_shown s) as_ ≡ walk = cc is in (refl, ap (λ (shown : List Activation). activation_texts 0 shown ++ line (codes "end")) same)
text_of s as_ (Some b) walk is = absurd (cc is)

-- what a stopped program with this walk has written
written_so : (p : Stopped) (walk : List Activation) (w : Work) → chain_walk p.image (regions.region_of p.memory) (state_of p.regs p.memory) ≡ Some walk →
    IsWhole p w ⊎ (IsTorn p w ⊎ FailsToWalk p w) → WalksSo walk w
written_so p walk w walks (inl whole) =
    let text = text_of (state_of p.regs p.memory) (chain_in p).activations (chain_in p).broken walk walks in
    inl record {
      output = subst (λ (bytes : List ℕ). Appends w.before.streams.output w.after.streams.output bytes) text.1 whole.output;
      faults = whole.faults;
      ends = whole.ends;
    }
written_so p walk w walks (inr (inl torn)) =
    let text = text_of (state_of p.regs p.memory) (chain_in p).activations (chain_in p).broken walk walks in
    let broken = sym text.0 ∙ torn.broken in absurd (cc broken)
written_so p walk w walks (inr (inr fails)) =
    let text = text_of (state_of p.regs p.memory) (chain_in p).activations (chain_in p).broken walk walks in
    inr record {
      output = subst (λ (bytes : List ℕ). AppendsFront w.before.streams.output w.after.streams.output bytes) text.1 fails.output;
      faults = fails.faults;
      ends = fails.ends;
    }

pub snapshots_walk_so : SnapshotsAreOne → SnapshotsKeepStates → SnapshotsWalkSo
snapshots_walk_so one keep image script stack stood bytes walk saved walks name snapshot w walked same_image same_bytes =
    let p = walked.program in
    let spelled : SpellsSnapshot image bytes (taken_of p.regs p.memory) =
    subst (λ (i : ImageParts). SpellsSnapshot i bytes (taken_of p.regs p.memory)) same_image
    (subst (λ (bs : List ℕ). SpellsSnapshot p.image bs (taken_of p.regs p.memory)) same_bytes walked.stopped.2) in
    let kept = keep p.regs saved.regs p.memory saved.memory (one image bytes (taken_of p.regs p.memory) (taken_of saved.regs saved.memory) spelled saved.spelled) in
    let state : state_of p.regs p.memory ≡ stood = kept.0 ∙ saved.state in
    let region : regions.region_of p.memory ≡ region_of (launch_of image script stack) =
    kept.1 ∙ ap (λ (size : ℕ). let r : Region = record { address = region_base; stack_size = size } in r) saved.stack_is in
    let same : chain_walk p.image (regions.region_of p.memory) (state_of p.regs p.memory) ≡ chain_walk image (region_of (launch_of image script stack)) stood =
    ap (λ (i : ImageParts). chain_walk i (regions.region_of p.memory) (state_of p.regs p.memory)) same_image
    ∙ (ap (λ (r : Region). chain_walk image r (state_of p.regs p.memory)) region ∙ ap (λ (s : rv.State). chain_walk image (region_of (launch_of image script stack)) s) state) in
    written_so p walk w (same ∙ walks) walked.walked

pub saved_runs_walk_so : ImagesAreOne → SnapshotsWalkSo → SavedRunsWalkSo
saved_runs_walk_so one walk_so contents names client limits saved ran so stopped has name w walked spelled same there =
    let image : walked.program.image ≡ so.image = one walked.spelled.0 walked.program.image so.image walked.spelled.2 spelled in
    walk_so so.image so.script limits.stack so.stood has.bytes _ has.snapshot (there.leaves stopped) name saved w walked image same
