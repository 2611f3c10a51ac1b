-- What proofs of other crates may cite: the laws of runs and chains, and an image with its runs from which worked rows begin.
pub use Rattle.cmm_image_machine.proofs.Growing.{over_stays, step_grows, run_grows, input_kept, images_last, runs_are_the_machine, ends_once}
pub use Rattle.cmm_image_machine.proofs.Finding.{sites_are_found}
pub use Rattle.cmm_image_machine.proofs.Chaining.{chain_goes_on}
pub use Rattle.cmm_image_machine.proofs.StackRead.{images_keep_frames, elements_fit, walk_reads_the_stack}
pub use Rattle.cmm_image_machine.proofs.Samples.{yielding, spoiling, bare, image_of, launch, Seen, seen}
