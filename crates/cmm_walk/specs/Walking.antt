-- What a step of a walk answers: what stands at a point of the chain.
use Rattle.std.specs.Prelude.{Result, Ok, Err, Option, Some, None}
use Rattle.cmm_image.specs.declared.parts.ImageParts.{ImageParts}
use Rattle.cmm_program.specs.Asking.{Break}
use Rattle.cmm_image_machine.specs.Frames as frames
use Rattle.cmm_image_machine.specs.Frames.{Found, Nothing, Broken}
use Rattle.cmm_walk.specs.declared.activation.Activation.{Activation}
use Rattle.cmm_walk.specs.declared.chain.Torn.{Torn}
use Rattle.cmm_walk.specs.Activations.{element_of}

abbrev pub break_of : Torn → Break
break_of t = record { frame = t.frame; address = t.address }

-- an activation, the end, or a break
abbrev pub found_by : ImageParts → Result (Option Activation) Torn → Found
found_by i (Ok (Some a)) = frames.Activation (element_of i a)
found_by i (Ok None) = Nothing
found_by i (Err t) = Broken (break_of t)
