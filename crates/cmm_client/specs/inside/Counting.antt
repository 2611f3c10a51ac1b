-- How many values are yielded, and the block that answers.
use Rattle.std.specs.Prelude.{ℕ, nat_eq, List, [], ◌∷◌, find, Option, Some, None}
use Rattle.std.specs.Option.{option_eq}
use Rattle.cmm_script.specs.declared.script.Block.{Block}
use Rattle.cmm_script.specs.declared.script.Command.{Command}
use Rattle.cmm_image.specs.declared.parts.ImageParts.{ImageParts}
use Rattle.cmm_walk.specs.declared.activation.Activation.{Activation}
use Rattle.cmm_walk.specs.Activations.{element_of}

-- how many values a site yields; none if it does not yield
abbrev pub count_of : Option ℕ → ℕ
count_of (Some count) = count
count_of None = 0

-- how many the activation yields that is the youngest, if there is one
abbrev pub count_at : ImageParts → Option Activation → ℕ
count_at i (Some a) = count_of (element_of i a).site.yield_values
count_at i None = 0

-- the block with a code
abbrev pub block_of : Option ℕ → List Block → Option Block
block_of code blocks = find (λ b. option_eq nat_eq b.code code) blocks

-- that of the first value, if there is one
abbrev pub own_block : List ℕ → List Block → Option Block
own_block [] blocks = None
own_block (value ∷ values) blocks = block_of (Some value) blocks

-- the commands of the first block, or else of the other, or none
abbrev pub or_other : Option Block → Option Block → List Command
or_other (Some b) other = b.commands
or_other None (Some b) = b.commands
or_other None None = []
