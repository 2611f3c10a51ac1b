-- The code of a node within n instructions is its code within more.
use Rattle.std.proofs.Common.{◌≡◌, ℕ, ◌≤◌, true, arith}
use Rattle.cmm_program.specs.State.{Setting}
use Rattle.cmm_graph.specs.declared.node.HostCall.TheVariants as host
use Rattle.cmm_graph.specs.declared.node.NodeKind.{NodeKind}
use Rattle.cmm_graph.specs.declared.node.NodeKind.TheVariants.{Entry, CopyIn, Assign, Store, Branch, Switch, Call, Yield, Jump, Cut, Return, Host, Goto, Stop}
use Rattle.cmm_graph.specs.declared.number.NodeId.{NodeId}
use Rattle.cmm_image_machine.specs.Machine.{Launch}
use Rattle.cmm_effects.proofs.Shared.{turns_weaker}
use Rattle.cmm_located.specs.Compiled.{Compiled}
use Rattle.cmm_emit_laws.specs.Finished.{Finished}
use Rattle.cmm_emit_laws.specs.NodeCode.{IsCodeOf}
use Rattle.cmm_emit_laws.specs.ProgramCode.{is_coded}
use Rattle.cmm_emit.specs.Standing.{IsNodeCode}

module _ (s : Setting) (c : Compiled) (l : Launch) (f : Finished) (q : ℕ) (n : NodeId) (a b : ℕ) (less : a ≤ b) where
  pub code_within : (kind : NodeKind) → IsNodeCode s c l f q n kind a → IsNodeCode s c l f q n kind b
  code_within (Entry formals next) code = record { landings = code.landings; limit = code.limit; on = code.on; ends = code.ends; begins = code.begins; few_formals = code.few_formals; pairs = code.pairs; addresses = code.addresses; limits = code.limits; goes_on = code.goes_on; few = omega (arith, less, code.few); few_at_limit = omega (arith, less, code.few_at_limit) }
  code_within (CopyIn to next) code = record { destinations = code.destinations; are = code.are; turns = λ r. turns_weaker (code.turns r) less (λ u sound has. has) (λ u w is there. there); few_values = code.few_values }
  code_within (Assign to value next) code = record { into = code.into; is_into = code.is_into; on = code.on; count = code.count; quiet = code.quiet; puts = code.puts; goes_on = code.goes_on; few = omega (arith, less, code.few) }
  code_within (Store width aligned address value next) code = record { to = code.to; stored = code.stored; on = code.on; count = code.count; is_address = code.is_address; is_value = code.is_value; stores = code.stores; goes_on = code.goes_on; few = omega (arith, less, code.few) }
  code_within (Branch test then_ otherwise) code = record { left = code.left; right = code.right; label = code.label; on = code.on; count = code.count; is_left = code.is_left; is_right = code.is_right; there = code.there; decides = code.decides; goes_on = code.goes_on; few = omega (arith, less, code.few) }
  code_within (Switch value arms otherwise) code = record { operand = code.operand; labels = code.labels; on = code.on; count = code.count; is_value = code.is_value; there = code.there; switches = code.switches; goes_on = code.goes_on; few = omega (arith, less, code.few) }
  code_within (Call site callee arguments exits) code = record { operands = code.operands; are = code.are; few_values = code.few_values; quiet = code.quiet; back = code.back; is_back = code.is_back; fits = code.fits; calls = code.calls; few = omega (arith, less, code.few) }
  code_within (Yield site values exits) code = record { operands = code.operands; are = code.are; few_values = code.few_values; quiet = code.quiet; back = code.back; is_back = code.is_back; stub = code.stub; on = code.on; calls = code.calls; client = code.client; few = omega (arith, less, code.few) }
  code_within (Jump callee arguments) code = record { operands = code.operands; are = code.are; few_values = code.few_values; quiet = code.quiet; jumps = code.jumps; few = omega (arith, less, code.few) }
  code_within (Cut to arguments own) code = record { pair = code.pair; is_pair = code.is_pair; operands = code.operands; are = code.are; few_values = code.few_values; cuts = code.cuts; few = omega (arith, less, code.few) }
  code_within (Return exit alternates results) code = record { operands = code.operands; ends = code.ends; are = code.are; few_results = code.few_results; returns = code.returns; end_asked = code.end_asked; few = omega (arith, less, code.few); few_behind = omega (arith, less, code.few_behind) }
  code_within (Host (host.PutByte value) next) code = record { operand = code.operand; on = code.on; count = code.count; is_value = code.is_value; requests = code.requests; goes_on = code.goes_on; few = omega (arith, less, code.few) }
  code_within (Host (host.GetByte to) next) code = record { into = code.into; is_into = code.is_into; on = code.on; count = code.count; later = code.later; requests = code.requests; goes_on = code.goes_on; few = omega (arith, less, code.few) }
  code_within (Goto next) code = record { goes = turns_weaker code.goes less (λ u sound has. has) (λ u w is there. there) }
  code_within Stop code = code

-- that of a node that does not yield
module _ (s : Setting) (c : Compiled) (l : Launch) (f : Finished) (q : ℕ) (n : NodeId) (most : ℕ) where
  pub code_alone : (kind : NodeKind) → is_coded kind ≡ true → IsNodeCode s c l f q n kind most → IsCodeOf s c l f q n kind most
  code_alone (Yield site values exits) coded code = absurd (cc (coded))
  code_alone (Entry formals next) coded code = code
  code_alone (CopyIn to next) coded code = code
  code_alone (Assign to value next) coded code = code
  code_alone (Store width aligned address value next) coded code = code
  code_alone (Branch test then_ otherwise) coded code = code
  code_alone (Switch value arms otherwise) coded code = code
  code_alone (Call site callee arguments exits) coded code = code
  code_alone (Jump callee arguments) coded code = code
  code_alone (Cut to arguments own) coded code = code
  code_alone (Return exit alternates results) coded code = code
  code_alone (Host call next) coded code = code
  code_alone (Goto next) coded code = code
  code_alone Stop coded code = code
