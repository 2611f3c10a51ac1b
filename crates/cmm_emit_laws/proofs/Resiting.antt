-- An activation comes to wait at a site, or waits no more: nothing that is shown changes.
use Rattle.std.proofs.Common.{◌≡◌, ℕ, refl, ◌∙◌, sym, List, [], ◌∷◌, Option}
use Rattle.cmm_chain.specs.Running.{Holdings}
use Rattle.cmm_program.specs.Frames.{frame_address, sum_of_sizes, with_site}
use Rattle.cmm_program.specs.State.{Activation, Setting, Status, Store}
use Rattle.cmm_machine_laws.specs.Stacks.{stackdata_of}
use Rattle.rv_table.specs.Machine.{State}
use Rattle.cmm_emit_laws.specs.Words.{Symbols}
use Rattle.cmm_emit_laws.specs.Represented.{IsRepresented}

sizes_same : (s : Setting) (site : Option ℕ) (activations : List Activation) → sum_of_sizes s (with_site site activations) ≡ sum_of_sizes s activations
sizes_same s site [] = refl
sizes_same s site (a ∷ older) = refl

address_same : (s : Setting) (site : Option ℕ) (activations : List Activation) → frame_address s (with_site site activations) ≡ frame_address s activations
address_same s site [] = refl
address_same s site (a ∷ older) = refl

stackdata_same : (s : Setting) (site : Option ℕ) (activations : List Activation) → stackdata_of s (with_site site activations) ≡ stackdata_of s activations
stackdata_same s site [] = refl
stackdata_same s site (a ∷ older) = refl

pub resited_shows : (y : Symbols) (rest : ℕ → ℕ) (s : Setting) (h : Holdings) (store : Store) (carried : List ℕ) (t : State) (site : Option ℕ) (status : Status) →
    IsRepresented y rest s h store carried t → IsRepresented y rest s h (record store { activations = with_site site store.activations; status = status }) carried t
resited_shows y rest s h store carried t site status shows = record {
  holdings = shows.holdings;
  words = shows.words;
  cells = shows.cells;
  registers = shows.registers;
  elsewhere = shows.elsewhere;
  values = shows.values;
  stack = record {
    fits = rw (sizes_same s site store.activations) shows.stack.fits;
    rooms = shows.stack.rooms ∙ sym (stackdata_same s site store.activations);
    data_room = shows.stack.data_room;
  };
  at = shows.at ∙ sym (address_same s site store.activations);
}

-- what is outside of memory and registers may change as well
pub outside_shows : (y : Symbols) (rest : ℕ → ℕ) (s : Setting) (h : Holdings) (store : Store) (carried : List ℕ) (t : State) (input taken output log : List ℕ) (status : Status) →
    IsRepresented y rest s h store carried t → IsRepresented y rest s h (record store { input = input; taken = taken; output = output; log = log; status = status }) carried t
outside_shows y rest s h store carried t input taken output log status shows = record {
  holdings = shows.holdings;
  words = shows.words;
  cells = shows.cells;
  registers = shows.registers;
  elsewhere = shows.elsewhere;
  values = shows.values;
  stack = shows.stack;
  at = shows.at;
}
