-- What stands outside of a run.
use Rattle.std.specs.Prelude.{◌≡◌, ◌⊎◌, ℕ, List, Option}
use Rattle.cmm_outside.specs.Faults.{Rose}

-- the bytes that the input has left and those that output and log have taken, where they tell them, and how many calls on each failed so far
pub record Outside : Type 0 where
  pub input : Option (List ℕ)
  pub input_faults : ℕ
  pub output : Option (List ℕ)
  pub output_faults : ℕ
  pub log : Option (List ℕ)
  pub log_faults : ℕ

-- what input, output and log tell, and their counts
abbrev pub outside_of : {I O E : Type 0} → (I → Option (List ℕ)) → (I → ℕ) → (O → Option (List ℕ)) → (O → ℕ) →
    (E → Option (List ℕ)) → (E → ℕ) → I → O → E → Outside
outside_of left input_faults taken output_faults logged log_faults input out log = record {
  input = left input;
  input_faults = input_faults input;
  output = taken out;
  output_faults = output_faults out;
  log = logged log;
  log_faults = log_faults log;
}

-- no call failed
pub record NoneFailed (before after : Outside) : Type 0 where
  pub input : after.input_faults ≡ before.input_faults
  pub output : after.output_faults ≡ before.output_faults
  pub log : after.log_faults ≡ before.log_faults

-- a call on the input failed, and no other
pub record InputFailed (before after : Outside) : Type 0 where
  pub input : Rose before.input_faults after.input_faults
  pub output : after.output_faults ≡ before.output_faults
  pub log : after.log_faults ≡ before.log_faults

-- a call on the output failed, or one on the log, and no other
pub record OutputFailed (before after : Outside) : Type 0 where
  pub input : after.input_faults ≡ before.input_faults
  pub output : (Rose before.output_faults after.output_faults × (after.log_faults ≡ before.log_faults))
      ⊎ ((after.output_faults ≡ before.output_faults) × Rose before.log_faults after.log_faults)
