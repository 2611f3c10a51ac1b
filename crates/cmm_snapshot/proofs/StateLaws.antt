-- A snapshot keeps the state of a machine.
use Rattle.std.proofs.Common.{◌≡◌, ℕ, zero, suc, List, [], ◌∷◌, drop, slice_index, refl, ap, sym, ◌∙◌, arith}
use Rattle.std.specs.Prelude.{◌==◌, false}
use Rattle.std.proofs.lemmas.Bool.Decides.{nat_tests}
use Rattle.std.proofs.Math.Path.{fun_ext}
use Rattle.rv_table.specs.declared.registers.Regs.{Regs}
use Rattle.rv_table.specs.Machine.{State}
use Rattle.rv_table.specs.Registers.{registers_of}
use Rattle.rv_memory.specs.Regions.{Regions, memory_of}
use Rattle.cmm_format.proofs.Shared.{chosen_false}
use Rattle.cmm_snapshot.specs.SnapshotFormat.{Snapshot}
use Rattle.cmm_snapshot.specs.Laws.{SnapshotsKeepStates}

pub behind-first : (xs : List ℕ) (k : ℕ) → slice_index (drop 1 xs) k ≡ slice_index xs (suc k)
behind-first [] k = refl
behind-first (x ∷ xs) k = refl

register_same : (r q : Regs) (k : ℕ) → drop 1 r.x ≡ drop 1 q.x → registers_of r k ≡ registers_of q k
register_same r q zero e = refl
register_same r q (suc k) e =
    let test : (suc k == 0) ≡ false = grind (arith, nat_tests) in
    let same : slice_index r.x (suc k) ≡ slice_index q.x (suc k) = sym (behind-first r.x k) ∙ ap (λ (xs : List ℕ). slice_index xs k) e ∙ behind-first q.x k in
    chosen_false {A = ℕ} (suc k == 0) 0 (slice_index r.x (suc k)) test ∙ same ∙ sym (chosen_false {A = ℕ} (suc k == 0) 0 (slice_index q.x (suc k)) test)

states : (x y : ℕ → ℕ) (p q : ℕ) (f g : ℕ → ℕ) → x ≡ y → p ≡ q → f ≡ g → ◌≡◌ {A = State} (record { registers = x; pc = p; memory = f }) (record { registers = y; pc = q; memory = g })
states x y p q f g a b c = cc

pub snapshots_keep_states : SnapshotsKeepStates
snapshots_keep_states r q m n e =
    let registers : drop 1 r.x ≡ drop 1 q.x = ap (λ (s : Snapshot). s.registers) e in
    let pc : r.pc ≡ q.pc = ap (λ (s : Snapshot). s.pc) e in
    let initial : m.data_bytes ≡ n.data_bytes = ap (λ (s : Snapshot). s.data_bytes) e in
    let region : m.region_bytes ≡ n.region_bytes = ap (λ (s : Snapshot). s.region_bytes) e in
    let size : m.stack_size ≡ n.stack_size = ap (λ (s : Snapshot). s.stack_size) e in
    let memory : memory_of m ≡ memory_of n = fun_ext (λ k. byte m n k initial region) in
    (states _ _ _ _ _ _ (fun_ext (λ k. register_same r q k registers)) pc memory, rw size refl)
  where
    of_bytes : List ℕ → List ℕ → Regions
    of_bytes initial region = record { code_bytes = []; data_bytes = initial; region_bytes = region; stack_size = 0 }

    byte : (m n : Regions) (k : ℕ) → m.data_bytes ≡ n.data_bytes → m.region_bytes ≡ n.region_bytes → memory_of m k ≡ memory_of n k
    byte m n k a b = ap (λ (bytes : List ℕ). memory_of (of_bytes bytes m.region_bytes) k) a ∙ ap (λ (bytes : List ℕ). memory_of (of_bytes n.data_bytes bytes) k) b
