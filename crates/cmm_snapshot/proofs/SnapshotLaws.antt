-- The format of snapshots reads what it spells and nothing else.
use Rattle.std.proofs.Common.{◌≡◌, ℕ, ◌+◌, List, [], ◌∷◌, length, refl}
use Rattle.std.specs.Prelude.{◌==◌}
use Rattle.std.proofs.lemmas.Bool.{eqb-true}
use Rattle.std.proofs.lemmas.Slice.Eq.{bytes_eq-Decides}
use Rattle.cmm_rules.specs.declared.rule.Rule.TheVariants.{SnapshotIsCut}
use Rattle.rv_table.specs.declared.memory_map.TheConstants.{BELOW_STACK}
use Rattle.cmm_format.proofs.Shared.{IsExact, number-exact, block-exact, when-exact, then-exact, as-exact, rows-exact}
use Rattle.cmm_image.specs.declared.parts.ImageParts.{ImageParts}
use Rattle.cmm_image.specs.WholeImage.{header_bytes}
use Rattle.cmm_snapshot.specs.SnapshotFormat.{RegisterFields, SnapshotFields, allowed, is_front, is_header_of, is_stack_size, magic, numbered_count, registers, snapshot, snapshot_fields, snapshot_of}

-- register 0 is 0
zero_same : (zero_register : ℕ) (others : List ℕ × ℕ) → zero_register ≡ 0 → ◌≡◌ {A = RegisterFields} (0, others) (zero_register, others)
zero_same zero_register others e = rw e refl

registers-exact : IsExact registers
registers-exact = as-exact {A = RegisterFields} (λ x. x.1) (λ r. (0, r))
    (then-exact (when-exact (allowed (λ n. n == 0) ∷ []) (number-exact SnapshotIsCut 8)) λ (zero_register : ℕ).
    then-exact (rows-exact (λ previous. number-exact SnapshotIsCut 8) (λ previous a. refl) numbered_count) λ (numbered : List ℕ).
    number-exact SnapshotIsCut 8)
    (λ r holds. refl)
    (λ x holds. zero_same x.0 x.1 (eqb-true x.0 0 holds.0.1.0))

-- the fields that a snapshot need not keep are always the same
fields_same : (i : ImageParts) (front version : ℕ) (header : List ℕ) (stack_size : ℕ) (registers : List ℕ × ℕ) (initial region : List ℕ) → front ≡ magic → version ≡ 1 → header ≡ header_bytes i →
    ◌≡◌ {A = SnapshotFields} (magic, (1, (header_bytes i, (stack_size, (registers, (initial, region)))))) (front, (version, (header, (stack_size, (registers, (initial, region))))))
fields_same i front version header stack_size registers initial region e f g = rw (e, f, g) refl

pub snapshot-exact : (i : ImageParts) → IsExact (snapshot i)
snapshot-exact i = as-exact snapshot_of (snapshot_fields i)
    (then-exact (when-exact (is_front magic ∷ []) (number-exact SnapshotIsCut 4)) λ (front : ℕ).
    then-exact (when-exact (is_front 1 ∷ []) (number-exact SnapshotIsCut 4)) λ (version : ℕ).
    then-exact (when-exact (is_header_of i ∷ []) (block-exact SnapshotIsCut 64)) λ (header : List ℕ).
    then-exact (when-exact (allowed is_stack_size ∷ []) (number-exact SnapshotIsCut 8)) λ (stack_size : ℕ).
    then-exact registers-exact λ (registers : List ℕ × ℕ).
    then-exact (block-exact SnapshotIsCut (length i.initial)) λ (initial : List ℕ).
    block-exact SnapshotIsCut (BELOW_STACK + stack_size))
    (λ s holds. refl)
    (λ x holds. fields_same i x.0 x.1.0 x.1.1.0 x.1.1.1.0 x.1.1.1.1.0 x.1.1.1.1.1.0 x.1.1.1.1.1.1
    (eqb-true x.0 magic holds.0.1.0) (eqb-true x.1.0 1 holds.1.0.1.0) ((bytes_eq-Decides x.1.1.0 (header_bytes i)).0 holds.1.1.0.1.0))
