-- A key as it is judged, and its index as it is written: a key with a fault is refused, and without one its index is its bytes in three runs
-- (`Keys`), so that the instance has as many parts as are asked for. Assumes nothing.
use mathlib.Core.Path.{◌≡◌, refl, sym, ap, ◌∙◌}
use mathlib.Core.Bool.{Bool, true, false}
use mathlib.Core.List.{List}
use mathlib.Core.Option.{Option, none, some}
use Prim.Native.Nat.{ℕ, ◌+◌, ◌-◌, ◌*◌, ◌≤◌}
use native.Mathlib.Omega.{arith}
use lib.ListN.{length}
use Rattle.std.specs.Prelude.{Result, is_err}
use Rattle.answers.specs.declared.Fault.{Fault}
use Rattle.rows.specs.declared.Table.{Table}
use Rattle.rows.specs.Fields.{faults, span}
use Rattle.rows.specs.Rows.{key_fields, index_of}
use Rattle.rows.specs.Steps.{reached, key_step}
use Rattle.instance_encode.specs.declared.Quads.{Quads}
use Rattle.instance_encode.specs.Instances.{base, instance}
use Rattle.instance_encode.specs.Runs.{quads_from, quads_in, runs}
use Rattle.instance_encode.proofs.Answers.{instance-length}
use Rattle.instance_encode.proofs.Keys.{key-runs}
use Rattle.instance_encode.proofs.Runs.{runs-length}

sound : (o : Option Fault) (n : ℕ) → is_err (reached o n) ≡ false → o ≡ none
sound none n e = refl
sound (some f) n e = cc

faulty : (o : Option Fault) (n : ℕ) → is_err (reached o n) ≡ true → (f : Fault) × (o ≡ some f)
faulty none n e = cc
faulty (some f) n e = (f, refl)

module _ (t : Table) (key : List ℕ) {r : Result ℕ Fault} {b : Bool} (judged : r ≡ key_step t key) (told : b ≡ is_err r) where
  pub key-sound : b ≡ false → faults (key_fields t) key ≡ none
  key-sound e = sound (faults (key_fields t) key) (span (key_fields t) key) (ap is_err (sym judged) ∙ sym told ∙ e)

  pub key-faulty : b ≡ true → (f : Fault) × (faults (key_fields t) key ≡ some f)
  key-faulty e = faulty (faults (key_fields t) key) (span (key_fields t) key) (ap is_err (sym judged) ∙ sym told ∙ e)

pub record Sized (t : Table) (column : ℕ) (key : List ℕ) (q : Quads) (n : ℕ) : Type 0 where
  pub room : q.from + 4 * q.count ≤ length key
  pub index_is : index_of t key ≡ runs q.from q.count key
  pub length_is : n + 1 + (length key - 3 * q.count) ≡ length (instance t column (index_of t key))

pub sized : (t : Table) (column : ℕ) (key : List ℕ) → faults (key_fields t) key ≡ none → {q : Quads} → q.from ≡ quads_from t key
    → q.count ≡ quads_in t key → {n : ℕ} → n ≡ length (base t) → Sized t column key q n
sized t column key h {q} a b {n} e =
    let k = key-runs t key h in
    let room : q.from + 4 * q.count ≤ length key = rw (a, b) k.room in
    let index_is : index_of t key ≡ runs q.from q.count key = rw (a, b) k.index_is in
    record {
      room = room;
      index_is = index_is;
      length_is = omega (arith, instance-length t column (index_of t key), e, ap length index_is, runs-length q.from q.count key room);
    }
