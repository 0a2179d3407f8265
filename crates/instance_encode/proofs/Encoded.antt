-- Encoding a listed column of a legal key into 128 parts never fails: an instance has 110 at most. What is written is the instance.
-- Each column of a table is listed, and the next of those counted is the first. Assumes nothing.
use mathlib.Core.Path.{◌≡◌, refl, ap, ◌∙◌}
use mathlib.Core.Bool.{true, ◌&&◌}
use mathlib.Core.List.{List, ◌∷◌, ◌++◌}
use mathlib.Core.Option.{none}
use Prim.Native.Nat.{ℕ, zero, suc, ◌+◌, ◌-◌, ◌≤◌, ◌<◌}
use native.Mathlib.Omega.{arith}
use lib.ListN.{length, take, drop, length-take}
use lib.Seq.{take_at}
use lib.Dec.{eqb, leb, ltb}
use Rattle.std.specs.Prelude.{Ok, Err}
use Rattle.answers.specs.declared.Fault.{Fault}
use Rattle.answers.specs.Types.{Written}
use Rattle.std.proofs.lemmas.Bool.Decides.{nat_tests}
use Rattle.numbers.specs.Lists.{any, every}
use Rattle.rows.specs.declared.Table.{Table}
use Rattle.rows.specs.declared.Table.TheVariants.{Context, Mapping, Access, View}
use Rattle.rows.specs.Fields.{faults}
use Rattle.rows.specs.Rows.{key_fields, index_of}
use Rattle.instance_encode.specs.Instances.{columns, counted, instance, lists, encode_fault, written, Encodes}
use Rattle.instance_encode.proofs.Answers.{instance-short, encode-accepted}

pub columns-listed : (t : Table) → every (lists t) (columns t) ≡ true
columns-listed Context = refl
columns-listed Mapping = refl
columns-listed Access = refl
columns-listed View = refl

-- of the columns that follow one another, those from the first to before the one behind the last
pub counted-within : (x column n : ℕ) → any (eqb x) (counted column n) ≡ leb column x && ltb x (column + n)
counted-within x column zero = grind (arith, nat_tests)
counted-within x column (suc n) =
    let i = counted-within x (column + 1) n in
    grind (arith, nat_tests)

pub counted_next : (column n : ℕ) → 0 < n → counted column n ≡ column ∷ counted (column + 1) (n - 1)
counted_next column zero h = absurd (omega arith)
counted_next column (suc n) h = let e : suc n - 1 ≡ n = omega arith in rw e

module _ (t : Table) (column : ℕ) (key : List ℕ) (c : lists t column ≡ true) (f : faults (key_fields t) key ≡ none)
    {found after : List ℕ} {r : Written} (e : Encodes t column key found after r) (l : length found ≡ 128) where
  abbrev here : List ℕ
  here = instance t column (index_of t key)

  fits : encode_fault t column key (length found) ≡ none
  fits = encode-accepted t column key found c f (omega (arith, instance-short t column key f))

  answered : r ≡ Ok (length here)
  answered = e.answer_is ∙ ap (λ o. written o (length here)) fits

  pub encoded-always : {g : Fault} → r ≡ Err g → ⊥
  encoded-always {g} q = let z : ◌≡◌ {A = ℕ} 0 1 = cc answered in omega arith

  pub encoded-length : {n : ℕ} → r ≡ Ok n → n ≡ length here
  encoded-length {n} q = cc answered

  pub encoded-buffer : after ≡ here ++ drop (length here) found
  encoded-buffer = rw fits at e.buffer_is

  -- the parts written are the instance's
  pub encoded-parts : {n : ℕ} → r ≡ Ok n → take (n - 0) after ≡ here
  encoded-parts {n} q =
      let z : n - 0 ≡ length here = omega (arith, encoded-length q) in
      rw (z, encoded-buffer) (take_at here (drop (length here) found) (length here) refl)

  -- which are there, and few
  pub encoded-room : {n : ℕ} → r ≡ Ok n → n ≤ length after
  encoded-room {n} q = omega (arith, encoded-length q, ap length (encoded-parts q), length-take (n - 0) after)

  pub encoded-few : {n : ℕ} → r ≡ Ok n → length (take (n - 0) after) ≤ 128
  encoded-few q = omega (arith, ap length (encoded-parts q), instance-short t column key f)
