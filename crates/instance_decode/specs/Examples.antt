-- Document 01's example P10, the status of ann's mapping; proved in proofs/Examples.antt. Assumes nothing.
use Rattle.std.specs.Prelude.{◌≡◌, List, [], ◌∷◌, ℕ}
use Rattle.std.proofs.Math.Option.{some}
use Rattle.rows.specs.declared.Table.TheVariants.{Mapping}
use Rattle.rows.specs.Rows.{index_of}
use Rattle.instance_encode.specs.Instances.{instance, status_column}
use Rattle.instance_decode.specs.Decoding.{read_instance}
use Rattle.instance_decode.specs.Inverse.{reading_of}

-- model 3, and "ann"
abbrev pub ann_key : List ℕ
ann_key = 0 ∷ 0 ∷ 0 ∷ 3 ∷ 3 ∷ 97 ∷ 110 ∷ 110 ∷ []

-- 1.3.6.1.6.3.16.1.2.1.5.3.3.97.110.110
abbrev pub ann_status : List ℕ
ann_status = 1 ∷ 3 ∷ 6 ∷ 1 ∷ 6 ∷ 3 ∷ 16 ∷ 1 ∷ 2 ∷ 1 ∷ 5 ∷ 3 ∷ 3 ∷ 97 ∷ 110 ∷ 110 ∷ []

pub record P10 : Type 0 where
  pub encoded : instance Mapping (status_column Mapping) (index_of Mapping ann_key) ≡ ann_status
  pub decoded : read_instance ann_status ≡ some (reading_of Mapping 5 ann_key)
