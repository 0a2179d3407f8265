-- What is told of equal things is the same. Assumes nothing.
use mathlib.Core.Path.{◌≡◌}
use mathlib.Core.List.{List}
use mathlib.Core.Option.{Option}
use Prim.Native.Nat.{ℕ}
use Rattle.rows.specs.declared.Table.{Table}
use Rattle.rows.specs.Tables.{Tables}
use Rattle.decision_match.specs.Matches.{view_choice, access_choice}
use Rattle.instance_decode.specs.Decoding.{read_instance}
use Rattle.call_answers.specs.Answers.{instance_text, decoded_text, Told}
use Rattle.call_matches.specs.Texts.{view_match_text, access_match_text}

module _ {at : ℕ} {w out : List ℕ} {r : ℕ} where
  pub told-instance : (t : Table) {n n' : ℕ} {k k' : List ℕ} → n ≡ n' → k ≡ k' → Told (instance_text t n k) at w out r
      → Told (instance_text t n' k') at w out r
  told-instance t a b s = rw (← a, ← b) s

  pub told-decoded : {oid oid' : List ℕ} → oid ≡ oid' → Told (decoded_text (read_instance oid)) at w out r
      → Told (decoded_text (read_instance oid')) at w out r
  told-decoded e s = rw (← e) s

  module _ (tables : Option Tables) where
    pub told-view-match : {n n' v v' : List ℕ} → n ≡ n' → v ≡ v' → Told (view_match_text (view_choice tables n v)) at w out r
        → Told (view_match_text (view_choice tables n' v')) at w out r
    told-view-match a b s = rw (← a, ← b) s

    pub told-access-match : {g g' c c' : List ℕ} {m m' l l' : ℕ} → g ≡ g' → c ≡ c' → m ≡ m' → l ≡ l'
        → Told (access_match_text (access_choice tables g c m l)) at w out r → Told (access_match_text (access_choice tables g' c' m' l')) at w out r
    told-access-match a b c d s = rw (← a, ← b, ← c, ← d) s
