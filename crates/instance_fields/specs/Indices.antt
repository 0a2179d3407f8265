-- An index read: the inverse of the index made of a key's fields (document 01, "index"). Assumes nothing.
use Rattle.std.specs.Prelude.{cond, List, [], ◌∷◌, ℕ, leb, eqb, length, take, drop}
use Rattle.std.proofs.Math.Option.{Option, none, some, bind, map}
use Rattle.rows.specs.Fields.{Field, sequence, integer, legal}

-- ---- an index: its fields in order, and nothing over

-- what the front of an index holds, and what follows it
pub record Parsed (A : Type 0) : Type 0 where
  pub holds : A
  pub rest : List ℕ

-- kept where it is legal: a length or number in range, each part of its width
abbrev pub checked : Field → Parsed (List ℕ) → Option (Parsed (List ℕ))
checked k p = cond (legal k p.holds) (some p) none

unfoldable pub parse_field : Field → List ℕ → Option (Parsed (List ℕ))
parse_field (sequence w lo hi) [] = none
parse_field (sequence w lo hi) (n ∷ v) =
    cond (leb n (length v)) (checked (sequence w lo hi) (record { holds = take n v; rest = drop n v })) none
parse_field (integer w lo hi) [] = none
parse_field (integer w lo hi) (x ∷ v) = checked (integer w lo hi) (record { holds = x ∷ []; rest = v })

abbrev pub led : List ℕ → Parsed (List (List ℕ)) → Parsed (List (List ℕ))
led x p = record { holds = x ∷ p.holds; rest = p.rest }

unfoldable pub parse_fields : List Field → List ℕ → Option (Parsed (List (List ℕ)))
parse_fields [] v = some (record { holds = []; rest = v })
parse_fields (k ∷ ks) v = bind (parse_field k v) (λ p. map (led p.holds) (parse_fields ks p.rest))

abbrev pub ended : Parsed (List (List ℕ)) → Option (List (List ℕ))
ended p = cond (eqb (length p.rest) 0) (some p.holds) none

abbrev pub parse_index : List Field → List ℕ → Option (List (List ℕ))
parse_index ks v = bind (parse_fields ks v) ended
