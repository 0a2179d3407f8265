-- Rows that a few tests show to be legal.
-- A walk over the row's fields (`Walks` of rows) goes on past each field whose number is in range and whose bytes are there, and ends
-- where the row does. So the row has no fault, and its key ends where the walk over the key's fields does. Assumes nothing.
use mathlib.Core.Path.{◌≡◌, refl, sym, ap, ◌∙◌}
use mathlib.Core.Bool.{Bool, true, false, ◌&&◌}
use mathlib.Core.List.{List, [], ◌∷◌}
use mathlib.Core.Option.{none}
use Prim.Native.Nat.{ℕ, zero, suc, ◌+◌, ◌-◌, ◌*◌, ◌≤◌}
use native.Mathlib.Omega.{arith}
use lib.ListN.{length, drop, get_or}
use lib.Dec.{eqb}
use borrow.Author.Tests.{eqb-true}
use Rattle.std.specs.Prelude.{Option, Ok}
use Rattle.std.specs.Bool.{then_some}
use Rattle.numbers.proofs.Bools.{and_left, and_right}
use Rattle.rows.specs.Types.{Step}
use Rattle.rows.specs.declared.Table.{Table}
use Rattle.rows.specs.declared.Table.TheVariants.{Context, Mapping, Access, View}
use Rattle.numbers.specs.BigEndian.{Width, octet, quad, size, number}
use Rattle.rows.specs.Fields.{Field, sequence, integer, within, faults, span}
use Rattle.rows.specs.Rows.{model_max, storage, activity, key_fields, rest_fields, row_fields}
use Rattle.rows.specs.Steps.{row_step, fields_step}
use Rattle.rows_quick.specs.Quick.{KeyEnd, Fits, ends_well}
use Rattle.numbers.proofs.BigEndian.{get_d_front}
use Rattle.rows.proofs.Steps.{sequence-whole, integer-whole, ended}
use Rattle.rows.proofs.Appends.{row-split}
use Rattle.rows.proofs.Walks.{Walk, start, go, arrive, reached-at, fields-end, fields_go, fields-whole}

-- ---- one field more

module _ {all : Step} {ks : List Field} {row : List ℕ} {at : ℕ} (lo hi n : ℕ) (i : within lo hi n ≡ true) (z : ℕ) (r : z ≤ length row) where
  sequence-on : (w : Width) → Walk all (sequence w lo hi ∷ ks) row at → n ≡ get_or row at 0 → z ≡ at + 1 + n * size w → Walk all ks row z
  sequence-on w k e q = go k (sequence-whole row at (size w) lo hi n e (omega arith) i (omega arith)) (ap Ok (omega arith))

  integer-on : (w : Width) → Walk all (integer w lo hi ∷ ks) row at → n ≡ number w (drop at row) → z ≡ at + size w → Walk all ks row z
  integer-on w k e q = go k (integer-whole row at w lo hi n e (omega arith) i) (ap Ok (omega arith))

  octet-on : Walk all (integer octet lo hi ∷ ks) row at → n ≡ get_or row at 0 → z ≡ at + 1 → Walk all ks row z
  octet-on k e q = integer-on octet k (e ∙ sym (get_d_front row at)) q

-- ---- the row's end

whole : (ps : List Field) (row : List ℕ) (from : ℕ) → Walk (fields_step ps row from) [] row (length row) → faults ps (drop from row) ≡ none
whole ps row from w =
    fields-whole ps row from (arrive w) refl
    ∙ (reached-at (faults [] (drop (length row) row)) 0 0 (sym (ended row (length row) 0 (omega arith)))).0

-- a storage and a status come last
served : (ps : List Field) (row : List ℕ) (from : ℕ) {at : ℕ} → Walk (fields_step ps row from) (storage ∷ activity ∷ []) row at
    → at + 2 ≡ length row → ends_well row ≡ true → faults ps (drop from row) ≡ none
served ps row from {at} w e i =
    let n = length row in
    let p : n - 2 ≡ at = omega arith in
    let q : n - 1 ≡ at + 1 = omega arith in
    let x = get_or row (n - 2) 0 in
    let y = get_or row (n - 1) 0 in
    let w1 = octet-on 2 5 x (and_left _ (within 1 2 y) i) (at + 1) (omega arith) w (ap (λ j. get_or row j 0) p) refl in
    let w2 = octet-on 1 2 y (and_right (within 2 5 x) _ i) n (omega arith) w1 (ap (λ j. get_or row j 0) q) (omega arith) in
    whole ps row from w2

-- the key's fields, and no fault behind them
legal : (t : Table) (row : List ℕ) {k : ℕ} → Walk (fields_step (key_fields t) row 0) [] row k → faults (rest_fields t) (drop k row) ≡ none → row_step t row ≡ Ok k
legal t row {k} w f =
    let e : span (key_fields t) row ≡ k = omega (arith, fields-end (key_fields t) row 0 (arrive w) refl) in
    let g : faults (row_fields t) row ≡ none = rw (row-split t) (fields_go (key_fields t) row 0 (arrive w) refl (rest_fields t) ∙ f) in
    rw (g, e)

-- ---- tests joined one after the other

unfoldable pub joined : Bool → List Bool → Bool
joined b [] = b
joined b (t ∷ ts) = joined (b && t) ts

each : (b : Bool) (ts : List Bool) → joined b ts ≡ true → (i : ℕ) → get_or (b ∷ ts) i true ≡ true
unfolding joined
each b [] e zero = e
each b [] e (suc i) = refl
each b (t ∷ ts) e zero = and_left b t (each (b && t) ts e 0)
each b (t ∷ ts) e (suc zero) = and_right b t (each (b && t) ts e 0)
each b (t ∷ ts) e (suc (suc i)) = each (b && t) ts e (suc i)

-- what they tell together
pub told : (t : Table) (row : List ℕ) {k : ℕ} {o : Option ℕ} (b : Bool) → o ≡ then_some b k → (b ≡ true → row_step t row ≡ Ok k) → KeyEnd t row o
told t row true e f = rw e (f refl)
told t row false e f = rw e tt

-- ---- the tables

pub context-legal : (row : List ℕ) (name : ℕ) → name ≡ get_or row 0 0
    → joined (eqb (1 + name) (length row)) (within 0 32 name ∷ []) ≡ true → row_step Context row ≡ Ok (length row)
unfolding key_fields
context-legal row name en t =
    let h = each _ _ t in
    let l : 1 + name ≡ length row = eqb-true _ _ (h 0) in
    let w1 = sequence-on 0 32 name (h 1) (length row) (omega arith) octet (start (key_fields Context) row 0 (omega arith)) en (omega arith) in
    legal Context row w1 (whole [] row (length row) (start [] row (length row) (omega arith)))

pub mapping-legal : (row : List ℕ) (model name group : ℕ) → let a = 5 + name in
    model ≡ number quad row → name ≡ get_or row 4 0 → group ≡ get_or row a 0
    → joined (eqb (a + 1 + group + 2) (length row)) (within 1 model_max model ∷ within 1 32 name ∷ within 1 32 group ∷ ends_well row ∷ []) ≡ true
    → row_step Mapping row ≡ Ok a
unfolding key_fields
mapping-legal row model name group em en eg t =
    let h = each _ _ t in
    let a = 5 + name in
    let l : a + 1 + group + 2 ≡ length row = eqb-true _ _ (h 0) in
    let w1 = integer-on 1 model_max model (h 1) 4 (omega arith) quad (start (key_fields Mapping) row 0 (omega arith)) em refl in
    let w2 = sequence-on 1 32 name (h 2) a (omega arith) octet w1 en (omega arith) in
    let w3 = sequence-on 1 32 group (h 3) (a + 1 + group) (omega arith) octet (start (rest_fields Mapping) row a (omega arith)) eg (omega arith) in
    legal Mapping row w2 (served (rest_fields Mapping) row a w3 l (h 4))

pub access-rest-legal : (row : List ℕ) (key exact read write notify : ℕ) → let a = key + 2 + read in let b = a + 1 + write in
    exact ≡ get_or row key 0 → read ≡ get_or row (key + 1) 0 → write ≡ get_or row a 0 → notify ≡ get_or row b 0
    → joined (eqb (b + 1 + notify + 2) (length row))
    (within 1 2 exact ∷ within 0 32 read ∷ within 0 32 write ∷ within 0 32 notify ∷ ends_well row ∷ []) ≡ true
    → faults (rest_fields Access) (drop key row) ≡ none
access-rest-legal row key exact read write notify ex er ew en t =
    let h = each _ _ t in
    let a = key + 2 + read in
    let b = a + 1 + write in
    let l : b + 1 + notify + 2 ≡ length row = eqb-true _ _ (h 0) in
    let w1 = octet-on 1 2 exact (h 1) (key + 1) (omega arith) (start (rest_fields Access) row key (omega arith)) ex refl in
    let w2 = sequence-on 0 32 read (h 2) a (omega arith) octet w1 er (omega arith) in
    let w3 = sequence-on 0 32 write (h 3) b (omega arith) octet w2 ew (omega arith) in
    let w4 = sequence-on 0 32 notify (h 4) (b + 1 + notify) (omega arith) octet w3 en (omega arith) in
    served (rest_fields Access) row key w4 l (h 5)

pub access-legal : (row : List ℕ) (group prefix model level : ℕ) (fits : Bool) → let a = 1 + group in let b = a + 1 + prefix in
    b + 5 ≤ length row → group ≡ get_or row 0 0 → prefix ≡ get_or row a 0 → model ≡ number quad (drop b row) → level ≡ get_or row (b + 4) 0
    → Fits (rest_fields Access) row (b + 5) fits
    → joined (within 1 32 group) (within 0 32 prefix ∷ within 0 model_max model ∷ within 1 3 level ∷ fits ∷ []) ≡ true
    → row_step Access row ≡ Ok (b + 5)
unfolding key_fields
access-legal row group prefix model level fits l eg ep em el f t =
    let h = each _ _ t in
    let a = 1 + group in
    let b = a + 1 + prefix in
    let w1 = sequence-on 1 32 group (h 0) a (omega arith) octet (start (key_fields Access) row 0 (omega arith)) eg (omega arith) in
    let w2 = sequence-on 0 32 prefix (h 1) b (omega arith) octet w1 ep (omega arith) in
    let w3 = integer-on 0 model_max model (h 2) (b + 4) (omega arith) quad w2 em refl in
    let w4 = octet-on 1 3 level (h 3) (b + 5) l w3 el (omega arith) in
    legal Access row w4 (f (h 4))

pub view-legal : (row : List ℕ) (name parts mask kind : ℕ) → let a = 1 + name in let b = a + 1 + parts * 4 in
    name ≡ get_or row 0 0 → parts ≡ get_or row a 0 → mask ≡ get_or row b 0 → kind ≡ get_or row (length row - 3) 0
    → joined (eqb (b + 1 + mask + 3) (length row))
    (within 1 32 name ∷ within 1 64 parts ∷ within 0 16 mask ∷ within 1 2 kind ∷ ends_well row ∷ []) ≡ true
    → row_step View row ≡ Ok b
unfolding key_fields
view-legal row name parts mask kind en ep em ek t =
    let h = each _ _ t in
    let a = 1 + name in
    let b = a + 1 + parts * 4 in
    let l : b + 1 + mask + 3 ≡ length row = eqb-true _ _ (h 0) in
    let q : length row - 3 ≡ b + 1 + mask = omega arith in
    let w1 = sequence-on 1 32 name (h 1) a (omega arith) octet (start (key_fields View) row 0 (omega arith)) en (omega arith) in
    let w2 = sequence-on 1 64 parts (h 2) b (omega arith) quad w1 ep refl in
    let w3 = sequence-on 0 16 mask (h 3) (b + 1 + mask) (omega arith) octet (start (rest_fields View) row b (omega arith)) em (omega arith) in
    let w4 = octet-on 1 2 kind (h 4) (b + 1 + mask + 1) (omega arith) w3 (ek ∙ ap (λ j. get_or row j 0) q) refl in
    legal View row w2 (served (rest_fields View) row b w4 (omega arith) (h 5))
