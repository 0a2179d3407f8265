-- Lists in which ann walks, of the circle of `Examples`: two that differ and meet every condition, and two that break walks-confined alone and are told
-- different things. In the first two her view has the context table and her own mapping row, each column of it by the mask. It refuses what is outside
-- the circle: an access or view row's instance by its first parts, a mapping's by its model and name. The rest is by computation. Assumes nothing.
use mathlib.Core.Path.{◌≡◌, refl, sym, ap, ◌∙◌}
use mathlib.Core.Bool.{true, false, true≢false}
use mathlib.Core.List.{List, [], ◌∷◌, ◌++◌, map}
use Prim.Native.Nat.{ℕ}
use lib.Dec.{eqb}
use native.Mathlib.Omega.{arith}
use borrow.Author.Tests.{eqb-true}
use lib.ListN.{length}
use Rattle.numbers.specs.Lists.{every}
use Rattle.numbers.specs.Order.{same}
use Rattle.numbers.specs.BigEndian.{Octets}
use Rattle.numbers.proofs.Bools.{clash, and_left, and_right, is_false}
use Rattle.rows.specs.declared.Table.TheVariants.{Context, Mapping, Access, View}
use Rattle.rows.specs.Fields.{values, row_bytes, legals, index}
use Rattle.rows.specs.Rows.{ViewRow, mapping_key, key_fields, row_fields, field_at, number_at}
use Rattle.rows.specs.Tables.{Tables, no_rows}
use Rattle.rows.proofs.Inverse.{values-made}
use Rattle.decision_steps.specs.Request.{asked, read}
use Rattle.decision_steps.specs.Decision.{mask_bit, agrees, matches, chosen_view, step5, viewed, authority, by_authority}
use Rattle.decision_steps.proofs.Parts.{decision-parts}
use Rattle.instance_encode.specs.Instances.{instance}
use Rattle.walk_rules.specs.Walk.{is_allowed, may_read}
use Rattle.calls.specs.Does.{Call, owner, by, walk, decided, edited, set_edited, walked}
use Rattle.calls.proofs.Steps.{step}
use Rattle.isolation.specs.Isolation.{Told, calls, Run, Fresh, picked, key_in, RefusesOutside, Conditions}
use Rattle.isolation.specs.Runs.{RunOf}
use Rattle.isolation.proofs.Runs.{every-list-runs}
use Rattle.isolation.proofs.Alone.{final}
use Rattle.isolation.proofs.Examples.{ann, cal, leads, train, all, base, internet, circle}
use Rattle.isolation.proofs.Examples.{create_context, create_mapping, create_access, create_family, create_view}
use Rattle.isolation.proofs.Examples.{principal, tells, numbers, no_walk, five_met, Shown, ConfinedAll, confined-one, conditions-shown, all-hand-octets}

-- ---- ann walks

-- a column of a principal's mapping row
abbrev mapping_at : ℕ → List ℕ → ℕ → List ℕ
mapping_at model name column = instance Mapping column (index mapping_key ((model ∷ []) ∷ name ∷ []))

abbrev ann_walks : List (List ℕ) → List Call
ann_walks is = map (λ i. walk (principal ann) i) is

-- the instance that is handed back
abbrev reached : Told → List ℕ
reached (c, decided a) = []
reached (c, edited r) = []
reached (c, set_edited r) = []
reached (c, walked w) = w.identifier

-- ann is mapped and may read by view "all", of which rows follow
abbrev reading : List Call → List Call
reading rows = owner (create_context []) ∷ owner (create_mapping ann leads) ∷ owner (create_access leads all [] []) ∷ rows

-- calls that are no walks, and then walks of ann: these are confined as her view is at the tables that they find
confined-after : (t : Tables) (cs : List Call) (is : List (List ℕ)) → every no_walk cs ≡ true → RefusesOutside circle (final t cs) (principal ann)
    → ConfinedAll t (cs ++ ann_walks is)
unfolding final step
confined-after t (c ∷ cs) is h r = (confined-one t c (and_left _ _ h), confined-after (step t c).1 cs is (and_right (no_walk c) _ h) r)
confined-after t [] [] h r = tt
confined-after t [] (i ∷ is) h r = (λ m. r, confined-after t [] is h r)

refuses-after : (t : Tables) (cs : List Call) (i : List ℕ) → ConfinedAll t (cs ++ ann_walks (i ∷ [])) → RefusesOutside circle (final t cs) (principal ann)
unfolding final same
refuses-after t [] i k = k.0 refl
refuses-after t (c ∷ cs) i k = refuses-after (step t c).1 cs i k.1

-- what ann may read, by the rows of her view
read_by : (t : Tables) {rows : List ViewRow} → authority t 3 ann 2 read [] ≡ viewed rows → (variable : List ℕ)
    → may_read t (principal ann) variable ≡ is_allowed (step5 variable rows)
unfolding may_read
read_by t e variable = ap is_allowed (decision-parts t (asked 3 ann 2 read [] variable) ∙ ap (by_authority variable) e)

-- ---- a view of the context table and ann's own mapping row

-- the eleventh part, the column, may be any
abbrev any_column : List ℕ
any_column = 255 ∷ 223 ∷ []

abbrev family : List ℕ → List ℕ → ViewRow
family subtree mask = record { view_name = all; subtree = subtree; mask = mask; family_type = 1; storage_type = 3; status = 1 }

abbrev own_view : List ViewRow
own_view = family (instance Context 1 []) [] ∷ family (mapping_at 3 ann 3) any_column ∷ []

-- a name of three octets that agrees with ann's
own_name : (name rest : List ℕ) → eqb 3 (length name) ≡ true → agrees any_column 13 ann (name ++ rest) ≡ true → same name ann ≡ true
unfolding agrees mask_bit same
own_name [] rest l e = clash l refl
own_name (x ∷ []) rest l e = clash l refl
own_name (x ∷ y ∷ []) rest l e = clash l refl
own_name (x ∷ y ∷ z ∷ []) rest l e =
    let a : 97 ≡ x = eqb-true 97 x (and_left _ _ e) in
    let f = and_right (eqb 97 x) _ e in
    let b : 110 ≡ y = eqb-true 110 y (and_left _ _ f) in
    let c : 110 ≡ z = eqb-true 110 z (and_left _ _ (and_right (eqb 110 y) _ f)) in
    rw (← a, ← b, ← c)
own_name (x ∷ y ∷ z ∷ u ∷ name) rest l e = let n : 3 ≡ length (x ∷ y ∷ z ∷ u ∷ name) = eqb-true 3 _ l in let k : ⊥ = omega arith in absurd k

own-agrees : (model : ℕ) (name : List ℕ) (column : ℕ) → agrees any_column 0 (mapping_at 3 ann 3) (mapping_at model name column) ≡ true
    → key_in circle Mapping ((model ∷ []) ∷ name ∷ []) ≡ true
unfolding agrees mask_bit
own-agrees model name column e =
    let m : 3 ≡ model = eqb-true 3 model (and_left _ _ e) in
    let f = and_right (eqb 3 model) _ e in
    rw (← m) (own_name name [] (and_left _ _ f) (and_right (eqb 3 (length name)) _ f))

context-apart : (model : ℕ) (name : List ℕ) (column : ℕ) → agrees [] 0 (instance Context 1 []) (mapping_at model name column) ≡ false
unfolding agrees mask_bit
context-apart model name column = refl

mapping-out : (model : ℕ) (name : List ℕ) (column : ℕ) → key_in circle Mapping ((model ∷ []) ∷ name ∷ []) ≡ false
    → is_allowed (step5 (mapping_at model name column) own_view) ≡ false
unfolding chosen_view matches
mapping-out model name column out =
    rw (
      context-apart model name column,
      is_false (agrees any_column 0 (mapping_at 3 ann 3) (mapping_at model name column))
          (λ e. clash (own-agrees model name column e) out),
    )

own-refuses : (t : Tables) → authority t 3 ann 2 read [] ≡ viewed own_view → RefusesOutside circle t (principal ann)
unfolding key_fields chosen_view matches agrees mask_bit
own-refuses t e Context key column l o out = clash refl out
own-refuses t e Mapping key column l o out =
    let fs = values mapping_key (row_bytes mapping_key key) in
    let k : fs ≡ key = values-made mapping_key key l in
    read_by t e _
    ∙ ap (λ key. is_allowed (step5 (instance Mapping column (index mapping_key key)) own_view)) (sym k)
    ∙ mapping-out (number_at 0 fs) (field_at 1 fs) column (ap (key_in circle Mapping) k ∙ out)
own-refuses t e Access key column l o out = read_by t e _
own-refuses t e View key column l o out = read_by t e _

-- ---- two lists that differ and meet every condition

abbrev walking : List Call → List Call
walking others = reading (owner (create_view all (instance Context 1 []) 1) ∷ owner (create_family all (mapping_at 3 ann 3) any_column 1) ∷ others)

-- the rows of others
abbrev company : List Call
company =
    owner (create_mapping cal train)
    ∷ owner (create_access train [] all [])
    ∷ by (principal cal) (create_view base (internet []) 1)
    ∷ []

-- from the first instance on, over cal's, to the last
abbrev froms : List (List ℕ)
froms = [] ∷ mapping_at 3 ann 3 ∷ mapping_at 3 ann 5 ∷ []

abbrev solitary : List Call
solitary = walking [] ++ ann_walks froms

abbrev accompanied : List Call
accompanied = walking company ++ ann_walks froms

-- cal's view row is refused: it may write what ann may read
accompanied-told : numbers (tells accompanied) ≡ 0 ∷ 0 ∷ 0 ∷ 0 ∷ 0 ∷ 0 ∷ 0 ∷ 5 ∷ 0 ∷ 0 ∷ 17 ∷ []
unfolding tells
accompanied-told = refl

-- what the shared calls are told in both
walks-told : Shown solitary accompanied (five_met false) (five_met false) (0 ∷ 0 ∷ 0 ∷ 0 ∷ 0 ∷ 0 ∷ 0 ∷ 17 ∷ []) (0 ∷ 0 ∷ 0 ∷ 0 ∷ 0 ∷ 0 ∷ 0 ∷ 17 ∷ [])
unfolding tells
walks-told = record { same_calls = refl; one_meets = refl; other_meets = refl; one_told = refl; other_told = refl }

-- cal's instance of column 3 lies between two of ann's
abbrev instances_told : List (List ℕ)
instances_told = [] ∷ [] ∷ [] ∷ [] ∷ [] ∷ instance Context 1 (0 ∷ []) ∷ mapping_at 3 ann 4 ∷ [] ∷ []

walks-reach : (map reached (picked circle (tells solitary)) ≡ instances_told) × (map reached (picked circle (tells accompanied)) ≡ instances_told)
unfolding tells
walks-reach = (refl, refl)

solitary-confined : ConfinedAll no_rows solitary
unfolding tells final
solitary-confined = confined-after no_rows (walking []) froms refl (own-refuses (final no_rows (walking [])) refl)

accompanied-confined : ConfinedAll no_rows accompanied
unfolding tells final
accompanied-confined = confined-after no_rows (walking company) froms refl (own-refuses (final no_rows (walking company)) refl)

pub walks-met : {s s' t t' : List ℕ} {xs ys : List Told} → Fresh s → Fresh t → (p : Run s xs s') (q : Run t ys t')
    → calls xs ≡ solitary → calls ys ≡ accompanied → Conditions circle p q
walks-met = conditions-shown walks-told solitary-confined accompanied-confined

pub solitary-runs : (s : List ℕ) → Octets s → RunOf s solitary
unfolding row_fields key_fields
solitary-runs s b = every-list-runs s b solitary (all-hand-octets solitary refl)

pub accompanied-runs : (s : List ℕ) → Octets s → RunOf s accompanied
unfolding row_fields key_fields
accompanied-runs s b = every-list-runs s b accompanied (all-hand-octets accompanied refl)

-- ---- walks-confined is needed: a view that has the status of every mapping tells whether cal has one

abbrev statuses : List Call → List Call
statuses others = reading (owner (create_view all (instance Mapping 5 []) 1) ∷ others)

abbrev peering : List Call → List Call
peering others = statuses others ++ ann_walks (mapping_at 3 ann 5 ∷ [])

abbrev cal_mapped : List Call
cal_mapped = owner (create_mapping cal train) ∷ []

walk-counts : Shown (peering []) (peering cal_mapped) (five_met false) (five_met false) (0 ∷ 0 ∷ 0 ∷ 0 ∷ 17 ∷ []) (0 ∷ 0 ∷ 0 ∷ 0 ∷ 0 ∷ [])
unfolding tells
walk-counts = record { same_calls = refl; one_meets = refl; other_meets = refl; one_told = refl; other_told = refl }

-- cal's instance, which is outside, is not refused
lets-out : (t : Tables) → may_read t (principal ann) (mapping_at 3 cal 5) ≡ true → RefusesOutside circle t (principal ann) → ⊥
unfolding key_fields legals same
lets-out t e r = true≢false (sym e ∙ r Mapping ((3 ∷ []) ∷ cal ∷ []) 5 refl refl refl)

walk-unconfined : (ConfinedAll no_rows (peering []) → ⊥) × (ConfinedAll no_rows (peering cal_mapped) → ⊥)
unfolding tells final
walk-unconfined = (
  λ k. lets-out (final no_rows (statuses [])) refl (refuses-after no_rows (statuses []) (mapping_at 3 ann 5) k),
  λ k. lets-out (final no_rows (statuses cal_mapped)) refl (refuses-after no_rows (statuses cal_mapped) (mapping_at 3 ann 5) k),
)
