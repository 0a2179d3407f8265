-- Lists in which ann and cal send sets of edits, of the circle of `Examples`: two that differ and meet every condition, and for each condition on sets two
-- that break it alone and are told different things, whatever the set's first row is. By computation. Assumes nothing.
use mathlib.Core.Path.{◌≡◌, refl}
use mathlib.Core.List.{List, [], ◌∷◌, ◌++◌, map}
use Prim.Native.Nat.{ℕ, zero, suc}
use Rattle.numbers.specs.BigEndian.{Octets}
use Rattle.rows.specs.Rows.{key_fields, row_fields}
use Rattle.rows.specs.Tables.{no_rows}
use Rattle.edit_rules.specs.declared.Operation.TheVariants.{Change}
use Rattle.calls.specs.Does.{Call, owner, by_set, decided, edited, set_edited, walked}
use Rattle.isolation.specs.Isolation.{Told, calls, Run, Fresh, picked, Conditions}
use Rattle.isolation.specs.Runs.{RunOf}
use Rattle.isolation.proofs.Runs.{every-list-runs}
use Rattle.isolation.proofs.Examples.{ann, cal, leads, train, all, base, internet, circle, create_mapping, change_mapping, remove_mapping, access}
use Rattle.isolation.proofs.Examples.{create_access, create_view, principal, ann_asks, tells, numbers, all_met, not_inside, not_grouped, not_chosen, once_full}
use Rattle.isolation.proofs.Examples.{once_accepted, Shown, confined-none, start, train_reads, base_view, conditions-shown, all-hand-octets}

-- the position that a set's answer carries
abbrev position_told : Told → ℕ
position_told (c, decided a) = 0
position_told (c, edited r) = 0
position_told (c, set_edited r) = r.position
position_told (c, walked w) = 0

abbrev positions : List Told → List ℕ
positions ts = map position_told ts

-- cal is given a write view over everything
abbrev cal_writes : List Call
cal_writes = owner (create_mapping cal train) ∷ owner (create_access train [] all []) ∷ []

-- ---- two lists that differ and meet every condition

-- ann's sets: accepted; refused at the second edit, of a row that is held; accepted, which leaves her without a mapping
abbrev first : Call
first = by_set (principal ann) (create_view all (internet (2 ∷ [])) 2 ∷ change_mapping ann leads ∷ [])

abbrev second : Call
second = by_set (principal ann) (create_view all (internet (3 ∷ [])) 1 ∷ create_mapping ann leads ∷ [])

abbrev third : Call
third = by_set (principal ann) (remove_mapping ann ∷ create_view all (internet (3 ∷ [])) 1 ∷ [])

abbrev together : List Call
together = start ++ first ∷ second ∷ ann_asks 1 ∷ third ∷ ann_asks 1 ∷ []

-- cal's sets: refused before it has a group; refused at its second edit, of ann's mapping; accepted, with no row of the circle
abbrev amid : List Call
amid =
    start
    ++ by_set (principal cal) (create_view base (internet []) 1 ∷ change_mapping ann train ∷ [])
    ∷ first
    ∷ cal_writes
    ++ by_set (principal cal) (create_view base (internet []) 1 ∷ create_mapping ann train ∷ [])
    ∷ second
    ∷ by_set (principal cal) (create_view base (internet []) 1 ∷ remove_mapping cal ∷ [])
    ∷ ann_asks 1
    ∷ third
    ∷ ann_asks 1
    ∷ []

amid-told : (numbers (tells amid) ≡ 0 ∷ 0 ∷ 0 ∷ 0 ∷ 2 ∷ 0 ∷ 0 ∷ 0 ∷ 18 ∷ 18 ∷ 0 ∷ 5 ∷ 0 ∷ 2 ∷ [])
    × (positions (tells amid) ≡ 0 ∷ 0 ∷ 0 ∷ 0 ∷ 1 ∷ 0 ∷ 0 ∷ 0 ∷ 2 ∷ 2 ∷ 0 ∷ 0 ∷ 0 ∷ 0 ∷ [])
unfolding tells
amid-told = (refl, refl)

-- what the shared calls are told in both
abbrev sets_told : List ℕ
sets_told = 0 ∷ 0 ∷ 0 ∷ 0 ∷ 0 ∷ 18 ∷ 5 ∷ 0 ∷ 2 ∷ []

sets-told : Shown together amid all_met all_met sets_told sets_told
unfolding tells
sets-told = record { same_calls = refl; one_meets = refl; other_meets = refl; one_told = refl; other_told = refl }

abbrev positions_told : List ℕ
positions_told = 0 ∷ 0 ∷ 0 ∷ 0 ∷ 0 ∷ 2 ∷ 0 ∷ 0 ∷ 0 ∷ []

sets-placed : (positions (picked circle (tells together)) ≡ positions_told) × (positions (picked circle (tells amid)) ≡ positions_told)
unfolding tells
sets-placed = (refl, refl)

pub sets-met : {s s' t t' : List ℕ} {xs ys : List Told} → Fresh s → Fresh t → (p : Run s xs s') (q : Run t ys t')
    → calls xs ≡ together → calls ys ≡ amid → Conditions circle p q
sets-met = conditions-shown sets-told (confined-none no_rows together refl) (confined-none no_rows amid refl)

pub together-runs : (s : List ℕ) → Octets s → RunOf s together
unfolding row_fields key_fields
together-runs s b = every-list-runs s b together (all-hand-octets together refl)

pub amid-runs : (s : List ℕ) → Octets s → RunOf s amid
unfolding row_fields key_fields
amid-runs s b = every-list-runs s b amid (all-hand-octets amid refl)

-- ---- each condition is needed, of each row of a set

-- members-inside: a member's set with a row outside is told whether that row is there
abbrev prying_set : List Call → List Call
prying_set others = start ++ others ++ by_set (principal ann) (change_mapping ann leads ∷ remove_mapping cal ∷ []) ∷ []

set-inside-counts : Shown (prying_set []) (prying_set (owner (create_mapping cal train) ∷ []))
    not_inside not_inside
    (0 ∷ 0 ∷ 0 ∷ 0 ∷ 10 ∷ []) (0 ∷ 0 ∷ 0 ∷ 0 ∷ 0 ∷ [])
unfolding tells
set-inside-counts = record { same_calls = refl; one_meets = refl; other_meets = refl; one_told = refl; other_told = refl }

-- members-grouped: a member's set maps it elsewhere
abbrev strayed_set : List Call → List Call
strayed_set others =
    start ++ by_set (principal ann) (create_view all (internet (3 ∷ [])) 1 ∷ change_mapping ann train ∷ []) ∷ others ++ ann_asks 1 ∷ []

set-grouped-counts : Shown (strayed_set []) (strayed_set train_reads)
    not_grouped not_grouped
    (0 ∷ 0 ∷ 0 ∷ 0 ∷ 0 ∷ 3 ∷ []) (0 ∷ 0 ∷ 0 ∷ 0 ∷ 0 ∷ 0 ∷ [])
unfolding tells
set-grouped-counts = record { same_calls = refl; one_meets = refl; other_meets = refl; one_told = refl; other_told = refl }

-- views-chosen: a member's set changes the group's row to name a view that is not chosen
abbrev renamed_set : List Call → List Call
renamed_set others = start ++ by_set (principal ann) (change_mapping ann leads ∷ access Change leads base all [] ∷ []) ∷ others ++ ann_asks 1 ∷ []

set-chosen-counts : Shown (renamed_set []) (renamed_set base_view) not_chosen not_chosen (0 ∷ 0 ∷ 0 ∷ 0 ∷ 0 ∷ 4 ∷ []) (0 ∷ 0 ∷ 0 ∷ 0 ∷ 0 ∷ 0 ∷ [])
unfolding tells
set-chosen-counts = record { same_calls = refl; one_meets = refl; other_meets = refl; one_told = refl; other_told = refl }

-- never-full: others' rows fill a table in one list only, and a member's set with a create there is answered 9
abbrev view_crowd : ℕ → List Call
view_crowd zero = []
view_crowd (suc n) = owner (create_view base (internet (suc n ∷ [])) 1) ∷ view_crowd n

abbrev crowded_set : ℕ → List Call
crowded_set n = view_crowd n ++ start ++ first ∷ []

set-room-counts : Shown (crowded_set 0) (crowded_set 95) all_met once_full (0 ∷ 0 ∷ 0 ∷ 0 ∷ 0 ∷ []) (0 ∷ 0 ∷ 0 ∷ 0 ∷ 9 ∷ [])
unfolding tells
set-room-counts = record { same_calls = refl; one_meets = refl; other_meets = refl; one_told = refl; other_told = refl }

-- others-refused: an accepted set of another principal with one row of the circle, in one list only
abbrev meddled_set : List Call
meddled_set = start ++ cal_writes ++ by_set (principal cal) (create_view base (internet []) 1 ∷ remove_mapping ann ∷ []) ∷ ann_asks 1 ∷ []

set-others-count : Shown (start ++ ann_asks 1 ∷ []) meddled_set all_met once_accepted (0 ∷ 0 ∷ 0 ∷ 0 ∷ 0 ∷ []) (0 ∷ 0 ∷ 0 ∷ 0 ∷ 2 ∷ [])
unfolding tells
set-others-count = record { same_calls = refl; one_meets = refl; other_meets = refl; one_told = refl; other_told = refl }
