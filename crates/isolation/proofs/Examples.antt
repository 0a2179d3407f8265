-- Lists of calls, computed: two that differ and meet every condition, and for each condition two that break it alone and are told
-- different things; lists with walks are in `WalkExamples`, lists with sets in `SetExamples`. A list is run on tables, from no rows; any run on a fresh
-- store is told the same (`run-told`). By computation.
-- The circle: the group "leads", its one member ann (security model 3), the one chosen view "all". Assumes nothing.
use mathlib.Core.Path.{◌≡◌, refl, sym, ap, ◌∙◌}
use mathlib.Core.Bool.{Bool, true, false, ◌&&◌}
use mathlib.Core.List.{List, [], ◌∷◌, ◌++◌, map}
use mathlib.Core.Option.{some}
use Prim.Native.Nat.{ℕ, zero, suc}
use lib.Dec.{eqb, ltb}
use native.Mathlib.Omega.{arith}
use borrow.Author.Tests.{eq-eqb, le-leb, ltb-true}
use lib.ListN.{length, get_or, replicate}
use Rattle.numbers.specs.Lists.{every}
use Rattle.numbers.proofs.Bools.{clash, and_left, and_right}
use Rattle.numbers.specs.Order.{same, before, begins}
use Rattle.rows.specs.declared.Table.TheVariants.{Context, Mapping, Access, View}
use Rattle.rows.specs.Fields.{sequence_fault, integer_fault, faults, fronts, span, row_bytes}
use Rattle.rows.specs.Rows.{key_fields, row_fields}
use Rattle.rows.specs.Tables.{Tables, no_rows}
use Rattle.numbers.specs.BigEndian.{Octets}
use Rattle.image_layout.specs.Layout.{header, laid_out, layout_of}
use Rattle.image_judge.specs.Faults.{table_fault, rows_fault, tables_at}
use Rattle.image.specs.Store.{room, sound_rows, is_sound, held}
use Rattle.decision_steps.specs.Request.{asked, legal_request}
use Rattle.decision_steps.specs.Decision.{bears_context, maps_principal, context_fits, candidate, chosen_access, view_for, in_view, mask_bit, agrees, matches}
use Rattle.decision_steps.specs.Decision.{chosen_view, decision, authority}
use Rattle.edit_rules.specs.declared.Operation.{Operation}
use Rattle.edit_rules.specs.declared.Operation.TheVariants.{Create, Change, Remove}
use Rattle.edit_rules.specs.Edits.{Edit, edit_of, Caller, index_of_edit, legal_edit, may_put, may_remove, row_fault, is_full, applied, legal_caller, judgement_at}
use Rattle.walk_rules.specs.Walk.{walk_on, legal_walk, next_instance, follows, may_read, least}
use Rattle.edits.specs.Calls.{owner_judged, owner_edit, principal_judged, principal_edit}
use Rattle.set_rules.specs.Handed.{AllOctets}
use Rattle.set_rules.specs.Sets.{is_set, same_key, key_legal, key_bytes, or_next, room as room_after, set_judged, principal_set}
use Rattle.calls.specs.Does.{Call, ask, owner, by, by_set, walk, Reply, reply_number, HandsOctets}
use Rattle.isolation.specs.Isolation.{Told, calls, Run, done, more, Along, Fresh, Circle, picked, stays_inside, insiders_edit, keeps_to_group}
use Rattle.isolation.specs.Isolation.{keeps_to_views, finds_room, refuses_others, Confined, WalksConfined, Conditions}
use Rattle.calls.proofs.Steps.{step, does-step}
use Rattle.isolation.specs.Runs.{AllHandOctets, RunOf}
use Rattle.isolation.proofs.Runs.{every-list-runs}
use Rattle.isolation.proofs.Alone.{trace, run-trace}

-- ---- names, as octets

abbrev pub ann : List ℕ
ann = 97 ∷ 110 ∷ 110 ∷ []

abbrev pub cal : List ℕ
cal = 99 ∷ 97 ∷ 108 ∷ []

abbrev pub leads : List ℕ
leads = 108 ∷ 101 ∷ 97 ∷ 100 ∷ 115 ∷ []

abbrev pub train : List ℕ
train = 116 ∷ 114 ∷ 97 ∷ 105 ∷ 110 ∷ []

abbrev pub all : List ℕ
all = 97 ∷ 108 ∷ 108 ∷ []

abbrev pub base : List ℕ
base = 98 ∷ 97 ∷ 115 ∷ 101 ∷ []

-- 1.3.6.1, and what is below it
abbrev pub internet : List ℕ → List ℕ
internet rest = 1 ∷ 3 ∷ 6 ∷ 1 ∷ rest

-- ---- calls

abbrev pub circle : Circle
circle = record { group = leads; member = λ model name. eqb model 3 && same name ann; chosen = λ name. same name all }

abbrev pub create_context : List ℕ → Edit
create_context name = edit_of Create Context (row_bytes (row_fields Context) (name ∷ []))

abbrev mapping : Operation → List ℕ → List ℕ → Edit
mapping o name group = edit_of o Mapping (row_bytes (row_fields Mapping) ((3 ∷ []) ∷ name ∷ group ∷ (3 ∷ []) ∷ (1 ∷ []) ∷ []))

abbrev pub create_mapping : List ℕ → List ℕ → Edit
create_mapping name group = mapping Create name group

abbrev pub change_mapping : List ℕ → List ℕ → Edit
change_mapping name group = mapping Change name group

abbrev pub remove_mapping : List ℕ → Edit
remove_mapping name = edit_of Remove Mapping (row_bytes (key_fields Mapping) ((3 ∷ []) ∷ name ∷ []))

-- of any context, any model, level 1 and above
abbrev pub access : Operation → List ℕ → List ℕ → List ℕ → List ℕ → Edit
access o group read write notify =
    edit_of o Access
    (row_bytes (row_fields Access)
    (group ∷ [] ∷ (0 ∷ []) ∷ (1 ∷ []) ∷ (2 ∷ []) ∷ read ∷ write ∷ notify ∷ (3 ∷ []) ∷ (1 ∷ []) ∷ []))

abbrev pub create_access : List ℕ → List ℕ → List ℕ → List ℕ → Edit
create_access group read write notify = access Create group read write notify

-- type 1 is included, 2 excluded
abbrev pub create_family : List ℕ → List ℕ → List ℕ → ℕ → Edit
create_family name subtree mask type =
    edit_of Create View (row_bytes (row_fields View) (name ∷ subtree ∷ mask ∷ (type ∷ []) ∷ (3 ∷ []) ∷ (1 ∷ []) ∷ []))

abbrev pub create_view : List ℕ → List ℕ → ℕ → Edit
create_view name subtree type = create_family name subtree [] type

abbrev pub principal : List ℕ → Caller
principal name = record { security_model = 3; security_name = name; security_level = 2 }

-- ann asks, in the empty context: viewType 1 is read, 2 write, 3 notify
abbrev pub ann_asks : ℕ → Call
ann_asks view_type = ask (asked 3 ann 2 view_type [] (internet (2 ∷ 1 ∷ [])))

-- ---- what a list is told, from no rows, and whether it meets the conditions

unfoldable pub tells : List Call → List Told
unfolding trace step owner_edit owner_judged principal_edit principal_judged judgement_at legal_edit legal_caller row_fault is_full applied may_put may_remove
    index_of_edit key_fields row_fields faults sequence_fault integer_fault legal_request decision bears_context maps_principal context_fits candidate
    chosen_access view_for in_view mask_bit agrees matches chosen_view same before begins walk_on legal_walk authority next_instance follows may_read least
    principal_set set_judged is_set same_key key_legal key_bytes fronts span or_next room_after
tells cs = trace no_rows cs

abbrev pub numbers : List Told → List ℕ
numbers ts = map (λ (t : Told). reply_number t.1) ts

abbrev pub no_walk : Call → Bool
no_walk (ask q) = true
no_walk (owner e) = true
no_walk (by c e) = true
no_walk (by_set c es) = true
no_walk (walk c identifier) = false

-- members-inside, members-grouped, views-chosen, never-full, others-refused; and that nobody walks, so that walks-confined asks nothing
abbrev pub meets : List Told → List Bool
meets ts =
    every (λ (t : Told). stays_inside circle t.0) ts
    ∷ every (λ (t : Told). insiders_edit circle (keeps_to_group circle) t.0) ts
    ∷ every (λ (t : Told). insiders_edit circle (keeps_to_views circle) t.0) ts
    ∷ every (λ (t : Told). insiders_edit circle (finds_room t.1) t.0) ts
    ∷ every (λ (t : Told). refuses_others circle t.0 t.1) ts
    ∷ every (λ (t : Told). no_walk t.0) ts
    ∷ []

abbrev pub five_met : Bool → List Bool
five_met still = true ∷ true ∷ true ∷ true ∷ true ∷ still ∷ []

abbrev pub all_met : List Bool
all_met = five_met true

-- all but one
abbrev pub not_inside : List Bool
not_inside = false ∷ true ∷ true ∷ true ∷ true ∷ true ∷ []

abbrev pub not_grouped : List Bool
not_grouped = true ∷ false ∷ true ∷ true ∷ true ∷ true ∷ []

abbrev pub not_chosen : List Bool
not_chosen = true ∷ true ∷ false ∷ true ∷ true ∷ true ∷ []

abbrev pub once_full : List Bool
once_full = true ∷ true ∷ true ∷ false ∷ true ∷ true ∷ []

abbrev pub once_accepted : List Bool
once_accepted = true ∷ true ∷ true ∷ true ∷ false ∷ true ∷ []

-- two lists with the same shared calls, which conditions each of them meets, and what the shared calls are told in each
pub record Shown (xs ys : List Call) (x y : List Bool) (a b : List ℕ) : Type 0 where
  pub same_calls : calls (picked circle (tells xs)) ≡ calls (picked circle (tells ys))
  pub one_meets : meets (tells xs) ≡ x
  pub other_meets : meets (tells ys) ≡ y
  pub one_told : numbers (picked circle (tells xs)) ≡ a
  pub other_told : numbers (picked circle (tells ys)) ≡ b

-- walks-confined along a list, by the tables that each call finds
abbrev pub ConfinedAll : Tables → List Call → Type 0
ConfinedAll t [] = Unit {0}
ConfinedAll t (c ∷ cs) = Confined circle t c × ConfinedAll (step t c).1 cs

pub confined-one : (t : Tables) (c : Call) → no_walk c ≡ true → Confined circle t c
confined-one t (ask q) h = tt
confined-one t (owner e) h = tt
confined-one t (by c e) h = tt
confined-one t (by_set c es) h = tt
confined-one t (walk c identifier) h = clash h refl

pub confined-none : (t : Tables) (cs : List Call) → every no_walk cs ≡ true → ConfinedAll t cs
confined-none t [] h = tt
confined-none t (c ∷ cs) h = (confined-one t c (and_left _ _ h), confined-none (step t c).1 cs (and_right (no_walk c) _ h))

-- the owner sets up the circle
abbrev pub start : List Call
start =
    owner (create_context [])
    ∷ owner (create_mapping ann leads)
    ∷ owner (create_access leads all all [])
    ∷ owner (create_view all (internet []) 1)
    ∷ []

-- ---- two lists that differ and meet every condition

abbrev quiet : List Call
quiet =
    start
    ++ by (principal ann) (create_view all (internet (2 ∷ [])) 2)
    ∷ ann_asks 1
    ∷ by (principal ann) (change_mapping ann leads)
    ∷ by (principal ann) (create_mapping ann leads)
    ∷ by (principal ann) (remove_mapping ann)
    ∷ by (principal ann) (remove_mapping ann)
    ∷ []

-- cal tries to map ann elsewhere, to create a context, and edits a view of its own
abbrev busy : List Call
busy =
    by (principal cal) (create_mapping ann train)
    ∷ owner (create_context [])
    ∷ owner (create_mapping cal train)
    ∷ owner (create_mapping ann leads)
    ∷ by (principal cal) (create_context base)
    ∷ owner (create_access leads all all [])
    ∷ by (principal cal) (change_mapping ann train)
    ∷ owner (create_view all (internet []) 1)
    ∷ owner (create_access train [] all [])
    ∷ by (principal cal) (create_view base (internet []) 1)
    ∷ by (principal ann) (create_view all (internet (2 ∷ [])) 2)
    ∷ ann_asks 1
    ∷ by (principal ann) (change_mapping ann leads)
    ∷ by (principal ann) (create_mapping ann leads)
    ∷ by (principal ann) (remove_mapping ann)
    ∷ by (principal cal) (remove_mapping cal)
    ∷ by (principal ann) (remove_mapping ann)
    ∷ []

busy-told : numbers (tells busy) ≡ 1 ∷ 0 ∷ 0 ∷ 0 ∷ 12 ∷ 0 ∷ 3 ∷ 0 ∷ 0 ∷ 0 ∷ 0 ∷ 5 ∷ 0 ∷ 18 ∷ 0 ∷ 0 ∷ 2 ∷ []
unfolding tells
busy-told = refl

-- what the shared calls are told in both
abbrev told : List ℕ
told = 0 ∷ 0 ∷ 0 ∷ 0 ∷ 0 ∷ 5 ∷ 0 ∷ 18 ∷ 0 ∷ 2 ∷ []

both_told : Shown quiet busy all_met all_met told told
unfolding tells
both_told = record { same_calls = refl; one_meets = refl; other_meets = refl; one_told = refl; other_told = refl }

-- ---- each condition is needed

-- the owner's edits of the circle are shared calls: where they differ, ann is told 0 in the one list and 2 in the other
abbrev undone : List Call
undone = start ++ owner (remove_mapping ann) ∷ ann_asks 1 ∷ []

owner-counts : (numbers (tells (start ++ ann_asks 1 ∷ [])) ≡ 0 ∷ 0 ∷ 0 ∷ 0 ∷ 0 ∷ []) × (numbers (tells undone) ≡ 0 ∷ 0 ∷ 0 ∷ 0 ∷ 0 ∷ 2 ∷ [])
    × (meets (tells undone) ≡ all_met)
unfolding tells
owner-counts = (refl, refl, refl)

-- members-inside: a member's edit outside is told whether the row is there
abbrev prying : List Call → List Call
prying others = start ++ others ++ by (principal ann) (remove_mapping cal) ∷ []

inside-counts : Shown (prying []) (prying (owner (create_mapping cal train) ∷ []))
    not_inside not_inside
    (0 ∷ 0 ∷ 0 ∷ 0 ∷ 10 ∷ []) (0 ∷ 0 ∷ 0 ∷ 0 ∷ 0 ∷ [])
unfolding tells
inside-counts = record { same_calls = refl; one_meets = refl; other_meets = refl; one_told = refl; other_told = refl }

-- members-grouped: a member of another group is told what that group's access rows say, whether its mapping was changed or created so
abbrev strayed : List Call → List Call
strayed others = start ++ owner (change_mapping ann train) ∷ others ++ ann_asks 1 ∷ []

abbrev pub train_reads : List Call
train_reads = owner (create_access train all [] []) ∷ []

change-grouped-counts : Shown (strayed []) (strayed train_reads)
    not_grouped not_grouped
    (0 ∷ 0 ∷ 0 ∷ 0 ∷ 0 ∷ 3 ∷ []) (0 ∷ 0 ∷ 0 ∷ 0 ∷ 0 ∷ 0 ∷ [])
unfolding tells
change-grouped-counts = record { same_calls = refl; one_meets = refl; other_meets = refl; one_told = refl; other_told = refl }

abbrev elsewhere : List Call → List Call
elsewhere others =
    owner (create_context [])
    ∷ owner (create_mapping ann train)
    ∷ owner (create_view all (internet []) 1)
    ∷ (others ++ ann_asks 1 ∷ [])

create-grouped-counts : Shown (elsewhere []) (elsewhere train_reads) not_grouped not_grouped (0 ∷ 0 ∷ 0 ∷ 3 ∷ []) (0 ∷ 0 ∷ 0 ∷ 0 ∷ [])
unfolding tells
create-grouped-counts = record { same_calls = refl; one_meets = refl; other_meets = refl; one_told = refl; other_told = refl }

-- views-chosen: a view that is not chosen is anybody's, whether read, write or notify names it
abbrev unchosen : List ℕ → List ℕ → List ℕ → ℕ → List Call → List Call
unchosen read write notify view_type others =
    owner (create_context [])
    ∷ owner (create_mapping ann leads)
    ∷ owner (create_access leads read write notify)
    ∷ (others ++ ann_asks view_type ∷ [])

abbrev pub base_view : List Call
base_view = owner (create_view base (internet []) 1) ∷ []

read-counts : Shown (unchosen base [] [] 1 []) (unchosen base [] [] 1 base_view)
    not_chosen not_chosen (0 ∷ 0 ∷ 0 ∷ 4 ∷ []) (0 ∷ 0 ∷ 0 ∷ 0 ∷ [])
unfolding tells
read-counts = record { same_calls = refl; one_meets = refl; other_meets = refl; one_told = refl; other_told = refl }

write-counts : Shown (unchosen [] base [] 2 []) (unchosen [] base [] 2 base_view)
    not_chosen not_chosen (0 ∷ 0 ∷ 0 ∷ 4 ∷ []) (0 ∷ 0 ∷ 0 ∷ 0 ∷ [])
unfolding tells
write-counts = record { same_calls = refl; one_meets = refl; other_meets = refl; one_told = refl; other_told = refl }

notify-counts : Shown (unchosen [] [] base 3 []) (unchosen [] [] base 3 base_view)
    not_chosen not_chosen (0 ∷ 0 ∷ 0 ∷ 4 ∷ []) (0 ∷ 0 ∷ 0 ∷ 0 ∷ [])
unfolding tells
notify-counts = record { same_calls = refl; one_meets = refl; other_meets = refl; one_told = refl; other_told = refl }

-- also where the group's row is changed to name it
abbrev renamed : List Call → List Call
renamed others = start ++ owner (access Change leads base all []) ∷ others ++ ann_asks 1 ∷ []

change-chosen-counts : Shown (renamed []) (renamed base_view) not_chosen not_chosen (0 ∷ 0 ∷ 0 ∷ 0 ∷ 0 ∷ 4 ∷ []) (0 ∷ 0 ∷ 0 ∷ 0 ∷ 0 ∷ 0 ∷ [])
unfolding tells
change-chosen-counts = record { same_calls = refl; one_meets = refl; other_meets = refl; one_told = refl; other_told = refl }

-- never-full: others' rows fill a table, in one list only
abbrev crowd : ℕ → List Call
crowd zero = []
crowd (suc n) = owner (create_mapping (suc n ∷ []) train) ∷ crowd n

room-counts : Shown start (crowd 64 ++ start) all_met once_full (0 ∷ 0 ∷ 0 ∷ 0 ∷ []) (0 ∷ 9 ∷ 0 ∷ 0 ∷ [])
unfolding tells
room-counts = record { same_calls = refl; one_meets = refl; other_meets = refl; one_told = refl; other_told = refl }

-- a change wants no room
full-changed : (numbers (picked circle (tells (start ++ crowd 63 ++ owner (change_mapping ann leads) ∷ owner (create_mapping ann leads) ∷ [])))
    ≡ 0 ∷ 0 ∷ 0 ∷ 0 ∷ 0 ∷ 18 ∷ [])
unfolding tells
full-changed = refl

-- others-refused: an accepted edit of another principal, in one list only
abbrev meddled : List Call
meddled =
    start
    ++ owner (create_mapping cal train)
    ∷ owner (create_access train [] all [])
    ∷ by (principal cal) (remove_mapping ann)
    ∷ ann_asks 1
    ∷ []

others-count : Shown (start ++ ann_asks 1 ∷ []) meddled all_met once_accepted (0 ∷ 0 ∷ 0 ∷ 0 ∷ 0 ∷ []) (0 ∷ 0 ∷ 0 ∷ 0 ∷ 2 ∷ [])
unfolding tells
others-count = record { same_calls = refl; one_meets = refl; other_meets = refl; one_told = refl; other_told = refl }

-- ---- on stores

-- what a run on a fresh store is told
run-told : {s s' : List ℕ} {ts : List Told} → Fresh s → Run s ts s' → (cs : List Call) → calls ts ≡ cs → ts ≡ tells cs
unfolding tells
run-told f run cs e = sym (run-trace run no_rows f).0 ∙ ap (trace no_rows) e

-- what each call of a list passes holds along its run
along-every : (test : Call → Reply → Bool) {s s' : List ℕ} {ts : List Told} (run : Run s ts s') → every (λ (t : Told). test t.0 t.1) ts ≡ true
    → Along (λ found c r. test c r ≡ true) run
along-every test done h = tt
along-every test (more {c = c} {r = r} b d run) h = (and_left _ _ h, along-every test run (and_right (test c r) _ h))

-- walks that are confined by the tables are so along the run
along-confined : {s s' : List ℕ} {ts : List Told} (run : Run s ts s') (t : Tables) → held s ≡ some t → ConfinedAll t (calls ts) → WalksConfined circle run
along-confined done t e k = tt
along-confined (more {c = c} b d run) t e k =
    (λ u h. let q : some u ≡ some t = sym h ∙ e in let z : u ≡ t = cc in rw z k.0, along-confined run (step t c).1 (does-step t d e).1 k.1)

-- so that every two runs of such lists meet the conditions
pub conditions-shown : {cs ds : List Call} {still : Bool} {a b : List ℕ} → Shown cs ds (five_met still) (five_met still) a b
    → ConfinedAll no_rows cs → ConfinedAll no_rows ds
    → {s s' t t' : List ℕ} {xs ys : List Told} → Fresh s → Fresh t → (p : Run s xs s') (q : Run t ys t') → calls xs ≡ cs → calls ys ≡ ds → Conditions circle p q
conditions-shown {cs} {ds} {still} h k l {xs = xs} {ys = ys} f g p q d e =
    let x : tells cs ≡ xs = sym (run-told f p cs d) in
    let y : tells ds ≡ ys = sym (run-told g q ds e) in
    let m : (i : ℕ) → get_or (meets xs) i false ≡ get_or (five_met still) i false = λ i. ap (λ l. get_or l i false) (rw x at h.one_meets) in
    let n : (i : ℕ) → get_or (meets ys) i false ≡ get_or (five_met still) i false = λ i. ap (λ l. get_or l i false) (rw y at h.other_meets) in
    record {
      same_calls = rw (x, y) at h.same_calls;
      members_inside = (along-every _ p (m 0), along-every _ q (n 0));
      members_grouped = (along-every _ p (m 1), along-every _ q (n 1));
      views_chosen = (along-every _ p (m 2), along-every _ q (n 2));
      never_full = (along-every _ p (m 3), along-every _ q (n 3));
      others_refused = (along-every _ p (m 4), along-every _ q (n 4));
      walks_confined = (along-confined p no_rows f (rw d k), along-confined q no_rows g (rw e l));
    }

pub conditions-met : {s s' t t' : List ℕ} {xs ys : List Told} → Fresh s → Fresh t → (p : Run s xs s') (q : Run t ys t')
    → calls xs ≡ quiet → calls ys ≡ busy → Conditions circle p q
conditions-met = conditions-shown both_told (confined-none no_rows quiet refl) (confined-none no_rows busy refl)

-- and there are such runs, on every two stores
octets-every : (v : List ℕ) → every (λ x. ltb x 256) v ≡ true → Octets v
octets-every [] h i = omega arith
octets-every (x ∷ v) h zero = ltb-true x 256 (and_left _ _ h)
octets-every (x ∷ v) h (suc i) = octets-every v (and_right (ltb x 256) _ h) i

abbrev bytes_only : Edit → Bool
bytes_only e = every (λ x. ltb x 256) e.bytes

octets-all : (es : List Edit) → every bytes_only es ≡ true → AllOctets es
octets-all [] h = tt
octets-all (e ∷ es) h = (octets-every e.bytes (and_left _ _ h), octets-all es (and_right (bytes_only e) _ h))

abbrev hands_bytes : Call → Bool
hands_bytes (ask q) = true
hands_bytes (owner e) = bytes_only e
hands_bytes (by c e) = bytes_only e
hands_bytes (by_set c es) = every bytes_only es
hands_bytes (walk c identifier) = true

hands-octets : (c : Call) → hands_bytes c ≡ true → HandsOctets c
hands-octets (ask q) h = tt
hands-octets (owner e) h = octets-every e.bytes h
hands-octets (by c e) h = octets-every e.bytes h
hands-octets (by_set c es) h = octets-all es h
hands-octets (walk c identifier) h = tt

pub all-hand-octets : (cs : List Call) → every hands_bytes cs ≡ true → AllHandOctets cs
all-hand-octets [] h = tt
all-hand-octets (c ∷ cs) h = (hands-octets c (and_left _ _ h), all-hand-octets cs (and_right (hands_bytes c) _ h))

pub quiet-runs : (s : List ℕ) → Octets s → RunOf s quiet
unfolding row_fields key_fields
quiet-runs s b = every-list-runs s b quiet (all-hand-octets quiet refl)

pub busy-runs : (s : List ℕ) → Octets s → RunOf s busy
unfolding row_fields key_fields
busy-runs s b = every-list-runs s b busy (all-hand-octets busy refl)

-- a header of zeros with anything behind it, as far as the room goes, is a fresh store
pub zeros-fresh : (rest : List ℕ) → length (replicate header 0 ++ rest) ≡ room → Fresh (replicate header 0 ++ rest)
unfolding held is_sound sound_rows rows_fault laid_out tables_at layout_of table_fault
zeros-fresh rest l = rw (eq-eqb (length (replicate header 0 ++ rest)) room l, le-leb header (length (replicate header 0 ++ rest)) (omega arith))
