-- `edit_sets::layout_of` meets its contract: the counts are those of the store, and each extent that is made from them is the layout's. A sound store is long
-- enough for the counts, its tables lie within it, and its rows are few. Assumes nothing.
use mathlib.Core.Path.{◌≡◌, ◌∙◌}
use mathlib.Core.List.{List}
use Prim.Native.Nat.{ℕ, ◌+◌, ◌*◌, ◌≤◌}
use native.Mathlib.Omega.{arith}
use lib.ListN.{length}
use Rattle.rows.specs.declared.Table.{Table}
use Rattle.rows.specs.declared.Table.TheVariants.{Context, Mapping, Access, View}
use Rattle.image_layout.specs.declared.Extent.{Extent}
use Rattle.image_layout.specs.Layout.{Inside, extent, following, header, laid_out, layout_of, extent_of, count, most_rows, end_of}
use Rattle.image_layout.proofs.Layouts.{laid-lengths, laid-tables}
use Rattle.image.proofs.Surveys.{store-tests}
use Rattle.table_update.proofs.Stores.{sound-few}
use Rattle.edit_rows.proofs.Stores.{table-inside}
use Rattle.edit_sets.proofs.layout_of.Goals as goal

-- the store is long enough for its counts

pub pair_at-c-requires : goal.pair_at-c-requires
pair_at-c-requires c =
    let size : 8 ≤ length c.args.w.now = omega (arith, (store-tests c.args.w.now c.requires).0) in
    omega (arith, size)

pub pair_at-m-requires : goal.pair_at-m-requires
pair_at-m-requires c =
    let size : 8 ≤ length c.args.w.now = omega (arith, (store-tests c.args.w.now c.requires).0) in
    omega (arith, size)

pub pair_at-a-requires : goal.pair_at-a-requires
pair_at-a-requires c =
    let size : 8 ≤ length c.args.w.now = omega (arith, (store-tests c.args.w.now c.requires).0) in
    omega (arith, size)

pub pair_at-v-requires : goal.pair_at-v-requires
pair_at-v-requires c =
    let size : 8 ≤ length c.args.w.now = omega (arith, (store-tests c.args.w.now c.requires).0) in
    size

-- ---- each extent is the layout's

next_is : (w : List ℕ) {x y r : Extent} {end n m : ℕ} → x ≡ y → end ≡ end_of w x → n ≡ m → r ≡ extent (x.lengths + 2 * x.count) end n → r ≡ following w y m
next_is w p q e s = s ∙ rw (q, e, p)

first-same : {c c' m m' a a' v v' : ℕ} → c ≡ c' → m ≡ m' → a ≡ a' → v ≡ v'
    → extent 8 (8 + 2 * (c + m + a + v)) c ≡ extent 8 (8 + 2 * (c' + m' + a' + v')) c'
first-same p q r s = rw (p, q, r, s)

-- it lies within the store, and its lengths among those of few rows

pub end_of-requires : goal.end_of-requires
unfolding layout_of laid_out
end_of-requires c =
    let bytes : List ℕ = c.args.w.now in
    let first : Extent = extent 8 (8 + 2 * (c.pair_at-c.result + c.pair_at-m.result + c.pair_at-a.result + c.pair_at-v.result)) c.pair_at-c.result in
    let first-is : first ≡ extent_of Context (layout_of (bytes)) = first-same c.pair_at-c.ensures.number c.pair_at-m.ensures.number c.pair_at-a.ensures.number c.pair_at-v.ensures.number in
    let inside : (t : Table) (x : Extent) → x ≡ extent_of t (layout_of (bytes)) → Inside (bytes) x = λ t x e. rw e (table-inside t bytes c.requires) in
    inside Context _ first-is

pub following-mappings-requires : goal.following-mappings-requires
unfolding layout_of laid_out
following-mappings-requires c =
    let bytes : List ℕ = c.args.w.now in
    let first : Extent = extent 8 (8 + 2 * (c.pair_at-c.result + c.pair_at-m.result + c.pair_at-a.result + c.pair_at-v.result)) c.pair_at-c.result in
    let first-is : first ≡ extent_of Context (layout_of (bytes)) = first-same c.pair_at-c.ensures.number c.pair_at-m.ensures.number c.pair_at-a.ensures.number c.pair_at-v.ensures.number in
    let lengths-end : (t : Table) (x : Extent) → x ≡ extent_of t (layout_of (bytes)) → x.lengths + 2 * x.count ≤ header + 2 * most_rows = λ t x e. let w = bytes in rw e (laid-lengths w (count 0 w) (count 1 w) (count 2 w) (count 3 w) (sound-few w c.requires) t) in
    lengths-end Context _ first-is

pub end_of-requires-2 : goal.end_of-requires-2
unfolding layout_of laid_out
end_of-requires-2 c =
    let bytes : List ℕ = c.args.w.now in
    let first : Extent = extent 8 (8 + 2 * (c.pair_at-c.result + c.pair_at-m.result + c.pair_at-a.result + c.pair_at-v.result)) c.pair_at-c.result in
    let first-is : first ≡ extent_of Context (layout_of (bytes)) = first-same c.pair_at-c.ensures.number c.pair_at-m.ensures.number c.pair_at-a.ensures.number c.pair_at-v.ensures.number in
    let second_is : c.following-mappings.result ≡ extent_of Mapping (layout_of (bytes)) = next_is bytes first-is c.end_of.ensures c.pair_at-m.ensures.number c.following-mappings.ensures in
    let inside : (t : Table) (x : Extent) → x ≡ extent_of t (layout_of (bytes)) → Inside (bytes) x = λ t x e. rw e (table-inside t bytes c.requires) in
    inside Mapping _ second_is

pub following-accesses-requires : goal.following-accesses-requires
unfolding layout_of laid_out
following-accesses-requires c =
    let bytes : List ℕ = c.args.w.now in
    let first : Extent = extent 8 (8 + 2 * (c.pair_at-c.result + c.pair_at-m.result + c.pair_at-a.result + c.pair_at-v.result)) c.pair_at-c.result in
    let first-is : first ≡ extent_of Context (layout_of (bytes)) = first-same c.pair_at-c.ensures.number c.pair_at-m.ensures.number c.pair_at-a.ensures.number c.pair_at-v.ensures.number in
    let second_is : c.following-mappings.result ≡ extent_of Mapping (layout_of (bytes)) = next_is bytes first-is c.end_of.ensures c.pair_at-m.ensures.number c.following-mappings.ensures in
    let lengths-end : (t : Table) (x : Extent) → x ≡ extent_of t (layout_of (bytes)) → x.lengths + 2 * x.count ≤ header + 2 * most_rows = λ t x e. let w = bytes in rw e (laid-lengths w (count 0 w) (count 1 w) (count 2 w) (count 3 w) (sound-few w c.requires) t) in
    lengths-end Mapping _ second_is

pub end_of-requires-3 : goal.end_of-requires-3
unfolding layout_of laid_out
end_of-requires-3 c =
    let bytes : List ℕ = c.args.w.now in
    let first : Extent = extent 8 (8 + 2 * (c.pair_at-c.result + c.pair_at-m.result + c.pair_at-a.result + c.pair_at-v.result)) c.pair_at-c.result in
    let first-is : first ≡ extent_of Context (layout_of (bytes)) = first-same c.pair_at-c.ensures.number c.pair_at-m.ensures.number c.pair_at-a.ensures.number c.pair_at-v.ensures.number in
    let second_is : c.following-mappings.result ≡ extent_of Mapping (layout_of (bytes)) = next_is bytes first-is c.end_of.ensures c.pair_at-m.ensures.number c.following-mappings.ensures in
    let third-is : c.following-accesses.result ≡ extent_of Access (layout_of (bytes)) = next_is bytes second_is c.end_of-2.ensures c.pair_at-a.ensures.number c.following-accesses.ensures in
    let inside : (t : Table) (x : Extent) → x ≡ extent_of t (layout_of (bytes)) → Inside (bytes) x = λ t x e. rw e (table-inside t bytes c.requires) in
    inside Access _ third-is

pub following-views-requires : goal.following-views-requires
unfolding layout_of laid_out
following-views-requires c =
    let bytes : List ℕ = c.args.w.now in
    let first : Extent = extent 8 (8 + 2 * (c.pair_at-c.result + c.pair_at-m.result + c.pair_at-a.result + c.pair_at-v.result)) c.pair_at-c.result in
    let first-is : first ≡ extent_of Context (layout_of (bytes)) = first-same c.pair_at-c.ensures.number c.pair_at-m.ensures.number c.pair_at-a.ensures.number c.pair_at-v.ensures.number in
    let second_is : c.following-mappings.result ≡ extent_of Mapping (layout_of (bytes)) = next_is bytes first-is c.end_of.ensures c.pair_at-m.ensures.number c.following-mappings.ensures in
    let third-is : c.following-accesses.result ≡ extent_of Access (layout_of (bytes)) = next_is bytes second_is c.end_of-2.ensures c.pair_at-a.ensures.number c.following-accesses.ensures in
    let lengths-end : (t : Table) (x : Extent) → x ≡ extent_of t (layout_of (bytes)) → x.lengths + 2 * x.count ≤ header + 2 * most_rows = λ t x e. let w = bytes in rw e (laid-lengths w (count 0 w) (count 1 w) (count 2 w) (count 3 w) (sound-few w c.requires) t) in
    lengths-end Access _ third-is

pub returns : goal.returns
unfolding layout_of laid_out
returns c =
    let bytes : List ℕ = c.args.w.now in
    let first : Extent = extent 8 (8 + 2 * (c.pair_at-c.result + c.pair_at-m.result + c.pair_at-a.result + c.pair_at-v.result)) c.pair_at-c.result in
    let first-is : first ≡ extent_of Context (layout_of (bytes)) = first-same c.pair_at-c.ensures.number c.pair_at-m.ensures.number c.pair_at-a.ensures.number c.pair_at-v.ensures.number in
    let second_is : c.following-mappings.result ≡ extent_of Mapping (layout_of (bytes)) = next_is bytes first-is c.end_of.ensures c.pair_at-m.ensures.number c.following-mappings.ensures in
    let third-is : c.following-accesses.result ≡ extent_of Access (layout_of (bytes)) = next_is bytes second_is c.end_of-2.ensures c.pair_at-a.ensures.number c.following-accesses.ensures in
    let fourth-is : c.following-views.result ≡ extent_of View (layout_of (bytes)) = next_is bytes third-is c.end_of-3.ensures c.pair_at-v.ensures.number c.following-views.ensures in
    laid-tables (layout_of bytes) first-is second_is third-is fourth-is
