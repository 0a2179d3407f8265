-- `edit_rows::edit` meets its contract. The key at the front of the bytes is sought in its table, and what is judged at its place, and then
-- whether there is room, is the edit's answer. Where that is a refusal the store stays; where it is accepted what `exchange` requires is met, and the
-- rows that it leaves are those of the edit (`Stores`). Assumes nothing.
use mathlib.Core.Path.{◌≡◌, sym, ap, ◌∙◌}
use mathlib.Core.Bool.{Bool}
use mathlib.Core.Option.{Option}
use native.Mathlib.Omega.{arith}
use lib.ListN.{length}
use Rattle.std.specs.Prelude.{Ok}
use Rattle.answers.specs.declared.Fault.{Fault}
use Rattle.answers.proofs.Results.{refusal, handed_on}
use Rattle.rows.specs.Rows.{limit}
use Rattle.numbers.specs.BigEndian.{Octets}
use Rattle.image_layout.specs.Layout.{layout_of, extent_of}
use Rattle.table_update.specs.Exchange.{Sought}
use Rattle.table_update.proofs.Stores.{row_key}
use Rattle.edit_rules.specs.Edits.{shape_of}
use Rattle.edit_rules.specs.Storage.{storage_in, storage_at, place_fault, placed, full_at}
use Rattle.edit_rules.proofs.Outcomes.{faulty-done, done-refused}
use Rattle.edit_rows.specs.Promise.{length_in}
use Rattle.edit_rows.proofs.Stores.{inside-laid, rising-laid, views-laid, sought-laid, key-within}
use Rattle.edit_rows.proofs.Stores.{placed-judged, placed-full, placed-room}
use Rattle.edit_rows.proofs.Stores.{taken-within, storage-known, place-refused, place-asked, place-done}
use Rattle.edit_rows.proofs.edit.Goals as goal

pub slice_bounds-seek-end : goal.slice_bounds-seek-end
slice_bounds-seek-end c = omega (arith, key-within (shape_of c.args.o) c.args.t c.args.bytes.now c.requires.handed.whole, c.requires.handed.key_is)

pub seek-p-requires : goal.seek-p-requires
seek-p-requires c =
    let store_bytes : Octets c.args.w.now = λ i. omega (arith, c.slice_known-1.given i) in
    let handed-bytes : Octets c.args.bytes.now = λ i. omega (arith, c.type_inv.bytes i) in
    let a = c.args in record {
      inside = inside-laid c.requires.store.sound c.requires.store.laid a.t c.extent_of-x.ensures;
      rising = rising-laid (shape_of a.o) a.t a.w.now a.bytes.now c.requires.store.sound store_bytes handed-bytes c.requires.handed.whole c.requires.store.laid
          c.extent_of-x.ensures c.requires.handed.key_is;
    }

pub judge_place-requires : goal.judge_place-requires
judge_place-requires c =
    let store_bytes : Octets c.args.w.now = λ i. omega (arith, c.slice_known-1.given i) in
    let handed-bytes : Octets c.args.bytes.now = λ i. omega (arith, c.type_inv.bytes i) in
    let sought : let a = c.args in Sought a.w.now (extent_of a.t (layout_of a.w.now)) (row_key a.t a.bytes.now) c.seek-p.result = sought-laid c.args.t c.args.w.now c.args.bytes.now c.requires.store.laid c.extent_of-x.ensures c.requires.handed.key_is c.seek-p.ensures in
    storage-known _ _ c.requires.store.sound store_bytes c.args.strict c.requires.store.free _ handed-bytes sought c.args.o c.requires.handed.whole

pub returns-in_err-judge_place : goal.returns-in_err-judge_place
returns-in_err-judge_place c =
    let store_bytes : Octets c.args.w.now = λ i. omega (arith, c.slice_known-1.given i) in
    let handed-bytes : Octets c.args.bytes.now = λ i. omega (arith, c.type_inv.bytes i) in
    let sought : let a = c.args in Sought a.w.now (extent_of a.t (layout_of a.w.now)) (row_key a.t a.bytes.now) c.seek-p.result = sought-laid c.args.t c.args.w.now c.args.bytes.now c.requires.store.laid c.extent_of-x.ensures c.requires.handed.key_is c.seek-p.ensures in
    let fault_in : Option Fault = let a = c.args in let p = c.seek-p.result in place_fault a.strict a.o p.present (storage_at a.w.now p) (storage_in a.bytes.now) in
    let full_in : Bool = let a = c.args in full_at a.o (limit a.t) (extent_of a.t (layout_of a.w.now)).count in
    let same = handed_on c.in_err-judge_place.was c.from_residual.ensures ∙ c.judge_place.ensures in
    let refused : c.from_residual.result ≡ Ok tt → ⊥ = λ q. done-refused (sym q ∙ refusal c.from_residual.ensures) in
    place-refused _ _ c.requires.store.sound store_bytes c.args.strict c.requires.store.free _ handed-bytes sought c.args.o
    c.requires.handed.whole _ (placed-judged fault_in full_in same refused) refused

pub returns-then-is_full : goal.returns-then-is_full
returns-then-is_full c =
    let store_bytes : Octets c.args.w.now = λ i. omega (arith, c.slice_known-1.given i) in
    let handed-bytes : Octets c.args.bytes.now = λ i. omega (arith, c.type_inv.bytes i) in
    let sought : let a = c.args in Sought a.w.now (extent_of a.t (layout_of a.w.now)) (row_key a.t a.bytes.now) c.seek-p.result = sought-laid c.args.t c.args.w.now c.args.bytes.now c.requires.store.laid c.extent_of-x.ensures c.requires.handed.key_is c.seek-p.ensures in
    let fault_in : Option Fault = let a = c.args in let p = c.seek-p.result in place_fault a.strict a.o p.present (storage_at a.w.now p) (storage_in a.bytes.now) in
    let full_in : Bool = let a = c.args in full_at a.o (limit a.t) (extent_of a.t (layout_of a.w.now)).count in
    let full_is : c.is_full.result ≡ full_in = let a = c.args in c.is_full.ensures ∙ ap (λ y. full_at a.o (limit a.t) y.count) (c.extent_of-x.ensures ∙ ap (extent_of a.t) c.requires.store.laid) in
    place-refused _ _ c.requires.store.sound store_bytes c.args.strict c.requires.store.free _ handed-bytes sought c.args.o
    c.requires.handed.whole _
    (placed-full fault_in (sym c.judge_place.ensures ∙ c.in_ok-judge_place.was) (sym full_is ∙ c.if-is_full.true)) faulty-done

pub end_of-end-requires : goal.end_of-end-requires
end_of-end-requires c = views-laid c.requires.store.sound c.requires.store.laid

pub slice_bounds-exchange-end : goal.slice_bounds-exchange-end
slice_bounds-exchange-end c =
    let length_is : let a = c.args in c.length_in-n.result ≡ length_in (shape_of a.o) (length a.bytes.now) = let a = c.args in c.length_in-n.ensures ∙ ap (λ y. length_in y (length a.bytes.now)) c.shape_of.ensures in
    taken-within (shape_of c.args.o) c.args.bytes.now length_is

pub exchange-requires : goal.exchange-requires
exchange-requires c =
    let store_bytes : Octets c.args.w.now = λ i. omega (arith, c.slice_known-1.given i) in
    let handed-bytes : Octets c.args.bytes.now = λ i. omega (arith, c.type_inv.bytes i) in
    let sought : let a = c.args in Sought a.w.now (extent_of a.t (layout_of a.w.now)) (row_key a.t a.bytes.now) c.seek-p.result = sought-laid c.args.t c.args.w.now c.args.bytes.now c.requires.store.laid c.extent_of-x.ensures c.requires.handed.key_is c.seek-p.ensures in
    let fault_in : Option Fault = let a = c.args in let p = c.seek-p.result in place_fault a.strict a.o p.present (storage_at a.w.now p) (storage_in a.bytes.now) in
    let full_in : Bool = let a = c.args in full_at a.o (limit a.t) (extent_of a.t (layout_of a.w.now)).count in
    let full_is : c.is_full.result ≡ full_in = let a = c.args in c.is_full.ensures ∙ ap (λ y. full_at a.o (limit a.t) y.count) (c.extent_of-x.ensures ∙ ap (extent_of a.t) c.requires.store.laid) in
    let done-is : placed (fault_in) (full_in) ≡ (Ok tt) = placed-room fault_in (sym c.judge_place.ensures ∙ c.in_ok-judge_place.was) (sym full_is ∙ c.if-is_full.false) in
    let length_is : let a = c.args in c.length_in-n.result ≡ length_in (shape_of a.o) (length a.bytes.now) = let a = c.args in c.length_in-n.ensures ∙ ap (λ y. length_in y (length a.bytes.now)) c.shape_of.ensures in
    let asked = place-asked _ _ c.requires.store.sound store_bytes c.args.strict c.requires.store.free _ handed-bytes sought c.args.o c.requires.handed.whole
    done-is c.requires.store.laid c.extent_of-x.ensures c.end_of-end.ensures length_is in
    record { place = asked.0; room = asked.1 }

pub returns : goal.returns
returns c =
    let store_bytes : Octets c.args.w.now = λ i. omega (arith, c.slice_known-1.given i) in
    let handed-bytes : Octets c.args.bytes.now = λ i. omega (arith, c.type_inv.bytes i) in
    let sought : let a = c.args in Sought a.w.now (extent_of a.t (layout_of a.w.now)) (row_key a.t a.bytes.now) c.seek-p.result = sought-laid c.args.t c.args.w.now c.args.bytes.now c.requires.store.laid c.extent_of-x.ensures c.requires.handed.key_is c.seek-p.ensures in
    let fault_in : Option Fault = let a = c.args in let p = c.seek-p.result in place_fault a.strict a.o p.present (storage_at a.w.now p) (storage_in a.bytes.now) in
    let full_in : Bool = let a = c.args in full_at a.o (limit a.t) (extent_of a.t (layout_of a.w.now)).count in
    let full_is : c.is_full.result ≡ full_in = let a = c.args in c.is_full.ensures ∙ ap (λ y. full_at a.o (limit a.t) y.count) (c.extent_of-x.ensures ∙ ap (extent_of a.t) c.requires.store.laid) in
    let done-is : placed (fault_in) (full_in) ≡ (Ok tt) = placed-room fault_in (sym c.judge_place.ensures ∙ c.in_ok-judge_place.was) (sym full_is ∙ c.if-is_full.false) in
    let length_is : let a = c.args in c.length_in-n.result ≡ length_in (shape_of a.o) (length a.bytes.now) = let a = c.args in c.length_in-n.ensures ∙ ap (λ y. length_in y (length a.bytes.now)) c.shape_of.ensures in
    place-done _ _ c.requires.store.sound store_bytes c.args.strict c.requires.store.free _ handed-bytes sought c.args.o c.requires.handed.whole
    done-is length_is c.exchange.ensures
