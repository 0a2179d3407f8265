-- What the two calls promise, by what the code finds. Assumes nothing.
use mathlib.Core.Path.{◌≡◌, refl, sym, ap, ◌∙◌}
use mathlib.Core.Bool.{true}
use mathlib.Core.List.{List}
use mathlib.Core.Option.{none, some}
use Prim.Native.Nat.{ℕ, ◌+◌, ◌≤◌, ◌<◌}
use native.Mathlib.Omega.{arith}
use lib.ListN.{length, take, drop}
use lib.Seq.{paste}
use borrow.Author.Tests.{le-leb, lt-leb}
use Rattle.std.specs.Prelude.{Ok, Err}
use Rattle.answers.specs.declared.Fault.{Fault}
use Rattle.answers.specs.declared.Fault.TheVariants.{TooShort}
use Rattle.numbers.proofs.Bools.{cond-true}
use Rattle.numbers.specs.BigEndian.{Octets}
use Rattle.image_layout.specs.declared.Extent.{Extent}
use Rattle.image_layout.specs.declared.Layout.{Layout}
use Rattle.image_layout.specs.Layout.{Inside, end_of, layout_of, laid_out, image_end, most_rows}
use Rattle.image_layout.proofs.Walks.{piece}
use Rattle.image.specs.Image.{image_fault}
use Rattle.image_judge.specs.Types.{Surveyed}
use Rattle.image_judge.specs.Faults.{tables_in, surveyed}
use Rattle.image.specs.Store.{room, is_sound, store_fault, held}
use Rattle.image.proofs.Surveys.{store-bad, store-only, store_laid, laid_none, bad-some}
use Rattle.table_update.proofs.Stores.{sound-few, store-sound}
use Rattle.image_transfer.specs.Transfer.{image_of, overlaid, all_rows, Reads, Writes}
use Rattle.image_transfer.proofs.Accepted.{image-accepted, image_room}
use Rattle.image_transfer.proofs.Again.{length-again, take_again}
use Rattle.image_transfer.proofs.Fronts.{held-front}
use Rattle.image_transfer.proofs.Parts.{length-overlaid, paste-front, overlaid-copied}

-- ---- reading

pub reads-refused : (image found : List ℕ) (f : Fault) → image_fault image ≡ some f → Reads image found found (Err f)
reads-refused image found f e = record { answer_is = rw e; number_is = rw e; store_is = rw e; rows_are = λ d. cc }

pub reads-unlaid : (image found : List ℕ) (l : Layout) {f : Fault} → Err f ≡ surveyed (image_fault image) l → Reads image found found (Err f)
reads-unlaid image found l e = reads-refused image found _ (bad-some _ l e)

-- an image that was laid out has no fault
pub laid-whole : (image : List ℕ) (m : Layout) {r : Surveyed} {l : Layout} → r ≡ surveyed (image_fault image) m → r ≡ Ok l → image_fault image ≡ none
laid-whole image m e k = (laid_none _ _ (sym k ∙ e)).0

pub reads-done : (image found : List ℕ) {after : List ℕ} → Octets image → length found ≡ room → image_fault image ≡ none
    → after ≡ paste found 0 image (length image) → Reads image found after (Ok tt)
reads-done image found {after} b s e p =
    let q : after ≡ overlaid image found = p ∙ paste-front image found in
    let l : length after ≡ room = ap length q ∙ length-overlaid image found (omega (arith, image_room image e)) ∙ s in
    let h = held-front image b (image-accepted image e) after (drop (length image) found) q l in
    record { answer_is = rw e; number_is = rw e; store_is = rw e q; rows_are = λ d. h }

-- by this the refusal of an image is found, in whatever form the code tells it
pub ruleset unread = (reads-unlaid)

-- ---- writing

-- all rows of a sound store as one extent
pub record AllIn (w : List ℕ) (x : Extent) : Type 0 where
  pub inside : Inside w x
  pub few : x.count ≤ most_rows
  pub end_is : end_of w x ≡ image_end w

all_in : (w : List ℕ) → is_sound w ≡ true → AllIn w (all_rows (layout_of w))
unfolding layout_of laid_out
all_in w h =
    let e = (store-sound w h).end_in in
    record { inside = record { lengths_within = omega arith; rows_within = e }; few = sound-few w h; end_is = refl }

module _ (w : List ℕ) (h : is_sound w ≡ true) {l : Layout} (q : l ≡ layout_of w) where
  pub few-laid : l.contexts.count + l.mappings.count + l.accesses.count + l.views.count ≤ most_rows
  few-laid = rw q (all_in w h).few

  pub all_laid : {x : Extent} → x ≡ all_rows l → AllIn w x
  all_laid e = rw (e ∙ ap all_rows q) (all_in w h)

-- a store that was laid out is sound, and lies as its counts and lengths say
module _ (w : List ℕ) {r : Surveyed} {l : Layout} (e : r ≡ surveyed (store_fault w) (layout_of w)) (k : r ≡ Ok l) where
  pub laid-sound : is_sound w ≡ true
  laid-sound = (store_laid w (sym k ∙ e)).0

  pub laid-is : l ≡ layout_of w
  laid-is = (store_laid w (sym k ∙ e)).1

  pub laid-few : l.contexts.count + l.mappings.count + l.accesses.count + l.views.count ≤ most_rows
  laid-few = few-laid w laid-sound laid-is

module _ (w found : List ℕ) where
  pub writes-unsound : {f : Fault} → Err f ≡ surveyed (store_fault w) (layout_of w) → Writes (held w) found found (Err f)
  unfolding held
  writes-unsound e =
      let h = store-bad w e in
      rw (store-only w e) (record { answer_is = rw h; number_is = rw h; buffer_is = rw h })

  module _ (b : Octets w) (h : is_sound w ≡ true) where
    held-is : held w ≡ some (tables_in w)
    unfolding held
    held-is = cond-true _ _ h

    length_is : length (image_of (tables_in w)) ≡ image_end w
    length_is = length-again w b (store-sound w h).rows_sound (store-sound w h).end_in

    -- the rows of x, and where they end
    module _ {x : Extent} (a : AllIn w x) {end : ℕ} (n : end ≡ end_of w x) where
      pub writes_short : length found < end → Writes (held w) found found (Err TooShort)
      writes_short s =
          let e = lt-leb (length (image_of (tables_in w))) (length found) (omega (arith, length_is, a.end_is)) in
          rw held-is (record { answer_is = rw e; number_is = rw e; buffer_is = rw e })

      -- what lies ahead of them copied, and the rows written behind it
      pub writes-done : {copied after : List ℕ} → end ≤ length found → copied ≡ paste found 0 (piece w 0 x.rows) (length (piece w 0 x.rows))
          → after ≡ overlaid (take (end_of w x) w) copied → Writes (held w) found after (Ok end)
      writes-done {copied} {after} s c p =
          let e = le-leb (length (image_of (tables_in w))) (length found) (omega (arith, length_is, a.end_is)) in
          let q : take (end_of w x) w ≡ image_of (tables_in w) =
          ap (λ m. take m w) a.end_is ∙ take_again w b (store-sound w h).rows_sound (store-sound w h).end_in in
          let o : after ≡ overlaid (take (end_of w x) w) found =
          p ∙ overlaid-copied w found x.rows (omega (arith, a.inside.rows_within)) c (end_of w x) (omega arith) a.inside.rows_within in
          let i = ap Ok (n ∙ a.end_is ∙ sym length_is) in
          rw held-is (record { answer_is = rw e i; number_is = rw e; buffer_is = rw e (o ∙ ap (λ v. overlaid v found) q) })
