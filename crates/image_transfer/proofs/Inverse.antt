-- Reading and writing are each other's inverse. What is written of a sound store's tables is an accepted image of them (`Fronts`), and an
-- accepted image is what is written of its own (`accepted-again`); the calls' promises say the same of what they leave. Assumes nothing.
use mathlib.Core.Path.{◌≡◌, refl, sym, ap, subst, ◌∙◌}
use mathlib.Core.Bool.{Bool, true, false, cond}
use mathlib.Core.List.{List}
use mathlib.Core.Option.{Option, none, some}
use Prim.Native.Nat.{ℕ, ◌+◌}
use native.Mathlib.Omega.{arith}
use lib.Dec.{leb}
use lib.ListN.{length, take, drop}
use lib.Seq.{take_at}
use borrow.Author.Tests.{le-leb}
use Rattle.std.specs.Prelude.{Ok, Err}
use Rattle.answers.specs.declared.Fault.{Fault}
use Rattle.answers.specs.declared.Fault.TheVariants.{TooShort}
use Rattle.rows.specs.Tables.{Tables}
use Rattle.image.specs.Image.{image_fault}
use Rattle.image_judge.specs.Faults.{tables_in}
use Rattle.image.specs.Store.{is_sound, held}
use Rattle.image_layout.specs.Layout.{counts_size, header, middle}
use Rattle.table_update.proofs.Images.{length-middle}
use Rattle.table_update.proofs.Stores.{store-sound}
use Rattle.image_transfer.specs.Transfer.{image_with, image_of, overlaid, loaded, written_of, buffer_of, Writes}
use Rattle.image_transfer.specs.Inverse.{WrittenIsRead, ReadIsWritten, OnlyImage, Restores, Rewrites}
use Rattle.image_transfer.proofs.Accepted.{accepted-image, image-accepted}
use Rattle.image_transfer.proofs.Again.{with-middle}
use Rattle.image_transfer.proofs.Fronts.{accepted-again, accepted-written, tables-written}

-- a store that holds tables is sound, and they are its own
holds : (b : Bool) (u t : Tables) → cond b (some u) none ≡ some t → (b ≡ true) × (u ≡ t)
holds true u t e = (refl, cc)
holds false u t e = (cc, cc)

held-sound : (w : List ℕ) (t : Tables) → held w ≡ some t → (is_sound w ≡ true) × (tables_in w ≡ t)
unfolding held
held-sound w t e = holds (is_sound w) (tables_in w) t e

pub written-is-read : WrittenIsRead
written-is-read w t b e =
    let h = held-sound w t e in
    let s = store-sound w h.0 in
    let m = middle w in
    let n : counts_size + length m ≡ header = length-middle w (omega (arith, s.end_in)) in
    subst (λ u. (image_fault (image_of u) ≡ none) × (tables_in (image_of u) ≡ u)) h.1
    (subst (λ v. (image_fault v ≡ none) × (tables_in v ≡ tables_in w)) (with-middle w b s.rows_sound s.end_in)
    (accepted-image (image_with m (tables_in w)) (accepted-written w b s m n), tables-written w b s m n))

pub read-is-written : ReadIsWritten
read-is-written w b h = accepted-again w b (image-accepted w h)

pub only-image : OnlyImage
only-image v w b c h k e = sym (read-is-written v b h) ∙ ap image_of e ∙ read-is-written w c k

-- ---- the calls

-- a length answered is that of the image, which stands at the buffer's front
module _ (found after : List ℕ) (n : ℕ) where
  fitting : (t : Tables) (b : Bool) → Ok n ≡ cond b (Ok (length (image_of t))) (Err TooShort) → after ≡ cond b (overlaid (image_of t) found) found
      → take n after ≡ image_of t
  fitting t true e k =
      let l : length (image_of t) ≡ n = cc in
      ap (take n) k ∙ take_at (image_of t) (drop (length (image_of t)) found) n l
  fitting t false e k = cc

  stands : (o : Option Tables) → Writes o found after (Ok n) → (t : Tables) × (o ≡ some t) × (take n after ≡ image_of t)
  stands none k = let e = k.answer_is in absurd (let z : ◌≡◌ {A = ℕ} 0 1 = cc in omega arith)
  stands (some t) k = (t, refl, fitting t (leb (length (image_of t)) (length found)) k.answer_is k.buffer_is)

pub restores : Restores
restores store buffer written found after n r b k l =
    let s = stands buffer written n (held store) k in
    let t = s.0 in
    let a = written-is-read store t b s.1 in
    let f : image_fault (take n written) ≡ none = ap image_fault s.2 ∙ a.0 in
    let d : r ≡ (Ok tt) = l.answer_is ∙ ap loaded f in
    (d, l.rows_are d ∙ ap (λ v. some (tables_in v)) s.2 ∙ ap some a.1 ∙ sym s.1)

accepts : (o : Option Fault) → (Ok tt) ≡ loaded o → o ≡ none
accepts none e = refl
accepts (some f) e = cc

pub rewrites : Rewrites
rewrites image found store buffer written r b k l h =
    let e : image_fault image ≡ none = accepts (image_fault image) k.answer_is in
    let t : held store ≡ some (tables_in image) = k.rows_are refl in
    let i : image_of (tables_in image) ≡ image = read-is-written image b e in
    let f = le-leb (length image) (length buffer) h in
    let x : r ≡ written_of (some (tables_in image)) (length buffer) = l.answer_is ∙ ap (λ o. written_of o (length buffer)) t in
    let y : written ≡ buffer_of (some (tables_in image)) buffer = l.buffer_is ∙ ap (λ o. buffer_of o buffer) t in
    (rw (i, f) at x, rw (i, f) at y)
