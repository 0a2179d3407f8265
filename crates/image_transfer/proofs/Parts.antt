-- Bytes written into a buffer from the front on, part by part: what is written so far stands at the front, and the rest is as found.
-- A part put behind it makes that front longer by the part. Assumes nothing.
use mathlib.Core.Path.{◌≡◌, sym, ap, ap₂, ◌∙◌}
use mathlib.Core.List.{List, ◌++◌, append_assoc, append-nil}
use Prim.Native.Nat.{ℕ, ◌+◌, ◌-◌, ◌≤◌, ◌<◌}
use native.Mathlib.Nat.{zero-add}
use native.Mathlib.Omega.{arith}
use lib.ListN.{length, take, drop, length-append, length-drop, take-append-drop, drop_of_length-le}
use lib.Seq.{paste, take-length, take_at, drop_at, drop-drop, take-add, length-take-le}
use borrow.Rule.Slice.PartMut.{put_mid}
use Rattle.image_layout.specs.declared.Extent.{Extent}
use Rattle.image_layout.specs.Layout.{pair}
use Rattle.image_layout.proofs.Walks.{piece, piece-add, Walk, walk-next}
use Rattle.image_transfer.specs.Transfer.{overlaid, Writable}

pub length-overlaid : (new found : List ℕ) → length new ≤ length found → length (overlaid new found) ≡ length found
length-overlaid new found h = simp (length-append, length-drop) (omega arith)

pub length-piece : (v : List ℕ) (o l : ℕ) → o + l ≤ length v → length (piece v o (o + l)) ≡ l
length-piece v o l h = ap length (piece-add v o l) ∙ length-take-le l (drop o v) (omega (arith, length-drop o v))

-- a copy at the front, and of all of it
pub paste-front : (new found : List ℕ) → paste found 0 new (length new) ≡ overlaid new found
paste-front new found = rw (take-length new, zero-add (length new))

pub paste_all : (new found : List ℕ) → length found ≡ length new → paste found 0 new (length new) ≡ new
paste_all new found e =
    let h : length found ≤ length new = omega arith in
    paste-front new found ∙ rw (drop_of_length-le found h) (append-nil new)

-- the front of w stands at the front of v
pub overlaid-same : (o : ℕ) (w v : List ℕ) → o ≤ length w → take o v ≡ take o w → v ≡ overlaid (take o w) v
overlaid-same o w v h e =
    sym (take-append-drop o v) ∙ ap₂ (λ p n. p ++ drop n v) e (sym (length-take-le o w h))

module _ (w found : List ℕ) (o l : ℕ) (h : o + l ≤ length w) (k : o + l ≤ length found) where
  pub overlaid-part : {out part : List ℕ} → out ≡ overlaid (take o w) found → part ≡ piece w o (o + l)
      → put_mid o (o + l - o) out part ≡ overlaid (take (o + l) w) found
  overlaid-part {out} {part} e p =
      let a : o + l - o ≡ l = omega arith in
      let b : length (take o w) ≡ o = length-take-le o w (omega arith) in
      let d : length (take (o + l) w) ≡ o + l = length-take-le (o + l) w h in
      let f : take o out ≡ take o w = ap (take o) e ∙ take_at (take o w) _ o b in
      let g : drop o out ≡ drop o found = ap (drop o) e ∙ drop_at (take o w) _ o b ∙ ap (λ n. drop n found) b in
      rw (f, p, g, a, d, drop-drop l o found, take-add o l w) (sym (append_assoc (take o w) (take l (drop o w)) (drop (o + l) found)))

  pub length_part : length (overlaid (take (o + l) w) found) ≡ length found
  length_part = length-overlaid (take (o + l) w) found (omega (arith, length-take-le (o + l) w h))

-- the buffer has room for the next row of a walk
pub room-row : {store out : List ℕ} {x : Extent} {i g o l : ℕ} → Walk store x i g o → i < x.count → l ≡ pair (drop g store) → Writable store x out → o + l ≤ length out
room-row {l = l} k h e r = omega (arith, (walk-next k l h e).row_place, r.end_in)

-- the first n of w copied, and then the first m of them
module _ (w found : List ℕ) (n : ℕ) (h : n ≤ length w) {out : List ℕ} (e : out ≡ paste found 0 (piece w 0 n) (length (piece w 0 n))) where
  copied : out ≡ take n w ++ drop n found
  copied =
      let p : n - 0 ≡ n = omega arith in
      e ∙ paste-front (piece w 0 n) found ∙ rw (p, length-take-le n w h)

  pub take-copied : take n out ≡ take n w
  take-copied = ap (take n) copied ∙ take_at (take n w) (drop n found) n (length-take-le n w h)

  pub overlaid-copied : (m : ℕ) → n ≤ m → m ≤ length w → overlaid (take m w) out ≡ overlaid (take m w) found
  overlaid-copied m k l =
      let p : n + (m - n) ≡ m = omega arith in
      let d : drop n out ≡ drop n found = ap (drop n) copied ∙ drop_at (take n w) (drop n found) n (length-take-le n w h) in
      let f : drop m out ≡ drop m found =
      ap (λ i. drop i out) (sym p) ∙ sym (drop-drop (m - n) n out) ∙ ap (drop (m - n)) d ∙ drop-drop (m - n) n found ∙ ap (λ i. drop i found) p in
      rw (length-take-le m w l, f)
