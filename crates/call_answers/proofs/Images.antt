-- Laws of an image told: a store that is sound has an image no longer than the store, so that it is written whole, and its text fits.
-- Assumes nothing.
use mathlib.Core.Path.{◌≡◌, refl, sym, ap, ◌∙◌}
use mathlib.Core.Bool.{true}
use mathlib.Core.List.{List, ◌++◌}
use mathlib.Core.Option.{Option, none, some, none-ne-some}
use Prim.Native.Nat.{ℕ, ◌-◌, ◌≤◌}
use native.Mathlib.Omega.{arith}
use lib.Dec.{leb}
use lib.ListN.{length, take, drop, length-append}
use lib.Seq.{take-append_seam}
use borrow.Author.Tests.{le-leb}
use Rattle.std.specs.Prelude.{Ok, Err}
use Rattle.answers.specs.declared.Fault.{Fault}
use Rattle.answers.specs.declared.Fault.TheVariants.{NotSound}
use Rattle.answers.specs.Types.{Written}
use Rattle.numbers.proofs.Bools.{split as by, cond-true, cond-false}
use Rattle.rows.specs.Tables.{Tables}
use Rattle.numbers.specs.BigEndian.{Octets}
use Rattle.image_judge.specs.Faults.{tables_in}
use Rattle.image.specs.Store.{room, is_sound, held}
use Rattle.table_update.proofs.Stores.{store-sound}
use Rattle.image_transfer.specs.Transfer.{image_of, overlaid, written_of, buffer_of, Writes}
use Rattle.image_transfer.proofs.Again.{length-again}
use Rattle.text_values.specs.Texts.{hex_text}
use Rattle.text_values.proofs.Parts.{length-hex}
use Rattle.call_answers.specs.Answers.{image_text, fault_text, image_text_of, answer_room}

held-short : (w : List ℕ) → Octets w → (t : Tables) → held w ≡ some t → length (image_of t) ≤ room
unfolding held
held-short w b t e =
    by (is_sound w)
    (λ h.
    let z : tables_in w ≡ t = let y : some (tables_in w) ≡ some t = sym (cond-true _ _ h) ∙ e in cc in
    let s = store-sound w h in
    omega (arith, ap (λ u. length (image_of u)) z, length-again w b s.rows_sound s.end_in, s.end_in, s.size_is))
    (λ h. let y : none ≡ some t = sym (cond-false _ _ h) ∙ e in absurd (none-ne-some t y))

-- what was written, and its text
pub record Image (w after : List ℕ) (n : ℕ) : Type 0 where
  pub image_room : n ≤ length after
  pub short : length (image_text ++ hex_text (take (n - 0) after)) ≤ answer_room
  pub text_is : image_text ++ hex_text (take (n - 0) after) ≡ image_text_of (held w)

module _ (w found after : List ℕ) (b : Octets w) (l : length found ≡ room) where
  module _ (t : Tables) (q : held w ≡ some t) where
    fits : leb (length (image_of t)) (length found) ≡ true
    fits = le-leb (length (image_of t)) (length found) (omega (arith, held-short w b t q))

    made : after ≡ overlaid (image_of t) found → Image w after (length (image_of t))
    made a =
        let z : length (image_of t) - 0 ≡ length (image_of t) = omega arith in
        let k : take (length (image_of t) - 0) after ≡ image_of t =
        rw (z, a) (take-append_seam (image_of t) (drop (length (image_of t)) found)) in
        record {
          image_room = omega (arith, ap length a, length-append (image_of t) (drop (length (image_of t)) found));
          short = rw k (omega (arith, held-short w b t q, length-append image_text (hex_text (image_of t)), length-hex (image_of t)));
          text_is = rw (k, q);
        }

  wrote : (o : Option Tables) → held w ≡ o → {n : ℕ} → Ok n ≡ written_of o (length found) → after ≡ buffer_of o found → Image w after n
  wrote none q i a = let z : ◌≡◌ {A = ℕ} 0 1 = cc in absurd (omega arith)
  wrote (some t) q {n} i a =
      let f = fits t q in
      let j : Ok n ≡ Ok (length (image_of t)) = i ∙ cond-true _ _ f in
      let z : n ≡ length (image_of t) = cc in
      rw z (made t q (a ∙ cond-true _ _ f))

  refused : (o : Option Tables) → held w ≡ o → {f : Fault} → Err f ≡ written_of o (length found) → fault_text f ≡ image_text_of o
  refused none q {f} i = let z : f ≡ NotSound = cc in ap fault_text z
  refused (some t) q {f} i = let j : Err f ≡ Ok (length (image_of t)) = i ∙ cond-true _ _ (fits t q) in cc

  module _ {r : Written} (p : Writes (held w) found after r) where
    pub image-told : {n : ℕ} → r ≡ Ok n → Image w after n
    image-told q = wrote (held w) refl (sym q ∙ p.answer_is) p.buffer_is

    pub image-refused : {f : Fault} → r ≡ Err f → fault_text f ≡ image_text_of (held w)
    image-refused q = refused (held w) refl (sym q ∙ p.answer_is)
