-- What the call answers, by what the code finds. On the tables each test settles what `request_number` is: a torn last part, a field out of range,
-- or the decision. An image with a fault has no layout; of one without, it is the image's own, whose tables are sound. Assumes nothing.
use mathlib.Core.Path.{◌≡◌, sym}
use mathlib.Core.Bool.{true, false}
use mathlib.Core.List.{List}
use Prim.Native.Nat.{ℕ}
use Rattle.std.specs.Prelude.{Ok, Err}
use Rattle.answers.specs.declared.Fault.{Fault}
use Rattle.answers.specs.declared.Fault.TheVariants.{OutOfRange}
use Rattle.answers.specs.Numbers.{decision_number, fault_number}
use Rattle.rows.specs.Tables.{Tables}
use Rattle.image_layout.specs.declared.Layout.{Layout}
use Rattle.image_layout.specs.Layout.{layout_of}
use Rattle.image.specs.Image.{image_fault}
use Rattle.image_judge.specs.Faults.{SoundLayout, tables_at, surveyed}
use Rattle.image.proofs.Surveys.{laid_none, bad-some, image-layout}
use Rattle.decision_steps.specs.Request.{Request, asked, legal_request}
use Rattle.decision_steps.specs.Decision.{decision}
use Rattle.decision_steps.specs.Bytes.{identifier}
use Rattle.dugwalen.specs.CCall.{in_parts, request_number, call_number}

pub layout-sound : (w : List ℕ) {l : Layout} → Ok l ≡ surveyed (image_fault w) (layout_of w) → SoundLayout w l
layout-sound w e = let s = laid_none (image_fault w) _ e in rw s.1 (image-layout w s.0)

module _ (model : ℕ) (name : List ℕ) (level view : ℕ) (context variable : List ℕ) where
  abbrev request : Request
  request = asked model name level view context (identifier variable)

  -- ---- on the tables

  module _ (t : Tables) where
    pub torn : in_parts variable ≡ false → fault_number OutOfRange ≡ request_number t model name level view context variable
    unfolding request_number
    torn e = sym (rw e)

    pub illegal : in_parts variable ≡ true → legal_request request ≡ false
        → fault_number OutOfRange ≡ request_number t model name level view context variable
    unfolding request_number
    illegal e h = sym (rw (e, h))

    pub decided : in_parts variable ≡ true → legal_request request ≡ true
        → decision_number (decision t request) ≡ request_number t model name level view context variable
    unfolding request_number
    decided e h = sym (rw (e, h))

  -- ---- the image

  module _ (w : List ℕ) where
    pub image-refused : {f : Fault} → Err f ≡ surveyed (image_fault w) (layout_of w)
        → fault_number f ≡ call_number w model name level view context variable
    unfolding call_number
    image-refused e = sym (rw (bad-some (image_fault w) _ e))

    pub image-laid : {l : Layout} → Ok l ≡ surveyed (image_fault w) (layout_of w)
        → request_number (tables_at w l) model name level view context variable ≡ call_number w model name level view context variable
    unfolding call_number
    image-laid e = let s = laid_none (image_fault w) _ e in sym (rw (s.0, s.1))
