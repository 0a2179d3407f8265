-- An image whose survey found no fault is sound as it was laid out, and what is written for it is the report on its tables; for another its fault is told.
-- Assumes nothing.
use mathlib.Core.Path.{◌≡◌, refl}
use mathlib.Core.List.{List}
use mathlib.Core.Option.{Option, none, some}
use Prim.Native.Nat.{ℕ}
use Rattle.std.specs.Prelude.{Ok, Err}
use Rattle.answers.specs.declared.Fault.{Fault}
use Rattle.image_layout.specs.declared.Layout.{Layout}
use Rattle.image_layout.specs.Layout.{layout_of}
use Rattle.image_judge.specs.Faults.{SoundLayout, surveyed, tables_at}
use Rattle.image.specs.Image.{image_fault}
use Rattle.image.proofs.Surveys.{image-layout}
use Rattle.answers.specs.Numbers.{fault_number}
use Rattle.program_io.specs.Lines.{lines_of}
use Rattle.request_lines.specs.Report.{told, report, written}

laid_none : (o : Option Fault) (d l : Layout) → Ok l ≡ surveyed o d → (o ≡ none) × (l ≡ d)
laid_none none d l e = (refl, cc)
laid_none (some f) d l e = (cc, cc)

bad-some : (o : Option Fault) (d : Layout) {f : Fault} → Err f ≡ surveyed o d → o ≡ some f
bad-some none d e = cc
bad-some (some g) d e = cc

pub image-laid : (w : List ℕ) {l : Layout} → Ok l ≡ surveyed (image_fault w) (layout_of w) → SoundLayout w l
image-laid w {l} e = let s = laid_none (image_fault w) (layout_of w) l e in rw s.1 (image-layout w s.0)

pub written-laid : (w input : List ℕ) {l : Layout} → Ok l ≡ surveyed (image_fault w) (layout_of w)
    → written w input ≡ report (tables_at w l) 0 (lines_of input)
unfolding written
written-laid w input {l} e = let s = laid_none (image_fault w) (layout_of w) l e in rw (s.0, s.1)

module _ (w : List ℕ) {f : Fault} (e : Err f ≡ surveyed (image_fault w) (layout_of w)) where
  pub image-bad : image_fault w ≡ some f
  image-bad = bad-some (image_fault w) (layout_of w) e

  pub written-bad : (input : List ℕ) → written w input ≡ told 0 (fault_number f)
  unfolding written
  written-bad input = rw image-bad
