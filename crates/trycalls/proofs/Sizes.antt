-- What reading the tables tells: a store that holds tables has its one size, and the answer is the image's fault. Assumes nothing.
use mathlib.Core.Path.{◌≡◌, refl, sym, ◌∙◌}
use mathlib.Core.List.{List}
use mathlib.Core.Option.{Option, none, some, none-ne-some}
use Prim.Native.Nat.{ℕ}
use lib.ListN.{length}
use Rattle.std.specs.Prelude.{Ok, Err}
use Rattle.numbers.proofs.Bools.{split as by, cond-false}
use Rattle.rows.specs.Tables.{Tables}
use Rattle.image.specs.Store.{room, is_sound, held}
use Rattle.answers.specs.declared.Fault.{Fault}
use Rattle.image_transfer.specs.Transfer.{loaded}
use Rattle.table_update.proofs.Stores.{store-sound}

pub held-size : (w : List ℕ) {t : Tables} → held w ≡ some t → room ≡ length w
unfolding held
held-size w {t} e =
    by (is_sound w)
    (λ h. sym (store-sound w h).size_is)
    (λ h. let y : none ≡ some t = sym (cond-false _ _ h) ∙ e in absurd (none-ne-some t y))

pub done_none : (o : Option Fault) → (Ok tt) ≡ loaded o → o ≡ none
done_none none e = refl
done_none (some f) e = cc

pub faulty-some : (o : Option Fault) {f : Fault} → Err f ≡ loaded o → o ≡ some f
faulty-some none e = cc
faulty-some (some g) e = cc
