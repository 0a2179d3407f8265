-- An image or a store surveyed: its counts read (`Counted`), each test settles what the definition answers, and past the tests
-- the answer is that of the rows. A store that has its length is sound exactly where nothing is wrong with the image at its front. What is
-- sound has passed each test, so that its tables lie within it and are sound. Assumes nothing.
use mathlib.Core.Path.{◌≡◌, refl, sym, ap, subst, ◌∙◌}
use mathlib.Core.Bool.{Bool, true, false, cond, ◌&&◌}
use mathlib.Core.List.{List}
use mathlib.Core.Option.{Option, none, some}
use Prim.Native.Nat.{ℕ, ◌+◌, ◌*◌, ◌≤◌, ◌<◌}
use native.Mathlib.Omega.{arith}
use lib.Dec.{eqb, leb, ltb}
use lib.ListN.{length, drop}
use borrow.Author.Tests.{lt-ltb, le-ltb, lt-leb, leb-true, eq-eqb, ne_eqb, eqb-true}
use Rattle.std.specs.Prelude.{Ok, Err, MatchResult, IsErrAnd}
use Rattle.std.proofs.lemmas.Result.{err_from_is_err_and}
use Rattle.answers.specs.declared.Fault.{Fault}
use Rattle.answers.specs.declared.Fault.TheVariants.{NotSound, OutOfRange, Torn, TableFull}
use Rattle.numbers.specs.Lists.{is_none}
use Rattle.numbers.proofs.Options.{is-none}
use Rattle.numbers.proofs.Bools.{clash, and_left, and_right}
use Rattle.rows.specs.Fields.{or_else}
use Rattle.rows.specs.Tables.{Tables}
use Rattle.rows.proofs.Sound.{cond-none}
use Rattle.image_layout.specs.declared.Layout.{Layout}
use Rattle.numbers.specs.BigEndian.{Octets}
use Rattle.numbers.proofs.BigEndian.{octets-drop}
use Rattle.image_layout.specs.Layout.{pairs, total, count, image_length, image_end, within_limits, header, laid_out, layout_of, most_rows, most_pair}
use Rattle.image_layout.proofs.Walks.{total-most}
use Rattle.image_layout.proofs.Limits.{few}
use Rattle.image_layout.proofs.Layouts.{laid-within}
use Rattle.image_judge.specs.Types.{Surveyed}
use Rattle.image_judge.specs.Faults.{rows_fault, SoundLayout, surveyed, tables_at, tables_in}
use Rattle.image_judge.proofs.Tables.{sound-tables}
use Rattle.image.specs.Image.{sized_fault, front_fault, image_fault, fits}
use Rattle.image.specs.Store.{room, sound_rows, is_sound, store_fault, call_fault, held}

-- ---- answers

pub surveyed-bad : {o : Option Fault} {f : Fault} (l : Layout) → o ≡ some f → Err f ≡ surveyed o l
surveyed-bad l e = sym (rw e)

-- read back: where the tables lie, or what is wrong
pub laid_none : (o : Option Fault) (d : Layout) {l : Layout} → Ok l ≡ surveyed o d → (o ≡ none) × (l ≡ d)
laid_none none d e = (refl, cc)
laid_none (some f) d e = (cc, cc)

pub bad-some : (o : Option Fault) (d : Layout) {f : Fault} → Err f ≡ surveyed o d → o ≡ some f
bad-some none d e = cc
bad-some (some g) d e = cc

-- ---- lengths that fit

pub fits-within : (whole : Bool) (end len : ℕ) → fits whole end len ≡ true → end ≤ len
fits-within true end len e = omega (arith, eqb-true end len e)
fits-within false end len e = leb-true end len e

pub fits-past : (whole : Bool) (end len : ℕ) → len < end → fits whole end len ≡ false
fits-past true end len h = ne_eqb end len (λ e. omega arith)
fits-past false end len h = lt-leb end len h

-- ---- counts read, and the image at the front

pub record Counted (w : List ℕ) (c m a v : ℕ) : Type 0 where
  pub contexts_are : c ≡ count 0 w
  pub mappings_are : m ≡ count 1 w
  pub accesses_are : a ≡ count 2 w
  pub views_are : v ≡ count 3 w

pub counted : (w : List ℕ) {c m a v : ℕ} → c ≡ count 0 w → m ≡ count 1 w → a ≡ count 2 w → v ≡ count 3 w → Counted w c m a v
counted w p q r s = record { contexts_are = p; mappings_are = q; accesses_are = r; views_are = s }

-- within their limits they are so few rows that the lengths add up to no great number
pub few_bytes : {w : List ℕ} {c m a v : ℕ} → Counted w c m a v → Octets w → within_limits c m a v ≡ true
    → (c + m + a + v ≤ most_rows) × (total (pairs (c + m + a + v) (drop header w)) ≤ most_pair * (c + m + a + v))
few_bytes {w} {c} {m} {a} {v} k b l = (few c m a v l, total-most (c + m + a + v) (drop header w) (octets-drop header w b))

module _ (fit : ℕ → ℕ → Bool) where
  pub front-tiny : (w : List ℕ) → length w < header → front_fault fit w ≡ some Torn
  front-tiny w h = rw (lt-ltb (length w) header h)

  module _ {w : List ℕ} {c m a v : ℕ} (k : Counted w c m a v) (h : header ≤ length w) where
    sized : front_fault fit w ≡ sized_fault fit w c m a v
    sized = rw (le-ltb (length w) header h, ← k.contexts_are, ← k.mappings_are, ← k.accesses_are, ← k.views_are)

    layout_is : layout_of w ≡ laid_out w c m a v
    unfolding layout_of
    layout_is = rw (← k.contexts_are, ← k.mappings_are, ← k.accesses_are, ← k.views_are)

    pub front-full : within_limits c m a v ≡ false → front_fault fit w ≡ some TableFull
    unfolding sized_fault
    front-full n = sized ∙ rw n

    pub front-torn : within_limits c m a v ≡ true → fit (image_length (c + m + a + v) w) (length w) ≡ false → front_fault fit w ≡ some Torn
    unfolding sized_fault
    front-torn y n = sized ∙ rw (y, n)

    front-rows : within_limits c m a v ≡ true → fit (image_length (c + m + a + v) w) (length w) ≡ true → front_fault fit w ≡ rows_fault w (laid_out w c m a v)
    unfolding sized_fault
    front-rows y e = sized ∙ rw (y, e)

    pub front-surveyed : within_limits c m a v ≡ true → fit (image_length (c + m + a + v) w) (length w) ≡ true
        → {r : Surveyed} → r ≡ surveyed (rows_fault w (laid_out w c m a v)) (laid_out w c m a v) → r ≡ surveyed (front_fault fit w) (layout_of w)
    front-surveyed y e q = rw (front-rows y e, layout_is) q

-- ---- a store

-- what is surveyed at the front of a store: 6 whatever is wrong there
abbrev soundly : Surveyed → Surveyed
soundly (Ok l) = Ok l
soundly (Err f) = Err NotSound

pub mapped : (r s : Surveyed) (P : Fault → Fault → Type 0) → MatchResult r (λ l. s ≡ Ok l) (λ f. IsErrAnd s (P f)) → ((f g : Fault) → P f g → g ≡ NotSound)
    → s ≡ soundly r
mapped (Ok l) s P p q = p
mapped (Err f) s P p q = let e = err_from_is_err_and s p in e.1 ∙ ap Err (q f e.0 e.2)

pub store_other : (w : List ℕ) → (length w ≡ room → ⊥) → store_fault w ≡ some NotSound
unfolding store_fault is_sound
store_other w n = rw (ne_eqb (length w) room n)

is-none-sized : (b e : Bool) (o : Option Fault) → is_none (cond b (cond e o (some Torn)) (some TableFull)) ≡ b && (e && is_none o)
is-none-sized true true o = refl
is-none-sized true false o = refl
is-none-sized false e o = refl

soundly-none : (o : Option Fault) (l : Layout) → soundly (surveyed o l) ≡ surveyed (cond (is_none o) none (some NotSound)) l
soundly-none none l = refl
soundly-none (some f) l = refl

-- nothing is wrong at the front of a store that has its length where it is sound
module _ (w : List ℕ) (h : length w ≡ room) where
  sized-sound : (c m a v : ℕ) → is_none (sized_fault leb w c m a v) ≡ sound_rows w c m a v
  unfolding sized_fault sound_rows
  sized-sound c m a v =
      is-none-sized (within_limits c m a v) (leb (image_length (c + m + a + v) w) (length w)) (rows_fault w (laid_out w c m a v))

  front-sound : is_none (front_fault leb w) ≡ is_sound w
  unfolding is_sound
  front-sound =
      let l : header ≤ length w = omega arith in
      rw (le-ltb (length w) header l, eq-eqb (length w) room h) (sized-sound _ _ _ _)

  pub store-surveyed : {r s : Surveyed} → r ≡ surveyed (front_fault leb w) (layout_of w) → s ≡ soundly r → s ≡ surveyed (store_fault w) (layout_of w)
  unfolding store_fault
  store-surveyed q p = p ∙ rw (q, ← front-sound) (soundly-none (front_fault leb w) (layout_of w))

-- ---- what is sound

-- the tests that it passed
past-header : (b : Bool) (o : Option Fault) → cond b (some Torn) o ≡ none → o ≡ none
past-header true o e = cc
past-header false o e = e

pub image-tests : (w : List ℕ) → image_fault w ≡ none
    → (within_limits (count 0 w) (count 1 w) (count 2 w) (count 3 w) ≡ true) × (image_end w ≡ length w) × (rows_fault w (layout_of w) ≡ none)
unfolding image_fault sized_fault layout_of
image-tests w h =
    let p = cond-none (within_limits (count 0 w) (count 1 w) (count 2 w) (count 3 w)) _ _ (past-header (ltb (length w) header) _ h) in
    let q = cond-none (eqb (image_end w) (length w)) _ _ p.1 in
    (p.0, eqb-true (image_end w) (length w) q.0, q.1)

pub store-tests : (w : List ℕ) → is_sound w ≡ true
    → (length w ≡ room) × (within_limits (count 0 w) (count 1 w) (count 2 w) (count 3 w) ≡ true)
    × (image_end w ≤ length w) × (rows_fault w (layout_of w) ≡ none)
unfolding is_sound sound_rows layout_of
store-tests w h =
    let a = and_right (eqb (length w) room) _ h in
    let b = and_right (within_limits (count 0 w) (count 1 w) (count 2 w) (count 3 w)) _ a in
    let e = leb (image_end w) (length w) in
    (eqb-true (length w) room (and_left _ _ h), and_left _ _ a, leb-true _ _ (and_left e _ b), is-none (rows_fault w _) (and_right e _ b))

within-layout : (w : List ℕ) → image_end w ≤ length w → rows_fault w (layout_of w) ≡ none → SoundLayout w (layout_of w)
unfolding layout_of
within-layout w l r = sound-tables w (layout_of w) (laid-within w _ _ _ _ l) r

pub image-layout : (w : List ℕ) → image_fault w ≡ none → SoundLayout w (layout_of w)
image-layout w h = let t = image-tests w h in within-layout w (omega (arith, t.1)) t.2

pub sound-layout : (w : List ℕ) → is_sound w ≡ true → SoundLayout w (layout_of w)
sound-layout w h = let t = store-tests w h in within-layout w t.2 t.3

-- ---- what a survey answered

pub image-laid : (w : List ℕ) {l : Layout} → Ok l ≡ surveyed (image_fault w) (layout_of w) → SoundLayout w l
image-laid w e = let p = laid_none _ _ e in rw p.1 (image-layout w p.0)

sound_none : (b : Bool) → cond b none (some NotSound) ≡ none → b ≡ true
sound_none true e = refl
sound_none false e = cc

unsound-some : (b : Bool) (f : Fault) → cond b none (some NotSound) ≡ some f → b ≡ false
unsound-some true f e = cc
unsound-some false f e = refl

pub store_laid : (w : List ℕ) {l : Layout} → Ok l ≡ surveyed (store_fault w) (layout_of w) → (is_sound w ≡ true) × (l ≡ layout_of w)
unfolding store_fault
store_laid w e = let p = laid_none _ _ e in (sound_none (is_sound w) p.0, p.1)

pub store-bad : (w : List ℕ) {f : Fault} → Err f ≡ surveyed (store_fault w) (layout_of w) → is_sound w ≡ false
unfolding store_fault
store-bad w {f} e = unsound-some (is_sound w) f (bad-some _ _ e)

-- nothing else is told of it
only-unsound : (b : Bool) {f : Fault} → cond b none (some NotSound) ≡ some f → f ≡ NotSound
only-unsound true e = cc
only-unsound false e = cc

pub store-only : (w : List ℕ) {f : Fault} → Err f ≡ surveyed (store_fault w) (layout_of w) → f ≡ NotSound
unfolding store_fault
store-only w e = only-unsound (is_sound w) (bad-some _ _ e)

pub store-sound-layout : (w : List ℕ) {l : Layout} → Ok l ≡ surveyed (store_fault w) (layout_of w) → SoundLayout w l
store-sound-layout w e = let p = store_laid w e in rw p.1 (sound-layout w p.0)

-- the tables held, and none where the store is not sound
pub store-held : (w : List ℕ) {l : Layout} → Ok l ≡ surveyed (store_fault w) (layout_of w) → held w ≡ some (tables_at w l)
unfolding held
store-held w e = rw ((store_laid w e).0, (store_laid w e).1)

pub store-unheld : (w : List ℕ) {f : Fault} → Err f ≡ surveyed (store_fault w) (layout_of w) → held w ≡ none
unfolding held
store-unheld w e = rw (store-bad w e)

-- ---- for a call with fields to judge

module _ (w : List ℕ) {l : Layout} (e : Ok l ≡ surveyed (store_fault w) (layout_of w)) where
  pub call-legal : {legal : Bool} → legal ≡ true → surveyed (store_fault w) (layout_of w) ≡ surveyed (call_fault w legal) (layout_of w)
  unfolding call_fault
  call-legal q = rw ((laid_none (store_fault w) (layout_of w) e).0, q)

  pub call-illegal : {legal : Bool} → legal ≡ false → Err OutOfRange ≡ surveyed (call_fault w legal) (layout_of w)
  unfolding call_fault
  call-illegal q = sym (rw ((laid_none (store_fault w) (layout_of w) e).0, q))

pub call-unsound : (w : List ℕ) (legal : Bool) {f : Fault} → Err f ≡ surveyed (store_fault w) (layout_of w) → Err f ≡ surveyed (call_fault w legal) (layout_of w)
unfolding call_fault
call-unsound w legal e = sym (rw (bad-some (store_fault w) (layout_of w) e))

-- what it answered, read back: past both, the fields are in range and the tables are held; else the store is not sound, or a field is out of range
or-none : (o : Option Fault) (legal : Bool) → or_else o (cond legal none (some OutOfRange)) ≡ none → (o ≡ none) × (legal ≡ true)
or-none none true e = (refl, refl)
or-none none false e = (cc, cc)
or-none (some f) legal e = (cc, cc)

pub record Called (w : List ℕ) (legal : Bool) (l : Layout) : Type 0 where
  pub in_range : legal ≡ true
  pub sound : SoundLayout w l
  pub holds : held w ≡ some (tables_at w l)

pub call-laid : (w : List ℕ) (legal : Bool) {l : Layout} → Ok l ≡ surveyed (call_fault w legal) (layout_of w) → Called w legal l
unfolding call_fault
call-laid w legal {l} e =
    let p = laid_none (call_fault w legal) (layout_of w) e in
    let q = or-none (store_fault w) legal p.0 in
    let s : Ok l ≡ surveyed (store_fault w) (layout_of w) = rw q.0 (ap Ok p.1) in
    record { in_range = q.1; sound = store-sound-layout w s; holds = store-held w s }

refused : (P : Fault → Type 0) (sound legal : Bool) (t : Tables) {f : Fault}
    → or_else (cond sound none (some NotSound)) (cond legal none (some OutOfRange)) ≡ some f
    → (cond sound (some t) none ≡ none → P NotSound) → ((u : Tables) → cond sound (some t) none ≡ some u → legal ≡ false → P OutOfRange) → P f
refused P true true t e n o = clash refl (ap is_none e)
refused P true false t {f} e n o = let z : OutOfRange ≡ f = cc in subst P z (o t refl refl)
refused P false legal t {f} e n o = let z : NotSound ≡ f = cc in subst P z (n refl)

pub call-refused : (P : Fault → Type 0) (w : List ℕ) (legal : Bool) {f : Fault} → Err f ≡ surveyed (call_fault w legal) (layout_of w)
    → (held w ≡ none → P NotSound) → ((t : Tables) → held w ≡ some t → legal ≡ false → P OutOfRange) → P f
unfolding call_fault store_fault held
call-refused P w legal e n o = refused P (is_sound w) legal (tables_in w) (bad-some (call_fault w legal) (layout_of w) e) n o
