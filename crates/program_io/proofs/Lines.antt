-- Laws of lines. A line is begun without its newline, so what is begun stands in front of the first part of what follows; a newline ends it, and so does
-- the input's end. Of a line that goes on, what is kept is what is kept of what was kept. Assumes nothing.
use mathlib.Core.Path.{◌≡◌, refl, sym, ap, ◌∙◌}
use mathlib.Core.Bool.{false}
use mathlib.Core.List.{List, [], ◌∷◌, ◌++◌, append_assoc, append-nil}
use Prim.Native.Nat.{ℕ, zero, suc, ◌+◌, ◌-◌, ◌≤◌, ◌<◌, min}
use native.Mathlib.Omega.{arith}
use native.Mathlib.Numerals.{add-one}
use lib.Dec.{eqb, leb}
use lib.ListN.{length, take, drop, get_or, length-take, take-append-drop}
use lib.Seq.{drop-cons, length-take-le, take_all, take-append-add, take-nil, take-take, paste}
use borrow.Author.Tests.{eqb-true, leb-true, leb-false}
use Rattle.numbers.specs.Laid.{laid}
use Rattle.numbers.proofs.Bools.{split as by}
use Rattle.numbers.proofs.Laid.{take-laid, laid-paste}
use Rattle.text_words.specs.Words.{longer, split, run, longest}
use Rattle.text_words.proofs.Words.{run-mark, run-other, run-most, split-mark, split-other, split-some, split-last}
use Rattle.program_io.specs.Lines.{ended, lines_of, keep, kept, goes_on}

-- ---- octets of one line: there is no newline among them

pub record OneLine (v : List ℕ) : Type 0 where
  pub runs : run 10 v ≡ length v

module _ {x : ℕ} {v : List ℕ} (o : OneLine (x ∷ v)) where
  not-newline : eqb x 10 ≡ false
  not-newline = by (eqb x 10) (λ e. absurd (omega (arith, run-mark 10 x v e))) (λ e. e)

  one-line-rest : OneLine v
  one-line-rest = let r = run-other 10 x v not-newline in record { runs = omega arith }

one-line-cons : (x : ℕ) {v : List ℕ} → eqb x 10 ≡ false → OneLine v → OneLine (x ∷ v)
one-line-cons x {v} e o = record { runs = run-other 10 x v e ∙ ap suc o.runs }

pub one-line-nil : OneLine []
unfolding run
one-line-nil = record { runs = refl }

pub one-line-append : (a b : List ℕ) → OneLine a → OneLine b → OneLine (a ++ b)
one-line-append [] b o p = p
one-line-append (x ∷ a) b o p = one-line-cons x (not-newline o) (one-line-append a b (one-line-rest o) p)

-- up to the first newline
pub one-line-run : (v : List ℕ) → OneLine (take (run 10 v) v)
one-line-run [] = rw (take-nil (run 10 [])) one-line-nil
one-line-run (x ∷ v) =
    by (eqb x 10) (λ e. rw (run-mark 10 x v e) one-line-nil) (λ e. rw (run-other 10 x v e) (one-line-cons x e (one-line-run v)))

-- where the newline stands
pub newline-at : (v : List ℕ) → run 10 v < length v → get_or v (run 10 v) 0 ≡ 10
newline-at [] h = absurd (omega arith)
newline-at (x ∷ v) h =
    by (eqb x 10) (λ e. rw (run-mark 10 x v e) (eqb-true x 10 e))
    (λ e. let r = run-other 10 x v e in rw r (newline-at v (omega arith)))

-- ---- what is begun stands in front of the first part of what follows

abbrev onto : List ℕ → List (List ℕ) → List (List ℕ)
onto h [] = h ∷ []
onto h (p ∷ ps) = (h ++ p) ∷ ps

longer-onto : (x : ℕ) (h : List ℕ) (ps : List (List ℕ)) → longer x (onto h ps) ≡ onto (x ∷ h) ps
longer-onto x h [] = refl
longer-onto x h (p ∷ ps) = refl

onto-nil : (ps : List (List ℕ)) → 1 ≤ length ps → onto [] ps ≡ ps
onto-nil [] h = absurd (omega arith)
onto-nil (p ∷ ps) h = refl

split-onto : (h s : List ℕ) → OneLine h → split 10 (h ++ s) ≡ onto h (split 10 s)
split-onto [] s o = sym (onto-nil (split 10 s) (split-some 10 s))
split-onto (x ∷ h) s o =
    split-other 10 x (h ++ s) (not-newline o) ∙ ap (longer x) (split-onto h s (one-line-rest o)) ∙ longer-onto x h (split 10 s)

-- a newline ends a line
ended-next : (p : List ℕ) (ps : List (List ℕ)) → 1 ≤ length ps → ended (p ∷ ps) ≡ p ∷ ended ps
ended-next p [] h = absurd (omega arith)
ended-next p (q ∷ ps) h = refl

pub lines_next : (h s : List ℕ) → OneLine h → lines_of (h ++ (10 ∷ s)) ≡ h ∷ lines_of s
unfolding lines_of
lines_next h s o =
    ap ended (split-onto h (10 ∷ s) o ∙ ap (onto h) (split-mark 10 10 s refl) ∙ ap (λ u. u ∷ split 10 s) (append-nil h))
    ∙ ended-next h (split 10 s) (split-some 10 s)

-- the last line may lack it
pub lines_none : lines_of [] ≡ []
unfolding lines_of split
lines_none = refl

pub lines-last : (h : List ℕ) → 0 < length h → OneLine h → lines_of h ≡ h ∷ []
unfolding lines_of
lines-last [] l o = absurd (omega arith)
lines-last (x ∷ h) l o = ap ended (split-last 10 (x ∷ h) o.runs)

-- ---- up to a newline

-- what stands in front of a newline is a line with what is begun, and behind it the other lines begin
pub lines_cut : (h v later : List ℕ) → OneLine h → run 10 v < length v
    → lines_of (h ++ (v ++ later)) ≡ (h ++ take (run 10 v) v) ∷ lines_of (drop (run 10 v + 1) v ++ later)
lines_cut h v later o l =
    let k = run 10 v in
    let a = take k v in
    let b = drop (k + 1) v in
    let c : drop k v ≡ 10 ∷ b = drop-cons v k 0 l ∙ rw (newline-at v l, add-one) in
    let w : v ≡ a ++ (10 ∷ b) = sym (take-append-drop k v) ∙ ap (λ u. a ++ u) c in
    let s : h ++ (v ++ later) ≡ (h ++ a) ++ (10 ∷ (b ++ later)) =
    ap (λ u. h ++ (u ++ later)) w ∙ ap (λ u. h ++ u) (append_assoc a (10 ∷ b) later) ∙ sym (append_assoc h a (10 ∷ (b ++ later))) in
    ap lines_of s ∙ lines_next (h ++ a) (b ++ later) (one-line-append h a o (one-line-run v))

-- ---- what is kept

pub kept-one : (line : List ℕ) (lines : List (List ℕ)) → kept (line ∷ lines) ≡ keep line ∷ kept lines
unfolding kept
kept-one line lines = refl

pub kept-none : kept [] ≡ []
unfolding kept
kept-none = refl

-- what says nothing of a line that is too long says the same of what is kept of a line
pub kept_same : {A : Type 0} (f : List ℕ → A) (long : A) → ((line : List ℕ) → longest < length line → f line ≡ long)
    → (line : List ℕ) → f (keep line) ≡ f line
kept_same f long h line =
    by (leb (suc longest) (length line))
    (λ e.
    let l = leb-true (suc longest) (length line) e in
    let m = length-take-le (suc longest) line l in
    h (keep line) (omega arith) ∙ sym (h line l))
    (λ e. let l = leb-false (suc longest) (length line) e in ap f (take_all (suc longest) line (omega arith)))

-- where the front of the line is what is kept of h, the line continued is what is kept of h continued
module _ (h u line : List ℕ) (begun : ℕ) (room : length line ≡ suc longest) (inside : begun ≤ length line) (e : keep h ≡ take begun line) where
  abbrev on : List ℕ
  on = take (length line - begun) u

  on_fits : begun + length on ≤ length line
  on_fits = simp length-take (omega arith)

  keep-twice : (n : ℕ) (a b : List ℕ) → take n (take n a ++ b) ≡ take n (a ++ b)
  keep-twice zero a b = refl
  keep-twice (suc n) [] b = refl
  keep-twice (suc n) (x ∷ a) b = ap (λ w. x ∷ w) (keep-twice n a b)

  pub keep-on : take (begun + length on) (laid begun on line) ≡ keep (h ++ u)
  keep-on =
      let l : length (take begun line) ≡ begun = length-take-le begun line inside in
      let r : length (take begun line) + (length line - begun) ≡ suc longest = omega arith in
      take-laid begun on line on_fits
      ∙ sym (take-append-add (take begun line) u (length line - begun))
      ∙ ap (λ n. take n (take begun line ++ u)) r
      ∙ ap (λ a. take (suc longest) (a ++ u)) (sym e)
      ∙ keep-twice (suc longest) h u

-- ---- as many octets as there are up to the newline, or as there is room for

take_min : (k m : ℕ) (v : List ℕ) → take m (take k v) ≡ take (min k m) v
take_min k m v =
    by (leb m k) (λ e. let l = leb-true m k e in let n : min k m ≡ m = omega arith in rw n (take-take m k v l))
    (λ e.
    let l = leb-false m k e in
    let n : min k m ≡ k = omega arith in
    let t : length (take k v) ≤ m = simp length-take (omega arith) in
    rw n (take_all m (take k v) t))

module _ (line line' v : List ℕ) (begun n : ℕ) (m : n ≡ min (run 10 v) (length line - begun))
    (e : line' ≡ paste line begun (take n v) (length (take n v))) where
  on-is : take n v ≡ goes_on begun (length line) v
  on-is = rw m (sym (take_min (run 10 v) (length line - begun) v))

  pub continued : (line' ≡ laid begun (goes_on begun (length line) v) line) × (n ≡ length (goes_on begun (length line) v))
  continued = (
    e ∙ laid-paste begun (take n v) line ∙ ap (λ u. laid begun u line) on-is,
    sym (length-take-le n v (omega (arith, run-most 10 v))) ∙ ap length on-is,
  )
