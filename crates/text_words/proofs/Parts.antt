-- The parts that the library cuts a list into: at a mark, where they are those of `split`, and into pairs, each of which says an octet or none.
-- Assumes nothing.
use Rattle.std.proofs.Common.{◌≡◌, ℕ, suc, ◌+◌, ◌*◌, ◌≤◌, ◌<◌, min, ◌&&◌, Bool, true, false, not, eqb, List, [], ◌∷◌, ◌++◌, length, refl, sym, ap, subst, ◌∙◌, Some, None, is_some, arith, tests}
use Rattle.std.specs.List.{slice_split, onto_first, list_all, prefix_len}
use denote.Param.Members.{Mut}
use denote.Ref.{Bor}
use Rattle.std.specs.Fn.{CalledAt}
use Rattle.std.specs.Slice.Iter.{split_rest, split_done, split_callee, split_steps, chunks_rest, chunks_size, chunks_steps}
use Rattle.std.proofs.lemmas.Iterator.{YieldsList}
use Rattle.std.proofs.lemmas.Iterator.Splits.{YieldsList-from_shown_while, YieldsList-from_slice_split}
use Rattle.std.proofs.lemmas.Iterator.Consumers.{YieldsList-at}
use native.Mathlib.Numerals.{add-one}
use lib.ListN.{drop, get_or, drop_of_length-le}
use lib.Seq.{drop-cons}
use mathlib.Core.Option.{Option, none, some}
use Rattle.numbers.specs.Order.{same}
use Rattle.numbers.proofs.Bools.{split as by, clash}
use Rattle.text_words.specs.Types.{Number}
use Rattle.text_words.specs.Words.{number_of, longer, split, place, decimal, decimals, also, is_said, hex_octet, hex_pairs}
use Rattle.text_words.proofs.Words.{split-some}

-- ---- at a mark

onto : (x : ℕ) (ps : List (List ℕ)) → onto_first x ps ≡ longer x ps
onto x [] = refl
onto x (p ∷ ps) = refl

pub cut-split : (mark : ℕ) (xs : List ℕ) → slice_split (λ x. eqb x mark) xs ≡ split mark xs
unfolding split
cut-split mark [] = refl
cut-split mark (x ∷ xs) = rw (cut-split mark xs, onto x (split mark xs))

pub YieldsList-from_parts : {F : Type 0} {s t : _} (g : Mut F (Bor ℕ × Unit {0}) Bool) (mark : ℕ) {f : F} (xs : List ℕ) → s ≡ t → split_rest t ≡ xs → split_done t ≡ false → split_callee t ≡ f
    → ((x : ℕ) (b : Bool) (q : F) → CalledAt g f x b q → (q ≡ f) × (b ≡ eqb x mark)) → YieldsList (split_steps g) (λ x. x.now) s (split mark xs)
YieldsList-from_parts {s = s} g mark xs e rest done closure tests =
    subst (YieldsList (split_steps g) (λ x. x.now) s) (cut-split mark xs)
    (YieldsList-at e (YieldsList-from_slice_split g (λ x. eqb x mark) xs rest done closure tests))

-- the place of a word is how many stand in front of it
pub place-passed : (w : List ℕ) (vs : List (List ℕ)) → prefix_len (λ v. not (same v w)) vs ≡ place w vs
unfolding place
place-passed w [] = refl
place-passed w (v ∷ vs) = by (same v w) (λ e. rw e) (λ e. rw (e, place-passed w vs) (omega arith))

-- what was read was said
pub read_said : (r : Number) (o : Option ℕ) → number_of r ≡ o → is_some r ≡ is_said o
read_said None o e = ap is_said e
read_said (Some x) o e = ap is_said e

-- a list of numbers says something where each part does
said-part : (part : Option ℕ) (rest : Option (List ℕ)) → is_said (also part rest) ≡ is_said part && is_said rest
said-part none rest = refl
said-part (some x) none = refl
said-part (some x) (some xs) = refl

pub numbers-said : (ps : List (List ℕ)) → list_all (λ p. is_said (decimal p)) ps ≡ is_said (decimals ps)
unfolding decimals
numbers-said [] = refl
numbers-said (p ∷ ps) = rw (numbers-said ps) (sym (said-part (decimal p) (decimals ps)))

module _ (ps : List (List ℕ)) (k : ℕ) where
  pub numbers-next : {x : List ℕ} → (k < length ps) × (x ≡ get_or ps k x) → decimals (drop k ps) ≡ also (decimal x) (decimals (drop (k + 1) ps))
  unfolding decimals
  numbers-next {x} t = rw (drop-cons ps k x t.0, ← t.1, add-one)

  pub numbers-end : length ps ≤ k → decimals (drop k ps) ≡ some []
  unfolding decimals
  numbers-end h = rw (drop_of_length-le ps h)

-- a part that is a number is not empty, and a mark stands between two parts
spread : List (List ℕ) → ℕ
spread [] = 0
spread (p ∷ ps) = suc (length p) + spread ps

spread-longer : (x : ℕ) (ps : List (List ℕ)) → 1 ≤ length ps → spread (longer x ps) ≡ suc (spread ps)
unfolding spread
spread-longer x [] h = absurd (omega arith)
spread-longer x (p ∷ ps) h = omega arith

spread-split : (mark : ℕ) (w : List ℕ) → spread (split mark w) ≡ length w + 1
unfolding spread split
spread-split mark [] = refl
spread-split mark (x ∷ xs) =
    let h = spread-split mark xs in
    by (eqb x mark) (λ e. rw e (omega arith)) (λ e. rw (e, spread-longer x (split mark xs) (split-some mark xs)) (omega arith))

numbers-spread : (ps : List (List ℕ)) → is_said (decimals ps) ≡ true → 2 * length ps ≤ spread ps
unfolding spread decimals decimal
numbers-spread [] h = omega arith
numbers-spread ([] ∷ ps) h = clash h refl
numbers-spread ((x ∷ xs) ∷ ps) h = let g = numbers-spread ps (also-rest _ _ h) in omega arith
  where
    also-rest : (part : Option ℕ) (rest : Option (List ℕ)) → is_said (also part rest) ≡ true → is_said rest ≡ true
    also-rest none rest e = clash e refl
    also-rest (some x) none e = e
    also-rest (some x) (some xs) e = refl

pub numbers-fit : (w : List ℕ) → is_said (decimals (split 46 w)) ≡ true → 2 * length (split 46 w) ≤ length w + 1
numbers-fit w h = omega (arith, numbers-spread (split 46 w) h, spread-split 46 w)

-- ---- into pairs, the last of which may be short

abbrev pub pairs : List ℕ → List (List ℕ)
pairs [] = []
pairs (a ∷ []) = (a ∷ []) ∷ []
pairs (a ∷ b ∷ cs) = (a ∷ b ∷ []) ∷ pairs cs

pairs-none : (w : List ℕ) → length w ≡ 0 → length (pairs w) ≡ 0
pairs-none [] h = refl
pairs-none (a ∷ cs) h = absurd (omega arith)

pub pairs-front : (all x rest : List ℕ) → all ≡ x ++ rest → length x ≡ min 2 (length all) → 0 < length all → pairs all ≡ x ∷ pairs rest
pairs-front all [] rest e l h = absurd (omega arith)
pairs-front all (a ∷ []) [] e l h = rw e
pairs-front all (a ∷ []) (c ∷ cs) e l h = absurd (omega (arith, ap length e))
pairs-front all (a ∷ b ∷ []) rest e l h = rw e
pairs-front all (a ∷ b ∷ c ∷ cs) rest e l h = absurd (omega arith)

-- what each pair says
abbrev pub octets_of : List (List ℕ) → Option (List ℕ)
octets_of [] = some []
octets_of (p ∷ ps) = also (hex_octet p) (octets_of ps)

pub octets-pairs : (w : List ℕ) → octets_of (pairs w) ≡ hex_pairs w
unfolding hex_pairs
octets-pairs [] = refl
octets-pairs (a ∷ []) = refl
octets-pairs (a ∷ b ∷ cs) = ap (also (hex_octet (a ∷ b ∷ []))) (octets-pairs cs)

module _ (ps : List (List ℕ)) (k : ℕ) where
  pub octets-next : {x : List ℕ} → (k < length ps) × (x ≡ get_or ps k x) → octets_of (drop k ps) ≡ also (hex_octet x) (octets_of (drop (k + 1) ps))
  octets-next {x} t = rw (drop-cons ps k x t.0, ← t.1, add-one)

  pub octets-end : length ps ≤ k → octets_of (drop k ps) ≡ some []
  octets-end h = rw (drop_of_length-le ps h)

pub pairs-fit : (w : List ℕ) → length (pairs w) ≤ length w
pairs-fit [] = omega arith
pairs-fit (a ∷ []) = omega arith
pairs-fit (a ∷ b ∷ cs) = let h = pairs-fit cs in omega arith

pub octets-said : (w : List ℕ) → list_all (λ p. is_said (hex_octet p)) (pairs w) ≡ is_said (hex_pairs w)
unfolding hex_pairs
octets-said [] = refl
octets-said (a ∷ []) = refl
octets-said (a ∷ b ∷ cs) = rw (octets-said cs) (sym (said-part (hex_octet (a ∷ b ∷ [])) (hex_pairs cs)))

pub YieldsList-from_pairs : {s : _} (w : List ℕ) → chunks_rest s ≡ w → chunks_size s ≡ 2 → YieldsList chunks_steps (λ x. x.now) s (pairs w)
YieldsList-from_pairs {s = s} w e z =
    subst (λ v. YieldsList chunks_steps (λ x. x.now) s (pairs v)) e
    (YieldsList-from_shown_while chunks_steps (λ x. x.now) (λ t. pairs (chunks_rest t)) (λ t. chunks_size t ≡ 2)
    (λ t u p h. pairs-none _ h.1.0)
    (λ t x u p h. (h.0 ∙ p, pairs-front _ x.now _ h.1.0 (rw p at h.1.1) h.1.2))
    s z)
