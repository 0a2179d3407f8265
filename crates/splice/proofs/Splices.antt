-- Laws of `spliced` and `spliced_two`. `new` goes where the elements moved away from, which makes the list spliced.
-- Of two parts, what stands between them and what stands behind them can be moved in one order at least, and `new` goes between.
-- For the callers: in a list of parts `head` and `new` are in two parts' places. Assumes nothing.
use mathlib.Core.Path.{◌≡◌, ap, ◌∙◌}
use mathlib.Core.List.{List, ◌++◌, append_assoc}
use Prim.Native.Nat.{ℕ, ◌+◌, ◌-◌, ◌≤◌}
use native.Mathlib.Omega.{arith}
use lib.ListN.{length, take, drop, length-append, length-drop}
use lib.Seq.{drop_at, length-take-le, paste, take_at, take-length}
use Rattle.splice.specs.Moves.{moved}
use Rattle.splice.proofs.Moves.{front_same, drop_past}
use Rattle.splice.specs.Splice.{spliced, spliced_two}

-- within the bounds that `splice` requires
module _ (w : List ℕ) (at gone end : ℕ) (new : List ℕ) (h : at + gone ≤ end) (l : end ≤ length w) (r : end - gone + length new ≤ length w) where
  -- `new` goes where the elements moved away from
  pub paste-moved : paste (moved w (at + gone) end (at + length new)) at new (length new) ≡ spliced w at gone end new
  paste-moved =
      let n : ℕ = length new in
      let e : at + n + (end - (at + gone)) ≡ end - gone + n = omega arith in
      let back : List ℕ = take (end - (at + gone)) (drop (at + gone) w) ++ drop (at + n + (end - (at + gone))) w in
      let len : length (take (at + n) w) ≡ at + n = length-take-le (at + n) w (omega arith) in
      let front : take at (take (at + n) w ++ back) ≡ take at w = front_same w back (at + n) 0 at (omega arith) (omega arith) in
      let behind : drop (at + n) (take (at + n) w ++ back) ≡ back = drop_at (take (at + n) w) back (at + n) len in
      rw (front, take-length new, behind, e, append_assoc)

  -- what stands up to the new end, and what lies past it
  abbrev ends : ℕ
  ends = end - gone + length new

  abbrev kept : List ℕ
  kept = take at w ++ (new ++ take (end - (at + gone)) (drop (at + gone) w))

  kept-ends : length kept ≡ ends
  kept-ends =
      let a : length (take at w) ≡ at = length-take-le at w (omega arith) in
      let b : length (drop (at + gone) w) ≡ length w - (at + gone) = length-drop (at + gone) w in
      let c : length (take (end - (at + gone)) (drop (at + gone) w)) ≡ end - (at + gone) =
      length-take-le (end - (at + gone)) (drop (at + gone) w) (omega arith) in
      simp length-append (omega arith)

  spliced-kept : spliced w at gone end new ≡ kept ++ drop ends w
  spliced-kept = simp append_assoc

  take-spliced : take ends (spliced w at gone end new) ≡ kept
  take-spliced = ap (take ends) spliced-kept ∙ take_at kept (drop ends w) ends kept-ends

  drop-spliced : (i : ℕ) → ends ≤ i → drop i (spliced w at gone end new) ≡ drop i w
  drop-spliced i k = drop_past (spliced w at gone end new) w ends i (ap (drop ends) spliced-kept ∙ drop_at kept (drop ends w) ends kept-ends) k

-- within the bounds that `splice_two` requires
module _ (w : List ℕ) (place had : ℕ) (head : List ℕ) (at gone end : ℕ) (new : List ℕ)
    (h : place + had ≤ at) (g : at + gone ≤ end) (l : end ≤ length w) (r : end - gone - had + length head + length new ≤ length w) where
  abbrev to : ℕ
  to = at - had + length head

  abbrev next : ℕ
  next = to + length new

  abbrev ahead : List ℕ
  ahead = take place w ++ (head ++ take (at - (place + had)) (drop (place + had) w))

  abbrev behind : List ℕ
  behind = take (end - (at + gone)) (drop (at + gone) w) ++ drop (end - gone - had + length head + length new) w

  -- `new` goes between what stands in front of it and what stands behind
  paste-between : (v : List ℕ) → take to v ≡ ahead → drop next v ≡ behind → paste v to new (length new) ≡ spliced_two w place had head at gone end new
  paste-between v a b = rw (a, take-length new, b) (simp append_assoc)

  past : next + (end - (at + gone)) ≡ end - gone - had + length head + length new
  past = omega arith

  -- what stands behind is moved first: it goes to no place in front of `at`
  pub behind-first : (u v : List ℕ) → at ≤ to → length u ≡ length w → u ≡ moved w (at + gone) end next → v ≡ spliced u place had at head
      → paste v to new (length new) ≡ spliced_two w place had head at gone end new
  behind-first u v k n e f =
      let back : List ℕ = take (end - (at + gone)) (drop (at + gone) w) ++ drop (next + (end - (at + gone))) w in
      let same : (i j : ℕ) → i + j ≤ next → take j (drop i u) ≡ take j (drop i w) = λ i j o. rw e (front_same w back next i j o (omega arith)) in
      let a : take to v ≡ ahead =
      ap (take to) f ∙ take-spliced u place had at head h (omega arith) (omega arith)
      ∙ rw (same 0 place (omega arith), same (place + had) (at - (place + had)) (omega arith)) in
      let b : drop next v ≡ behind =
      ap (drop next) f ∙ drop-spliced u place had at head h (omega arith) (omega arith) next (omega arith)
      ∙ ap (drop next) e ∙ drop_at (take next w) back next (length-take-le next w (omega arith)) ∙ rw past in
      paste-between v a b

  -- what stands between is moved first: it goes to no place behind `at`
  pub between_first : (u v : List ℕ) → to ≤ at → length u ≡ length w → u ≡ spliced w place had at head → v ≡ moved u (at + gone) end next
      → paste v to new (length new) ≡ spliced_two w place had head at gone end new
  between_first u v k n e f =
      let back : List ℕ = take (end - (at + gone)) (drop (at + gone) u) ++ drop (next + (end - (at + gone))) u in
      let same : (i : ℕ) → to ≤ i → drop i u ≡ drop i w = λ i o. ap (drop i) e ∙ drop-spliced w place had at head h (omega arith) (omega arith) i o in
      let a : take to v ≡ ahead =
      ap (take to) f ∙ front_same u back next 0 to (omega arith) (omega arith) ∙ ap (take to) e
      ∙ take-spliced w place had at head h (omega arith) (omega arith) in
      let b : drop next v ≡ behind =
      ap (drop next) f ∙ drop_at (take next u) back next (length-take-le next u (omega arith))
      ∙ rw (same (at + gone) (omega arith), past, same (end - gone - had + length head + length new) (omega arith)) in
      paste-between v a b

-- a list of parts: `head` stands for H and `new` for G, M and Y follow them, and behind Y is what lay there
module _ (w : List ℕ) (place had : ℕ) (head : List ℕ) (at gone end : ℕ) (new A H M G Y R : List ℕ)
    (e : w ≡ A ++ (H ++ (M ++ (G ++ (Y ++ R)))))
    (a : length A ≡ place) (b : length H ≡ had) (m : place + had + length M ≡ at) (g : length G ≡ gone) (y : at + gone + length Y ≡ end) where
  pub two-app : (tail : List ℕ) × (spliced_two w place had head at gone end new ≡ A ++ (head ++ (M ++ (new ++ (Y ++ tail)))))
  two-app =
      let n : at - (place + had) ≡ length M = omega arith in
      let k : end - (at + gone) ≡ length Y = omega arith in
      let front : take place w ≡ A = rw e (take_at A (H ++ (M ++ (G ++ (Y ++ R)))) place a) in
      let len : length (A ++ H) ≡ place + had = simp length-append (omega arith) in
      let between : drop (place + had) w ≡ M ++ (G ++ (Y ++ R)) = rw (e, ← append_assoc A H) (drop_at (A ++ H) (M ++ (G ++ (Y ++ R))) (place + had) len) in
      let all : length (A ++ (H ++ (M ++ G))) ≡ at + gone = simp length-append (omega arith) in
      let parts : w ≡ (A ++ (H ++ (M ++ G))) ++ (Y ++ R) = e ∙ simp append_assoc in
      let behind : drop (at + gone) w ≡ Y ++ R = rw parts (drop_at (A ++ (H ++ (M ++ G))) (Y ++ R) (at + gone) all) in
      (drop (end - gone - had + length head + length new) w, rw (front, between, behind, n, k, take_at M (G ++ (Y ++ R)) (length M), take_at Y R (length Y)))
