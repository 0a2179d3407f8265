-- Laws of words. `run` is how far the first mark stands, so that the octets before it are the first part and those behind it make the others.
-- A number that digits say only grows with each digit, so that one that is too large stays so. What is read part by part is what was read, and
-- what the rest says behind it. Assumes nothing.
use mathlib.Core.Path.{◌≡◌, refl, sym, ap, subst, ◌∙◌}
use mathlib.Core.Bool.{true, false}
use mathlib.Core.List.{List, [], ◌∷◌, ◌++◌, append-nil}
use mathlib.Core.Option.{Option, none, some, map}
use Prim.Native.Nat.{ℕ, zero, suc, ◌+◌, ◌-◌, ◌*◌, ◌≤◌, ◌<◌}
use native.Mathlib.Omega.{arith}
use native.Mathlib.Numerals.{add-one}
use lib.Dec.{eqb}
use lib.ListN.{length, take, drop, set, get_or, length-drop, length-append, drop_of_length-le}
use lib.Seq.{drop-cons, drop-drop, take-length, append_snoc}
use borrow.Author.Tests.{lt-ltb, le-ltb}
use Rattle.std.specs.Prelude.{Some, None}
use Rattle.std.specs.Char.{digit_value}
use Rattle.std.proofs.lemmas.Str.{digit_value_digit}
use Rattle.std.proofs.lemmas.Str.Parse.{digit_from_value}
use Rattle.numbers.specs.Laid.{laid}
use Rattle.numbers.specs.Order.{same}
use Rattle.numbers.proofs.Laid.{laid_nil, length-laid, laid-laid, laid-set}
use Rattle.numbers.proofs.Bools.{split as by, clash}
use Rattle.numbers.proofs.Orders.{same_true}
use Rattle.rows.specs.Fields.{within}
use Rattle.rows.proofs.Sound.{within-least, within-most}
use Rattle.rows.proofs.Steps.{within-yes}
use Rattle.text_words.specs.Types.{Number}
use Rattle.text_words.specs.Words.{between, longer, split, run, Ends, digits_from, below32, decimal, number_of, also, is_said, dash, hex_digit, hex_pair, hex_pairs}
use Rattle.text_words.specs.Words.{hex_octets, decimals, dotted, Filling, Unfilled}

pub never : {P A : Type 0} {x : A} → none ≡ some x → P
never {P} {A} {x} e = let z : ◌≡◌ {A = ℕ} 0 1 = cc in absurd (omega arith)

-- ---- how far the first mark stands

pub run-most : (mark : ℕ) (v : List ℕ) → run mark v ≤ length v
unfolding run
run-most mark [] = omega arith
run-most mark (x ∷ xs) =
    by (eqb x mark) (λ e. rw e (omega arith)) (λ e. rw e (let h = run-most mark xs in omega arith))

-- the library's index of the mark, where it finds one, and where it finds none
pub run-first : (mark : ℕ) (v : List ℕ) (r : ℕ) → r < length v → ((k : ℕ) → k < r → eqb (get_or v k 0) mark ≡ true → ⊥) → eqb (get_or v r 0) mark ≡ true
    → run mark v ≡ r
unfolding run
run-first mark [] r h other here = absurd (omega arith)
run-first mark (x ∷ xs) zero h other here = rw here
run-first mark (x ∷ xs) (suc r) h other here =
    by (eqb x mark) (λ e. absurd (other 0 (omega arith) e))
    (λ e. rw e (ap suc (run-first mark xs r (omega arith) (λ k l. other (suc k) (omega arith)) here)))

pub run-nowhere : (mark : ℕ) (v : List ℕ) → ((k : ℕ) → k < length v → eqb (get_or v k 0) mark ≡ true → ⊥) → run mark v ≡ length v
unfolding run
run-nowhere mark [] other = refl
run-nowhere mark (x ∷ xs) other =
    by (eqb x mark) (λ e. absurd (other 0 (omega arith) e)) (λ e. rw e (ap suc (run-nowhere mark xs (λ k l. other (suc k) (omega arith)))))

-- in the octets from `at` on
module _ (mark : ℕ) (s : List ℕ) (at : ℕ) (h : at ≤ length s) where
  rest-all : take (length s - at) (drop at s) ≡ drop at s
  rest-all = let e : length s - at ≡ length (drop at s) = omega (arith, length-drop at s) in rw e (take-length (drop at s))

  pub ends-first : (r : ℕ) → let v = take (length s - at) (drop at s) in r < length v → ((k : ℕ) → k < r → eqb (get_or v k 0) mark ≡ true → ⊥)
      → eqb (get_or v r 0) mark ≡ true → Ends mark s at (at + r)
  ends-first r l other here =
      let v = take (length s - at) (drop at s) in
      let e : run mark (drop at s) ≡ r = subst (λ u. run mark u ≡ r) rest-all (run-first mark v r l other here) in
      let k : r < length (drop at s) = subst (λ u. r < length u) rest-all l in
      record { ends = ap (λ m. at + m) (sym e); inside = omega (arith, k, length-drop at s) }

  pub ends-nowhere : let v = take (length s - at) (drop at s) in ((k : ℕ) → k < length v → eqb (get_or v k 0) mark ≡ true → ⊥) → Ends mark s at (length s)
  ends-nowhere other =
      let v = take (length s - at) (drop at s) in
      let e : run mark v ≡ length v = run-nowhere mark v other in
      let q : run mark (drop at s) ≡ length (drop at s) = subst (λ u. run mark u ≡ length u) rest-all e in
      record { ends = omega (arith, q, length-drop at s); inside = omega arith }

-- ---- parts

module _ (mark x : ℕ) (xs : List ℕ) where
  pub run-mark : eqb x mark ≡ true → run mark (x ∷ xs) ≡ 0
  unfolding run
  run-mark e = rw e

  pub run-other : eqb x mark ≡ false → run mark (x ∷ xs) ≡ suc (run mark xs)
  unfolding run
  run-other e = rw e

  pub split-mark : eqb x mark ≡ true → split mark (x ∷ xs) ≡ [] ∷ split mark xs
  unfolding split
  split-mark e = rw e

  pub split-other : eqb x mark ≡ false → split mark (x ∷ xs) ≡ longer x (split mark xs)
  unfolding split
  split-other e = rw e

-- no mark: one part
pub split-last : (mark : ℕ) (v : List ℕ) → run mark v ≡ length v → split mark v ≡ v ∷ []
unfolding split
split-last mark [] h = refl
split-last mark (x ∷ xs) h =
    by (eqb x mark) (λ e. absurd (omega (arith, run-mark mark x xs e)))
    (λ e. split-other mark x xs e ∙ ap (longer x) (split-last mark xs (omega (arith, run-other mark x xs e))))

-- a mark: the part before it, and the others
pub split-next : (mark : ℕ) (v : List ℕ) → run mark v < length v → split mark v ≡ take (run mark v) v ∷ split mark (drop (run mark v + 1) v)
split-next mark [] h = absurd (omega arith)
split-next mark (x ∷ xs) h =
    by (eqb x mark) (λ e. let r = run-mark mark x xs e in split-mark mark x xs e ∙ sym (rw r))
    (λ e.
    let r = run-other mark x xs e in
    split-other mark x xs e ∙ ap (longer x) (split-next mark xs (omega arith)) ∙ sym (rw (r, add-one, add-one)))

-- the same of a part that begins at `at` and ends at `end`
module _ (mark : ℕ) (s : List ℕ) (at end : ℕ) (e : end ≡ at + run mark (drop at s)) where
  pub part-last : end ≡ length s → split mark (drop at s) ≡ between at end s ∷ []
  part-last h =
      let l = length-drop at s in
      let m = run-most mark (drop at s) in
      let r : run mark (drop at s) ≡ length (drop at s) = omega arith in
      let n : end - at ≡ length (drop at s) = omega arith in
      split-last mark (drop at s) r ∙ ap (λ p. p ∷ []) (sym (rw n (take-length (drop at s))))

  pub part-next : end < length s → split mark (drop at s) ≡ between at end s ∷ split mark (drop (end + 1) s)
  part-next h =
      let l = length-drop at s in
      let r : run mark (drop at s) < length (drop at s) = omega arith in
      let n : end - at ≡ run mark (drop at s) = omega arith in
      let k : at + (run mark (drop at s) + 1) ≡ end + 1 = omega arith in
      split-next mark (drop at s) r ∙ sym (rw (n, ← k, ← drop-drop (run mark (drop at s) + 1) at s))

-- there is always a part
pub split-some : (mark : ℕ) (v : List ℕ) → 1 ≤ length (split mark v)
unfolding split
split-some mark [] = omega arith
split-some mark (x ∷ xs) = by (eqb x mark) (λ e. rw e (omega arith)) (λ e. rw e (longer-some x (split mark xs)))
  where
    longer-some : (x : ℕ) (ps : List (List ℕ)) → 1 ≤ length (longer x ps)
    longer-some x [] = omega arith
    longer-some x (p ∷ ps) = omega arith

-- ---- a number

-- too large, and so it stays
digits-large : (n : ℕ) (cs : List ℕ) → 4294967296 ≤ n → below32 (digits_from n cs) ≡ none
unfolding digits_from
digits-large n [] h = rw (le-ltb n 4294967296 h)
digits-large n (c ∷ cs) h =
    by (within 48 57 c) (λ e. rw e (digits-large (n * 10 + (c - 48)) cs (omega arith))) (λ e. rw e)

decimal-some : (w : List ℕ) → 0 < length w → decimal w ≡ below32 (digits_from 0 w)
unfolding decimal
decimal-some [] h = absurd (omega arith)
decimal-some (c ∷ cs) h = refl

pub decimal-empty : (w : List ℕ) → length w ≡ 0 → decimal w ≡ none
unfolding decimal
decimal-empty [] h = refl
decimal-empty (c ∷ cs) h = absurd (omega arith)

-- the digits up to i say n
pub record Reading (w : List ℕ) (i n : ℕ) : Type 0 where
  pub some_digits : 0 < length w
  pub passed : i ≤ length w
  pub small : n < 4294967296
  pub says : digits_from 0 w ≡ digits_from n (drop i w)

pub reading-start : (w : List ℕ) → 0 < length w → Reading w 0 0
reading-start w h = record { some_digits = h; passed = omega arith; small = omega arith; says = refl }

module _ {w : List ℕ} {i n : ℕ} (r : Reading w i n) where
  pub reading-end : length w ≤ i → decimal w ≡ some n
  unfolding digits_from
  reading-end h = decimal-some w r.some_digits ∙ rw (r.says, drop_of_length-le w h, lt-ltb n 4294967296 r.small)

  module _ (h : i < length w) (c : ℕ) (e : c ≡ get_or w i 0) where
    digit-bad : within 48 57 c ≡ false → digits_from 0 w ≡ none
    unfolding digits_from
    digit-bad b = r.says ∙ rw (drop-cons w i 0 h, ← e, b)

    digit-next : 48 ≤ c → c ≤ 57 → digits_from 0 w ≡ digits_from (n * 10 + (c - 48)) (drop (i + 1) w)
    unfolding digits_from
    digit-next a b = r.says ∙ rw (drop-cons w i 0 h, ← e, within-yes 48 57 c a b, add-one)

    -- the library takes it for no digit
    pub reading-bad : (digit_value c < 10 → ⊥) → decimal w ≡ none
    reading-bad b =
        decimal-some w r.some_digits
        ∙ rw (digit-bad (by (within 48 57 c) (λ t. absurd (b (omega (arith, digit_value_digit c (within-least 48 57 c t, within-most 48 57 c t), within-most 48 57 c t)))) (λ f. f)))

    module _ (d : digit_value c < 10) where
      digit-adds : digits_from 0 w ≡ digits_from (n * 10 + digit_value c) (drop (i + 1) w)
      digit-adds =
          let k = digit_from_value c d in
          let v : digit_value c ≡ c - 48 = omega (arith, digit_value_digit c k) in
          rw v (digit-next k.0 k.1)

      pub reading-large : 4294967295 < n * 10 + digit_value c → decimal w ≡ none
      reading-large l = decimal-some w r.some_digits ∙ rw digit-adds (digits-large _ _ l)

      pub reading-next : {m : ℕ} → m ≡ n * 10 + digit_value c → m ≤ 4294967295 → Reading w (i + 1) m
      reading-next q l = rw q (record { some_digits = r.some_digits; passed = omega arith; small = omega arith; says = digit-adds })

-- ---- what is read part by part

-- what was read, and then what is left
behind : List ℕ → Option (List ℕ) → Option (List ℕ)
behind xs o = map (λ ys. xs ++ ys) o

behind-nil : (o : Option (List ℕ)) → o ≡ behind [] o
unfolding behind
behind-nil none = refl
behind-nil (some xs) = refl

behind-next : (xs : List ℕ) (x : ℕ) (left : Option (List ℕ)) → behind xs (also (some x) left) ≡ behind (xs ++ (x ∷ [])) left
unfolding behind
behind-next xs x none = refl
behind-next xs x (some ys) = ap some (sym (append_snoc xs x ys))

-- what was read was laid from `from` on, up to n, and with what is left it makes all that is said
pub record Reads (said : Option (List ℕ)) (found out : List ℕ) (from n : ℕ) (left : Option (List ℕ)) : Type 0 where
  done : List ℕ
  makes : said ≡ behind done left
  lays : out ≡ laid from done found
  ends : n ≡ from + length done
  pub inside : n ≤ length found

pub reads-start : (said : Option (List ℕ)) (found : List ℕ) (from : ℕ) → from ≤ length found → Reads said found found from from said
reads-start said found from h = record { done = []; makes = behind-nil said; lays = sym (laid_nil from found); ends = omega arith; inside = h }

module _ {said : Option (List ℕ)} {found out : List ℕ} {from n : ℕ} {left : Option (List ℕ)} (r : Reads said found out from n left) where
  -- nothing is said, whatever was read
  pub reads_none : left ≡ none → said ≡ none
  unfolding behind
  reads_none e = r.makes ∙ rw e

  module _ (part : Option ℕ) (rest : Option (List ℕ)) (e : left ≡ also part rest) where
    pub reads-bad : part ≡ none → said ≡ none
    reads-bad q = reads_none (e ∙ ap (λ u. also u rest) q)

    -- the next part says x
    pub reads-next : {x : ℕ} → part ≡ some x → n < length found → Reads said found (set out n x) from (n + 1) rest
    reads-next {x} q h =
        let k : from + length r.done ≤ length found = omega (arith, r.ends, r.inside) in
        let l : length out ≡ length found = ap length r.lays ∙ length-laid from r.done found k in
        record {
          done = r.done ++ (x ∷ []);
          makes = r.makes ∙ ap (behind r.done) (e ∙ ap (λ u. also u rest) q) ∙ behind-next r.done x rest;
          lays =
              laid-set n x out (omega arith) ∙ ap (laid n (x ∷ [])) r.lays
              ∙ ap (λ m. laid m (x ∷ []) (laid from r.done found)) r.ends
              ∙ laid-laid from r.done (x ∷ []) found k;
          ends = omega (arith, r.ends, length-append r.done (x ∷ []));
          inside = omega arith;
        }

  pub reads_end : {most : ℕ} → left ≡ some [] → n ≤ from + most → Filling n from most found out said
  unfolding behind
  reads_end e h = record {
    of = r.done;
    is = r.makes ∙ rw e (ap some (append-nil r.done));
    lays = r.lays;
    ends = r.ends;
    inside = r.inside;
    short = h;
  }

-- nothing was written, and nothing is said, or the empty list
pub unsaid : {A : Type 0} (found : List ℕ) {said : Option A} → said ≡ none → Unfilled found found said
unsaid found e = record { is = e; kept = refl }

pub empty-said : (from most : ℕ) (found : List ℕ) {said : Option (List ℕ)} → said ≡ some [] → from ≤ length found
    → Filling from from most found found said
empty-said from most found e h =
    record { of = []; is = e; lays = sym (laid_nil from found); ends = omega arith; inside = h; short = omega arith }

-- ---- a name

pub hex-empty : (w : List ℕ) → length w ≡ 0 → hex_octets w ≡ none
unfolding hex_octets
hex-empty [] h = refl
hex-empty (c ∷ cs) h = absurd (omega arith)

pub hex-dash : (w : List ℕ) → same w dash ≡ true → hex_octets w ≡ some []
unfolding hex_octets same
hex-dash [] h = clash h refl
hex-dash (c ∷ cs) h = rw h

pub hex-some : (w : List ℕ) → (length w ≡ 0 → ⊥) → same w dash ≡ false → hex_octets w ≡ hex_pairs w
unfolding hex_octets
hex-some [] n h = absurd (n refl)
hex-some (c ∷ cs) n h = rw h

-- one pair more
pair-length : (n : ℕ) (part : Option ℕ) (rest : Option (List ℕ)) (x : List ℕ) → ((xs : List ℕ) → rest ≡ some xs → n ≡ 2 * length xs)
    → also part rest ≡ some x → n + 2 ≡ 2 * length x
pair-length n none rest x h e = never e
pair-length n (some y) none x h e = never e
pair-length n (some y) (some ys) x h e = let q : y ∷ ys ≡ x = cc in omega (arith, h ys refl, ap length q)

pairs-length : (w x : List ℕ) → hex_pairs w ≡ some x → length w ≡ 2 * length x
unfolding hex_pairs
pairs-length [] x e = let q : [] ≡ x = cc in omega (arith, ap length q)
pairs-length (a ∷ []) x e = never e
pairs-length (a ∷ b ∷ cs) x e =
    omega (arith, pair-length (length cs) (hex_pair (hex_digit a) (hex_digit b)) (hex_pairs cs) x (λ xs q. pairs-length cs xs q) e)

-- two digits an octet, but for `-`
pub hex-length : (w x : List ℕ) → hex_octets w ≡ some x → 2 ≤ length w → length w ≡ 2 * length x
unfolding hex_octets
hex-length [] x e h = never e
hex-length (c ∷ cs) x e h =
    by (same (c ∷ cs) dash) (λ t. absurd (omega (arith, ap length (same_true (c ∷ cs) dash t))))
    (λ f. pairs-length (c ∷ cs) x (rw f at e))

-- ---- an identifier

pub dotted-dash : (w : List ℕ) → same w dash ≡ true → dotted w ≡ some []
unfolding dotted
dotted-dash w h = rw h

pub dotted-some : (w : List ℕ) → same w dash ≡ false → dotted w ≡ decimals (split 46 w)
unfolding dotted
dotted-some w h = rw h

-- ---- hex digits

-- a hex digit says less than 16
pub hex-below : (c x : ℕ) → hex_digit c ≡ some x → x < 16
unfolding hex_digit
hex-below c x e =
    by (within 48 57 c)
    (λ a. let s : some (c - 48) ≡ some x = rw a at e in let l = within-most 48 57 c a in let y : c - 48 ≡ x = cc in omega arith)
    (λ a. by (within 97 102 c)
    (λ b. let s : some (c - 87) ≡ some x = rw (a, b) at e in let l = within-most 97 102 c b in let y : c - 87 ≡ x = cc in omega arith)
    (λ b. by (within 65 70 c)
    (λ d. let s : some (c - 55) ≡ some x = rw (a, b, d) at e in let l = within-most 65 70 c d in let y : c - 55 ≡ x = cc in omega arith)
    (λ d. let s : none ≡ some x = rw (a, b, d) at e in let z : ◌≡◌ {A = ℕ} 0 1 = cc in absurd (omega arith))))

-- what a number that was read says
pub number_is : {r : Number} {o : Option ℕ} (x : ℕ) → r ≡ Some x → number_of r ≡ o → o ≡ some x
number_is x e q = sym q ∙ ap number_of e

pub number-bad : {r : Number} {o : Option ℕ} → r ≡ None → number_of r ≡ o → o ≡ none
number-bad e q = sym q ∙ ap number_of e

-- ---- whether something is said

pub said-none : {A : Type 0} (o : Option A) → is_said o ≡ false → o ≡ none
said-none none e = refl
said-none (some x) e = clash refl e

pub said-not : {A P : Type 0} {o : Option A} → is_said o ≡ true → o ≡ none → P
said-not t n = clash t (ap is_said n)
