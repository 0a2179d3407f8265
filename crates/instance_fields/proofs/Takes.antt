-- Laws of what is taken from an index.
-- A field is taken or not by the part, or the count, at its place (`Fields`), and its bytes are laid into the key: a
-- count and what it counts are laid one behind the other. Assumes nothing.
use mathlib.Core.Path.{◌≡◌, refl, sym, ap, ◌∙◌}
use mathlib.Core.Bool.{Bool, true, false, cond}
use mathlib.Core.List.{List, [], ◌∷◌}
use mathlib.Core.Option.{none, some}
use Prim.Native.Nat.{ℕ, ◌+◌, ◌≤◌, ◌<◌}
use native.Mathlib.Nat.{mul-le-mul_right}
use native.Mathlib.Omega.{arith}
use lib.ListN.{length, take, drop, get_or, set, replicate, length-drop}
use lib.Seq.{drop-drop, length-take-le}
use Rattle.std.specs.Prelude.{Some, None}
use Rattle.numbers.specs.BigEndian.{Width, size, bound, bytes, bytes_of, fit}
use Rattle.rows.specs.Fields.{Field, sequence, integer, within, field_bytes, row_bytes, legal}
use Rattle.numbers.proofs.BigEndian.{length-bytes, length-bytes_of}
use Rattle.rows.proofs.Sound.{within-most}
use Rattle.rows.proofs.Bounds.{longest_field}
use Rattle.numbers.proofs.Bools.{and_left}
use Rattle.instance_fields.specs.Types.{Read}
use Rattle.numbers.specs.Laid.{laid}
use Rattle.instance_fields.specs.Reading.{part_at, count_at, any_part, Reads, ReadsField, ReadsFields, parts_front, field_front, key_front}
use Rattle.instance_fields.proofs.Fields.{count_of, parse-integer, parse-sequence, singles, parse-parts, bytes-parts}
use Rattle.instance_fields.proofs.Fields.{part_front, count_front, front-integer, front-sequence, parts-front}
use Rattle.numbers.proofs.Laid.{laid_nil, laid-set, laid-laid}

-- a count laid, and what it counts behind it
laid-counted : (at n : ℕ) (b w : List ℕ) → at + 1 ≤ length w → laid (at + 1) b (set w at n) ≡ laid at (n ∷ b) w
laid-counted at n b w h = rw (laid-set at n w (omega arith)) (laid-laid at (n ∷ []) b w h)

module _ (w : Width) (lo hi : ℕ) (index : List ℕ) (at byte : ℕ) where
  -- ---- a number

  module _ (h : hi < bound w) where
    module _ (e : part_at lo hi index at ≡ None) where
      pub number-bad : ReadsField (integer w lo hi) index at byte None
      number-bad = rw (parse-integer w lo hi index at h, e) refl

      pub number-unlaid : (found : List ℕ) → found ≡ laid byte (field_front (integer w lo hi) (drop at index)) found
      number-unlaid found = sym (ap (λ u. laid byte u found) (front-integer w lo hi index at h ∙ ap (part_front w) e) ∙ laid_nil byte found)

    module _ {x next left : ℕ} (e : part_at lo hi index at ≡ Some (x, next, left)) where
      pub number-taken : (end : ℕ) → end ≡ byte + size w → ReadsField (integer w lo hi) index at byte (Some (next, end))
      number-taken end p =
          rw (parse-integer w lo hi index at h, e) (record {
            next = next;
            end = end;
            answer_is = refl;
            rest_is = refl;
            byte_is = p ∙ ap (λ n. byte + n) (sym (length-bytes w x));
          })

      pub number-laid : (found after : List ℕ) → after ≡ laid byte (bytes w x) found
          → after ≡ laid byte (field_front (integer w lo hi) (drop at index)) found
      number-laid found after b = b ∙ ap (λ u. laid byte u found) (sym (front-integer w lo hi index at h ∙ ap (part_front w) e))

  -- ---- a sequence

  module _ (e : count_at lo hi index at ≡ None) where
    pub sequence-bad : ReadsField (sequence w lo hi) index at byte None
    sequence-bad = rw (parse-sequence w lo hi index at, e) refl

    pub sequence-unlaid : (found : List ℕ) → found ≡ laid byte (field_front (sequence w lo hi) (drop at index)) found
    sequence-unlaid found = sym (ap (λ u. laid byte u found) (front-sequence w lo hi index at ∙ ap (count_front w index) e) ∙ laid_nil byte found)

  module _ {n next left : ℕ} (e : count_at lo hi index at ≡ Some (n, next, left)) where
    follow : n ≤ length (drop next index)
    follow = let c = count_of lo hi index at e in omega (arith, c.0.next_is, c.0.left_is, c.1, length-drop next index)

    parts-length : length (take n (drop next index)) ≡ n
    parts-length = length-take-le n (drop next index) follow

    parts-bytes : row_bytes (replicate n (any_part w)) (singles (take n (drop next index))) ≡ bytes_of w (take n (drop next index))
    parts-bytes =
        let xs = take n (drop next index) in
        ap (λ m. row_bytes (replicate m (any_part w)) (singles xs)) (sym parts-length) ∙ bytes-parts w xs

    behind-count : (r : Read) (b : Bool)
        → Reads (row_bytes (replicate n (any_part w)))
        (cond b (some (record { holds = singles (take n (drop next index)); rest = drop n (drop next index) })) none)
        index (byte + 1) r
        → Reads (field_bytes (sequence w lo hi)) (cond b (some (record { holds = take n (drop next index); rest = drop (next + n) index })) none)
        index byte r
    behind-count r false g = g
    behind-count r true g = record {
      next = g.next;
      end = g.end;
      answer_is = g.answer_is;
      rest_is = sym (drop-drop n next index) ∙ g.rest_is;
      byte_is = omega (arith, g.byte_is, ap length parts-bytes);
    }

    pub sequence-read : (r : Read) → ReadsFields (replicate n (any_part w)) index next (byte + 1) r → ReadsField (sequence w lo hi) index at byte r
    sequence-read r g =
        rw (parse-sequence w lo hi index at, e)
        (behind-count r (fit w (take n (drop next index))) (rw (parse-parts w n (drop next index) follow) at g))

    pub sequence-laid : (found after : List ℕ) → byte + 1 ≤ length found
        → after ≡ laid (byte + 1) (key_front (replicate n (any_part w)) (drop next index)) (set found byte n)
        → after ≡ laid byte (field_front (sequence w lo hi) (drop at index)) found
    sequence-laid found after h b =
        b ∙ ap (λ u. laid (byte + 1) u (set found byte n)) (parts-front w n (drop next index) follow)
        ∙ laid-counted byte n (parts_front w (take n (drop next index))) found h
        ∙ ap (λ u. laid byte u found) (sym (front-sequence w lo hi index at ∙ ap (count_front w index) e))

-- ---- what is legal is no longer than its field allows

pub bytes_most : (k : Field) (x : List ℕ) → legal k x ≡ true → length (field_bytes k x) ≤ longest_field k
bytes_most (sequence w lo hi) x h =
    let m : length x ≤ hi = within-most lo hi (length x) (and_left (within lo hi (length x)) (fit w x) h) in
    omega (arith, length-bytes_of w x, mul-le-mul_right (size w) m)
bytes_most (integer w lo hi) x h = omega (arith, length-bytes w (get_or x 0 0))
