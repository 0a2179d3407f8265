-- Laws of fields said one after the other: the bytes of those passed, and what the words left say of the fields left (`OnWay`).
-- An octet of the line makes four bytes at most, so there is room for each word that is left. Assumes nothing.
use mathlib.Core.Path.{◌≡◌, refl, sym, ap, ◌∙◌}
use mathlib.Core.List.{List, [], ◌∷◌, ◌++◌, append_assoc, append-nil}
use mathlib.Core.Option.{Option, none, some, bind, Option-elim}
use Prim.Native.Nat.{ℕ, suc, ◌+◌, ◌*◌, ◌≤◌}
use native.Mathlib.Omega.{arith}
use lib.ListN.{length, length-append}
use Rattle.numbers.specs.Laid.{laid}
use Rattle.numbers.proofs.Laid.{laid_nil, length-laid, laid-laid}
use Rattle.rows.specs.Fields.{Field}
use Rattle.text_words.specs.Words.{between, words_from, Filling, Unfilled}
use Rattle.text_words.proofs.Words.{never}
use Rattle.text_words.proofs.WordsFrom.{WordAt, word-length}
use Rattle.text_fields.specs.FieldWords.{field_said, word_bytes}
use Rattle.text_fields.specs.RowWords.{Said, said, after, fields_said, fields_front, Roomy, Placing}

after-after : (a b : List ℕ) (o : Option Said) → after a (after b o) ≡ after (a ++ b) o
after-after a b none = refl
after-after a b (some s) = ap (λ u. some (said u s.rest)) (sym (append_assoc a b s.of))

after-nil : (o : Option Said) → o ≡ after [] o
after-nil none = refl
after-nil (some s) = refl

-- one field more
front-step : (o : Option (List ℕ)) (rest : Option Said) (front : List ℕ) {s : Said} → ((x : Said) → rest ≡ some x → front ≡ x.of)
    → bind o (λ b. after b rest) ≡ some s → Option-elim o [] (λ b. b ++ front) ≡ s.of
unfolding bind Option-elim
front-step none rest front h e = never e
front-step (some b) none front h e = never e
front-step (some b) (some x) front {s} h e = let q : said (b ++ x.of) x.rest ≡ s = cc in ap (λ u. b ++ u) (h x refl) ∙ ap (λ u. u.of) q

-- what is said whole is its front
pub fields-front : (ks : List Field) (ws : List (List ℕ)) {s : Said} → fields_said ks ws ≡ some s → fields_front ks ws ≡ s.of
unfolding fields_said fields_front
fields-front [] ws {s} e = let q : said [] ws ≡ s = cc in ap (λ x. x.of) q
fields-front (k ∷ ks) [] e = never e
fields-front (k ∷ ks) (w ∷ ws) {s} e = front-step (field_said k w) (fields_said ks ws) (fields_front ks ws) (λ x q. fields-front ks ws q) e

-- the bytes of the fields passed are laid up to k, and the fields ks are left for the words from a on
pub record OnWay (all : List Field) (line found out : List ℕ) (from at : ℕ) (ks : List Field) (a k : ℕ) : Type 0 where
  done : List ℕ
  makes : fields_said all (words_from at line) ≡ after done (fields_said ks (words_from a line))
  fronts : fields_front all (words_from at line) ≡ done ++ fields_front ks (words_from a line)
  lays : out ≡ laid from done found
  ends : k ≡ from + length done
  next_in : a ≤ suc (length line)
  short : k + 4 * at ≤ from + 4 * a
  room : k + 4 * suc (length line) ≤ length found + 4 * a

pub way-start : (ks : List Field) {line : List ℕ} {at : ℕ} {out : List ℕ} {from : ℕ} → Roomy line at out from → OnWay ks line out out from at ks at from
way-start ks {line} {at} {out} {from} r = record {
  done = [];
  makes = after-nil (fields_said ks (words_from at line));
  fronts = refl;
  lays = sym (laid_nil from out);
  ends = omega arith;
  next_in = r.at_in;
  short = omega arith;
  room = r.room;
}

module _ {all : List Field} {line found out : List ℕ} {from at : ℕ} {ks : List Field} {a k : ℕ} (y : OnWay all line found out from at ks a k) where
  inside : from + length y.done ≤ length found
  inside = omega (arith, y.ends, y.next_in, y.room)

  size : length out ≡ length found
  size = ap length y.lays ∙ length-laid from y.done found inside

  -- no byte more
  stops : fields_front ks (words_from a line) ≡ [] → out ≡ laid from (fields_front all (words_from at line)) found
  stops e = y.lays ∙ ap (λ u. laid from u found) (sym (y.fronts ∙ ap (λ u. y.done ++ u) e ∙ append-nil y.done))

module _ {all : List Field} {line found out : List ℕ} {from at a k : ℕ} where
  module _ {f : Field} {ks : List Field} (y : OnWay all line found out from at (f ∷ ks) a k) where
    -- the next word is missing
    module _ (n : words_from a line ≡ []) where
      pub missing-none : fields_said all (words_from at line) ≡ none
      unfolding fields_said
      missing-none = y.makes ∙ rw n

      pub missing-lays : out ≡ laid from (fields_front all (words_from at line)) found
      unfolding fields_front
      missing-lays = stops y (rw n)

    module _ {end : ℕ} (w : WordAt a line end) where
      pub word_room : k + word_bytes (between a end line) ≤ length out
      word_room = omega (arith, y.room, word-length w, w.inside, size y)

      -- it is malformed
      module _ {out' : List ℕ} (u : Unfilled out out' (field_said f (between a end line))) where
        pub bad-none : fields_said all (words_from at line) ≡ none
        unfolding fields_said bind
        bad-none = y.makes ∙ rw (w.is, u.is)

        pub bad-lays : out' ≡ laid from (fields_front all (words_from at line)) found
        unfolding fields_front Option-elim
        bad-lays = u.kept ∙ stops y (rw (w.is, u.is))

      pub way_next : {m : ℕ} {out' : List ℕ} → Filling m k (word_bytes (between a end line)) out out' (field_said f (between a end line))
          → OnWay all line found out' from at ks (end + 1) m
      unfolding fields_said fields_front bind Option-elim
      way_next g = record {
        done = y.done ++ g.of;
        makes = y.makes ∙ rw (w.is, g.is) (after-after y.done g.of (fields_said ks (words_from (end + 1) line)));
        fronts = y.fronts ∙ rw (w.is, g.is) (sym (append_assoc y.done g.of (fields_front ks (words_from (end + 1) line))));
        lays =
            g.lays ∙ ap (laid k g.of) y.lays ∙ ap (λ n. laid n g.of (laid from y.done found)) y.ends
            ∙ laid-laid from y.done g.of found (inside y);
        ends = omega (arith, g.ends, y.ends, length-append y.done g.of);
        next_in = omega (arith, w.inside);
        short = omega (arith, y.short, word-length w, g.short);
        room = omega (arith, y.room, word-length w, g.short);
      }

  -- no field is left
  module _ (y : OnWay all line found out from at [] a k) where
    pub end-places : Placing k a from at line (fields_said all (words_from at line))
    unfolding fields_said
    end-places = record {
      of = y.done;
      is = y.makes ∙ ap (λ u. some (said u (words_from a line))) (append-nil y.done);
      ends = y.ends;
      next_in = y.next_in;
      short = y.short;
    }

    pub end-lays : out ≡ laid from (fields_front all (words_from at line)) found
    unfolding fields_front
    end-lays = stops y refl
