-- `text_fields::name` meets its contract: a word of more digits than 255 octets have says no name that is counted by one (`name-long`); else the
-- octets are read behind the place of their count, which is put last (`laid-front`). Assumes nothing.
use mathlib.Core.Path.{◌≡◌, ap, ◌∙◌}
use mathlib.Core.List.{◌∷◌}
use Prim.Native.Nat.{◌+◌, ◌-◌, ◌≤◌}
use native.Mathlib.Omega.{arith}
use lib.ListN.{length, set}
use Rattle.numbers.specs.BigEndian.{octet, bytes_of}
use Rattle.text_words.specs.Words.{hex_octets, Filling, Unfilled}
use Rattle.text_words.proofs.Words.{unsaid}
use Rattle.text_fields.specs.FieldWords.{octet_most}
use Rattle.text_fields.proofs.Buffers.{laid-front, bytes_of-octet}
use Rattle.text_fields.proofs.FieldWords.{counted_none, counted-some, name-long, name-short}
use Rattle.text_fields.proofs.name.Goals as goal

pub returns-then-word : goal.returns-then-word
returns-then-word c = unsaid _ (name-long _ c.if-word.true)

pub returns-in_err-end : goal.returns-in_err-end
returns-in_err-end c =
    let u : Unfilled _ _ _ = c.in_err-end.ensures in
    rw c.from_residual.ensures (record { is = counted_none octet u.is; kept = u.kept })

pub overflow_sub-out : goal.overflow_sub-out
overflow_sub-out c =
    let octets : let s = c.args in Filling c.in_ok-end.end (s.from + 1) (length s.word.now) s.out.now c.hex_octets.new.out (hex_octets s.word.now) = c.in_ok-end.ensures in
    omega (arith, (octets).ends)

pub overflow_cast-out : goal.overflow_cast-out
overflow_cast-out c =
    let octets : let s = c.args in Filling c.in_ok-end.end (s.from + 1) (length s.word.now) s.out.now c.hex_octets.new.out (hex_octets s.word.now) = c.in_ok-end.ensures in
    let few : length (octets).of ≤ octet_most = let f = octets in name-short c.args.word.now f.of f.is (omega (arith, f.ends, f.short)) c.if-word.false in
    omega (arith, (octets).ends, few)

pub returns : goal.returns
returns c =
    let octets : let s = c.args in Filling c.in_ok-end.end (s.from + 1) (length s.word.now) s.out.now c.hex_octets.new.out (hex_octets s.word.now) = c.in_ok-end.ensures in
    let few : length (octets).of ≤ octet_most = let f = octets in name-short c.args.word.now f.of f.is (omega (arith, f.ends, f.short)) c.if-word.false in
    let s = c.args in
    let f = octets in
    let l : c.in_ok-end.end - (s.from + 1) ≡ length f.of = omega (arith, f.ends) in
    record {
      of = length f.of ∷ bytes_of octet f.of;
      is = counted-some octet f.is few;
      lays =
          rw (l, bytes_of-octet f.of)
          (ap (λ u. set u s.from (length f.of)) f.lays
          ∙ laid-front s.from (length f.of) f.of s.out.now (omega (arith, c.requires)));
      ends = omega (arith, f.ends, ap length (bytes_of-octet f.of));
      inside = f.inside;
      short = omega (arith, f.short);
    }
