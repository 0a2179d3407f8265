-- Laws of a principal said in words: its three fields one after the other, and the first that is not said. Assumes nothing.
use mathlib.Core.Path.{◌≡◌}
use mathlib.Core.List.{List}
use mathlib.Core.Option.{none, bind}
use Prim.Native.Nat.{ℕ}
use native.Mathlib.Omega.{arith}
use lib.ListN.{length}
use Rattle.text_words.specs.Words.{words_from}
use Rattle.text_rows.specs.declared.Slot.{Slot}
use Rattle.line_fields.specs.declared.Kind.TheVariants.{Number, Name}
use Rattle.line_fields.specs.Kinds.{kind_said}
use Rattle.line_fields.specs.Slots.{number_in, Within}
use Rattle.set_words.specs.SetWords.{caller_said}
use Rattle.set_words.specs.Reading.{Called}
use Rattle.set_words.proofs.Fields.{Reads}

-- a number lies in the buffer of parts
pub number-within : {s : Slot} {next at : ℕ} {line bytes parts : List ℕ} → Reads Number s next at line bytes parts → Within s (length parts)
number-within r = record {
  forward = r.within.forward;
  inside = omega (arith, r.within.inside, r.lent.line_short, r.lent.at_in, r.lent.parts_room);
}

pub no-model : (ws : List (List ℕ)) → kind_said Number ws ≡ none → caller_said ws ≡ none
unfolding caller_said bind
no-model ws e = rw e

module _ {at : ℕ} {line : List ℕ} where
  module _ {m : Slot} {name-at : ℕ} {bytes₁ parts₁ : List ℕ} (a : Reads Number m name-at at line bytes₁ parts₁) where
    pub no_name : kind_said Name (words_from name-at line) ≡ none → caller_said (words_from at line) ≡ none
    unfolding caller_said bind
    no_name e = rw (a.said, e)

    module _ {name : Slot} {level-at : ℕ} {bytes₂ parts₂ : List ℕ} (b : Reads Name name level-at name-at line bytes₂ parts₂) where
      pub no-level : kind_said Number (words_from level-at line) ≡ none → caller_said (words_from at line) ≡ none
      unfolding caller_said bind
      no-level e = rw (a.said, b.said, e)

      pub called : {l : Slot} {next : ℕ} {bytes₃ parts₃ : List ℕ} → Reads Number l next level-at line bytes₃ parts₃ → bytes₃ ≡ bytes₂ → {model level : ℕ}
          → model ≡ number_in m parts₁ → level ≡ number_in l parts₃ → Called model name level next line bytes₃ (caller_said (words_from at line))
      unfolding caller_said bind
      called c e p q = rw (e, p, q) (record {
        is = rw (a.said, b.said, c.said);
        within = record { forward = b.within.forward; inside = omega (arith, b.within.inside, c.forward) };
        next_in = c.lent.at_in;
      })
