-- What reading a set leaves in the two lent buffers, be its words well-formed or not (`line_fields/specs/Buffers.antt`). Assumes nothing.
use Rattle.std.specs.Prelude.{cond, List, [], ◌∷◌, ℕ, zero, suc, length}
use Rattle.std.proofs.Math.Option.{Option-elim}
use Rattle.numbers.specs.Order.{same}
use Rattle.line_fields.specs.declared.Kind.{Kind}
use Rattle.line_fields.specs.declared.Kind.TheVariants.{Number, Name, Edit}
use Rattle.line_fields.specs.Kinds.{kind_said}
use Rattle.line_fields.specs.Buffers.{Buffers, field_into}
use Rattle.set_words.specs.SetWords.{separator}

-- a principal's model, name and level
abbrev pub caller_kinds : List Kind
caller_kinds = Number ∷ Name ∷ Number ∷ []

-- behind an edit nothing more, or what further edits leave
abbrev pub behind_into : (List (List ℕ) → Buffers → Buffers) → List (List ℕ) → Buffers → Buffers
behind_into further [] b = b
behind_into further (w ∷ ws) b = cond (same w separator) (further ws b) b

-- edits one after the other, n at most, up to the first that is not said
unfoldable pub some_into : List ℕ → ℕ → List (List ℕ) → Buffers → Buffers
some_into line zero ws b = b
some_into line (suc n) ws b =
    Option-elim (kind_said Edit ws) (field_into Edit line ws b) (λ f. behind_into (some_into line n) f.rest (field_into Edit line ws b))

unfoldable pub edits_into : List ℕ → List (List ℕ) → Buffers → Buffers
edits_into line [] b = b
edits_into line (w ∷ ws) b = some_into line (suc (length ws)) (w ∷ ws) b
