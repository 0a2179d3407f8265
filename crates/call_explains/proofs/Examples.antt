-- The text of an explanation, computed: `3 mapping 3 61 6c 3 1`, and `2` alone. Assumes nothing.
use mathlib.Core.Path.{◌≡◌, refl}
use mathlib.Core.List.{[], ◌∷◌}
use mathlib.Core.Option.{none, some}
use Rattle.std.specs.Prelude.{Ok}
use Rattle.answers.specs.declared.Cause.TheVariants.{NoGroupName, NoAccessEntry}
use Rattle.answers.specs.declared.Decision.TheVariants.{Refused}
use Rattle.rows.specs.Rows.{row_fields}
use Rattle.text_values.specs.Texts.{digits, decimal_text, hex_text, name_text}
use Rattle.text_rows.specs.RowText.{fields_text, entry_text}
use Rattle.call_explains.specs.Texts.{explanation_text}

pub mapping-told : explanation_text (record {
  answer = Ok (Refused NoAccessEntry);
  mapping = some (record { security_model = 3; security_name = 97 ∷ []; group_name = 108 ∷ []; storage_type = 3; status = 1 });
  access = none;
  view = none;
}) ≡ 51 ∷ 32 ∷ 109 ∷ 97 ∷ 112 ∷ 112 ∷ 105 ∷ 110 ∷ 103 ∷ 32 ∷ 51 ∷ 32 ∷ 54 ∷ 49 ∷ 32 ∷ 54 ∷ 99 ∷ 32 ∷ 51 ∷ 32 ∷ 49 ∷ []
unfolding entry_text row_fields fields_text name_text hex_text decimal_text digits
mapping-told = refl

pub none_told : explanation_text (record { answer = Ok (Refused NoGroupName); mapping = none; access = none; view = none }) ≡ 50 ∷ []
unfolding decimal_text digits
none_told = refl
