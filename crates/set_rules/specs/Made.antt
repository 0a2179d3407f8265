-- How the code comes to the answer and the rows of a set: keys compared by the bytes in front, room by counting, and the edits made one by one, the
-- removals first, so that no table is over its limit on the way. Assumes nothing.
use Rattle.std.specs.Prelude.{◌≡◌, Bool, true, false, cond, ◌&&◌, List, [], ◌∷◌, ℕ, suc, ◌+◌, ltb, length, take}
use Rattle.std.proofs.Math.Option.{map}
use Rattle.std.specs.Prelude.{Ok, Err}
use Rattle.answers.specs.declared.Refusal.TheVariants.{Faulty}
use Rattle.answers.specs.declared.Fault.TheVariants.{TableFull}
use Rattle.numbers.specs.Lists.{keep}
use Rattle.numbers.specs.Order.{same}
use Rattle.rows.specs.declared.Shape.{Shape}
use Rattle.rows.specs.declared.Shape.TheVariants.{Row, Key}
use Rattle.rows.specs.declared.Table.{Table}
use Rattle.rows.specs.declared.Table.TheVariants.{Context, Mapping, Access, View}
use Rattle.rows.specs.Rows.{limit}
use Rattle.rows.specs.Tables.{Tables}
use Rattle.image.specs.Store.{held}
use Rattle.table_update.specs.Exchange.{one_if}
use Rattle.edit_rules.specs.declared.Operation.{Operation}
use Rattle.edit_rules.specs.declared.Operation.TheVariants.{Create, Change, Remove}
use Rattle.edit_rules.specs.Edits.{Edit, shape_of}
use Rattle.edits.specs.Calls.{owner_edit}
use Rattle.set_rules.specs.declared.SetAnswer.{SetAnswer}
use Rattle.set_rules.specs.declared.Weight.{Weight}
use Rattle.set_rules.specs.Sets.{same_table, answer_at, or_next, creates_in}

-- ---- an edit of this table that begins with this key

unfoldable pub begins : Table → List ℕ → Edit → Bool
begins t key e = same_table t e.table && same (take (length key) e.bytes) key

-- ---- room by counting

abbrev pub is_removal : Operation → Bool
is_removal Create = false
is_removal Change = false
is_removal Remove = true

abbrev pub removes_in : Table → Edit → Bool
removes_in t e = is_removal e.operation && same_table t e.table

-- what edits bring into a table and take out of it, and the position of the first create there: of those from position p on
abbrev pub weighed : Table → ℕ → Edit → Weight → Weight
weighed t p e w = record {
  creates = one_if (creates_in t e) + w.creates;
  removals = one_if (removes_in t e) + w.removals;
  first = cond (creates_in t e) p w.first;
}

abbrev pub weight : Table → ℕ → List Edit → Weight
weight t p [] = record { creates = 0; removals = 0; first = 0 }
weight t p (e ∷ es) = weighed t p e (weight t (suc p) es)

-- of a table of n rows
unfoldable pub room_weighed : Table → ℕ → Weight → SetAnswer
room_weighed t n w =
    cond (ltb 0 w.first && ltb (limit t + w.removals) (n + w.creates)) (answer_at (Err (Faulty TableFull)) w.first) (answer_at (Ok tt) 0)

-- by the number of rows of each table
unfoldable pub counted_room : (Table → ℕ) → List Edit → SetAnswer
counted_room n es =
    or_next (room_weighed Context (n Context) (weight Context 1 es))
    (or_next (room_weighed Mapping (n Mapping) (weight Mapping 1 es))
    (or_next (room_weighed Access (n Access) (weight Access 1 es)) (room_weighed View (n View) (weight View 1 es))))

-- ---- edits made, one after the other, as the owner makes them

abbrev pub made_all : Tables → List Edit → Tables
made_all ts [] = ts
made_all ts (e ∷ es) = made_all (owner_edit ts e).rows es

-- those that are handed rows, or keys
abbrev pub has_shape : Shape → Shape → Bool
has_shape Row Row = true
has_shape Row Key = false
has_shape Key Row = false
has_shape Key Key = true

abbrev pub of_shape : Shape → List Edit → List Edit
of_shape s es = keep (λ e. has_shape s (shape_of e.operation)) es

-- from the store `found` to the store `after`
abbrev pub Makes : List Edit → List ℕ → List ℕ → Type 0
Makes es found after = held after ≡ map (λ ts. made_all ts es) (held found)
