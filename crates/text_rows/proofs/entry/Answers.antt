-- `text_rows::entry` meets its contract: the word's place among the tables' words is the table's, and as many fields stand behind it as the
-- operation is handed. Assumes nothing.
use mathlib.Core.Option.{some}
use mathlib.Core.Path.{◌≡◌, sym, ◌∙◌}
use native.Mathlib.Omega.{arith}
use Rattle.text_words.specs.Words.{between, split, place}
use Rattle.text_words.proofs.Named.{words_of, named-at, named_none}
use Rattle.text_words.proofs.WordsFrom.{WordAt, word-missing, word-found}
use Rattle.edit_rules.specs.Edits.{shape_of}
use Rattle.text_rows.specs.EntryWords.{Counts}
use Rattle.text_rows.specs.TableWords.{table_word, tables, table_named}
use Rattle.text_rows.proofs.EntryWords.{missing-none, missing-front, unlaid, other_none, other-front, fields-room}
use Rattle.text_rows.proofs.EntryWords.{entry-bad, entry-said, entry-lays}
use Rattle.text_rows.proofs.entry.Goals as goal
use Rattle.text_rows.proofs.entry.Goals.{in-0, in-1, in-2, in-3}

-- the table's word, and its place

-- the table that it names

-- as many fields as the operation is handed

pub returns-in_err-word_end : goal.returns-in_err-word_end
returns-in_err-word_end c =
    let e = word-missing _ _ (sym c.word_at.ensures ∙ c.in_err-word_end.was) in
    let s = c.args in
    rw c.from_residual.ensures (record { enters = missing-none _ _ _ e; lays = unlaid s.from s.out.now (missing-front s.o s.at s.line.now e) })

pub slice_bounds-place_of-count : goal.slice_bounds-place_of-count
slice_bounds-place_of-count c =
    let found : WordAt c.args.at c.args.line.now c.in_ok-word_end.word_end = word-found _ _ (sym c.word_at.ensures ∙ c.in_ok-word_end.was) in
    (found).forward

pub slice_bounds-place_of-start : goal.slice_bounds-place_of-start
slice_bounds-place_of-start c =
    let found : WordAt c.args.at c.args.line.now c.in_ok-word_end.word_end = word-found _ _ (sym c.word_at.ensures ∙ c.in_ok-word_end.was) in
    (found).forward

pub slice_bounds-place_of-end : goal.slice_bounds-place_of-end
slice_bounds-place_of-end c =
    let found : WordAt c.args.at c.args.line.now c.in_ok-word_end.word_end = word-found _ _ (sym c.word_at.ensures ∙ c.in_ok-word_end.was) in
    (found).inside

pub returns-in_default : goal.returns-in_default
unfolding table_named split
returns-in_default c =
    let place_is : c.place_of.result ≡ place (between c.args.at c.in_ok-word_end.word_end c.args.line.now) (words_of table_word tables) = c.place_of.ensures in
    let found : WordAt c.args.at c.args.line.now c.in_ok-word_end.word_end = word-found _ _ (sym c.word_at.ensures ∙ c.in_ok-word_end.was) in
    let s = c.args in
    let e = named_none table_word _ tables c.place_of.result place_is (omega arith) in
    record { enters = other_none s.o found e; lays = unlaid s.from s.out.now (other-front s.o found e) }

pub overflow_add-word_end : goal.overflow_add-word_end
overflow_add-word_end c =
    let found : WordAt c.args.at c.args.line.now c.in_ok-word_end.word_end = word-found _ _ (sym c.word_at.ensures ∙ c.in_ok-word_end.was) in
    omega (arith, (found).inside)

pub fields-requires : goal.fields-requires
unfolding table_named split
fields-requires c =
    let counts : Counts c.field_count-n.result (shape_of c.args.o) c.match-place_of.table = rw (← c.shape_of.ensures) c.field_count-n.ensures in
    let found : WordAt c.args.at c.args.line.now c.in_ok-word_end.word_end = word-found _ _ (sym c.word_at.ensures ∙ c.in_ok-word_end.was) in
    record { fields = (counts).inside; room = fields-room c.args.o found c.requires }

pub returns-in_err-end : goal.returns-in_err-end
unfolding table_named split
returns-in_err-end c =
    let counts : Counts c.field_count-n.result (shape_of c.args.o) c.match-place_of.table = rw (← c.shape_of.ensures) c.field_count-n.ensures in
    let found : WordAt c.args.at c.args.line.now c.in_ok-word_end.word_end = word-found _ _ (sym c.word_at.ensures ∙ c.in_ok-word_end.was) in
    let place_is : c.place_of.result ≡ place (between c.args.at c.in_ok-word_end.word_end c.args.line.now) (words_of table_word tables) = c.place_of.ensures in
    let named : some c.match-place_of.table ≡ table_named (between c.args.at c.in_ok-word_end.word_end c.args.line.now) =
    let p = place_is in elim c.match-place_of.branch [
      | in-0 w ↦ rw w.table-is (named-at table_word _ tables 0 (sym w.in-0.is ∙ p))
      | in-1 w ↦ rw w.table-is (named-at table_word _ tables 1 (sym w.in-1.is ∙ p))
      | in-2 w ↦ rw w.table-is (named-at table_word _ tables 2 (sym w.in-2.is ∙ p))
      | in-3 w ↦ rw w.table-is (named-at table_word _ tables 3 (sym w.in-3.is ∙ p))
    ] in
    let s = c.args in
    let m = counts in rw c.from_residual-in_err-end.ensures record { enters = entry-bad s.o found named m c.in_err-end.ensures.places; lays = entry-lays s.o found named m s.from s.out.now c.fields.ensures.lays }

pub returns : goal.returns
unfolding table_named split
returns c =
    let counts : Counts c.field_count-n.result (shape_of c.args.o) c.match-place_of.table = rw (← c.shape_of.ensures) c.field_count-n.ensures in
    let found : WordAt c.args.at c.args.line.now c.in_ok-word_end.word_end = word-found _ _ (sym c.word_at.ensures ∙ c.in_ok-word_end.was) in
    let place_is : c.place_of.result ≡ place (between c.args.at c.in_ok-word_end.word_end c.args.line.now) (words_of table_word tables) = c.place_of.ensures in
    let named : some c.match-place_of.table ≡ table_named (between c.args.at c.in_ok-word_end.word_end c.args.line.now) =
    let p = place_is in elim c.match-place_of.branch [
      | in-0 w ↦ rw w.table-is (named-at table_word _ tables 0 (sym w.in-0.is ∙ p))
      | in-1 w ↦ rw w.table-is (named-at table_word _ tables 1 (sym w.in-1.is ∙ p))
      | in-2 w ↦ rw w.table-is (named-at table_word _ tables 2 (sym w.in-2.is ∙ p))
      | in-3 w ↦ rw w.table-is (named-at table_word _ tables 3 (sym w.in-3.is ∙ p))
    ] in
    let s = c.args in
    let m = counts in record { enters = entry-said s.o found named m c.in_ok-end.ensures.places; lays = entry-lays s.o found named m s.from s.out.now c.fields.ensures.lays }
