-- `line_fields::edit` meets its contract: the word's place among the operations' words is the operation's, which is handed the rest. Assumes nothing.
use mathlib.Core.Option.{some}
use mathlib.Core.Path.{◌≡◌, sym, ◌∙◌}
use native.Mathlib.Omega.{arith}
use Rattle.text_words.specs.Words.{split, place, words_from}
use Rattle.text_words.proofs.Named.{words_of, named-at, named_none}
use Rattle.text_rows.proofs.EntryWords.{unlaid}
use Rattle.line_fields.specs.Kinds.{operation_word, operations, operation_named}
use Rattle.line_fields.proofs.FieldSlots.{entry-finds, edit-named, edit-front, edit-other, other-front}
use Rattle.line_fields.proofs.edit.Goals as goal
use Rattle.line_fields.proofs.edit.Goals.{in-0, in-1, in-2}

-- the place that was found

-- the operation that the word names

pub returns-in_default : goal.returns-in_default
unfolding operation_named split
returns-in_default c =
    let found : c.place_of.result ≡ place c.args.word.now (words_of operation_word operations) = c.place_of.ensures in
    let s = c.args in
    let e = named_none operation_word _ operations c.place_of.result found (omega arith) in
    record { finds = edit-other _ _ e; lays = unlaid s.from s.bytes.now (other-front s.word.now (words_from s.at s.line.now) e) }

pub returns : goal.returns
unfolding operation_named split
returns c =
    let found : c.place_of.result ≡ place c.args.word.now (words_of operation_word operations) = c.place_of.ensures in
    let named : some c.match-place_of.operation ≡ operation_named c.args.word.now =
    elim c.match-place_of.branch [
      | in-0 w ↦ rw w.operation-is (named-at operation_word _ operations 0 (sym w.in-0.is ∙ found))
      | in-1 w ↦ rw w.operation-is (named-at operation_word _ operations 1 (sym w.in-1.is ∙ found))
      | in-2 w ↦ rw w.operation-is (named-at operation_word _ operations 2 (sym w.in-2.is ∙ found))
    ] in
    let s = c.args in
    let ws = words_from s.at s.line.now in record {
      finds = rw (edit-named s.word.now ws named)
          (entry-finds c.match-place_of.operation c.entry.result s.from s.at s.line.now c.entry.ensures.enters);
      lays = rw (edit-front s.word.now ws named) c.entry.ensures.lays;
    }
