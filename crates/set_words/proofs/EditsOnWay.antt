-- The edits of a line one after the other: those passed lie where the set says, and what the words left say, and leave in the buffers, makes the rest
-- (`OnWay`); behind each stands nothing, or `;` and a further one (`Passed`). Assumes nothing.
use mathlib.Core.Path.{◌≡◌, refl, sym, ap, ◌∙◌}
use mathlib.Core.Bool.{true, false}
use mathlib.Core.List.{List, [], ◌∷◌, ◌++◌, append_assoc, append-nil}
use mathlib.Core.Option.{Option, none, some, map}
use Prim.Native.Nat.{ℕ, suc, ◌*◌, ◌≤◌, ◌<◌}
use native.Mathlib.Omega.{arith}
use lib.ListN.{length, take}
use Rattle.numbers.specs.Order.{same}
use Rattle.numbers.proofs.Bools.{clash}
use Rattle.edit_rules.specs.Edits.{Edit}
use Rattle.set_rules.specs.declared.EditSet.{EditSet}
use Rattle.set_rules.specs.Sets.{most_edits}
use Rattle.text_words.specs.Words.{longest, words_from}
use Rattle.text_words.proofs.WordsFrom.{none_from, word_over}
use Rattle.text_rows.specs.declared.Slot.{Slot}
use Rattle.line_fields.specs.declared.Kind.TheVariants.{Edit as Kind-as-Edit}
use Rattle.line_fields.specs.Kinds.{kind_said}
use Rattle.line_fields.specs.Slots.{Lent}
use Rattle.line_fields.specs.Buffers.{Buffers, buffers, field_into}
use Rattle.set_words.specs.SetWords.{behind_said, some_said, edits_said}
use Rattle.set_words.specs.Reading.{no_edits, with_edit, Parted, Over, Says, ReadsEdits}
use Rattle.set_words.specs.Buffers.{behind_into, some_into, edits_into}
use Rattle.set_words.proofs.Fields.{Reads}
use Rattle.set_words.proofs.EditWords.{words-fewer, some-due, some-bad, some-found, into-due, into-bad, over-said, over-into}
use Rattle.set_words.proofs.EditSlots.{Holds, new, holds-none, holds_on, holds_more, holds-listed}

-- ---- edits in front of those that are left

before : List Edit → Option (List Edit) → Option (List Edit)
before es o = map (λ r. es ++ r) o

before-start : (o : Option (List Edit)) → o ≡ before [] o
unfolding before
before-start none = refl
before-start (some es) = refl

before-next : (es : List Edit) (e : Edit) (o : Option (List Edit)) → before es (map (λ r. e ∷ r) o) ≡ before (es ++ (e ∷ [])) o
unfolding before
before-next es e none = refl
before-next es e (some r) = ap some (sym (append_assoc es (e ∷ []) r))

-- ---- on the way

-- an edit is due at `next`; with so many edits at most as there are words, what is said stays the same
pub record OnWay (all : Option (List Edit)) (left : Buffers) (line : List ℕ) (s : EditSet) (bytes parts : List ℕ) (next : ℕ) : Type 0 where
  done : List Edit
  most : ℕ
  enough : length (words_from next line) ≤ most
  makes : all ≡ before done (some_said most (words_from next line))
  leaves : left ≡ some_into line most (words_from next line) (buffers bytes parts)
  holds : Holds s done bytes (4 * next)
  few : s.count ≤ next
  pub lent : Lent line next bytes parts

-- an edit is passed, behind which the word at `end` stands, if any
pub record Passed (all : Option (List Edit)) (left : Buffers) (line : List ℕ) (s : EditSet) (bytes parts : List ℕ) (end : ℕ) : Type 0 where
  done : List Edit
  most : ℕ
  enough : length (words_from end line) ≤ suc most
  makes : all ≡ before done (behind_said (some_said most) (words_from end line))
  leaves : left ≡ behind_into (some_into line most) (words_from end line) (buffers bytes parts)
  holds : Holds s done bytes (4 * end)
  few : s.count ≤ suc end
  lent : Lent line end bytes parts

-- there is no word
pub way-none : {s : EditSet} (at : ℕ) (line bytes : List ℕ) → s ≡ no_edits → length line < at → Says s bytes (edits_said (words_from at line))
unfolding edits_said
way-none at line bytes e h = rw e (record { edits = []; are = rw (none_from at line h); count_is = refl; held = λ l. refl })

pub none_left : (at : ℕ) (line : List ℕ) (b : Buffers) → length line < at → b ≡ edits_into line (words_from at line) b
unfolding edits_into
none_left at line b h = rw (none_from at line h)

pub way-start : {s : EditSet} {line : List ℕ} {at : ℕ} {bytes parts : List ℕ} → s ≡ no_edits → Lent line at bytes parts → at ≤ length line
    → OnWay (edits_said (words_from at line)) (edits_into line (words_from at line) (buffers bytes parts)) line s bytes parts at
way-start {s} {line} {at} {bytes} {parts} e l h = rw e (record {
  done = [];
  most = length (words_from at line);
  enough = omega arith;
  makes = some-due (words_from at line) (word_over at line h) ∙ before-start (some_said (length (words_from at line)) (words_from at line));
  leaves = into-due line (words_from at line) (buffers bytes parts) (word_over at line h);
  holds = holds-none bytes (4 * at);
  few = omega arith;
  lent = l;
})

-- an edit is read, or is none
module _ {all : Option (List Edit)} {left : Buffers} {line : List ℕ} {s : EditSet} {bytes parts : List ℕ} where
  module _ {next : ℕ} (y : OnWay all left line s bytes parts next) where
    pub way-room : (length s.edits ≡ most_edits) × (s.count ≤ suc longest)
    way-room = (y.holds.room, omega (arith, y.few, y.lent.at_in, y.lent.line_short))

    pub way-bad : kind_said Kind-as-Edit (words_from next line) ≡ none → all ≡ none
    unfolding before
    way-bad e = y.makes ∙ ap (before y.done) (some-bad y.most (words_from next line) e)

    module _ {bytes' parts' : List ℕ} (into : field_into Kind-as-Edit line (words_from next line) (buffers bytes parts) ≡ buffers bytes' parts') where
      pub bad-left : kind_said Kind-as-Edit (words_from next line) ≡ none → buffers bytes' parts' ≡ left
      bad-left e = sym (y.leaves ∙ into-bad line y.most (words_from next line) (buffers bytes parts) e y.enough ∙ into)

      pub way-edit : {e : Slot} {end : ℕ} → Reads Kind-as-Edit e end next line bytes' parts' → take (4 * next) bytes' ≡ take (4 * next) bytes
          → Passed all left line (with_edit s e) bytes' parts' end
      way-edit {e} {end} f k =
          let x = some-found y.most (words_from next line) f.said y.enough in
          record {
            done = y.done ++ (new e bytes' ∷ []);
            most = x.n;
            enough = omega (arith, words-fewer next end line f.forward, x.enough);
            makes = y.makes ∙ ap (before y.done) x.says ∙ before-next y.done (new e bytes') _;
            leaves = y.leaves ∙ x.leaves line (buffers bytes parts) ∙ ap (behind_into (some_into line x.n) (words_from end line)) into;
            holds = holds_more e bytes' y.holds k (omega (arith, f.forward)) f.within.forward f.within.inside;
            few = omega (arith, y.few, f.forward);
            lent = f.lent;
          }

  -- behind it stands nothing, a word over, or `;`
  module _ {end : ℕ} (p : Passed all left line s bytes parts end) where
    pub passed-all : words_from end line ≡ [] → Says s bytes all
    unfolding before
    passed-all e = record {
      edits = p.done;
      are = p.makes ∙ ap (λ ws. before p.done (behind_said (some_said p.most) ws)) e ∙ ap some (append-nil p.done);
      count_is = p.holds.count_is;
      held = holds-listed p.holds;
    }

    pub all_left : words_from end line ≡ [] → buffers bytes parts ≡ left
    all_left e = sym (p.leaves ∙ ap (λ ws. behind_into (some_into line p.most) ws (buffers bytes parts)) e)

    pub passed_over : Over end line → all ≡ none
    unfolding before
    passed_over o = p.makes ∙ ap (before p.done) (over-said o (some_said p.most))

    pub over-left : Over end line → buffers bytes parts ≡ left
    over-left o = sym (p.leaves ∙ over-into o (some_into line p.most) (buffers bytes parts))

    pub passed-more : {next : ℕ} → Parted next end line → OnWay all left line s bytes parts next
    unfolding same
    passed-more q = record {
      done = p.done;
      most = p.most;
      enough = omega (arith, ap length q.is, p.enough);
      makes = p.makes ∙ ap (λ ws. before p.done (behind_said (some_said p.most) ws)) q.is;
      leaves = p.leaves ∙ ap (λ ws. behind_into (some_into line p.most) ws (buffers bytes parts)) q.is;
      holds = holds_on p.holds (omega (arith, q.forward));
      few = omega (arith, p.few, q.forward);
      lent =
          record {
            line_short = p.lent.line_short;
            at_in = q.next_in;
            bytes_room = p.lent.bytes_room;
            parts_room = p.lent.parts_room;
          };
    }

pub passed-as : {all : Option (List Edit)} {left : Buffers} {line : List ℕ} {s r : EditSet} {bytes parts : List ℕ} {end : ℕ} → r ≡ s
    → Passed all left line s bytes parts end → Passed all left line r bytes parts end
passed-as e p = rw e p

-- ---- what the code answers

module _ {s : EditSet} (bytes : List ℕ) {all : Option (List Edit)} where
  pub reads_whole : Says s bytes all → ReadsEdits (record { whole = true; set = s }) bytes all
  reads_whole h = record { whole_is = λ e. h; not_whole = λ e. clash refl e }

  pub reads-not : all ≡ none → ReadsEdits (record { whole = false; set = s }) bytes all
  reads-not h = record { whole_is = λ e. clash e refl; not_whole = λ e. h }
