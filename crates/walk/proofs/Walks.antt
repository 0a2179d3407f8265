-- A walk over sound tables: they ascend, so that the least instance that follows is the first (`Ascending`); and once steps 1 to 4
-- came to a view, what may be read is what the view lets be read. Assumes nothing.
use mathlib.Core.Path.{◌≡◌, sym, ap, ◌∙◌}
use mathlib.Core.Bool.{true, ◌&&◌}
use mathlib.Core.List.{List, [], map}
use mathlib.Core.Option.{Option}
use Prim.Native.Nat.{ℕ}
use Rattle.std.specs.Prelude.{Ok, Err}
use Rattle.answers.specs.declared.Cause.{Cause}
use Rattle.answers.specs.declared.Fault.{Fault}
use Rattle.numbers.specs.Laid.{laid}
use Rattle.numbers.specs.Lists.{find}
use Rattle.numbers.specs.Order.{before}
use Rattle.numbers.proofs.Keeps.{find-ext}
use Rattle.numbers.proofs.Greatest.{Ascends}
use Rattle.rows.specs.declared.Table.{Table}
use Rattle.rows.specs.declared.Table.TheVariants.{Context, Mapping, Access, View}
use Rattle.rows.specs.Tables.{Tables}
use Rattle.image_layout.specs.declared.Extent.{Extent}
use Rattle.image_layout.specs.declared.Layout.{Layout}
use Rattle.image_layout.specs.Layout.{rows_in, layout_of}
use Rattle.image_judge.specs.Faults.{SoundTable, SoundLayout, surveyed, tables_at}
use Rattle.image_judge.proofs.Sound.{ascends-rows}
use Rattle.image.specs.Store.{call_fault, held}
use Rattle.image.proofs.Surveys.{Called, call-refused}
use Rattle.decision_steps.specs.Request.{read}
use Rattle.decision_parts.specs.declared.Authorized.{Authorized}
use Rattle.decision_parts.specs.declared.NamedView.{NamedView}
use Rattle.decision_parts.specs.Parts.{rows_of, saying, Authorizes}
use Rattle.decision_parts.proofs.Decisions.{viewed-decision}
use Rattle.edit_rules.specs.TableRows as table-rows
use Rattle.edit_rules.specs.TableRows.{row_of, row_index}
use Rattle.edit_rules.specs.Edits.{Caller, caller_of}
use Rattle.edit_rules.proofs.Outcomes.{rows-ascend}
use Rattle.walk_rules.specs.declared.Walked.{Walked}
use Rattle.walk_rules.specs.Numbers.{walked_number}
use Rattle.walk_rules.specs.Walk.{Instance, instances, is_allowed, may_read, follows, next_instance}
use Rattle.walk_rules.specs.Walk.{refusal, reaching, if_viewed, legal_walk, walk_on, walk_in, Walk, Walks, LegalKey}
use Rattle.walk_rows.specs.Reading.{readable}
use Rattle.walk_find.specs.Met.{stops}
use Rattle.walk.specs.Hands.{Hands}
use Rattle.walk.proofs.Ascending.{next-first}

-- ---- sound tables ascend

table-ascends : (t : Table) (w : List ℕ) (x : Extent) → SoundTable t w x → Ascends (row_index t) (map (row_of t) (rows_in w x))
table-ascends t w x s = rows-ascend t (rows_in w x) (ascends-rows t [] (rows_in w x) s.rows_sound)

tables-ascend : (w : List ℕ) (l : Layout) → SoundLayout w l → (t : Table) → Ascends (row_index t) (table-rows.rows_of t (tables_at w l))
unfolding tables_at
tables-ascend w l s Context = table-ascends Context w l.contexts s.contexts_sound
tables-ascend w l s Mapping = table-ascends Mapping w l.mappings s.mappings_sound
tables-ascend w l s Access = table-ascends Access w l.accesses s.accesses_sound
tables-ascend w l s View = table-ascends View w l.views s.views_sound

-- ---- by the standing that steps 1 to 4 came to

module _ {w : List ℕ} {l : Layout} {model : ℕ} {name : List ℕ} {level : ℕ} {r : Authorized} (k : Authorizes w l model name level read [] r)
    (identifier : List ℕ) (h : legal_walk (caller_of model name level) identifier ≡ true) where
  abbrev ts : Tables
  ts = tables_at w l

  abbrev c : Caller
  c = caller_of model name level

  abbrev here : Option Instance
  here = next_instance ts c identifier

  by-authority : walk_on ts c identifier ≡ if_viewed (saying w r.standing) (reaching here)
  unfolding walk_on
  by-authority = rw h (ap (λ a. if_viewed a (reaching here)) (sym k.standing.is))

  pub walk-denied : {cause : Cause} → r.standing ≡ Err cause → walk_on ts c identifier ≡ refusal (Walked.Denied cause)
  walk-denied e = by-authority ∙ ap (λ s. if_viewed (saying w s) (reaching here)) e

  module _ {v : NamedView} (e : r.standing ≡ Ok v) where
    follows-stops : (i : Instance) → follows ts c identifier i ≡ stops (rows_of w v) identifier i
    unfolding follows stops may_read readable
    follows-stops i = ap (λ d. before identifier i.identifier && is_allowed d) (sym (viewed-decision k i.identifier e))

    pub walk-viewed : SoundLayout w l → walk_on ts c identifier ≡ reaching (find (stops (rows_of w v) identifier) (instances ts))
    walk-viewed s =
        by-authority
        ∙ ap (λ u. if_viewed (saying w u) (reaching here)) e
        ∙ ap reaching (next-first ts (tables-ascend w l s) c identifier ∙ find-ext _ _ (instances ts) follows-stops)

-- ---- the call: 6, 7, or the walk on the tables held

module _ (w : List ℕ) (c : Caller) (identifier : List ℕ) where
  pub walk_refused : {f : Fault} → Err f ≡ surveyed (call_fault w (legal_walk c identifier)) (layout_of w)
      → walk_in (held w) c identifier ≡ refusal (Walked.Faulty f)
  unfolding walk_on
  walk_refused e =
      call-refused (λ f. walk_in (held w) c identifier ≡ refusal (Walked.Faulty f)) w (legal_walk c identifier) e (λ n. rw n) (λ ts h l. rw (h, l))

  pub walk-laid : {l : Layout} → Called w (legal_walk c identifier) l → walk_in (held w) c identifier ≡ walk_on (tables_at w l) c identifier
  walk-laid k = ap (λ o. walk_in o c identifier) k.holds

  -- what is handed back is the promise
  pub hands-walks : {walk : Walk} {parts parts' key key' : List ℕ} {r : Walked} → walk_in (held w) c identifier ≡ walk → Hands walk parts parts' key key' r
      → Walks c identifier w parts parts' key key' r × LegalKey r key'
  hands-walks {parts = parts} {key = key} e h =
      let a = h.answer_is ∙ ap (λ x. x.answer) (sym e) in (
        record {
          answer_is = a;
          number_is = ap walked_number a;
          parts_are = h.parts_are ∙ ap (λ x. laid 0 x.identifier parts) (sym e);
          key_is = h.key_is ∙ ap (λ x. laid 0 x.key key) (sym e);
        },
        h.key_legal,
      )
