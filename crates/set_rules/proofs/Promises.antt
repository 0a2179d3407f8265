-- What the call of a set promises, by what the code finds: 6 where the store is not sound, a refusal as it is judged, and otherwise the rows of the set,
-- made one by one. And that every set can be made on every store of octets. Assumes nothing.
use mathlib.Core.Path.{◌≡◌, refl, sym, ap, subst, ◌∙◌}
use mathlib.Core.Bool.{true, false, ◌&&◌}
use mathlib.Core.List.{List, [], ◌∷◌}
use mathlib.Core.Option.{Option, none, some, map}
use Prim.Native.Nat.{ℕ}
use lib.Dec.{ltb}
use lib.ListN.{length-map}
use Rattle.std.specs.Prelude.{Ok, Err}
use Rattle.answers.specs.declared.Refusal.TheVariants.{Faulty}
use Rattle.answers.specs.declared.Fault.TheVariants.{NotSound, OutOfRange, NotASet}
use Rattle.numbers.specs.BigEndian.{Octets}
use Rattle.numbers.proofs.Bools.{split, clash, cond-false}
use Rattle.rows.specs.declared.Shape.{Shape}
use Rattle.rows.specs.declared.Shape.TheVariants.{Row, Key}
use Rattle.rows.specs.declared.Table.{Table}
use Rattle.rows.specs.declared.Table.TheVariants.{Context, Mapping, Access, View}
use Rattle.rows.specs.Tables.{Tables}
use Rattle.image.specs.Store.{is_sound, held}
use Rattle.table_update.specs.Exchange.{table_rows}
use Rattle.table_update.proofs.Stores.{store-sound}
use Rattle.edit_rules.specs.Types.{Edited}
use Rattle.edit_rules.specs.TableRows.{row_of}
use Rattle.edit_rules.specs.Edits.{Edit, Caller, Outcome, edit_of, shape_of, legal_caller, edited_number}
use Rattle.edit_rules.proofs.Outcomes.{tables, rows_in_lem}
use Rattle.edit_rows.specs.Promise.{answered, left}
use Rattle.edit_rows.proofs.Stores.{store_rows, held-sound, held-is, held-ascends, edits-unsound}
use Rattle.edits.specs.Calls.{owner_edit, principal_judged, OwnerEdits}
use Rattle.edits.proofs.Existence.{owner-made}
use Rattle.set_rules.specs.declared.SetAnswer.{SetAnswer}
use Rattle.set_rules.specs.Sets.{is_set, is_done, or_next, answer_at, first_refused, applied_all, first_create, is_over, room_in, room, set_judged}
use Rattle.set_rules.specs.Sets.{principal_set}
use Rattle.set_rules.specs.Handed.{AllOctets}
use Rattle.set_rules.specs.Made.{made_all, has_shape, of_shape, Makes}
use Rattle.set_rules.specs.Promise.{set_outcome, position_in, PrincipalSets}
use Rattle.set_rules.proofs.Accepted.{Limited, or-next-done, ready_of, made-removals-first}

-- ---- a set judged

module _ (ts : Tables) (c : Caller) (es : List Edit) where
  -- a refusal changes nothing
  pub refused-is : {a : SetAnswer} → set_judged ts c es ≡ a → is_done a.answer ≡ false
      → ((principal_set ts c es).answer ≡ a) × ((principal_set ts c es).rows ≡ ts)
  unfolding principal_set
  refused-is {a} e d = (e, cond-false _ _ (ap (λ (x : SetAnswer). is_done x.answer) e ∙ d))

  pub accepted-is : set_judged ts c es ≡ answer_at (Ok tt) 0 → ((principal_set ts c es).answer ≡ answer_at (Ok tt) 0) × ((principal_set ts c es).rows ≡ applied_all ts es)
  unfolding principal_set
  accepted-is e = (e, rw e)

  pub not-a-set : is_set es ≡ false → set_judged ts c es ≡ answer_at (Err (Faulty NotASet)) 0
  unfolding set_judged
  not-a-set s = rw s

  pub not-a-caller : is_set es ≡ true → legal_caller c ≡ false → set_judged ts c es ≡ answer_at (Err (Faulty OutOfRange)) 0
  unfolding set_judged
  not-a-caller s l = rw (s, l)

  module _ (s : is_set es ≡ true) (l : legal_caller c ≡ true) where
    pub edit-refused : {a : SetAnswer} → first_refused (principal_judged ts c) 1 es ≡ a → is_done a.answer ≡ false → set_judged ts c es ≡ a
    unfolding set_judged or_next
    edit-refused e d = rw (s, l, e, d)

    pub room-judged : is_done (first_refused (principal_judged ts c) 1 es).answer ≡ true → set_judged ts c es ≡ room (applied_all ts es) es
    unfolding set_judged or_next
    room-judged d = rw (s, l, d)

-- ---- on a store

-- a sound store's tables ascend and are within their limits
pub held-limited : (w : List ℕ) {ts : Tables} → held w ≡ some ts → Limited ts
held-limited w e t =
    let h = held-is w e in
    rw (h.1, rows_in_lem (store_rows w) t, length-map (table_rows t w) (row_of t)) ((store-sound w h.0).few t)

module _ (c : Caller) (es : List Edit) (w : List ℕ) where
  set-unsound : is_sound w ≡ false → PrincipalSets c es w w (answer_at (Err (Faulty NotSound)) 0)
  unfolding held
  set-unsound h = record { edits = edits-unsound (set_outcome c es) w h; position_is = sym (ap (position_in c es) (cond-false _ _ h)) }

  pub set-unsound-as : is_sound w ≡ false → {r : SetAnswer} → r ≡ answer_at (Err (Faulty NotSound)) 0 → PrincipalSets c es w w r
  set-unsound-as h e = subst (λ v. PrincipalSets c es w w v) (sym e) (set-unsound h)

  module _ {ts : Tables} (e : held w ≡ some ts) where
    -- by the answer, and the tables that stand afterwards
    promised : {a : SetAnswer} {after : List ℕ} → (principal_set ts c es).answer ≡ a → held after ≡ some (principal_set ts c es).rows
        → ((a.answer ≡ (Ok tt) → ⊥) → after ≡ w) → PrincipalSets c es w after a
    promised {a} {after} p r k =
        let q : a.answer ≡ answered (set_outcome c es) (held w) =
        sym (ap (answered (set_outcome c es)) e ∙ ap (λ (x : SetAnswer). x.answer) p) in
        record {
          edits = record { answer_is = q; number_is = ap edited_number q; rows_are = r ∙ sym (ap (left (set_outcome c es)) e); refusal_keeps = k };
          position_is = sym (ap (position_in c es) e ∙ ap (λ (x : SetAnswer). x.position) p);
        }

    pub set-refused : {a : SetAnswer} → set_judged ts c es ≡ a → is_done a.answer ≡ false → PrincipalSets c es w w a
    set-refused {a} j d = let r = refused-is ts c es j d in promised r.0 (e ∙ ap some (sym r.1)) (λ n. refl)

    pub set-accepted : set_judged ts c es ≡ answer_at (Ok tt) 0 → {after : List ℕ} → held after ≡ some (applied_all ts es)
        → PrincipalSets c es w after (answer_at (Ok tt) 0)
    set-accepted j h = let r = accepted-is ts c es j in promised r.0 (h ∙ ap some (sym r.1)) (λ n. absurd (n refl))

-- ---- nothing stands against a set

or-next-last : (a b : SetAnswer) → is_done (or_next a b).answer ≡ true → or_next a b ≡ b
unfolding or_next
or-next-last a b h = let d = or-next-done a b h in rw d.0

room-last : (after : Tables) (es : List Edit) (t : Table) → is_done (room_in after es t).answer ≡ true → room_in after es t ≡ answer_at (Ok tt) 0
room-last after es t h =
    split (ltb 0 (first_create t 1 es) && is_over after t) (λ k. clash (rw k at h) refl) (λ k. rw k)

pub room-none : (after : Tables) (es : List Edit) → is_done (room after es).answer ≡ true → room after es ≡ answer_at (Ok tt) 0
unfolding room
room-none after es h =
    let m = (or-next-done (room_in after es Context) _ h).1 in
    let a = (or-next-done (room_in after es Mapping) _ m).1 in
    let v = (or-next-done (room_in after es Access) _ a).1 in
    or-next-last (room_in after es Context) _ h ∙ or-next-last (room_in after es Mapping) _ m ∙ or-next-last (room_in after es Access) _ a
    ∙ room-last after es View v

-- the edits of a set that is accepted, made one by one, the removals first, leave what it leaves
pub makes-all : (c : Caller) (es : List Edit) (w : List ℕ) {ts : Tables} → held w ≡ some ts → AllOctets es → is_set es ≡ true
    → is_done (first_refused (principal_judged ts c) 1 es).answer ≡ true → is_done (room (applied_all ts es) es).answer ≡ true
    → (mid after : List ℕ) → Makes (of_shape Key es) w mid → Makes (of_shape Row es) mid after → held after ≡ some (applied_all ts es)
makes-all c es w {ts} e b s d r mid after k m =
    m ∙ ap (map (λ t. made_all t (of_shape Row es))) (k ∙ ap (map (λ t. made_all t (of_shape Key es))) e)
    ∙ ap some (made-removals-first ts es (held-limited w e) (ready_of ts c es (held-ascends w e) b s d) r)

-- ---- every set can be made

pub record SetMade (c : Caller) (es : List Edit) (w : List ℕ) : Type 0 where
  pub left : List ℕ
  pub answered : SetAnswer
  pub promise : PrincipalSets c es w left answered
  pub octets : Octets left

-- edits one by one
record AllMade (es : List Edit) (w : List ℕ) : Type 0 where
  pub after : List ℕ
  pub makes : Makes es w after
  pub octets : Octets after

map-map : {A B C : Type 0} (f : A → B) (g : B → C) (o : Option A) → map g (map f o) ≡ map (λ x. g (f x)) o
map-map f g none = refl
map-map f g (some x) = refl

map_same : {A : Type 0} (o : Option A) → o ≡ map (λ x. x) o
map_same none = refl
map_same (some x) = refl

left-map : (f : Tables → Outcome) (o : Option Tables) → left f o ≡ map (λ t. (f t).rows) o
left-map f none = refl
left-map f (some t) = refl

-- none, one, or one and then others
pub makes_none : (w : List ℕ) → Makes [] w w
makes_none w = map_same (held w)

makes_one : (e : Edit) (w after : List ℕ) {r : Edited} → OwnerEdits e w after r → Makes (e ∷ []) w after
makes_one e w after m = m.rows_are ∙ left-map (λ t. owner_edit t e) (held w)

pub makes-other : (s : Shape) (e : Edit) (w : List ℕ) → has_shape s (shape_of e.operation) ≡ false → Makes (of_shape s (e ∷ [])) w w
makes-other s e w q = rw q (makes_none w)

pub makes-own : (s : Shape) (e : Edit) {v : List ℕ} → v ≡ e.bytes → {w after : List ℕ} {r : Edited} → has_shape s (shape_of e.operation) ≡ true
    → OwnerEdits (edit_of e.operation e.table v) w after r → Makes (of_shape s (e ∷ [])) w after
makes-own s e {v} p {w} {after} {r} q m =
    rw q (makes_one e w after (subst (λ u. OwnerEdits (edit_of e.operation e.table u) w after r) p m))

pub makes-sound : (es : List Edit) (w after : List ℕ) → Makes es w after → is_sound w ≡ true → is_sound after ≡ true
makes-sound es w after m h = (held-is after (m ∙ ap (map (λ t. made_all t es)) (held-sound w h))).0

pub makes-next : (s : Shape) (e : Edit) (es : List Edit) (w mid after : List ℕ) → Makes (of_shape s (e ∷ [])) w mid → Makes (of_shape s es) mid after
    → Makes (of_shape s (e ∷ es)) w after
makes-next s e es w mid after k m =
    let rest : Tables → Tables = λ t. made_all t (of_shape s es) in
    split (has_shape s (shape_of e.operation))
    (λ q. rw q (m ∙ ap (map rest) (rw q at k) ∙ map-map (λ t. (owner_edit t e).rows) rest (held w)))
    (λ q. rw q (m ∙ ap (map rest) (rw q at k) ∙ map-map (λ t. t) rest (held w)))

all_made : (es : List Edit) → AllOctets es → (w : List ℕ) → Octets w → AllMade es w
all_made [] bs w b = record { after = w; makes = makes_none w; octets = b }
all_made (e ∷ es) bs w b =
    let m = owner-made e bs.0 w b in
    let r = all_made es bs.1 m.left m.octets in
    record {
      after = r.after;
      makes = r.makes
          ∙ ap (map (λ t. made_all t es)) (m.promise.rows_are ∙ left-map (λ t. owner_edit t e) (held w))
          ∙ map-map (λ t. (owner_edit t e).rows) (λ t. made_all t es) (held w);
      octets = r.octets;
    }

octets-shape : (s : Shape) (es : List Edit) → AllOctets es → AllOctets (of_shape s es)
octets-shape s [] bs = tt
octets-shape s (e ∷ es) bs =
    split (has_shape s (shape_of e.operation)) (λ q. rw q (bs.0, octets-shape s es bs.1)) (λ q. rw q (octets-shape s es bs.1))

module _ (c : Caller) (es : List Edit) (bs : AllOctets es) (w : List ℕ) (b : Octets w) where
  stays : {a : SetAnswer} → PrincipalSets c es w w a → SetMade c es w
  stays {a} p = record { left = w; answered = a; promise = p; octets = b }

  sound-made : (ts : Tables) → held w ≡ some ts → SetMade c es w
  sound-made ts e =
      let a = first_refused (principal_judged ts c) 1 es in
      let r = room (applied_all ts es) es in
      split (is_set es)
      (λ s. split (legal_caller c)
      (λ l. split (is_done a.answer)
      (λ d. split (is_done r.answer)
      (λ k.
      let x = all_made (of_shape Key es) (octets-shape Key es bs) w b in
      let y = all_made (of_shape Row es) (octets-shape Row es bs) x.after x.octets in
      record {
        left = y.after;
        answered = answer_at (Ok tt) 0;
        promise = set-accepted c es w e (room-judged ts c es s l d ∙ room-none (applied_all ts es) es k)
            (makes-all c es w e bs s d k x.after y.after x.makes y.makes);
        octets = y.octets;
      })
      (λ k. stays (set-refused c es w e (room-judged ts c es s l d) k)))
      (λ d. stays (set-refused c es w e (edit-refused ts c es s l refl d) d)))
      (λ l. stays (set-refused c es w e (not-a-caller ts c es s l) refl)))
      (λ s. stays (set-refused c es w e (not-a-set ts c es s) refl))

  pub set-made : SetMade c es w
  set-made = split (is_sound w) (λ h. sound-made (tables (store_rows w)) (held-sound w h)) (λ h. stays (set-unsound c es w h))
