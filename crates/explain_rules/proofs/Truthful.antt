-- The explanation is true. A row found passes its test, and where none is found none passes. Step 3's choice is left by three choices one after the
-- other: the own model, the longest prefix, the highest level; so none of the candidates outranks it (`top-won`, once a choice), and where none is left
-- there was none (`top-empty`). Step 5's is the longest and then the greatest, and of one or more there is such a one (`foremost-found`).
-- The cause is read off the steps in their order, each by what it finds. Assumes nothing.
use mathlib.Core.Path.{◌≡◌, refl, sym, ap, subst, ◌∙◌}
use mathlib.Core.Logic.{inl, inr}
use mathlib.Core.Bool.{Bool, true, false, cond, not, ◌&&◌}
use mathlib.Core.List.{List, [], ◌∷◌}
use mathlib.Core.Option.{Option, none, some}
use Prim.Native.Nat.{ℕ}
use lib.Dec.{eqb}
use lib.ListN.{length}
use borrow.Author.Tests.{eqb-true, eqb-false}
use Rattle.std.specs.Prelude.{Ok}
use Rattle.answers.specs.declared.Cause.TheVariants.{NoSuchContext, NoGroupName, NoAccessEntry, NoSuchView, NotInView}
use Rattle.numbers.specs.Lists.{keep, every, first, find, top, is_none, Among, NoneOf}
use Rattle.numbers.specs.Order.{same, before}
use Rattle.numbers.proofs.Bools.{split, clash, and_left, and_right, not-true}
use Rattle.numbers.proofs.Tops.{top_split}
use Rattle.rows.specs.Rows.{ContextRow, MappingRow, AccessRow, ViewRow}
use Rattle.rows.specs.Tables.{Tables}
use Rattle.decision_steps.specs.Request.{Request, legal_request}
use Rattle.decision_steps.specs.Decision.{active, bears_context, maps_principal, candidate, longest_prefix, highest_level}
use Rattle.decision_steps.specs.Decision.{chosen_access, view_for, in_view, view_rows, matches, greatest_subtree, chosen_view, included, or_refused}
use Rattle.decision_steps.specs.Decision.{by_type, step2, step3, step4, step5, if_any, decision, if_found, mapping_row, access_row}
use Rattle.explain_rules.specs.Explanation.{mapping_picked, access_picked, view_picked, explained}
use Rattle.explain_rules.specs.Truthful.{MappingTrue, rank, AccessTrue, ViewTrue, NoView, Because, out_of_range, no_context, no_mapping, no_candidate}
use Rattle.explain_rules.specs.Truthful.{no_view, no_match, is_excluded, is_included, ExplainsTruly}
use Rattle.numbers.proofs.Among.{Empty, every-among, kept-among, kept-passes, keep-among, first-among, first-none, find-among, find-passes}
use Rattle.numbers.proofs.Among.{keep-none, find_none, top-among, top-empty, top-won}
use Rattle.numbers.proofs.Foremost.{backwards, foremost-found}

-- ---- step 2

mapping-active : (model : ℕ) (name : List ℕ) (m : MappingRow) → maps_principal model name m ≡ true → m.status ≡ active
unfolding maps_principal
mapping-active model name m h =
    eqb-true m.status active (and_right (eqb m.security_model model && same m.security_name name) _ h)

-- ---- step 3

module _ (group : List ℕ) (model level : ℕ) (context : List ℕ) (rs : List AccessRow) where
  abbrev serves : AccessRow → Bool
  serves = candidate group model level context

  abbrev own : AccessRow → ℕ
  own a = cond (eqb a.security_model model) 1 0

  abbrev prefix : AccessRow → ℕ
  prefix a = length a.context_prefix

  -- what is left by the first choice, by two and by three
  abbrev of_own : List AccessRow
  of_own = top own (keep serves rs)

  abbrev of_prefix : List AccessRow
  of_prefix = top prefix of_own

  abbrev of_level : List AccessRow
  of_level = top (λ a. a.security_level) of_prefix

  left : chosen_access group model level context rs ≡ first of_level
  unfolding chosen_access
  left = ap (λ xs. first (highest_level (longest_prefix xs))) (sym (top_split (λ a. eqb a.security_model model) (keep serves rs)))

  pub access-none : chosen_access group model level context rs ≡ none → NoneOf serves rs
  access-none e =
      keep-none serves rs
      (top-empty own (keep serves rs) (top-empty prefix of_own (top-empty (λ a. a.security_level) of_prefix (first-none of_level (sym left ∙ e)))))

  module _ {a : AccessRow} (e : chosen_access group model level context rs ≡ some a) where
    among-level : Among a of_level
    among-level = first-among of_level (sym left ∙ e)

    among-prefix : Among a of_prefix
    among-prefix = top-among (λ b. b.security_level) of_prefix a among-level

    among-own : Among a of_own
    among-own = top-among prefix of_own a among-prefix

    among-candidates : Among a (keep serves rs)
    among-candidates = top-among own (keep serves rs) a among-own

    pub access-held : Among a rs
    access-held = kept-among serves rs a among-candidates

    pub access-candidate : serves a ≡ true
    access-candidate = kept-passes serves rs a among-candidates

    pub access-active : a.status ≡ active
    unfolding candidate
    access-active =
        eqb-true a.status active
        (and_right (same a.group_name group) _ (and_left _ _ (and_left _ _ (and_left _ _ access-candidate))))

    pub access-won : (b : AccessRow) → Among b rs → serves b ≡ true → before (rank model a) (rank model b) ≡ false
    unfolding before
    access-won b i s =
        top-won own (keep serves rs) a b (prefix a ∷ a.security_level ∷ []) (prefix b ∷ b.security_level ∷ []) among-own (keep-among serves rs b i s) (λ j.
        top-won prefix of_own a b (a.security_level ∷ []) (b.security_level ∷ []) among-prefix j (λ k.
        top-won (λ c. c.security_level) of_prefix a b [] [] among-level k (λ l. refl)))

-- ---- steps 4 and 5

greatest-none : (rs : List ViewRow) → greatest_subtree rs ≡ none → Empty rs
greatest-none [] e x i = i
greatest-none (r ∷ rs) e x i = clash (ap is_none e) (foremost-found _ (backwards (λ s. s.subtree)) r rs)

module _ (variable name : List ℕ) (rs : List ViewRow) where
  abbrev size : ViewRow → ℕ
  size r = length r.subtree

  abbrev matching : List ViewRow
  matching = keep (matches variable) (view_rows name rs)

  row-none : chosen_view variable (view_rows name rs) ≡ none → NoneOf (matches variable) (view_rows name rs)
  unfolding chosen_view
  row-none e = keep-none (matches variable) (view_rows name rs) (top-empty size matching (greatest-none (top size matching) e))

  module _ {r : ViewRow} (e : chosen_view variable (view_rows name rs) ≡ some r) where
    among-longest : Among r (top size matching)
    unfolding chosen_view
    among-longest = find-among _ (top size matching) e

    greatest : every (λ s. not (before r.subtree s.subtree)) (top size matching) ≡ true
    unfolding chosen_view
    greatest = find-passes _ (top size matching) e

    among-matching : Among r matching
    among-matching = top-among size matching r among-longest

    pub row-among : Among r (view_rows name rs)
    row-among = kept-among (matches variable) (view_rows name rs) r among-matching

    pub row-matches : matches variable r ≡ true
    row-matches = kept-passes (matches variable) (view_rows name rs) r among-matching

    pub row-won : (s : ViewRow) → Among s (view_rows name rs) → matches variable s ≡ true
        → before (size r ∷ r.subtree) (size s ∷ s.subtree) ≡ false
    row-won s i m =
        top-won size matching r s r.subtree s.subtree among-longest (keep-among (matches variable) (view_rows name rs) s i m)
        (λ j. not-true _ (every-among _ (top size matching) greatest s j))

-- the rows of a view, where it has one, are those that bear its name and are active
view-kept : (name : List ℕ) (rs : List ViewRow) (r : ViewRow) → Among r (view_rows name rs) → view_rows name rs ≡ keep (in_view name) rs
view-kept [] rs r i = absurd i
view-kept (x ∷ name) rs r i = refl

view-some : (name : List ℕ) (rs : List ViewRow) {s : ViewRow} {ss : List ViewRow} → view_rows name rs ≡ s ∷ ss → view_rows name rs ≡ keep (in_view name) rs
view-some name rs {s} e = view-kept name rs s (rw e (inl refl))

view-missing : (t : Tables) (name : List ℕ) → view_rows name t.vacm_view_tree_family_table ≡ [] → NoView t name
view-missing t [] e = inl refl
view-missing t (x ∷ name) e = inr (keep-none (in_view (x ∷ name)) t.vacm_view_tree_family_table (λ r i. subst (Among r) e i))

view-active : (name : List ℕ) (r : ViewRow) → in_view name r ≡ true → r.status ≡ active
unfolding in_view
view-active name r h = eqb-true r.status active (and_right (same r.view_name name) _ h)

-- ---- the rows shown

found-const : {A B : Type 0} (o : Option A) {p : Option B} {b : B} → if_found o (λ x. p) ≡ some b → p ≡ some b
found-const none e = clash refl (ap is_none e)
found-const (some x) e = e

module _ (t : Tables) (q : Request) where
  abbrev access_for : MappingRow → Option AccessRow
  access_for m = chosen_access m.group_name q.security_model q.security_level q.context_name t.vacm_access_table

  abbrev name_for : AccessRow → List ℕ
  name_for a = view_for q.view_type a

  abbrev view_of : AccessRow → Option ViewRow
  view_of a = chosen_view q.variable_name (view_rows (name_for a) t.vacm_view_tree_family_table)

  abbrev maps : MappingRow → Bool
  maps = maps_principal q.security_model q.security_name

  abbrev mappings : List MappingRow
  mappings = t.vacm_security_to_group_table

  mapping_is : {m : MappingRow} → mapping_picked t q ≡ some m → find maps mappings ≡ some m
  unfolding mapping_row
  mapping_is e = found-const (find (bears_context q.context_name) t.vacm_context_table) e

  access_is : {m : MappingRow} {a : AccessRow} → mapping_picked t q ≡ some m → access_picked t q ≡ some a → access_for m ≡ some a
  unfolding access_row
  access_is e f = rw e at f

  view_is : {a : AccessRow} {r : ViewRow} → access_picked t q ≡ some a → view_picked t q ≡ some r → view_of a ≡ some r
  unfolding view_picked
  view_is e f = rw e at f

  mapping_true : (m : MappingRow) → mapping_picked t q ≡ some m → MappingTrue t q m
  mapping_true m e =
      let p = find-passes maps mappings (mapping_is e) in
      record { is_held = find-among maps mappings (mapping_is e); is_active = mapping-active q.security_model q.security_name m p; maps = p }

  access_true : (m : MappingRow) (a : AccessRow) → mapping_picked t q ≡ some m → access_picked t q ≡ some a → AccessTrue t q m.group_name a
  access_true m a e f =
      let c = access_is e f in
      record {
        is_held = access-held _ _ _ _ _ c;
        is_active = access-active _ _ _ _ _ c;
        is_candidate = access-candidate _ _ _ _ _ c;
        won = access-won _ _ _ _ _ c;
      }

  view_true : (a : AccessRow) (r : ViewRow) → access_picked t q ≡ some a → view_picked t q ≡ some r → ViewTrue t q (name_for a) r
  view_true a r e f =
      let v = q.variable_name in
      let rs = t.vacm_view_tree_family_table in
      let c = view_is e f in
      let k = view-kept (name_for a) rs r (row-among v (name_for a) rs c) in
      let i : Among r (keep (in_view (name_for a)) rs) = subst (Among r) k (row-among v (name_for a) rs c) in
      let n = kept-passes (in_view (name_for a)) rs r i in
      record {
        is_held = kept-among (in_view (name_for a)) rs r i;
        is_active = view-active (name_for a) r n;
        is_in_view = n;
        does_match = row-matches v (name_for a) rs c;
        won = λ s j l m. row-won v (name_for a) rs c s (subst (Among s) (sym k) (keep-among (in_view (name_for a)) rs s j l)) m;
      }

  -- ---- the cause, step by step

  because-row : (m : MappingRow) (a : AccessRow) {s : ViewRow} {ss : List ViewRow} → view_rows (name_for a) t.vacm_view_tree_family_table ≡ s ∷ ss
      → (o : Option ViewRow) → view_of a ≡ o → Because t q (Ok (or_refused NotInView o by_type)) (some m) (some a) o
  because-row m a k none e =
      no_match (λ r i n.
      let rs = t.vacm_view_tree_family_table in
      row-none q.variable_name (name_for a) rs e r (subst (Among r) (sym (view-some (name_for a) rs k)) (keep-among (in_view (name_for a)) rs r i n)))
  because-row m a k (some r) e =
      split (eqb r.family_type included)
      (λ i. rw i (is_included (eqb-true r.family_type included i)))
      (λ i. rw i (is_excluded (eqb-false r.family_type included i)))

  because-view : (m : MappingRow) (a : AccessRow) (rs : List ViewRow) → view_rows (name_for a) t.vacm_view_tree_family_table ≡ rs
      → Because t q (Ok (or_refused NoSuchView (if_any rs) (step5 q.variable_name))) (some m) (some a) (chosen_view q.variable_name rs)
  unfolding chosen_view
  because-view m a [] e = no_view (view-missing t (name_for a) e)
  because-view m a (r ∷ rs) e = because-row m a e (chosen_view q.variable_name (r ∷ rs)) (ap (chosen_view q.variable_name) e)

  because-access : (m : MappingRow) (o : Option AccessRow) → access_for m ≡ o
      → Because t q (Ok (or_refused NoAccessEntry o (λ a. step4 q.variable_name (name_for a) t.vacm_view_tree_family_table))) (some m) o (if_found o view_of)
  because-access m none e = no_candidate (access-none _ _ _ _ _ e)
  because-access m (some a) e = because-view m a _ refl

  because-mapping : (o : Option MappingRow) → find maps mappings ≡ o
      → Because t q (Ok (or_refused NoGroupName o (λ m. step3 m.group_name q t))) o (if_found o access_for) (if_found (if_found o access_for) view_of)
  because-mapping none e = no_mapping (find_none maps mappings e)
  because-mapping (some m) e = because-access m (access_for m) refl

  because-context : (o : Option ContextRow) → find (bears_context q.context_name) t.vacm_context_table ≡ o
      → let mapping = if_found o (λ c. find maps mappings) in
      Because t q (Ok (or_refused NoSuchContext o (λ c. step2 q t))) mapping (if_found mapping access_for) (if_found (if_found mapping access_for) view_of)
  because-context none e = no_context (find_none (bears_context q.context_name) t.vacm_context_table e)
  because-context (some c) e = because-mapping (find maps mappings) refl

  because : Because t q (Ok (decision t q)) (mapping_picked t q) (access_picked t q) (view_picked t q)
  unfolding decision mapping_row access_row view_picked
  because = because-context _ refl

-- ---- the theorem

pub explains-truly : ExplainsTruly
unfolding explained
explains-truly t q =
    split (legal_request q)
    (λ e. rw e (record {
      answer_is = rw e;
      mapping_true = mapping_true t q;
      access_true = access_true t q;
      view_true = view_true t q;
      because = because t q;
    }))
    (λ e. rw e (record {
      answer_is = rw e;
      mapping_true = λ m f. clash refl (ap is_none f);
      access_true = λ m a f g. clash refl (ap is_none f);
      view_true = λ a r f g. clash refl (ap is_none f);
      because = out_of_range e;
    }))
