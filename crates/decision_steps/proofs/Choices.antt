-- The two choices of the procedure as one pass over a table that carries a row along.
-- The access row: a candidate's rank is three digits, its own model, its prefix's length and its level, so that the highest ranks are what the
-- three choices one after another leave, and the best of the pass is the first of those. For the model 0 no candidate names another.
-- The view row: rows of one view ascend by their subtrees, the length before the numbers, so that the choice is the last of them. Assumes nothing.
use mathlib.Core.Path.{◌≡◌, refl, sym, ap, ap₂, ◌∙◌}
use mathlib.Core.Bool.{Bool, true, false, cond, not, ◌&&◌, ◌||◌}
use mathlib.Core.List.{List, [], ◌∷◌, ◌++◌, map, append-nil}
use mathlib.Core.Option.{none}
use Prim.Native.Nat.{ℕ, ◌+◌, ◌*◌, ◌<◌}
use native.Mathlib.Omega.{arith}
use lib.Dec.{eqb, leb, ltb}
use lib.ListN.{length}
use borrow.Author.Tests.{ltb-true, lt-ltb, eqb-true, eqb-false, eq-eqb, ne_eqb, not-true}
use Rattle.numbers.specs.Order.{same, before}
use Rattle.numbers.specs.Lists.{keep, every, any, first, top}
use Rattle.numbers.specs.Scans.{last, latest, best}
use Rattle.numbers.proofs.Bools.{split, and_left, and_right, or-true, or-neither, not-is-true, not-is-false, not-not, cond_same, cond-false}
use Rattle.numbers.proofs.Orders.{same_true, before-append}
use Rattle.numbers.proofs.Keeps.{every-imp, every-keep, every-kept, keep-ext-on, keep_all, keep-and, any-ext-on, top-ext-on}
use Rattle.numbers.proofs.Tops.{top-top, top_split}
use Rattle.numbers.proofs.Scans.{best-is, latest-is}
use Rattle.numbers.proofs.Greatest.{Ascends, ascends-keep, ascends-imp, ascends-map, greatest-is-last}
use Rattle.rows.specs.declared.Table.TheVariants.{View}
use Rattle.rows.specs.Fields.{values, index}
use Rattle.rows.specs.Rows.{AccessRow, ViewRow, key_fields, row_fields, view_of}
use Rattle.decision_steps.specs.Decision.{is_active, context_fits, candidate, of_model, chosen_access, in_view, matches, chosen_view}
use Rattle.decision_steps.specs.Bytes.{rank_of}
use Rattle.decision_steps.proofs.Steps.{rank-none}

-- ---- step 3

-- a row that names a model itself
abbrev named : AccessRow → Bool
named a = not (eqb a.security_model 0)

-- the rank in three digits
weigh : (b : Bool) (n l : ℕ) → cond b 0 256 + (n * 4 + l) ≡ (cond (not b) 1 0 * 64 + n) * 4 + l
weigh true n l = omega arith
weigh false n l = omega arith

-- a test that none passes
any_none : (p : AccessRow → Bool) (xs : List AccessRow) → every (λ x. not (p x)) xs ≡ true → any p xs ≡ false
any_none p [] a = refl
any_none p (x ∷ xs) a = or-neither (not-true (p x) (and_left (not (p x)) _ a)) (any_none p xs (and_right (not (p x)) _ a))

-- a candidate's model is 0 or the one asked for
models-none : (m model : ℕ) → eqb model 0 ≡ true → eqb m 0 || eqb m model ≡ true → (eqb m 0 ≡ true) × (eqb m model ≡ true)
models-none m model z e =
    let q : model ≡ 0 = eqb-true model 0 z in
    let i : m ≡ 0 = or-true (eqb m 0) (eqb m model) e (λ a. eqb-true m 0 a) (λ a. eqb-true m model a ∙ q) in
    (eq-eqb m 0 i, eq-eqb m model (i ∙ sym q))

models-own : (m model : ℕ) → eqb model 0 ≡ false → eqb m 0 || eqb m model ≡ true → not (eqb m 0) ≡ eqb m model
models-own m model z e =
    or-true (eqb m 0) (eqb m model) e
    (λ a. not-is-false a ∙ sym (ne_eqb m model (λ q. eqb-false model 0 z (sym q ∙ eqb-true m 0 a))))
    (λ a. not-is-true (ne_eqb m 0 (λ q. eqb-false model 0 z (sym (eqb-true m model a) ∙ q))) ∙ sym a)

module _ (group : List ℕ) (model level : ℕ) (context : List ℕ) where
  abbrev taken : AccessRow → Bool
  taken = candidate group model level context

  candidate-model : (a : AccessRow) → taken a ≡ true → eqb a.security_model 0 || eqb a.security_model model ≡ true
  unfolding candidate
  candidate-model a e =
      let h = same a.group_name group && is_active a.status && context_fits a.context_match a.context_prefix context in
      let o = eqb a.security_model 0 || eqb a.security_model model in
      and_right h o (and_left (h && o) (leb a.security_level level) e)

  rank-candidate : (a : AccessRow) → taken a ≡ true
      → rank_of group model level context a ≡ (cond (named a) 1 0 * 64 + length a.context_prefix) * 4 + a.security_level
  unfolding rank_of
  rank-candidate a e = rw e (weigh (eqb a.security_model 0) (length a.context_prefix) a.security_level)

  rank-counts : (a : AccessRow) → ltb 0 a.security_level ≡ true → ltb 0 (rank_of group model level context a) ≡ taken a
  rank-counts a l =
      split (taken a)
      (λ e. let h : 0 < a.security_level = ltb-true 0 a.security_level l in
      lt-ltb 0 (rank_of group model level context a) (omega (arith, rank-candidate a e)) ∙ sym e)
      (λ e. ap (ltb 0) (sym (rank-none group model level context a e)) ∙ sym e)

  -- candidates that name a model name this one
  of-model : (cs : List AccessRow) → every taken cs ≡ true → cond (any named cs) (keep named cs) cs ≡ of_model model cs
  of-model cs c = split (eqb model 0) any-model this-model
    where
      any-model : eqb model 0 ≡ true → cond (any named cs) (keep named cs) cs ≡ of_model model cs
      any-model z =
          let n : every (λ a. not (named a)) cs ≡ true =
          every-imp taken _ cs (λ a e. not-not (eqb a.security_model 0) ∙ (models-none a.security_model model z (candidate-model a e)).0) c in
          let o : every (λ a. eqb a.security_model model) cs ≡ true =
          every-imp taken _ cs (λ a e. (models-none a.security_model model z (candidate-model a e)).1) c in
          cond-false (keep named cs) cs (any_none named cs n)
          ∙ sym (ap (λ u. cond (any (λ a. eqb a.security_model model) cs) u cs) (keep_all _ cs o) ∙ cond_same (any (λ a. eqb a.security_model model) cs) cs)

      this-model : eqb model 0 ≡ false → cond (any named cs) (keep named cs) cs ≡ of_model model cs
      this-model z =
          let same_test : (a : AccessRow) → taken a ≡ true → named a ≡ eqb a.security_model model =
          λ a e. models-own a.security_model model z (candidate-model a e) in
          ap₂ (λ t u. cond t u cs) (any-ext-on taken named _ same_test cs c) (keep-ext-on taken named _ same_test cs c)

  pub chosen-best : (rows : List AccessRow) → every (λ a. ltb a.security_level 4) rows ≡ true → every (λ a. ltb 0 a.security_level) rows ≡ true
      → every (λ a. ltb (length a.context_prefix) 64) rows ≡ true
      → best (rank_of group model level context) none rows ≡ chosen_access group model level context rows
  unfolding chosen_access
  chosen-best rows low some short =
      let rank = rank_of group model level context in
      let cs = keep taken rows in
      let model' : AccessRow → ℕ = λ a. cond (named a) 1 0 in
      best-is rank rows
      ∙ ap (λ u. first (top rank u)) (keep-ext-on (λ a. ltb 0 a.security_level) (λ a. ltb 0 (rank a)) taken rank-counts rows some)
      ∙ ap first (top-ext-on taken rank (λ a. (model' a * 64 + length a.context_prefix) * 4 + a.security_level) rank-candidate cs (every-kept taken rows))
      ∙ ap first (sym (top-top (λ a. model' a * 64 + length a.context_prefix) (λ a. a.security_level) 4 cs (every-keep _ taken rows low)))
      ∙ ap (λ u. first (top (λ a. a.security_level) u)) (sym (top-top model' (λ a. length a.context_prefix) 64 cs (every-keep _ taken rows short)))
      ∙ ap (λ u. first (top (λ a. a.security_level) (top (λ a. length a.context_prefix) u))) (top_split named cs ∙ of-model cs (every-kept taken rows))

-- ---- step 5

view-index : (v s : List ℕ) → index (key_fields View) (v ∷ s ∷ []) ≡ (length v ∷ v) ++ (length s ∷ s)
unfolding key_fields
view-index v s = ap (λ t. (length v ∷ v) ++ (length s ∷ t)) (append-nil s)

view-name : (name : List ℕ) (r : ViewRow) → in_view name r ≡ true → r.view_name ≡ name
unfolding in_view
view-name name r e = same_true r.view_name name (and_left (same r.view_name name) (is_active r.status) e)

-- rows of one view ascend by their subtrees
view-subtree : (name : List ℕ) (x y : ViewRow) → in_view name x ≡ true → in_view name y ≡ true
    → before (index (key_fields View) (x.view_name ∷ x.subtree ∷ [])) (index (key_fields View) (y.view_name ∷ y.subtree ∷ [])) ≡ true
    → before (length x.subtree ∷ x.subtree) (length y.subtree ∷ y.subtree) ≡ true
view-subtree name x y p q e =
    sym (before-append (length name ∷ name) (length x.subtree ∷ x.subtree) (length y.subtree ∷ y.subtree))
    ∙ sym (ap₂ before (view-index name x.subtree) (view-index name y.subtree))
    ∙ sym (ap₂ (λ u v. before (index (key_fields View) (u ∷ x.subtree ∷ [])) (index (key_fields View) (v ∷ y.subtree ∷ [])))
    (view-name name x p) (view-name name y q))
    ∙ e

pub chosen-latest : (name variable : List ℕ) (rows : List ViewRow) → Ascends (λ r. index (key_fields View) (r.view_name ∷ r.subtree ∷ [])) rows
    → latest (λ r. in_view name r && matches variable r) none rows ≡ chosen_view variable (keep (in_view name) rows)
unfolding chosen_view
chosen-latest name variable rows a =
    let vs = keep (in_view name) rows in
    let by : ViewRow → List ℕ = λ r. length r.subtree ∷ r.subtree in
    let b : Ascends by vs = ascends-imp (in_view name) _ by (view-subtree name) vs (every-kept (in_view name) rows) (ascends-keep _ (in_view name) rows a) in
    latest-is (λ r. in_view name r && matches variable r) rows
    ∙ sym (ap last (keep-and (in_view name) (matches variable) rows))
    ∙ sym (greatest-is-last (λ r. r.subtree) (keep (matches variable) vs) (ascends-keep by (matches variable) vs b))

-- the same of rows' bytes, whose keys' indices ascend
pub chosen-latest-of : (name variable : List ℕ) (rows : List (List ℕ)) → Ascends (λ v. index (key_fields View) (values (key_fields View) v)) rows
    → latest (λ r. in_view name r && matches variable r) none (map view_of rows) ≡ chosen_view variable (keep (in_view name) (map view_of rows))
unfolding key_fields row_fields
chosen-latest-of name variable rows a =
    chosen-latest name variable (map view_of rows) (ascends-map (λ r. index (key_fields View) (r.view_name ∷ r.subtree ∷ [])) view_of rows a)
