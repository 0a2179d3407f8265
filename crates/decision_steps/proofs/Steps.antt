-- What the tests that the code makes of one row say of the definitions of steps 1 to 4: each test settles its part of a conjunction, and one that
-- fails settles the whole. Assumes nothing.
use mathlib.Core.Path.{◌≡◌, refl, sym, ◌∙◌}
use mathlib.Core.Bool.{Bool, true, false, ◌&&◌, ◌||◌}
use mathlib.Core.List.{List}
use Prim.Native.Nat.{ℕ, ◌+◌, ◌*◌, ◌≤◌, ◌<◌}
use native.Mathlib.Omega.{arith}
use lib.Dec.{eqb, leb}
use lib.ListN.{length, take}
use borrow.Author.Tests.{eq-eqb, ne_eqb, le-leb, lt-leb}
use Rattle.numbers.specs.Order.{same, begins}
use Rattle.numbers.proofs.Bools.{is_false, or-neither, and-false-left, and-false-right}
use Rattle.numbers.proofs.Orders.{same-sym, begins-take, begins-length}
use Rattle.rows.specs.Rows.{ContextRow, MappingRow, AccessRow}
use Rattle.decision_steps.specs.Decision.{is_active, bears_context, maps_principal, context_fits, candidate, view_for}
use Rattle.decision_steps.specs.Bytes.{rank_of}

-- ---- step 1

pub bears-name : (name : List ℕ) (c : ContextRow) → same c.context_name name ≡ bears_context name c
unfolding bears_context
bears-name name c = refl

-- ---- step 2

module _ (model : ℕ) (name : List ℕ) (m : MappingRow) where
  pub maps-model : (m.security_model ≡ model → ⊥) → false ≡ maps_principal model name m
  unfolding maps_principal
  maps-model h = rw (ne_eqb m.security_model model h)

  pub maps-name : same m.security_name name ≡ false → false ≡ maps_principal model name m
  unfolding maps_principal
  maps-name h = rw (and-false-right (eqb m.security_model model) h)

  pub maps-status : m.security_model ≡ model → same m.security_name name ≡ true → is_active m.status ≡ maps_principal model name m
  unfolding maps_principal
  maps-status h n = rw (eq-eqb m.security_model model h, n)

-- ---- step 3

module _ (match : ℕ) (prefix name : List ℕ) where
  pub fits-exact : match ≡ 1 → same prefix name ≡ context_fits match prefix name
  unfolding context_fits
  fits-exact h = rw (eq-eqb match 1 h)

  module _ (h : match ≡ 1 → ⊥) where
    fits-prefix : begins prefix name ≡ context_fits match prefix name
    unfolding context_fits
    fits-prefix = rw (ne_eqb match 1 h)

    pub fits-longer : length name < length prefix → false ≡ context_fits match prefix name
    fits-longer l = sym (is_false (begins prefix name) (λ e. omega (arith, begins-length prefix name e))) ∙ fits-prefix

    pub fits-front : same prefix (take (length prefix) name) ≡ context_fits match prefix name
    fits-front = same-sym prefix (take (length prefix) name) ∙ sym (begins-take prefix name) ∙ fits-prefix

module _ (group : List ℕ) (model level : ℕ) (context : List ℕ) (a : AccessRow) where
  -- the tests before those of the model and the level
  abbrev here : Bool
  here = same a.group_name group && is_active a.status && context_fits a.context_match a.context_prefix context

  -- no candidate
  pub rank-none : candidate group model level context a ≡ false → 0 ≡ rank_of group model level context a
  unfolding rank_of
  rank-none h = rw h

  pub rank-group : same a.group_name group ≡ false → 0 ≡ rank_of group model level context a
  unfolding candidate
  rank-group h = rank-none (rw h)

  pub rank-status : is_active a.status ≡ false → 0 ≡ rank_of group model level context a
  unfolding candidate
  rank-status h = rank-none (rw (and-false-right (same a.group_name group) h))

  pub rank-context : context_fits a.context_match a.context_prefix context ≡ false → 0 ≡ rank_of group model level context a
  unfolding candidate
  rank-context h = rank-none (rw (and-false-right (same a.group_name group && is_active a.status) h))

  pub rank-level : level < a.security_level → 0 ≡ rank_of group model level context a
  unfolding candidate
  rank-level h = rank-none (and-false-right (here && (eqb a.security_model 0 || eqb a.security_model model)) (lt-leb a.security_level level h))

  pub rank-model : (a.security_model ≡ 0 → ⊥) → (a.security_model ≡ model → ⊥) → 0 ≡ rank_of group model level context a
  unfolding candidate
  rank-model h k =
      let o = or-neither (ne_eqb a.security_model 0 h) (ne_eqb a.security_model model k) in
      rank-none (and-false-left (leb a.security_level level) (and-false-right here o))

  -- a candidate: of any model, or of the model itself
  module _ (g : same a.group_name group ≡ true) (s : is_active a.status ≡ true)
      (f : context_fits a.context_match a.context_prefix context ≡ true) (l : a.security_level ≤ level) where
    pub rank-any : a.security_model ≡ 0 → length a.context_prefix * 4 + a.security_level ≡ rank_of group model level context a
    unfolding rank_of candidate
    rank-any h = rw (g, s, f, eq-eqb a.security_model 0 h, le-leb a.security_level level l) (omega arith)

    pub rank-own : (a.security_model ≡ 0 → ⊥) → a.security_model ≡ model
        → 256 + (length a.context_prefix * 4 + a.security_level) ≡ rank_of group model level context a
    unfolding rank_of candidate
    rank-own h k = rw (g, s, f, ne_eqb a.security_model 0 h, eq-eqb a.security_model model k, le-leb a.security_level level l)

-- ---- step 4

module _ (view : ℕ) (a : AccessRow) where
  pub view-read : view ≡ 1 → a.read_view_name ≡ view_for view a
  unfolding view_for
  view-read h = rw (eq-eqb view 1 h)

  pub view-write : (view ≡ 1 → ⊥) → view ≡ 2 → a.write_view_name ≡ view_for view a
  unfolding view_for
  view-write h k = rw (ne_eqb view 1 h, eq-eqb view 2 k)

  pub view-notify : (view ≡ 1 → ⊥) → (view ≡ 2 → ⊥) → a.notify_view_name ≡ view_for view a
  unfolding view_for
  view-notify h k = rw (ne_eqb view 1 h, ne_eqb view 2 k)
