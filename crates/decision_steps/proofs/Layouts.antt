-- Where the fields of a whole row lie, and the row that its bytes hold, read there.
-- A field is passed (`Passed`) from the place where it begins to the place where the next does, with what it holds in between; a row is
-- passed field by field from 0 to its end, so that its last fields are counted from the end as well. Assumes nothing.
use mathlib.Core.Path.{◌≡◌, refl, sym, ap, ap₂, ◌∙◌}
use mathlib.Core.Bool.{true}
use mathlib.Core.List.{List, [], ◌∷◌}
use mathlib.Core.Option.{none}
use Prim.Native.Nat.{ℕ, ◌+◌, ◌-◌, ◌*◌, ◌≤◌}
use native.Mathlib.Omega.{arith}
use lib.Dec.{ltb}
use lib.ListN.{length, take, drop, get_or, length-drop}
use lib.Seq.{length-take-le}
use borrow.Author.Tests.{lt-ltb}
use Rattle.rows.specs.declared.Table.TheVariants.{Context, Mapping, Access, View}
use Rattle.numbers.specs.BigEndian.{octet, quad, number}
use Rattle.rows.specs.Fields.{Field, sequence, integer, fault, taken, value, faults, values}
use Rattle.rows.specs.Rows.{AccessRow, row_fields, context_from, mapping_from, access_from, view_from, context_of, mapping_of, access_of, view_of}
use Rattle.rows.proofs.Sound.{faults-end}
use Rattle.rows.proofs.Places.{next, sequence-at, octets-at, octet-at}
use Rattle.decision_steps.specs.Bytes.{Whole, NameIn, name_at, identifier}
use Rattle.decision_steps.proofs.Identifiers.{identifier-take}

-- ---- one field

pub record Passed (k : Field) (ks : List Field) (row : List ℕ) (at end : ℕ) (x : List ℕ) : Type 0 where
  pub sound : fault k (drop at row) ≡ none
  pub inside : end ≤ length row
  pub rest : faults ks (drop end row) ≡ none
  pub holds : values (k ∷ ks) (drop at row) ≡ x ∷ values ks (drop end row)

-- the field at `at`, with the next at `end`
module _ (ks : List Field) (row : List ℕ) (at end : ℕ) (l : at ≤ length row) where
  pass : (k : Field) (x : List ℕ) → faults (k ∷ ks) (drop at row) ≡ none
      → at + taken k (drop at row) ≡ end → value k (drop at row) ≡ x → Passed k ks row at end x
  pass k x h e v =
      let n = next k ks row at l h in
      record {
        sound = n.sound;
        inside = rw e at n.inside;
        rest = rw e at n.rest;
        holds = n.holds ∙ ap₂ {C = List (List ℕ)} (λ u i. u ∷ values ks (drop i row)) v e;
      }

  -- a name
  pub pass-name : (lo hi : ℕ) → end ≡ at + 1 + get_or row at 0 → faults (sequence octet lo hi ∷ ks) (drop at row) ≡ none
      → Passed (sequence octet lo hi) ks row at end (name_at row at)
  pass-name lo hi e h =
      let s = sequence-at octet lo hi row at (next (sequence octet lo hi) ks row at l h).sound in
      pass (sequence octet lo hi) (name_at row at) h (omega arith) (octets-at lo hi row at (omega arith))

  -- a subtree
  pub pass-subtree : (lo hi : ℕ) → end ≡ at + 1 + 4 * get_or row at 0 → faults (sequence quad lo hi ∷ ks) (drop at row) ≡ none
      → Passed (sequence quad lo hi) ks row at end (identifier (take (4 * get_or row at 0) (drop (at + 1) row)))
  pass-subtree lo hi e h =
      let s = sequence-at quad lo hi row at (next (sequence quad lo hi) ks row at l h).sound in
      pass (sequence quad lo hi) _ h (omega arith)
      (s.reads ∙ sym (identifier-take (get_or row at 0) (drop (at + 1) row) (omega (arith, length-drop (at + 1) row))))

  -- a number of one byte, and of four
  pub pass-octet : (lo hi : ℕ) → end ≡ at + 1 → faults (integer octet lo hi ∷ ks) (drop at row) ≡ none
      → Passed (integer octet lo hi) ks row at end (get_or row at 0 ∷ [])
  pass-octet lo hi e h =
      pass (integer octet lo hi) (get_or row at 0 ∷ []) h (sym e) (octet-at lo hi row at (next (integer octet lo hi) ks row at l h).sound).reads

  pub pass-quad : (lo hi : ℕ) → end ≡ at + 4 → faults (integer quad lo hi ∷ ks) (drop at row) ≡ none
      → Passed (integer quad lo hi) ks row at end (number quad (drop at row) ∷ [])
  pass-quad lo hi e h = pass (integer quad lo hi) (number quad (drop at row) ∷ []) h (sym e) refl

-- what one field holds, and then the others
also : {x : List ℕ} {l u v : List (List ℕ)} → l ≡ x ∷ u → u ≡ v → l ≡ x ∷ v
also {x} e f = e ∙ ap {B = List (List ℕ)} (λ t. x ∷ t) f

-- a number of one byte, by another name of its place
octet-by : (row : List ℕ) (at i : ℕ) {l u : List (List ℕ)} → at ≡ i → l ≡ (get_or row at 0 ∷ []) ∷ u → l ≡ (get_or row i 0 ∷ []) ∷ u
octet-by row at i {u = u} e f = f ∙ ap {B = List (List ℕ)} (λ j. (get_or row j 0 ∷ []) ∷ u) e

-- the row ends where its last field does
row-end : (row : List ℕ) (at : ℕ) → at ≤ length row → faults [] (drop at row) ≡ none → length row ≡ at
row-end row at l h = omega (arith, faults-end (drop at row) h, length-drop at row)

pub length-name : (row : List ℕ) (at : ℕ) → NameIn row at → length (name_at row at) ≡ get_or row at 0
length-name row at h = length-take-le (get_or row at 0) (drop (at + 1) row) (omega (arith, length-drop (at + 1) row))

-- where the field after a name begins, and after a subtree
abbrev pub past : List ℕ → ℕ → ℕ
past row at = at + 1 + get_or row at 0

abbrev pub past_subtree : List ℕ → ℕ → ℕ
past_subtree row at = at + 1 + 4 * get_or row at 0

-- the octets of a name, and the bytes of a subtree, as the part from behind the count to the end
module _ (row : List ℕ) (at end : ℕ) where
  pub name-part : end ≡ past row at → take (end - (at + 1)) (drop (at + 1) row) ≡ name_at row at
  name-part e = let k : end - (at + 1) ≡ get_or row at 0 = omega arith in ap (λ i. take i (drop (at + 1) row)) k

  pub subtree-part : end ≡ past_subtree row at → take (end - (at + 1)) (drop (at + 1) row) ≡ take (4 * get_or row at 0) (drop (at + 1) row)
  subtree-part e = let k : end - (at + 1) ≡ 4 * get_or row at 0 = omega arith in ap (λ i. take i (drop (at + 1) row)) k

-- ---- the four rows, by where their fields lie

pub record ContextAt (row : List ℕ) : Type 0 where
  pub name : NameIn row 0
  pub holds : context_of row ≡ record { context_name = name_at row 0 }

pub context-at : (row : List ℕ) → Whole Context row → ContextAt row
unfolding row_fields
context-at row h =
    let a = pass-name [] row 0 (past row 0) (omega arith) 0 32 refl h in
    record { name = a.inside; holds = ap context_from a.holds }

-- the group's name at g
pub record MappingAt (row : List ℕ) (g : ℕ) : Type 0 where
  pub model : 4 ≤ length row
  pub name : NameIn row 4
  pub group : NameIn row g
  pub holds : mapping_of row ≡ record {
    security_model = number quad row;
    security_name = name_at row 4;
    group_name = name_at row g;
    storage_type = get_or row (past row g) 0;
    status = get_or row (length row - 1) 0;
  }

pub mapping-at : (row : List ℕ) (g : ℕ) → g ≡ past row 4 → Whole Mapping row → MappingAt row g
unfolding row_fields
mapping-at row g e h =
    let a = pass-quad _ row 0 4 (omega arith) 1 2147483647 refl h in
    let b = pass-name _ row 4 g a.inside 1 32 e a.rest in
    let c = pass-name _ row g (past row g) b.inside 1 32 refl b.rest in
    let d = pass-octet _ row (past row g) (past row g + 1) c.inside 2 5 refl c.rest in
    let s = pass-octet _ row (past row g + 1) (past row g + 2) d.inside 1 2 (omega arith) d.rest in
    let z = row-end row (past row g + 2) s.inside s.rest in
    record {
      model = a.inside;
      name = omega arith;
      group = c.inside;
      holds = ap mapping_from (also a.holds (also b.holds (also c.holds (also d.holds
          (octet-by row (past row g + 1) (length row - 1) (omega arith) s.holds)))));
    }

-- the prefix at p, the numbers from m on, the views' names at m + 6, w and n
pub record AccessAt (row : List ℕ) (p m w n : ℕ) : Type 0 where
  pub group : NameIn row 0
  pub prefix : NameIn row p
  pub read : NameIn row (m + 6)
  pub write : NameIn row w
  pub notify : NameIn row n
  pub short : get_or row p 0 ≤ 32
  pub least : 1 ≤ get_or row (m + 4) 0
  pub most : get_or row (m + 4) 0 ≤ 3
  pub holds : access_of row ≡ record {
    group_name = name_at row 0;
    context_prefix = name_at row p;
    security_model = number quad (drop m row);
    security_level = get_or row (m + 4) 0;
    context_match = get_or row (m + 5) 0;
    read_view_name = name_at row (m + 6);
    write_view_name = name_at row w;
    notify_view_name = name_at row n;
    storage_type = get_or row (past row n) 0;
    status = get_or row (length row - 1) 0;
  }

pub access-at : (row : List ℕ) (p m w n : ℕ) → p ≡ past row 0 → m ≡ past row p → w ≡ past row (m + 6) → n ≡ past row w → Whole Access row
    → AccessAt row p m w n
unfolding row_fields
access-at row p m w n ep em ew en h =
    let a = pass-name _ row 0 p (omega arith) 1 32 ep h in
    let b = pass-name _ row p m a.inside 0 32 em a.rest in
    let c = pass-quad _ row m (m + 4) b.inside 0 2147483647 refl b.rest in
    let d = pass-octet _ row (m + 4) (m + 5) c.inside 1 3 (omega arith) c.rest in
    let e = pass-octet _ row (m + 5) (m + 6) d.inside 1 2 (omega arith) d.rest in
    let f = pass-name _ row (m + 6) w e.inside 0 32 ew e.rest in
    let g = pass-name _ row w n f.inside 0 32 en f.rest in
    let i = pass-name _ row n (past row n) g.inside 0 32 refl g.rest in
    let j = pass-octet _ row (past row n) (past row n + 1) i.inside 2 5 refl i.rest in
    let s = pass-octet _ row (past row n + 1) (past row n + 2) j.inside 1 2 (omega arith) j.rest in
    let z = row-end row (past row n + 2) s.inside s.rest in
    record {
      group = rw (← ep) a.inside;
      prefix = rw (← em) b.inside;
      read = rw (← ew) f.inside;
      write = rw (← en) g.inside;
      notify = i.inside;
      short = (sequence-at octet 0 32 row p b.sound).most;
      least = (octet-at 1 3 row (m + 4) d.sound).least;
      most = (octet-at 1 3 row (m + 4) d.sound).most;
      holds = ap access_from (also a.holds (also b.holds (also c.holds (also d.holds (also e.holds
          (also f.holds (also g.holds (also i.holds (also j.holds
          (octet-by row (past row n + 1) (length row - 1) (omega arith) s.holds))))))))));
    }

-- with the views' names by the one before each
abbrev pub AccessFrom : List ℕ → ℕ → ℕ → Type 0
AccessFrom row p m = AccessAt row p m (past row (m + 6)) (past row (past row (m + 6)))

pub access-from : (row : List ℕ) (p m : ℕ) → p ≡ past row 0 → m ≡ past row p → Whole Access row → AccessFrom row p m
access-from row p m ep em h = access-at row p m _ _ ep em refl refl h

-- the ranges that make a rank of the prefix's length and the level
pub record Ranked (a : AccessRow) : Type 0 where
  pub low : ltb a.security_level 4 ≡ true
  pub some : ltb 0 a.security_level ≡ true
  pub short : ltb (length a.context_prefix) 64 ≡ true

pub access-ranked : (row : List ℕ) → Whole Access row → Ranked (access_of row)
access-ranked row h =
    let p = past row 0 in
    let l = access-from row p (past row p) refl refl h in
    record {
      low = ap (λ a. ltb a.security_level 4) l.holds ∙ lt-ltb (get_or row (past row p + 4) 0) 4 (omega arith);
      some = ap (λ a. ltb 0 a.security_level) l.holds ∙ lt-ltb 0 (get_or row (past row p + 4) 0) (omega arith);
      short = ap (λ a. ltb (length a.context_prefix) 64) l.holds ∙ lt-ltb (length (name_at row p)) 64 (omega (arith, length-name row p l.prefix));
    }

-- the subtree at s, the mask at m
pub record ViewAt (row : List ℕ) (s m : ℕ) : Type 0 where
  pub name : NameIn row 0
  pub mask : NameIn row m
  pub rest : 3 ≤ length row
  pub holds : view_of row ≡ record {
    view_name = name_at row 0;
    subtree = identifier (take (4 * get_or row s 0) (drop (s + 1) row));
    mask = name_at row m;
    family_type = get_or row (length row - 3) 0;
    storage_type = get_or row (length row - 2) 0;
    status = get_or row (length row - 1) 0;
  }

pub view-at : (row : List ℕ) (s m : ℕ) → s ≡ past row 0 → m ≡ past_subtree row s → Whole View row → ViewAt row s m
unfolding row_fields
view-at row s m es em h =
    let a = pass-name _ row 0 s (omega arith) 1 32 es h in
    let b = pass-subtree _ row s m a.inside 1 64 em a.rest in
    let c = pass-name _ row m (past row m) b.inside 0 16 refl b.rest in
    let d = pass-octet _ row (past row m) (past row m + 1) c.inside 1 2 refl c.rest in
    let e = pass-octet _ row (past row m + 1) (past row m + 2) d.inside 2 5 (omega arith) d.rest in
    let f = pass-octet _ row (past row m + 2) (past row m + 3) e.inside 1 2 (omega arith) e.rest in
    let z = row-end row (past row m + 3) f.inside f.rest in
    record {
      name = rw (← es) a.inside;
      mask = c.inside;
      rest = omega arith;
      holds = ap view_from (also a.holds (also b.holds (also c.holds
          (also (octet-by row (past row m) (length row - 3) (omega arith) d.holds)
          (also (octet-by row (past row m + 1) (length row - 2) (omega arith) e.holds)
          (octet-by row (past row m + 2) (length row - 1) (omega arith) f.holds))))));
    }

-- with the mask by the subtree before it
abbrev pub ViewFrom : List ℕ → ℕ → Type 0
ViewFrom row s = ViewAt row s (past_subtree row s)

pub view-from : (row : List ℕ) (s : ℕ) → s ≡ past row 0 → Whole View row → ViewFrom row s
view-from row s e h = view-at row s _ e refl h
