-- An accepted image is what is written of its own tables, with what stands behind its counts, so that whatever lies behind it the tables are
-- the same: a store with the image at its front is sound and holds them. And what is written of a sound store's tables, with any bytes
-- behind the counts, is an accepted image of the same. Assumes nothing.
use mathlib.Core.Path.{◌≡◌, refl, sym, ap, ◌∙◌}
use mathlib.Core.Bool.{true}
use mathlib.Core.List.{List, [], ◌++◌, map, append-nil}
use mathlib.Core.Option.{some}
use Prim.Native.Nat.{ℕ, ◌+◌, ◌*◌, ◌≤◌}
use native.Mathlib.Omega.{arith}
use lib.ListN.{length, drop, get_or, length-append}
use lib.Seq.{drop-length}
use Rattle.numbers.proofs.Bools.{cond-true}
use Rattle.rows.specs.declared.Table.{Table}
use Rattle.rows.specs.Rows.{context_of, mapping_of, access_of, view_of}
use Rattle.rows.specs.Tables.{Tables}
use Rattle.numbers.specs.BigEndian.{Octets}
use Rattle.image_layout.specs.Layout.{counts_size, header, middle, row_count, image_end}
use Rattle.image_judge.specs.Faults.{tables_at, tables_in}
use Rattle.image.specs.Store.{room, is_sound, held}
use Rattle.image_layout.specs.Written.{concatenated}
use Rattle.table_update.specs.Exchange.{position, table_rows}
use Rattle.table_update.proofs.Written.{length-heads}
use Rattle.table_update.proofs.Splits.{tables, table_at}
use Rattle.table_update.proofs.Images.{image, length-middle, tables-read, tables_end, tables-count, end-within}
use Rattle.table_update.proofs.Stores.{SoundStore, sound-store}
use Rattle.image_transfer.specs.Transfer.{image_with, image_of}
use Rattle.image_transfer.proofs.Accepted.{Accepted}
use Rattle.image_transfer.proofs.Again.{image-again, front-with, with-middle}

-- ---- bytes with the same rows

tables_of : List (List (List ℕ)) → Tables
tables_of ts = record {
  vacm_context_table = map context_of (get_or ts 0 []);
  vacm_security_to_group_table = map mapping_of (get_or ts 1 []);
  vacm_access_table = map access_of (get_or ts 2 []);
  vacm_view_tree_family_table = map view_of (get_or ts 3 []);
}

tables-in : (w : List ℕ) → tables_in w ≡ tables_of (tables w)
unfolding tables_at tables_of
tables-in w = refl

module _ (v w : List ℕ) (e : tables v ≡ tables w) where
  same_tables : tables_in v ≡ tables_in w
  same_tables = tables-in v ∙ ap tables_of e ∙ sym (tables-in w)

  same_rows : (t : Table) → table_rows t v ≡ table_rows t w
  same_rows t = table_at t v ∙ ap (λ ts. get_or ts (position t) []) e ∙ sym (table_at t w)

-- ---- an accepted image

module _ (w : List ℕ) (b : Octets w) (a : Accepted w) where
  there : image_end w ≤ length w
  there = omega (arith, a.end_is)

  accepted-with : w ≡ image_with (middle w) (tables_in w)
  accepted-with =
      let v = image_with (middle w) (tables_in w) in
      let e : drop (image_end w) w ≡ [] = ap (λ n. drop n w) a.end_is ∙ drop-length w in
      front-with w b a.rows_sound there ∙ ap (λ r. v ++ r) e ∙ append-nil v

  pub accepted-again : image_of (tables_in w) ≡ w
  accepted-again = sym (accepted-with ∙ with-middle w b a.rows_sound there)

  -- at the front of a store
  module _ (v rest : List ℕ) (e : v ≡ w ++ rest) (s : length v ≡ room) where
    written : v ≡ image (tables w) (middle w) rest
    written = e ∙ ap (λ u. u ++ rest) accepted-with ∙ image-again w b a.rows_sound (middle w) rest

    size : counts_size + length (middle w) ≡ header
    size = length-middle w (omega (arith, there))

    read : tables v ≡ tables w
    read = tables-read v (tables w) (middle w) rest refl size written

    sound-front : is_sound v ≡ true
    sound-front = sound-store v (record {
      size_is = s;
      few = λ t. rw (same_rows v w read t) (a.few t);
      end_in = end-within v (tables w) (middle w) rest refl size written;
      rows_sound = λ t. rw (same_rows v w read t) (a.rows_sound t);
    })

    pub held-front : held v ≡ some (tables_in w)
    unfolding held
    held-front = cond-true _ _ sound-front ∙ ap some (same_tables v w read)

-- ---- the image of a sound store's tables, with any bytes behind the counts

length-image : (ts : List (List (List ℕ))) (mid : List ℕ)
    → length (image ts mid []) ≡ 2 * length ts + length mid + (2 * length (concatenated ts) + length (concatenated (concatenated ts)))
length-image ts mid = simp (length-append, length-heads, append-nil)

module _ (w : List ℕ) (b : Octets w) (s : SoundStore w) (mid : List ℕ) (size : counts_size + length mid ≡ header) where
  abbrev v : List ℕ
  v = image_with mid (tables_in w)

  written-v : v ≡ image (tables w) mid []
  written-v = sym (append-nil v) ∙ image-again w b s.rows_sound mid []

  read-v : tables v ≡ tables w
  read-v = tables-read v (tables w) mid [] refl size written-v

  end-v : image_end v ≡ length v
  end-v =
      let n : row_count v ≡ length (concatenated (tables w)) = tables-count v ∙ ap (λ ts. length (concatenated ts)) read-v in
      let m : length (concatenated (concatenated (tables v))) ≡ length (concatenated (concatenated (tables w))) =
      ap (λ ts. length (concatenated (concatenated ts))) read-v in
      omega (arith, tables_end v (end-within v (tables w) mid [] refl size written-v), ap length written-v, length-image (tables w) mid)

  pub accepted-written : Accepted v
  accepted-written = record {
    end_is = end-v;
    few = λ t. rw (same_rows v w read-v t) (s.few t);
    rows_sound = λ t. rw (same_rows v w read-v t) (s.rows_sound t);
  }

  pub tables-written : tables_in v ≡ tables_in w
  tables-written = same_tables v w read-v
