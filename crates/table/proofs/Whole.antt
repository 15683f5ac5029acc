-- Row after row: the table is that of document 01 once all rows are written. Assumes nothing.
use Prim.Native.Nat.{ℕ, ◌+◌, ◌*◌, ◌/◌, ◌%◌, ◌≤◌, ◌<◌}
use mathlib.Core.Path.{◌≡◌, sym, ap, subst, ◌∙◌}
use mathlib.Core.Logic.{⊎_elim}
use mathlib.Core.List.{List}
use native.Mathlib.Nat.{mul-le-mul_right, suc-mul, div-add-mod', div-lt_iff_lt-mul, mod-lt}
use native.Mathlib.Numerals.{add-one}
use native.Mathlib.Omega.{arith}
use lib.ListN.{length, get_or}
use lib.Seq.{ext_get_or}
use borrow.Rule.Slice.PartMut.{put_mid}
use Rattle.std.proofs.lemmas.List.{places}
use lib.IntN.{ℤ}
use Rattle.rules.specs.Points.{apart}
use Rattle.rules.specs.Labels.{cell, table_of}
use Rattle.rules.specs.Refusals.{build_refusal}
use Rattle.rules.specs.Entries.{table_after}
use Rattle.laws.proofs.Refusals.{after_new}
use Rattle.laws.proofs.Tests.{below}
use Rattle.laws.proofs.Table.{table-length, table_at, some-row, table_same}
use Rattle.table.specs.Kept.{far, Filled}
use Rattle.table.specs.Rows.{RowOf}

-- the rows below u are written
pub record RowsIn (δ : ℕ → ℕ → ℕ) (n u : ℕ) (table : List ℕ) : Type 0 where
  pub long : length table ≡ n * n
  pub each : (i v : ℕ) → i < u → v < n → get_or table (i * n + v) 0 ≡ cell δ n i v

-- a row ends where the next begins
pub before : (n i u : ℕ) → i < u → i * n + n ≤ u * n
before n i u l = omega (arith, mul-le-mul_right n l, suc-mul i n)

-- what a table holds once n cells from a on are written
module _ (a n : ℕ) (table row : List ℕ) (room : a + n ≤ length table) (long : length row ≡ n) where
  put-long : length (put_mid a n table row) ≡ length table
  put-long = grind (arith, places)

  put_inside : (v : ℕ) → v < n → get_or (put_mid a n table row) (a + v) 0 ≡ get_or row v 0
  put_inside v l = grind (arith, places)

  put_before : (i : ℕ) → i < a → get_or (put_mid a n table row) i 0 ≡ get_or table i 0
  put_before i l = grind (arith, places)

module _ {δ : ℕ → ℕ → ℕ} {n u : ℕ} {table : List ℕ} (rows : RowsIn δ n u table) where
  pub row_room : u < n → u * n + n ≤ length table
  row_room l = omega (arith, before n u n l, rows.long)

  pub rows_more : u < n → (k : ℕ) → k ≡ n → {table' row : List ℕ} → table' ≡ put_mid (u * n) k table row → RowOf δ n u row → RowsIn δ n (u + 1) table'
  rows_more lu k e {table'} {row} whole row_of =
      let put : table' ≡ put_mid (u * n) n table row = whole ∙ ap (λ j. put_mid (u * n) j table row) e in
      record {
        long = rw put (put-long (u * n) n table row (row_room lu) row_of.long ∙ rows.long);
        each = λ i v li lv.
            ⊎_elim
            (λ s. rw s (rw put (put_inside (u * n) n table row (row_room lu) row_of.long v lv ∙ row_of.each v lv)))
            (λ l. rw put (put_before (u * n) n table row (row_room lu) row_of.long (i * n + v) (omega (arith, before n i u l)) ∙ rows.each i v l lv))
            (below (rw add-one at li));
      }

  pub rows_end : u ≡ n → table ≡ table_of δ n
  rows_end e =
      ext_get_or 0 table (table_of δ n) (rows.long ∙ sym (table-length δ n)) λ i l.
      let k : i < n * n = omega (arith, rows.long) in
      let z : 0 < n = some-row n i k in
      let lu : i / n < n = (div-lt_iff_lt-mul z).1 k in
      let lv : i % n < n = mod-lt i z in
      subst
      (λ (j : ℕ). get_or table j 0 ≡ get_or (table_of δ n) j 0)
      (div-add-mod' i n)
      (rows.each (i / n) (i % n) (omega arith) lv ∙ sym (table_at δ n (i / n) (i % n) lu lv))

-- the kept distances are the set's, where it is not refused
pub built : {n : ℕ} {between : List ℕ} (d : ℕ) (vectors : List ℤ) (table : List ℕ) → Filled (apart d vectors) n between →
    0 ≡ build_refusal n d (length vectors) (length table) → table_of (far between) n ≡ table_after n d vectors table
unfolding table_after
built {n} {between} d vectors table filled e =
    table_same (far between) (apart d vectors) n (λ u v lu lv. filled.each u v lu lv) ∙ sym (after_new (sym e) _ _)
