-- What is read of the lists, as the definitions name it. Assumes nothing.
use mathlib.Core.Path.{◌≡◌, refl, ap}
use Prim.Native.Nat.{ℕ, ◌+◌, ◌*◌}
use lib.ListN.{get_or}
use lib.Ieee.{nan}
use Rattle.sheet.specs.Sheet.{Sheet, row_at, value_of, value_at, place_of, count_of}

module _ (s : Sheet) (c : ℕ) where
  pub as_row : (i row : ℕ) → row ≡ get_or s.order (c * s.rows + i) 0 → row ≡ row_at s c i
  unfolding row_at
  as_row i row e = e

  pub as_value_of : (i row : ℕ) → row ≡ row_at s c i → get_or s.values (c * s.rows + row) nan ≡ value_at s c i
  unfolding value_at value_of
  as_value_of i row e = ap (λ (r : ℕ). get_or s.values (c * s.rows + r) nan) e

  pub as_place : (k : ℕ) → get_or s.cuts (c * s.rows + k) 0 ≡ place_of s c k
  unfolding place_of
  as_place k = refl

  pub as_count : get_or s.counts c 0 ≡ count_of s c
  unfolding count_of
  as_count = refl
