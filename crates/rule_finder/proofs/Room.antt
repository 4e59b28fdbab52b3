-- The room for the preparer's lists: as many places of a list of zeros as the sheet has cells or columns. Assumes nothing.
use mathlib.Core.Path.{◌≡◌, sym, ap₂, ◌∙◌}
use Prim.Native.Nat.{ℕ, ◌≤◌}
use native.Mathlib.Omega.{arith}
use mathlib.Core.List.{List}
use lib.ListN.{length, take, replicate, length-replicate}
use lib.Seq.{length-take-le}
use Rattle.std.specs.Prelude.{Ok}
use Rattle.sheet.specs.Limits.{most_columns}
use Rattle.sheet.specs.declared.lent.Measured.{Measured}
use Rattle.prepare.specs.Prepared.{prepare_of}
use Rattle.sheet_bytes.specs.Room.{most_cells}
use Rattle.rule_finder.specs.Ready.{Prepares}

-- the first places of so many zeros
abbrev pub places : ℕ → ℕ → List ℕ
places count most = take count (replicate most 0)

pub places_count : (count most : ℕ) → count ≤ most → length (places count most) ≡ count
places_count count most h = length-take-le count (replicate most 0) (omega (arith, length-replicate {A = ℕ} most 0))

module _ (m : Measured) (p : Prepares m) where
  pub cells_room : length (places (length m.values.now) most_cells) ≡ length m.values.now
  cells_room = places_count (length m.values.now) most_cells p.cells_most

  pub columns_room : length (places m.size.columns most_columns) ≡ m.size.columns
  columns_room = places_count m.size.columns most_columns p.columns_most

  -- in that room the preparer does not turn back
  pub room : Ok tt ≡ prepare_of m.size.rows m.size.columns m.values.now (length (places (length m.values.now) most_cells)) (length (places (length m.values.now) most_cells)) (length (places m.size.columns most_columns))
  room =
      p.done ∙ sym (ap₂ (λ (cells columns : ℕ). prepare_of m.size.rows m.size.columns m.values.now cells cells columns) cells_room columns_room)
