-- For proofs only. A sheet that was read, with just its values: the preparer has no reason to turn it back.
use Rattle.std.specs.Prelude.{◌≡◌, ◌≤◌, length, Ok}
use Rattle.sheet.specs.Limits.{most_columns}
use Rattle.sheet.specs.declared.lent.Measured.{Measured}
use Rattle.prepare.specs.Prepared.{prepare_of}
use Rattle.sheet_bytes.specs.Room.{most_cells}

pub record Prepares (m : Measured) : Type 0 where
  pub columns_most : m.size.columns ≤ most_columns
  pub cells_most : length m.values.now ≤ most_cells
  pub done : Ok tt ≡ prepare_of m.size.rows m.size.columns m.values.now (length m.values.now) (length m.values.now) m.size.columns
