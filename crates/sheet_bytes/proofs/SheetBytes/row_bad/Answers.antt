-- A row that ends within the bytes has its mark there.
use native.Mathlib.Omega.{arith}
use Rattle.sheet_bytes.proofs.Numbers.{starts_apart}
use Rattle.sheet_bytes.proofs.SheetBytes.row_bad.Goals as goal

pub is_marked-requires : goal.is_marked-requires
is_marked-requires c =
    let apart = starts_apart c.args.self.now.head.size.columns c.args.row in
    omega arith
