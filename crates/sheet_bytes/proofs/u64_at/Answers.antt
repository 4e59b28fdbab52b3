-- A number by its bytes, the least first.
use mathlib.Core.Path.{◌∙◌}
use Rattle.sheet_bytes.proofs.Numbers.{number_8}
use Rattle.sheet_bytes.proofs.u64_at.Goals as goal

pub returns : goal.returns
returns c = c.from_le_bytes.ensures ∙ number_8 c.args.bytes.now c.args.at _ c.bytes_at.ensures
