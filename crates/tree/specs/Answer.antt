-- For a signer. Document 01, "Reasons a call turns back": "A search answers Turned back (number, place), Kept (error, tried) or Found (error,
-- column, threshold, two sides, tried). A side is a leaf (label, error) or a split (column, threshold, two labels, two errors)." What each case says,
-- in the document's numbers and values. Definitions only.
use Rattle.std.specs.Prelude.{ℕ, ◌+◌}
use Rattle.std.proofs.Math.Option.{Option, none, some}
use Rattle.tree.specs.declared.Side.{Side}
use Rattle.tree.specs.declared.Side.TheVariants.{Leaf, Split}
use Rattle.tree.specs.declared.Tree.{Tree}
use Rattle.tree.specs.declared.Answer.{Answer}
use Rattle.tree.specs.declared.Answer.TheVariants.{TurnedBack, Kept, Found}

-- the reason's number and place, if the sheet was turned back
abbrev pub turned_back : Answer → Option (ℕ × ℕ)
turned_back (TurnedBack number place) = some (number, place)
turned_back (Kept error tried) = none
turned_back (Found tree tried) = none

-- the final error, Kept or Found
abbrev pub final_error : Answer → Option ℕ
final_error (TurnedBack number place) = none
final_error (Kept error tried) = some error
final_error (Found tree tried) = some tree.error

-- the rule, if one was found
abbrev pub rule_of : Answer → Option Tree
rule_of (TurnedBack number place) = none
rule_of (Kept error tried) = none
rule_of (Found tree tried) = some tree

-- the count of splits tried
abbrev pub tried_of : Answer → Option ℕ
tried_of (TurnedBack number place) = none
tried_of (Kept error tried) = some tried
tried_of (Found tree tried) = some tried

-- a side's error
abbrev pub side_error : Side → ℕ
side_error (Leaf leaf) = leaf.error
side_error (Split question left right) = left.error + right.error
