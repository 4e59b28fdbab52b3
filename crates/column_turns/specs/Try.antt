-- For a signer. A try of one cut as the first question (document 01, "Search", step 3). What it finds is `sides_at` of the scan. Definitions only.
use Rattle.std.specs.Prelude.{ℕ, ◌+◌, leb}
use Rattle.sheet.specs.Sheet.{Sheet, before_cuts}
use Rattle.sheet.specs.declared.Terms.{Terms}
use Rattle.tree.specs.declared.Tree.{Tree}
use Rattle.leaves_score.specs.declared.Sides.{Sides}
use Rattle.leaves_score.specs.Root.{cut_question, sides_at, errors_at}
use Rattle.interval_pruner.specs.Column.{Column}

-- what the search of column c looks at: its cuts' places, and the two errors that a try of each finds
abbrev pub searched_column : Sheet → Terms → ℕ → Column
searched_column s t c = record { places = before_cuts s c; errors = errors_at s t.support c; gap = t.gap; small = leb t.support 1 }

-- the tree of cut k of column c, with that error
unfoldable pub tree_at : Sheet → ℕ → ℕ → ℕ → ℕ → Tree
tree_at s support c k error =
    let sides : Sides = sides_at s support c k in
    record { question = cut_question s c k; left = sides.left; right = sides.right; error = error }

-- what a try of it makes: its error is that of its two sides
unfoldable pub tried_tree : Sheet → ℕ → ℕ → ℕ → Tree
tried_tree s support c k = tree_at s support c k ((errors_at s support c k).0 + (errors_at s support c k).1)
