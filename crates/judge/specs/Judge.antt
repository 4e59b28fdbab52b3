-- For a signer. Document 01, "Reasons a call turns back": "the judge 1, 2, 5, 6, 10, 11, 12", the lowest number first. Definitions only.
use Rattle.std.specs.Prelude.{ℕ, Bool, false, not, ◌&&◌, ◌||◌, [], ◌∷◌, length, get_or, leb, ltb, eqb, Result, Ok, Err}
use Rattle.std.specs.Float.Ieee.Scale.{finite}
use Rattle.basics.specs.Choice.{pick}
use Rattle.basics.specs.Walk.{walk}
use Rattle.sheet.specs.Sheet.{Sheet}
use Rattle.sheet.specs.Check.{cells_of, size_holds, bad_value, bad_label}
use Rattle.sheet.specs.Reasons.{refused}
use Rattle.sheet.specs.declared.refusals.Reason.{Reason}
use Rattle.sheet.specs.declared.refusals.Reason.TheVariants.{SizeOutside, LengthWrong, ValueOutside, LabelHigh, ColumnHigh, LeafHigh, ThresholdEndless}
use Rattle.sheet.specs.declared.refusals.Refusal.{Refusal}
use Rattle.tree.specs.declared.Side.{Side}
use Rattle.tree.specs.declared.Side.TheVariants.{Leaf, Split}
use Rattle.tree.specs.declared.Tree.{Tree}
use Rattle.judge.specs.Mistakes.{judgement_of}
use Rattle.judge.specs.declared.judge_rows.Judgement.{Judgement}
use Rattle.judge.specs.Reasons.{places}

-- 2: "an input slice of the wrong length": the judge is handed values and labels only
unfoldable pub judged_holds : Sheet → Bool
judged_holds s = eqb (length s.values) (cells_of s) && eqb (length s.codes) s.rows

-- 10: "judge: tree column too high", at a side's question
unfoldable pub bad_column : ℕ → Side → Bool
bad_column columns (Leaf leaf) = false
bad_column columns (Split question left right) = leb columns question.column

-- 11: "judge: leaf label too high", at any leaf of a side
unfoldable pub bad_leaf : ℕ → Side → Bool
bad_leaf labels (Leaf leaf) = leb labels leaf.label
bad_leaf labels (Split question left right) = leb labels left.label || leb labels right.label

-- 12: "judge: threshold not finite", at a side's question
unfoldable pub bad_threshold : Side → Bool
bad_threshold (Leaf leaf) = false
bad_threshold (Split question left right) = not (finite question.threshold)

-- turned back for this reason at this place, if the condition holds; else the rest
unfoldable pub back : Reason → ℕ → Bool → Result Judgement Refusal → Result Judgement Refusal
back reason place bad rest = pick bad (Err (refused reason place)) rest

-- turned back for this reason at the first of the places that fails; else the rest
unfoldable pub back_first : Reason → ℕ → (ℕ → Bool) → Result Judgement Refusal → Result Judgement Refusal
back_first reason places bad rest = let p : ℕ = walk bad places 0 in back reason p (ltb p places) rest

-- what fails at the places root, left and right
unfoldable pub bad_at : Bool → Bool → Bool → ℕ → Bool
bad_at root left right p = get_or (root ∷ left ∷ right ∷ []) p false

abbrev pub bad_columns : Sheet → Tree → ℕ → Bool
bad_columns s t = bad_at (leb s.columns t.question.column) (bad_column s.columns t.left) (bad_column s.columns t.right)

-- the root has no leaf of its own
abbrev pub bad_leaves : Sheet → Tree → ℕ → Bool
bad_leaves s t = bad_at false (bad_leaf s.labels t.left) (bad_leaf s.labels t.right)

abbrev pub bad_thresholds : Tree → ℕ → Bool
bad_thresholds t = bad_at (not (finite t.question.threshold)) (bad_threshold t.left) (bad_threshold t.right)

unfoldable pub tree_checked : Sheet → Tree → Result Judgement Refusal
tree_checked s t =
    back_first ColumnHigh places (bad_columns s t)
    (back_first LeafHigh places (bad_leaves s t)
    (back_first ThresholdEndless places (bad_thresholds t)
    (Ok (judgement_of s t))))

unfoldable pub judge_of : Sheet → Tree → Result Judgement Refusal
judge_of s t =
    back SizeOutside 0 (not (size_holds s.rows s.columns s.labels))
    (back LengthWrong 0 (not (judged_holds s))
    (back_first ValueOutside (cells_of s) (bad_value s.values)
    (back_first LabelHigh s.rows (bad_label s.codes s.labels)
    (tree_checked s t))))
