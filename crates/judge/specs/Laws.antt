-- For a signer. What holds of the judge, as statements; `proofs/` proves each. The conditions of the table stand here once more, with no
-- search in them.
use Rattle.std.specs.Prelude.{◌≡◌, ◌⊎◌, ℕ, ◌+◌, ◌*◌, ◌≤◌, List, [], ◌∷◌, length, get_or, T, Ok}
use Rattle.std.proofs.Math.Option.{some}
use Rattle.std.specs.Float.Ieee.Scale.{finite}
use Rattle.sheet.specs.Sheet.{Sheet}
use Rattle.sheet.specs.Laws.{First, SizeOutside, ValueOutside, LabelHigh}
use Rattle.sheet.specs.Reasons.{reason_of}
use Rattle.sheet.specs.Rows.{rows_at}
use Rattle.tree.specs.declared.Side.{Side}
use Rattle.tree.specs.declared.Side.TheVariants.{Leaf, Split}
use Rattle.tree.specs.declared.Tree.{Tree}
use Rattle.judge.specs.declared.judge_rows.Judgement.{Judgement}
use Rattle.judge.specs.Mistakes.{root_leftward, root_rightward, judgement_of}
use Rattle.judge.specs.Judge.{judge_of}

-- ---- the conditions, each of a place; 1, 5 and 6 are the input check's

-- 2: "an input slice of the wrong length", place 0: of the judge's two
pub record JudgeLengths (s : Sheet) : Type 0 where
  pub values_all : length s.values ≡ s.columns * s.rows
  pub codes_all : length s.codes ≡ s.rows

abbrev pub JudgeLengthWrong : Sheet → ℕ → Type 0
JudgeLengthWrong s p = (p ≡ 0) × (JudgeLengths s → ⊥)

-- a side asks a column that the sheet does not have
abbrev pub AsksHigh : ℕ → Side → Type 0
AsksHigh columns (Leaf leaf) = ⊥
AsksHigh columns (Split question left right) = columns ≤ question.column

-- a leaf of a side has a label that the sheet does not have
abbrev pub LeafAbove : ℕ → Side → Type 0
LeafAbove labels (Leaf leaf) = labels ≤ leaf.label
LeafAbove labels (Split question left right) = (labels ≤ left.label) ⊎ (labels ≤ right.label)

-- a side asks at a threshold that is an infinity or a NaN
abbrev pub AsksEndless : Side → Type 0
AsksEndless (Leaf leaf) = ⊥
AsksEndless (Split question left right) = T (finite question.threshold) → ⊥

-- the condition at a place, of those at places 0, 1 and 2; at no other place does one hold
abbrev pub among : List (Type 0) → ℕ → Type 0
among conditions p = get_or conditions p ⊥

-- 10: "judge: tree column too high", "question: 0 root, 1 left, 2 right"
abbrev pub ColumnHigh : Sheet → Tree → ℕ → Type 0
ColumnHigh s t = among ((s.columns ≤ t.question.column) ∷ AsksHigh s.columns t.left ∷ AsksHigh s.columns t.right ∷ [])

-- 11: "judge: leaf label too high", "side: 1 left, 2 right"
abbrev pub LeafHigh : Sheet → Tree → ℕ → Type 0
LeafHigh s t = among (⊥ ∷ LeafAbove s.labels t.left ∷ LeafAbove s.labels t.right ∷ [])

-- 12: "judge: threshold not finite", "question, as in 10"
abbrev pub ThresholdEndless : Tree → ℕ → Type 0
ThresholdEndless t = among ((T (finite t.question.threshold) → ⊥) ∷ AsksEndless t.left ∷ AsksEndless t.right ∷ [])

-- "the judge 1, 2, 5, 6, 10, 11, 12": the conditions at a place, by number from 0 on; the others are no reasons of the judge
abbrev pub judge_conditions : Sheet → Tree → ℕ → List (Type 0)
judge_conditions s t p =
    ⊥
    ∷ SizeOutside s p
    ∷ JudgeLengthWrong s p
    ∷ ⊥
    ∷ ⊥
    ∷ ValueOutside s p
    ∷ LabelHigh s p
    ∷ ⊥
    ∷ ⊥
    ∷ ⊥
    ∷ ColumnHigh s t p
    ∷ LeafHigh s t p
    ∷ ThresholdEndless t p
    ∷ []

abbrev pub JudgeCondition : Sheet → Tree → ℕ → ℕ → Type 0
JudgeCondition s t n p = get_or (judge_conditions s t p) n ⊥

-- ---- "The lowest number wins, each check over the whole sheet."

-- "Each is given exactly when its condition holds and no lower one does."
abbrev pub JudgeGivenExactly : Type 0
JudgeGivenExactly =
    (s : Sheet) (t : Tree) (n p : ℕ)
    → (reason_of (judge_of s t) ≡ some (n, p) → First (JudgeCondition s t) n p)
    × (First (JudgeCondition s t) n p → reason_of (judge_of s t) ≡ some (n, p))

-- and a sheet and a tree of which none holds are judged, and no others
abbrev pub JudgedExactly : Type 0
JudgedExactly =
    (s : Sheet) (t : Tree) (j : Judgement)
    → (judge_of s t ≡ Ok j → (j ≡ judgement_of s t) × ((n p : ℕ) → JudgeCondition s t n p → ⊥))
    × (((n p : ℕ) → JudgeCondition s t n p → ⊥) → judge_of s t ≡ Ok (judgement_of s t))

-- ---- every row goes to one of the two root sides, whatever the tree

abbrev pub EveryRowCounted : Type 0
EveryRowCounted = (s : Sheet) (t : Tree) → rows_at s (root_leftward s t) + rows_at s (root_rightward s t) ≡ s.rows
