-- For a signer. What whoever signs relies on, of any inputs that the search accepts, as statements; `proofs/` proves each. The final error is
-- the error in the answer, Kept or Found. `Doubles` says that the sheet's values are f64, as those of every slice are.
use Rattle.std.specs.Prelude.{◌≡◌, ℕ, ◌+◌, ◌≤◌, ◌<◌, min, T, Ok}
use Rattle.std.specs.Float.{binary64}
use Rattle.std.specs.Float.Ieee.{fits}
use Rattle.basics.specs.Choice.{Hit}
use Rattle.sheet.specs.Sheet.{Sheet}
use Rattle.sheet.specs.declared.Terms.{Terms}
use Rattle.sheet.specs.Check.{check_of}
use Rattle.sheet.specs.Laws.{Doubles}
use Rattle.sheet.specs.Rows.{rows_at}
use Rattle.tree.specs.declared.Leaf as leaf
use Rattle.tree.specs.declared.Side.{Side}
use Rattle.tree.specs.declared.Side.TheVariants.{Leaf, Split}
use Rattle.tree.specs.declared.Tree.{Tree}
use Rattle.tree.specs.declared.Answer.{Answer}
use Rattle.tree.specs.Answer.{final_error, rule_of}
use Rattle.judge.specs.declared.judge_rows.Reached.{Reached}
use Rattle.judge.specs.declared.judge_rows.Wrong.{Wrong}
use Rattle.judge.specs.declared.judge_rows.Wrong.TheVariants.{AtLeaf, AtSplit}
use Rattle.judge.specs.declared.judge_rows.Judgement.{Judgement}
use Rattle.judge.specs.Mistakes.{root_leftward, root_rightward}
use Rattle.judge.specs.Judge.{judge_of}
use Rattle.depth2.specs.Search.{search_of}

-- ---- any tree

-- a threshold is some f64
abbrev pub SideDouble : Side → Type 0
SideDouble (Leaf leaf) = Unit {0}
SideDouble (Split question left right) = T (fits binary64 question.threshold)

pub record TreeDouble (tree : Tree) : Type 0 where
  pub root : T (fits binary64 tree.question.threshold)
  pub left : SideDouble tree.left
  pub right : SideDouble tree.right

-- "any two-level tree whose first question, at any finite threshold, leaves rows on both sides": the judge takes it, and both sides have rows.
-- Its questions ask columns of the sheet at finite thresholds and its labels are the sheet's, or the judge would turn it back.
pub record AnyTree (s : Sheet) (tree : Tree) (j : Judgement) : Type 0 where
  pub double : TreeDouble tree
  pub judged : judge_of s tree ≡ Ok j
  pub left_rows : 1 ≤ rows_at s (root_leftward s tree)
  pub right_rows : 1 ≤ rows_at s (root_rightward s tree)

-- ---- the three sentences

-- 1. "Take support 0 or 1, and any two-level tree .. Let it make e mistakes on the sheet. Then min(final error, upper bound) ≤ e + gap."
abbrev pub NothingBetter : Type 0
NothingBetter =
    (s : Sheet) (t : Terms) (words : ℕ) → Doubles s → check_of s t words ≡ Ok tt → t.support ≤ 1
    → (tree : Tree) (j : Judgement) → AnyTree s tree j
    → Hit (λ final. min final t.bound ≤ j.mistakes + t.gap) (final_error (search_of s t words))

-- 2. "For any support the final error never exceeds the starting one"
abbrev pub NeverWorse : Type 0
NeverWorse =
    (s : Sheet) (t : Terms) (words : ℕ) → Doubles s → check_of s t words ≡ Ok tt
    → Hit (λ final. final ≤ t.error) (final_error (search_of s t words))

-- what a leaf says came to it, and a side of its leaves
abbrev pub own_error : leaf.Leaf → Reached
own_error leaf = record { wrong = leaf.error }

abbrev pub own_errors : Side → Wrong
own_errors (Leaf leaf) = AtLeaf (own_error leaf)
own_errors (Split question left right) = AtSplit (own_error left) (own_error right)

-- the judge takes the tree, and counts just the mistakes that it says it makes, leaf by leaf
pub record AsItSays (s : Sheet) (tree : Tree) : Type 0 where
  pub judgement : Judgement
  pub judged : judge_of s tree ≡ Ok judgement
  pub mistakes : judgement.mistakes ≡ tree.error
  pub left : judgement.left ≡ own_errors tree.left
  pub right : judgement.right ≡ own_errors tree.right

-- 3. "and if it is lower, the returned tree, run over the rows, makes exactly that many mistakes, leaf by leaf"
abbrev pub TreeTells : Type 0
TreeTells =
    (s : Sheet) (t : Terms) (words : ℕ) → Doubles s → check_of s t words ≡ Ok tt
    → Hit
    (λ final. final < t.error → Hit (λ tree. (tree.error ≡ final) × AsItSays s tree) (rule_of (search_of s t words)))
    (final_error (search_of s t words))

-- ---- the three sentences of one answer r

pub record Certified (s : Sheet) (t : Terms) (words : ℕ) (r : Answer) : Type 0 where
  pub nothing_better : check_of s t words ≡ Ok tt → t.support ≤ 1 → (tree : Tree) (j : Judgement) → AnyTree s tree j
      → Hit (λ final. min final t.bound ≤ j.mistakes + t.gap) (final_error r)
  pub never_worse : check_of s t words ≡ Ok tt → Hit (λ final. final ≤ t.error) (final_error r)
  pub tree_tells : check_of s t words ≡ Ok tt
      → Hit (λ final. final < t.error → Hit (λ tree. (tree.error ≡ final) × AsItSays s tree) (rule_of r)) (final_error r)
