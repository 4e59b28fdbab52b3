-- The judge counts the mistakes that the laws of the scan speak of; what it takes is a proper tree, and it takes a tree that tells what is so.
-- Assumes nothing.
use mathlib.Core.Path.{◌≡◌, sym, ap, ap₂, ◌∙◌}
use Prim.Native.Nat.{ℕ, ◌+◌, ◌<◌}
use mathlib.Core.Bool.{Bool}
use lib.Dec.{leb, nleb→lt}
use lib.Ieee.Scale.{finite}
use Rattle.std.specs.Prelude.{Ok}
use Rattle.basics.proofs.Choice.{nor_left, nor_right, nor_both, nleb, not_not}
use Rattle.threshold.proofs.Keys.{finite_comparable}
use Rattle.threshold.specs.Laws.{Measured}
use Rattle.threshold.proofs.Law.{within_finite}
use Rattle.sheet.specs.Sheet.{Sheet}
use Rattle.tree.specs.declared.Side.{Side}
use Rattle.tree.specs.declared.Side.TheVariants.{Leaf, Split}
use Rattle.tree.specs.declared.Tree.{Tree}
use Rattle.side_laws.specs.Told.{Told}
use Rattle.side_laws.specs.Opt.{mistakes, Proper}
use Rattle.side_laws.specs.Root.{root_mistakes}
use Rattle.side_laws.proofs.Mistakes.{leaf_mistakes, split_mistakes}
use Rattle.side_laws.proofs.Root.{root_parts}
use Rattle.judge.specs.declared.judge_rows.Reached.{Reached}
use Rattle.judge.specs.declared.judge_rows.Wrong.TheVariants.{AtLeaf, AtSplit}
use Rattle.judge.specs.Mistakes.{reached_at, side_wrong, wrong_sum, root_leftward, root_rightward, judgement_of}
use Rattle.judge.specs.Judge.{bad_leaf, bad_threshold, tree_checked, bad_column}
use Rattle.judge.proofs.Taking.{Taken, twice_not}
use Rattle.judge.proofs.Taking as taking
use Rattle.certificate.specs.Certificate.{SideDouble, own_errors}

-- ---- mistakes

-- a side's mistakes, leaf by leaf, add up to those of the laws
side_sum : (s : Sheet) (mine : ℕ → Bool) (x : Side) → wrong_sum (side_wrong s mine x) ≡ mistakes s mine x
unfolding wrong_sum side_wrong reached_at
side_sum s mine (Leaf leaf) = sym (leaf_mistakes s mine leaf)
side_sum s mine (Split question left right) = sym (split_mistakes s mine question left right)

-- the tree's mistakes are those of its two sides
pub tree_sum : (s : Sheet) (t : Tree) → (judgement_of s t).mistakes ≡ root_mistakes s t.question t.left t.right
unfolding judgement_of
tree_sum s t =
    ap₂ (λ (a b : ℕ). a + b) (side_sum s (root_leftward s t) t.left) (side_sum s (root_rightward s t) t.right)
    ∙ sym (root_parts s t.question t.left t.right)

-- ---- a side that the judge takes is one of those that the laws range over

pub proper : (s : Sheet) (x : Side) → Taken s x → SideDouble x → Proper s x
unfolding bad_column bad_leaf bad_threshold
proper s (Leaf leaf) h d = nleb→lt s.labels leaf.label h.leaf
proper s (Split question left right) h d = (
  nleb→lt s.columns question.column h.column,
  nleb→lt s.labels left.label (nor_left (leb s.labels left.label) (leb s.labels right.label) h.leaf),
  nleb→lt s.labels right.label (nor_right (leb s.labels left.label) (leb s.labels right.label) h.leaf),
  finite_comparable question.threshold (twice_not (finite question.threshold) h.threshold) d,
)

-- ---- a tree that tells what is so is taken, and judged as it says

told_taken : (s : Sheet) (support : ℕ) (mine : ℕ → Bool) (x : Side) → Told s support mine x → Taken s x
unfolding bad_column bad_leaf bad_threshold
told_taken s support mine (Leaf leaf) h = record { column = tt; leaf = nleb s.labels leaf.label h.label_in; threshold = tt }
told_taken s support mine (Split question left right) h =
    record {
      column = nleb s.columns question.column h.column_in;
      leaf = nor_both (leb s.labels left.label) (leb s.labels right.label) (nleb s.labels left.label h.left_told.label_in) (nleb s.labels right.label h.right_told.label_in);
      threshold = not_not (finite question.threshold) (within_finite question.threshold h.threshold_in.limited);
    }

abbrev reach : ℕ → Reached
reach n = record { wrong = n }

pub told_wrong : (s : Sheet) (support : ℕ) (mine : ℕ → Bool) (x : Side) → Told s support mine x → side_wrong s mine x ≡ own_errors x
unfolding side_wrong reached_at
told_wrong s support mine (Leaf leaf) h = ap (λ (n : ℕ). AtLeaf (reach n)) (sym h.error_is)
told_wrong s support mine (Split question left right) h = ap₂ (λ (m n : ℕ). AtSplit (reach m) (reach n)) (sym h.left_told.error_is) (sym h.right_told.error_is)

pub taken : (s : Sheet) (t : Tree) (support : ℕ) → t.question.column < s.columns → Measured t.question.threshold
    → Told s support (root_leftward s t) t.left → Told s support (root_rightward s t) t.right → tree_checked s t ≡ Ok (judgement_of s t)
taken s t support h m l r =
    taking.taken s t h (within_finite t.question.threshold m.limited) (told_taken s support (root_leftward s t) t.left l)
    (told_taken s support (root_rightward s t) t.right r)
