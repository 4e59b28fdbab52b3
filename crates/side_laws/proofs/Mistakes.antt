-- The mistakes of a leaf or a question are those of its leaves; so a side that tells what is so makes its error's mistakes. More rows make no fewer
-- mistakes, and no more than one more each. Assumes nothing.
use mathlib.Core.Path.{◌≡◌, refl, sym, ◌∙◌}
use Prim.Native.Nat.{ℕ, ◌+◌, ◌≤◌, ◌<◌}
use native.Mathlib.Omega.{arith}
use mathlib.Core.Bool.{Bool, true, false, not, ◌&&◌}
use lib.Dec.{eqb}
use Rattle.basics.specs.Choice.{pick, bit}
use Rattle.basics.proofs.Lists.{tally_parts}
use Rattle.threshold.proofs.Law.{measured_comparable}
use Rattle.sheet.specs.Sheet.{Sheet, label_of, every_row}
use Rattle.sheet.specs.Rows.{sent_left, leftward, rightward, rows_at, wrong_at}
use Rattle.tree.specs.Answer.{side_error}
use Rattle.tree.specs.declared.Leaf as leaf
use Rattle.tree.specs.declared.Question.{Question}
use Rattle.tree.specs.declared.Side.{Side}
use Rattle.tree.specs.declared.Side.TheVariants.{Leaf, Split}
use Rattle.leaves_score.specs.Column.{other}
use Rattle.leaves_score.specs.Scan.{sides_of}
use Rattle.side_laws.specs.Told.{Told}
use Rattle.side_laws.specs.Opt.{answer, mistakes, Proper, Grows, Mistaken}
use Rattle.side_laws.proofs.Tallies.{rows_shift}
use Rattle.side_laws.proofs.Sides.{tells}

-- ---- by parts

split_bit : (o m : Bool) (l a b : ℕ) → bit (o && not (eqb l (pick m a b))) ≡ bit ((o && m) && not (eqb l a)) + bit ((o && not m) && not (eqb l b))
unfolding pick
split_bit true true l a b = omega arith
split_bit true false l a b = omega arith
split_bit false m l a b = omega arith

module _ (s : Sheet) (mine : ℕ → Bool) where
  pub leaf_mistakes : (l : leaf.Leaf) → mistakes s mine (Leaf l) ≡ wrong_at s mine l.label
  unfolding mistakes wrong_at answer
  leaf_mistakes l = refl

  pub split_mistakes : (q : Question) (a b : leaf.Leaf)
      → mistakes s mine (Split q a b) ≡ wrong_at s (leftward s q mine) a.label + wrong_at s (rightward s q mine) b.label
  unfolding mistakes wrong_at answer
  split_mistakes q a b =
      tally_parts (λ r. leftward s q mine r && not (eqb (label_of s r) a.label)) (λ r. rightward s q mine r && not (eqb (label_of s r) b.label))
      (λ r. mine r && not (eqb (label_of s r) (pick (sent_left s q r) a.label b.label)))
      (λ r. split_bit (mine r) (sent_left s q r) (label_of s r) a.label b.label) (every_row s)

  pub told_mistakes : (support : ℕ) (x : Side) → Told s support mine x → mistakes s mine x ≡ side_error x
  told_mistakes support (Leaf l) h = leaf_mistakes l ∙ sym h.error_is
  told_mistakes support (Split q a b) h = omega (arith, split_mistakes q a b, h.left_told.error_is, h.right_told.error_is)

  pub told_proper : (support : ℕ) (x : Side) → Told s support mine x → Proper s x
  told_proper support (Leaf l) h = h.label_in
  told_proper support (Split q a b) h = (h.column_in, h.left_told.label_in, h.right_told.label_in, measured_comparable q.threshold h.threshold_in)

pub mistaken : Mistaken
mistaken s sound support mark =
    let k = tells s sound support mark in
    record {
      left = told_mistakes s mark support (sides_of s support mark).left k.left;
      right = told_mistakes s (other mark) support (sides_of s support mark).right k.right;
    }

-- ---- more rows

bits_less : (a b w : Bool) → bit a ≤ bit b → bit (a && w) + 0 ≤ bit (b && w) + 0
bits_less true true w h = omega arith
bits_less true false w h = absurd (omega arith)
bits_less false b w h = omega arith

bits_more : (a b w : Bool) → bit a ≤ bit b → bit (b && w) + bit a ≤ bit (a && w) + bit b
bits_more true true w h = omega arith
bits_more true false w h = absurd (omega arith)
bits_more false true true h = omega arith
bits_more false true false h = omega arith
bits_more false false w h = omega arith

module _ (s : Sheet) (few more : ℕ → Bool) (inside : (r : ℕ) → r < s.rows → bit (few r) ≤ bit (more r)) (x : Side) where
  pub mistakes_less : mistakes s few x ≤ mistakes s more x
  unfolding mistakes
  mistakes_less =
      omega (
        arith,
        rows_shift s (λ r. few r && not (eqb (label_of s r) (answer s x r))) (λ _. false) (λ r. more r && not (eqb (label_of s r) (answer s x r))) (λ _. false)
            (λ r h. bits_less (few r) (more r) (not (eqb (label_of s r) (answer s x r))) (inside r h)),
      )

  pub mistakes_more : mistakes s more x + rows_at s few ≤ mistakes s few x + rows_at s more
  unfolding mistakes rows_at
  mistakes_more =
      rows_shift s (λ r. more r && not (eqb (label_of s r) (answer s x r))) few (λ r. few r && not (eqb (label_of s r) (answer s x r))) more
      (λ r h. bits_more (few r) (more r) (not (eqb (label_of s r) (answer s x r))) (inside r h))

pub grows : Grows
grows s few more inside n m p q = (
  omega (arith, p.least q.best q.proper, mistakes_less s few more inside q.best, q.reached),
  omega (arith, q.least p.best p.proper, mistakes_more s few more inside p.best, p.reached),
)
