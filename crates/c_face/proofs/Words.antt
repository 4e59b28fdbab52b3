-- A rule's words: its line, and its two sides past it. Assumes nothing.
use mathlib.Core.Path.{◌≡◌, refl}
use Prim.Native.Nat.{ℕ}
use mathlib.Core.List.{List, ◌∷◌, ◌++◌}
use lib.ListN.{replicate}
use lib.Ieee.{binary64, to_bits}
use borrow.Rule.Slice.PartMut.{put_mid}
use Rattle.tree.specs.declared.Side.{Side}
use Rattle.tree.specs.declared.Side.TheVariants.{Leaf, Split}
use Rattle.tree.specs.declared.Tree.{Tree}
use Rattle.c_face.specs.Rule.{question_words, side_words, found_words}

-- the sides' seven words each come over what was 0
sides_over : (error tried column bits : ℕ) (left right : Side)
    → put_mid 12 7 (put_mid 5 7 (2 ∷ error ∷ tried ∷ column ∷ bits ∷ replicate 14 0) (side_words left)) (side_words right)
    ≡ 2 ∷ error ∷ tried ∷ column ∷ bits ∷ (side_words left ++ side_words right)
unfolding side_words
sides_over error tried column bits (Leaf leaf) (Leaf other) = refl
sides_over error tried column bits (Leaf leaf) (Split question left right) = refl
sides_over error tried column bits (Split question left right) (Leaf leaf) = refl
sides_over error tried column bits (Split question left right) (Split other before after) = refl

pub rule_words : (tree : Tree) (tried : ℕ) (line left right : List ℕ)
    → line ≡ 2 ∷ tree.error ∷ tried ∷ question_words tree.question → left ≡ side_words tree.left → right ≡ side_words tree.right
    → put_mid 12 7 (put_mid 5 7 (line ++ replicate 14 0) left) right ≡ found_words tree tried
unfolding found_words
rule_words tree tried line left right e f g =
    rw (e, f, g) (sides_over tree.error tried tree.question.column (to_bits binary64 tree.question.threshold) tree.left tree.right)
