-- The sides as the scan answers them: what each says is so, and its error is its rows less its score. Assumes nothing.
use mathlib.Core.Path.{◌≡◌, refl, sym, ap, ◌∙◌, subst}
use mathlib.Core.Logic.{inl, inr}
use Prim.Native.Nat.{ℕ, ◌+◌, ◌-◌, ◌≤◌, ◌<◌}
use native.Mathlib.Omega.{arith}
use mathlib.Core.Bool.{Bool, true, false, not, ◌&&◌}
use mathlib.Core.List.{List}
use lib.ListN.{get_or}
use lib.Ieee.{Float}
use lib.Dec.{T, eqb, eqb→eq}
use Rattle.basics.specs.Choice.{bit}
use Rattle.basics.proofs.Choice.{by_test, neqb}
use Rattle.threshold.specs.Order.{key, comparable}
use Rattle.threshold.specs.Laws.{Measured}
use Rattle.threshold.proofs.Law.{measured_comparable}
use Rattle.sheet.specs.Sheet.{Sheet, label_of}
use Rattle.sheet.specs.Sound.{Sound}
use Rattle.sheet.specs.Rows.{sent_left, leftward, rightward, rows_at, wrong_at}
use Rattle.tree.specs.Answer.{side_error}
use Rattle.tree.specs.declared.Question.{Question}
use Rattle.tree.specs.declared.Side.TheVariants.{Leaf, Split}
use Rattle.side_scan.specs.declared.SideScan.{SideScan}
use Rattle.side_scan.specs.declared.cut_score.Best.{Best}
use Rattle.side_scan.specs.Commonest.{commonest, most_of}
use Rattle.side_scan.specs.OneSide.{own_at, leaf_label, leaf_score, side_of}
use Rattle.leaves_score.specs.Column.{other, labelled, own_of, side_at_start}
use Rattle.leaves_score.specs.Kept.{Owns}
use Rattle.side_scan.proofs.Commonest.{commonest_in}
use Rattle.leaves_score.proofs.Live.{own_at_lem, owns_start}
use Rattle.side_laws.specs.Alone.{alone, side_alone}
use Rattle.side_laws.specs.Told.{SplitTold, Told, Tells, ErrorsAddUp}
use Rattle.side_laws.proofs.Decouple.{owns_columns, decouples}
use Rattle.side_laws.proofs.Tallies.{rows_alike, both_parts}
use Rattle.side_laws.proofs.Fair.{key_of, goes, lower_is, upper_is, threshold_measured}
use Rattle.side_laws.proofs.Past.{sent, kept}
use Rattle.side_laws.proofs.Told.{part_rows, part_wrong, leaf_count, PartsAt, Taken, Good, side_good}

-- ---- parts by a threshold are parts by its key

left_bits : (a b w n : Bool) → b ≡ w → bit (a && (w && n)) ≡ bit ((a && b) && n)
left_bits true b w n e = ap (λ (x : Bool). bit (x && n)) (sym e)
left_bits false b w n e = refl

part_bits : (a b w : Bool) → b ≡ w → bit (a && w) ≡ bit (a && b)
part_bits a b w e = ap (λ (x : Bool). bit (a && x)) (sym e)

module _ (s : Sheet) (sound : Sound s) (mine : ℕ → Bool) (q : Question) (here : q.column < s.columns) (comp : T (comparable q.threshold)) where
  abbrev c : ℕ
  c = q.column

  abbrev t : Float
  t = q.threshold

  pub left_wrong_is : (l : ℕ) → part_wrong s mine (sent s c (key t)) l ≡ wrong_at s (leftward s q mine) l
  unfolding wrong_at sent_left
  left_wrong_is l =
      rows_alike s (λ r. mine r && (sent s c (key t) r && not (eqb (label_of s r) l))) (λ r. leftward s q mine r && not (eqb (label_of s r) l))
      (λ r h. left_bits (mine r) (sent_left s q r) (sent s c (key t) r) (not (eqb (label_of s r) l)) (goes s sound c here t comp r h))

  pub right_wrong_is : (l : ℕ) → part_wrong s mine (kept s c (key t)) l ≡ wrong_at s (rightward s q mine) l
  unfolding wrong_at sent_left
  right_wrong_is l =
      rows_alike s (λ r. mine r && (kept s c (key t) r && not (eqb (label_of s r) l))) (λ r. rightward s q mine r && not (eqb (label_of s r) l))
      (λ r h. left_bits (mine r) (not (sent_left s q r)) (kept s c (key t) r) (not (eqb (label_of s r) l)) (ap not (goes s sound c here t comp r h)))

  left_rows_is : part_rows s mine (sent s c (key t)) ≡ rows_at s (leftward s q mine)
  unfolding rows_at sent_left
  left_rows_is =
      rows_alike s (λ r. mine r && sent s c (key t) r) (leftward s q mine)
      (λ r h. part_bits (mine r) (sent_left s q r) (sent s c (key t) r) (goes s sound c here t comp r h))

  right_rows_is : part_rows s mine (kept s c (key t)) ≡ rows_at s (rightward s q mine)
  unfolding rows_at sent_left
  right_rows_is =
      rows_alike s (λ r. mine r && kept s c (key t) r) (rightward s q mine)
      (λ r h. part_bits (mine r) (not (sent_left s q r)) (kept s c (key t) r) (ap not (goes s sound c here t comp r h)))

-- ---- a leaf

-- rows of a label and rows of the others
pub wrong_rows : (s : Sheet) (mine : ℕ → Bool) (l : ℕ) → labelled s mine l + wrong_at s mine l ≡ rows_at s mine
unfolding labelled wrong_at rows_at
wrong_rows s mine l = both_parts s mine (λ r. eqb (label_of s r) l)

module _ (s : Sheet) (sound : Sound s) (support : ℕ) (mine : ℕ → Bool) where
  module _ (t : SideScan) (owns : Owns s support mine t) where
    pub leaf_is : leaf_score t ≡ leaf_count s mine
    unfolding leaf_score
    leaf_is =
        ap (λ (xs : List ℕ). most_of (λ l. get_or xs l 0) t.labels) owns.own_is ∙ ap (λ (n : ℕ). most_of (λ l. get_or (own_of s mine) l 0) n) owns.labels_is

    some_labels : 1 ≤ t.labels
    some_labels = omega (arith, owns.labels_is, sound.limited.labels_some)

    leaf_in : leaf_label t < s.labels
    unfolding leaf_label
    leaf_in = omega (arith, commonest_in (own_at t) t.labels some_labels, owns.labels_is)

    leaf_count_lem : leaf_score t ≡ labelled s mine (leaf_label t)
    unfolding leaf_score leaf_label most_of
    leaf_count_lem =
        own_at_lem s support mine t owns (commonest (own_at t) t.labels)
        (omega (arith, commonest_in (own_at t) t.labels some_labels, owns.labels_is, sound.limited.labels_most))

    leaf_told : Told s support mine (Leaf (record { label = leaf_label t; error = t.size - leaf_score t }))
    leaf_told = record { label_in = leaf_in; error_is = omega (arith, leaf_count_lem, wrong_rows s mine (leaf_label t), owns.size_is) }

    -- ---- a split

    module _ (b : Best) (x : Taken s support mine b) where
      between_keys : (key_of s b.question.column x.lower_row ≤ key b.question.threshold) × (key b.question.threshold < key_of s b.question.column x.upper_row)
      between_keys =
          subst (λ (t : Float). (key_of s b.question.column x.lower_row ≤ key t) × (key t < key_of s b.question.column x.upper_row)) (sym x.threshold_is) (
            lower_is s sound b.question.column x.column_in x.lower_row x.upper_row x.lower_in x.upper_in x.ascends,
            upper_is s sound b.question.column x.column_in x.lower_row x.upper_row x.lower_in x.upper_in x.ascends,
          )

      in_measure : Measured b.question.threshold
      in_measure =
          subst Measured (sym x.threshold_is)
          (threshold_measured s sound b.question.column x.column_in x.lower_row x.upper_row x.lower_in x.upper_in x.ascends)

      pub split_told : SplitTold s support mine b.question b.left b.right
      split_told =
          let comp : T (comparable b.question.threshold) = measured_comparable b.question.threshold in_measure in
          let p : PartsAt s support mine b (key b.question.threshold) = x.parts (key b.question.threshold) between_keys.0 between_keys.1 in
          record {
            column_in = x.column_in;
            threshold_in = in_measure;
            left_told = record { label_in = x.left_in; error_is = p.left_error ∙ left_wrong_is s sound mine b.question x.column_in comp b.left.label };
            right_told = record { label_in = x.right_in; error_is = p.right_error ∙ right_wrong_is s sound mine b.question x.column_in comp b.right.label };
            left_full = omega (arith, p.left_full, left_rows_is s sound mine b.question x.column_in comp);
            right_full = omega (arith, p.right_full, right_rows_is s sound mine b.question x.column_in comp);
          }

    -- ---- the side

    split_case : (b : Best) → Good s support mine b → T (not (eqb b.score (leaf_score t)))
        → Told s support mine (Split b.question b.left b.right)
    split_case b (inl e) n = absurd (neqb b.score (leaf_score t) n (e ∙ sym leaf_is))
    split_case b (inr x) n = split_told b x

    pub side_told : Good s support mine t.best → Told s support mine (side_of t)
    unfolding side_of
    side_told g = by_test (Told s support mine) (eqb t.best.score (leaf_score t)) (λ _. leaf_told) (λ n. split_case t.best g n)

    error_case : (b : Best) → Good s support mine b → T (not (eqb b.score (leaf_score t))) → b.score + (b.left.error + b.right.error) ≡ rows_at s mine
    error_case b (inl e) n = absurd (neqb b.score (leaf_score t) n (e ∙ sym leaf_is))
    error_case b (inr x) n = x.errors

    pub side_error_lem : Good s support mine t.best → t.best.score + side_error (side_of t) ≡ rows_at s mine
    unfolding side_of
    side_error_lem g =
        by_test (λ z. t.best.score + side_error z ≡ rows_at s mine) (eqb t.best.score (leaf_score t))
        (λ y. omega (arith, eqb→eq t.best.score (leaf_score t) y, leaf_count_lem, wrong_rows s mine (leaf_label t), owns.size_is)) (λ n. error_case t.best g n)

  pub owns_alone : Owns s support mine (alone s support mine)
  unfolding alone
  owns_alone = owns_columns s sound support mine s.columns 0 (side_at_start s support mine) (owns_start s support mine)

  pub alone_told : Told s support mine (side_alone s support mine)
  unfolding side_alone
  alone_told = side_told (alone s support mine) owns_alone (side_good s sound support mine)

pub errors_add_up : ErrorsAddUp
unfolding side_alone
errors_add_up s sound support mine = side_error_lem s sound support mine (alone s support mine) (owns_alone s sound support mine) (side_good s sound support mine)

pub tells : Tells
tells s sound support mark =
    record {
      left = subst (Told s support mark) (sym (decouples s sound support mark).left) (alone_told s sound support mark);
      right = subst (Told s support (other mark)) (sym (decouples s sound support mark).right) (alone_told s sound support (other mark));
    }
