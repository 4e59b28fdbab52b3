-- Values before the cut are at most the lower neighbour, and so at most the threshold; values from the cut on are at least the upper
-- neighbour, and so above it. Assumes nothing.
use mathlib.Core.Path.{◌≡◌, ◌∙◌, subst}
use Prim.Native.Nat.{ℕ, zero, suc, ◌-◌, ◌≤◌, ◌<◌}
use native.Mathlib.Omega.{arith}
use mathlib.Core.Bool.{Bool, not}
use mathlib.Core.List.{List}
use lib.ListN.{length}
use lib.Dec.{T, not_T, leb, ltb, leb→le, lt→ltb}
use lib.Ieee.{Float, nan, lt, le}
use Rattle.basics.proofs.Choice.{pick_true, reach, and_left, and_right}
use Rattle.basics.proofs.Lists.{tally_front}
use Rattle.threshold.specs.Order.{comparable, key}
use Rattle.threshold.proofs.Keys.{le→, →le}
use Rattle.threshold.specs.Threshold.{threshold_of, goes_left}
use Rattle.threshold.specs.Laws.{Measured}
use Rattle.threshold.proofs.Law.{measured_comparable}
use Rattle.threshold.proofs.Ways.{threshold_comparable, from_lower, below_upper}
use Rattle.threshold.specs.Column.{value_at_place, count_left, left_of_cut, Sorted, IsCut, PartsAtTheCut}

module _ (values : List Float) (i : ℕ) (c : IsCut values i) where
  abbrev rise : Bool
  rise = lt (value_at_place values (i - 1)) (value_at_place values i)

  after : T (leb 1 i)
  after = and_left (leb 1 i) rise c.cut

  rises : T rise
  rises = and_right (leb 1 i) rise c.cut

module _ (values : List Float) (s : Sorted values) where
  comparable_at : (i : ℕ) → i < length values → T (comparable (value_at_place values i))
  comparable_at i h = measured_comparable (value_at_place values i) (s.measured i h)

  -- keys ascend along the column
  keys_ascend : (i j : ℕ) → i ≤ j → j < length values → key (value_at_place values i) ≤ key (value_at_place values j)
  keys_ascend i zero h k = subst (λ (n : ℕ). key (value_at_place values n) ≤ key (value_at_place values 0)) (none i h) (omega arith)
    where
      none : (i : ℕ) → i ≤ 0 → 0 ≡ i
      none i h = omega arith
  keys_ascend i (suc j) h k =
      reach i (suc j) h (λ e. rw e (omega arith))
      (λ l.
      omega (
        arith,
        keys_ascend i j (omega arith) (omega arith),
        le→ (value_at_place values j) (value_at_place values (suc j)) (comparable_at j (omega arith)) (comparable_at (suc j) k) (s.ascends j k),
      ))

  module _ (i : ℕ) (c : IsCut values i) where
    lower : Measured (value_at_place values (i - 1))
    lower = s.measured (i - 1) (omega (arith, c.inside, leb→le 1 i (after values i c)))

    upper : Measured (value_at_place values i)
    upper = s.measured i c.inside

    comparable_there : T (comparable (threshold_of (value_at_place values (i - 1)) (value_at_place values i)))
    comparable_there = threshold_comparable (value_at_place values (i - 1)) (value_at_place values i) lower upper (rises values i c)

    before_left : (j : ℕ) → j < i → T (goes_left (value_at_place values j) (threshold_of (value_at_place values (i - 1)) (value_at_place values i)))
    unfolding goes_left
    before_left j h =
        →le (value_at_place values j) (threshold_of (value_at_place values (i - 1)) (value_at_place values i)) (comparable_at j (omega (arith, c.inside))) comparable_there
        (omega (
          arith,
          keys_ascend j (i - 1) (omega arith) (omega (arith, c.inside)),
          from_lower (value_at_place values (i - 1)) (value_at_place values i) lower upper (rises values i c),
        ))

    from_right : (j : ℕ) → i ≤ j → j < length values → T (not (goes_left (value_at_place values j) (threshold_of (value_at_place values (i - 1)) (value_at_place values i))))
    unfolding goes_left
    from_right j h k =
        not_T (le (value_at_place values j) (threshold_of (value_at_place values (i - 1)) (value_at_place values i)))
        (λ t.
        omega (
          arith,
          le→ (value_at_place values j) (threshold_of (value_at_place values (i - 1)) (value_at_place values i)) (comparable_at j k) comparable_there t,
          keys_ascend i j h k,
          below_upper (value_at_place values (i - 1)) (value_at_place values i) lower upper (rises values i c),
        ))

pub parts_at_the_cut : PartsAtTheCut
unfolding left_of_cut count_left
parts_at_the_cut values i s c =
    pick_true (leb 1 i) _ 0 (after values i c)
    ∙ pick_true (ltb i (length values)) _ 0 (lt→ltb i (length values) c.inside)
    ∙ tally_front (λ v. goes_left v (threshold_of (value_at_place values (i - 1)) (value_at_place values i))) values nan i (omega (arith, c.inside))
    (before_left values s i c) (from_right values s i c)
