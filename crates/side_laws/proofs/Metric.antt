-- With support at most 1 the two errors of a column's cuts are what the search asks of its evaluator: each is opt of its side, the left side grows with
-- the cut and the right side falls, by the rows between. Assumes nothing.
use mathlib.Core.Path.{ap}
use Prim.Native.Nat.{ℕ, ◌-◌, ◌≤◌, ◌<◌}
use native.Mathlib.Omega.{arith}
use lib.Dec.{T, leb, leb→le, le→leb}
use lib.Ieee.{Float}
use Rattle.basics.specs.Choice.{bit}
use Rattle.basics.proofs.Choice.{decide, reach, bit_true, bit_false, bit_le}
use Rattle.threshold.specs.Order.{key, comparable}
use Rattle.threshold.proofs.Law.{measured_comparable}
use Rattle.sheet.specs.Sheet.{Sheet, count_of, place_of}
use Rattle.sheet.specs.Sound.{Sound}
use Rattle.sheet.specs.Rows.{sent_left}
use Rattle.leaves_score.specs.Column.{other}
use Rattle.leaves_score.specs.Root.{cut_threshold, cut_question, sides_at, errors_at}
use Rattle.side_laws.specs.Opt.{Opt}
use Rattle.side_laws.specs.Root.{AtCut, Moved, Moves}
use Rattle.side_laws.proofs.Tests.{bit_not}
use Rattle.side_laws.proofs.Fair.{key_of, goes}
use Rattle.side_laws.proofs.Mistakes.{grows}
use Rattle.side_laws.proofs.Optimal.{optimal}
use Rattle.side_laws.proofs.Cuts.{rises, ascending, cut_lower, cut_upper, at_cuts}

-- ---- questions of one column with thresholds in order send more rows left
module _ (s : Sheet) (sound : Sound s) (c : ℕ) (here : c < s.columns) (i j : ℕ) (x : T (comparable (cut_threshold s c i))) (y : T (comparable (cut_threshold s c j)))
    (h : key (cut_threshold s c i) ≤ key (cut_threshold s c j)) where
  abbrev t : Float
  t = cut_threshold s c i

  abbrev u : Float
  u = cut_threshold s c j

  more_left : (r : ℕ) → r < s.rows → bit (sent_left s (cut_question s c i) r) ≤ bit (sent_left s (cut_question s c j) r)
  unfolding sent_left
  more_left r k =
      decide (leb (key_of s c r) (key t))
      (λ z. omega (
        arith,
        ap bit (goes s sound c here t x r k),
        ap bit (goes s sound c here u y r k),
        bit_le (leb (key_of s c r) (key t)),
        bit_true (leb (key_of s c r) (key u)) (le→leb (key_of s c r) (key u) (omega (arith, leb→le (key_of s c r) (key t) z))),
      ))
      (λ n. omega (arith, ap bit (goes s sound c here t x r k), bit_false (leb (key_of s c r) (key t)) n))

  less_right : (r : ℕ) → r < s.rows → bit (other (sent_left s (cut_question s c j)) r) ≤ bit (other (sent_left s (cut_question s c i)) r)
  less_right r k = bit_not (sent_left s (cut_question s c i) r) (sent_left s (cut_question s c j) r) (more_left r k)

-- ---- two cuts

module _ (s : Sheet) (sound : Sound s) (support : ℕ) (small : support ≤ 1) (c : ℕ) (here : c < s.columns) where
  pub left_opt : (k : ℕ) → Opt s (sent_left s (cut_question s c k)) (errors_at s support c k).0
  unfolding errors_at sides_at
  left_opt k = (optimal s sound support small (sent_left s (cut_question s c k))).left

  pub right_opt : (k : ℕ) → Opt s (other (sent_left s (cut_question s c k))) (errors_at s support c k).1
  unfolding errors_at sides_at
  right_opt k = (optimal s sound support small (sent_left s (cut_question s c k))).right

  module _ (i j : ℕ) (h : i ≤ j) (k : j < count_of s c) where
    places : place_of s c i ≤ place_of s c j
    places = reach i j h (λ e. rw e (omega arith)) (λ l. omega (arith, ascending s sound c here i j l k))

    thresholds : key (cut_threshold s c i) ≤ key (cut_threshold s c j)
    thresholds =
        reach i j h (λ e. rw e (omega arith))
        (λ l. omega (
          arith,
          cut_upper s sound c here i (omega arith),
          cut_lower s sound c here j k,
          rises s sound c here (place_of s c i) (place_of s c j - 1) (omega (arith, ascending s sound c here i j l k))
              (omega (arith, (sound.column c here).cuts.place_high j k, (sound.column c here).cuts.place_low j k)),
        ))

    pub moved : Moved s support c i j
    moved =
        let a : AtCut s c i = at_cuts s sound c i here (omega arith) in
        let b : AtCut s c j = at_cuts s sound c j here k in
        let x : T (comparable (cut_threshold s c i)) = measured_comparable (cut_threshold s c i) a.in_range in
        let y : T (comparable (cut_threshold s c j)) = measured_comparable (cut_threshold s c j) b.in_range in
        let l = grows s (sent_left s (cut_question s c i)) (sent_left s (cut_question s c j))
        (more_left s sound c here i j x y thresholds) _ _ (left_opt i) (left_opt j) in
        let r = grows s (other (sent_left s (cut_question s c j))) (other (sent_left s (cut_question s c i)))
        (less_right s sound c here i j x y thresholds) _ _ (right_opt j) (right_opt i) in
        record {
          ascends = places;
          lefts = l.0;
          rights = r.0;
          left_near = omega (arith, l.1, a.lefts, b.lefts, places);
          right_near = omega (arith, r.1, a.rights, b.rights, places);
        }

pub moves : Moves
moves s sound support small c i j here h k = moved s sound support small c here i j h k
