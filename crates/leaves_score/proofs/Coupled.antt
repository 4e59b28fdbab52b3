-- The two sides of a column do not need each other: the coupled scan, with its early ends, leaves what each side's own rows leave, because it ends only
-- where neither side's answer can change. At every support. Assumes nothing.
use mathlib.Core.Path.{◌≡◌, refl, sym, ap, ◌∙◌}
use Prim.Native.Nat.{ℕ, zero, suc}
use mathlib.Core.Bool.{Bool, ◌&&◌, ◌||◌}
use mathlib.Core.List.{List, ◌∷◌}
use lib.Dec.{T}
use Rattle.basics.specs.Lists.{those}
use Rattle.basics.proofs.Choice.{by_test, either, and_left, and_right, or_left, or_right}
use Rattle.sheet.specs.Sheet.{Sheet, row_at}
use Rattle.side_scan.specs.OneSide.{restarted}
use Rattle.leaves_score.specs.Column.{Two, other, step_both, idle, ended, scan_rows, through}
use Rattle.leaves_score.specs.Kept.{rows_to_come, Alike, Live}
use Rattle.leaves_score.proofs.Live.{left_is, right_is, live_left, live_right}
use Rattle.leaves_score.proofs.Single.{stays, runs_at}

pub ended_left : (b : Two) → T (ended b) → T (b.left.closed || idle b.left)
unfolding ended
ended_left b e =
    either (b.left.closed && b.right.closed) (idle b.left && idle b.right) e
    (λ y. or_left b.left.closed _ (and_left b.left.closed _ y))
    (λ y. or_right b.left.closed _ (and_left (idle b.left) _ y))

pub ended_right : (b : Two) → T (ended b) → T (b.right.closed || idle b.right)
unfolding ended
ended_right b e =
    either (b.left.closed && b.right.closed) (idle b.left && idle b.right) e
    (λ y. or_left b.right.closed _ (and_right b.left.closed _ y))
    (λ y. or_right b.right.closed _ (and_right (idle b.left) _ y))

module _ (s : Sheet) (mark : ℕ → Bool) (c : ℕ) where
  runs_left : (r : ℕ) (rs : List ℕ) (b : Two) → through s c (those mark (r ∷ rs)) b.left ≡ through s c (those mark rs) (step_both s mark c r b).left
  runs_left r rs b = runs_at s c r (mark r) (those mark rs) b.left ∙ ap (through s c (those mark rs)) (sym (left_is s mark c r b))

  runs_right : (r : ℕ) (rs : List ℕ) (b : Two)
      → through s c (those (other mark) (r ∷ rs)) b.right ≡ through s c (those (other mark) rs) (step_both s mark c r b).right
  runs_right r rs b = runs_at s c r (other mark r) (those (other mark) rs) b.right ∙ ap (through s c (those (other mark) rs)) (sym (right_is s mark c r b))

  pub both_rows : (n i : ℕ) (b : Two) → Live s (those mark (rows_to_come s c n i)) b.left → Live s (those (other mark) (rows_to_come s c n i)) b.right
      → Alike (scan_rows s mark c n i b).left (through s c (those mark (rows_to_come s c n i)) b.left)
      × Alike (scan_rows s mark c n i b).right (through s c (those (other mark) (rows_to_come s c n i)) b.right)
  unfolding scan_rows rows_to_come through
  both_rows zero i b hl hr = (refl, refl)
  both_rows (suc n) i b hl hr =
      let r : ℕ = row_at s c i in
      let rs : List ℕ = rows_to_come s c n (suc i) in
      let next : Two = step_both s mark c r b in
      let kl : Live s (those mark rs) next.left = live_left s mark c r b rs hl in
      let kr : Live s (those (other mark) rs) next.right = live_right s mark c r b rs hr in
      let z = by_test
      (λ z. Alike z.left (through s c (those mark rs) next.left) × Alike z.right (through s c (those (other mark) rs) next.right))
      (ended next) {x = next} {y = scan_rows s mark c n (suc i) next}
      (λ e. (
        sym (stays s c (those mark rs) next.left kl (ended_left next e)),
        sym (stays s c (those (other mark) rs) next.right kr (ended_right next e)),
      ))
      (λ _. both_rows n (suc i) next kl kr) in
      (z.0 ∙ sym (ap restarted (runs_left r rs b)), z.1 ∙ sym (ap restarted (runs_right r rs b)))
