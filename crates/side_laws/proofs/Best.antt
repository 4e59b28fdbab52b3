-- The first best of a list, and what counting a row does to the best counts. Assumes nothing.
use mathlib.Core.Path.{◌≡◌, refl, ap, ◌∙◌}
use Prim.Native.Nat.{ℕ, suc, ◌+◌, ◌≤◌}
use native.Mathlib.Omega.{arith}
use mathlib.Core.Bool.{false}
use mathlib.Core.List.{List, [], ◌∷◌, ◌++◌}
use lib.ListN.{length}
use lib.Ieee.{Float}
use Rattle.basics.specs.Lists.{All}
use Rattle.basics.proofs.Choice.{by_ltb}
use Rattle.sheet.specs.Sheet.{Sheet, value_of, label_of}
use Rattle.side_scan.specs.declared.SideScan.{SideScan}
use Rattle.side_scan.specs.declared.cut_score.Best.{Best}
use Rattle.side_scan.specs.Scored.{fallen, split_by}
use Rattle.side_scan.specs.OneSide.{left_best, total_of, split_at, only_counted}
use Rattle.leaves_score.specs.Kept.{Fits}
use Rattle.leaves_score.proofs.Counts.{fits_step, left_step, total_step, right_few}
use Rattle.side_laws.specs.First.{better, first_best}

-- ---- laws of the first best

pub better_low : (b n : Best) → n.score ≤ b.score → better b n ≡ b
unfolding better
better_low b n h = by_ltb (λ x. x ≡ b) b.score n.score (λ k. absurd (omega arith)) (λ _. refl)

pub better_mine : (b n : Best) → b.score ≤ (better b n).score
unfolding better
better_mine b n = by_ltb (λ (x : Best). b.score ≤ x.score) b.score n.score (λ k. omega arith) (λ k. omega arith)

pub better_other : (b n : Best) → n.score ≤ (better b n).score
unfolding better
better_other b n = by_ltb (λ (x : Best). n.score ≤ x.score) b.score n.score (λ _. omega arith) (λ k. k)

pub first_low : (b : Best) (ns : List Best) → All (λ n. n.score ≤ b.score) ns → first_best b ns ≡ b
unfolding first_best
first_low b [] h = refl
first_low b (n ∷ ns) h = ap (λ x. first_best x ns) (better_low b n h.0) ∙ first_low b ns h.1

pub first_ge : (b : Best) (ns : List Best) → b.score ≤ (first_best b ns).score
unfolding first_best
first_ge b [] = omega arith
first_ge b (n ∷ ns) = omega (arith, better_mine b n, first_ge (better b n) ns)

pub first_append : (b : Best) (xs ys : List Best) → first_best b (xs ++ ys) ≡ first_best (first_best b xs) ys
unfolding first_best
first_append b [] ys = refl
first_append b (x ∷ xs) ys = first_append (better b x) xs ys

pub split_score : (t : SideScan) (c : ℕ) (v : Float) → (split_at t c v).score ≡ total_of t
unfolding split_by
split_score t c v = refl

-- ---- cuts do not go by best, skip and closed mark

-- the side with those of a column's start
abbrev pub bare : Best → SideScan → SideScan
bare b t =
    record {
      own = t.own;
      size = t.size;
      labels = t.labels;
      least = t.least;
      best = b;
      seen = t.seen;
      counted = t.counted;
      skip = 0;
      closed = false;
      previous = t.previous;
    }

-- ---- a row counted

-- after row r, only counted
abbrev pub next : Sheet → ℕ → ℕ → SideScan → SideScan
next s c r t = only_counted t (label_of s r) (value_of s c r)

-- no more can be right than the best before and all from here on
pub total_pure : (s : Sheet) (rs : List ℕ) (t : SideScan) → Fits s rs t → total_of t ≤ left_best t + length rs
total_pure s rs t h = omega (arith, right_few s rs t h)

module _ (s : Sheet) (c : ℕ) where
  pub next_fits : (r : ℕ) (rs : List ℕ) (t : SideScan) → Fits s (r ∷ rs) t → Fits s rs (next s c r t)
  unfolding only_counted
  next_fits r rs t h = fits_step s r rs t h t.best (fallen t.skip) t.closed (value_of s c r)

  pub next_total : (r : ℕ) (rs : List ℕ) (t : SideScan) → Fits s (r ∷ rs) t → total_of (next s c r t) ≤ suc (total_of t)
  unfolding only_counted
  next_total r rs t h = total_step s r rs t h t.best (fallen t.skip) t.closed (value_of s c r)

  pub next_left : (r : ℕ) (rs : List ℕ) (t : SideScan) → Fits s (r ∷ rs) t → left_best (next s c r t) ≤ left_best t + 1
  unfolding only_counted
  next_left r rs t h = left_step s r rs t h t.best (fallen t.skip) t.closed (value_of s c r)
