-- `cuts::CutReader::lower_bound` meets its contract. At 0 the first cut passes, if there is one; at any other value the first cut placed there or
-- above is the first one above the number before.
use mathlib.Core.Path.{◌≡◌, sym, ap, ◌∙◌}
use Prim.Native.Nat.{ℕ, ◌-◌, ◌<◌}
use native.Mathlib.Omega.{arith}
use mathlib.Core.Bool.{Bool}
use mathlib.Core.List.{List}
use lib.Dec.{le→leb}
use Rattle.cuts.specs.Lookups.{place, at_least, end_of, sought_from, lower_bound_of, upper_bound_of}
use Rattle.cuts.proofs.Lookups.{walk_stays, above_before}
use Rattle.cuts.proofs.CutReader.lower_bound.Goals as goal

module _ (places : List ℕ) (first last value : ℕ) where
  at_zero : value ≡ 0 → first ≡ lower_bound_of places first last value
  unfolding lower_bound_of sought_from
  at_zero e =
      sym (walk_stays (at_least places value) (end_of places first last - first) first (le→leb value (place places first) (omega arith)))

  same : 0 < value → upper_bound_of places first last (value - 1) ≡ lower_bound_of places first last value
  unfolding lower_bound_of upper_bound_of
  same h = ap (λ (ok : ℕ → Bool). sought_from ok places first last) (above_before places value h)

pub returns-then-value-eq0 : goal.returns-then-value-eq0
returns-then-value-eq0 c = ((omega arith, omega arith), λ up. at_zero _ _ _ _ c.if-value-eq0.true)

pub returns : goal.returns
returns c = let f = c.upper_bound.ensures in (f.0, λ up. f.1 up ∙ same _ _ _ _ (omega arith))
