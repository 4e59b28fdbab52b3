-- An accepted sheet is sound. No condition holds of it, so each thing that the search goes by is the opposite of one. Assumes nothing.
use mathlib.Core.Path.{◌≡◌, refl, subst}
use mathlib.Core.Logic.{inl, inr}
use Prim.Native.Nat.{ℕ, suc, ◌+◌, ◌-◌, ◌*◌, ◌≤◌, ◌<◌}
use native.Mathlib.Omega.{arith}
use mathlib.Core.Bool.{Bool, true, false, not}
use lib.Dec.{T, T_not, not_T}
use lib.Ieee.{binary64, fits, lt}
use Rattle.basics.proofs.Choice.{order}
use Rattle.basics.proofs.Lists.{never_falls}
use Rattle.threshold.specs.Order.{comparable, key}
use Rattle.threshold.proofs.Keys.{not-lt→}
use Rattle.threshold.specs.Threshold.{within}
use Rattle.threshold.specs.Laws.{Measured}
use Rattle.threshold.proofs.Law.{measured_comparable}
use Rattle.sheet.specs.declared.Terms.{Terms}
use Rattle.sheet.specs.Sheet.{Sheet, value_of, label_of, row_at, value_at, order_of, places_of}
use Rattle.sheet.specs.Sound.{Limited, Cuts, SoundColumn, Sound}
use Rattle.sheet.specs.Check.{size_holds, bad_cuts, cuts_of, same}
use Rattle.sheet.specs.Laws.{Condition, Doubles, AcceptedSound}
use Rattle.sheet.proofs.Lists.{same_yes}
use Rattle.sheet.proofs.CutsExact.{listed_cuts}
use Rattle.sheet.proofs.Once.{each_once}
use Rattle.sheet.proofs.Answer.{limited}
use Rattle.sheet.proofs.Exact.{size_from, cuts_from, accepted_exactly}

-- what does not fail a test passes it
passes : (b : Bool) → (T (not b) → ⊥) → T b
passes true f = tt
passes false f = f tt

double : (s : Sheet) → Doubles s → (c r : ℕ) → T (fits binary64 (value_of s c r))
unfolding value_of
double s doubles c r = doubles (c * s.rows + r)

module _ (s : Sheet) (t : Terms) (words : ℕ) (doubles : Doubles s) (none : (n p : ℕ) → Condition s t words n p → ⊥) where
  in_limits : Limited s
  in_limits = limited s (passes (size_holds s.rows s.columns s.labels) (λ u. none 1 0 (refl, size_from s u)))

  label_below : (r : ℕ) → r < s.rows → label_of s r < s.labels
  label_below r h = order s.labels (label_of s r) (λ g. absurd (none 6 r (h, g))) (λ l. l)

  module _ (c : ℕ) (h : c < s.columns) where
    value_measured : (r : ℕ) → r < s.rows → Measured (value_of s c r)
    value_measured r g =
        record {
          double = double s doubles c r;
          limited =
              passes (within (value_of s c r)) (λ u. none 5 (c * s.rows + r) (c, r, h, g, refl, T_not (within (value_of s c r)) u));
        }

    row_below : (i : ℕ) → i < s.rows → row_at s c i < s.rows
    row_below i g = order s.rows (row_at s c i) (λ l. absurd (none 7 (c * s.rows + i) (c, i, h, g, refl, inl l))) (λ l. l)

    rows_apart : (i j : ℕ) → j < i → i < s.rows → row_at s c j ≡ row_at s c i → ⊥
    rows_apart i j l g e = none 7 (c * s.rows + i) (c, i, h, g, refl, inr (j, l, e))

    sorted_comparable : (i : ℕ) → i < s.rows → T (comparable (value_at s c i))
    unfolding value_at
    sorted_comparable i g = measured_comparable (value_of s c (row_at s c i)) (value_measured (row_at s c i) (row_below i g))

    -- no value is below its predecessor
    step : (i : ℕ) → suc i < s.rows → key (value_at s c i) ≤ key (value_at s c (suc i))
    step i g =
        not-lt→ (value_at s c (suc i)) (value_at s c i) (sorted_comparable (suc i) g) (sorted_comparable i (omega arith))
        (not_T (lt (value_at s c (suc i)) (value_at s c i))
        (λ u.
        none 8 (c * s.rows + suc i) (
          c,
          suc i,
          h,
          g,
          refl,
          omega arith,
          subst (λ n. T (lt (value_at s c (suc i)) (value_at s c n))) (before i) u,
        )))
      where
        before : (i : ℕ) → i ≡ suc i - 1
        before i = omega arith

    cuts_exact : Cuts s c
    unfolding bad_cuts
    cuts_exact = listed_cuts s c in_limits.rows_some (same_yes (places_of s c) (cuts_of s c) (passes (same (places_of s c) (cuts_of s c)) (λ u. none 9 c (cuts_from s c h u))))

    column_sound : SoundColumn s c
    unfolding order_of
    column_sound =
        record {
          measured = value_measured;
          in_rows = row_below;
          each_once = each_once s.rows (row_at s c) row_below rows_apart;
          ascends = never_falls (λ i. key (value_at s c i)) s.rows step;
          cuts = cuts_exact;
        }

  sound : Sound s
  sound = record { limited = in_limits; labelled = label_below; column = column_sound }

pub accepted_sound : AcceptedSound
accepted_sound s t words doubles e = sound s t words doubles ((accepted_exactly s t words).0 e)
