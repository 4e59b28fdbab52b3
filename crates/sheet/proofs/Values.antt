-- Values at sorted places: where the reads lie, and what a comparison of two of them says. Assumes nothing.
use mathlib.Core.Path.{◌≡◌, refl, sym, ap, ◌∙◌}
use Prim.Native.Nat.{ℕ, ◌+◌, ◌-◌, ◌*◌, ◌≤◌, ◌<◌}
use native.Mathlib.Omega.{arith}
use mathlib.Core.Bool.{true, false, not}
use lib.ListN.{length, get_or}
use lib.Dec.{T, leb, le→leb}
use lib.Ieee.{Float, nan, lt}
use Rattle.basics.proofs.Choice.{and_both, nand_right}
use Rattle.sheet.specs.Sheet.{Sheet, value_of, row_at, value_at, is_cut}
use Rattle.sheet.specs.Check.{falls}
use Rattle.sheet.specs.Ready.{Listed}
use Rattle.sheet.proofs.Search.{truth, untruth}
use Rattle.sheet.proofs.Index.{room}

-- what a read of the value at a sorted place asks
pub value_ready : {s : Sheet} {c : ℕ} → Listed s c → (i : ℕ) → i < s.rows
    → (c * s.rows + i < length s.order) × (c * s.rows + get_or s.order (c * s.rows + i) 0 < length s.values)
unfolding row_at
value_ready {s} {c} l i h = (
  omega (arith, room l.shaped l.column_in (length s.order) l.shaped.lengths.order_all),
  omega (arith, room l.shaped l.column_in (length s.values) l.shaped.lengths.values_all, l.in_rows i h),
)

module _ (s : Sheet) (c i : ℕ) where
  -- what it gives
  pub as_value : get_or s.values (c * s.rows + get_or s.order (c * s.rows + i) 0) nan ≡ value_at s c i
  unfolding value_at value_of row_at
  as_value = refl

  module _ (v w : Float) (here : v ≡ value_at s c i) (before : w ≡ value_at s c (i - 1)) where
    below : lt v w ≡ lt (value_at s c i) (value_at s c (i - 1))
    below = ap (λ x. lt x w) here ∙ ap (λ x. lt (value_at s c i) x) before

    above : lt w v ≡ lt (value_at s c (i - 1)) (value_at s c i)
    above = ap (λ x. lt x v) before ∙ ap (λ x. lt (value_at s c (i - 1)) x) here

    pub falls_yes : 1 ≤ i → lt v w ≡ true → T (falls s c i)
    unfolding falls
    falls_yes h e = and_both (leb 1 i) (lt (value_at s c i) (value_at s c (i - 1))) (le→leb 1 i h) (truth (sym below ∙ e))

    pub falls_no : lt v w ≡ false → T (not (falls s c i))
    unfolding falls
    falls_no e = nand_right (leb 1 i) (lt (value_at s c i) (value_at s c (i - 1))) (untruth (sym below ∙ e))

    pub cut_yes : 1 ≤ i → lt w v ≡ true → T (is_cut s c i)
    unfolding is_cut
    cut_yes h e = and_both (leb 1 i) (lt (value_at s c (i - 1)) (value_at s c i)) (le→leb 1 i h) (truth (sym above ∙ e))

    pub cut_no : lt w v ≡ false → T (not (is_cut s c i))
    unfolding is_cut
    cut_no e = nand_right (leb 1 i) (lt (value_at s c (i - 1)) (value_at s c i)) (untruth (sym above ∙ e))

-- the first place has no predecessor
pub falls_first : (s : Sheet) (c : ℕ) → T (not (falls s c 0))
unfolding falls
falls_first s c = tt

pub cut_first : (s : Sheet) (c : ℕ) → T (not (is_cut s c 0))
unfolding is_cut
cut_first s c = tt
