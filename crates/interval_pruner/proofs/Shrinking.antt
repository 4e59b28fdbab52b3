-- Step 2, one end after the other: what one step empties stays empty, so each step may work on what the one before it left. Assumes nothing.
use mathlib.Core.Path.{◌≡◌, refl, sym, ap, ◌∙◌}
use Prim.Native.Nat.{ℕ, ◌+◌, ◌-◌, ◌≤◌, ◌<◌, min}
use native.Mathlib.Omega.{arith}
use mathlib.Core.Bool.{Bool, true, false}
use mathlib.Core.List.{List}
use lib.Dec.{leb, le→leb}
use lib.Arith.{lt→nleb}
use Rattle.basics.proofs.Choice.{by_leb, by_ltb, pick_true, pick_false, order}
use Rattle.cuts.specs.Lookups.{at_least, first_from, sought_from, lower_bound_of}
use Rattle.cuts.proofs.Lookups.{first_low, sought_same, sought_past}
use Rattle.std.specs.Prelude.{Option, Some, None}
use Rattle.interval_pruner.specs.declared.Bound.{Bound}
use Rattle.interval_pruner.specs.declared.Zeros.{Zeros}
use Rattle.interval_pruner.specs.Column.{Column, place_in}
use Rattle.interval_pruner.proofs.Picked.{pick_yes, pick_no}
use Rattle.interval_pruner.specs.Steps.{kept_off}
use Rattle.interval_pruner.specs.Pruner.{past, short, sum_of, start_after, interval_within, end_above, end_before, shrunk_of}

-- ---- an interval that is not empty, and one that is

pub within_some : (i : Bound) (first last : ℕ) → first ≤ last
    → interval_within i first last ≡ Some (record { first = first; last = last; left = i.left; right = i.right })
unfolding interval_within
within_some i first last h = pick_true _ _ _ (le→leb first last h)

pub within_none : (i : Bound) (first last : ℕ) → last < first → interval_within i first last ≡ None
unfolding interval_within
within_none i first last h = pick_false _ _ _ (lt→nleb first last h)

-- a lookup up to `last` does for one along the list
pub within_sought : (i : Bound) (ok : ℕ → Bool) (places : List ℕ) (first last : ℕ)
    → interval_within i (sought_from ok places first last) last ≡ interval_within i (first_from ok places first) last
within_sought i ok places first last =
    order (first_from ok places first) last
    (λ h. ap (λ (n : ℕ). interval_within i n last) (sought_same ok places first last h))
    (λ h.
    within_none i (sought_from ok places first last) last (sought_past ok places first last h) ∙
    sym (within_none i (first_from ok places first) last h))

module _ (c : Column) (b : ℕ) where
  -- the left end does not move outwards
  pub start_low : (t : Option ℕ) (first : ℕ) → first ≤ start_after c b t first
  unfolding start_after
  start_low None first = omega arith
  start_low (Some k) first =
      by_leb (λ (n : ℕ). first ≤ n) b (sum_of c k)
      (λ h. first_low (at_least c.places (place_in c k + (sum_of c k - b) + 1)) c.places first) (λ h. omega arith)

  -- an empty interval is dropped, whatever the right cut says
  pub end_none : (t : Option ℕ) (i : Bound) (first last : ℕ) → last < first → end_before c b t i first last ≡ None
  unfolding end_before end_above
  end_none None i first last h = within_none i first last h
  end_none (Some k) i first last h =
      by_leb (λ (s : Option Bound). s ≡ None) b (sum_of c k)
      (λ _.
      by_ltb (λ (s : Option Bound). s ≡ None) (place_in c k - (sum_of c k - b + 1)) (place_in c first)
      (λ _. refl) (λ _. within_none i first (min last _) (omega arith)))
      (λ _. within_none i first last h)

  -- only what an interval remembers goes into what is left of it
  same_kept : (t : Option ℕ) (i : Bound) (a d first last : ℕ)
      → end_before c b t (record { first = a; last = d; left = i.left; right = i.right }) first last ≡ end_before c b t i first last
  unfolding end_before end_above interval_within
  same_kept None i a d first last = refl
  same_kept (Some k) i a d first last = refl

-- ---- what each end does, by what a remembered cut keeps off

module _ (c : Column) (b : ℕ) where
  pub kept_under : (k : ℕ) → sum_of c k < b → kept_off c b (Some k) ≡ None
  unfolding kept_off
  kept_under k h = pick_false (leb b (sum_of c k)) _ _ (lt→nleb b (sum_of c k) h)

  pub kept_over : (k : ℕ) → b ≤ sum_of c k → kept_off c b (Some k) ≡ Some (place_in c k, sum_of c k - b + 1)
  unfolding kept_off
  kept_over k h = pick_true (leb b (sum_of c k)) _ _ (le→leb b (sum_of c k) h)

  kept_pair : (k p d : ℕ) → b ≤ sum_of c k → kept_off c b (Some k) ≡ Some (p, d) → ◌≡◌ {A = ℕ × ℕ} (place_in c k, sum_of c k - b + 1) (p, d)
  kept_pair k p d h e = let q = sym (kept_over k h) ∙ e in cc

  start_stays : (t : Option ℕ) (first : ℕ) → kept_off c b t ≡ None → start_after c b t first ≡ first
  unfolding start_after
  start_stays None first e = refl
  start_stays (Some k) first e =
      order b (sum_of c k)
      (λ h. let q = sym (kept_over k h) ∙ e in absurd cc)
      (λ h. pick_false (leb b (sum_of c k)) _ first (lt→nleb b (sum_of c k) h))

  start_moves : (t : Option ℕ) (first p d : ℕ) → kept_off c b t ≡ Some (p, d)
      → start_after c b t first ≡ first_from (at_least c.places (p + d)) c.places first
  unfolding start_after kept_off
  start_moves None first p d e = absurd cc
  start_moves (Some k) first p d e =
      order b (sum_of c k)
      (λ h.
      let q = kept_pair k p d h e in
      let l = ap (λ (x : ℕ × ℕ). x.0) q in
      let r = ap (λ (x : ℕ × ℕ). x.1) q in
      pick_true (leb b (sum_of c k)) _ first (le→leb b (sum_of c k) h) ∙
      ap (λ (v : ℕ). first_from (at_least c.places v) c.places first) (omega (arith, l, r)))
      (λ h. let q = sym (kept_under k h) ∙ e in absurd cc)

  module _ (i : Bound) (t : Option ℕ) (first last : ℕ) where
    pub start_kept : kept_off c b t ≡ None → interval_within i first last ≡ interval_within i (start_after c b t first) last
    start_kept e = sym (ap (λ (n : ℕ). interval_within i n last) (start_stays t first e))

    pub start_moved : (p d r : ℕ) → kept_off c b t ≡ Some (p, d) → r ≡ lower_bound_of c.places first last (p + d)
        → interval_within i r last ≡ interval_within i (start_after c b t first) last
    unfolding lower_bound_of
    start_moved p d r e q =
        ap (λ (n : ℕ). interval_within i n last) q ∙
        within_sought i (at_least c.places (p + d)) c.places first last ∙
        sym (ap (λ (n : ℕ). interval_within i n last) (start_moves t first p d e))

  pub end_kept : (t : Option ℕ) (i : Bound) (first last : ℕ) → kept_off c b t ≡ None
      → interval_within i first last ≡ end_before c b t i first last
  unfolding end_before
  end_kept None i first last e = refl
  end_kept (Some k) i first last e =
      order b (sum_of c k)
      (λ h. let q = sym (kept_over k h) ∙ e in absurd cc)
      (λ h. sym (pick_false (leb b (sum_of c k)) _ _ (lt→nleb b (sum_of c k) h)))

  pub end_moved : (t : Option ℕ) (i : Bound) (first last p d : ℕ) → kept_off c b t ≡ Some (p, d)
      → end_above c i (p - d) first last ≡ end_before c b t i first last
  unfolding end_before kept_off
  end_moved None i first last p d e = absurd cc
  end_moved (Some k) i first last p d e =
      order b (sum_of c k)
      (λ h.
      let q = kept_pair k p d h e in
      let l = ap (λ (x : ℕ × ℕ). x.0) q in
      let r = ap (λ (x : ℕ × ℕ). x.1) q in
      ap (λ (n : ℕ). end_above c i n first last) (omega (arith, l, r)) ∙
      sym (pick_true (leb b (sum_of c k)) _ _ (le→leb b (sum_of c k) h)))
      (λ h. let q = sym (kept_under k h) ∙ e in absurd cc)

-- ---- the steps in a row

-- the next step on what is left
abbrev pub next : Option Bound → (Bound → Option Bound) → Option Bound
next None f = None
next (Some i) f = f i

module _ (c : Column) (b : ℕ) where
  abbrev pub right_step : Bound → Option Bound
  right_step i = end_before c b i.right i i.first i.last

  abbrev pub left_step : Bound → Option Bound
  left_step i = interval_within i (start_after c b i.left i.first) i.last

  abbrev pub both_steps : Bound → Option Bound
  both_steps i = next (left_step i) right_step

  -- of an interval from `first` to `last` that remembers what i does
  ends : (i : Bound) (first last : ℕ)
      → end_before c b i.right i (start_after c b i.left first) last ≡
      both_steps (record { first = first; last = last; left = i.left; right = i.right })
  unfolding interval_within
  ends i first last =
      by_leb (λ (s : Option Bound). end_before c b i.right i (start_after c b i.left first) last ≡ next s right_step)
      (start_after c b i.left first) last
      (λ h. sym (same_kept c b i.right i (start_after c b i.left first) last (start_after c b i.left first) last))
      (λ h. end_none c b i.right i (start_after c b i.left first) last h)

  pub in_steps : (z : Zeros) (i : Bound) → c.small ≡ true
      → shrunk_of c z b i ≡ next (interval_within i (past z.left i.first) (short z.right i.last)) both_steps
  unfolding shrunk_of interval_within
  in_steps z i e =
      let first : ℕ = past z.left i.first in
      let last : ℕ = short z.right i.last in
      pick_yes _ _ _ e ∙
      by_leb (λ (s : Option Bound). end_before c b i.right i (start_after c b i.left first) last ≡ next s both_steps) first last
      (λ h. ends i first last)
      (λ h. end_none c b i.right i (start_after c b i.left first) last (omega (arith, start_low c b i.left first)))

  -- with larger support nothing is shrunk
  pub not_small : (z : Zeros) (i : Bound) → c.small ≡ false → shrunk_of c z b i ≡ interval_within i i.first i.last
  unfolding shrunk_of
  not_small z i e = pick_no _ _ _ e
