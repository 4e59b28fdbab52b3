-- Laws of the lookups. Each lookup is a walk, so `walked` says all there is to know of it; a longer walk that stops early is the shorter one.
-- Assumes nothing.
use mathlib.Core.Path.{◌≡◌, sym, ap, ◌∙◌, subst}
use Prim.Native.Nat.{ℕ, zero, suc, ◌-◌, ◌≤◌, ◌<◌, min, max}
use native.Mathlib.Omega.{arith}
use mathlib.Core.Bool.{Bool, not}
use mathlib.Core.List.{List}
use lib.ListN.{length}
use lib.Dec.{T, T_not, ltb}
use lib.Arith.{le→nltb}
use Rattle.basics.specs.Walk.{walk, Walked}
use Rattle.basics.proofs.Choice.{by_ltb, pick_false, order, reach}
use Rattle.basics.proofs.Walk.{walked, walk_short}
use Rattle.cuts.specs.Lookups.{place, Ascending, at_least, above, first_from, end_of, sought_from}

-- ---- places

-- a later cut stands at a later place
pub ascending_lt : (places : List ℕ) → Ascending places → (k j : ℕ) → k < j → j < length places → place places k < place places j
ascending_lt places up k zero h g = absurd (omega arith)
ascending_lt places up k (suc j) h g =
    reach k j (omega arith) (λ e. rw e (up j g)) (λ l. omega (arith, ascending_lt places up k j l (omega arith), up j g))

pub ascending_le : (places : List ℕ) → Ascending places → (k j : ℕ) → k ≤ j → j < length places → place places k ≤ place places j
ascending_le places up k j h g =
    reach k j h (λ e. rw e (omega arith)) (λ l. omega (arith, ascending_lt places up k j l g))

-- ---- a walk, whatever it looks for

module _ (ok : ℕ → Bool) (n k : ℕ) where
  -- it is not past a number that passes
  pub walk_le : (m : ℕ) → k ≤ m → T (ok m) → walk ok n k ≤ m
  walk_le m h t = order (walk ok n k) m (λ l. l) (λ l. absurd (T_not (ok m) ((walked ok n k).before m h l) t))

  -- it stays where its start passes
  pub walk_stays : T (ok k) → walk ok n k ≡ k
  walk_stays t = omega (arith, walk_le k (omega arith) t, (walked ok n k).low)

-- a cut is placed at v or above where it is placed above the number before v
pub above_before : (places : List ℕ) (v : ℕ) → 0 < v → above places (v - 1) ≡ at_least places v
above_before places v h = ap (at_least places) (omega arith)

-- ---- the first cut that passes

module _ (ok : ℕ → Bool) (places : List ℕ) (first : ℕ) where
  -- at or above its start
  pub first_low : first ≤ first_from ok places first
  unfolding first_from
  first_low = (walked ok (length places - first) first).low

  -- not past the list, nor past its start
  pub first_high : first_from ok places first ≤ max first (length places)
  unfolding first_from
  first_high = omega (arith, (walked ok (length places - first) first).high)

  -- none before it passes
  pub first_before : (j : ℕ) → first ≤ j → j < first_from ok places first → T (not (ok j))
  unfolding first_from
  first_before = (walked ok (length places - first) first).before

  -- not past a cut that passes
  pub first_le : (m : ℕ) → first ≤ m → T (ok m) → first_from ok places first ≤ m
  unfolding first_from
  first_le = walk_le ok (length places - first) first

  -- it passes if it is in the list
  pub first_at : first_from ok places first < length places → T (ok (first_from ok places first))
  unfolding first_from
  first_at h =
      let w : Walked ok (length places - first) first (walk ok (length places - first) first) = walked ok (length places - first) first in
      w.found (omega arith)

-- ---- the first cut that passes, between two ends

module _ (ok : ℕ → Bool) (places : List ℕ) (first last : ℕ) where
  pub sought_low : first ≤ sought_from ok places first last
  unfolding sought_from
  sought_low = (walked ok (end_of places first last - first) first).low

  pub sought_le : (m : ℕ) → first ≤ m → T (ok m) → sought_from ok places first last ≤ m
  unfolding sought_from
  sought_le = walk_le ok (end_of places first last - first) first

  pub sought_at : sought_from ok places first last < end_of places first last → T (ok (sought_from ok places first last))
  unfolding sought_from
  sought_at h =
      let w : Walked ok (end_of places first last - first) first (walk ok (end_of places first last - first) first) =
      walked ok (end_of places first last - first) first in
      w.found (omega arith)

-- ---- where the two agree

-- what is looked at lies in the list
pub end_high : (places : List ℕ) (first last : ℕ) → end_of places first last ≤ length places
unfolding end_of
end_high places first last =
    by_ltb (λ (e : ℕ). e ≤ length places) first last (λ h. omega arith) (λ h. omega arith)

-- a listed cut up to the last is looked at
pub end_past : (places : List ℕ) (first last k : ℕ) → k ≤ last → k < length places → k < end_of places first last
unfolding end_of
end_past places first last k h g = by_ltb (λ (e : ℕ). k < e) first last (λ _. omega arith) (λ _. g)

module _ (ok : ℕ → Bool) (places : List ℕ) (first last : ℕ) where
  -- the shorter look stops at its end
  pub sought_short : sought_from ok places first last ≡ min (first_from ok places first) (max first (end_of places first last))
  unfolding sought_from first_from
  sought_short =
      omega (
        arith,
        end_high places first last,
        walk_short ok (end_of places first last - first) (length places - first) first (omega (arith, end_high places first last)),
      )

  -- an end that is not above the first cut is none
  pub sought_wide : last ≤ first → sought_from ok places first last ≡ first_from ok places first
  unfolding sought_from first_from end_of
  sought_wide h =
      ap (λ (e : ℕ). walk ok (e - first) first) (pick_false (ltb first last) _ (length places) (le→nltb first last h))

  -- where the first cut that passes is not past `last`, both find it
  pub sought_same : first_from ok places first ≤ last → sought_from ok places first last ≡ first_from ok places first
  unfolding end_of
  sought_same h =
      sought_short ∙
      by_ltb (λ (e : ℕ). min (first_from ok places first) (max first e) ≡ first_from ok places first) first last
      (λ l. omega (arith, first_high ok places first)) (λ l. omega (arith, first_high ok places first))

  -- where it is past `last`, so is what the shorter look answers
  pub sought_past : last < first_from ok places first → last < sought_from ok places first last
  unfolding end_of
  sought_past h =
      subst (λ (r : ℕ). last < r) (sym sought_short)
      (by_ltb (λ (e : ℕ). last < min (first_from ok places first) (max first e)) first last
      (λ l. omega (arith, first_high ok places first)) (λ l. omega (arith, first_high ok places first)))

  -- so both say the same of an end that does not move outwards
  pub sought_min : min last (sought_from ok places first last) ≡ min last (first_from ok places first)
  sought_min =
      order (first_from ok places first) last (λ h. ap (min last) (sought_same h)) (λ h. omega (arith, sought_past h))
