-- The feasible cuts are a run: on an ascending list the rows on the left grow with the cut and those on the right fall. Assumes nothing.
use mathlib.Core.Path.{◌≡◌, sym, ap, ◌∙◌, fun_ext}
use Prim.Native.Nat.{ℕ, ◌+◌, ◌-◌, ◌*◌, ◌/◌, ◌≤◌, ◌<◌, max}
use native.Mathlib.Omega.{arith}
use mathlib.Core.Bool.{Bool, ◌&&◌}
use mathlib.Core.List.{List}
use lib.ListN.{length}
use lib.Dec.{T, leb, ltb, leb→le, le→leb, ltb→lt, lt→ltb, nltb→le}
use lib.Arith.{le→nltb}
use Rattle.basics.specs.Walk.{walk}
use Rattle.basics.proofs.Choice.{by_ltb, pick_true, pick_false, order, same_bool, and_left, and_right, and_both}
use Rattle.cuts.specs.Lookups.{place, Ascending, at_least, above, first_from}
use Rattle.cuts.specs.Feasible.{feasible, feasible_of, Exactly, FeasibleExactly}
use Rattle.cuts.proofs.Lookups.{ascending_le, above_before, first_high, first_before, first_le, first_at}

-- ---- the two lookups of the code

-- too few rows on the right: as a test of the place alone
scarce : (places : List ℕ) (rows least : ℕ) → least ≤ rows → (λ (k : ℕ). ltb rows (place places k + least)) ≡ above places (rows - least)
scarce places rows least h =
    fun_ext (λ k.
    same_bool (ltb rows (place places k + least)) (ltb (rows - least) (place places k))
    (λ t. lt→ltb (rows - least) (place places k) (omega (arith, ltb→lt rows (place places k + least) t)))
    (λ t. lt→ltb rows (place places k + least) (omega (arith, ltb→lt (rows - least) (place places k) t))))

module _ (places : List ℕ) (rows support least : ℕ) (e : least ≡ max support 1) where
  -- rows are fewer than twice the least
  pub run_none : rows / 2 < least → record { first = 0; end = 0 } ≡ feasible_of places rows support
  unfolding feasible_of
  run_none h = sym (pick_true _ _ _ (lt→ltb rows (2 * max support 1) (omega arith)))

  pub run_some : least ≤ rows / 2 → (first end : ℕ) → first ≡ walk (above places (least - 1)) (length places - 0) 0
      → end ≡ walk (above places (rows - least)) (length places - 0) 0
      → record { first = first; end = max end first } ≡ feasible_of places rows support
  unfolding feasible_of first_from
  run_some h first end p q =
      sym
      (pick_false _ _ _ (le→nltb rows (2 * max support 1) (omega arith)) ∙
      (λ i. record { first = left i; end = max (right i) (left i) }))
    where
      sought : (ℕ → Bool) → ℕ
      sought ok = walk ok (length places - 0) 0

      left : sought (at_least places (max support 1)) ≡ first
      left = sym (p ∙ ap sought (above_before places least (omega arith) ∙ ap (at_least places) e))

      right : sought (λ k. ltb rows (place places k + max support 1)) ≡ end
      right =
          sym
          (q ∙ ap sought (sym (scarce places rows least (omega arith))) ∙
          ap (λ (n : ℕ). sought (λ k. ltb rows (place places k + n))) e)

-- ---- exactly the feasible ones

module _ (places : List ℕ) (rows support : ℕ) (up : Ascending places) where
  abbrev least : ℕ
  least = max support 1

  abbrev left : ℕ
  left = first_from (at_least places least) places 0

  abbrev over : ℕ → Bool
  over k = ltb rows (place places k + least)

  abbrev right : ℕ
  right = first_from over places 0

  -- from the first on, enough rows stand on the left
  reached : (k : ℕ) → k < length places → left ≤ k → least ≤ place places k
  reached k h g =
      omega (arith, leb→le least (place places left) (first_at (at_least places least) places 0 (omega arith)), ascending_le places up left k g h)

  -- up to the end, enough stand on the right
  spared : (k : ℕ) → k < right → place places k + least ≤ rows
  spared k h = nltb→le rows (place places k + least) (first_before over places 0 k (omega arith) h)

  -- and only there
  spent : (k : ℕ) → k < length places → right ≤ k → rows < place places k + least
  spent k h g =
      omega (arith, ltb→lt rows (place places right + least) (first_at over places 0 (omega arith)), ascending_le places up right k g h)

  -- the two tests of a feasible cut, and the two of a run
  abbrev enough : ℕ → Bool
  enough k = leb least (place places k)

  abbrev remain : ℕ → Bool
  remain k = leb (place places k + least) rows

  abbrev short : ℕ → Bool
  short k = ltb k (max right left)

  forth : (k : ℕ) → k < length places → T (leb left k && short k) → T (feasible places rows support k)
  forth k h t =
      let l : left ≤ k = leb→le left k (and_left (leb left k) (short k) t) in
      let r : k < right = omega (arith, ltb→lt k (max right left) (and_right (leb left k) (short k) t)) in
      and_both (enough k) (remain k) (le→leb least (place places k) (reached k h l)) (le→leb (place places k + least) rows (spared k r))

  back : (k : ℕ) → k < length places → T (feasible places rows support k) → T (leb left k && short k)
  back k h t =
      let l : left ≤ k = first_le (at_least places least) places 0 k (omega arith) (and_left (enough k) (remain k) t) in
      let r : k < right =
      order right k
      (λ g. absurd (omega (arith, spent k h g, leb→le (place places k + least) rows (and_right (enough k) (remain k) t))))
      (λ g. g) in
      and_both (leb left k) (short k) (le→leb left k l) (lt→ltb k (max right left) (omega arith))

  none : rows < 2 * least → Exactly places rows support (record { first = 0; end = 0 })
  none g =
      record {
        order = omega arith;
        listed = omega arith;
        inside = λ k h. same_bool (leb 0 k && ltb k 0) (feasible places rows support k)
            (λ t. absurd (omega (arith, ltb→lt k 0 (and_right (leb 0 k) (ltb k 0) t))))
            (λ t. absurd (omega (
              arith,
              leb→le least (place places k) (and_left (enough k) (remain k) t),
              leb→le (place places k + least) rows (and_right (enough k) (remain k) t),
            )));
      }

  some : Exactly places rows support (record { first = left; end = max right left })
  some =
      record {
        order = omega arith;
        listed = omega (arith, first_high (at_least places least) places 0, first_high over places 0);
        inside = λ k h. same_bool (leb left k && short k) (feasible places rows support k) (forth k h) (back k h);
      }

pub feasible_exactly : FeasibleExactly
unfolding feasible_of
feasible_exactly places rows support up =
    by_ltb (Exactly places rows support) rows (2 * max support 1) (none places rows support up) (λ h. some places rows support up)
