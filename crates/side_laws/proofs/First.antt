-- With support at most 1 every cut is supported, and none past a cut with a pure remainder is better than it: so what a column offers has the same first
-- best as all its cuts. Assumes nothing.
use mathlib.Core.Path.{◌≡◌, refl, sym, ap, ◌∙◌, subst}
use Prim.Native.Nat.{ℕ, ◌+◌, ◌≤◌}
use native.Mathlib.Omega.{arith}
use mathlib.Core.Bool.{Bool, true, false, not, ◌&&◌}
use mathlib.Core.List.{List, [], ◌∷◌}
use lib.ListN.{length}
use lib.Ieee.{Float, eq}
use Rattle.std.specs.Prelude.{Option, Some, None}
use lib.Dec.{T, leb, eqb, le→leb, eqb→eq}
use Rattle.basics.specs.Choice.{pick}
use Rattle.basics.specs.Lists.{All}
use Rattle.basics.proofs.Choice.{by_test, and_both, pick_true}
use Rattle.sheet.specs.Sheet.{Sheet, value_of}
use Rattle.side_scan.specs.declared.SideScan.{SideScan}
use Rattle.side_scan.specs.declared.cut_score.Best.{Best}
use Rattle.side_scan.specs.Counts.{peaks_of}
use Rattle.side_scan.specs.Scored.{repeated, split_by}
use Rattle.side_scan.specs.OneSide.{rows_left, left_best, right_best, total_of, supported, split_at, count_row, only_counted}
use Rattle.leaves_score.specs.Kept.{Fits}
use Rattle.leaves_score.proofs.Counts.{rows_left_lem}
use Rattle.side_laws.specs.First.{starts, cuts_from, better, first_best}
use Rattle.side_laws.specs.Every.{pure_from}
use Rattle.side_laws.proofs.Best.{bare, next, next_fits, next_left, total_pure, split_score, better_other, first_low}
use Rattle.side_laws.proofs.Every.{offers, offers_none, offers_step}

module _ (s : Sheet) (c : ℕ) (b0 : Best) where
  -- the cuts to come, wherever the scan stands
  unfoldable pub cuts : SideScan → List ℕ → List Best
  cuts t rs = cuts_from s c (bare b0 t) rs

  pub cuts_none : (t : SideScan) → cuts t [] ≡ []
  unfolding cuts cuts_from
  cuts_none t = refl

  pub cuts_step : (r : ℕ) (rs : List ℕ) (t : SideScan)
      → cuts t (r ∷ rs) ≡ pick (starts t.previous (value_of s c r)) (split_at t c (value_of s c r) ∷ cuts (next s c r t) rs) (cuts (next s c r t) rs)
  unfolding cuts cuts_from only_counted count_row split_by peaks_of
  cuts_step r rs t = refl

  -- ---- past a pure remainder no cut is better

  abbrev Low : ℕ → List Best → Type 0
  Low n = All (λ b. b.score ≤ n)

  low_pure : (rs : List ℕ) (t : SideScan) (n : ℕ) → Fits s rs t → left_best t + length rs ≤ n → Low n (cuts t rs)
  low_pure [] t n h g = subst (Low n) (sym (cuts_none t)) tt
  low_pure (r ∷ rs) t n h g =
      let z : Low n (cuts (next s c r t) rs) = low_pure rs (next s c r t) n (next_fits s c r rs t h) (omega (arith, next_left s c r rs t h)) in
      subst (Low n) (sym (cuts_step r rs t))
      (by_test (Low n) (starts t.previous (value_of s c r)) (λ _. (omega (arith, split_score t c (value_of s c r), total_pure s (r ∷ rs) t h), z)) (λ _. z))

  -- ---- what is offered against the cuts

  -- before the first row the total is the leaf's; after it there is a row
  abbrev pub Ready : SideScan → Best → Option Float → Type 0
  Ready t b None = total_of t ≤ b.score
  Ready t b (Some p) = 1 ≤ t.counted

  module _ (r : ℕ) (rs : List ℕ) (t : SideScan) (small : t.least ≤ 1) (h : Fits s (r ∷ rs) t)
      (rest : (b : Best) → first_best b (offers s c b0 (next s c r t) rs) ≡ first_best b (cuts (next s c r t) rs)) where
    backed : 1 ≤ t.counted → T (supported t)
    backed g =
        and_both (leb t.least t.counted) (leb t.least (rows_left t)) (le→leb t.least t.counted (omega arith))
        (le→leb t.least (rows_left t) (omega (arith, rows_left_lem s (r ∷ rs) t h)))

    -- the cut at hand being no better than b
    from_here : (b : Best) → total_of t ≤ b.score
        → first_best b (pick (eqb (right_best t) (rows_left t)) [] (offers s c b0 (next s c r t) rs)) ≡ first_best b (cuts (next s c r t) rs)
    unfolding first_best
    from_here b g =
        by_test (λ z. first_best b z ≡ first_best b (cuts (next s c r t) rs)) (eqb (right_best t) (rows_left t))
        (λ y. sym (first_low b (cuts (next s c r t) rs)
        (low_pure rs (next s c r t) b.score (next_fits s c r rs t h)
        (omega (arith, eqb→eq (right_best t) (rows_left t) y, rows_left_lem s (r ∷ rs) t h, next_left s c r rs t h)))))
        (λ _. rest b)

    -- there is a previous value; e: this one equals it
    after_one : (e : Bool) (b : Best) → 1 ≤ t.counted
        → first_best b
        (pick (not e && supported t)
        (split_at t c (value_of s c r) ∷ pick (not e && eqb (right_best t) (rows_left t)) [] (offers s c b0 (next s c r t) rs))
        (pick (not e && eqb (right_best t) (rows_left t)) [] (offers s c b0 (next s c r t) rs)))
        ≡ first_best b (pick (not e) (split_at t c (value_of s c r) ∷ cuts (next s c r t) rs) (cuts (next s c r t) rs))
    unfolding pick first_best
    after_one true b y = rest b
    after_one false b y =
        ap (first_best b) (pick_true (supported t) _ _ (backed y))
        ∙ from_here (better b (split_at t c (value_of s c r))) (omega (arith, split_score t c (value_of s c r), better_other b (split_at t c (value_of s c r))))

    by_start : (p : Option Float) (b : Best) → Ready t b p
        → first_best b
        (pick (starts p (value_of s c r) && supported t)
        (split_at t c (value_of s c r) ∷ pick (not (repeated p (value_of s c r)) && eqb (right_best t) (rows_left t)) [] (offers s c b0 (next s c r t) rs))
        (pick (not (repeated p (value_of s c r)) && eqb (right_best t) (rows_left t)) [] (offers s c b0 (next s c r t) rs)))
        ≡ first_best b (pick (starts p (value_of s c r)) (split_at t c (value_of s c r) ∷ cuts (next s c r t) rs) (cuts (next s c r t) rs))
    unfolding pick
    by_start None b y = from_here b y
    by_start (Some p) b y = after_one (eq p (value_of s c r)) b y

    offers_cuts_step : (b : Best) → Ready t b t.previous → first_best b (offers s c b0 t (r ∷ rs)) ≡ first_best b (cuts t (r ∷ rs))
    unfolding pure_from
    offers_cuts_step b y =
        ap (first_best b) (offers_step s c b0 r rs t) ∙ by_start t.previous b y ∙ sym (ap (first_best b) (cuts_step r rs t))

  pub offers_cuts : (rs : List ℕ) (t : SideScan) (b : Best) → t.least ≤ 1 → Fits s rs t → Ready t b t.previous
      → first_best b (offers s c b0 t rs) ≡ first_best b (cuts t rs)
  unfolding only_counted count_row
  offers_cuts [] t b small h y = ap (first_best b) (offers_none s c b0 t ∙ sym (cuts_none t))
  offers_cuts (r ∷ rs) t b small h y =
      offers_cuts_step r rs t small h (λ b. offers_cuts rs (next s c r t) b small (next_fits s c r rs t h) (omega arith)) b y
