-- What a column's scan knows of its rows at a cut: those counted are those that any threshold between the two keys sends left. At every support.
-- Assumes nothing.
use mathlib.Core.Path.{◌≡◌, refl}
use Prim.Native.Nat.{ℕ, ◌+◌, ◌≤◌, ◌<◌}
use native.Mathlib.Omega.{arith}
use mathlib.Core.Bool.{Bool, not, ◌&&◌}
use mathlib.Core.List.{List, [], ◌∷◌}
use lib.ListN.{length, get_or}
use lib.Ieee.{Float}
use Rattle.std.specs.Prelude.{Option, Some, None}
use lib.Dec.{T, not_T, leb, eqb, leb→le, le→leb}
use Rattle.basics.specs.Lists.{All, tally, those}
use Rattle.basics.proofs.Lists.{all_map, all_those, tally_those}
use Rattle.basics.proofs.Choice.{not_not, bit_and_true, bit_and_false}
use Rattle.threshold.specs.Order.{key}
use Rattle.sheet.specs.Limits.{most_labels}
use Rattle.sheet.specs.Sheet.{Sheet, value_of, label_of, every_row, order_of}
use Rattle.sheet.specs.Sound.{Sound}
use Rattle.side_scan.specs.declared.SideScan.{SideScan}
use Rattle.side_scan.specs.OneSide.{restarted, raised}
use Rattle.leaves_score.proofs.Counts.{raised_at, none_at}
use Rattle.side_laws.proofs.Fair.{key_of, Sorted, inside, sorted, sorted_those}

-- ---- a test that divides two lists

module _ {A : Type 0} (w q : A → Bool) where
  pub all_in : (xs : List A) → All (λ x. T (w x)) xs → tally (λ x. w x && q x) xs ≡ tally q xs
  all_in [] h = refl
  all_in (x ∷ xs) h = omega (arith, bit_and_true (w x) (q x) h.0, all_in xs h.1)

  pub all_out : (xs : List A) → All (λ x. T (not (w x))) xs → tally (λ x. w x && q x) xs ≡ 0
  all_out [] h = refl
  all_out (x ∷ xs) h = omega (arith, bit_and_false (w x) (q x) h.0, all_out xs h.1)

-- the rows up to a key, which a threshold of that key sends left, and the others
abbrev pub sent : Sheet → ℕ → ℕ → ℕ → Bool
sent s c k r = leb (key_of s c r) k

abbrev pub kept : Sheet → ℕ → ℕ → ℕ → Bool
kept s c k r = not (leb (key_of s c r) k)

-- ---- the rows done and the rows to come

-- the previous value lies between what is done and what is to come; where there is none, nothing is done
abbrev pub Between : Sheet → ℕ → List ℕ → List ℕ → Option Float → Type 0
Between s c done rest None = All (λ r. ⊥) done
Between s c done rest (Some p) = All (λ r. key_of s c r ≤ key p) done × All (λ r. key p ≤ key_of s c r) rest

-- and it is the value of a row
abbrev pub Known : Sheet → ℕ → Option Float → Type 0
Known s c None = Unit {0}
Known s c (Some p) = (r : ℕ) × (r < s.rows) × (p ≡ value_of s c r)

pub record Passed (s : Sheet) (mine : ℕ → Bool) (c : ℕ) (done rest seen : List ℕ) (counted : ℕ) (previous : Option Float) : Type 0 where
  pub parts : (q : ℕ → Bool) → tally q done + tally q rest ≡ tally (λ r. mine r && q r) (every_row s)
  pub rows : counted ≡ length done
  pub befores : (l : ℕ) → l < s.labels → get_or seen l 0 ≡ tally (λ r. eqb (label_of s r) l) done
  pub ascending : Sorted (key_of s c) rest
  pub between : Between s c done rest previous
  pub within : All (λ r. r < s.rows) rest
  pub known : Known s c previous

abbrev pub Past : Sheet → (ℕ → Bool) → ℕ → List ℕ → List ℕ → SideScan → Type 0
Past s mine c done rest t = Passed s mine c done rest t.seen t.counted t.previous

under : (s : Sheet) (c : ℕ) (done rs : List ℕ) (r : ℕ) (p : Option Float) → Between s c done (r ∷ rs) p → All (λ x. key_of s c x ≤ key_of s c r) done
under s c done rs r None h = all_map (λ x. ⊥) (λ x. key_of s c x ≤ key_of s c r) (λ x y. absurd y) done h
under s c done rs r (Some p) h = all_map (λ x. key_of s c x ≤ key p) (λ x. key_of s c x ≤ key_of s c r) (λ x y. omega (arith, h.1.0)) done h.0

module _ (s : Sheet) (mine : ℕ → Bool) (c : ℕ) (few : s.labels ≤ most_labels) where
  -- a row counted
  pub past_step : (done rs seen : List ℕ) (counted r : ℕ) (p : Option Float) → length seen ≡ most_labels
      → Passed s mine c done (r ∷ rs) seen counted p
      → Passed s mine c (r ∷ done) rs (raised seen (label_of s r)) (counted + 1) (Some (value_of s c r))
  past_step done rs seen counted r p g h =
      record {
        parts = λ q. omega (arith, h.parts q);
        rows = omega (arith, h.rows);
        befores = λ l k. omega (arith, h.befores l k, raised_at seen (label_of s r) l (omega arith));
        ascending = h.ascending.1;
        between = ((omega arith, under s c done rs r p h.between), h.ascending.0);
        within = h.within.1;
        known = (r, h.within.0, refl);
      }

-- ---- at a cut

module _ (s : Sheet) (mine : ℕ → Bool) (c k : ℕ) where
  sent_done : (done : List ℕ) → All (λ r. key_of s c r ≤ k) done → All (λ r. T (sent s c k r)) done
  sent_done done h = all_map (λ r. key_of s c r ≤ k) (λ r. T (sent s c k r)) (λ r l. le→leb (key_of s c r) k l) done h

  unkept_done : (done : List ℕ) → All (λ r. key_of s c r ≤ k) done → All (λ r. T (not (kept s c k r))) done
  unkept_done done h =
      all_map (λ r. key_of s c r ≤ k) (λ r. T (not (kept s c k r))) (λ r l. not_not (sent s c k r) (le→leb (key_of s c r) k l)) done h

  kept_rest : (rest : List ℕ) → All (λ r. k < key_of s c r) rest → All (λ r. T (kept s c k r)) rest
  kept_rest rest h =
      all_map (λ r. k < key_of s c r) (λ r. T (kept s c k r))
      (λ r l. not_T (sent s c k r) (λ y. absurd (omega (arith, leb→le (key_of s c r) k y)))) rest h

  module _ (done rest : List ℕ) (parts : (q : ℕ → Bool) → tally q done + tally q rest ≡ tally (λ r. mine r && q r) (every_row s))
      (low : All (λ r. key_of s c r ≤ k) done) (high : All (λ r. k < key_of s c r) rest) where
    pub left_tally : (q : ℕ → Bool) → tally (λ r. mine r && (sent s c k r && q r)) (every_row s) ≡ tally q done
    left_tally q =
        omega (
          arith,
          parts (λ r. sent s c k r && q r),
          all_in (sent s c k) q done (sent_done done low),
          all_out (sent s c k) q rest (kept_rest rest high),
        )

    pub right_tally : (q : ℕ → Bool) → tally (λ r. mine r && (kept s c k r && q r)) (every_row s) ≡ tally q rest
    right_tally q =
        omega (
          arith,
          parts (λ r. kept s c k r && q r),
          all_out (kept s c k) q done (unkept_done done low),
          all_in (kept s c k) q rest (kept_rest rest high),
        )

-- ---- a column's start

pub past_cleared : (s : Sheet) (sound : Sound s) (mine : ℕ → Bool) (c : ℕ) → c < s.columns → (t : SideScan)
    → Past s mine c [] (those mine (order_of s c)) (restarted t)
unfolding restarted
past_cleared s sound mine c h t =
    record {
      parts = λ q. omega (arith, tally_those mine q (order_of s c), (sound.column c h).each_once (λ r. mine r && q r));
      rows = refl;
      befores = λ l k. none_at l (omega (arith, sound.limited.labels_most));
      ascending = sorted_those (key_of s c) mine (order_of s c) (sorted s sound c h);
      between = tt;
      within = all_those (λ r. r < s.rows) mine (order_of s c) (inside s sound c h);
      known = tt;
    }
