-- An accepted sheet's columns by keys: rows in order, values compared, thresholds between two values. Assumes nothing.
use mathlib.Core.Path.{◌≡◌}
use Prim.Native.Nat.{ℕ, zero, suc, ◌≤◌, ◌<◌}
use native.Mathlib.Omega.{arith}
use mathlib.Core.Bool.{Bool}
use mathlib.Core.List.{List, [], ◌∷◌}
use lib.Dec.{T, leb, eqb}
use lib.Ieee.{Float, lt, eq}
use Rattle.basics.specs.Lists.{All, table, those}
use Rattle.basics.proofs.Choice.{by_test}
use Rattle.basics.proofs.Lists.{all_those}
use Rattle.threshold.specs.Order.{key, comparable}
use Rattle.threshold.proofs.Keys.{eq_key, le_key, →lt}
use Rattle.threshold.specs.Threshold.{threshold_of, goes_left}
use Rattle.threshold.specs.Laws.{Measured}
use Rattle.threshold.proofs.Law.{measured_comparable}
use Rattle.threshold.proofs.Ways.{from_lower, below_upper, in_range}
use Rattle.sheet.specs.Sheet.{Sheet, value_of, value_at, row_at, order_of}
use Rattle.sheet.specs.Sound.{Sound}

-- the key of a row's value
abbrev pub key_of : Sheet → ℕ → ℕ → ℕ
key_of s c r = key (value_of s c r)

-- the rows in ascending order of f
abbrev pub Sorted : (ℕ → ℕ) → List ℕ → Type 0
Sorted f [] = Unit {0}
Sorted f (r ∷ rs) = All (λ x. f r ≤ f x) rs × Sorted f rs

pub all_table : {A : Type 0} (P : A → Type 0) (g : ℕ → A) (n : ℕ) → ((i : ℕ) → i < n → P (g i)) → All P (table g n)
all_table P g zero h = tt
all_table P g (suc n) h = (h 0 (omega arith), all_table P (λ k. g (suc k)) n (λ i k. h (suc i) (omega arith)))

sorted_table : (f g : ℕ → ℕ) (n : ℕ) → ((i j : ℕ) → i ≤ j → j < n → f (g i) ≤ f (g j)) → Sorted f (table g n)
sorted_table f g zero h = tt
sorted_table f g (suc n) h = (
  all_table (λ x. f (g 0) ≤ f x) (λ k. g (suc k)) n (λ i k. h 0 (suc i) (omega arith) (omega arith)),
  sorted_table f (λ k. g (suc k)) n (λ i j l k. h (suc i) (suc j) (omega arith) (omega arith)),
)

pub sorted_those : (f : ℕ → ℕ) (p : ℕ → Bool) (xs : List ℕ) → Sorted f xs → Sorted f (those p xs)
sorted_those f p [] k = tt
sorted_those f p (r ∷ rs) k =
    by_test (Sorted f) (p r) (λ _. (all_those (λ x. f r ≤ f x) p rs k.0, sorted_those f p rs k.1)) (λ _. sorted_those f p rs k.1)

module _ (s : Sheet) (sound : Sound s) (c : ℕ) (here : c < s.columns) where
  pub inside : All (λ r. r < s.rows) (order_of s c)
  unfolding order_of
  inside = all_table (λ r. r < s.rows) (row_at s c) s.rows (sound.column c here).in_rows

  pub sorted : Sorted (key_of s c) (order_of s c)
  unfolding order_of
  sorted = sorted_table (key_of s c) (row_at s c) s.rows (λ i j h k. unfold value_at in (sound.column c here).ascends i j h k)

  pub measured : (r : ℕ) → r < s.rows → Measured (value_of s c r)
  measured r h = (sound.column c here).measured r h

  pub can_compare : (r : ℕ) → r < s.rows → T (comparable (value_of s c r))
  can_compare r h = measured_comparable (value_of s c r) (measured r h)

  pub alike : (r x : ℕ) → r < s.rows → x < s.rows → eq (value_of s c r) (value_of s c x) ≡ eqb (key_of s c r) (key_of s c x)
  alike r x h k = eq_key (value_of s c r) (value_of s c x) (can_compare r h) (can_compare x k)

  -- whatever is compared with a row's value
  pub goes : (t : Float) → T (comparable t) → (r : ℕ) → r < s.rows → goes_left (value_of s c r) t ≡ leb (key_of s c r) (key t)
  unfolding goes_left
  goes t h r k = le_key (value_of s c r) t (can_compare r k) h

  -- the threshold of two rows with different values
  module _ (r x : ℕ) (i : r < s.rows) (j : x < s.rows) (l : key_of s c r < key_of s c x) where
    ascending : T (lt (value_of s c r) (value_of s c x))
    ascending = →lt (value_of s c r) (value_of s c x) (can_compare r i) (can_compare x j) l

    pub lower_is : key_of s c r ≤ key (threshold_of (value_of s c r) (value_of s c x))
    lower_is = from_lower (value_of s c r) (value_of s c x) (measured r i) (measured x j) ascending

    pub upper_is : key (threshold_of (value_of s c r) (value_of s c x)) < key_of s c x
    upper_is = below_upper (value_of s c r) (value_of s c x) (measured r i) (measured x j) ascending

    pub threshold_measured : Measured (threshold_of (value_of s c r) (value_of s c x))
    threshold_measured = in_range (value_of s c r) (value_of s c x) (measured r i) (measured x j) ascending
