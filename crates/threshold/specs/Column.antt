-- For a signer. A column sorted by value, and what a threshold does to it. Definitions, and one law as a statement; `proofs/Front.antt` proves
-- it.
use Rattle.std.specs.Prelude.{◌≡◌, ℕ, suc, ◌-◌, ◌<◌, List, length, get_or, T, leb, ltb, Float}
use Rattle.std.specs.Float.{nan}
use Rattle.basics.specs.Choice.{pick}
use Rattle.basics.specs.Lists.{tally}
use Rattle.threshold.specs.Order.{is_at_most, cut_at}
use Rattle.threshold.specs.Threshold.{threshold_of, goes_left}
use Rattle.threshold.specs.Laws.{Measured}

abbrev pub value_at_place : List Float → ℕ → Float
value_at_place values i = get_or values i nan

-- the number of values that go left
unfoldable pub count_left : List Float → Float → ℕ
count_left values threshold = tally (λ v. goes_left v threshold) values

-- at the threshold between places i − 1 and i, if there are these two
unfoldable pub left_of_cut : List Float → ℕ → ℕ
left_of_cut values i =
    pick (leb 1 i) (pick (ltb i (length values)) (count_left values (threshold_of (value_at_place values (i - 1)) (value_at_place values i))) 0) 0

-- values that a sheet may hold, none below the one before it
pub record Sorted (values : List Float) : Type 0 where
  pub measured : (i : ℕ) → i < length values → Measured (value_at_place values i)
  pub ascends : (i : ℕ) → suc i < length values → T (is_at_most (value_at_place values i) (value_at_place values (suc i)))

-- a cut of the values
pub record IsCut (values : List Float) (i : ℕ) : Type 0 where
  pub inside : i < length values
  pub cut : T (cut_at (value_at_place values) i)

-- as many values go left as stand before the cut
abbrev pub PartsAtTheCut : Type 0
PartsAtTheCut = (values : List Float) (i : ℕ) → Sorted values → IsCut values i → left_of_cut values i ≡ i

-- how many go left at the threshold before place i; if the values are a sorted column and i is a cut, i of them
abbrev pub LeftAtCut : List Float → ℕ → ℕ → Type 0
LeftAtCut values i sent = (sent ≡ left_of_cut values i) × (Sorted values → IsCut values i → sent ≡ i)
