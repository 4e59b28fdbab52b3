-- The marks are what their names say: one more tried cut either is no such cut, or the higher (lower) of it and the old mark is the new one.
-- Assumes nothing.
use mathlib.Core.Path.{◌≡◌, refl, subst}
use Prim.Native.Nat.{ℕ, ◌≤◌, min, max}
use native.Mathlib.Omega.{arith}
use mathlib.Core.List.{List, [], ◌∷◌}
use lib.Dec.{eqb, eqb→eq}
use Rattle.basics.specs.Lists.{All, here, there}
use Rattle.basics.proofs.Choice.{by_test, neqb}
use Rattle.std.specs.Prelude.{Option, Some, None}
use Rattle.interval_pruner.specs.Column.{left_error, right_error}
use Rattle.interval_pruner.proofs.Results.{max_either, min_either}
use Rattle.interval_pruner.specs.Pruner.{highest_zero, lowest_zero, zeros_after, Held}
use Rattle.column_search.specs.Search.{zeros_of}
use Rattle.column_search.specs.Laws.{Among, Extreme, Marks}

none_among : (k : ℕ) → Among k [] → ⊥
none_among k = elim [ ]

-- what all tried cuts are, one of them is
pub all_among : (P : ℕ → Type 0) (k : ℕ) (tried : List ℕ) → All P tried → Among k tried → P k
all_among P k [] h a = elim a [ ]
all_among P k (t ∷ tried) h (here e) = subst P e h.0
all_among P k (t ∷ tried) h (there a) = all_among P k tried h.1 a

module _ (P : ℕ → Type 0) (below : ℕ → ℕ → Type 0) (k : ℕ) (tried : List ℕ) where
  -- a cut that is not such changes nothing
  skips : (P k → ⊥) → (t : Option ℕ) → Extreme P below tried t → Extreme P below (k ∷ tried) t
  skips f None h = go
    where
      go : (x : ℕ) → Among x (k ∷ tried) → P x → ⊥
      go x (here e) p = f (rw e p)
      go x (there a) p = h x a p
  skips f (Some z) h = (there h.0, h.1, go)
    where
      go : (x : ℕ) → Among x (k ∷ tried) → P x → below x z
      go x (here e) p = absurd (f (rw e p))
      go x (there a) p = h.2 x a p

  -- the first that is such is the mark
  opens : P k → below k k → Extreme P below tried None → Extreme P below (k ∷ tried) (Some k)
  opens p r h = (here refl, p, go)
    where
      go : (x : ℕ) → Among x (k ∷ tried) → P x → below x k
      go x (here e) q = subst (λ y. below y k) e r
      go x (there a) q = absurd (h x a q)

  -- of two such the further one, m, is
  moves : (z m : ℕ) → P k → below k m → ((x : ℕ) → below x z → below x m) → ((Q : ℕ → Type 0) → Q z → Q k → Q m)
      → Extreme P below tried (Some z) → Extreme P below (k ∷ tried) (Some m)
  moves z m p r f either h = (either (λ x. Among x (k ∷ tried)) (there h.0) (here refl), either P h.1 p, go)
    where
      go : (x : ℕ) → Among x (k ∷ tried) → P x → below x m
      go x (here e) q = subst (λ y. below y m) e r
      go x (there a) q = f x (h.2 x a q)

module _ (P : ℕ → Type 0) (k : ℕ) (tried : List ℕ) (p : P k) where
  rises : (t : Option ℕ) → Extreme P (λ x z. x ≤ z) tried t → Extreme P (λ x z. x ≤ z) (k ∷ tried) (highest_zero k t)
  unfolding highest_zero
  rises None h = opens P (λ x z. x ≤ z) k tried p (omega arith) h
  rises (Some z) h = moves P (λ x z. x ≤ z) k tried z (max z k) p (omega arith) (λ x l. omega arith) (λ Q a b. max_either Q z k a b) h

  sinks : (t : Option ℕ) → Extreme P (λ x z. z ≤ x) tried t → Extreme P (λ x z. z ≤ x) (k ∷ tried) (lowest_zero k t)
  unfolding lowest_zero
  sinks None h = opens P (λ x z. z ≤ x) k tried p (omega arith) h
  sinks (Some z) h = moves P (λ x z. z ≤ x) k tried z (min z k) p (omega arith) (λ x l. omega arith) (λ Q a b. min_either Q z k a b) h

pub marks : Marks
unfolding zeros_of zeros_after
marks c [] = (λ k a _. none_among k a, λ k a _. none_among k a)
marks c (k ∷ tried) = (
  by_test (Extreme (λ x. left_error c x ≡ 0) (λ x z. x ≤ z) (k ∷ tried)) (eqb (left_error c k) 0)
      (λ t. rises (λ x. left_error c x ≡ 0) k tried (eqb→eq (left_error c k) 0 t) (zeros_of c tried).left (marks c tried).0)
      (λ t. skips (λ x. left_error c x ≡ 0) (λ x z. x ≤ z) k tried (neqb (left_error c k) 0 t) (zeros_of c tried).left (marks c tried).0),
  by_test (Extreme (λ x. right_error c x ≡ 0) (λ x z. z ≤ x) (k ∷ tried)) (eqb (right_error c k) 0)
      (λ t. sinks (λ x. right_error c x ≡ 0) k tried (eqb→eq (right_error c k) 0 t) (zeros_of c tried).right (marks c tried).1)
      (λ t. skips (λ x. right_error c x ≡ 0) (λ x z. z ≤ x) k tried (neqb (right_error c k) 0 t) (zeros_of c tried).right (marks c tried).1),
)

-- what holds of every tried cut holds of a mark
pub mark_of : (Q P : ℕ → Type 0) (below : ℕ → ℕ → Type 0) (tried : List ℕ) (t : Option ℕ) → All Q tried → Extreme P below tried t
    → Held (λ z. Q z × P z) t
mark_of Q P below tried None v h = tt
mark_of Q P below tried (Some z) v h = (all_among Q z tried v h.0, h.1)
