-- The values of a format that are no NaN, the infinities among them, are ordered as their ranks, which are plain numbers. So every law of
-- their order is one of numbers, for `omega`. Assumes nothing.
use mathlib.Core.Path.{◌≡◌, refl, sym, ap, ap₂, ◌∙◌, subst}
use mathlib.Core.Logic.{◌⊎◌, inl, inr}
use Prim.Native.Nat.{ℕ, suc, ◌+◌, ◌*◌, ◌^◌, ◌≤◌, ◌<◌}
use native.Mathlib.Nat.{le_refl}
use native.Mathlib.Omega.{arith}
use mathlib.Core.Bool.{Bool, true, false, not, ◌&&◌, ◌||◌}
use lib.Dec.{T, not_T, leb, ltb, eqb, leb→le, le→leb, ltb→lt, lt→ltb, nltb→le, eqb→eq}
use lib.Pow.{pow_pos}
use lib.Ieee.{Float, nan, inf, fin, Format, binary64, low, emax, lt, eq, le, fits, is_nan}
use lib.Ieee.Fits.{and_i, and_l, and_r}
use lib.Ieee.Scale.{overflow, finite}
use Rattle.basics.proofs.Choice.{same_bool, order}
use Rattle.threshold.specs.Order.{comparable, rank_at, rank, key, Ordered, Transitive, SameOrZeros, is_zero}
use Rattle.threshold.proofs.Compare.{is_eqb, le_or, lt_or_eq}
use Rattle.threshold.proofs.Held.{held, rank_of, lt_rank, eq_rank}
use Rattle.threshold.proofs.Alike.{Alike, alike, same, zeros, null}

-- what `comparable` says, of any format
abbrev ordered : Format → Float → Bool
ordered f x = fits f x && not (is_nan x)

ltb_yes : (a b : ℕ) → a < b → true ≡ ltb a b
ltb_yes a b h = same_bool true (ltb a b) (λ t. lt→ltb a b h) (λ t. tt)

ltb_no : (a b : ℕ) → b ≤ a → false ≡ ltb a b
ltb_no a b h = same_bool false (ltb a b) (λ t. absurd t) (λ t. no (ltb→lt a b t))
  where
    no : a < b → ⊥
    no g = omega arith

eqb_no : (a b : ℕ) → (a ≡ b → ⊥) → false ≡ eqb a b
eqb_no a b h = same_bool false (eqb a b) (λ t. absurd t) (λ t. h (eqb→eq a b t))

-- a number's rank lies between those of the infinities
place_in : (Z a : ℕ) (s : Bool) → a < Z → (0 < rank_at Z s a) × (rank_at Z s a < Z + Z)
place_in Z a true h = omega arith
place_in Z a false h = omega arith

inside : (f : Format) (x : Float) → T (finite x) → T (fits f x) → (0 < rank f x) × (rank f x < overflow f + overflow f)
inside f x X i =
    let h = held f x X i in
    subst (λ (n : ℕ). (0 < n) × (n < overflow f + overflow f)) (sym (rank_of f x h)) (place_in (overflow f) (h.digits * 2 ^ h.shift) h.sign h.fine)

rank_low : (f : Format) → rank f (inf true) ≡ 0
unfolding rank
rank_low f = refl

rank_high : (f : Format) → rank f (inf false) ≡ overflow f + overflow f
unfolding rank
rank_high f = refl

some : (f : Format) → 0 < overflow f
some f = pow_pos (low f + suc (emax f))

twofold : (z : ℕ) → 0 < z → 0 < z + z
twofold z h = omega arith

lt_ordered : (f : Format) (x y : Float) → T (ordered f x) → T (ordered f y) → lt x y ≡ ltb (rank f x) (rank f y)
unfolding is_nan
lt_ordered f nan y i j = absurd (and_r (fits f nan) false i)
lt_ordered f (inf s) nan i j = absurd (and_r (fits f nan) false j)
lt_ordered f (fin s m e) nan i j = absurd (and_r (fits f nan) false j)
lt_ordered f (inf true) (inf true) i j = unfold lt in ltb_no (rank f (inf true)) (rank f (inf true)) (le_refl (rank f (inf true)))
lt_ordered f (inf true) (inf false) i j = unfold lt rank in ltb_yes 0 (overflow f + overflow f) (twofold (overflow f) (some f))
lt_ordered f (inf false) (inf true) i j = unfold lt rank in ltb_no (overflow f + overflow f) 0 (omega arith)
lt_ordered f (inf false) (inf false) i j = unfold lt in ltb_no (rank f (inf false)) (rank f (inf false)) (le_refl (rank f (inf false)))
lt_ordered f (inf true) (fin t n d) i j =
    unfold lt in ltb_yes (rank f (inf true)) (rank f (fin t n d)) (omega (arith, rank_low f, inside f (fin t n d) tt (and_l (fits f (fin t n d)) true j)))
lt_ordered f (inf false) (fin t n d) i j =
    unfold lt in ltb_no (rank f (inf false)) (rank f (fin t n d)) (omega (arith, rank_high f, inside f (fin t n d) tt (and_l (fits f (fin t n d)) true j)))
lt_ordered f (fin s m e) (inf true) i j =
    unfold lt in ltb_no (rank f (fin s m e)) (rank f (inf true)) (omega (arith, rank_low f, inside f (fin s m e) tt (and_l (fits f (fin s m e)) true i)))
lt_ordered f (fin s m e) (inf false) i j =
    unfold lt in ltb_yes (rank f (fin s m e)) (rank f (inf false)) (omega (arith, rank_high f, inside f (fin s m e) tt (and_l (fits f (fin s m e)) true i)))
lt_ordered f (fin s m e) (fin t n d) i j = lt_rank f (fin s m e) (fin t n d) tt tt (and_l (fits f (fin s m e)) true i) (and_l (fits f (fin t n d)) true j)

eq_ordered : (f : Format) (x y : Float) → T (ordered f x) → T (ordered f y) → eq x y ≡ eqb (rank f x) (rank f y)
unfolding is_nan
eq_ordered f nan y i j = absurd (and_r (fits f nan) false i)
eq_ordered f (inf s) nan i j = absurd (and_r (fits f nan) false j)
eq_ordered f (fin s m e) nan i j = absurd (and_r (fits f nan) false j)
eq_ordered f (inf true) (inf true) i j = unfold eq rank in refl
eq_ordered f (inf true) (inf false) i j = unfold eq rank in eqb_no 0 (overflow f + overflow f) (λ p. omega (arith, p, some f))
eq_ordered f (inf false) (inf true) i j = unfold eq rank in eqb_no (overflow f + overflow f) 0 (λ p. omega (arith, p, some f))
eq_ordered f (inf false) (inf false) i j = unfold eq in same_bool true (eqb (rank f (inf false)) (rank f (inf false))) (λ t. is_eqb (rank f (inf false)) (rank f (inf false)) refl) (λ t. tt)
eq_ordered f (inf true) (fin t n d) i j =
    unfold eq in eqb_no (rank f (inf true)) (rank f (fin t n d)) (λ p. omega (arith, p, rank_low f, inside f (fin t n d) tt (and_l (fits f (fin t n d)) true j)))
eq_ordered f (inf false) (fin t n d) i j =
    unfold eq in eqb_no (rank f (inf false)) (rank f (fin t n d)) (λ p. omega (arith, p, rank_high f, inside f (fin t n d) tt (and_l (fits f (fin t n d)) true j)))
eq_ordered f (fin s m e) (inf true) i j =
    unfold eq in eqb_no (rank f (fin s m e)) (rank f (inf true)) (λ p. omega (arith, p, rank_low f, inside f (fin s m e) tt (and_l (fits f (fin s m e)) true i)))
eq_ordered f (fin s m e) (inf false) i j =
    unfold eq in eqb_no (rank f (fin s m e)) (rank f (inf false)) (λ p. omega (arith, p, rank_high f, inside f (fin s m e) tt (and_l (fits f (fin s m e)) true i)))
eq_ordered f (fin s m e) (fin t n d) i j = eq_rank f (fin s m e) (fin t n d) tt tt (and_l (fits f (fin s m e)) true i) (and_l (fits f (fin t n d)) true j)

-- ---- there and back between comparisons and keys

-- a finite double is comparable
pub finite_comparable : (x : Float) → T (finite x) → T (fits binary64 x) → T (comparable x)
unfolding is_nan
finite_comparable nan n i = absurd n
finite_comparable (inf s) n i = absurd n
finite_comparable (fin s m e) n i = and_i (fits binary64 (fin s m e)) true i tt

module _ (x y : Float) (i : T (comparable x)) (j : T (comparable y)) where
  pub lt_key : lt x y ≡ ltb (key x) (key y)
  lt_key = lt_ordered binary64 x y i j

  pub eq_key : eq x y ≡ eqb (key x) (key y)
  eq_key = eq_ordered binary64 x y i j

  pub le_key : le x y ≡ leb (key x) (key y)
  le_key = le_or x y ∙ ap₂ (λ (a b : Bool). a || b) lt_key eq_key ∙ lt_or_eq (key x) (key y)

  pub lt→ : T (lt x y) → key x < key y
  lt→ t = ltb→lt (key x) (key y) (subst T lt_key t)

  pub →lt : key x < key y → T (lt x y)
  →lt h = subst T (sym lt_key) (lt→ltb (key x) (key y) h)

  pub le→ : T (le x y) → key x ≤ key y
  le→ t = leb→le (key x) (key y) (subst T le_key t)

  pub →le : key x ≤ key y → T (le x y)
  →le h = subst T (sym le_key) (le→leb (key x) (key y) h)

  pub eq→ : T (eq x y) → key x ≡ key y
  eq→ t = eqb→eq (key x) (key y) (subst T eq_key t)

  pub →eq : key x ≡ key y → T (eq x y)
  →eq h = subst T (sym eq_key) (is_eqb (key x) (key y) h)

  pub not-lt→ : T (not (lt x y)) → key y ≤ key x
  not-lt→ t = nltb→le (key x) (key y) (subst (λ (b : Bool). T (not b)) lt_key t)

  pub →not-lt : key y ≤ key x → T (not (lt x y))
  →not-lt h = not_T (lt x y) (λ t. omega (arith, lt→ t))

-- ---- the laws that specs/ states

pub ordered_laws : Ordered
ordered_laws x y i j =
    record {
      lt_key = lt_key x y i j;
      le_key = le_key x y i j;
      eq_key = eq_key x y i j;
      irreflexive = →not-lt x x i i (omega arith);
      le_itself = →le x x i i (omega arith);
      eq_itself = →eq x x i i refl;
      total =
          order (key y) (key x)
          (λ h. order (key x) (key y) (λ g. inr (inl (→eq x y i j (omega arith)))) (λ g. inr (inr (→lt y x j i g))))
          (λ h. inl (→lt x y i j h));
      lt_not_eq = λ t. not_T (eq x y) (λ u. omega (arith, lt→ x y i j t, eq→ x y i j u));
      lt_not_gt = λ t. →not-lt y x j i (omega (arith, lt→ x y i j t));
      eq_not_lt = λ t. →not-lt x y i j (omega (arith, eq→ x y i j t));
      le_not_gt =
          same_bool (le x y) (not (lt y x)) (λ t. →not-lt y x j i (le→ x y i j t)) (λ t. →le x y i j (not-lt→ y x j i t));
      eq_symmetric = λ t. →eq y x j i (sym (eq→ x y i j t));
      both_ways = λ t u. →eq x y i j (omega (arith, le→ x y i j t, le→ y x j i u));
    }

pub transitive_laws : Transitive
transitive_laws x y z i j k =
    record {
      lt_lt = λ p q. →lt x z i k (omega (arith, lt→ x y i j p, lt→ y z j k q));
      le_le = λ p q. →le x z i k (omega (arith, le→ x y i j p, le→ y z j k q));
      le_lt = λ p q. →lt x z i k (omega (arith, le→ x y i j p, lt→ y z j k q));
      lt_le = λ p q. →lt x z i k (omega (arith, lt→ x y i j p, le→ y z j k q));
      eq_eq = λ p q. →eq x z i k (omega (arith, eq→ x y i j p, eq→ y z j k q));
      eq_lt = λ p. lt_key x z i k ∙ ap (λ (n : ℕ). ltb n (key z)) (eq→ x y i j p) ∙ sym (lt_key y z j k);
      lt_eq = λ p. lt_key z x k i ∙ ap (λ (n : ℕ). ltb (key z) n) (eq→ x y i j p) ∙ sym (lt_key z y k j);
      eq_le = λ p. le_key x z i k ∙ ap (λ (n : ℕ). leb n (key z)) (eq→ x y i j p) ∙ sym (le_key y z j k);
      le_eq = λ p. le_key z x k i ∙ ap (λ (n : ℕ). leb (key z) n) (eq→ x y i j p) ∙ sym (le_key z y k j);
    }

zero_is : (s : Bool) (x : Float) → x ≡ null s → is_zero x
zero_is true x e = inl e
zero_is false x e = inr e

pub same_or_zeros : SameOrZeros
same_or_zeros x y i j t = go (alike binary64 x y i j t)
  where
    go : Alike x y → (x ≡ y) ⊎ (is_zero x × is_zero y)
    go (same p) = inl p
    go (zeros s u p q) = inr (zero_is s x p, zero_is u y q)
