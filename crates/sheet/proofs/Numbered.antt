-- Conditions by number and place, asked in the order of their numbers: what is known while none has held yet, and which one holds first. Assumes nothing.
use mathlib.Core.Path.{◌≡◌, sym, subst}
use Prim.Native.Nat.{ℕ, suc, ◌≤◌, ◌<◌}
use native.Mathlib.Omega.{arith}
use mathlib.Core.Bool.{Bool}
use lib.Dec.{T, T_not, ltb}
use Rattle.basics.specs.Choice.{pick}
use Rattle.basics.specs.Walk.{walk}
use Rattle.basics.proofs.Choice.{by_ltb, order, reach}
use Rattle.sheet.specs.Laws.{First}
use Rattle.sheet.proofs.Search.{clean_walk, walk_bad}

module _ (C : ℕ → ℕ → Type 0) where
  -- none with a number up to k holds, at any place
  abbrev pub None : ℕ → Type 0
  None k = (m q : ℕ) → m ≤ k → C m q → ⊥

  pub next : (k : ℕ) → None k → ((q : ℕ) → C (suc k) q → ⊥) → None (suc k)
  next k none here m q h x = reach m (suc k) h (λ e. here q (subst (λ n. C n q) e x)) (λ l. none m q (omega arith) x)

  -- no condition has the number 0
  pub none0 : ((q : ℕ) → C 0 q → ⊥) → None 0
  none0 unnumbered m q h x = unnumbered q (subst (λ n. C n q) (zero_only m h) x)
    where
      zero_only : (m : ℕ) → m ≤ 0 → m ≡ 0
      zero_only m h = omega arith

  -- what concerns the whole call is reported at place 0
  pub first_whole : (k : ℕ) → None k → C (suc k) 0 → First C (suc k) 0
  first_whole k none x = record { here = x; no_earlier = λ q h y. absurd (omega arith); no_lower = λ m q h y. none m q (omega arith) y }

  -- a search of many places stops at the first that fails, or passes them all
  pub scanned : {X : Type 0} (F : X → Type 0) (k places : ℕ) (bad : ℕ → Bool) (told rest : X) → ((q : ℕ) → C (suc k) q → (q < places) × T (bad q))
      → ((q : ℕ) → q < places → T (bad q) → C (suc k) q) → None k → (First C (suc k) (walk bad places 0) → F told) → (None (suc k) → F rest)
      → F (pick (ltb (walk bad places 0) places) told rest)
  scanned F k places bad told rest to from none stop go =
      let p : ℕ = walk bad places 0 in
      by_ltb F p places
      (λ l.
      stop
      (record {
        here = from p l (walk_bad bad places l);
        no_earlier = λ q h x. T_not (bad q) ((clean_walk bad places).none q h) (to q x).1;
        no_lower = λ m q h x. none m q (omega arith) x;
      }))
      (λ g. go (next k none (λ q x. let w = to q x in T_not (bad q) ((clean_walk bad places).none q (omega (arith, w.0))) w.1)))

  -- one reason at one place is the first
  pub same_refusal : (n p m q : ℕ) → First C n p → First C m q → (n ≡ m) × (p ≡ q)
  same_refusal n p m q x y =
      let e : n ≡ m =
      order n m (λ l. reach n m l (λ e. e) (λ g. absurd (y.no_lower n p g x.here))) (λ g. absurd (x.no_lower m q g y.here)) in
      let z : First C n q = subst (λ k. First C k q) (sym e) y in (
        e,
        order p q (λ l. reach p q l (λ e. e) (λ g. absurd (z.no_earlier p g x.here))) (λ g. absurd (x.no_earlier q g z.here)),
      )
