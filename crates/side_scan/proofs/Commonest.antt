-- The running maximum of the labels' counts, begun at minus one, is the commonest label's count from the first label on: any count beats minus one, and then
-- the two change at the same labels. Assumes nothing.
use mathlib.Core.Path.{◌≡◌, refl, ap, ap₂, ◌∙◌}
use Prim.Native.Nat.{ℕ, zero, suc, ◌+◌, ◌≤◌, ◌<◌}
use native.Mathlib.Omega.{arith}
use mathlib.Core.Bool.{Bool, true, false}
use lib.Dec.{ltb, le→leb}
use lib.IntN.{pos}
use lib.Signed.{lt_z, ◌≤ℤ◌}
use Rattle.basics.specs.Choice.{pick}
use Rattle.basics.proofs.Choice.{by_ltb, reach}
use Rattle.side_scan.specs.declared.best_counts.Peak.{Peak}
use Rattle.side_scan.specs.declared.best_counts.Run.{Run}
use Rattle.side_scan.specs.Counts.{peak_by}
use Rattle.side_scan.specs.Commonest.{commonest, most_of, run_to, Ran}

abbrev at : (ℕ → ℕ) → ℕ → Run
at f l = record { score = pos (f l); label = l }

through_pick : (f : ℕ → ℕ) (b : Bool) (n l : ℕ) → pick b (at f n) (at f l) ≡ at f (pick b n l)
unfolding pick
through_pick f true n l = refl
through_pick f false n l = refl

first : (f : ℕ → ℕ) (b : Bool) → at f 0 ≡ at f (pick b 0 0)
unfolding pick
first f true = refl
first f false = refl

pub ran : Ran
unfolding run_to commonest most_of pick
ran f zero h = absurd (omega arith)
ran f (suc zero) h = first f (ltb (f 0) (f 0))
ran f (suc (suc n)) h =
    ap (λ (r : Run). pick (lt_z r.score (pos (f (suc n)))) (at f (suc n)) r) (ran f (suc n) (omega arith))
    ∙ through_pick f (ltb (f (commonest f (suc n))) (f (suc n))) (suc n) (commonest f (suc n))

-- ---- the commonest label is one of the labels, and none has a greater count

pub commonest_in : (f : ℕ → ℕ) (n : ℕ) → 1 ≤ n → commonest f n < n
unfolding commonest
commonest_in f zero h = absurd (omega arith)
commonest_in f (suc zero) h = by_ltb (λ x. x < 1) (f 0) (f 0) (λ _. omega arith) (λ _. omega arith)
commonest_in f (suc (suc n)) h =
    by_ltb (λ x. x < suc (suc n)) (f (commonest f (suc n))) (f (suc n)) (λ _. omega arith) (λ _. omega (arith, commonest_in f (suc n) (omega arith)))

pub most : (f : ℕ → ℕ) (n l : ℕ) → l < n → f l ≤ most_of f n
unfolding commonest most_of
most f zero l h = absurd (omega arith)
most f (suc n) l h =
    by_ltb (λ x. f l ≤ f x) (f (commonest f n)) (f n)
    (λ k. reach l n (omega arith) (λ e. rw e (omega arith)) (λ g. omega (arith, most f n l g)))
    (λ k. reach l n (omega arith) (λ e. rw e k) (λ g. most f n l g))

-- ---- best counts

-- the best count grows by no more than each count may
pub most_near : (f g : ℕ → ℕ) (n d : ℕ) → 1 ≤ n → ((l : ℕ) → l < n → g l ≤ f l + d) → most_of g n ≤ most_of f n + d
most_near f g n d h k = omega (arith, at, k (commonest g n) (commonest_in g n h), most f n (commonest g n) (commonest_in g n h))
  where
    at : most_of g n ≡ g (commonest g n)
    at = unfold most_of in refl

-- a bound of every count bounds the best
pub most_under : (f : ℕ → ℕ) (n d : ℕ) → 1 ≤ n → ((l : ℕ) → l < n → f l ≤ d) → most_of f n ≤ d
unfolding most_of
most_under f n d h k = k (commonest f n) (commonest_in f n h)

-- after all labels the running maximum is the commonest label's count
module _ (f : ℕ → ℕ) (n i : ℕ) (r : Run) (some : 1 ≤ n) (all : i ≡ n) (e : r ≡ run_to f i) where
  ran_is : r ≡ record { score = pos (most_of f n); label = commonest f n }
  ran_is = e ∙ ap (run_to f) all ∙ ran f n some

  pub not_below : pos 0 ≤ℤ r.score
  not_below = rw ran_is (record { le = le→leb 0 (most_of f n) (omega arith) })

  pub peak_is : (p : Peak) → p.label ≡ r.label → pos p.count ≡ r.score → p ≡ peak_by f n
  peak_is p l c =
      let q = ran_is in
      let label : p.label ≡ commonest f n = cc in
      let count : p.count ≡ most_of f n = cc in
      let both : p ≡ peak_by f n = ap₂ (λ (x y : ℕ). record { label = x; count = y }) label count in both
