-- Pruning loses no cut that is worth a try, one whose error plus gap is below B: it stays in some queued interval until it is tried. A remembered
-- cut's error bounds it on each side (step 1); left of a zero on the left its error is no less than the tried one's (step 2); and a cut that is
-- nearer to a tried one than the errors differ cannot be better (steps 2 and 5). At the end no interval is left. Assumes nothing.
use mathlib.Core.Path.{◌≡◌, ap}
use Prim.Native.Nat.{ℕ, zero, suc, ◌+◌, ◌-◌, ◌*◌, ◌≤◌, ◌<◌, min}
use native.Mathlib.Omega.{arith}
use mathlib.Core.Bool.{◌&&◌}
use mathlib.Core.List.{List, [], ◌∷◌, ◌++◌}
use lib.Dec.{T, leb, ltb, eqb, leb→le, le→leb, ltb→lt, eqb→eq}
use Rattle.basics.specs.Lists.{All, Any, here, there}
use Rattle.basics.proofs.Choice.{by_test, by_leb, by_ltb, order, reach, and_right}
use Rattle.basics.proofs.Lists.{any_left, any_right}
use Rattle.cuts.specs.Lookups.{at_least, above, first_from, sought_from}
use Rattle.cuts.proofs.Lookups.{first_low, first_le, first_at, sought_low, sought_at, end_past}
use Rattle.std.specs.Prelude.{Option, Some, None}
use Rattle.interval_pruner.specs.declared.Bound.{Bound}
use Rattle.interval_pruner.specs.Column.{Column, place_in, left_error, right_error, error_of}
use Rattle.interval_pruner.specs.Pruner.{past, short, sum_of, held_error, hopeless, start_after, interval_within, end_above, end_before, shrunk_of, upper_from, lower_near, lower_to, parts_of, Held}
use Rattle.interval_pruner.proofs.Shrinking.{start_low}
use Rattle.column_search.specs.Search.{State, limit, zeros_of, middle, part, upper_part, lower_part, queued, try_cut, dropped, turn_on, turn, turns, start, column_run}
use Rattle.column_search.specs.Laws.{Inside, Feasible, RunOf, Metric, NothingLost, count}
use Rattle.column_search.specs.Loop.{Seen, Waiting, Kept}
use Rattle.column_search.proofs.Steps.{past_ge, shrunk_in, new_parts, turn_cases}
use Rattle.column_search.proofs.Kept.{kept_try, kept_turn, kept_start}
use Rattle.column_search.proofs.Count.{ends}
use Rattle.column_search.proofs.Marks.{marks, mark_of}

-- the interval has cut number k
abbrev Has : ℕ → Bound → Type 0
Has k i = (i.first ≤ k) × (k ≤ i.last)

-- an interval is left, and it is such
abbrev HitTo : (Bound → Type 0) → Option Bound → Type 0
HitTo P None = ⊥
HitTo P (Some j) = P j

module _ (c : Column) (bound first last : ℕ) (fair : Feasible c first last) (met : Metric c first last) where
  -- k is worth a try
  module _ (b k : ℕ) (from : first ≤ k) (till : k ≤ last) (worth : error_of c k + c.gap < b) (tried : List ℕ) where
    -- ---- step 1

    left_held : (i : Bound) (o : Option ℕ) → Held (λ l. (l < i.first) × Seen c first last b tried l) o → i.first ≤ k → held_error (left_error c) o ≤ left_error c k
    unfolding held_error
    left_held i None g h = omega arith
    left_held i (Some l) g h = met.lefts l k g.1.from (omega arith) till

    right_held : (i : Bound) (o : Option ℕ) → Held (λ r. (i.last ≤ r) × Seen c first last b tried r) o → k ≤ i.last → held_error (right_error c) o ≤ right_error c k
    unfolding held_error
    right_held i None g h = omega arith
    right_held i (Some r) g h = met.rights k r from (omega arith) g.1.till

    no_hope : (i : Bound) → Waiting c first last b tried i → Has k i → T (hopeless c b i) → ⊥
    unfolding hopeless
    no_hope i w h t =
        let sum : ℕ = held_error (left_error c) i.left + held_error (right_error c) i.right + c.gap in
        omega (
          arith,
          left_held i i.left w.left h.0,
          right_held i i.right w.right h.1,
          leb→le b sum (and_right c.small (leb b sum) t),
        )

    -- ---- step 2

    past_keeps : (o : Option ℕ) (a : ℕ) → Held (λ z. Seen c first last b tried z × (left_error c z ≡ 0)) o → a ≤ k → past o a ≤ k
    unfolding past
    past_keeps None a g h = h
    past_keeps (Some z) a g h =
        let s : Seen c first last b tried z = g.0 in
        order k z (λ l. absurd (omega (arith, met.rights k z from l s.till))) (λ l. omega arith)

    short_keeps : (o : Option ℕ) (e : ℕ) → Held (λ z. Seen c first last b tried z × (right_error c z ≡ 0)) o → k ≤ e → k ≤ short o e
    unfolding short
    short_keeps None e g h = h
    short_keeps (Some z) e g h =
        let s : Seen c first last b tried z = g.0 in
        order z k (λ l. absurd (omega (arith, met.lefts z k s.from l till))) (λ l. omega arith)

    -- no cut near one whose error is not below B
    near_right : (l : ℕ) → first ≤ l → l < k → b ≤ sum_of c l → place_in c l + (sum_of c l - b) + 1 ≤ place_in c k
    near_right l f h g = omega (arith, met.lefts l k f (omega arith) till, met.right_near l k f (omega arith) till)

    near_left : (r : ℕ) → k ≤ r → r ≤ last → b ≤ sum_of c r → place_in c k + (sum_of c r - b + 1) ≤ place_in c r
    near_left r h g l = omega (arith, met.rights k r from h g, met.left_near k r from h g)

    start_after_keeps : (i : Bound) (o : Option ℕ) (a : ℕ) → Held (λ l. (l < i.first) × Seen c first last b tried l) o → i.first ≤ k → a ≤ k
        → start_after c b o a ≤ k
    unfolding start_after
    start_after_keeps i None a g f h = h
    start_after_keeps i (Some l) a g f h =
        let v : ℕ = place_in c l + (sum_of c l - b) + 1 in
        by_leb (λ x. x ≤ k) b (sum_of c l)
        (λ s. first_le (at_least c.places v) c.places a k h
        (le→leb v (place_in c k) (near_right l g.1.from (omega arith) s)))
        (λ _. h)

    -- places do not fall
    rises : (a : ℕ) → first ≤ a → a ≤ k → place_in c a ≤ place_in c k
    rises a f h = reach a k h (λ e. rw e (omega arith)) (λ l. omega (arith, met.ascends a k f l till))

    -- a cut placed above x, from a on, is not before k
    above_keeps : (x r : ℕ) → place_in c k ≤ x → first ≤ r → (r < k → T (above c.places x r)) → k ≤ r
    above_keeps x r h f t =
        order k r (λ l. l)
        (λ l. absurd (omega (arith, ltb→lt x (place_in c r) (t l), met.ascends r k f l till)))

    within_keeps : (i : Bound) (a e : ℕ) → a ≤ k → k ≤ e → HitTo (Has k) (interval_within i a e)
    unfolding interval_within
    within_keeps i a e h g = by_leb (HitTo (Has k)) a e (λ _. (h, g)) (λ l. absurd (omega arith))

    end_before_keeps : (i : Bound) (o : Option ℕ) (a e : ℕ) → Held (λ r. (i.last ≤ r) × Seen c first last b tried r) o → k ≤ i.last
        → first ≤ a → a ≤ k → k ≤ e → HitTo (Has k) (end_before c b o i a e)
    unfolding end_before end_above
    end_before_keeps i None a e g f fa h l = within_keeps i a e h l
    end_before_keeps i (Some r) a e g f fa h l =
        let s : Seen c first last b tried r = g.1 in
        let x : ℕ = place_in c r - (sum_of c r - b + 1) in
        let to : ℕ = first_from (above c.places x) c.places a in
        by_leb (HitTo (Has k)) b (sum_of c r)
        (λ t. let far : place_in c k ≤ x = omega (arith, near_left r (omega arith) s.till t) in
        by_ltb (HitTo (Has k)) x (place_in c a) (λ n. absurd (omega (arith, rises a fa h)))
        (λ n. within_keeps i a (min e to) h
        (omega (
          arith,
          above_keeps x to far (omega (arith, first_low (above c.places x) c.places a))
              (λ q. first_at (above c.places x) c.places a (omega (arith, fair.listed))),
        ))))
        (λ _. within_keeps i a e h l)

    -- the marks, of tried cuts
    module _ (seen : All (Seen c first last b tried) tried) where
      left_mark : Held (λ z. Seen c first last b tried z × (left_error c z ≡ 0)) (zeros_of c tried).left
      left_mark =
          mark_of (Seen c first last b tried) (λ z. left_error c z ≡ 0) (λ x z. x ≤ z) tried (zeros_of c tried).left seen (marks c tried).0

      right_mark : Held (λ z. Seen c first last b tried z × (right_error c z ≡ 0)) (zeros_of c tried).right
      right_mark =
          mark_of (Seen c first last b tried) (λ z. right_error c z ≡ 0) (λ x z. z ≤ x) tried (zeros_of c tried).right seen (marks c tried).1

      shrunk_keeps : (i : Bound) → Waiting c first last b tried i → Has k i → HitTo (Has k) (shrunk_of c (zeros_of c tried) b i)
      unfolding shrunk_of
      shrunk_keeps i w h =
          let r : RunOf first last i = w.run in
          let p : ℕ = past (zeros_of c tried).left i.first in
          let a : ℕ = start_after c b i.left p in
          by_test (HitTo (Has k)) c.small
          (λ _. end_before_keeps i i.right a (short (zeros_of c tried).right i.last) w.right h.1
          (omega (arith, past_ge (zeros_of c tried).left i.first, start_low c b i.left p))
          (start_after_keeps i i.left p w.left h.0 (past_keeps (zeros_of c tried).left i.first left_mark h.0))
          (short_keeps (zeros_of c tried).right i.last right_mark h.1))
          (λ _. within_keeps i i.first i.last h.0 h.1)

      -- ---- step 5: the parts round the tried cut m

      module _ (m : ℕ) (here-from : first ≤ m) (here-till : m ≤ last) (bad : b ≤ error_of c m) where
        upper_keeps : m < k → upper_from c (zeros_of c tried) (error_of c m - b + c.gap) m ≤ k
        unfolding upper_from
        upper_keeps h =
            let d : ℕ = error_of c m - b + c.gap in
            let v : ℕ = place_in c m + d + 1 in
            by_test (λ x. x ≤ k) (c.small && ltb 0 d)
            (λ _. first_le (at_least c.places v) c.places (past (zeros_of c tried).left (suc m)) k
            (past_keeps (zeros_of c tried).left (suc m) left_mark h)
            (le→leb v (place_in c k) (omega (arith, near_right m here-from h (omega arith)))))
            (λ _. h)

        sought_keeps : (x a e : ℕ) → place_in c k ≤ x → first ≤ a → k ≤ e → k ≤ sought_from (above c.places x) c.places a e
        sought_keeps x a e h f g =
            above_keeps x (sought_from (above c.places x) c.places a e) h
            (omega (arith, sought_low (above c.places x) c.places a e))
            (λ q. sought_at (above c.places x) c.places a e
            (omega (arith, end_past c.places a e k g (omega (arith, fair.listed)))))

        lower_keeps : (a : ℕ) → first ≤ a → a ≤ k → k < m → k ≤ lower_to c (zeros_of c tried) (error_of c m - b + c.gap) m a
        unfolding lower_to lower_near
        lower_keeps a f g h =
            let d : ℕ = error_of c m - b + c.gap in
            let x : ℕ = place_in c m - (d + 1) in
            let far : place_in c k ≤ x = omega (arith, near_left m (omega arith) here-till (omega arith)) in
            by_test (λ y. k ≤ y) c.small
            (λ _. by_ltb (λ y. k ≤ y) 0 d
            (λ _. by_ltb (λ y. k ≤ y) x (place_in c a) (λ n. absurd (omega (arith, rises a f g)))
            (λ n. sought_keeps x a (short (zeros_of c tried).right (m - 1)) far f
            (short_keeps (zeros_of c tried).right (m - 1) right_mark (omega arith))))
            (λ _. omega arith))
            (λ _. omega arith)

        part_keeps : (i : Bound) → Has k i → Any (Has k) (part i)
        unfolding part
        part_keeps i h = by_leb (Any (Has k)) i.first i.last (λ _. here h) (λ n. absurd (omega arith))

        parts_keep : (i : Bound) → first ≤ i.first → Has m i → Has k i → Any (Has k) (queued c (zeros_of c tried) b m i)
        unfolding queued parts_of
        parts_keep i f n h =
            let d : ℕ = error_of c m - b + c.gap in
            let upper : Bound = upper_part i m (upper_from c (zeros_of c tried) d m) in
            let lower : Bound = lower_part i m (lower_to c (zeros_of c tried) d m i.first) in
            by_test (Any (Has k)) (eqb i.first i.last)
            (λ e. absurd (not_tried (same k m i.first i.last h n (eqb→eq i.first i.last e))))
            (λ _. order k m
            (λ l. reach k m l (λ e. absurd (not_tried e))
            (λ l. any_right (Has k) (part upper) (part_keeps lower (h.0, lower_keeps i.first f h.0 l))))
            (λ l. any_left (Has k) (part lower) (part_keeps upper (upper_keeps l, h.1))))
          where
            same : (x y a e : ℕ) → (a ≤ x) × (x ≤ e) → (a ≤ y) × (y ≤ e) → a ≡ e → x ≡ y
            same x y a e h n l = omega arith

            not_tried : k ≡ m → ⊥
            not_tried e = omega (arith, ap (error_of c) e)

  -- ---- the run

  -- a cut that is worth a try waits
  abbrev Worthy : State → Type 0
  Worthy s = (k : ℕ) → first ≤ k → k ≤ last → error_of c k + c.gap < limit bound s.error → Any (Has k) s.queue

  worthy_try : (s : State) (i : Bound) (rest : List Bound) (j : Bound) → Kept c bound first last (dropped s (i ∷ rest)) → Worthy (dropped s (i ∷ rest))
      → shrunk_in c bound s i ≡ Some j → Inside i j → Worthy (try_cut c bound s rest j)
  unfolding try_cut
  worthy_try s i rest j h g eq n k hl hk w =
      by_test (Any (Has k)) (ltb (error_of c (middle j)) s.error && eqb (error_of c (middle j)) 0)
      (λ t. absurd (omega (
        arith,
        eqb→eq (error_of c (middle j)) 0 (and_right (ltb (error_of c (middle j)) s.error) (eqb (error_of c (middle j)) 0) t),
      )))
      (λ _. later (g k hl hk (omega arith)))
    where
      later : Any (Has k) (i ∷ rest) → Any (Has k) (rest ++ new_parts c bound s j)
      later (here x) =
          let r : RunOf first last i = h.queue.0.run in
          any_right (Has k) rest
          (parts_keep (limit bound (min (error_of c (middle j)) s.error)) k hl hk w (middle j ∷ s.tried)
          (kept_try c bound first last fair s i rest j h n).tried (middle j) (omega arith) (omega arith) (omega arith) j (omega arith)
          (omega arith, omega arith)
          (rw eq at (shrunk_keeps (limit bound s.error) k hl hk (omega arith) s.tried h.tried i h.queue.0 x)))
      later (there a) = any_left (Has k) (new_parts c bound s j) a

  worthy_drop : (s : State) (i : Bound) (rest : List Bound) → Worthy (dropped s (i ∷ rest))
      → ((k : ℕ) → first ≤ k → k ≤ last → error_of c k + c.gap < limit bound s.error → Has k i → ⊥) → Worthy (dropped s rest)
  worthy_drop s i rest g f k hl hk w = later (g k hl hk w)
    where
      later : Any (Has k) (i ∷ rest) → Any (Has k) rest
      later (here x) = absurd (f k hl hk w x)
      later (there a) = a

  worthy_on : (s : State) (q : List Bound) → Kept c bound first last (dropped s q) → Worthy (dropped s q) → Worthy (turn_on c bound s q)
  unfolding turn_on
  worthy_on s [] h g = g
  worthy_on s (i ∷ rest) h g =
      let b : ℕ = limit bound s.error in
      turn_cases Worthy c bound s i rest
      (λ t. worthy_drop s i rest g (λ k hl hk w x. no_hope b k hl hk w s.tried i h.queue.0 x t))
      (λ e. worthy_drop s i rest g (λ k hl hk w x. rw e at (shrunk_keeps b k hl hk w s.tried h.tried i h.queue.0 x)))
      (λ j e n. worthy_try s i rest j h g e n)

  worthy_turns : (n : ℕ) (s : State) → Kept c bound first last s → Worthy s → Worthy (turns c bound n s)
  unfolding turns
  worthy_turns zero s h g = g
  worthy_turns (suc n) s h g = worthy_turns n (turn c bound s) (kept_turn c bound first last fair s h) (worthy_on s s.queue h g)

none_has : (k : ℕ) → Any (Has k) [] → ⊥
none_has k = elim [ ]

pub optimal : NothingLost
unfolding column_run
optimal c bound first last error k fair met hl hk =
    let r : State = column_run c bound first last error in
    let waits : Worthy c bound first last fair met r =
    worthy_turns c bound first last fair met (2 * count first last) (start first last error) (kept_start c bound first last fair error)
    (λ k hl hk w. here (hl, hk)) in
    order (min r.error bound) (error_of c k + c.gap) (λ l. l)
    (λ l. absurd (none_has k (rw (ends c bound first last error fair).0 at (waits k hl hk l))))
