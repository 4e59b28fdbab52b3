-- A root question at any threshold that leaves rows on both sides parts the rows as a cut of its column does: a sorted column parts at one place, where the
-- value rises, and that is a cut. Its mistakes are its two sides'. Assumes nothing.
use mathlib.Core.Path.{◌≡◌, sym, ap, ◌∙◌, subst}
use Prim.Native.Nat.{ℕ, zero, suc, ◌+◌, ◌-◌, ◌≤◌, ◌<◌}
use native.Mathlib.Omega.{arith}
use mathlib.Core.Bool.{Bool, true, false, not, ◌&&◌}
use mathlib.Core.List.{List, [], ◌∷◌}
use lib.ListN.{length, get_or}
use lib.Dec.{T, not_T, leb, ltb, eqb, leb→le, le→leb}
use lib.Ieee.{Float}
use Rattle.basics.specs.Choice.{pick, bit}
use Rattle.basics.specs.Lists.{tally}
use Rattle.basics.proofs.Choice.{order, bit_true, bit_le}
use Rattle.basics.proofs.Lists.{all_at, all_map, table_place, tally_none, tally_parts, get_d_table, length_table}
use Rattle.threshold.specs.Order.{key, comparable}
use Rattle.sheet.specs.Sheet.{Sheet, label_of, row_at, value_at, count_of, place_of, every_row, order_of}
use Rattle.sheet.specs.Sound.{Sound}
use Rattle.sheet.specs.Rows.{sent_left, rows_at}
use Rattle.tree.specs.declared.Question.{Question}
use Rattle.tree.specs.declared.Side.{Side}
use Rattle.leaves_score.specs.Column.{other}
use Rattle.leaves_score.specs.Root.{cut_question, sides_at, errors_at}
use Rattle.side_laws.specs.Opt.{answer, mistakes}
use Rattle.side_laws.specs.Root.{SameRows, AnyRoot, root_mistakes, CutMistakes, RootLeast, OneSide}
use Rattle.side_laws.proofs.Tallies.{rows_alike}
use Rattle.side_laws.proofs.Fair.{key_of, Sorted, sorted, goes}
use Rattle.side_laws.proofs.Mistakes.{mistaken}
use Rattle.side_laws.proofs.Cuts.{rise_cut, parts_at, others_at, at_cuts}
use Rattle.side_laws.proofs.Metric.{left_opt, right_opt}

-- ---- a sorted list parts at a key

none_up_to : (f : ℕ → ℕ) (t x : ℕ) (xs : List ℕ) → Sorted f (x ∷ xs) → t < f x → tally (λ r. leb (f r) t) (x ∷ xs) ≡ 0
none_up_to f t x xs h g =
    tally_none (λ r. leb (f r) t) (x ∷ xs)
    (no x g, all_map (λ y. f x ≤ f y) (λ y. T (not (leb (f y) t))) (λ y l. no y (omega arith)) xs h.0)
  where
    no : (y : ℕ) → t < f y → T (not (leb (f y) t))
    no y l = not_T (leb (f y) t) (λ b. absurd (omega (arith, leb→le (f y) t b)))

-- as many members as are up to the key come first ..
till : (f : ℕ → ℕ) (t : ℕ) (xs : List ℕ) (i : ℕ) → Sorted f xs → i < tally (λ r. leb (f r) t) xs → f (get_or xs i 0) ≤ t
till f t [] i h k = absurd (omega arith)
till f t (x ∷ xs) zero h k = order (f x) t (λ l. l) (λ l. absurd (omega (arith, none_up_to f t x xs h l)))
till f t (x ∷ xs) (suc i) h k = till f t xs i h.1 (omega (arith, bit_le (leb (f x) t)))

-- .. and the others are past it
past : (f : ℕ → ℕ) (t : ℕ) (xs : List ℕ) (i : ℕ) → Sorted f xs → tally (λ r. leb (f r) t) xs ≤ i → i < length xs → t < f (get_or xs i 0)
past f t [] i h k g = absurd (omega arith)
past f t (x ∷ xs) zero h k g = order (f x) t (λ l. absurd (omega (arith, bit_true (leb (f x) t) (le→leb (f x) t l)))) (λ l. l)
past f t (x ∷ xs) (suc i) h k g =
    order (f x) t
    (λ l. past f t xs i h.1 (omega (arith, bit_true (leb (f x) t) (le→leb (f x) t l))) (omega arith))
    (λ l. omega (arith, all_at (λ y. f x ≤ f y) xs i h.0 (omega arith)))

-- ---- every row has a place

module _ (s : Sheet) (sound : Sound s) (c : ℕ) (here : c < s.columns) where
  pub place_of_lem : (r : ℕ) → r < s.rows → (i : ℕ) × (i < s.rows) × (row_at s c i ≡ r)
  unfolding order_of
  place_of_lem = table_place (row_at s c) s.rows (sound.column c here).each_once

-- ---- any root question

module _ (s : Sheet) (sound : Sound s) (q : Question) (here : q.column < s.columns) (comp : T (comparable q.threshold))
    (some : 1 ≤ rows_at s (sent_left s q)) (others : 1 ≤ rows_at s (other (sent_left s q))) where
  abbrev c : ℕ
  c = q.column

  abbrev t : Float
  t = q.threshold

  abbrev count : ℕ
  count = rows_at s (sent_left s q)

  count_is : tally (λ r. leb (key_of s c r) (key t)) (order_of s c) ≡ count
  count_is =
      (sound.column c here).each_once (λ r. leb (key_of s c r) (key t))
      ∙ unfold rows_at sent_left in rows_alike s (λ r. leb (key_of s c r) (key t)) (sent_left s q) (λ r h. ap bit (sym (goes s sound c here t comp r h)))

  row_is : (i : ℕ) → i < s.rows → key_of s c (get_or (order_of s c) i 0) ≡ key (value_at s c i)
  row_is i h = unfold order_of value_at in ap (key_of s c) (get_d_table (row_at s c) s.rows i 0 h)

  order_long : length (order_of s c) ≡ s.rows
  order_long = unfold order_of in length_table (row_at s c) s.rows

  inside : count < s.rows
  inside = omega (arith, others_at s q)

  from : (i : ℕ) → i < count → key (value_at s c i) ≤ key t
  from i h = omega (arith, row_is i (omega (arith, inside)), till (key_of s c) (key t) (order_of s c) i (sorted s sound c here) (omega (arith, count_is)))

  upon : (i : ℕ) → count ≤ i → i < s.rows → key t < key (value_at s c i)
  upon i h k = omega (arith, row_is i k, past (key_of s c) (key t) (order_of s c) i (sorted s sound c here) (omega (arith, count_is)) (omega (arith, order_long)))

  cut : (k : ℕ) × (k < count_of s c) × (place_of s c k ≡ suc (count - 1))
  cut =
      rise_cut s sound c here (count - 1) (omega (arith, inside))
      (omega (arith, from (count - 1) (omega arith), upon (suc (count - 1)) (omega arith) (omega (arith, inside))))

  pub as_cut : (k : ℕ) × (k < count_of s c) × SameRows s q (cut_question s c k)
  as_cut = (cut.0, cut.1, same)
    where
      place_is : place_of s c cut.0 ≡ count
      place_is = omega (arith, cut.2)

      same : SameRows s q (cut_question s c cut.0)
      same r h =
          let z = place_of_lem s sound c here r h in
          subst (λ (x : ℕ). sent_left s q x ≡ sent_left s (cut_question s c cut.0) x) z.2
          (parts_at s sound q here comp count (omega (arith, inside)) from upon z.0 z.1
          ∙ ap (λ (p : ℕ). ltb z.0 p) (sym place_is) ∙ sym ((at_cuts s sound c cut.0 here cut.1).parts z.0 z.1))

pub any_root : AnyRoot
any_root s sound q here comp some others = as_cut s sound q here comp some others

-- ---- mistakes

root_bit : (m : Bool) (l a b : ℕ) → bit (not (eqb l (pick m a b))) ≡ bit (m && not (eqb l a)) + bit (not m && not (eqb l b))
unfolding pick
root_bit true l a b = omega arith
root_bit false l a b = omega arith

pub root_parts : (s : Sheet) (q : Question) (l r : Side) → root_mistakes s q l r ≡ mistakes s (sent_left s q) l + mistakes s (other (sent_left s q)) r
unfolding root_mistakes mistakes
root_parts s q l r =
    tally_parts (λ x. sent_left s q x && not (eqb (label_of s x) (answer s l x))) (λ x. not (sent_left s q x) && not (eqb (label_of s x) (answer s r x)))
    (λ x. not (eqb (label_of s x) (pick (sent_left s q x) (answer s l x) (answer s r x))))
    (λ x. root_bit (sent_left s q x) (label_of s x) (answer s l x) (answer s r x)) (every_row s)

pub cut_mistakes : CutMistakes
unfolding errors_at sides_at
cut_mistakes s sound support c k =
    let m = mistaken s sound support (sent_left s (cut_question s c k)) in
    omega (
      arith,
      root_parts s (cut_question s c k) (sides_at s support c k).left (sides_at s support c k).right,
      m.left,
      m.right,
    )

-- the same rows, the same mistakes
same_mistakes : (s : Sheet) (few more : ℕ → Bool) (x : Side) → ((r : ℕ) → r < s.rows → few r ≡ more r) → mistakes s few x ≡ mistakes s more x
unfolding mistakes
same_mistakes s few more x h =
    rows_alike s (λ r. few r && not (eqb (label_of s r) (answer s x r))) (λ r. more r && not (eqb (label_of s r) (answer s x r)))
    (λ r k. ap (λ (b : Bool). bit (b && not (eqb (label_of s r) (answer s x r)))) (h r k))

pub root_least : RootLeast
root_least s sound support small q here comp some others l r pl pr =
    let z = any_root s sound q here comp some others in
    let p : Question = cut_question s q.column z.0 in (
      z.0,
      z.1,
      omega (
        arith,
        root_parts s q l r,
        same_mistakes s (sent_left s q) (sent_left s p) l z.2,
        same_mistakes s (other (sent_left s q)) (other (sent_left s p)) r (λ x h. ap not (z.2 x h)),
        (left_opt s sound support small q.column here z.0).least l pl,
        (right_opt s sound support small q.column here z.0).least r pr,
      ),
    )

both_bits : (m w : Bool) → bit w ≡ bit (m && w) + bit (not m && w)
both_bits true w = omega arith
both_bits false w = omega arith

pub one_side : OneSide
unfolding mistakes
one_side s sound support small c here k x h =
    let m : ℕ → Bool = sent_left s (cut_question s c k) in
    omega (
      arith,
      (left_opt s sound support small c here k).least x h,
      (right_opt s sound support small c here k).least x h,
      tally_parts (λ r. m r && not (eqb (label_of s r) (answer s x r))) (λ r. not (m r) && not (eqb (label_of s r) (answer s x r)))
          (λ r. not (eqb (label_of s r) (answer s x r))) (λ r. both_bits (m r) (not (eqb (label_of s r) (answer s x r)))) (every_row s),
    )
