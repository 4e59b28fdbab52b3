-- The listed places are the list of all cuts exactly if they hold the column's cuts, ascending, every one of them and nothing else. Both ways place by
-- place: what is listed so far are the cuts so far. Assumes nothing.
use mathlib.Core.Path.{◌≡◌, refl, sym, ap, ◌∙◌, subst}
use Prim.Native.Nat.{ℕ, zero, suc, ◌+◌, ◌-◌, ◌≤◌, ◌<◌}
use native.Mathlib.Omega.{arith}
use native.Mathlib.Numerals.{add-one}
use mathlib.Core.Bool.{not}
use mathlib.Core.List.{List, [], ◌∷◌, ◌++◌}
use lib.ListN.{length, get_or, length-append, get_or-append}
use lib.Seq.{get_or_at}
use lib.Dec.{T, T_not, leb, leb→le}
use lib.Ieee.{lt}
use Rattle.basics.specs.Lists.{table}
use Rattle.basics.proofs.Choice.{decide, order, reach, and_left}
use Rattle.basics.proofs.Lists.{get_d_table, length_table, table_more}
use Rattle.sheet.specs.Sheet.{Sheet, value_at, is_cut, count_of, place_of, places_of}
use Rattle.sheet.specs.Sound.{Cuts}
use Rattle.sheet.specs.Check.{cuts_of}
use Rattle.sheet.proofs.Values.{cut_first}
use Rattle.sheet.proofs.CutList.{cuts_to, cuts_skip, cuts_take}

-- ---- the list of the cuts before place i

record Cutlist (s : Sheet) (c i : ℕ) (l : List ℕ) : Type 0 where
  short : length l < i
  low : (k : ℕ) → k < length l → get_or l k 0 < i
  cut : (k : ℕ) → k < length l → T (is_cut s c (get_or l k 0))
  ascend : (k : ℕ) → suc k < length l → get_or l k 0 < get_or l (suc k) 0
  every : (j : ℕ) → j < i → T (is_cut s c j) → (k : ℕ) × (k < length l) × (get_or l k 0 ≡ j)

module _ (s : Sheet) (c : ℕ) where
  first : Cutlist s c 1 []
  first =
      record {
        short = omega arith;
        low = λ k h. absurd (omega arith);
        cut = λ k h. absurd (omega arith);
        ascend = λ k h. absurd (omega arith);
        every = λ j h t. absurd (T_not (is_cut s c 0) (cut_first s c) (subst (λ x. T (is_cut s c x)) (zero_only j h) t));
      }
    where
      zero_only : (j : ℕ) → j < 1 → j ≡ 0
      zero_only j h = omega arith

  skip : (i : ℕ) (l : List ℕ) → Cutlist s c i l → T (not (is_cut s c i)) → Cutlist s c (i + 1) l
  skip i l w n =
      record {
        short = omega (arith, w.short);
        low = λ k h. omega (arith, w.low k h);
        cut = w.cut;
        ascend = w.ascend;
        every = λ j h t.
            reach j i (omega arith) (λ e. absurd (T_not (is_cut s c i) n (subst (λ x. T (is_cut s c x)) e t))) (λ g. w.every j g t);
      }

  module _ (i : ℕ) (l : List ℕ) (w : Cutlist s c i l) (t : T (is_cut s c i)) where
    grown : length (l ++ (i ∷ [])) ≡ length l + 1
    grown = length-append l (i ∷ [])

    old : (k : ℕ) → k < length l → get_or (l ++ (i ∷ [])) k 0 ≡ get_or l k 0
    old k h = get_or-append l (i ∷ []) 0 k h

    new : (k : ℕ) → k ≡ length l → get_or (l ++ (i ∷ [])) k 0 ≡ i
    new k e = get_or_at l i [] 0 k (sym e)

    take : Cutlist s c (i + 1) (l ++ (i ∷ []))
    take =
        record {
          short = omega (arith, grown, w.short);
          low = λ k h.
              reach k (length l) (omega (arith, grown)) (λ e. omega (arith, new k e)) (λ g. omega (arith, old k g, w.low k g));
          cut = λ k h.
              reach k (length l) (omega (arith, grown)) (λ e. subst (λ x. T (is_cut s c x)) (sym (new k e)) t)
              (λ g. subst (λ x. T (is_cut s c x)) (sym (old k g)) (w.cut k g));
          ascend = λ k h.
              let g : k < length l = omega (arith, grown) in
              reach (suc k) (length l) (omega arith) (λ e. omega (arith, old k g, new (suc k) e, w.low k g))
              (λ q. omega (arith, old k g, old (suc k) q, w.ascend k q));
          every = λ j h u.
              reach j i (omega arith) (λ e. (length l, omega (arith, grown), new (length l) refl ∙ sym e))
              (λ g. let v = w.every j g u in (v.0, omega (arith, grown, v.1), old v.0 v.1 ∙ v.2));
        }

  cutlist : (i : ℕ) → Cutlist s c (suc i) (cuts_to s c (suc i))
  cutlist zero = subst (λ l. Cutlist s c 1 l) (sym (cuts_skip s c 0 (cut_first s c))) first
  cutlist (suc i) =
      let w = cutlist i in
      subst (λ n. Cutlist s c n (cuts_to s c n)) (add-one (suc i))
      (decide (is_cut s c (suc i))
      (λ t. subst (λ l. Cutlist s c (suc i + 1) l) (sym (cuts_take s c (suc i) t)) (take (suc i) (cuts_to s c (suc i)) w t))
      (λ t. subst (λ l. Cutlist s c (suc i + 1) l) (sym (cuts_skip s c (suc i) t)) (skip (suc i) (cuts_to s c (suc i)) w t)))

  -- ---- from the list to the cuts

  past_first : (i : ℕ) → T (is_cut s c i) → 1 ≤ i
  unfolding is_cut
  past_first i t = leb→le 1 i (and_left (leb 1 i) (lt (value_at s c (i - 1)) (value_at s c i)) t)

  pub listed_cuts : 1 ≤ s.rows → places_of s c ≡ cuts_of s c → Cuts s c
  unfolding places_of cuts_of
  listed_cuts h e =
      let l : List ℕ = cuts_to s c s.rows in
      let w : Cutlist s c s.rows l = at_rows s.rows h in
      let n : count_of s c ≡ length l = sym (length_table (place_of s c) (count_of s c)) ∙ ap length e in
      let at : (k : ℕ) → k < count_of s c → place_of s c k ≡ get_or l k 0 =
      λ k g. sym (get_d_table (place_of s c) (count_of s c) k 0 g) ∙ ap (λ (xs : List ℕ). get_or xs k 0) e in
      let cut : (k : ℕ) → k < count_of s c → T (is_cut s c (place_of s c k)) =
      λ k g. subst (λ x. T (is_cut s c x)) (sym (at k g)) (w.cut k (omega (arith, n))) in
      record {
        count_most = omega (arith, n, w.short);
        place_low = λ k g. past_first (place_of s c k) (cut k g);
        place_high = λ k g. omega (arith, at k g, w.low k (omega (arith, n)));
        ascend = λ k g. omega (arith, at k (omega arith), at (suc k) g, w.ascend k (omega (arith, n)));
        cut = cut;
        every = λ i g t. let v = w.every i g t in (v.0, omega (arith, n, v.1), at v.0 (omega (arith, n, v.1)) ∙ v.2);
      }
    where
      at_rows : (n : ℕ) → 1 ≤ n → Cutlist s c n (cuts_to s c n)
      at_rows zero h = absurd (omega arith)
      at_rows (suc n) h = cutlist n

  -- ---- and back

  module _ (w : Cuts s c) where
    further : (k d : ℕ) → k + suc d < count_of s c → place_of s c k < place_of s c (k + suc d)
    further k zero h = subst (λ n. place_of s c k < place_of s c n) (sym (add-one k)) (w.ascend k (omega arith))
    further k (suc d) h =
        subst (λ n. place_of s c k < place_of s c n) (next k d)
        (omega (arith, further k d (omega arith), w.ascend (k + suc d) (omega arith)))
      where
        next : (k d : ℕ) → suc (k + suc d) ≡ k + suc (suc d)
        next k d = omega arith

    pub rising : (k j : ℕ) → k < j → j < count_of s c → place_of s c k < place_of s c j
    rising k j h g =
        let d : ℕ = j - suc k in
        let e : k + suc d ≡ j = omega arith in
        subst (λ n. place_of s c k < place_of s c n) e (further k d (omega arith))

    record Reached (i found : ℕ) : Type 0 where
      most : found ≤ count_of s c
      alike : table (place_of s c) found ≡ cuts_to s c i
      behind : (k : ℕ) → k < found → place_of s c k < i
      ahead : (k : ℕ) → found ≤ k → k < count_of s c → i ≤ place_of s c k

    onward : (i : ℕ) → i < s.rows → (found : ℕ) → Reached i found → (next : ℕ) × Reached (i + 1) next
    onward i h found r =
        decide (is_cut s c i)
        (λ t.
        let v = w.every i h t in
        let low : found ≤ v.0 = order found v.0 (λ l. l) (λ g. absurd (omega (arith, r.behind v.0 g, v.2))) in
        let e : found ≡ v.0 =
        reach found v.0 low (λ e. e)
        (λ g. absurd (omega (arith, r.ahead found (omega arith) (omega (arith, v.1)), rising found v.0 g v.1, v.2))) in
        let p : place_of s c found ≡ i = ap (λ (n : ℕ). place_of s c n) e ∙ v.2 in (
          found + 1,
          record {
            most = omega (arith, e, v.1);
            alike =
                table_more (place_of s c) found
                ∙ ap (λ l. l ++ (place_of s c found ∷ [])) r.alike
                ∙ ap (λ (n : ℕ). cuts_to s c i ++ (n ∷ [])) p
                ∙ sym (cuts_take s c i t);
            behind = λ k g.
                reach k found (omega arith) (λ q. omega (arith, ap (λ (n : ℕ). place_of s c n) q, p)) (λ l. omega (arith, r.behind k l));
            ahead = λ k g l. omega (arith, rising found k (omega arith) l, p);
          },
        ))
        (λ t. (
          found,
          record {
            most = r.most;
            alike = r.alike ∙ sym (cuts_skip s c i t);
            behind = λ k g. omega (arith, r.behind k g);
            ahead = λ k g l.
                reach i (place_of s c k) (r.ahead k g l)
                (λ e. absurd (T_not (is_cut s c i) t (subst (λ x. T (is_cut s c x)) (sym e) (w.cut k l))))
                (λ q. omega arith);
          },
        ))

    reached : (i : ℕ) → i ≤ s.rows → (found : ℕ) × Reached i found
    reached zero h = (
      0,
      record { most = omega arith; alike = refl; behind = λ k g. absurd (omega arith); ahead = λ k g l. omega arith },
    )
    reached (suc i) h =
        let r = reached i (omega arith) in
        let v = onward i (omega arith) r.0 r.1 in
        (v.0, subst (λ n. Reached n v.0) (add-one i) v.1)

    pub cuts_listed : places_of s c ≡ cuts_of s c
    unfolding places_of cuts_of
    cuts_listed =
        let r = reached s.rows (omega arith) in
        let e : r.0 ≡ count_of s c =
        reach r.0 (count_of s c) r.1.most (λ e. e)
        (λ g. absurd (omega (arith, r.1.ahead r.0 (omega arith) g, w.place_high r.0 g))) in
        ap (λ (n : ℕ). table (place_of s c) n) (sym e) ∙ r.1.alike
