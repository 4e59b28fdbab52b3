-- With support at most 1 a side's error is the least mistakes of a leaf or one question on its rows. A question parts the side's rows as one of its cuts
-- does, or leaves a part empty and is no better than a leaf; and no cut has a greater total than the first best. Assumes nothing.
use mathlib.Core.Path.{◌≡◌, refl, sym, ap, subst}
use Prim.Native.Nat.{ℕ, zero, suc, ◌+◌, ◌≤◌, ◌<◌}
use native.Mathlib.Omega.{arith}
use mathlib.Core.Bool.{Bool, not}
use mathlib.Core.List.{List, [], ◌∷◌}
use lib.ListN.{get_or}
use lib.Ieee.{Float, eq}
use Rattle.std.specs.Prelude.{Option, Some, None}
use lib.Dec.{T, eqb, eqb→eq}
use Rattle.basics.specs.Lists.{All, those}
use Rattle.basics.proofs.Choice.{by_test, order, reach}
use Rattle.basics.proofs.Lists.{all_map}
use Rattle.threshold.specs.Order.{key}
use Rattle.sheet.specs.Sheet.{Sheet, value_of, label_of, order_of}
use Rattle.sheet.specs.Sound.{Sound}
use Rattle.sheet.specs.Rows.{rows_at}
use Rattle.tree.specs.Answer.{side_error}
use Rattle.tree.specs.declared.Side.{Side}
use Rattle.tree.specs.declared.Side.TheVariants.{Leaf, Split}
use Rattle.side_scan.specs.declared.SideScan.{SideScan}
use Rattle.side_scan.specs.declared.cut_score.Best.{Best}
use Rattle.side_scan.specs.Scored.{fallen}
use Rattle.side_scan.specs.Counts.{peaks_of}
use Rattle.side_scan.specs.OneSide.{restarted, counted_of, later, left_best, right_best, total_of, split_at, count_row, only_counted}
use Rattle.leaves_score.specs.Column.{other, own_of, side_at_start}
use Rattle.leaves_score.specs.Kept.{Owns, Fits}
use Rattle.side_scan.proofs.Commonest.{most}
use Rattle.leaves_score.proofs.Counts.{fits_step, later_is}
use Rattle.leaves_score.proofs.Live.{own_at_lem, owns_start, owns_cleared, start_fits}
use Rattle.side_laws.specs.Alone.{column_alone, columns_alone, alone, side_alone}
use Rattle.side_laws.specs.First.{starts, better, first_best}
use Rattle.side_laws.specs.Opt.{mistakes, Proper, Opt, SideOptimal}
use Rattle.side_laws.proofs.Tests.{not_not→}
use Rattle.side_laws.proofs.Decouple.{owns_column, decouples}
use Rattle.side_laws.proofs.Tallies.{tally_not}
use Rattle.side_laws.proofs.Fair.{key_of, alike}
use Rattle.side_laws.proofs.Past.{sent, kept, Between, Known, Past, past_step, past_cleared, left_tally, right_tally}
use Rattle.side_laws.proofs.Told.{part_wrong, leaf_count}
use Rattle.side_laws.proofs.Sides.{left_wrong_is, right_wrong_is, wrong_rows, alone_told, errors_add_up}
use Rattle.side_laws.proofs.Best.{split_score, better_mine, better_other, first_ge}
use Rattle.side_laws.proofs.First.{cuts, cuts_none, cuts_step}
use Rattle.side_laws.proofs.Mistakes.{leaf_mistakes, split_mistakes, told_mistakes, told_proper}
use Rattle.side_laws.proofs.Columns.{column_first, column_ge, columns_ge, start_score}

-- the mistakes of a question at a key
abbrev asked : Sheet → (ℕ → Bool) → ℕ → ℕ → ℕ → ℕ → ℕ
asked s mine c k a b = part_wrong s mine (sent s c k) a + part_wrong s mine (kept s c k) b

-- ---- one question

module _ (s : Sheet) (sound : Sound s) (support : ℕ) (mine : ℕ → Bool) where
  -- every label's rows are at most the leaf's score
  leaf_most : (t : SideScan) → Owns s support mine t → (l : ℕ) → l < s.labels → get_or t.own l 0 ≤ leaf_count s mine
  leaf_most t o l h =
      omega (arith, ap (λ (xs : List ℕ). get_or xs l 0) o.own_is, most (λ l. get_or (own_of s mine) l 0) s.labels l h)

  module _ (c k a b : ℕ) (here : c < s.columns) (ha : a < s.labels) (hb : b < s.labels) (b0 : Best) where
    -- the previous value, if there is one, is not past the key
    abbrev Till : Option Float → Type 0
    Till None = Unit {0}
    Till (Some p) = key p ≤ k

    all_till : (done rest : List ℕ) (p : Option Float) → Between s c done rest p → Till p → All (λ r. key_of s c r ≤ k) done
    all_till done rest None h g = all_map (λ r. ⊥) (λ r. key_of s c r ≤ k) (λ r y. absurd y) done h
    all_till done rest (Some p) h g = all_map (λ r. key_of s c r ≤ key p) (λ r. key_of s c r ≤ k) (λ r y. omega arith) done h.0

    module _ (done rest : List ℕ) (t : SideScan) (past : Past s mine c done rest t) (fits : Fits s rest t) (owns : Owns s support mine t) where
      a_in : a < t.labels
      a_in = omega (arith, owns.labels_is)

      b_in : b < t.labels
      b_in = omega (arith, owns.labels_is)

      -- what the question gets right is what the cut at hand has of the two labels
      at_cut : All (λ r. key_of s c r ≤ k) done → All (λ r. k < key_of s c r) rest → counted_of t a + later t b + asked s mine c k a b ≡ rows_at s mine
      at_cut low high =
          omega (
            arith,
            left_tally s mine c k done rest past.parts low high (λ r. not (eqb (label_of s r) a)),
            right_tally s mine c k done rest past.parts low high (λ r. not (eqb (label_of s r) b)),
            tally_not (λ r. eqb (label_of s r) a) done,
            tally_not (λ r. eqb (label_of s r) b) rest,
            past.befores a ha,
            past.rows,
            later_is s rest t fits b b_in,
            fits.rows,
            owns.size_is,
          )

      left_best_lem : counted_of t a ≤ left_best t
      unfolding peaks_of
      left_best_lem = most (counted_of t) t.labels a a_in

      right_best_lem : later t b ≤ right_best t
      unfolding peaks_of
      right_best_lem = most (later t) t.labels b b_in

      at_total : All (λ r. key_of s c r ≤ k) done → All (λ r. k < key_of s c r) rest → rows_at s mine ≤ asked s mine c k a b + total_of t
      at_total low high = omega (arith, at_cut low high, left_best_lem, right_best_lem)

    -- no row before, or none to come: the question is as good as a leaf
    at_start : (rest : List ℕ) (t : SideScan) → Past s mine c [] rest t → Fits s rest t → Owns s support mine t → All (λ r. k < key_of s c r) rest
        → rows_at s mine ≤ asked s mine c k a b + leaf_count s mine
    at_start rest t past fits owns high =
        omega (
          arith,
          at_cut [] rest t past fits owns tt high,
          past.befores a ha,
          later_is s rest t fits b (b_in [] rest t past fits owns),
          fits.sums b (b_in [] rest t past fits owns),
          leaf_most t owns b hb,
        )

    at_end : (done : List ℕ) (t : SideScan) → Past s mine c done [] t → Fits s [] t → Owns s support mine t → All (λ r. key_of s c r ≤ k) done
        → rows_at s mine ≤ asked s mine c k a b + leaf_count s mine
    at_end done t past fits owns low =
        omega (
          arith,
          at_cut done [] t past fits owns low tt,
          later_is s [] t fits b (b_in done [] t past fits owns),
          fits.sums a (a_in done [] t past fits owns),
          leaf_most t owns a ha,
        )

    empty : (done : List ℕ) → All (λ r. ⊥) done → done ≡ []
    empty [] h = refl
    empty (r ∷ rs) h = absurd h.0

    -- the first row past the key has no cut before it: it is the first row
    no_cut : (p : Option Float) (r : ℕ) → r < s.rows → Known s c p → Till p → k < key_of s c r → T (not (starts p (value_of s c r))) → p ≡ None
    no_cut None r i w h l n = refl
    no_cut (Some p) r i w h l n =
        absurd (omega (
          arith,
          ap key w.2,
          eqb→eq (key_of s c w.0) (key_of s c r) (subst T (alike s sound c here w.0 r w.1 i) (subst (λ (v : Float). T (eq v (value_of s c r))) w.2 (not_not→ (eq p (value_of s c r)) n))),
        ))

    -- the question gets no more right than the first best
    pub question_low : (rs done : List ℕ) (t : SideScan) (w : Best) → Past s mine c done rs t → Fits s rs t → Owns s support mine t → Till t.previous
        → leaf_count s mine ≤ w.score → rows_at s mine ≤ asked s mine c k a b + (first_best w (cuts s c b0 t rs)).score
    unfolding first_best
    question_low [] done t w past fits owns till g =
        rw (cuts_none s c b0 t) (omega (arith, at_end done t past fits owns (all_till done [] t.previous past.between till)))
    question_low (r ∷ rs) done t w past fits owns till g =
        rw (cuts_step s c b0 r rs t)
        (order (key_of s c r) k
        (λ l. by_test (λ z. rows_at s mine ≤ asked s mine c k a b + (first_best w z).score) (starts t.previous (value_of s c r))
        (λ _. question_low rs (r ∷ done) next (better w (split_at t c (value_of s c r))) next_past next_fits next_owns (next_till l)
        (omega (arith, better_mine w (split_at t c (value_of s c r)))))
        (λ _. question_low rs (r ∷ done) next w next_past next_fits next_owns (next_till l) g))
        (λ l. by_test (λ z. rows_at s mine ≤ asked s mine c k a b + (first_best w z).score) (starts t.previous (value_of s c r))
        (λ _. omega (
          arith,
          at_total done (r ∷ rs) t past fits owns low (high l),
          better_other w (split_at t c (value_of s c r)),
          split_score t c (value_of s c r),
          first_ge (better w (split_at t c (value_of s c r))) (cuts s c b0 next rs),
        ))
        (λ n. omega (
          arith,
          first_ge w (cuts s c b0 next rs),
          start (high l) (no_cut t.previous r past.within.0 past.known till l n),
        ))))
      where
        next : SideScan
        next = only_counted t (label_of s r) (value_of s c r)

        next_past : Past s mine c (r ∷ done) rs next
        next_past =
            unfold only_counted count_row in
            past_step s mine c sound.limited.labels_most done rs t.seen t.counted r t.previous fits.long past

        next_fits : Fits s rs next
        next_fits = unfold only_counted in fits_step s r rs t fits t.best (fallen t.skip) t.closed (value_of s c r)

        next_owns : Owns s support mine next
        next_owns = unfold only_counted count_row in owns

        next_till : key_of s c r ≤ k → Till next.previous
        next_till l = unfold only_counted count_row in l

        low : All (λ x. key_of s c x ≤ k) done
        low = all_till done (r ∷ rs) t.previous past.between till

        high : k < key_of s c r → All (λ x. k < key_of s c x) (r ∷ rs)
        high l = (l, all_map (λ x. key_of s c r ≤ key_of s c x) (λ x. k < key_of s c x) (λ x i. omega arith) rs past.ascending.0)

        start : All (λ x. k < key_of s c x) (r ∷ rs) → t.previous ≡ None → rows_at s mine ≤ asked s mine c k a b + leaf_count s mine
        start h q =
            at_start (r ∷ rs) t
            (subst (λ (d : List ℕ). Past s mine c d (r ∷ rs) t) (empty done (subst (λ (p : Option Float). Between s c done (r ∷ rs) p) q past.between)) past) fits owns h

-- ---- all columns

module _ (s : Sheet) (sound : Sound s) (support : ℕ) (small : support ≤ 1) (mine : ℕ → Bool) where
  column_low : (c k a b : ℕ) (t : SideScan) → c < s.columns → a < s.labels → b < s.labels → Owns s support mine t → leaf_count s mine ≤ t.best.score
      → rows_at s mine ≤ asked s mine c k a b + (column_alone s mine c t).best.score
  column_low c k a b t h ha hb o g =
      rw (column_first s sound support small mine c t h o g)
      (question_low s sound support mine c k a b h ha hb (side_at_start s support mine).best (those mine (order_of s c)) [] (restarted t) t.best
      (past_cleared s sound mine c h t) (start_fits s sound support mine t o c h) (owns_cleared s support mine t o) (unfold restarted in tt) g)

  columns_low : (n d c k a b : ℕ) (t : SideScan) → d + n ≤ s.columns → d ≤ c → c < d + n → a < s.labels → b < s.labels → Owns s support mine t
      → leaf_count s mine ≤ t.best.score → rows_at s mine ≤ asked s mine c k a b + (columns_alone s mine n d t).best.score
  unfolding columns_alone
  columns_low zero d c k a b t h hd hc ha hb o g = absurd (omega arith)
  columns_low (suc n) d c k a b t h hd hc ha hb o g =
      let v : SideScan = column_alone s mine d t in
      let p : Owns s support mine v = owns_column s sound support mine d t o in
      let i : t.best.score ≤ v.best.score = column_ge s sound support small mine d t (omega arith) o g in
      reach d c hd
      (λ e. omega (arith, columns_ge s sound support small mine n (suc d) v (omega arith) p (omega arith), first e))
      (λ l. columns_low n (suc d) c k a b v (omega arith) l (omega arith) ha hb p (omega arith))
    where
      first : d ≡ c → rows_at s mine ≤ asked s mine c k a b + (column_alone s mine d t).best.score
      first e =
          subst (λ (x : ℕ). rows_at s mine ≤ asked s mine x k a b + (column_alone s mine d t).best.score) e (column_low d k a b t (omega arith) ha hb o g)

  -- no leaf and no question gets more right
  side_best : (x : Side) → Proper s x → rows_at s mine ≤ mistakes s mine x + (alone s support mine).best.score
  unfolding alone
  side_best (Leaf leaf) h =
      let l : ℕ = leaf.label in
      omega (
        arith,
        leaf_mistakes s mine leaf,
        wrong_rows s mine l,
        own_at_lem s support mine (side_at_start s support mine) (owns_start s support mine) l (omega (arith, sound.limited.labels_most)),
        leaf_most s sound support mine (side_at_start s support mine) (owns_start s support mine) l h,
        start_score s sound support small mine,
        columns_ge s sound support small mine s.columns 0 (side_at_start s support mine) (omega arith) (owns_start s support mine)
            (omega (arith, start_score s sound support small mine)),
      )
  side_best (Split q a b) h =
      omega (
        arith,
        split_mistakes s mine q a b,
        left_wrong_is s sound mine q h.0 h.3 a.label,
        right_wrong_is s sound mine q h.0 h.3 b.label,
        columns_low s.columns 0 q.column (key q.threshold) a.label b.label (side_at_start s support mine) (omega arith) (omega arith) (omega (arith, h.0)) h.1 h.2 (owns_start s support mine)
            (omega (arith, start_score s sound support small mine)),
      )

  -- the error of the side by itself is opt of its rows
  pub alone_opt : Opt s mine (side_error (side_alone s support mine))
  alone_opt =
      record {
        best = side_alone s support mine;
        proper = told_proper s mine support (side_alone s support mine) (alone_told s sound support mine);
        reached = told_mistakes s mine support (side_alone s support mine) (alone_told s sound support mine);
        least = λ x h. omega (arith, side_best x h, errors_add_up s sound support mine);
      }

pub optimal : SideOptimal
optimal s sound support small mark =
    let d = decouples s sound support mark in
    record {
      left = subst (λ (x : Side). Opt s mark (side_error x)) (sym d.left) (alone_opt s sound support small mark);
      right = subst (λ (x : Side). Opt s (other mark) (side_error x)) (sym d.right) (alone_opt s sound support small (other mark));
    }
