-- The scan of the columns, one by one: what the loop keeps, that each column finds what it goes by, and what the loop has when it ends. Assumes nothing.
use Prim.Native.Nat.{ℕ, zero, suc, ◌+◌, ◌-◌, ◌*◌, ◌≤◌, ◌<◌}
use native.Mathlib.Omega.{arith}
use native.Mathlib.Numerals.{add-one}
use mathlib.Core.Path.{◌≡◌, refl, sym, ap, ap₂, subst, ◌∙◌}
use mathlib.Core.Bool.{Bool, true, false, not, ◌&&◌}
use mathlib.Core.List.{List}
use lib.ListN.{length, get_or}
use lib.Dec.{T, eqb}
use Rattle.basics.specs.Choice.{pick}
use Rattle.basics.specs.Lists.{tally}
use Rattle.basics.proofs.Choice.{by_test, bit_and, pick_true, pick_false}
use Rattle.basics.proofs.Lists.{tally_le, tally_mono, get_d_table, length_table}
use Rattle.sheet.specs.Limits.{most_labels}
use Rattle.sheet.specs.Sheet.{Sheet, value_of, label_of, row_at, every_row}
use Rattle.sheet.specs.Rows.{rows_at}
use Rattle.sheet.proofs.Index.{column_in}
use Rattle.side_scan.specs.declared.SideScan.{SideScan}
use Rattle.side_scan.specs.OneSide.{restarted}
use Rattle.leaves_score.specs.Column.{Two, other, labelled, own_of, row_step, step_both, ended, scan_rows, scan_column}
use Rattle.leaves_score.specs.Scan.{perfect, scan_columns, start_both, scanned}
use Rattle.leaves_score.specs.Kept.{Owns}
use Rattle.side_scan.specs.Step.{SideSized}
use Rattle.leaves_score.specs.SideLists.{ReadyColumn}
use Rattle.leaves_score.specs.Lists.{Scannable, go_left}
use Rattle.leaves_score.proofs.Live.{left_is, right_is, owns_step, owns_cleared, owns_start, rows_order, begin_live}

-- ---- both sides keep their own numbers

module _ (s : Sheet) (support : ℕ) (mark : ℕ → Bool) where
  pub record Both (b : Two) : Type 0 where
    pub left : Owns s support mark b.left
    pub right : Owns s support (other mark) b.right

  one_side : (mine : ℕ → Bool) (c r : ℕ) (t : SideScan) (m : Bool) → Owns s support mine t → Owns s support mine (pick m (row_step s c r t) t)
  one_side mine c r t m h = by_test (Owns s support mine) m (λ _. owns_step s support mine t c (label_of s r) (value_of s c r) h) (λ _. h)

  both_step : (c r : ℕ) (b : Two) → Both b → Both (step_both s mark c r b)
  both_step c r b h =
      record {
        left = subst (Owns s support mark) (sym (left_is s mark c r b)) (one_side mark c r b.left (mark r) h.left);
        right = subst (Owns s support (other mark)) (sym (right_is s mark c r b)) (one_side (other mark) c r b.right (other mark r) h.right);
      }

  both_rows : (c n i : ℕ) (b : Two) → Both b → Both (scan_rows s mark c n i b)
  unfolding scan_rows
  both_rows c zero i b h = h
  both_rows c (suc n) i b h =
      let next : Two = step_both s mark c (row_at s c i) b in
      let g : Both next = both_step c (row_at s c i) b h in
      by_test Both (ended next) (λ _. g) (λ _. both_rows c n (suc i) next g)

  pub both_column : (c : ℕ) (b : Two) → Both b → Both (scan_column s mark c b)
  unfolding scan_column
  both_column c b h =
      both_rows c s.rows 0 (record { left = restarted b.left; right = restarted b.right })
      (record { left = owns_cleared s support mark b.left h.left; right = owns_cleared s support (other mark) b.right h.right })

  both_columns : (n c : ℕ) (b : Two) → Both b → Both (scan_columns s mark n c b)
  unfolding scan_columns
  both_columns zero c b h = h
  both_columns (suc n) c b h =
      let next : Two = scan_column s mark c b in
      let g : Both next = both_column c b h in
      by_test Both (perfect next) (λ _. g) (λ _. both_columns n (suc c) next g)

  pub both_start : Both (start_both s support mark)
  unfolding start_both
  both_start = record { left = owns_start s support mark; right = owns_start s support (other mark) }

  pub both_scanned : Both (scanned s support mark)
  unfolding scanned
  both_scanned = both_columns s.columns 0 (start_both s support mark) both_start

-- ---- what follows from a side's own numbers

module _ (s : Sheet) (support : ℕ) (mine : ℕ → Bool) (t : SideScan) (h : Owns s support mine t) where
  size_in : t.size ≤ s.rows
  unfolding rows_at
  size_in = omega (arith, h.size_is, tally_le mine (every_row s), length_table (λ (r : ℕ). r) s.rows)

  own_at_lem : (l : ℕ) → l < most_labels → get_or t.own l 0 ≡ tally (λ r. mine r && eqb (label_of s r) l) (every_row s)
  own_at_lem l k =
      ap (λ (xs : List ℕ). get_or xs l 0) h.own_is
      ∙ unfold own_of labelled in get_d_table (λ l. tally (λ r. mine r && eqb (label_of s r) l) (every_row s)) most_labels l 0 k

  pub sized : 1 ≤ s.labels → s.labels ≤ most_labels → SideSized t
  unfolding rows_at
  sized some most =
      record {
        some = rw h.labels_is some;
        few = rw h.labels_is most;
        own = λ l k. omega (
          arith,
          own_at_lem l (omega (arith, h.labels_is, most)),
          h.size_is,
          tally_mono (λ r. mine r && eqb (label_of s r) l) mine (λ r. bit_and (mine r) (eqb (label_of s r) l)) (every_row s),
        );
      }

-- ---- the loop

place_in : (c columns rows n : ℕ) → c < columns → columns * rows ≤ n → c * rows + rows ≤ n
place_in c columns rows n h k = omega (arith, column_in rows columns c h)

module _ (s : Sheet) (support : ℕ) (mark : ℕ → Bool) where
  pub record Scanning (c : ℕ) (b : Two) : Type 0 where
    pub within : c ≤ s.columns
    pub same : scan_columns s mark (s.columns - c) c b ≡ scanned s support mark
    pub both : Both s support mark b

  pub begins : (b : Two) → b ≡ start_both s support mark → Scanning 0 b
  begins b e =
      record {
        within = omega arith;
        same = unfold scanned in ap₂ (λ (n : ℕ) (b : Two). scan_columns s mark n 0 b) none e;
        both = subst (Both s support mark) (sym e) (both_start s support mark);
      }
    where
      none : s.columns - 0 ≡ s.columns
      none = omega arith

  module _ (c : ℕ) (b : Two) (g : Scanning c b) where
    pub finished : s.columns ≤ c → b ≡ scanned s support mark
    finished h =
        let e : s.columns - c ≡ 0 = omega arith in
        sym nothing ∙ ap (λ (n : ℕ). scan_columns s mark n c b) (sym e) ∙ g.same
      where
        nothing : scan_columns s mark 0 c b ≡ b
        nothing = unfold scan_columns in refl

    module _ (h : c < s.columns) (next : Two) (a : next ≡ scan_column s mark c b) where
      abbrev rest : Two → Two
      rest z = scan_columns s mark (s.columns - (c + 1)) (c + 1) z

      turn : pick (perfect next) next (rest next) ≡ scanned s support mark
      turn =
          let e : s.columns - c ≡ suc (s.columns - (c + 1)) = omega arith in
          ap (λ (z : Two). pick (perfect z) z (rest z)) a ∙ sym unrolled ∙ ap (λ (n : ℕ). scan_columns s mark n c b) (sym e) ∙ g.same
        where
          unrolled : scan_columns s mark (suc (s.columns - (c + 1))) c b ≡ pick (perfect (scan_column s mark c b)) (scan_column s mark c b) (rest (scan_column s mark c b))
          unrolled = unfold scan_columns in rw add-one

      pub stops : perfect next ≡ true → next ≡ scanned s support mark
      stops e = sym (pick_true (perfect next) next (rest next) (subst T (sym e) tt)) ∙ turn

      pub goes_on : perfect next ≡ false → Scanning (c + 1) next
      goes_on e =
          record {
            within = omega arith;
            same = sym (pick_false (perfect next) next (rest next) (subst (λ (b : Bool). T (not b)) (sym e) tt)) ∙ turn;
            both = subst (Both s support mark) (sym a) (both_column s support mark c b g.both);
          }

-- the column finds what it goes by
pub ready_column : (s : Sheet) (support : ℕ) (marks : List ℕ) → Scannable s marks → (c : ℕ) (b : Two) → c < s.columns → Both s support (go_left marks) b → ReadyColumn s marks c b
ready_column s support marks k c b h o =
    record {
      some = k.limited.rows_some;
      few = k.limited.rows_most;
      ordered = place_in c s.columns s.rows (length s.order) h k.lent.ordered;
      valued = place_in c s.columns s.rows (length s.values) h k.lent.valued;
      coded = k.lent.coded;
      marked = k.lent.marked;
      numbered = k.lent.numbered;
      in_rows = k.in_rows c h;
      labelled = k.labelled;
      left_labels = o.left.labels_is;
      right_labels = o.right.labels_is;
      left_small = omega (arith, size_in s support (go_left marks) b.left o.left, k.limited.rows_most);
      right_small = omega (arith, size_in s support (other (go_left marks)) b.right o.right, k.limited.rows_most);
      left_live = rw (rows_order s c) (begin_live s k.limited support (go_left marks) b.left o.left c (k.each_once c h));
      right_live = rw (rows_order s c) (begin_live s k.limited support (other (go_left marks)) b.right o.right c (k.each_once c h));
    }
