-- A column's rows one after another, the sides' records by the side's number: a row moves its own side on and leaves the other where it stands, and the
-- early end is asked after it. So the rows leave what the definition says. Assumes nothing.
use Prim.Native.Nat.{ℕ, zero, suc, ◌+◌, ◌-◌, ◌*◌, ◌≤◌, ◌<◌}
use native.Mathlib.Omega.{arith}
use native.Mathlib.Numerals.{add-one}
use mathlib.Core.Path.{◌≡◌, refl, sym, ap, ap₂, subst, ◌∙◌}
use mathlib.Core.Bool.{Bool, true, false, not, ◌&&◌, ◌||◌}
use mathlib.Core.List.{List, ◌∷◌}
use lib.ListN.{length, get_or, set}
use lib.Dec.{T, leb, eqb, eqb→eq, leb→le}
use lib.Ieee.{Float, nan}
use Rattle.basics.specs.Choice.{pick}
use Rattle.basics.specs.Lists.{those}
use Rattle.basics.proofs.Choice.{decide, neqb, same_bool, pick_true, pick_false}
use Rattle.basics.proofs.Lists.{tally_le}
use Rattle.sheet.specs.Limits.{most_rows}
use Rattle.sheet.specs.Sheet.{Sheet, value_of, label_of, row_at}
use Rattle.side_scan.specs.declared.SideScan.{SideScan}
use Rattle.side_scan.specs.OneSide.{restarted, rows_left, count_row, only_counted, scored, step_of}
use Rattle.side_scan.specs.Step.{Ready, Steppable}
use Rattle.leaves_score.specs.Column.{Two, other, row_step, step_both, idle, ended, scan_rows, scan_column}
use Rattle.leaves_score.specs.Kept.{rows_to_come, Fits, Live}
use Rattle.leaves_score.specs.Lists.{go_left}
use Rattle.leaves_score.specs.SideLists.{no_side, side_at, both_of, Within, ReadyColumn}
use Rattle.leaves_score.proofs.Counts.{later_is}
use Rattle.leaves_score.proofs.Live.{step_any, step_open, step_closed, live_step}
use Rattle.leaves_score.proofs.Coupled.{ended_left, ended_right}
use Rattle.leaves_score.proofs.Rows.{by_two, left_number, right_number, Changed, set_at}

-- ---- the rows of a side

abbrev mine : List ℕ → ℕ → ℕ → Bool
mine marks zero r = go_left marks r
mine marks (suc k) r = other (go_left marks) r

mine_own : (marks : List ℕ) (r k : ℕ) → k < 2 → get_or marks r 0 ≡ k → mine marks k r ≡ true
mine_own marks r k h = by_two (λ k. get_or marks r 0 ≡ k → mine marks k r ≡ true) k h (left_number marks r) (λ e. ap not (right_number marks r e))

mine_other : (marks : List ℕ) (r k side : ℕ) → k < 2 → side < 2 → get_or marks r 0 ≡ side → (k ≡ side → ⊥) → mine marks k r ≡ false
mine_other marks r k side h l e n =
    by_two (λ k. (k ≡ side → ⊥) → mine marks k r ≡ false) k h
    (λ n. right_number marks r (e ∙ first side l n)) (λ n. ap not (left_number marks r (e ∙ zeroth side l n))) n
  where
    first : (x : ℕ) → x < 2 → (0 ≡ x → ⊥) → x ≡ 1
    first zero h n = absurd (n refl)
    first (suc zero) h n = refl
    first (suc (suc x)) h n = absurd (omega arith)

    zeroth : (x : ℕ) → x < 2 → (1 ≡ x → ⊥) → x ≡ 0
    zeroth zero h n = refl
    zeroth (suc zero) h n = absurd (n refl)
    zeroth (suc (suc x)) h n = absurd (omega arith)

those_yes : (p : ℕ → Bool) (x : ℕ) (xs : List ℕ) → p x ≡ true → those p (x ∷ xs) ≡ x ∷ those p xs
those_yes p x xs e = unfold pick in ap (λ (b : Bool). pick b (x ∷ those p xs) (those p xs)) e

those_no : (p : ℕ → Bool) (x : ℕ) (xs : List ℕ) → p x ≡ false → those p (x ∷ xs) ≡ those p xs
those_no p x xs e = unfold pick in ap (λ (b : Bool). pick b (x ∷ those p xs) (those p xs)) e

-- ---- what is kept of one side

pub record SideKept (s : Sheet) (rest : List ℕ) (t : SideScan) : Type 0 where
  pub live : Live s rest t
  pub labels : t.labels ≡ s.labels
  pub small : t.size ≤ most_rows
  pub within : t.counted ≤ t.size

module _ (s : Sheet) (r : ℕ) (rs : List ℕ) (t : SideScan) (h : SideKept s (r ∷ rs) t) where
  fits : t.closed ≡ false → Fits s (r ∷ rs) t
  fits e = (h.live (subst (λ (b : Bool). T (not b)) (sym e) tt)).fits

  -- an open side can take the row
  can_take : t.closed ≡ false → label_of s r < s.labels → Ready t (label_of s r)
  can_take e k =
      let f : Fits s (r ∷ rs) t = fits e in
      record {
        cut =
            record {
              some = f.some;
              few = f.most;
              more = omega (arith, f.rows);
              small = h.small;
              own = λ l m. omega (arith, f.sums l m);
              seen = f.few;
              left = λ l m. omega (arith, later_is s (r ∷ rs) t f l m, tally_le (λ r. eqb (label_of s r) l) (r ∷ rs), f.rows);
            };
        coded = omega (arith, h.labels, k);
      }

  kept_step : (c : ℕ) → SideKept s rs (row_step s c r t)
  kept_step c =
      record {
        live = live_step s c r rs t h.live;
        labels = step_any t (λ (u : SideScan). u.labels ≡ s.labels) c (label_of s r) (value_of s c r) h.labels (unfold only_counted count_row in h.labels) (unfold scored count_row in h.labels);
        small = step_any t (λ (u : SideScan). u.size ≤ most_rows) c (label_of s r) (value_of s c r) h.small (unfold only_counted count_row in h.small) (unfold scored count_row in h.small);
        within = decide t.closed
            (λ y. subst (λ (u : SideScan). u.counted ≤ u.size) (sym (step_closed t c (label_of s r) (value_of s c r) y)) h.within)
            (λ n. step_open t (λ (u : SideScan). u.counted ≤ u.size) c (label_of s r) (value_of s c r) n (λ _. unfold only_counted count_row in more n) (λ _. unfold scored count_row in more n));
      }
    where
      more : T (not t.closed) → t.counted + 1 ≤ t.size
      more n = omega (arith, (h.live n).fits.rows)

-- ---- both sides

module _ (s : Sheet) (marks : List ℕ) (c : ℕ) where
  abbrev to_come : ℕ → ℕ → List ℕ
  to_come k i = those (mine marks k) (rows_to_come s c (s.rows - i) i)

  -- the rows to come, from a row of that side on
  module _ (i : ℕ) (more : i < s.rows) (side : ℕ) (in_two : side < 2) (side_is : get_or marks (row_at s c i) 0 ≡ side) where
    one_more : s.rows - i ≡ suc (s.rows - (i + 1))
    one_more = omega arith

    next_rows : rows_to_come s c (s.rows - i) i ≡ row_at s c i ∷ rows_to_come s c (s.rows - (i + 1)) (i + 1)
    unfolding rows_to_come
    next_rows = ap (λ (n : ℕ). rows_to_come s c n i) one_more ∙ rw add-one

    own_rows : to_come side i ≡ row_at s c i ∷ to_come side (i + 1)
    own_rows =
        ap (those (mine marks side)) next_rows
        ∙ those_yes (mine marks side) (row_at s c i) (rows_to_come s c (s.rows - (i + 1)) (i + 1)) (mine_own marks (row_at s c i) side in_two side_is)

    other_rows : (k : ℕ) → k < 2 → (k ≡ side → ⊥) → to_come k i ≡ to_come k (i + 1)
    other_rows k l n =
        ap (those (mine marks k)) next_rows
        ∙ those_no (mine marks k) (row_at s c i) (rows_to_come s c (s.rows - (i + 1)) (i + 1)) (mine_other marks (row_at s c i) k side l in_two side_is n)

  module _ (target : Two) where
    pub record Along (i : ℕ) (sides : List SideScan) : Type 0 where
      pub within : i ≤ s.rows
      pub two : length sides ≡ 2
      pub same : scan_rows s (go_left marks) c (s.rows - i) i (both_of sides) ≡ target
      pub going : ended (both_of sides) ≡ false
      pub each : (k : ℕ) → k < 2 → SideKept s (to_come k i) (side_at sides k)

    module _ (i : ℕ) (sides : List SideScan) (h : Along i sides) where
      -- no row is left
      pub finished : s.rows ≤ i → both_of sides ≡ target
      finished n = sym nothing ∙ ap (λ (n : ℕ). scan_rows s (go_left marks) c n i (both_of sides)) (sym none) ∙ h.same
        where
          none : s.rows - i ≡ 0
          none = omega arith

          nothing : scan_rows s (go_left marks) c 0 i (both_of sides) ≡ both_of sides
          nothing = unfold scan_rows in refl

      module _ (more : i < s.rows) (side : ℕ) (in_two : side < 2) (side_is : get_or marks (row_at s c i) 0 ≡ side) where
        abbrev row : ℕ
        row = row_at s c i

        here : SideKept s (row ∷ to_come side (i + 1)) (side_at sides side)
        here = subst (λ (rs : List ℕ). SideKept s rs (side_at sides side)) (own_rows i more side in_two side_is) (h.each side in_two)

        -- the row's side has moved on, the other is where it was
        pub record Moved (sides' : List SideScan) : Type 0 where
          pub two : length sides' ≡ 2
          pub at : side_at sides' side ≡ row_step s c row (side_at sides side)
          pub elsewhere : (k : ℕ) → (k ≡ side → ⊥) → side_at sides' k ≡ side_at sides k

        moved : (next : SideScan) → next ≡ row_step s c row (side_at sides side) → Moved (set sides side next)
        moved next e =
            let g = set_at sides side next no_side h.two in_two in
            record { two = g.two; at = g.at ∙ e; elsewhere = g.elsewhere }

        module _ (sides' : List SideScan) (m : Moved sides') where
          abbrev now : Two
          now = both_of sides'

          stepped : step_both s (go_left marks) c row (both_of sides) ≡ now
          unfolding step_both
          stepped =
              by_two (λ k. side ≡ k → step_both s (go_left marks) c row (both_of sides) ≡ now) side in_two
              (λ e. pick_true (go_left marks row) _ _ (subst T (sym (left_number marks row (side_is ∙ e))) tt)
              ∙ ap₂ (λ (l r : SideScan). record { left = l; right = r }) (sym (itself 0 e)) (sym (m.elsewhere 1 (λ k. absurd (omega (arith, e, k))))))
              (λ e. pick_false (go_left marks row) _ _ (subst (λ (b : Bool). T (not b)) (sym (right_number marks row (side_is ∙ e))) tt)
              ∙ ap₂ (λ (l r : SideScan). record { left = l; right = r }) (sym (m.elsewhere 0 (λ k. absurd (omega (arith, e, k))))) (sym (itself 1 e)))
              refl
            where
              itself : (k : ℕ) → side ≡ k → side_at sides' k ≡ row_step s c row (side_at sides k)
              itself k e = subst (λ (k : ℕ). side_at sides' k ≡ row_step s c row (side_at sides k)) e m.at

          abbrev rest : Two → Two
          rest b = scan_rows s (go_left marks) c (s.rows - (i + 1)) (i + 1) b

          -- the definition's turn at this row
          turn : pick (ended now) now (rest now) ≡ target
          turn = ap (λ (b : Two). pick (ended b) b (rest b)) (sym stepped) ∙ sym unrolled ∙ ap (λ (n : ℕ). scan_rows s (go_left marks) c n i (both_of sides)) (sym (one_more i more side in_two side_is)) ∙ h.same
            where
              unrolled : scan_rows s (go_left marks) c (suc (s.rows - (i + 1))) i (both_of sides)
                  ≡ pick (ended (step_both s (go_left marks) c row (both_of sides))) (step_both s (go_left marks) c row (both_of sides)) (rest (step_both s (go_left marks) c row (both_of sides)))
              unrolled = unfold scan_rows in rw add-one

          each_next : (k : ℕ) → k < 2 → SideKept s (to_come k (i + 1)) (side_at sides' k)
          each_next k l = decide (eqb k side) (λ t. itself k (eqb→eq k side t)) (λ t. another k l (neqb k side t))
            where
              itself : (k : ℕ) → k ≡ side → SideKept s (to_come k (i + 1)) (side_at sides' k)
              itself k e = rw (e, m.at) (kept_step s row (to_come side (i + 1)) (side_at sides side) here c)

              another : (k : ℕ) → k < 2 → (k ≡ side → ⊥) → SideKept s (to_come k (i + 1)) (side_at sides' k)
              another k l e = rw (m.elsewhere k e, ← other_rows i more side in_two side_is k l e) (h.each k l)

          -- the column ends
          over : ended now ≡ true → now ≡ target
          over e = sym (pick_true (ended now) now (rest now) (subst T (sym e) tt)) ∙ turn

          -- or goes on
          on : ended now ≡ false → Along (i + 1) sides'
          on e =
              record {
                within = omega arith;
                two = m.two;
                same = sym (pick_false (ended now) now (rest now) (subst (λ (b : Bool). T (not b)) (sym e) tt)) ∙ turn;
                going = e;
                each = each_next;
              }

          -- it does if the row's side is open and its skip short
          not_ended : ((side_at sides' side).closed || idle (side_at sides' side)) ≡ false → ended now ≡ false
          not_ended e =
              by_two (λ k. ((side_at sides' k).closed || idle (side_at sides' k)) ≡ false → ended now ≡ false) side in_two
              (λ e. same_bool (ended now) false (λ t. subst T e (ended_left now t)) (λ t. absurd t))
              (λ e. same_bool (ended now) false (λ t. subst T e (ended_right now t)) (λ t. absurd t)) e

        -- a row of a closed side changes nothing
        stays : (side_at sides side).closed ≡ true → Along (i + 1) sides
        stays e =
            on sides
            (record {
              two = h.two;
              at = sym (step_closed (side_at sides side) c (label_of s row) (value_of s c row) (subst T (sym e) tt));
              elsewhere = λ k n. refl;
            }) h.going

-- ---- from a column's start

module _ (s : Sheet) (marks : List ℕ) (c : ℕ) (b : Two) (h : ReadyColumn s marks c b) (sides : List SideScan)
    (left_is : side_at sides 0 ≡ restarted b.left) (right_is : side_at sides 1 ≡ restarted b.right) where
  kept : (k : ℕ) → k < 2 → SideKept s (to_come s marks c k 0) (side_at sides k)
  unfolding restarted
  kept k l =
      by_two (λ k. SideKept s (to_come s marks c k 0) (side_at sides k)) k l
      (rw (left_is, all) (record { live = h.left_live; labels = h.left_labels; small = h.left_small; within = omega arith }))
      (rw (right_is, all) (record { live = h.right_live; labels = h.right_labels; small = h.right_small; within = omega arith }))
    where
      all : s.rows - 0 ≡ s.rows
      all = omega arith

  -- the side of the first row is open, and has a row to come
  begun : (k : ℕ) → k < 2 → get_or marks (row_at s c 0) 0 ≡ k → (side_at sides k).closed ≡ false → (side_at sides k).skip ≡ 0 → ((side_at sides k).closed || idle (side_at sides k)) ≡ false
  unfolding idle
  begun k l e shut none = rw (shut, short)
    where
      here_kept : SideKept s (row_at s c 0 ∷ to_come s marks c k 1) (side_at sides k)
      here_kept = subst (λ (rs : List ℕ). SideKept s rs (side_at sides k)) (own_rows s marks c 0 h.some k l e) (kept k l)

      short : idle (side_at sides k) ≡ false
      short =
          unfold idle in same_bool (leb (rows_left (side_at sides k)) (side_at sides k).skip) false
          (λ y. absurd (omega (arith, leb→le (rows_left (side_at sides k)) (side_at sides k).skip y, none, (fits s (row_at s c 0) (to_come s marks c k 1) (side_at sides k) here_kept shut).rows)))
          (λ y. absurd y)

  opens : length sides ≡ 2 → Along s marks c (scan_rows s (go_left marks) c s.rows 0 (both_of sides)) 0 sides
  opens two =
      record {
        within = omega arith;
        two = two;
        same = ap (λ (n : ℕ). scan_rows s (go_left marks) c n 0 (both_of sides)) all;
        going = by_two (λ k. get_or marks (row_at s c 0) 0 ≡ k → ended (both_of sides) ≡ false) (get_or marks (row_at s c 0) 0) (h.numbered (row_at s c 0) (h.in_rows 0 h.some))
            (λ e. same_bool (ended (both_of sides)) false (λ t. subst T (begun 0 (omega arith) e (shut 0 b.left left_is) (fresh 0 b.left left_is)) (ended_left (both_of sides) t)) (λ t. absurd t))
            (λ e. same_bool (ended (both_of sides)) false (λ t. subst T (begun 1 (omega arith) e (shut 1 b.right right_is) (fresh 1 b.right right_is)) (ended_right (both_of sides) t)) (λ t. absurd t))
            refl;
        each = kept;
      }
    where
      all : s.rows - 0 ≡ s.rows
      all = omega arith

      shut : (k : ℕ) (t : SideScan) → side_at sides k ≡ restarted t → (side_at sides k).closed ≡ false
      shut k t e = ap (λ (t : SideScan). t.closed) e ∙ unfold restarted in refl

      fresh : (k : ℕ) (t : SideScan) → side_at sides k ≡ restarted t → (side_at sides k).skip ≡ 0
      fresh k t e = ap (λ (t : SideScan). t.skip) e ∙ unfold restarted in refl

  -- and what its rows leave is what the column leaves
  leaves : scan_rows s (go_left marks) c s.rows 0 (both_of sides) ≡ scan_column s (go_left marks) c b
  unfolding scan_column
  leaves = ap₂ (λ (l r : SideScan). scan_rows s (go_left marks) c s.rows 0 (record { left = l; right = r })) left_is right_is

-- the two sides restarted one after the other, by their numbers
module _ (s : Sheet) (marks : List ℕ) (c : ℕ) (old : List SideScan) (ready : ReadyColumn s marks c (both_of old)) (two : length old ≡ 2) (l r : SideScan)
    (el : l ≡ restarted (side_at old 0)) (er : r ≡ restarted (side_at (set old 0 l) 1)) where
  abbrev half : List SideScan
  half = set old 0 l

  abbrev fresh_sides : List SideScan
  fresh_sides = set half 1 r

  first : Changed old half 0 l no_side
  first = set_at old 0 l no_side two (omega arith)

  second : Changed half fresh_sides 1 r no_side
  second = set_at half 1 r no_side first.two (omega arith)

  left_fresh : side_at fresh_sides 0 ≡ restarted (both_of old).left
  left_fresh = second.elsewhere 0 (λ e. absurd (omega (arith, e))) ∙ first.at ∙ el

  right_fresh : side_at fresh_sides 1 ≡ restarted (both_of old).right
  right_fresh = second.at ∙ er ∙ ap restarted (first.elsewhere 1 (λ e. absurd (omega (arith, e))))

  pub opens_fresh : Along s marks c (scan_rows s (go_left marks) c s.rows 0 (both_of fresh_sides)) 0 fresh_sides
  opens_fresh = opens s marks c (both_of old) ready fresh_sides left_fresh right_fresh second.two

  pub leaves_fresh : scan_rows s (go_left marks) c s.rows 0 (both_of fresh_sides) ≡ scan_column s (go_left marks) c (both_of old)
  leaves_fresh = leaves s marks c (both_of old) ready fresh_sides left_fresh right_fresh

-- ---- a row as the code reads it

not_both : (a b : Bool) → (a && b) ≡ false → (a ≡ false → b ≡ false) → b ≡ false
not_both true b e f = e
not_both false b e f = f refl

second_too : (a b : Bool) → (a && b) ≡ true → b ≡ true
second_too true b e = e
second_too false true e = refl
second_too false false e = e

module _ (s : Sheet) (marks : List ℕ) (c : ℕ) (b : Two) (ready : ReadyColumn s marks c b) (target : Two) (i : ℕ) (sides : List SideScan)
    (h : Along s marks c target i sides) (more : i < s.rows) (r : ℕ) (read : r ≡ get_or s.order (c * s.rows + i) 0) where
  row_is : r ≡ row_at s c i
  unfolding row_at
  row_is = read

  pub row_in : r < s.rows
  row_in = rw row_is (ready.in_rows i more)

  abbrev side : ℕ
  side = get_or marks r 0

  pub side_in : side < 2
  side_in = ready.numbered r row_in

  side_is : get_or marks (row_at s c i) 0 ≡ side
  side_is = ap (λ (x : ℕ). get_or marks x 0) (sym row_is)

  -- a row of a closed side
  pub passed : (side_at sides side).closed ≡ true → Along s marks c target (i + 1) sides
  passed e = stays s marks c target i sides h more side side_in side_is e

  -- a row of an open one
  module _ (l : ℕ) (read_label : l ≡ get_or s.codes r 0) where
    label_is : l ≡ label_of s (row_at s c i)
    unfolding label_of
    label_is = read_label ∙ ap (λ (x : ℕ). get_or s.codes x 0) row_is

    pub taken : Steppable (side_at sides side) l
    taken e =
        subst (Ready (side_at sides side)) (sym label_is)
        (can_take s (row_at s c i) _ (side_at sides side) (here s marks c target i sides h more side side_in side_is) e (ready.labelled (row_at s c i) (ready.in_rows i more)))

    module _ (next : SideScan) (advanced : next ≡ step_of (side_at sides side) c l (get_or s.values (c * s.rows + r) nan)) where
      value_is : get_or s.values (c * s.rows + r) nan ≡ value_of s c (row_at s c i)
      unfolding value_of
      value_is = ap (λ (x : ℕ). get_or s.values (c * s.rows + x) nan) row_is

      abbrev moved_sides : List SideScan
      moved_sides = set sides side next

      move : Moved s marks c target i sides h more side side_in side_is moved_sides
      move = moved s marks c target i sides h more side side_in side_is next (advanced ∙ ap₂ (λ (l : ℕ) (v : Float). step_of (side_at sides side) c l v) label_is value_is)

      pub none_past : Within moved_sides
      none_past k l = (each_next s marks c target i sides h more side side_in side_is moved_sides move k l).within

      abbrev over_now : Bool
      over_now = ((side_at moved_sides side).closed || idle (side_at moved_sides side)) && ended (both_of moved_sides)

      pub goes_on : (x : Bool) → x ≡ over_now → x ≡ false → Along s marks c target (i + 1) moved_sides
      goes_on x e f =
          on s marks c target i sides h more side side_in side_is moved_sides move
          (not_both ((side_at moved_sides side).closed || idle (side_at moved_sides side)) (ended (both_of moved_sides)) (sym e ∙ f)
          (not_ended s marks c target i sides h more side side_in side_is moved_sides move))

      pub ends : (x : Bool) → x ≡ over_now → x ≡ true → both_of moved_sides ≡ target
      ends x e f =
          over s marks c target i sides h more side side_in side_is moved_sides move
          (second_too ((side_at moved_sides side).closed || idle (side_at moved_sides side)) (ended (both_of moved_sides)) (sym e ∙ f))
