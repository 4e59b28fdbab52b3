-- What the preparer writes is sound: a column's part of each list is the column's own list, its order ascends, and its cuts are the places
-- that pass. Assumes nothing.
use mathlib.Core.Path.{◌≡◌, refl, sym, ap, ◌∙◌, subst}
use Prim.Native.Nat.{ℕ, zero, suc, ◌+◌, ◌-◌, ◌*◌, ◌≤◌, ◌<◌}
use native.Mathlib.Omega.{arith}
use native.Mathlib.Nat.{suc-mul, mul_comm, mul-le-mul_right}
use mathlib.Core.Bool.{Bool, ◌&&◌}
use mathlib.Core.List.{List, [], ◌∷◌}
use lib.ListN.{length, get_or, drop, replicate, length-drop, get_or-append}
use lib.Seq.{get_or-take, get_or-drop, length-take-le, ext_get_or}
use lib.Dec.{T, T_not, leb}
use lib.Ieee.{Float, nan}
use Rattle.basics.specs.Lists.{tally, those, table}
use Rattle.basics.proofs.Choice.{reach}
use Rattle.basics.proofs.Lists.{all_at, get_d_table, length_table}
use Rattle.threshold.specs.Order.{key, comparable}
use Rattle.threshold.proofs.Keys.{finite_comparable}
use Rattle.threshold.specs.Laws.{Measured}
use Rattle.threshold.proofs.Law.{within_finite}
use Rattle.sheet.specs.Sheet.{Sheet, value_of, row_at, value_at, place_of}
use Rattle.sheet.specs.Sheet as sheet
use Rattle.sheet.specs.Sound.{Cuts, SoundColumn}
use Rattle.row_sort.specs.Sorting.{rows_from, key_in}
use Rattle.sheet.specs.Check.{Verdict}
use Rattle.prepare.specs.Lists.{rows_in_order, row_is_cut, cuts_along, cut_places, cut_count, padded, cut_slots}
use Rattle.prepare.specs.Prepared.{column_values, order_list, cut_list, count_list, leaves}
use Rattle.row_sort.specs.Steps.{Upto, RowsAscend, Comparable}
use Rattle.prepare.specs.Laws.{prepared_sheet, Taken, SoundColumns, SoundSheet, Determined}
use Rattle.row_sort.proofs.Sorting.{ascending_sorted}
use Rattle.prepare.proofs.Columns.{order_keys, order_rows, order_length}
use Rattle.prepare.proofs.Cutting.{no_cut}
use Rattle.prepare.proofs.Joining.{cuts_length, get_d_joined}
use Rattle.prepare.proofs.Answering.{Accepted, accepted}
use Rattle.prepare.proofs.OneOrder.{each_once_of}
use Rattle.prepare.proofs.Places.{place_passes, place_below, places_rise, place_found, places_fewer}

-- along an ascending list
ascending_index : (k : ℕ → ℕ) (xs : List ℕ) (i j : ℕ) → RowsAscend k xs → i < j → j < length xs → Upto k (get_or xs i 0) (get_or xs j 0)
ascending_index k [] i j h l g = absurd (omega arith)
ascending_index k (x ∷ xs) i zero h l g = absurd (omega arith)
ascending_index k (x ∷ xs) zero (suc j) h l g = all_at (Upto k x) xs j h.0 (omega arith)
ascending_index k (x ∷ xs) (suc i) (suc j) h l g = ascending_index k xs i j h.1 (omega arith) (omega arith)

module _ (rows columns labels : ℕ) (values : List Float) (codes : List ℕ) (K : Taken rows columns values) where
  abbrev s : Sheet
  s = prepared_sheet rows columns labels values codes

  taken : Accepted rows columns values (rows * columns) (rows * columns) columns
  taken = accepted rows columns values (rows * columns) (rows * columns) columns K.done

  module _ (c : ℕ) (h : c < columns) where
    abbrev column : List Float
    column = column_values rows values c

    abbrev order : List ℕ
    order = rows_in_order rows column

    end : c * rows + rows ≤ length values
    end =
        let l : suc c * rows ≤ columns * rows = mul-le-mul_right rows h in
        omega (arith, taken.values_exact, suc-mul c rows, mul_comm columns rows)

    column_length : length column ≡ rows
    unfolding column_values
    column_length = length-take-le rows (drop (c * rows) values) (omega (arith, end, length-drop (c * rows) values))

    -- ---- values

    value_of_lem : (r : ℕ) → r < rows → value_of s c r ≡ get_or column r nan
    unfolding value_of column_values
    value_of_lem r g = sym (get_or-take rows (drop (c * rows) values) r nan g ∙ get_or-drop (c * rows) values r nan)

    measured : (r : ℕ) → r < rows → Measured (value_of s c r)
    unfolding value_of
    measured r g = record { double = K.doubles (c * rows + r); limited = taken.all_in (c * rows + r) (omega (arith, end)) }

    all : Comparable column
    all r g =
        let l : r < rows = omega (arith, column_length) in
        let m = measured r l in
        subst (λ (x : Float). T (comparable x)) (value_of_lem r l) (finite_comparable (value_of s c r) (within_finite (value_of s c r) m.limited) m.double)

    -- ---- the order

    row_at_lem : (i : ℕ) → i < rows → row_at s c i ≡ get_or order i 0
    unfolding row_at order_list
    row_at_lem i g = get_d_joined (λ d. rows_in_order rows (column_values rows values d)) rows (λ d. order_length (column_values rows values d) rows) columns c i h g

    row_in : (i : ℕ) → i < rows → get_or order i 0 < rows
    row_in i g = all_at (λ r. r < rows) order i (order_rows column rows) (omega (arith, order_length column rows))

    in_rows : (i : ℕ) → i < rows → row_at s c i < rows
    in_rows i g = rw (row_at_lem i g) (row_in i g)

    value_at_lem : (i : ℕ) → i < rows → value_at s c i ≡ get_or column (get_or order i 0) nan
    unfolding value_at
    value_at_lem i g = ap (value_of s c) (row_at_lem i g) ∙ value_of_lem (get_or order i 0) (row_in i g)

    order_is : sheet.order_of s c ≡ order
    unfolding sheet.order_of
    order_is =
        let l : length (table (row_at s c) rows) ≡ rows = length_table (row_at s c) rows in
        ext_get_or 0 (table (row_at s c) rows) order (l ∙ sym (order_length column rows))
        (λ i g. get_d_table (row_at s c) rows i 0 (omega (arith, l)) ∙ row_at_lem i (omega (arith, l)))

    ascending : RowsAscend (key_in column) order
    ascending = rw (order_keys column all rows (omega (arith, column_length))) (ascending_sorted (key_in column) (rows_from 0 rows))

    key_at : (i : ℕ) → i < rows → key (value_at s c i) ≡ key_in column (get_or order i 0)
    unfolding key_in
    key_at i g = ap key (value_at_lem i g)

    ascends : (i j : ℕ) → i ≤ j → j < rows → key (value_at s c i) ≤ key (value_at s c j)
    ascends i j l g =
        reach i j l
        (λ e. subst (λ (n : ℕ). key (value_at s c i) ≤ key (value_at s c n)) e (omega arith))
        (λ m. omega (arith, key_at i (omega arith), key_at j g, (ascending_index (key_in column) order i j ascending m (omega (arith, order_length column rows))).keys))

    -- ---- the cuts

    abbrev places : List ℕ
    places = cut_places rows column

    count_is : sheet.count_of s c ≡ length places
    unfolding sheet.count_of count_list cut_count
    count_is =
        ap (λ (n : ℕ). get_or (count_list rows columns values) n 0) (once c)
        ∙ get_d_joined (λ d. cut_count rows (column_values rows values d) ∷ []) 1 (λ d. refl) columns c 0 h (omega arith)
      where
        once : (c : ℕ) → c ≡ c * 1 + 0
        once c = omega arith

    abbrev p : ℕ → Bool
    p = row_is_cut column order

    places_are : places ≡ those p (rows_from 0 rows)
    unfolding cut_places cuts_along
    places_are = ap (λ (n : ℕ). those p (rows_from 0 n)) (order_length column rows)

    few : length places < rows
    few = rw places_are (places_fewer p rows taken.sized.rows_some (no_cut column order))

    place_is : (k : ℕ) → k < length places → place_of s c k ≡ get_or places k 0
    unfolding place_of cut_list cut_slots padded
    place_is k g =
        get_d_joined (λ d. cut_slots rows (column_values rows values d)) rows (λ d. cuts_length rows (column_values rows values d)) columns c k h (omega (arith, few))
        ∙ get_or-append places (replicate (rows - length places) 0) 0 k g

    cut_same : (i : ℕ) → i < rows → sheet.is_cut s c i ≡ p i
    unfolding sheet.is_cut row_is_cut
    cut_same i g = ap (λ (b : Bool). leb 1 i && b) (rw (value_at_lem (i - 1) (omega arith), value_at_lem i g))

    here : (k : ℕ) → k < sheet.count_of s c → k < length (those p (rows_from 0 rows))
    here k g = subst (λ (n : ℕ). k < n) (count_is ∙ ap length places_are) g

    place : (k : ℕ) → k < length (those p (rows_from 0 rows)) → place_of s c k ≡ get_or (those p (rows_from 0 rows)) k 0
    place k g = place_is k (rw places_are g) ∙ ap (λ (l : List ℕ). get_or l k 0) places_are

    cut_at : (k : ℕ) → k < sheet.count_of s c → T (p (place_of s c k))
    cut_at k g = rw (place k (here k g)) (place_passes p rows k (here k g))

    high_at : (k : ℕ) → k < sheet.count_of s c → place_of s c k < rows
    high_at k g = rw (place k (here k g)) (place_below p rows k (here k g))

    positive : (i : ℕ) → T (p i) → 1 ≤ i
    positive zero t = absurd (T_not (p 0) (no_cut column order) t)
    positive (suc i) t = omega arith

    cuts : Cuts s c
    cuts =
        record {
          count_most = rw count_is few;
          place_low = λ k g. positive (place_of s c k) (cut_at k g);
          place_high = high_at;
          ascend = λ k g. rw (place k (here k (omega arith)), place (suc k) (here (suc k) g)) (places_rise p rows k (here (suc k) g));
          cut = λ k g. rw (cut_same (place_of s c k) (high_at k g)) (cut_at k g);
          every = λ i g t. found i (place_found p rows i g (rw (cut_same i g) at t));
        }
      where
        found : (i : ℕ) → (k : ℕ) × (k < length (those p (rows_from 0 rows))) × (get_or (those p (rows_from 0 rows)) k 0 ≡ i)
            → (k : ℕ) × (k < sheet.count_of s c) × (place_of s c k ≡ i)
        found i f = (f.0, subst (λ (n : ℕ). f.0 < n) (sym (count_is ∙ ap length places_are)) f.1, place f.0 f.1 ∙ f.2)

    column_sound : SoundColumn s c
    column_sound =
        record {
          measured = measured;
          in_rows = in_rows;
          each_once = λ q. ap (tally q) order_is ∙ each_once_of rows column q;
          ascends = ascends;
          cuts = cuts;
        }

pub sound_columns : SoundColumns
sound_columns = column_sound

pub sound_sheet : SoundSheet
unfolding sheet.label_of
sound_sheet rows columns labels values codes K low high coded =
    let a = (taken rows columns labels values codes K).sized in
    record {
      limited = record {
        rows_some = a.rows_some;
        rows_most = a.rows_most;
        columns_some = a.columns_some;
        columns_most = a.columns_most;
        labels_some = low;
        labels_most = high;
      };
      labelled = coded;
      column = column_sound rows columns labels values codes K;
    }

-- both are what the definitions give
pub determined : Determined
determined rows columns values order cuts counts a b order₁ cuts₁ counts₁ order₂ cuts₂ counts₂ x y =
    let e : a ≡ b = x.answers ∙ sym y.answers in
    record {
      answers = e;
      orders = x.orders ∙ ap (λ (r : Verdict). leaves r (order_list rows columns values) order) e ∙ sym y.orders;
      places = x.places ∙ ap (λ (r : Verdict). leaves r (cut_list rows columns values) cuts) e ∙ sym y.places;
      numbers = x.numbers ∙ ap (λ (r : Verdict). leaves r (count_list rows columns values) counts) e ∙ sym y.numbers;
    }
