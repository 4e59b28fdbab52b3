-- Column after column: the lists so far are the columns' lists joined, and the rest is as it was. Assumes nothing.
use mathlib.Core.Path.{◌≡◌, refl, sym, ap, ◌∙◌, subst}
use Prim.Native.Nat.{ℕ, zero, suc, ◌+◌, ◌-◌, ◌*◌, ◌≤◌, ◌<◌}
use native.Mathlib.Omega.{arith}
use native.Mathlib.Nat.{zero-mul, suc-mul, mul_comm, mul-le-mul_right, mul-one}
use native.Mathlib.Numerals.{add-one}
use mathlib.Core.List.{List, [], ◌∷◌, ◌++◌, append_assoc, append-nil}
use lib.ListN.{get_or-append, length, get_or, take, drop, set, replicate, length-append, length-drop, length-set, length-replicate, drop_of_length-le}
use lib.Seq.{take_at, drop-cons, drop-drop, drop-append-add, set_at, length-take-le, get_or-take, get_or-drop, get_or-append-add}
use lib.Ieee.{Float, nan}
use borrow.Rule.Slice.PartMut.{mid_of, put_mid, Post-is, same_len_mid}
use Rattle.basics.proofs.Choice.{reach}
use Rattle.basics.proofs.Lists.{length_those, tally_le}
use Rattle.row_sort.specs.Sorting.{rows_from}
use Rattle.prepare.specs.Lists.{rows_in_order, row_is_cut, cuts_along, cut_places, cut_count, padded, cut_slots}
use Rattle.prepare.specs.Prepared.{column_values, columns_joined, order_list, cut_list, count_list}
use Rattle.prepare.specs.ListSteps.{OneColumn}
use Rattle.prepare.specs.Steps.{Columns}
use Rattle.row_sort.proofs.Rows.{length_rows}
use Rattle.prepare.proofs.Columns.{order_length}

-- ---- lengths

pub cuts_length : (n : ℕ) (column : List Float) → length (cut_slots n column) ≡ n
unfolding cut_slots padded cut_places cuts_along
cuts_length n column =
    let o = rows_in_order n column in
    let p = row_is_cut column o in
    let places = cuts_along column o in
    let l : length places ≤ n =
    omega (arith, length_those p (rows_from 0 (length o)), tally_le p (rows_from 0 (length o)), length_rows 0 (length o), order_length column n) in
    length-append places (replicate (n - length places) 0) ∙ omega (arith, length-replicate {A = ℕ} (n - length places) 0)

-- ---- the lists so far

pub record Joined (f : ℕ → List ℕ) (width : ℕ) (old new : List ℕ) (from c : ℕ) : Type 0 where
  pub place : from ≡ c * width
  pub long : length new ≡ length old
  pub words : new ≡ columns_joined f c ++ drop from old

module _ (f : ℕ → List ℕ) (width : ℕ) (each : (c : ℕ) → length (f c) ≡ width) where
  pub joined_length : (c : ℕ) → length (columns_joined f c) ≡ c * width
  unfolding columns_joined
  joined_length zero = sym (zero-mul width)
  joined_length (suc c) = length-append (columns_joined f c) (f c) ∙ omega (arith, joined_length c, each c, suc-mul c width)

  -- an entry of a column
  pub get_d_joined : (n c i : ℕ) → c < n → i < width → get_or (columns_joined f n) (c * width + i) 0 ≡ get_or (f c) i 0
  unfolding columns_joined
  get_d_joined zero c i h g = absurd (omega arith)
  get_d_joined (suc n) c i h g =
      reach c n (omega arith)
      (λ e.
      ap (λ (m : ℕ). get_or (columns_joined f n ++ f n) (m + i) 0) (ap (λ (d : ℕ). d * width) e ∙ sym (joined_length n))
      ∙ get_or-append-add (columns_joined f n) (f n) i 0 ∙ ap (λ (d : ℕ). get_or (f d) i 0) (sym e))
      (λ l.
      let m : suc c * width ≤ n * width = mul-le-mul_right width l in
      get_or-append (columns_joined f n) (f n) 0 (c * width + i) (omega (arith, joined_length n, suc-mul c width)) ∙ get_d_joined n c i l g)

  joined_more : (c : ℕ) → columns_joined f (c + 1) ≡ columns_joined f c ++ f c
  unfolding columns_joined
  joined_more c = rw (add-one c)

  pub joined_none : (old : List ℕ) → Joined f width old old 0 0
  unfolding columns_joined
  joined_none old = record { place = sym (zero-mul width); long = refl; words = refl }

  module _ (old new : List ℕ) (from c : ℕ) (j : Joined f width old new from c) where
    -- by the place alone
    pub placed : Joined f width old new (c * width) c
    placed = subst (λ (n : ℕ). Joined f width old new n c) j.place j

    here : length (columns_joined f c) ≡ from
    here = joined_length c ∙ sym j.place

    next_place : from + width ≡ (c + 1) * width
    next_place = ap (λ (n : ℕ). n + width) j.place ∙ sym (suc-mul c width) ∙ ap (λ (n : ℕ). n * width) (sym (add-one c))

    after : columns_joined f c ++ (f c ++ drop width (drop from old)) ≡ columns_joined f (c + 1) ++ drop (from + width) old
    after =
        sym (append_assoc (columns_joined f c) (f c) (drop width (drop from old)))
        ∙ ap (λ (l : List ℕ). l ++ drop width (drop from old)) (sym (joined_more c))
        ∙ ap (λ (l : List ℕ). columns_joined f (c + 1) ++ l) (drop-drop width from old)

    -- a column's part is written
    pub joined_part : (part : List ℕ) → part ≡ f c → length part ≡ length (mid_of from (from + width - from) new)
        → Joined f width old (put_mid from (from + width - from) new part) (from + width) (c + 1)
    joined_part part e l =
        record {
          place = next_place;
          long = same_len_mid from (from + width - from) new part l ∙ j.long;
          words =
              ap (λ (z : List ℕ). take from new ++ (part ++ z)) (Post-is from (from + width) new (omega arith))
              ∙ ap (λ (z : List ℕ). take from z ++ (part ++ drop (from + width) z)) j.words
              ∙ ap (λ (z : List ℕ). z ++ (part ++ drop (from + width) (columns_joined f c ++ drop from old))) (take_at (columns_joined f c) (drop from old) from here)
              ∙ ap (λ (z : List ℕ). columns_joined f c ++ (z ++ drop (from + width) (columns_joined f c ++ drop from old))) e
              ∙ ap (λ (z : List ℕ). columns_joined f c ++ (f c ++ z))
              (ap (λ (n : ℕ). drop (n + width) (columns_joined f c ++ drop from old)) (sym here) ∙ drop-append-add (columns_joined f c) (drop from old) width)
              ∙ after;
        }

    pub joined_all : (n : ℕ) → n ≤ c → c ≤ n → length old ≡ n * width → new ≡ columns_joined f n
    joined_all n h g l =
        let e : c ≡ n = omega arith in
        j.words ∙ ap (λ (z : List ℕ). columns_joined f c ++ z) (drop_of_length-le old {i = from} (omega (arith, l, j.place, ap (λ (m : ℕ). m * width) e)))
        ∙ append-nil (columns_joined f c) ∙ ap (columns_joined f) e

-- a column's one word is written
module _ (f : ℕ → ℕ) (old new : List ℕ) (c : ℕ) (j : Joined (λ d. f d ∷ []) 1 old new c c) (h : c < length old) where
  pub joined_word : (v : ℕ) → v ≡ f c → Joined (λ d. f d ∷ []) 1 old (set new c v) (c + 1) (c + 1)
  joined_word v e =
      let g : ℕ → List ℕ = λ d. f d ∷ [] in
      record {
        place = next_place g 1 (λ _. refl) old new c c j;
        long = length-set new c v ∙ j.long;
        words =
            ap (λ (z : List ℕ). set z c v) (j.words ∙ ap (λ (z : List ℕ). columns_joined g c ++ z) (drop-cons old c 0 h))
            ∙ set_at (columns_joined g c) (get_or old c 0) (drop (suc c) old) v c (here g 1 (λ _. refl) old new c c j)
            ∙ ap (λ (z : ℕ). columns_joined g c ++ (z ∷ drop (suc c) old)) e
            ∙ ap (λ (z : List ℕ). columns_joined g c ++ (f c ∷ z)) (ap (λ (n : ℕ). drop n old) (sym (add-one c)) ∙ sym (drop-drop 1 c old))
            ∙ after g 1 (λ _. refl) old new c c j;
      }

-- ---- the columns of a sheet

module _ (rows columns : ℕ) (values : List Float) (order cuts counts : List ℕ) (S : Columns rows columns values order cuts counts) where
  module _ (c from : ℕ) (h : c < columns) (e : from ≡ c * rows) where
    pub inside : from + rows ≤ rows * columns
    inside =
        let l : suc c * rows ≤ columns * rows = mul-le-mul_right rows h in
        omega (arith, e, suc-mul c rows, mul_comm columns rows)

    -- a column's part of a list
    abbrev part : {X : Type 0} → List X → List X
    part xs = mid_of from (from + rows - from) xs

    part_is : {X : Type 0} (xs : List X) → part xs ≡ take rows (drop from xs)
    part_is {X} xs = let n : from + rows - from ≡ rows = omega arith in ap (λ (n : ℕ). take n (drop from xs)) n

    pub part_length : {X : Type 0} (xs : List X) → length xs ≡ rows * columns → length (part xs) ≡ rows
    part_length xs l = ap length (part_is xs) ∙ length-take-le rows (drop from xs) (omega (arith, length-drop from xs, inside))

    pub column_is : part values ≡ column_values rows values c
    unfolding column_values
    column_is = part_is values ∙ ap (λ (n : ℕ). take rows (drop n values)) e

    pub column_ready : (o k : List ℕ) → length o ≡ rows * columns → length k ≡ rows * columns → OneColumn (part values) (part o) (part k)
    column_ready o k lo lk =
        let l = part_length values S.value_room in
        record {
          comparables = λ r g. rw (part_is values, get_or-take rows (drop from values) r nan (omega (arith, l)), get_or-drop from values r nan)
              (S.comparables (from + r) (omega (arith, l, inside, S.value_room)));
          some_row = omega (arith, l, S.some_row);
          narrow = omega (arith, l, S.narrow);
          order_room = part_length o lo ∙ sym l;
          cut_room = part_length k lk ∙ sym l;
        }

    -- what the column's three results are
    as_column : (P : ℕ → List Float → Type 0) → P (length (part values)) (part values) → P rows (column_values rows values c)
    as_column P p =
        subst (λ (n : ℕ). P n (column_values rows values c)) (part_length values S.value_room)
        (subst (λ (l : List Float). P (length (part values)) l) column_is p)

    pub order_of : (o : List ℕ) → o ≡ rows_in_order (length (part values)) (part values) → o ≡ rows_in_order rows (column_values rows values c)
    order_of o = as_column (λ n l. o ≡ rows_in_order n l)

    pub cuts_of : (k : List ℕ) → k ≡ cut_slots (length (part values)) (part values) → k ≡ cut_slots rows (column_values rows values c)
    cuts_of k = as_column (λ n l. k ≡ cut_slots n l)

    pub count_of : (r : ℕ) → r ≡ cut_count (length (part values)) (part values) → r ≡ cut_count rows (column_values rows values c)
    count_of r = as_column (λ n l. r ≡ cut_count n l)

-- the columns so far, in all three lists
pub record Preparing (rows columns : ℕ) (values : List Float) (order cuts counts order' cuts' counts' : List ℕ) (c : ℕ) : Type 0 where
  pub low : c ≤ columns
  pub orders : Joined (λ d. rows_in_order rows (column_values rows values d)) rows order order' (c * rows) c
  pub places : Joined (λ d. cut_slots rows (column_values rows values d)) rows cuts cuts' (c * rows) c
  pub numbers : Joined (λ d. cut_count rows (column_values rows values d) ∷ []) 1 counts counts' c c

module _ (rows columns : ℕ) (values : List Float) (order cuts counts : List ℕ) (S : Columns rows columns values order cuts counts) where
  abbrev orders_of : ℕ → List ℕ
  orders_of d = rows_in_order rows (column_values rows values d)

  abbrev places_of : ℕ → List ℕ
  places_of d = cut_slots rows (column_values rows values d)

  abbrev number_of : ℕ → ℕ
  number_of d = cut_count rows (column_values rows values d)

  pub start : Preparing rows columns values order cuts counts order cuts counts 0
  start =
      record {
        low = omega arith;
        orders = placed orders_of rows (λ d. order_length (column_values rows values d) rows) order order 0 0
            (joined_none orders_of rows (λ d. order_length (column_values rows values d) rows) order);
        places = placed places_of rows (λ d. cuts_length rows (column_values rows values d)) cuts cuts 0 0
            (joined_none places_of rows (λ d. cuts_length rows (column_values rows values d)) cuts);
        numbers = joined_none (λ d. number_of d ∷ []) 1 (λ d. refl) counts;
      }

  module _ (order' cuts' counts' : List ℕ) (c : ℕ) (P : Preparing rows columns values order cuts counts order' cuts' counts' c) where
    abbrev from : ℕ
    from = c * rows

    module _ (h : c < columns) where
      pub within : from + rows ≤ rows * columns
      within = inside rows columns values order cuts counts S c from h P.orders.place

      pub ready : OneColumn (mid_of from (from + rows - from) values) (mid_of from (from + rows - from) order') (mid_of from (from + rows - from) cuts')
      ready =
          column_ready rows columns values order cuts counts S c from h P.orders.place order' cuts'
          (P.orders.long ∙ S.order_room) (P.places.long ∙ S.cut_room)

      abbrev now_column : List Float
      now_column = mid_of from (from + rows - from) values

      pub next : (r : ℕ) (o k : List ℕ) → r ≡ cut_count (length now_column) now_column → o ≡ rows_in_order (length now_column) now_column
          → k ≡ cut_slots (length now_column) now_column → length o ≡ length (mid_of from (from + rows - from) order')
          → length k ≡ length (mid_of from (from + rows - from) cuts')
          → Preparing rows columns values order cuts counts (put_mid from (from + rows - from) order' o) (put_mid from (from + rows - from) cuts' k)
          (set counts' c r) (c + 1)
      next r o k er eo ek lo lk =
          record {
            low = omega arith;
            orders = placed orders_of rows (λ d. order_length (column_values rows values d) rows) order _ (from + rows) (c + 1)
                (joined_part orders_of rows (λ d. order_length (column_values rows values d) rows) order order' from c P.orders o
                (order_of rows columns values order cuts counts S c from h P.orders.place o eo) lo);
            places = placed places_of rows (λ d. cuts_length rows (column_values rows values d)) cuts _ (from + rows) (c + 1)
                (joined_part places_of rows (λ d. cuts_length rows (column_values rows values d)) cuts cuts' from c P.places k
                (cuts_of rows columns values order cuts counts S c from h P.orders.place k ek) lk);
            numbers = joined_word number_of counts counts' c P.numbers (omega (arith, S.count_room)) r
                (count_of rows columns values order cuts counts S c from h P.orders.place r er);
          }

    module _ (h : columns ≤ c) where
      pub all_orders : order' ≡ order_list rows columns values
      unfolding order_list
      all_orders =
          joined_all orders_of rows (λ d. order_length (column_values rows values d) rows) order order' from c P.orders columns h P.low
          (S.order_room ∙ mul_comm rows columns)

      pub all_places : cuts' ≡ cut_list rows columns values
      unfolding cut_list
      all_places =
          joined_all places_of rows (λ d. cuts_length rows (column_values rows values d)) cuts cuts' from c P.places columns h P.low
          (S.cut_room ∙ mul_comm rows columns)

      pub all_numbers : counts' ≡ count_list rows columns values
      unfolding count_list
      all_numbers =
          joined_all (λ d. number_of d ∷ []) 1 (λ d. refl) counts counts' c c P.numbers columns h P.low (S.count_room ∙ sym (mul-one columns))
