-- A column's cuts as a part of the cut list are the places that the sheet lists. Assumes nothing.
use mathlib.Core.Path.{◌≡◌, sym, ap, ◌∙◌}
use Prim.Native.Nat.{ℕ, suc, ◌+◌, ◌-◌, ◌*◌, ◌≤◌, ◌<◌}
use native.Mathlib.Omega.{arith}
use mathlib.Core.List.{List}
use lib.ListN.{length, get_or, take, drop, length-drop}
use lib.Seq.{length-take-le, get_or-take, get_or-drop, ext_get_or}
use Rattle.basics.specs.Lists.{table}
use Rattle.basics.proofs.Lists.{get_d_table, length_table}
use Rattle.sheet.specs.declared.lent.LentSheet.{LentSheet}
use Rattle.sheet.specs.Lent.{sheet_in}
use Rattle.sheet.specs.Sheet.{Sheet, count_of, place_of, places_of}
use Rattle.cuts.specs.Lookups.{place, Ascending}
use Rattle.column_turns.specs.Ready.{PlacedIn}
use Rattle.column_turns.specs.Promise.{Whole}
use Rattle.sheet.proofs.Index.{column_in}

-- a part of a list, entry by entry
window : (xs : List ℕ) (base n : ℕ) → base + n ≤ length xs → take n (drop base xs) ≡ table (λ k. get_or xs (base + k) 0) n
window xs base n h =
    let l : length (take n (drop base xs)) ≡ n = length-take-le n (drop base xs) (simp length-drop (omega arith)) in
    ext_get_or 0 (take n (drop base xs)) (table (λ k. get_or xs (base + k) 0) n) (l ∙ sym (length_table (λ k. get_or xs (base + k) 0) n))
    (λ i k. get_or-take n (drop base xs) i 0 (omega arith) ∙ get_or-drop base xs i 0 ∙ sym (get_d_table (λ k. get_or xs (base + k) 0) n i 0 (omega arith)))

pub places_part : (l : LentSheet) (column end : ℕ) → PlacedIn l column
    → end ≡ column * l.measured.size.rows + get_or l.counts.now column 0
    → take (end - column * l.measured.size.rows) (drop (column * l.measured.size.rows) l.cuts.now) ≡ places_of (sheet_in l) column
unfolding places_of place_of count_of
places_part l column end h e =
    let base : ℕ = column * l.measured.size.rows in
    let n : end - base ≡ get_or l.counts.now column 0 = omega arith in
    ap (λ (k : ℕ). take k (drop base l.cuts.now)) n ∙ window l.cuts.now base (get_or l.counts.now column 0) h.listed

-- ---- the places of an accepted sheet

module _ (s : Sheet) (whole : Whole s) (c : ℕ) (here : c < s.columns) where
  pub places_count : length (places_of s c) ≡ count_of s c
  unfolding places_of
  places_count = length_table (place_of s c) (count_of s c)

  pub place_is : (k : ℕ) → k < count_of s c → place (places_of s c) k ≡ place_of s c k
  unfolding places_of place
  place_is k h = get_d_table (place_of s c) (count_of s c) k 0 h

  pub places_ascend : Ascending (places_of s c)
  places_ascend k h =
      let more : suc k < count_of s c = omega (arith, places_count) in
      omega (arith, (whole.sound.column c here).cuts.ascend k more, place_is k (omega arith), place_is (suc k) more)

  pub places_low : (k : ℕ) → k < count_of s c → 1 ≤ place (places_of s c) k
  places_low k h = omega (arith, place_is k h, (whole.sound.column c here).cuts.place_low k h)

pub placed_in : (l : LentSheet) (column : ℕ) → Whole (sheet_in l) → column < l.measured.size.columns → PlacedIn l column
unfolding count_of
placed_in l column whole here =
    record {
      rows_most = whole.sound.limited.rows_most;
      columns_most = omega (arith, whole.sound.limited.columns_most);
      counted = omega (arith, whole.lengths.counts_all);
      listed =
          omega (
            arith,
            whole.lengths.cuts_all,
            column_in l.measured.size.rows l.measured.size.columns column here,
            (whole.sound.column column here).cuts.count_most,
          );
    }
