-- Past the largest sheet and one byte more nothing that stands in the bytes changes the answer: reasons 20, 1, 21 and 22 go by bytes before that, and by
-- then there is reason 23. Assumes nothing.
use mathlib.Core.Path.{◌≡◌, refl, sym, ap, ap₂, ◌∙◌}
use Prim.Native.Nat.{ℕ, zero, suc, ◌+◌, ◌*◌, ◌≤◌, ◌<◌}
use native.Mathlib.Omega.{arith}
use native.Mathlib.Nat.{mul-le-mul_right}
use mathlib.Core.Bool.{Bool, true, false, not, ◌||◌, ◌&&◌}
use mathlib.Core.List.{List}
use lib.ListN.{length, take}
use lib.Seq.{length-take-le, take_all, get_or-take}
use lib.Dec.{T, ltb, eqb, nltb→le}
use borrow.Author.Tests.{lt-ltb, le-ltb}
use Rattle.std.specs.Prelude.{Result, Ok, Err}
use Rattle.basics.specs.Choice.{pick}
use Rattle.basics.specs.Walk.{walk}
use Rattle.basics.proofs.Choice.{order}
use Rattle.sheet_bytes.specs.declared.Head.{Head}
use Rattle.sheet_bytes.specs.Bytes.{Mark, number_at, marked, head_mark, row_mark}
use Rattle.sheet.specs.Reasons.{refused}
use Rattle.sheet.specs.declared.refusals.Reason.TheVariants.{SizeOutside, HeadWrong, SheetLarge, RowWrong, BytesLeft}
use Rattle.sheet.specs.declared.refusals.Refusal.{Refusal}
use Rattle.sheet_bytes.specs.Room.{head_size, row_size, largest_sheet}
use Rattle.sheet_bytes.specs.Read.{head_of, row_start, head_bad, size_bad, too_large, row_bad, further, first_bad, from_terms, from_end, from_rows, from_large, from_size, read_of}
use Rattle.sheet_bytes.specs.Reading.{SmallHead}
use Rattle.sheet_bytes.proofs.Stages.{chosen, accepted, small_accepted, small_enough}
use Rattle.rule_finder.specs.Run.{answer_to, run_of}
use Rattle.rule_finder.specs.Laws.{NoneLonger, OneMoreSuffices}

-- ---- a choice and a walk go by what they come to

later : (b : Bool) (x y z : Result Head Refusal) → (T (not b) → y ≡ z) → pick b x y ≡ pick b x z
unfolding pick
later true x y z e = refl
later false x y z e = e tt

walk_same : (f g : ℕ → Bool) (n k : ℕ) → ((j : ℕ) → k ≤ j → j < k + n → f j ≡ g j) → walk f n k ≡ walk g n k
unfolding walk
walk_same f g zero k e = refl
walk_same f g (suc n) k e =
    ap₂ (λ (b : Bool) (r : ℕ). pick b k r) (e k (omega arith) (omega arith)) (walk_same f g n (suc k) (λ j l h. e j (omega arith) (omega arith)))

-- ---- how long a sheet is

spread : (rows columns : ℕ) → rows * (3 + 8 * columns) ≡ 3 * rows + 8 * (columns * rows)
spread rows columns = omega arith

largest : (h : Head) → SmallHead h → row_start h.size.columns h.size.rows ≤ largest_sheet
unfolding row_start
largest h s = omega (arith, spread h.size.rows h.size.columns, s.rows_most, s.cells_most)

pub none_longer : NoneLonger
unfolding further
none_longer bytes h e =
    let a = accepted bytes h e in
    omega (arith, nltb→le (row_start h.size.columns h.size.rows) (length bytes) a.no_more, largest h (small_accepted bytes h a))

starts_later : (columns a b : ℕ) → a ≤ b → row_start columns a ≤ row_start columns b
unfolding row_start
starts_later columns a b l = omega (arith, mul-le-mul_right (row_size columns) l)

-- ---- the first n bytes of a longer list, past where a sheet may end

module _ (bytes : List ℕ) (n : ℕ) (enough : largest_sheet < n) (long : n ≤ length bytes) where
  abbrev cut : List ℕ
  cut = take n bytes

  cut_length : length cut ≡ n
  cut_length = length-take-le n bytes long

  same_number : (width at : ℕ) → at + width ≤ n → number_at width cut at ≡ number_at width bytes at
  unfolding number_at
  same_number zero at h = refl
  same_number (suc width) at h = ap₂ (λ (b m : ℕ). b + 256 * m) (get_or-take n bytes at 0 (omega arith)) (same_number width (suc at) (omega arith))

  same_mark : (mark : Mark) (at : ℕ) → at + 1 < n → marked mark cut at ≡ marked mark bytes at
  unfolding marked
  same_mark mark at h =
      ap₂ (λ (a b : ℕ). eqb a mark.first && eqb b mark.second) (get_or-take n bytes at 0 (omega arith)) (get_or-take n bytes (at + 1) 0 h)

  same_head : head_of cut ≡ head_of bytes
  unfolding head_of
  same_head =
      let rows = same_number 2 2 (omega arith) in
      let columns = same_number 1 4 (omega arith) in
      let labels = same_number 1 5 (omega arith) in
      let support = same_number 2 6 (omega arith) in
      let gap = same_number 4 8 (omega arith) in
      let error = same_number 4 12 (omega arith) in
      let bound = same_number 4 16 (omega arith) in
      cc

  same_bad : head_bad cut ≡ head_bad bytes
  unfolding head_bad
  same_bad =
      ap₂ (λ (a b : Bool). a || not b) (le-ltb (length cut) head_size (omega (arith, cut_length)) ∙ sym (le-ltb (length bytes) head_size (omega arith)))
      (same_mark head_mark 0 (omega arith))

  module _ (h : Head) (s : SmallHead h) where
    same_row : (row : ℕ) → row < h.size.rows → row_bad cut h row ≡ row_bad bytes h row
    unfolding row_bad
    same_row row l =
        let ends = starts_later h.size.columns (suc row) h.size.rows (omega arith) in
        let fits = largest h s in
        ap₂ (λ (a b : Bool). a || not b)
        (le-ltb (length cut) (row_start h.size.columns (suc row)) (omega (arith, cut_length)) ∙ sym (le-ltb (length bytes) (row_start h.size.columns (suc row)) (omega arith)))
        (same_mark row_mark (row_start h.size.columns row) (before row ends fits))
      where
        before : (row : ℕ) → row_start h.size.columns (suc row) ≤ row_start h.size.columns h.size.rows → row_start h.size.columns h.size.rows ≤ largest_sheet
            → row_start h.size.columns row + 1 < n
        before row ends fits = unfold row_start in omega (arith, enough)

    same_end : from_end cut h ≡ from_end bytes h
    unfolding further
    same_end =
        let fits = largest h s in
        chosen (ltb (row_start h.size.columns h.size.rows) (length cut)) (Err (refused BytesLeft 0)) (from_terms cut h)
        (lt-ltb (row_start h.size.columns h.size.rows) (length cut) (omega (arith, cut_length)))
        ∙ sym (chosen (ltb (row_start h.size.columns h.size.rows) (length bytes)) (Err (refused BytesLeft 0)) (from_terms bytes h)
        (lt-ltb (row_start h.size.columns h.size.rows) (length bytes) (omega arith)))

    same_rows : from_rows cut h ≡ from_rows bytes h
    unfolding first_bad
    same_rows =
        ap₂ (λ (r : ℕ) (rest : Result Head Refusal). pick (ltb r h.size.rows) (Err (refused RowWrong r)) rest)
        (walk_same (row_bad cut h) (row_bad bytes h) h.size.rows 0 (λ j l k. same_row j (omega arith))) same_end

  same_size : (h : Head) → from_size cut h ≡ from_size bytes h
  same_size h =
      later (size_bad h) (Err (refused SizeOutside 0)) (from_large cut h) (from_large bytes h)
      (λ good. later (too_large h) (Err (refused SheetLarge 0)) (from_rows cut h) (from_rows bytes h) (λ few. same_rows h (small_enough h good few)))

  same_read : read_of cut ≡ read_of bytes
  unfolding read_of
  same_read =
      ap₂ (λ (b : Bool) (r : Result Head Refusal). pick b (Err (refused HeadWrong 0)) r) same_bad
      (ap (from_size cut) same_head ∙ same_size (head_of bytes))

  -- such bytes are refused, so the answer goes by the reader's alone
  same_run : run_of cut ≡ run_of bytes
  unfolding run_of
  same_run = ap (answer_to cut) same_read ∙ go (read_of bytes) refl
    where
      go : (r : Result Head Refusal) → read_of bytes ≡ r → answer_to cut r ≡ answer_to bytes r
      go (Err refusal) e = unfold answer_to in refl
      go (Ok h) e = absurd (omega (arith, none_longer bytes h e, enough, long))

pub one_more_suffices : OneMoreSuffices
one_more_suffices bytes =
    order (length bytes) (largest_sheet + 1) (λ short. ap run_of (take_all (largest_sheet + 1) bytes short))
    (λ long. same_run bytes (largest_sheet + 1) (omega arith) (omega arith))
