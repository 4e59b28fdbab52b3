-- A sheet that is read: the preparer takes its values, and the input check accepts it prepared. Assumes nothing.
use mathlib.Core.Path.{◌≡◌, refl, sym, ap, ◌∙◌, subst}
use Prim.Native.Nat.{ℕ, zero, suc, ◌*◌, ◌≤◌, ◌<◌}
use native.Mathlib.Omega.{arith}
use native.Mathlib.Nat.{mul_comm}
use mathlib.Core.Bool.{Bool, true, false}
use mathlib.Core.List.{List}
use lib.ListN.{length, get_or}
use lib.Dec.{T, nleb→lt}
use lib.Ieee.{Float, nan, binary64, fits}
use lib.Ieee.Bits.{of_bits-fits}
use borrow.Author.Tests.{eq-eqb}
use Rattle.std.specs.Prelude.{Ok}
use Rattle.basics.specs.Lists.{table}
use Rattle.basics.proofs.Choice.{not_not}
use Rattle.basics.proofs.Lists.{get_d_table, length_table}
use Rattle.threshold.specs.Threshold.{within}
use Rattle.sheet.specs.declared.Size.{Size}
use Rattle.sheet.specs.declared.lent.Measured.{Measured}
use Rattle.sheet.specs.Check.{grid_holds, check_of, first_bad_value}
use Rattle.prepare.specs.Prepared.{prepare_of, exact_room}
use Rattle.prepare.specs.Laws.{Taken}
use Rattle.prepare.proofs.Answering.{by_counts, stops_nowhere, answer_none}
use Rattle.prepare.proofs.Acceptance.{never_refused}
use Rattle.sheet_bytes.specs.declared.Head.{Head}
use Rattle.sheet_bytes.specs.Read.{head_cells, bits_of, value_read, code_of, values_of, codes_of, code_bad}
use Rattle.sheet_bytes.specs.Laws as read
use Rattle.sheet_bytes.proofs.Stages.{grid_held, labels_inside, terms_limited, small_accepted, valued_accepted}
use Rattle.rule_finder.specs.Ready.{Prepares}
use Rattle.rule_finder.specs.Run.{sheet_read, words_lent}

-- a table of doubles has doubles throughout, and a NaN past its end
all_fit : (f : ℕ → Float) (n : ℕ) → ((k : ℕ) → T (fits binary64 (f k))) → (i : ℕ) → T (fits binary64 (get_or (table f n) i nan))
unfolding fits
all_fit f zero h i = tt
all_fit f (suc n) h zero = h 0
all_fit f (suc n) h (suc i) = all_fit (λ k. f (suc k)) n (λ k. h (suc k)) i

is_true : (b : Bool) → T b → b ≡ true
is_true true t = refl
is_true false t = elim t [ ]

module _ (bytes : List ℕ) (h : Head) (a : read.Accepted bytes h) where
  abbrev values : List Float
  values = values_of bytes h

  pub values_length : length values ≡ head_cells h
  unfolding values_of
  values_length = length_table (value_read bytes h) (head_cells h)

  pub codes_length : length (codes_of bytes h) ≡ h.size.rows
  unfolding codes_of
  codes_length = length_table (code_of bytes h) h.size.rows

  -- bits are a double's, whatever they are
  pub doubles : (i : ℕ) → T (fits binary64 (get_or values i nan))
  unfolding values_of value_read
  doubles i = all_fit (value_read bytes h) (head_cells h) (λ k. of_bits-fits binary64 (bits_of bytes h k)) i

  value_within : (i : ℕ) → i < head_cells h → T (within (get_or values i nan))
  unfolding values_of
  value_within i l = subst (λ (x : Float). T (within x)) (sym (get_d_table (value_read bytes h) (head_cells h) i nan l)) (valued_accepted bytes h a i l)

  in_limits : grid_holds h.size.rows h.size.columns ≡ true
  in_limits = is_true (grid_holds h.size.rows h.size.columns) (grid_held h a.size_good)

  abbrev cells : ℕ
  cells = h.size.rows * h.size.columns

  exact : exact_room cells h.size.columns cells cells h.size.columns ≡ true
  exact = sym (by_counts cells h.size.columns cells cells h.size.columns refl refl) ∙ eq-eqb h.size.columns h.size.columns refl

  none_outside : length values ≤ first_bad_value values
  none_outside =
      let e =
      stops_nowhere values (length values)
      (record { high = omega arith; before = λ j l. not_not (within (get_or values j nan)) (value_within j (omega (arith, values_length))) })
      (omega arith) in
      omega arith

  -- reasons 1, 2, 3 and 5 are passed: the reader asked for them, or the room is exact
  done : Ok tt ≡ prepare_of h.size.rows h.size.columns values cells cells h.size.columns
  done =
      answer_none h.size.rows h.size.columns values cells cells h.size.columns in_limits (values_length ∙ mul_comm h.size.columns h.size.rows) exact none_outside

  pub taken : Taken h.size.rows h.size.columns values
  taken = record { doubles = doubles; done = done }

  pub prepares : (m : Measured) → m.size ≡ h.size → m.values.now ≡ values → Prepares m
  prepares m e v =
      let small = small_accepted bytes h a in
      let all : length m.values.now ≡ cells = ap length v ∙ values_length ∙ mul_comm h.size.columns h.size.rows in
      record {
        columns_most = omega (arith, ap (λ (s : Size). s.columns) e, small.columns_most);
        cells_most = omega (arith, ap length v, values_length, small.cells_most);
        done = cc (done, all, e, v);
      }

  code_low : (r : ℕ) → r < h.size.rows → get_or (codes_of bytes h) r 0 < h.size.labels
  unfolding codes_of code_bad
  code_low r l =
      subst (λ (n : ℕ). n < h.size.labels) (sym (get_d_table (code_of bytes h) h.size.rows r 0 l)) (nleb→lt h.size.labels (code_of bytes h r) (a.codes_good r l))

  pub accepted : check_of (sheet_read bytes h) h.terms words_lent ≡ Ok tt
  accepted =
      let labels = labels_inside h a.size_good in
      never_refused h.size.rows h.size.columns h.size.labels values (codes_of bytes h) h.terms words_lent taken labels.0 labels.1 codes_length
      code_low (terms_limited h a.terms_good) (omega (arith, (small_accepted bytes h a).rows_most))
