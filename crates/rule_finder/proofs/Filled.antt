-- What the reader leaves in room for the largest sheet: its answer is that of the bytes, and the sheet's values and label codes stand in front. Assumes
-- nothing.
use mathlib.Core.Path.{◌≡◌, refl, sym, ap, ap₂, ◌∙◌}
use Prim.Native.Nat.{ℕ, ◌*◌, ◌^◌, ◌≤◌, ◌<◌}
use native.Mathlib.Nat.{mul-le-mul_right}
use native.Mathlib.Omega.{arith}
use mathlib.Core.List.{List, ◌++◌}
use lib.ListN.{length, take, drop, length-append}
use lib.Seq.{take_at}
use lib.Ieee.{Float}
use Rattle.std.specs.Prelude.{Result, Ok}
use Rattle.basics.specs.Choice.{pick}
use Rattle.sheet.specs.Limits.{most_labels}
use Rattle.sheet.specs.declared.refusals.Refusal.{Refusal}
use Rattle.sheet.specs.declared.lent.Measured.{Measured}
use Rattle.depth2.specs.Search.{search_of}
use Rattle.prepare.specs.Laws.{prepared_sheet}
use Rattle.sheet_bytes.specs.declared.Head.{Head}
use Rattle.sheet_bytes.specs.Room.{most_cells, most_read}
use Rattle.sheet_bytes.specs.Read.{head_cells, values_of, codes_of, read_of, read_answer, values_in, codes_in, ReadInto}
use Rattle.sheet_bytes.specs.Reading.{SmallHead}
use Rattle.sheet_bytes.proofs.Stages as stages
use Rattle.rule_finder.specs.Ready.{Prepares}
use Rattle.rule_finder.specs.Run.{run_of, words_lent}
use Rattle.rule_finder.proofs.Reading.{values_length, codes_length, prepares}
use Rattle.rule_finder.proofs.Laws.{searched_of}

-- a list and what follows it, cut off again
in_front : {A : Type 0} (wanted rest list : List A) (n : ℕ) → list ≡ wanted ++ rest → length wanted ≡ n → take n list ≡ wanted
in_front wanted rest list n e l = ap (take n) e ∙ take_at wanted rest n l

long : {A : Type 0} (wanted rest list : List A) (n : ℕ) → list ≡ wanted ++ rest → length wanted ≡ n → n ≤ length list
long wanted rest list n e l = omega (arith, ap length e, length-append wanted rest)

-- there is room, so the answer is that of the bytes
pub answer_read : (bytes : List ℕ) → read_answer bytes most_cells most_read ≡ read_of bytes
unfolding read_answer pick
answer_read bytes = refl

-- no product of two of the header's numbers is too large
pub product_fits : (a b : ℕ) → a ≤ 4096 → b ≤ 4096 → a * b < 2 ^ 64
product_fits a b h k = omega (arith, mul-le-mul_right b h)

-- what the room holds of a sheet that was read
pub record Filled (bytes : List ℕ) (h : Head) (values : List Float) (codes : List ℕ) : Type 0 where
  pub read : read_of bytes ≡ Ok h
  pub small : SmallHead h
  pub labels_most : h.size.labels ≤ most_labels
  pub values_long : head_cells h ≤ length values
  pub values_taken : take (head_cells h) values ≡ values_of bytes h
  pub codes_long : h.size.rows ≤ length codes
  pub codes_taken : take h.size.rows codes ≡ codes_of bytes h

pub filled : {bytes : List ℕ} {h : Head} {values values' : List Float} {codes codes' : List ℕ} {answer : Result Head Refusal}
    → ReadInto bytes values codes answer values' codes' → read_answer bytes (length values) (length codes) ≡ read_of bytes → answer ≡ Ok h
    → Filled bytes h values' codes'
unfolding values_in codes_in
filled {bytes} {h} {values} {values'} {codes} {codes'} o room k =
    let e : read_of bytes ≡ Ok h = sym room ∙ sym o.answers ∙ k in
    let good = stages.accepted bytes h e in
    let v : values' ≡ values_of bytes h ++ drop (head_cells h) values = o.stored ∙ ap (λ (x : Result Head Refusal). values_in x bytes values) k in
    let c : codes' ≡ codes_of bytes h ++ drop h.size.rows codes = o.coded ∙ ap (λ (x : Result Head Refusal). codes_in x bytes codes) k in
    record {
      read = e;
      small = stages.small_accepted bytes h good;
      labels_most = (stages.labels_inside h good.size_good).1;
      values_long = long (values_of bytes h) (drop (head_cells h) values) values' (head_cells h) v (values_length bytes h good);
      values_taken = in_front (values_of bytes h) (drop (head_cells h) values) values' (head_cells h) v (values_length bytes h good);
      codes_long = long (codes_of bytes h) (drop h.size.rows codes) codes' h.size.rows c (codes_length bytes h good);
      codes_taken = in_front (codes_of bytes h) (drop h.size.rows codes) codes' h.size.rows c (codes_length bytes h good);
    }

module _ (bytes : List ℕ) (h : Head) (e : read_of bytes ≡ Ok h) where
  -- the preparer takes the values
  pub prepared : (m : Measured) → m.size ≡ h.size → m.values.now ≡ values_of bytes h → Prepares m
  prepared = prepares bytes h (stages.accepted bytes h e)

  -- and the search of the sheet is what the finder answers
  pub search_read : (values : List Float) (codes : List ℕ) → values ≡ values_of bytes h → codes ≡ codes_of bytes h
      → search_of (prepared_sheet h.size.rows h.size.columns h.size.labels values codes) h.terms words_lent ≡ run_of bytes
  search_read values codes v c =
      ap₂ (λ (x : List Float) (y : List ℕ). search_of (prepared_sheet h.size.rows h.size.columns h.size.labels x y) h.terms words_lent) v c
      ∙ sym (searched_of bytes h e)
