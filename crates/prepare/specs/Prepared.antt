-- For a signer. What the preparer answers and writes (document 01, "The sheet and its numbers" and "Reasons a call turns back"). Definitions
-- only.
use Rattle.std.specs.Prelude.{ℕ, zero, suc, ◌*◌, ◌≡◌, Bool, ◌&&◌, List, [], ◌∷◌, ◌++◌, length, take, drop, eqb, Float, Ok, Err}
use Rattle.sheet.specs.declared.refusals.Reason.TheVariants.{SizeOutside, LengthWrong, ScratchShort, ValueOutside}
use Rattle.sheet.specs.Check.{grid_holds, bad_value, Verdict, reason, whole}
use Rattle.prepare.specs.Lists.{rows_in_order, cut_count, cut_slots}

-- ---- all columns, one after the other

-- "Value of row r in column c lies at c·rows+r.": column c's values, row by row
unfoldable pub column_values : ℕ → List Float → ℕ → List Float
column_values rows values c = take rows (drop (c * rows) values)

unfoldable pub columns_joined : (ℕ → List ℕ) → ℕ → List ℕ
columns_joined f zero = []
columns_joined f (suc n) = columns_joined f n ++ f n

-- "Values, order and cuts have rows×columns entries exactly, counts have columns"
unfoldable pub order_list : ℕ → ℕ → List Float → List ℕ
order_list rows columns values = columns_joined (λ c. rows_in_order rows (column_values rows values c)) columns

unfoldable pub cut_list : ℕ → ℕ → List Float → List ℕ
cut_list rows columns values = columns_joined (λ c. cut_slots rows (column_values rows values c)) columns

unfoldable pub count_list : ℕ → ℕ → List Float → List ℕ
count_list rows columns values = columns_joined (λ c. cut_count rows (column_values rows values c) ∷ []) columns

-- ---- the answer

-- reason 3: "order and cuts have rows×columns entries exactly, counts have columns"
unfoldable pub exact_room : ℕ → ℕ → ℕ → ℕ → ℕ → Bool
exact_room cells columns orders cuts counts = eqb orders cells && eqb cuts cells && eqb counts columns

-- "The lowest number wins": the answer for a values list and lists of these lengths
unfoldable pub prepare_of : ℕ → ℕ → List Float → ℕ → ℕ → ℕ → Verdict
prepare_of rows columns values orders cuts counts =
    whole SizeOutside (grid_holds rows columns)
    (whole LengthWrong (eqb (length values) (rows * columns))
    (whole ScratchShort (exact_room (rows * columns) columns orders cuts counts)
    (reason ValueOutside (length values) (bad_value values)
    (Ok tt))))

-- "A turned-back preparer writes nothing."
abbrev pub leaves : Verdict → List ℕ → List ℕ → List ℕ
leaves (Ok done) written before = written
leaves (Err refusal) written before = before

-- all that a call does: its answer, and every word of the three lent slices as it ends
pub record PreparedOf (rows columns : ℕ) (values : List Float) (order cuts counts : List ℕ) (answer : Verdict)
    (order' cuts' counts' : List ℕ) : Type 0 where
  pub answers : answer ≡ prepare_of rows columns values (length order) (length cuts) (length counts)
  pub orders : order' ≡ leaves answer (order_list rows columns values) order
  pub places : cuts' ≡ leaves answer (cut_list rows columns values) cuts
  pub numbers : counts' ≡ leaves answer (count_list rows columns values) counts
