-- For a signer. Root splits at the cuts of a column: what their errors have to do with one another, and that no other root threshold does
-- anything else. Definitions, and the laws as statements.
use Rattle.std.specs.Prelude.{◌≡◌, ℕ, ◌+◌, ◌-◌, ◌≤◌, ◌<◌, not, true, T, ltb, eqb}
use Rattle.basics.specs.Choice.{pick}
use Rattle.basics.specs.Lists.{tally}
use Rattle.threshold.specs.Order.{comparable, key}
use Rattle.threshold.specs.Laws.{Measured}
use Rattle.sheet.specs.Sheet.{Sheet, label_of, row_at, value_at, count_of, place_of, before_cut, every_row}
use Rattle.sheet.specs.Sound.{Sound}
use Rattle.sheet.specs.Rows.{sent_left, rows_at}
use Rattle.tree.specs.declared.Question.{Question}
use Rattle.tree.specs.declared.Side.{Side}
use Rattle.leaves_score.specs.Column.{other}
use Rattle.leaves_score.specs.Root.{preceding_place, cut_question, sides_at, errors_at}
use Rattle.side_laws.specs.Opt.{answer, mistakes, Proper}

-- ---- a cut

-- the value at the preceding cut's place is the value just before the cut; the threshold is a value that a sheet may hold, and sends left just the rows
-- placed before the cut, and so many
pub record AtCut (s : Sheet) (c k : ℕ) : Type 0 where
  pub precedes : key (value_at s c (preceding_place s c k)) ≡ key (value_at s c (place_of s c k - 1))
  pub in_range : Measured (cut_question s c k).threshold
  pub parts : (i : ℕ) → i < s.rows → sent_left s (cut_question s c k) (row_at s c i) ≡ ltb i (place_of s c k)
  pub lefts : rows_at s (sent_left s (cut_question s c k)) ≡ before_cut s c k
  pub rights : before_cut s c k + rows_at s (other (sent_left s (cut_question s c k))) ≡ s.rows

abbrev pub AtCuts : Type 0
AtCuts = (s : Sheet) → Sound s → (c k : ℕ) → c < s.columns → k < count_of s c → AtCut s c k

-- ---- two cuts

-- With support at most 1 left errors grow with the cut and right errors fall; moving the cut by some rows changes neither by more than their number.
-- What the search of a column asks of its evaluator.
pub record Moved (s : Sheet) (support c i j : ℕ) : Type 0 where
  pub ascends : before_cut s c i ≤ before_cut s c j
  pub lefts : (errors_at s support c i).0 ≤ (errors_at s support c j).0
  pub rights : (errors_at s support c j).1 ≤ (errors_at s support c i).1
  pub left_near : (errors_at s support c j).0 ≤ (errors_at s support c i).0 + (before_cut s c j - before_cut s c i)
  pub right_near : (errors_at s support c i).1 ≤ (errors_at s support c j).1 + (before_cut s c j - before_cut s c i)

abbrev pub Moves : Type 0
Moves =
    (s : Sheet) → Sound s → (support : ℕ) → support ≤ 1 → (c i j : ℕ) → c < s.columns → i ≤ j → j < count_of s c → Moved s support c i j

-- each cut has more rows before it than the one before
abbrev pub Ascends : Type 0
Ascends = (s : Sheet) → Sound s → (c i j : ℕ) → c < s.columns → i < j → j < count_of s c → before_cut s c i < before_cut s c j

-- ---- any root threshold

-- the two questions send the same rows left
abbrev pub SameRows : Sheet → Question → Question → Type 0
SameRows s q p = (r : ℕ) → r < s.rows → sent_left s q r ≡ sent_left s p r

-- one that leaves rows on both sides parts the rows as a cut of its column does
abbrev pub AnyRoot : Type 0
AnyRoot =
    (s : Sheet) → Sound s → (q : Question) → q.column < s.columns → T (comparable q.threshold)
    → 1 ≤ rows_at s (sent_left s q) → 1 ≤ rows_at s (other (sent_left s q))
    → (k : ℕ) × (k < count_of s q.column) × SameRows s q (cut_question s q.column k)

-- the mistakes of a tree that asks q first, and l or r of the rows on its two sides
unfoldable pub root_mistakes : Sheet → Question → Side → Side → ℕ
root_mistakes s q l r = tally (λ x. not (eqb (label_of s x) (pick (sent_left s q x) (answer s l x) (answer s r x)))) (every_row s)

-- at every support: the mistakes of the tree that a cut gives are its two errors
abbrev pub CutMistakes : Type 0
CutMistakes =
    (s : Sheet) → Sound s → (support c k : ℕ)
    → root_mistakes s (cut_question s c k) (sides_at s support c k).left (sides_at s support c k).right
    ≡ (errors_at s support c k).0 + (errors_at s support c k).1

-- with support at most 1: no tree whose root leaves rows on both sides makes fewer mistakes than some cut of its column
abbrev pub RootLeast : Type 0
RootLeast =
    (s : Sheet) → Sound s → (support : ℕ) → support ≤ 1 → (q : Question) → q.column < s.columns → T (comparable q.threshold)
    → 1 ≤ rows_at s (sent_left s q) → 1 ≤ rows_at s (other (sent_left s q)) → (l r : Side) → Proper s l → Proper s r
    → (k : ℕ) × (k < count_of s q.column) × ((errors_at s support q.column k).0 + (errors_at s support q.column k).1 ≤ root_mistakes s q l r)

-- nor does a leaf or a question that is asked of every row: a root that sends all rows to one side gains nothing
abbrev pub OneSide : Type 0
OneSide =
    (s : Sheet) → Sound s → (support : ℕ) → support ≤ 1 → (c : ℕ) → c < s.columns → (k : ℕ) (x : Side) → Proper s x
    → (errors_at s support c k).0 + (errors_at s support c k).1 ≤ mistakes s (λ _. true) x
