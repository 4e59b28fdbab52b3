-- For a signer. What holds of the search of an accepted sheet, as statements; `proofs/` proves each.
use Rattle.std.specs.Prelude.{◌≡◌, ℕ, zero, suc, ◌+◌, ◌-◌, ◌*◌, ◌≤◌, ◌<◌, List, leb}
use Rattle.std.proofs.Math.Option.{Option, none}
use Rattle.basics.specs.Choice.{pick, Hit}
use Rattle.sheet.specs.declared.Terms.{Terms}
use Rattle.sheet.specs.Sheet.{Sheet, count_of}
use Rattle.tree.specs.declared.Tree.{Tree}
use Rattle.tree.specs.declared.Answer.{Answer}
use Rattle.tree.specs.Answer.{side_error, rule_of}
use Rattle.leaves_score.specs.Root.{errors_at}
use Rattle.column_turns.specs.Promise.{Whole, feasible_at}
use Rattle.depth2.specs.Search.{Progress, progress_after_column, searched, answer_holding}
use Rattle.depth2.specs.Promise.{SearchedOf}

-- f, the number of feasible cuts of column c
abbrev pub feasible_count : Sheet → Terms → ℕ → ℕ
feasible_count s t c = (feasible_at s t c).end - (feasible_at s t c).first

-- "at most 2f−1 tries are made", summed over the columns that are entered: n columns from c on, from a progress
unfoldable pub most_tried : Sheet → Terms → ℕ → ℕ → Progress → ℕ
most_tried s t zero c p = 0
most_tried s t (suc n) c p =
    let next : Progress = progress_after_column s t c p in
    let rest : ℕ = most_tried s t n (suc c) next in
    2 * feasible_count s t c - 1 + pick (leb next.error t.gap) 0 rest

abbrev pub TriesSummed : Type 0
TriesSummed =
    (s : Sheet) (t : Terms) → Whole s
    → (searched s t).tried ≤ most_tried s t s.columns 0 (record { error = t.error; best = none; tried = 0 })

-- the two sides' errors at cut number k of column c, together
abbrev pub cut_error : Sheet → Terms → ℕ → ℕ → ℕ
cut_error s t c k = (errors_at s t.support c k).0 + (errors_at s t.support c k).1

-- a cut of the sheet whose error it is
abbrev pub MakesError : Sheet → Terms → ℕ → ℕ × ℕ → Type 0
MakesError s t error cut = (cut.0 < s.columns) × (cut.1 < count_of s cut.0) × (error ≡ cut_error s t cut.0 cut.1)

-- The final error is not above the starting one. Where it is lower it is the error of the cut named best; where it is not, no cut is named, and nothing
-- is found.
pub record Bettered (s : Sheet) (t : Terms) (error : ℕ) (p : Progress) : Type 0 where
  pub falls : p.error ≤ error
  pub named : p.error < error → Hit (MakesError s t p.error) p.best
  pub stays : error ≤ p.error → p.best ≡ none

abbrev pub ErrorFalls : Type 0
ErrorFalls = (s : Sheet) (t : Terms) → Whole s → Bettered s t t.error (searched s t)

-- A rule is found exactly if the final error is below the starting one. Its error is then the final one, and that of its two sides together.
pub record FoundIf (s : Sheet) (t : Terms) (p : Progress) (rule : Option Tree) : Type 0 where
  pub lower : p.error < t.error → Hit (λ (tree : Tree). (tree.error ≡ p.error) × (tree.error ≡ side_error tree.left + side_error tree.right)) rule
  pub kept : t.error ≤ p.error → rule ≡ none

abbrev pub FoundExactly : Type 0
FoundExactly = (s : Sheet) (t : Terms) → Whole s → let p : Progress = searched s t in FoundIf s t p (rule_of (answer_holding s t p p.best))

-- "show that two outcomes fitting the contract coincide"
abbrev pub SearchesCoincide : Type 0
SearchesCoincide =
    (s : Sheet) (t : Terms) (scratch : List ℕ) (a b : Answer) (after other : List ℕ)
    → SearchedOf s t scratch a after → SearchedOf s t scratch b other → (a ≡ b) × (after ≡ other)
