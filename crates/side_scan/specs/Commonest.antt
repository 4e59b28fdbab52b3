-- For a signer. The commonest label, and the running maximum that finds it. Definitions, and the law that they agree; `proofs/Commonest.antt` proves it.
use Rattle.std.specs.Prelude.{◌≡◌, ℕ, zero, suc, ◌≤◌, ltb, pos, negsuc}
use Rattle.std.specs.Int.Signed.{lt_z}
use Rattle.basics.specs.Choice.{pick}
use Rattle.side_scan.specs.declared.best_counts.Run.{Run}

-- "its commonest label, smallest code on ties": the smallest of the codes below n with the greatest count
unfoldable pub commonest : (ℕ → ℕ) → ℕ → ℕ
commonest f zero = 0
commonest f (suc n) = let l = commonest f n in pick (ltb (f l) (f n)) n l

-- its count
unfoldable pub most_of : (ℕ → ℕ) → ℕ → ℕ
most_of f n = f (commonest f n)

-- A running maximum over the counts of the labels: its score, and the label that has it; one label more, with its count
abbrev pub run_on : Run → ℕ → ℕ → Run
run_on r label count = pick (lt_z r.score (pos count)) (record { score = pos count; label = label }) r

-- "Best scores start at minus one, so a label with no rows still counts as 0; the smallest code wins ties."
abbrev pub no_label : Run
no_label = record { score = negsuc 0; label = 0 }

unfoldable pub run_to : (ℕ → ℕ) → ℕ → Run
run_to f zero = no_label
run_to f (suc n) = run_on (run_to f n) n (f n)

-- from one label on it is no longer negative, and it is the commonest label's count
abbrev pub Ran : Type 0
Ran = (f : ℕ → ℕ) (n : ℕ) → 1 ≤ n → run_to f n ≡ record { score = pos (most_of f n); label = commonest f n }
