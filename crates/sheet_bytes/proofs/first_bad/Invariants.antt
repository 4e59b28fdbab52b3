-- Of what the calls say, none so far is bad.
use Prim.Native.Nat.{ℕ, ◌<◌}
use mathlib.Core.Path.{◌≡◌}
use mathlib.Core.Bool.{Bool}
use Rattle.sheet.proofs.Search.{Clean}
use Rattle.sheet_bytes.proofs.first_bad.Given as goal

abbrev pub invariant-loop-place : goal.invariant-loop-place
invariant-loop-place g l =
    (test : ℕ → Bool) → ((place : ℕ) (said : Bool) → place < l.count → goal.F-post g l.bad place said → said ≡ test place) → Clean test l.place
