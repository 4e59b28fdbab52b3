-- What the calls of a row's step say, put together: a cut is scored, and a row only counted or its cut scored first. Assumes nothing.
use Prim.Native.Nat.{ℕ}
use mathlib.Core.Path.{◌≡◌, sym, ap, ◌∙◌}
use mathlib.Core.Bool.{Bool, true, false}
use lib.Ieee.{Float}
use Rattle.std.specs.Prelude.{unwrap_or}
use Rattle.basics.specs.Choice.{pick}
use Rattle.side_scan.specs.declared.cut_score.Best.{Best}
use Rattle.side_scan.specs.declared.SideScan.{SideScan}
use Rattle.side_scan.specs.declared.cut_score.Cut.{Cut}
use Rattle.side_scan.specs.declared.cut_score.CutVerdict.{CutVerdict}
use Rattle.side_scan.specs.Scored.{fallen, quiet_by, verdict_of, split_by}
use Rattle.side_scan.specs.OneSide.{nought, quiet, cut_at, best_after, cut_scored, count_row, only_counted, scored, step_of}

pub scored_is : (t : SideScan) (column : ℕ) (value : Float) (k : Cut) (v : CutVerdict) (b : Best) → k ≡ cut_at t
    → v ≡ verdict_of k t.least t.best.score t.skip → b ≡ pick v.taken (split_by k column (unwrap_or t.previous nought) value) t.best
    → ◌≡◌ {A = SideScan} (record t { best = b; skip = v.skip; closed = v.closed }) (cut_scored t column value)
scored_is t column value k v b ek ev eb = cc

-- ---- a row, by the tests that it finds

pub stays_closed : (t : SideScan) (column label : ℕ) (value : Float) → t.closed ≡ true → t ≡ step_of t column label value
unfolding step_of pick
stays_closed t column label value h =
    sym (ap (λ (b : Bool). pick b t (pick (quiet t value) (only_counted t label value) (scored t column label value))) h)

opened : (t : SideScan) (column label : ℕ) (value : Float) (k : Bool) → t.closed ≡ false → quiet t value ≡ k
    → step_of t column label value ≡ pick k (only_counted t label value) (scored t column label value)
unfolding step_of pick
opened t column label value k h g =
    ap (λ (x : Bool). pick x t (pick (quiet t value) (only_counted t label value) (scored t column label value))) h
    ∙ ap (λ (x : Bool). pick x (only_counted t label value) (scored t column label value)) g

pub counts : (t : SideScan) (column label : ℕ) (value : Float) → t.closed ≡ false → quiet t value ≡ true → only_counted t label value ≡ step_of t column label value
unfolding pick
counts t column label value o q = sym (opened t column label value true o q)

-- with skip fallen, and the cut scored if the row is not quiet, the row is counted
abbrev fell : SideScan → ℕ → SideScan
fell t skip = record t { skip = skip }

abbrev counting : ℕ → Float → SideScan → SideScan
counting label value u = count_row u u.best u.skip u.closed label value

module _ (t : SideScan) (column label : ℕ) (value : Float) (skip : ℕ) (o : t.closed ≡ false) (e : skip ≡ fallen t.skip) where
  test : (b : Bool) → quiet_by t.previous value skip ≡ b → quiet t value ≡ b
  unfolding quiet
  test b q = sym (ap (quiet_by t.previous value) e) ∙ q

  pub only : quiet_by t.previous value skip ≡ true → counting label value (fell t skip) ≡ step_of t column label value
  unfolding only_counted count_row pick
  only q = ap (λ (n : ℕ). counting label value (fell t n)) e ∙ counts t column label value o (test true q)

  pub cuts : quiet_by t.previous value skip ≡ false → counting label value (cut_scored (fell t skip) column value) ≡ step_of t column label value
  unfolding scored best_after count_row pick
  cuts q = ap (λ (n : ℕ). counting label value (cut_scored (fell t n) column value)) e ∙ sym (opened t column label value false o (test false q))
