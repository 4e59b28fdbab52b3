-- Which answer is given where: each reason's test, with those before it passed. Assumes nothing.
use mathlib.Core.Path.{◌≡◌, refl, sym, ap, ◌∙◌}
use Prim.Native.Nat.{ℕ, ◌*◌, ◌≤◌, ◌<◌}
use native.Mathlib.Omega.{arith}
use native.Mathlib.Nat.{mul-le-mul}
use mathlib.Core.Bool.{Bool, true, false, not, ◌&&◌}
use mathlib.Core.List.{List}
use lib.ListN.{length, get_or}
use lib.Dec.{T, ltb, eqb, eqb→eq}
use lib.Ieee.{Float, nan, binary64, fits}
use borrow.Author.Tests.{eqb-true, ltb-false, le-ltb, eq-eqb}
use Rattle.basics.specs.Choice.{pick}
use Rattle.basics.proofs.Choice.{and_left, and_right}
use Rattle.basics.proofs.Walk.{walked, walk_unique}
use Rattle.std.specs.Prelude.{Ok, Err}
use Rattle.threshold.proofs.Keys.{finite_comparable}
use Rattle.threshold.specs.Threshold.{within}
use Rattle.threshold.proofs.Law.{within_finite}
use Rattle.sheet.specs.declared.refusals.Refusal.{Refusal}
use Rattle.sheet.specs.Limits.{most_rows, most_columns}
use Rattle.sheet.specs.Check.{grid_holds, bad_value, first_bad_value, Verdict, reason}
use Rattle.sheet.proofs.Answer.{rows_inside, columns_inside}
use Rattle.prepare.specs.Prepared.{exact_room, prepare_of}
use Rattle.prepare.specs.Steps.{Columns}

-- ---- the limits

module _ (rows columns : ℕ) where
  pub record Limits : Type 0 where
    pub rows_some : 1 ≤ rows
    pub rows_most : rows ≤ most_rows
    pub columns_some : 1 ≤ columns
    pub columns_most : columns ≤ most_columns

  pub limits : grid_holds rows columns ≡ true → Limits
  limits e =
      let t : T (grid_holds rows columns) = rw e tt in
      let r = rows_inside rows columns t in
      let c = columns_inside rows columns t in
      record { rows_some = r.0; rows_most = r.1; columns_some = c.0; columns_most = c.1 }

  pub cells_most : Limits → rows * columns ≤ most_rows * most_columns
  cells_most l = mul-le-mul l.rows_most l.columns_most

-- ---- the room

module _ (cells columns orders cuts counts : ℕ) where
  pub by_counts : orders ≡ cells → cuts ≡ cells → eqb counts columns ≡ exact_room cells columns orders cuts counts
  unfolding exact_room
  by_counts e f =
      sym (ap (λ (b : Bool). b && eqb cuts cells && eqb counts columns) (eq-eqb orders cells e)
      ∙ ap (λ (b : Bool). b && eqb counts columns) (eq-eqb cuts cells f))

  pub record Room : Type 0 where
    pub orders_exact : orders ≡ cells
    pub cuts_exact : cuts ≡ cells
    pub counts_exact : counts ≡ columns

  pub room : exact_room cells columns orders cuts counts ≡ true → Room
  unfolding exact_room
  room e =
      let t : T (exact_room cells columns orders cuts counts) = rw e tt in
      let a = eqb orders cells in
      let b = eqb cuts cells in
      let c = eqb counts columns in
      let ab = and_left (a && b) c t in
      record {
        orders_exact = eqb→eq orders cells (and_left a b ab);
        cuts_exact = eqb→eq cuts cells (and_right a b ab);
        counts_exact = eqb→eq counts columns (and_right (a && b) c t);
      }

-- ---- the first value outside the limit

module _ (values : List Float) where
  abbrev bad : ℕ → Bool
  bad i = not (within (get_or values i nan))

  -- none of the first i values is
  pub record Passing (i : ℕ) : Type 0 where
    pub high : i ≤ length values
    pub before : (j : ℕ) → j < i → T (not (bad j))

  pub stops_nowhere : (i : ℕ) → Passing i → length values ≤ i → i ≡ first_bad_value values
  unfolding bad_value
  stops_nowhere i p h =
      sym (walk_unique bad (length values) 0 i
      (record { low = omega arith; high = omega (arith, p.high); before = λ j l h. p.before j h; found = λ l. absurd (omega arith) }))

  twice : (b : Bool) → T (not (not b)) → T b
  twice true t = tt
  twice false t = absurd t

  -- where there is none, every value is within the limit
  pub all_within : length values ≤ first_bad_value values → (i : ℕ) → i < length values → T (within (get_or values i nan))
  unfolding bad_value
  all_within h i l = twice (within (get_or values i nan)) ((walked bad (length values) 0).before i (omega arith) (omega arith))

-- ---- the answer

module _ (rows columns : ℕ) (values : List Float) (orders cuts counts : ℕ) where
  abbrev answer : Verdict
  answer = prepare_of rows columns values orders cuts counts

  pub answer_none : grid_holds rows columns ≡ true → length values ≡ rows * columns → exact_room (rows * columns) columns orders cuts counts ≡ true
      → length values ≤ first_bad_value values → Ok tt ≡ answer
  unfolding prepare_of reason pick
  answer_none e f g h = rw (e, eq-eqb (length values) (rows * columns) f, g, le-ltb (first_bad_value values) (length values) h)

  -- a call that does not turn back
  pub record Accepted : Type 0 where
    pub sized : Limits rows columns
    pub values_exact : length values ≡ rows * columns
    pub roomy : Room (rows * columns) columns orders cuts counts
    pub all_in : (i : ℕ) → i < length values → T (within (get_or values i nan))

  passed : (b : Bool) (why : Refusal) (rest : Verdict) → pick b rest (Err why) ≡ Ok tt → (b ≡ true) × (rest ≡ Ok tt)
  unfolding pick
  passed true why rest e = (refl, e)
  passed false why rest e = absurd cc

  failed : (b : Bool) (why : Refusal) (rest : Verdict) → pick b (Err why) rest ≡ Ok tt → b ≡ false
  unfolding pick
  failed true why rest e = absurd cc
  failed false why rest e = refl

  pub accepted : Ok tt ≡ answer → Accepted
  unfolding prepare_of reason
  accepted e =
      let one = passed (grid_holds rows columns) _ _ (sym e) in
      let two = passed (eqb (length values) (rows * columns)) _ _ one.1 in
      let three = passed (exact_room (rows * columns) columns orders cuts counts) _ _ two.1 in
      let five = failed (ltb (first_bad_value values) (length values)) _ _ three.1 in
      record {
        sized = limits rows columns one.0;
        values_exact = eqb-true (length values) (rows * columns) two.0;
        roomy = room (rows * columns) columns orders cuts counts three.0;
        all_in = all_within values (ltb-false (first_bad_value values) (length values) five);
      }

-- ---- the call

-- what is accepted can be prepared
pub preparable : (rows columns : ℕ) (values : List Float) (order cuts counts : List ℕ)
    → Ok tt ≡ prepare_of rows columns values (length order) (length cuts) (length counts)
    → ((i : ℕ) → T (fits binary64 (get_or values i nan))) → Columns rows columns values order cuts counts
preparable rows columns values order cuts counts e f =
    let a = accepted rows columns values (length order) (length cuts) (length counts) e in
    record {
      some_row = a.sized.rows_some;
      narrow = omega (arith, a.sized.rows_most);
      comparables = λ i h. finite_comparable (get_or values i nan) (within_finite (get_or values i nan) (a.all_in i h)) (f i);
      value_room = a.values_exact;
      order_room = a.roomy.orders_exact;
      cut_room = a.roomy.cuts_exact;
      count_room = a.roomy.counts_exact;
    }
