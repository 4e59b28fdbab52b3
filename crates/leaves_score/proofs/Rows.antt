-- Counting the rows of a side one by one: each row adds one to the count of its label and to the side's size, if it is the side's. Assumes nothing.
use Prim.Native.Nat.{ℕ, zero, suc, ◌+◌, ◌≤◌, ◌<◌}
use native.Mathlib.Omega.{arith}
use native.Mathlib.Numerals.{add-one}
use mathlib.Core.Path.{◌≡◌, refl, sym, ap, ap₂, subst, ◌∙◌}
use mathlib.Core.Bool.{Bool, true, false, not, ◌&&◌}
use mathlib.Core.List.{List, [], ◌∷◌}
use lib.ListN.{length, get_or, set, length-set, length-replicate}
use lib.Seq.{ext_get_or, get_or-set_same, get_or-set_other}
use lib.Dec.{eqb}
use borrow.Author.Tests.{eq-eqb, ne_eqb}
use Rattle.basics.specs.Choice.{bit}
use Rattle.basics.specs.Lists.{tally, table}
use Rattle.basics.proofs.Lists.{tally_le, get_d_table, length_table}
use Rattle.sheet.specs.Limits.{most_labels}
use Rattle.sheet.specs.Sheet.{label_of}
use Rattle.sheet.specs.Rows.{rows_at}
use Rattle.side_scan.specs.Counts.{no_rows}
use Rattle.side_scan.specs.OneSide.{raised}
use Rattle.leaves_score.specs.declared.two_sides.Part.{Part}
use Rattle.leaves_score.specs.Column.{other, labelled, own_of}
use Rattle.leaves_score.specs.SideLists.{rows_only, part_of, parts_of}
use Rattle.leaves_score.specs.Lists.{go_left}
use Rattle.leaves_score.proofs.Counts.{raised_at, raised_long, none_at}

-- what holds of both sides' numbers
pub by_two {ℓ} : (P : ℕ → Type ℓ) (k : ℕ) → k < 2 → P 0 → P 1 → P k
by_two P zero h p q = p
by_two P (suc zero) h p q = q
by_two P (suc (suc k)) h p q = absurd (omega arith)

-- a mark is the number of a side
pub left_number : (marks : List ℕ) (r : ℕ) → get_or marks r 0 ≡ 0 → go_left marks r ≡ true
left_number marks r e = eq-eqb (get_or marks r 0) 0 e

pub right_number : (marks : List ℕ) (r : ℕ) → get_or marks r 0 ≡ 1 → go_left marks r ≡ false
right_number marks r e = ne_eqb (get_or marks r 0) 0 (λ z. absurd (omega (arith, e, z)))

-- one row more, at the end
tally_last : (p : ℕ → Bool) (f : ℕ → ℕ) (n : ℕ) → tally p (table f (suc n)) ≡ tally p (table f n) + bit (p (f n))
tally_last p f zero = omega arith
tally_last p f (suc n) = omega (arith, tally_last p (λ k. f (suc k)) n)

and_true : (a b : Bool) → a ≡ true → bit (a && b) ≡ bit b
and_true a b e = rw e

and_false : (a b : Bool) → a ≡ false → bit (a && b) ≡ 0
and_false a b e = rw e

bit_yes : (a : Bool) → a ≡ true → bit a ≡ 1
bit_yes a e = rw e

bit_no : (a : Bool) → a ≡ false → bit a ≡ 0
bit_no a e = rw e

module _ (codes : List ℕ) (mine : ℕ → Bool) where
  abbrev of_label : ℕ → ℕ → Bool
  of_label l r = mine r && eqb (get_or codes r 0) l

  -- the counts are those of the first n rows
  pub record Tallied (n : ℕ) (own : List ℕ) (size : ℕ) : Type 0 where
    pub long : length own ≡ most_labels
    pub each : (l : ℕ) → l < most_labels → get_or own l 0 ≡ tally (of_label l) (table (λ r. r) n)
    pub all : size ≡ tally mine (table (λ r. r) n)

  pub none_yet : Tallied 0 no_rows 0
  none_yet = record { long = length-replicate {A = ℕ} most_labels 0; each = λ l h. none_at l h; all = refl }

  one_more : (n : ℕ) (own : List ℕ) (size label : ℕ) → mine n ≡ true → label ≡ get_or codes n 0 → Tallied n own size → Tallied (n + 1) (raised own label) (size + 1)
  one_more n own size label m e t =
      record {
        long = raised_long own label ∙ t.long;
        each = λ l h. rw add-one (counts l h);
        all = rw (add-one n) (omega (arith, t.all, tally_last mine (λ r. r) n, bit_yes (mine n) m));
      }
    where
      counts : (l : ℕ) → l < most_labels → get_or (raised own label) l 0 ≡ tally (of_label l) (table (λ r. r) (suc n))
      counts l h =
          omega (
            arith,
            raised_at own label l (omega (arith, t.long)),
            t.each l h,
            tally_last (of_label l) (λ r. r) n,
            and_true (mine n) (eqb (get_or codes n 0) l) m,
            ap (λ (x : ℕ). bit (eqb x l)) e,
          )

  none_more : (n : ℕ) (own : List ℕ) (size : ℕ) → mine n ≡ false → Tallied n own size → Tallied (n + 1) own size
  none_more n own size m t =
      record {
        long = t.long;
        each = λ l h. rw add-one (omega (arith, t.each l h, tally_last (of_label l) (λ r. r) n, and_false (mine n) (eqb (get_or codes n 0) l) m));
        all = rw (add-one n) (omega (arith, t.all, tally_last mine (λ r. r) n, bit_no (mine n) m));
      }

  module _ (n : ℕ) (own : List ℕ) (size : ℕ) (t : Tallied n own size) where
    count_low : (l : ℕ) → l < most_labels → get_or own l 0 ≤ n
    count_low l h = omega (arith, t.each l h, tally_le (of_label l) (table (λ r. r) n), length_table (λ (r : ℕ). r) n)

    size_low : size ≤ n
    size_low = omega (arith, t.all, tally_le mine (table (λ r. r) n), length_table (λ (r : ℕ). r) n)

    own_is : own ≡ own_of (rows_only n codes) mine
    unfolding own_of labelled label_of
    own_is =
        ext_get_or {A = ℕ} 0 own (table (labelled (rows_only n codes) mine) most_labels) (t.long ∙ sym (length_table (labelled (rows_only n codes) mine) most_labels))
        (λ l h. t.each l (within l h) ∙ sym (get_d_table (labelled (rows_only n codes) mine) most_labels l 0 (within l h)))
      where
        within : (l : ℕ) → l < length own → l < most_labels
        within l h = omega (arith, t.long)

    size_is : size ≡ rows_at (rows_only n codes) mine
    unfolding rows_at
    size_is = t.all

-- ---- a list by the side's number, of which one place changes

pub record Changed {A : Type 0} (xs ys : List A) (side : ℕ) (y d : A) : Type 0 where
  pub two : length ys ≡ 2
  pub at : get_or ys side d ≡ y
  pub elsewhere : (k : ℕ) → (k ≡ side → ⊥) → get_or ys k d ≡ get_or xs k d

pub set_at : {A : Type 0} (xs : List A) (side : ℕ) (y d : A) → length xs ≡ 2 → side < 2 → Changed xs (set xs side y) side y d
set_at xs side y d h l =
    record { two = length-set xs side y ∙ h; at = get_or-set_same xs side y d (omega arith); elsewhere = λ k n. get_or-set_other xs side k y d n }

-- ---- both sides, their rows by number

-- what a list of them has past its end
abbrev pub no_part : Part
no_part = record { own = []; size = 0 }

abbrev pub at : List Part → ℕ → Part
at parts k = get_or parts k no_part

pub record Parting (codes marks : List ℕ) (row : ℕ) (parts : List Part) : Type 0 where
  pub two : length parts ≡ 2
  pub left : Tallied codes (go_left marks) row (at parts 0).own (at parts 0).size
  pub right : Tallied codes (other (go_left marks)) row (at parts 1).own (at parts 1).size

module _ (codes marks : List ℕ) (row : ℕ) (parts : List Part) (h : Parting codes marks row parts) where
  -- a label of either side, and a side, counts no more rows than were met
  pub met : (side label : ℕ) → side < 2 → label < most_labels → get_or (at parts side).own label 0 ≤ row
  met side label s l =
      by_two (λ k. get_or (at parts k).own label 0 ≤ row) side s
      (count_low codes (go_left marks) row (at parts 0).own (at parts 0).size h.left label l)
      (count_low codes (other (go_left marks)) row (at parts 1).own (at parts 1).size h.right label l)

  pub size_met : (side : ℕ) → side < 2 → (at parts side).size ≤ row
  size_met side s =
      by_two (λ k. (at parts k).size ≤ row) side s
      (size_low codes (go_left marks) row (at parts 0).own (at parts 0).size h.left)
      (size_low codes (other (go_left marks)) row (at parts 1).own (at parts 1).size h.right)

  module _ (label side : ℕ) (el : label ≡ get_or codes row 0) (es : side ≡ get_or marks row 0) (in_two : side < 2) (next : Part)
      (e : next ≡ record { own = raised (at parts side).own label; size = (at parts side).size + 1 }) where
    abbrev now : List Part
    now = set parts side next

    changed : Changed parts now side next no_part
    changed = set_at parts side next no_part h.two in_two

    counted : (k : ℕ) → side ≡ k → at now k ≡ record { own = raised (at parts k).own label; size = (at parts k).size + 1 }
    counted k q = subst (λ (k : ℕ). at now k ≡ record { own = raised (at parts k).own label; size = (at parts k).size + 1 }) q (changed.at ∙ e)

    to_left : side ≡ 0 → Parting codes marks (row + 1) now
    to_left zeroth =
        let m : go_left marks row ≡ true = left_number marks row (sym es ∙ zeroth) in
        record {
          two = changed.two;
          left = rw (counted 0 zeroth) (one_more codes (go_left marks) row (at parts 0).own (at parts 0).size label m el h.left);
          right = rw (changed.elsewhere 1 (λ e. absurd (omega (arith, e, zeroth)))) (none_more codes (other (go_left marks)) row (at parts 1).own (at parts 1).size (ap not m) h.right);
        }

    to_right : side ≡ 1 → Parting codes marks (row + 1) now
    to_right first =
        let m : go_left marks row ≡ false = right_number marks row (sym es ∙ first) in
        record {
          two = changed.two;
          left = rw (changed.elsewhere 0 (λ e. absurd (omega (arith, e, first)))) (none_more codes (go_left marks) row (at parts 0).own (at parts 0).size m h.left);
          right = rw (counted 1 first) (one_more codes (other (go_left marks)) row (at parts 1).own (at parts 1).size label (ap not m) el h.right);
        }

    pub parts_on : Parting codes marks (row + 1) now
    parts_on = by_two (λ k. side ≡ k → Parting codes marks (row + 1) now) side in_two to_left to_right refl

two_are : {A : Type 0} (xs : List A) (d : A) → length xs ≡ 2 → xs ≡ get_or xs 0 d ∷ get_or xs 1 d ∷ []
two_are [] d e = absurd (omega (arith, e))
two_are (x ∷ []) d e = absurd (omega (arith, e))
two_are (x ∷ y ∷ []) d e = refl
two_are (x ∷ y ∷ z ∷ xs) d e = absurd (omega (arith, e))

-- all rows are parted
pub parted : (codes marks : List ℕ) (rows row : ℕ) (parts : List Part) → row ≡ rows → Parting codes marks row parts → parts ≡ parts_of rows codes marks
parted codes marks rows row parts all h =
    let one : (mine : ℕ → Bool) (p : Part) → Tallied codes mine row p.own p.size → p ≡ part_of row codes mine =
    λ mine p t. ap₂ (λ (own : List ℕ) (size : ℕ). record { own = own; size = size }) (own_is codes mine row p.own p.size t) (size_is codes mine row p.own p.size t) in
    two_are parts no_part h.two
    ∙ ap₂ (λ (l r : Part). l ∷ r ∷ []) (one (go_left marks) (at parts 0) h.left) (one (other (go_left marks)) (at parts 1) h.right)
    ∙ ap (λ (n : ℕ). parts_of n codes marks) all
