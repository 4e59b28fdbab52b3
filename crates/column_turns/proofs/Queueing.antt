-- The queue after step 5: a part that is not empty is the last to wait, an empty one changes nothing; and an interval's parts are made of cuts that
-- fit words. Assumes nothing.
use mathlib.Core.Path.{◌≡◌, refl, sym, ap, ◌∙◌, subst}
use Prim.Native.Nat.{ℕ, ◌+◌, ◌/◌, ◌≤◌, ◌<◌}
use native.Mathlib.Omega.{arith}
use native.Mathlib.Nat.{mul-div_cancel_left}
use mathlib.Core.List.{List, [], ◌∷◌, ◌++◌, append_assoc, append-nil}
use lib.ListN.{length, length-append}
use lib.Dec.{leb, eqb, le→leb}
use Rattle.basics.proofs.Choice.{by_test, pick_true, pick_false, nleb, eqb_no, eqb_yes}
use Rattle.sheet.specs.Limits.{most_rows}
use Rattle.std.specs.Prelude.{Option, Some, None}
use Rattle.interval_pruner.specs.declared.Bound.{Bound}
use Rattle.interval_pruner.specs.declared.Parts.{Parts}
use Rattle.interval_pruner.specs.Column.{recorded_column}
use Rattle.interval_pruner.specs.Pruner.{parts_of, Held}
use Rattle.interval_queue.specs.declared.Queue.{Queue}
use Rattle.interval_queue.specs.Ring.{slots_of, contents, full, pushed, pushed_words}
use Rattle.interval_queue.specs.Laws.{Sane, SmallCut}
use Rattle.interval_queue.proofs.Waiting.{push_appends}
use Rattle.column_search.specs.Search.{part, upper_part, lower_part}
use Rattle.column_search.proofs.Steps.{sides}
use Rattle.column_turns.specs.declared.Words.{Words}
use Rattle.column_turns.specs.Ready.{SameWords, EnoughWords}
use Rattle.column_turns.specs.declared.Parting.{Parting}
use Rattle.column_turns.specs.Parts.{Pushing, Queued, PartsWaiting, parts_queued, parted}
use Rattle.column_turns.proofs.Lent.{same_then, same_words}

-- as many slots as rows
pub ring_slots : (rows : ℕ) (words : Words) → EnoughWords rows words → slots_of words.ring.now ≡ rows
ring_slots rows words enough = ap (λ (n : ℕ). n / 4) enough.ring_size ∙ mul-div_cancel_left rows (omega arith)

pub part_full : (i : Bound) → i.first ≤ i.last → part i ≡ i ∷ []
unfolding part
part_full i h = pick_true (leb i.first i.last) (i ∷ []) [] (le→leb i.first i.last h)

pub part_none : (i : Bound) → i.last < i.first → part i ≡ []
unfolding part
part_none i h = pick_false (leb i.first i.last) (i ∷ []) [] (nleb i.first i.last h)

pushed_waiting : (words : List ℕ) (q : Queue) → (pushed words q).waiting ≤ q.waiting + 1
unfolding pushed
pushed_waiting words q = by_test (λ (z : Queue). z.waiting ≤ q.waiting + 1) (full words q) (λ _. omega arith) (λ _. omega arith)

module _ (xs : Words) (q : Queue) (i : Bound) (pushing : Pushing xs q i) where
  pub part_pushed : (ys : Words) (r : Queue) → i.first ≤ i.last → r ≡ pushed xs.ring.now q → ys.ring.now ≡ pushed_words xs.ring.now q i
      → ys.table.now ≡ xs.table.now → SameWords xs ys → Queued xs ys q r (part i)
  part_pushed ys r h e ring_is table_is kept =
      let law = push_appends xs.ring.now q i pushing.sane pushing.room (pushing.small h) in
      let sane : Sane ys.ring.now r =
      subst (λ (z : Queue). Sane ys.ring.now z) (sym e) (subst (λ (w : List ℕ). Sane w (pushed xs.ring.now q)) (sym ring_is) law.1) in
      record {
        contents_are = (λ t. contents (ring_is t) (e t)) ∙ law.0 ∙ ap (λ (l : List Bound). contents xs.ring.now q ++ l) (sym (part_full i h));
        sane = sane;
        waiting = omega (arith, ap (λ (z : Queue). z.waiting) e, pushed_waiting xs.ring.now q, ap length (part_full i h));
        table_is = table_is;
        kept = kept;
      }

-- nothing was queued, and nothing written
pub none_queued : (xs : Words) (q : Queue) (more : List Bound) → Sane xs.ring.now q → more ≡ []
    → Queued xs xs q q more
none_queued xs q more sane e =
    record {
      contents_are = sym (append-nil (contents xs.ring.now q)) ∙ ap (λ (l : List Bound). contents xs.ring.now q ++ l) (sym e);
      sane = sane;
      waiting = omega arith;
      table_is = refl;
      kept = same_words xs;
    }

-- one after the other
pub both_queued : (xs ys zs : Words) (q r u : Queue) (l m : List Bound) → Queued xs ys q r l → Queued ys zs r u m
    → Queued xs zs q u (l ++ m)
both_queued xs ys zs q r u l m a b =
    record {
      contents_are =
          b.contents_are ∙ ap (λ (k : List Bound). k ++ m) a.contents_are ∙ append_assoc (contents xs.ring.now q) l m;
      sane = b.sane;
      waiting = omega (arith, a.waiting, b.waiting, length-append l m);
      table_is = b.table_is ∙ a.table_is;
      kept = same_then a.kept b.kept;
    }

-- ---- the two parts

small_cut : (n : ℕ) (t : Option ℕ) → n ≤ most_rows → Held (λ k. k < n) t → SmallCut t
small_cut n None h g = tt
small_cut n (Some k) h g = omega arith

part_few : (i : Bound) → length (part i) ≤ 1
unfolding part
part_few i = by_test (λ (l : List Bound). length l ≤ 1) (leb i.first i.last) (λ _. omega arith) (λ _. omega arith)

module _ (places : List ℕ) (p : Parting) (queue : Queue) (xs : Words) (parting : PartsWaiting places p queue xs) where
  abbrev parts : Parts
  parts = parts_of (recorded_column places [] p.reach.gap p.reach.small) p.zeros p.reach.excess p.cut p.bound.first

  pub upper_pushing : Pushing xs queue (upper_part p.bound p.cut parts.upper)
  upper_pushing =
      record {
        sane = parting.sane;
        room = omega (arith, parting.room);
        small =
            λ h. record {
              first = omega (arith, parting.till, parting.listed);
              last = omega (arith, parting.till, parting.listed);
              left = omega (arith, parting.to_last, parting.till, parting.listed);
              right = small_cut (length places) p.bound.right parting.listed parting.right;
            };
      }

  pub lower_pushing : (ys : Words) (r : Queue) → Queued xs ys queue r (part (upper_part p.bound p.cut parts.upper))
      → Pushing ys r (lower_part p.bound p.cut parts.lower)
  lower_pushing ys r a =
      record {
        sane = a.sane;
        room = omega (arith, parting.room, a.waiting, part_few (upper_part p.bound p.cut parts.upper), ap (λ (n : ℕ). n / 4) a.kept.ring_size);
        small =
            λ h. record {
              first = omega (arith, parting.full, parting.till, parting.listed);
              last =
                  omega (
                    arith,
                    (sides (recorded_column places [] p.reach.gap p.reach.small) p.zeros p.reach.excess p.cut p.bound.first parting.from_first parting.placed).1,
                    parting.to_last,
                    parting.till,
                    parting.listed,
                  );
              left = small_cut (length places) p.bound.left parting.listed parting.left;
              right = omega (arith, parting.to_last, parting.till, parting.listed);
            };
      }

  pub parts_none : p.bound.first ≡ p.bound.last → parted places p ≡ []
  unfolding parts_queued
  parts_none e = pick_true (eqb p.bound.first p.bound.last) [] _ (eqb_yes p.bound.first p.bound.last e)

  pub parts_both : (p.bound.first ≡ p.bound.last → ⊥)
      → parted places p ≡ part (upper_part p.bound p.cut parts.upper) ++ part (lower_part p.bound p.cut parts.lower)
  unfolding parts_queued
  parts_both n = pick_false (eqb p.bound.first p.bound.last) [] _ (eqb_no p.bound.first p.bound.last n)
