-- The lent words keep their lengths, and what is not the search's. Assumes nothing.
use mathlib.Core.Path.{◌≡◌, refl, sym, ap, ◌∙◌}
use Prim.Native.Nat.{ℕ, ◌+◌, ◌-◌, ◌*◌, ◌≤◌}
use native.Mathlib.Omega.{arith}
use mathlib.Core.List.{List, ◌++◌}
use lib.ListN.{length, drop, length-append, length-set}
use lib.Seq.{drop-append-add}
use Rattle.basics.proofs.Choice.{by_test}
use Rattle.interval_pruner.specs.declared.Bound.{Bound}
use Rattle.interval_queue.specs.declared.Queue.{Queue}
use Rattle.interval_queue.specs.Ring.{stored, pushed_words, full}
use Rattle.column_turns.specs.declared.Words.{Words}
use Rattle.column_turns.specs.Lent.{rest_of, Enough, RestKept}
use Rattle.column_turns.specs.Ready.{SameWords, EnoughWords}

-- ---- the three parts

pub pushed_length : (words : List ℕ) (q : Queue) (i : Bound) → length (pushed_words words q i) ≡ length words
unfolding pushed_words stored
pushed_length words q i = by_test (λ (l : List ℕ). length l ≡ length words) (full words q) (λ _. refl) (λ _. simp length-set)

-- one change after another, and none
pub same_then : {was words later : Words} → SameWords was words → SameWords words later → SameWords was later
same_then a b =
    record {
      table_memory = b.table_memory ∙ a.table_memory;
      ring_memory = b.ring_memory ∙ a.ring_memory;
      marks_memory = b.marks_memory ∙ a.marks_memory;
      table_size = b.table_size ∙ a.table_size;
      ring_size = b.ring_size ∙ a.ring_size;
      marks_size = b.marks_size ∙ a.marks_size;
    }

pub same_words : (words : Words) → SameWords words words
same_words words =
    record { table_memory = refl; ring_memory = refl; marks_memory = refl; table_size = refl; ring_size = refl; marks_size = refl }

pub enough_after : {rows : ℕ} {was words : Words} → EnoughWords rows was → SameWords was words → EnoughWords rows words
enough_after e k =
    record {
      some = e.some;
      few = e.few;
      table_size = k.table_size ∙ e.table_size;
      ring_size = k.ring_size ∙ e.ring_size;
      marks_size = k.marks_size ∙ e.marks_size;
    }

-- ---- the whole

pub kept_enough : (rows : ℕ) (was scratch : List ℕ) → Enough rows was → RestKept rows was scratch → Enough rows scratch
kept_enough rows was scratch e k = record { some = e.some; few = e.few; words = omega (arith, e.words, k.size) }

-- one change after another, and none
pub kept_then : (rows : ℕ) (was scratch later : List ℕ) → RestKept rows was scratch → RestKept rows scratch later → RestKept rows was later
kept_then rows was scratch later a b = record { size = b.size ∙ a.size; rest = b.rest ∙ a.rest }

pub kept_same : (rows : ℕ) (words : List ℕ) → RestKept rows words words
kept_same rows words = record { size = refl; rest = refl }

-- ---- what is past the three parts

past : (n : ℕ) (p q : List ℕ) → length p ≤ n → drop n (p ++ q) ≡ drop (n - length p) q
past n p q h =
    let e : n ≡ length p + (n - length p) = omega arith in
    ap (λ (m : ℕ). drop m (p ++ q)) e ∙ drop-append-add p q (n - length p)

past_parts : (n : ℕ) (t r m rest : List ℕ) → length t + length r + length m ≤ n
    → drop n (t ++ (r ++ (m ++ rest))) ≡ drop (n - length t - length r - length m) rest
past_parts n t r m rest h =
    past n t (r ++ (m ++ rest)) (omega arith)
    ∙ past (n - length t) r (m ++ rest) (omega arith)
    ∙ past (n - length t - length r) m rest (omega arith)

-- other words in the three parts leave the rest
pub parts_kept : (rows : ℕ) (t r m t' r' m' rest : List ℕ) → length t ≡ 2 * rows → length r ≡ 4 * rows → length m ≡ rows
    → length t' ≡ length t → length r' ≡ length r → length m' ≡ length m
    → RestKept rows (t ++ (r ++ (m ++ rest))) (t' ++ (r' ++ (m' ++ rest)))
unfolding rest_of
parts_kept rows t r m t' r' m' rest a b d a' b' d' =
    record {
      size = simp length-append (omega arith);
      rest =
          past_parts (8 * rows) t' r' m' rest (omega arith)
          ∙ (λ i. drop (8 * rows - a' i - b' i - d' i) rest)
          ∙ sym (past_parts (8 * rows) t r m rest (omega arith));
    }
