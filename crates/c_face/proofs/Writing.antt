-- How words come into the lent ones. Assumes nothing.
use mathlib.Core.Path.{◌≡◌, sym, ap, ◌∙◌}
use Prim.Native.Nat.{ℕ, ◌≤◌, ◌<◌}
use mathlib.Core.List.{List, ◌++◌}
use lib.ListN.{length, drop}
use lib.Dec.{le→leb}
use Rattle.basics.proofs.Choice.{pick_true, pick_false, nleb}
use Rattle.c_face.specs.Told.{written}

pub left_alone : (words answer : List ℕ) → length answer < length words → answer ≡ written words answer
unfolding written
left_alone words answer h = sym (pick_false _ _ _ (nleb (length words) (length answer) h))

pub all_written : (words answer copy : List ℕ) → length words ≤ length answer → copy ≡ words → copy ++ drop (length words) answer ≡ written words answer
unfolding written
all_written words answer copy room same =
    ap (λ (k : List ℕ). k ++ drop (length words) answer) same ∙ sym (pick_true _ _ _ (le→leb (length words) (length answer) room))
