-- What the preparer writes is sound and of the right lengths, and a sound sheet is never refused. Assumes nothing.
use mathlib.Core.Path.{◌≡◌, refl, ◌∙◌}
use Prim.Native.Nat.{ℕ, ◌*◌}
use native.Mathlib.Nat.{mul_comm, mul-one}
use mathlib.Core.List.{List, [], ◌∷◌}
use lib.ListN.{length}
use lib.Ieee.{Float}
use Rattle.sheet.specs.Laws.{Lengths}
use Rattle.sheet.proofs.Good.{sound_accepted}
use Rattle.prepare.specs.Lists.{rows_in_order, cut_slots, cut_count}
use Rattle.prepare.specs.Prepared.{column_values, order_list, cut_list, count_list}
use Rattle.prepare.specs.Laws.{prepared_sheet, Taken, NeverRefused}
use Rattle.prepare.proofs.Columns.{order_length}
use Rattle.prepare.proofs.Joining.{cuts_length, joined_length}
use Rattle.prepare.proofs.Answering.{accepted}
use Rattle.prepare.proofs.Soundness.{sound_sheet}

lengths : (rows columns labels : ℕ) (values : List Float) (codes : List ℕ) → Taken rows columns values → length codes ≡ rows
    → Lengths (prepared_sheet rows columns labels values codes)
unfolding order_list cut_list count_list
lengths rows columns labels values codes K e =
    record {
      values_all = (accepted rows columns values (rows * columns) (rows * columns) columns K.done).values_exact ∙ mul_comm rows columns;
      codes_all = e;
      order_all = joined_length (λ c. rows_in_order rows (column_values rows values c)) rows (λ c. order_length (column_values rows values c) rows) columns;
      cuts_all = joined_length (λ c. cut_slots rows (column_values rows values c)) rows (λ c. cuts_length rows (column_values rows values c)) columns;
      counts_all = joined_length (λ c. cut_count rows (column_values rows values c) ∷ []) 1 (λ c. refl) columns ∙ mul-one columns;
    }

pub never_refused : NeverRefused
never_refused rows columns labels values codes t words K low high long coded few room =
    sound_accepted (prepared_sheet rows columns labels values codes) t words (sound_sheet rows columns labels values codes K low high coded)
    (lengths rows columns labels values codes K long) room few
