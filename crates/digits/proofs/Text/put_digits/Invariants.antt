-- `digits::Text::put_digits` meets its contract. The loop's invariant: storing the digits that are left in front of here gives the whole.
use mathlib.Core.Path.{◌≡◌}
use lib.ListN.{length}
use lib.Seq.{sets}
use Rattle.digits.specs.Digits.{digits_of}
use Rattle.digits.proofs.Text.put_digits.Given as goal

abbrev pub invariant-loop-place : goal.invariant-loop-place
invariant-loop-place l =
    record {
      place : l.self.at ≡ l.initial.self.at;
      memory : l.self.out.ghost_name ≡ l.initial.self.out.ghost_name;
      room : length l.self.out.now ≡ length l.initial.self.out.now;
      text : sets l.self.out.now l.self.at (digits_of l.base l.place l.rest) ≡ sets l.initial.self.out.now l.self.at (digits_of l.base l.count l.n);
    }
