use mathlib.Core.Path.{◌≡◌, sym, ap, ◌∙◌}
use Prim.Native.Nat.{ℕ, ◌+◌, ◌-◌, ◌/◌}
use native.Mathlib.Omega.{arith}
use lib.ListN.{set, length-set}
use lib.Seq.{sets}
use Rattle.digits.specs.Digits.{digits_of}
use Rattle.digits.proofs.Puts.{last_digit, length_digits}
use Rattle.digits.proofs.Text.put_digits.Goals as goal

pub loop-place-preserved : goal.loop-place-preserved
loop-place-preserved c =
    let a = c.args in
    let l = c.loop-place in
    let v = l.invariant in
    let at = l.self.at in
    let out = l.self.out.now in
    record {
      place = v.place;
      memory = v.memory;
      room = simp length-set v.room;
      text =
          ap (λ (d : ℕ). sets (set out (at + (l.place - 1)) d) at (digits_of a.base (l.place - 1) (l.rest / a.base))) c.digit.ensures
          ∙ sym (last_digit out at a.base l.place l.rest (omega arith))
          ∙ v.text;
    }

pub returns-clause-text : goal.returns-clause-text
returns-clause-text c =
    let a = c.args in
    let l = c.loop-place in
    let none : l.place ≡ 0 = omega arith in
    record {
      past = omega (arith, length_digits a.base a.count a.n, l.invariant.place);
      stored =
          sym (ap (λ (k : ℕ). sets l.self.out.now l.self.at (digits_of a.base k l.rest)) none)
          ∙ l.invariant.text
          ∙ ap (λ (i : ℕ). sets a.self.now.out.now i (digits_of a.base a.count a.n)) l.invariant.place;
    }
