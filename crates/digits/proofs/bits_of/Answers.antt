-- `digits::bits_of` meets its contract: what stands for a NaN are its bits.
use mathlib.Core.Path.{◌≡◌, refl, sym, ◌∙◌}
use mathlib.Core.Bool.{true, true≢false}
use lib.Ieee.{Float, nan, inf, fin, binary64, is_nan, to_bits}
use Rattle.digits.proofs.bits_of.Goals as goal

pattern : (x : Float) → is_nan x ≡ true → to_bits binary64 x ≡ 0x7FF8000000000000
unfolding is_nan to_bits
pattern nan e = refl
pattern (inf s) e = absurd (true≢false (sym e))
pattern (fin s m e) f = absurd (true≢false (sym f))

pub returns-then-is_nan : goal.returns-then-is_nan
returns-then-is_nan c = sym (pattern c.args.x (sym c.is_nan.ensures.value ∙ c.if-is_nan.true))
