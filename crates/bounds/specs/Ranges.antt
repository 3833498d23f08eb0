-- What the angle functions never leave. Definitions and a claim; `proofs/Ranges.antt` proves it.
use Rattle.std.specs.Float.{nan}
use Rattle.std.specs.Float.Ieee.{neg, le, ne}
use Rattle.std.specs.Prelude.{◌≡◌, Bool, true, false, ◌&&◌, ◌⊎◌, Float}
use Rattle.angles.specs.Floats.{one, finite_of, abs_of}
use Rattle.angles.specs.Constants.{pi, two_pi}
use Rattle.angles.specs.Inverse.{atan2_of}
use Rattle.angles.specs.Circular.{sin_cos_of}

-- not a NaN
abbrev pub is_number : Float → Type 0
is_number x = ne x x ≡ false

-- from lo to hi; a NaN never is
unfoldable pub between : Float → Float → Float → Bool
between lo hi x = le lo x && le x hi

pub record Ranges : Type 0 where
  -- of finite arguments an angle from −π to π, and of any others that or the NaN
  pub atan2_finite : (y x : Float) → finite_of y ≡ true → finite_of x ≡ true → between (neg pi) pi (atan2_of y x) ≡ true
  pub atan2_range : (y x : Float) → (atan2_of y x ≡ nan) ⊎ (between (neg pi) pi (atan2_of y x) ≡ true)
  -- of an angle up to a whole turn, either way, sine and cosine are numbers from −1 to 1
  pub sine_range : (v : Float) → le (abs_of v) two_pi ≡ true → between (neg one) one (sin_cos_of v).sin ≡ true
  pub cosine_range : (v : Float) → le (abs_of v) two_pi ≡ true → between (neg one) one (sin_cos_of v).cos ≡ true
