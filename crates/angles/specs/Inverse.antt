-- Document 01, "Root and angles": arctangent, `atan2` and `acos`, on every float. Definitions only.
use Rattle.std.specs.Prelude.{Float, ℕ, Bool, cond, ◌&&◌, List, [], ◌∷◌}
use Rattle.std.specs.Float.{nan}
use Rattle.std.specs.Float.Ieee.{neg, le, eq}
use Rattle.root.specs.Root.{root_of}
use Rattle.angles.specs.Floats.{◌⊕◌, ◌⊖◌, ◌⊗◌, ◌⊘◌, of_nat, plus_zero, one, sign_of, finite_of, abs_of, signed_of}
use Rattle.angles.specs.Constants.{pi, half_pi}

-- 1/n and −1/n, each one division
abbrev pub over : ℕ → Float
over n = one ⊘ of_nat n

abbrev pub minus_over : ℕ → Float
minus_over n = neg one ⊘ of_nat n

-- start at s, then multiply by u and add the next coefficient
unfoldable pub horner : Float → Float → List Float → Float
horner u s [] = s
horner u s (k ∷ ks) = horner u (s ⊗ u ⊕ k) ks

-- t / (1 + root(1 + t×t))
unfoldable pub half_angle : Float → Float
half_angle t = t ⊘ (one ⊕ root_of (one ⊕ t ⊗ t))

-- Replace t, twice. With u = t×t, start at −1/23, then multiply by u and add the next of 1/21, −1/19, .., −1/3, 1; multiply by t, then by 4.
unfoldable pub arctangent_of : Float → Float
arctangent_of t₀ =
    let t = half_angle (half_angle t₀) in
    horner (t ⊗ t) (minus_over 23)
    (over 21 ∷ minus_over 19 ∷ over 17 ∷ minus_over 15 ∷ over 13 ∷ minus_over 11 ∷ over 9 ∷ minus_over 7 ∷ over 5 ∷ minus_over 3 ∷ one ∷ [])
    ⊗ t ⊗ of_nat 4

-- of |y| and |x|: 0 if both are zero; the arctangent of |y|/|x| if |y| ≤ |x|; else π/2 minus that of |x|/|y|
unfoldable pub first_quadrant : Float → Float → Float
first_quadrant y x =
    cond (eq y plus_zero && eq x plus_zero) plus_zero
    (cond (le y x) (arctangent_of (y ⊘ x)) (half_pi ⊖ arctangent_of (x ⊘ y)))

-- if x has its sign bit set, a becomes π − a
unfoldable pub reflected_of : Bool → Float → Float
reflected_of set a = cond set (pi ⊖ a) a

-- NaN if either isn't finite; the result takes y's sign bit
unfoldable pub atan2_of : Float → Float → Float
atan2_of y x =
    cond (finite_of y && finite_of x)
    (signed_of (sign_of y) (reflected_of (sign_of x) (first_quadrant (abs_of y) (abs_of x))))
    nan

-- NaN unless −1 ≤ c ≤ 1; else atan2(root((1−c)×(1+c)), c)
unfoldable pub acos_of : Float → Float
acos_of c = cond (le (neg one) c && le c one) (atan2_of (root_of ((one ⊖ c) ⊗ (one ⊕ c))) c) nan
