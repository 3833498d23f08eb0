-- By the cases of n.
use Rattle.std.proofs.Common.{get_or, ℕ, zero, suc, ◌≤◌, ◌≡◌, refl, arith, [], ◌∷◌}
use Rattle.command_patterns.specs.Patterns.{count}
use Rattle.command_patterns.proofs.listing.count.Goals as goal

counted : (n : ℕ) → n ≤ 5 → get_or (0 ∷ 6 ∷ 42 ∷ 258 ∷ 1554 ∷ 9330 ∷ []) n 0 ≡ count n
unfolding count
counted zero h = refl
counted (suc zero) h = refl
counted (suc (suc zero)) h = refl
counted (suc (suc (suc zero))) h = refl
counted (suc (suc (suc (suc zero)))) h = refl
counted (suc (suc (suc (suc (suc zero))))) h = refl
counted (suc (suc (suc (suc (suc (suc n)))))) h = absurd (omega arith)

pub returns : goal.returns
returns c = rw c.from.ensures (counted c.args.n c.requires)
