-- After any commands, `AllowanceIsLast` (specs/Commands.antt): by what each command leaves of the allowance.
use mathlib.Core.Path.{◌≡◌, refl, sym, ◌∙◌}
use mathlib.Core.List.{List, [], ◌∷◌}
use Rattle.table.specs.States.{unset}
use Rattle.table.specs.declared.state.State.{State}
use Rattle.table.proofs.CommandAllowances.{allowance_after, none_unset}
use Rattle.lists.specs.Commands.{Command, leaves, last_after, left_by, last_of, AllowanceIsLast}

-- one command
pub last_after_lem : (s : State) (c : Command) → last_after s.allowance c ≡ (leaves s c).allowance
last_after_lem s c = sym (allowance_after s c.code c.operands)

last_of_lem : (s : State) (cs : List Command) → (left_by s cs).allowance ≡ last_of s.allowance cs
last_of_lem s [] = refl
last_of_lem s (c ∷ cs) = rw (last_after_lem s c) (last_of_lem (leaves s c) cs)

pub last_is_set : AllowanceIsLast
last_is_set cs =
    let e = last_of_lem unset cs in
    record {
      left = e;
      none = λ n code b. none_unset (left_by unset cs) code b (e ∙ n);
    }
