-- The typing rules of document 01, "Typings", each as a test of what a typing says.
use Rattle.std.specs.Prelude.{ℕ, Bool, not, ◌&&◌, ◌||◌}
use Rattle.roles.specs.declared.RoleSet.{RoleSet}
use Rattle.roles.specs.Sets.{empty_set, has_role, single_of, with_of, without_of, shares_role, includes}
use Rattle.model.specs.declared.Assign.{Assign}
use Rattle.model.specs.declared.Revoke.{Revoke}
use Rattle.model.specs.declared.Person.{Person}
use Rattle.sheets.specs.Turned.{sets_of, Turned}
use Rattle.closing.specs.declared.Pair.{Pair}
use Rattle.closing.specs.Rounds.{close_of}

-- Where the first holds, the second does. Of two labels: the first is at most the second.
unfoldable pub implies : Bool → Bool → Bool
implies a b = not a || b

-- A role is inconsistent when its two sets share a role.
unfoldable pub inconsistent_role : Turned → ℕ → Bool
inconsistent_role said role = shares_role (said.plus role) (said.minus role)

-- A role of the set is labelled H. The highest label among the set's roles is then H, and L otherwise.
unfoldable pub holds_high : Turned → RoleSet → Bool
holds_high said s = shares_role said.high s

-- ---- the holdings

-- A person's holdings pass when, of the roles that the person holds, the highest label is at most the clearance, the minus sets share
-- nothing with these roles, and the plus sets lie within them.
unfoldable pub person_passes : Turned → Person → Bool
person_passes said p =
    implies (holds_high said p.roles) p.clearance
    && not (shares_role (sets_of said.minus p.roles) p.roles)
    && includes p.roles (sets_of said.plus p.roles)

-- ---- assign rules

-- No role outside absent has the target in its minus set.
unfoldable pub unopposed_target : Turned → ℕ → RoleSet → Bool
unopposed_target said target absent = includes absent (said.opposed target)

-- All four hold of the target, for what is held and what is absent:
-- the target's label is at most the highest label among held;
-- no role outside absent has the target in its minus set;
-- the target's minus set lies within absent without the target;
-- its plus set lies within held with the target added.
unfoldable pub target_suits : Turned → Pair → ℕ → Bool
target_suits said pair target =
    implies (has_role said.high target) (holds_high said pair.held)
    && unopposed_target said target pair.absent
    && includes (without_of pair.absent target) (said.minus target)
    && includes (with_of pair.held target) (said.plus target)

-- An assign rule passes when its administrative role is inconsistent; or the closure of (positive, negative with the target
-- added) has a role both held and absent; or all four hold.
unfoldable pub assign_passes : Turned → Assign → Bool
assign_passes said rule =
    let pair = close_of said (record { held = rule.positive; absent = with_of rule.negative rule.target }) in
    inconsistent_role said rule.admin || shares_role pair.held pair.absent || target_suits said pair rule.target

-- ---- revoke rules and goals

-- No role other than the target has the target in its plus set.
unfoldable pub unneeded_target : Turned → ℕ → Bool
unneeded_target said target = includes (single_of target) (said.needed target)

-- A revoke rule passes when its administrative role is inconsistent, or no role other than the target has the target in its
-- plus set.
unfoldable pub revoke_passes : Turned → Revoke → Bool
revoke_passes said rule = inconsistent_role said rule.admin || unneeded_target said rule.target

-- A goal passes when the closure of (goal, nothing) has a held role labelled H or a role both held and absent.
unfoldable pub goal_passes : Turned → RoleSet → Bool
goal_passes said goal =
    let pair = close_of said (record { held = goal; absent = empty_set }) in
    holds_high said pair.held || shares_role pair.held pair.absent
