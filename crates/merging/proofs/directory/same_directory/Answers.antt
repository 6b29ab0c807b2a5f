-- `same_directory` compares the counts, the words of both tables of names, and the people.
use Rattle.std.proofs.Common.{ℕ, ◌+◌, ◌-◌, ◌*◌, ◌≡◌, arith}
use Rattle.merging.specs.DirectoryLaws.{user_room, counts_differ, words_told, roles_differ, users_differ, people_told}
use Rattle.merging.proofs.directory.same_directory.Goals as goal

-- so many words from a place on
from_there : (users : ℕ) → 512 + 4 * users - 512 ≡ 4 * users
from_there users = omega arith

pub returns-then-roles-d : goal.returns-then-roles-d
returns-then-roles-d c = roles_differ _ _ _ _ (counts_differ _ _ c.if-roles-d.true)

pub returns-then-users-d : goal.returns-then-users-d
returns-then-users-d c = users_differ _ _ _ _ (counts_differ _ _ c.if-users-d.true)

pub returns-then-ne : goal.returns-then-ne
returns-then-ne c = roles_differ _ _ _ _ (words_told _ _ c.if-roles-d.false (omega arith) (omega arith) c.ne.ensures c.if-ne.true)

pub returns-then-ne-2 : goal.returns-then-ne-2
returns-then-ne-2 c = users_differ _ _ _ _ (words_told _ _ c.if-users-d.false (user_room c.args.one.now c.requires.0 c.requires.2.users) (user_room c.args.two.now c.requires.1 c.requires.2.users) (rw (from_there c.args.c.users) at c.ne-2.ensures) c.if-ne-2.true)

pub returns : goal.returns
returns c = people_told _ _ _ _
    (words_told _ _ c.if-roles-d.false (omega arith) (omega arith) c.ne.ensures c.if-ne.false)
    (words_told _ _ c.if-users-d.false (user_room c.args.one.now c.requires.0 c.requires.2.users) (user_room c.args.two.now c.requires.1 c.requires.2.users) (rw (from_there c.args.c.users) at c.ne-2.ensures) c.if-ne-2.false)
    c.if-users-d.false c.same_people.ensures
