-- Worked policy texts, computed from raw bytes: the desk policy, and what is refused, with the refusal's number and line.
use Rattle.std.specs.Prelude.{ℕ, zero, suc, ◌+◌, ◌/◌, ◌%◌, List, [], ◌∷◌, ◌++◌, map, ◌≡◌, refl}
use Rattle.roles.specs.Sets.{bit, empty_set, has_role, single_of, union_of, with_of}
use Rattle.model.specs.Policy.{newcomer, nobody, person, with_role, granted, joined}
use Rattle.text.specs.Forms.{bytes, every, between, name_byte, is_name, names_of, is_set, is_label}
use Rattle.tables.specs.Names.{value, packed, same_name, place_of}
use Rattle.text.specs.Pieces.{onto, split, same_bytes, among, repeated}
use Rattle.walking.specs.Texts.{Reading, read, refused, closing, onward, read_lines, read_text}
use Rattle.fields.specs.Fields.{placed, is_declared, all_declared, roles_from, roles_of}
use Rattle.walking.specs.Turns.{in_turn}
use Rattle.lines.specs.Lines.{one_field, two_fields, three_fields, five_fields, line_of, in_order, asked, tests}
use Rattle.reading.specs.Policy.{Said, nothing, counts_of, kind_of, noted, added, is_new, leads, line_asked, line_tests, judge_line, read_policy}

-- opens every definition of this layer
unfoldable pub reading : Unit {0}
unfolding bit empty_set has_role single_of union_of with_of newcomer nobody person with_role granted joined every between name_byte is_name names_of is_set is_label value packed same_name place_of onto split same_bytes among repeated closing onward read_lines read_text placed is_declared all_declared roles_from roles_of one_field two_fields three_fields five_fields line_of in_order in_turn asked tests nothing counts_of kind_of noted added is_new leads line_asked line_tests judge_line read_policy
reading = tt

-- the desk's roles, users and holding, six lines below the header
abbrev people : List ℕ
people = bytes "arbac\t1\nrole\tadm\nrole\tpay\nrole\tbuy\nuser\tann\tH\nuser\tbob\tL\nhas\tann\tadm\n"

-- and its rules and its goal
abbrev desk : List ℕ
desk = people ++ bytes "assign\tadm\t-\tbuy\tpay\nassign\tadm\t-\tpay\tbuy\ngoal\tpay,buy\n"

-- how many roles, users, rules and goals a read policy has, and whether it is read
abbrev summary : Reading Said → List ℕ
summary (read s) = 0 ∷ (counts_of s).roles ∷ (counts_of s).users ∷ (counts_of s).assigns ∷ (counts_of s).revokes ∷ (counts_of s).goals ∷ []
summary (refused number line) = number ∷ line ∷ []

-- a text, and what reading it gives
abbrev Row : Type 0
Row = List ℕ × List ℕ

abbrev found : List Row → List (List ℕ)
found rows = map (λ (row : Row). summary (read_policy row.0)) rows

abbrev told : List Row → List (List ℕ)
told rows = map (λ (row : Row). row.1) rows

-- ---- the desk and how a text ends

abbrev ends_of_texts : List Row
ends_of_texts =
    (desk ++ bytes "end\n", 0 ∷ 3 ∷ 2 ∷ 2 ∷ 0 ∷ 1 ∷ [])
    ∷ ([], 11 ∷ 1 ∷ [])
    ∷ (desk, 11 ∷ 11 ∷ [])
    ∷ (desk ++ bytes "end", 11 ∷ 11 ∷ [])
    ∷ (desk ++ bytes "end\nx", 11 ∷ 12 ∷ [])
    ∷ (people ++ bytes "end\n", 11 ∷ 8 ∷ [])
    ∷ []

pub worked_texts : found ends_of_texts ≡ told ends_of_texts
unfolding reading
worked_texts = refl

-- ---- malformed lines

abbrev malformed : List Row
malformed =
    (bytes "arbac\t2\n", 11 ∷ 1 ∷ [])
    -- a blank field
    ∷ (bytes "arbac\t1\nrole\t\n", 11 ∷ 2 ∷ [])
    ∷ (people ++ bytes "assign\tadm\t\tbuy\tpay\n", 11 ∷ 8 ∷ [])
    ∷ (people ++ bytes "goal\t\n", 11 ∷ 8 ∷ [])
    -- the empty set as a goal
    ∷ (people ++ bytes "goal\t-\n", 11 ∷ 8 ∷ [])
    -- a role, a user, a has pair and a name of a set that stand twice
    ∷ (bytes "arbac\t1\nrole\tadm\nrole\tadm\n", 11 ∷ 3 ∷ [])
    ∷ (bytes "arbac\t1\nuser\tann\tH\nuser\tann\tL\n", 11 ∷ 3 ∷ [])
    ∷ (people ++ bytes "has\tann\tadm\n", 11 ∷ 8 ∷ [])
    ∷ (people ++ bytes "goal\tpay,buy,pay\n", 11 ∷ 8 ∷ [])
    -- a name of 33 bytes, a byte that no name has, and a clearance that is none
    ∷ (bytes "arbac\t1\nrole\tabcdefghijklmnopqrstuvwxyz_ABCDEF\n", 11 ∷ 2 ∷ [])
    ∷ (bytes "arbac\t1\nrole\ta-b\n", 11 ∷ 2 ∷ [])
    ∷ (bytes "arbac\t1\nuser\tann\tM\n", 11 ∷ 2 ∷ [])
    -- a line out of order, and one of another kind
    ∷ (people ++ bytes "role\tout\n", 11 ∷ 8 ∷ [])
    ∷ (people ++ bytes "deny\tadm\tpay\n", 11 ∷ 8 ∷ [])
    -- an undeclared name that stands twice, and one beside a blank field
    ∷ (people ++ bytes "goal\tout,out\n", 11 ∷ 8 ∷ [])
    ∷ (people ++ bytes "assign\tout\t\t-\tpay\n", 11 ∷ 8 ∷ [])
    ∷ []

pub worked_malformed : found malformed ≡ told malformed
unfolding reading
worked_malformed = refl

-- ---- undeclared names: users and roles have separate name spaces

abbrev undeclared : List Row
undeclared =
    (people ++ bytes "has\tout\tpay\n", 13 ∷ 8 ∷ [])
    ∷ (people ++ bytes "has\tbob\tout\n", 13 ∷ 8 ∷ [])
    ∷ (people ++ bytes "has\tbob\tann\n", 13 ∷ 8 ∷ [])
    ∷ (people ++ bytes "assign\tout\t-\t-\tpay\n", 13 ∷ 8 ∷ [])
    ∷ (people ++ bytes "assign\tadm\tbuy,out\t-\tpay\n", 13 ∷ 8 ∷ [])
    ∷ (people ++ bytes "assign\tadm\t-\tout\tpay\n", 13 ∷ 8 ∷ [])
    ∷ (people ++ bytes "assign\tadm\t-\t-\tPay\n", 13 ∷ 8 ∷ [])
    ∷ (people ++ bytes "revoke\tbob\tpay\n", 13 ∷ 8 ∷ [])
    ∷ (people ++ bytes "revoke\tadm\tout\n", 13 ∷ 8 ∷ [])
    ∷ (people ++ bytes "goal\tpay,out\n", 13 ∷ 8 ∷ [])
    ∷ []

pub worked_undeclared : found undeclared ≡ told undeclared
unfolding reading
worked_undeclared = refl

-- ---- count limits

-- so many lines, each with a name of two letters of its own between what begins it and what ends it
abbrev pub named : (before after : List ℕ) → ℕ → List ℕ
named before after zero = []
named before after (suc n) = named before after n ++ (before ++ ((97 + n / 16) ∷ (97 + n % 16) ∷ []) ++ after)

-- the same line so many times
abbrev times : ℕ → List ℕ → List ℕ
times zero line = []
times (suc n) line = line ++ times n line

-- a policy of so many roles, and so many lines more
abbrev roles : ℕ → List ℕ
roles n = bytes "arbac\t1\n" ++ named (bytes "role\t") (bytes "\n") n

abbrev users : ℕ → List ℕ
users n = named (bytes "user\t") (bytes "\tL\n") n

abbrev assigns : ℕ → List ℕ
assigns n = times n (bytes "assign\taa\t-\t-\taa\n")

abbrev revokes : ℕ → List ℕ
revokes n = times n (bytes "revoke\taa\taa\n")

abbrev goals : ℕ → List ℕ
goals n = times n (bytes "goal\taa\n")

abbrev limits : List Row
limits =
    (roles 128 ++ users 64 ++ goals 32 ++ bytes "end\n", 0 ∷ 128 ∷ 64 ∷ 0 ∷ 0 ∷ 32 ∷ [])
    ∷ (roles 1 ++ assigns 256 ++ revokes 256 ++ goals 1 ++ bytes "end\n", 0 ∷ 1 ∷ 0 ∷ 256 ∷ 256 ∷ 1 ∷ [])
    ∷ (roles 129, 12 ∷ 130 ∷ [])
    ∷ (roles 1 ++ users 65, 12 ∷ 67 ∷ [])
    ∷ (roles 1 ++ assigns 257, 12 ∷ 259 ∷ [])
    ∷ (roles 1 ++ revokes 257, 12 ∷ 259 ∷ [])
    ∷ (roles 1 ++ goals 33, 12 ∷ 35 ∷ [])
    -- malformed before limit, limit before names
    ∷ (roles 128 ++ bytes "role\taa\n", 11 ∷ 130 ∷ [])
    ∷ (roles 1 ++ goals 32 ++ bytes "goal\tout\n", 12 ∷ 35 ∷ [])
    ∷ []

pub worked_limits : found limits ≡ told limits
unfolding reading
worked_limits = refl
