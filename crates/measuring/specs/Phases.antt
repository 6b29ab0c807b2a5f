-- The blocks of a policy come one after another: while lines of one kind are read, the blocks of later kinds are empty.
use Rattle.std.specs.Prelude.{ℕ, ◌≤◌, true, not, ◌&&◌, List, ◌≡◌, refl, leb, eqb, length}
use Rattle.std.proofs.Math.Bool.{and-eq-true_iff}
use Rattle.std.proofs.lemmas.Bool.{false≢true}
use Rattle.std.proofs.Common.{subst, leb-true, eqb-true, arith}
use Rattle.text.specs.Forms.{bytes, is_name, is_set, is_label}
use Rattle.text.specs.Pieces.{same_bytes}
use Rattle.tables.specs.declared.Name.{Name}
use Rattle.fields.specs.Fields.{is_declared}
use Rattle.lines.specs.declared.Counts.{Counts}
use Rattle.lines.specs.declared.Entry.{Entry}
use Rattle.lines.specs.Lines.{asked, in_order, header_kind, role_kind, user_kind, has_kind, assign_kind, revoke_kind, goal_kind}
use Rattle.lines.specs.Lines as kind
use Rattle.lines.specs.LineLaws.{GoodLine}
use Rattle.reading.specs.Policy.{Said, nothing, counts_of, kind_of, noted, added}

-- The blocks of later kinds are empty.
pub record Phased (s : Said) : Type 0 where
  pub no_users : s.stage ≤ role_kind → length s.users ≡ 0
  pub no_assigns : s.stage ≤ has_kind → length s.assigns ≡ 0
  pub no_revokes : s.stage ≤ assign_kind → length s.revokes ≡ 0
  pub no_goals : s.stage ≤ revoke_kind → length s.goals ≡ 0

pub phased_nothing : Phased nothing
unfolding nothing
phased_nothing = record { no_users = λ below. refl; no_assigns = λ below. refl; no_revokes = λ below. refl; no_goals = λ below. refl }

-- ---- the kind of a good line is that of the line above or a later one

in_order_lem : (stage of-kind : ℕ) → in_order stage of-kind ≡ true → (10 ≤ stage) × (stage ≤ of-kind)
unfolding in_order
in_order_lem stage of-kind is =
    let parts = (and-eq-true_iff (leb 10 stage) (leb stage of-kind)).0 is in
    (leb-true 10 stage parts.0, leb-true stage of-kind parts.1)

-- Where a line of a kind stands: the header first, and any other line past the header and not past its own kind.
pub data Stands (stage : ℕ) : Entry → Type 0 where
  first : stage ≡ 0 → Stands stage Entry.Header
  past : {e : Entry} → 10 ≤ stage → stage ≤ kind_of e → Stands stage e

kind_stands : (c : Counts) (roles users : List Name) (line : kind.Line) → (asked c roles users line).formed ≡ true → Stands c.stage (asked c roles users line).says
unfolding asked kind_of
kind_stands c roles users (kind.header edition) formed = first (eqb-true c.stage 0 ((and-eq-true_iff (eqb c.stage 0) (same_bytes edition (bytes "1"))).0 formed).0)
kind_stands c roles users (kind.role name) formed =
    let order = ((and-eq-true_iff (in_order c.stage role_kind) (is_name name)).0 ((and-eq-true_iff (in_order c.stage role_kind && is_name name) (not (is_declared roles name))).0 formed).0).0 in
    past (in_order_lem c.stage role_kind order).0 (in_order_lem c.stage role_kind order).1
kind_stands c roles users (kind.user name clearance) formed =
    let forms = ((and-eq-true_iff (in_order c.stage user_kind && is_name name && is_label clearance) (not (is_declared users name))).0 formed).0 in
    let order = ((and-eq-true_iff (in_order c.stage user_kind) (is_name name)).0 ((and-eq-true_iff (in_order c.stage user_kind && is_name name) (is_label clearance)).0 forms).0).0 in
    past (in_order_lem c.stage user_kind order).0 (in_order_lem c.stage user_kind order).1
kind_stands c roles users (kind.has holder held) formed =
    let order = ((and-eq-true_iff (in_order c.stage has_kind) (is_name holder && is_name held)).0 formed).0 in
    past (in_order_lem c.stage has_kind order).0 (in_order_lem c.stage has_kind order).1
kind_stands c roles users (kind.assign admin positive negative target) formed =
    let order = ((and-eq-true_iff (in_order c.stage assign_kind) (is_name admin && is_set positive && (is_set negative && is_name target))).0 formed).0 in
    past (in_order_lem c.stage assign_kind order).0 (in_order_lem c.stage assign_kind order).1
kind_stands c roles users (kind.revoke admin target) formed =
    let order = ((and-eq-true_iff (in_order c.stage revoke_kind) (is_name admin && is_name target)).0 formed).0 in
    past (in_order_lem c.stage revoke_kind order).0 (in_order_lem c.stage revoke_kind order).1
kind_stands c roles users (kind.goal set) formed =
    let order = ((and-eq-true_iff (in_order c.stage goal_kind) (not (same_bytes set (bytes "-")))).0 ((and-eq-true_iff (in_order c.stage goal_kind && not (same_bytes set (bytes "-"))) (is_set set)).0 formed).0).0 in
    past (in_order_lem c.stage goal_kind order).0 (in_order_lem c.stage goal_kind order).1
kind_stands c roles users kind.end formed = let at = eqb-true c.stage goal_kind formed in past {e = Entry.End} (omega (arith, at)) (omega (arith, at))
kind_stands c roles users kind.other formed = absurd (false≢true formed)

pub good_stands : (s : Said) {line : kind.Line} {e : Entry} → GoodLine (counts_of s) s.roles s.users line e → Stands s.stage e
unfolding counts_of
good_stands s {line} good = subst (Stands s.stage) good.says (kind_stands (counts_of s) s.roles s.users line good.formed)

-- ---- every good line keeps later blocks empty

-- its kind is none before the stage
pub not_before : {stage : ℕ} {e : Entry} → Stands stage e → stage ≤ kind_of e
unfolding kind_of
not_before (first is) = omega (arith, is)
not_before (past from to) = to

-- no line but the header is the first
pub past_header : {stage : ℕ} {e : Entry} → Stands stage e → (kind_of e ≡ header_kind → ⊥) → 10 ≤ stage
unfolding kind_of
past_header (first is) other = absurd (other refl)
past_header (past from to) other = from

pub phased_added : (s : Said) (e : Entry) → Phased s → s.stage ≤ kind_of e → Phased (added s e)
unfolding added noted kind_of
phased_added s Entry.Header h at = record { no_users = λ below. h.no_users (omega arith); no_assigns = λ below. h.no_assigns (omega arith); no_revokes = λ below. h.no_revokes (omega arith); no_goals = λ below. h.no_goals (omega arith) }
phased_added s (Entry.Role name) h at = record { no_users = λ below. h.no_users (omega arith); no_assigns = λ below. h.no_assigns (omega arith); no_revokes = λ below. h.no_revokes (omega arith); no_goals = λ below. h.no_goals (omega arith) }
phased_added s (Entry.User name clearance) h at = record { no_users = λ below. absurd (omega (arith, below)); no_assigns = λ below. h.no_assigns (omega arith); no_revokes = λ below. h.no_revokes (omega arith); no_goals = λ below. h.no_goals (omega arith) }
phased_added s (Entry.Has user role) h at = record { no_users = λ below. absurd (omega (arith, below)); no_assigns = λ below. h.no_assigns (omega arith); no_revokes = λ below. h.no_revokes (omega arith); no_goals = λ below. h.no_goals (omega arith) }
phased_added s (Entry.Assign rule) h at = record { no_users = λ below. absurd (omega (arith, below)); no_assigns = λ below. absurd (omega (arith, below)); no_revokes = λ below. h.no_revokes (omega arith); no_goals = λ below. h.no_goals (omega arith) }
phased_added s (Entry.Revoke rule) h at = record { no_users = λ below. absurd (omega (arith, below)); no_assigns = λ below. absurd (omega (arith, below)); no_revokes = λ below. absurd (omega (arith, below)); no_goals = λ below. h.no_goals (omega arith) }
phased_added s (Entry.Goal goal) h at = record { no_users = λ below. absurd (omega (arith, below)); no_assigns = λ below. absurd (omega (arith, below)); no_revokes = λ below. absurd (omega (arith, below)); no_goals = λ below. absurd (omega (arith, below)) }
phased_added s Entry.End h at = record { no_users = λ below. absurd (omega (arith, below)); no_assigns = λ below. absurd (omega (arith, below)); no_revokes = λ below. absurd (omega (arith, below)); no_goals = λ below. absurd (omega (arith, below)) }
