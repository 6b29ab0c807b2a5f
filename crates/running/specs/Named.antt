-- Everybody in a run has a name: a state that the steps of a trace lead to has a person for each name that is known, and there are at most 64.
use Rattle.std.specs.Prelude.{ℕ, ◌≤◌, Bool, true, false, cond, List, [], ◌∷◌, Result, Ok, Err, ◌≡◌, refl, length}
use Rattle.std.proofs.Common.{true≢false, sym, ◌∙◌, le-ltb, length-set, length-append, arith}
use Rattle.std.proofs.Math.Path.{subst⁻¹}
use Rattle.model.specs.Policy.{Policy, State, newcomer, granted, revoked, joined, departed}
use Rattle.tables.specs.declared.Name.{Name}
use Rattle.text.specs.Forms.{bytes}
use Rattle.text.specs.Pieces.{same_bytes}
use Rattle.walking.specs.declared.Fault.{Fault}
use Rattle.walking.specs.Texts.{goes, ends, bad}
use Rattle.walking.specs.Kept.{text_keeps}
use Rattle.reading.specs.Policy.{Said, policy_of}
use Rattle.steps.specs.declared.Step.{Step}
use Rattle.following.specs.Follows.{Use, Follows}
use Rattle.following.proofs.FollowsExact.{follows_last}
use Rattle.traces.specs.declared.TraceLine.{TraceLine}
use Rattle.traces.specs.TraceLines.{trace_line}
use Rattle.traces.specs.TraceText.{Traced, untraced, begun, with_name, stepped, header_line, answered, later_line, judge_line, read_trace}
use Rattle.running.specs.Says.{Reads}
use Rattle.running.specs.Range.{line_range}
use Rattle.running.specs.Joining.{names_within}

-- ---- what a good line adds

-- A line that leads on is the header, or says a step and brings a name.
data Added (assigns revokes : ℕ) (s : Traced) (line : List ℕ) : Traced → Type 0 where
  header : Added assigns revokes s line (begun s)
  step : {read : TraceLine} → trace_line assigns revokes s.names line ≡ Ok read → Added assigns revokes s line (stepped s read.step read.name)

line_adds : (assigns revokes : ℕ) (s t : Traced) (line : List ℕ) → judge_line assigns revokes s line ≡ goes t → Added assigns revokes s line t
unfolding judge_line header_line later_line answered
line_adds assigns revokes s t line is = by_start s.started is
  where
    same : {u : Traced} → Added assigns revokes s line u → goes u ≡ goes t → Added assigns revokes s line t
    same {u} added e =
        let one : u ≡ t = cc in
        subst⁻¹ (Added assigns revokes s line) (sym one) added

    says : (a : Result TraceLine Fault) → trace_line assigns revokes s.names line ≡ a → answered s a ≡ goes t → Added assigns revokes s line t
    says (Ok read) given e = same (step given) e
    says (Err fault) given e = absurd (true≢false (cc))

    after_header : (b : Bool) → cond b ends (answered s (trace_line assigns revokes s.names line)) ≡ goes t → Added assigns revokes s line t
    after_header true e = absurd (true≢false (cc))
    after_header false e = says (trace_line assigns revokes s.names line) refl e

    first : (b : Bool) → cond b (goes (begun s)) (bad 15) ≡ goes t → Added assigns revokes s line t
    first true e = same header e
    first false e = absurd (true≢false (cc))

    by_start : (b : Bool) → cond b (later_line assigns revokes s line) (header_line s line) ≡ goes t → Added assigns revokes s line t
    by_start true e = after_header (same_bytes line (bytes "end")) e
    by_start false e = first (same_bytes line (bytes "trace\t1")) e

-- ---- a person for each name

-- a use adds a person where its step makes a name known, and else as many stay
use_named : {P : Policy} {σ τ : State} {step : Step} (names : List Name) (name : Name) → length σ ≡ length names → Use P σ step τ → length τ ≡ length (with_name names step name)
unfolding granted revoked joined departed with_name
use_named {σ = σ} names name many (Use.assign at can fresh) = length-set σ _ _ ∙ many
use_named {σ = σ} names name many (Use.revoke at can holds) = length-set σ _ _ ∙ many
use_named {σ = σ} names name many (Use.join {user = user} {clearance = clearance} next) =
    rw (le-ltb user (length names) (omega (arith, many, next))) (omega (arith, many, length-append σ (newcomer clearance ∷ []), length-append names (name ∷ [])))
use_named {σ = σ} names name many (Use.leave here) = length-set σ _ _ ∙ many

-- every state that the steps of a trace lead to has a person for each of its names
module _ (P : Policy) (start : State) where
  record Peopled (t : Traced) : Type 0 where
    each : {last : State} → Follows P start t.steps last → length last ≡ length t.names

  added_peopled : {assigns revokes : ℕ} {s t : Traced} {line : List ℕ} → Added assigns revokes s line t → Peopled s → Peopled t
  added_peopled header peopled = record { each = peopled.each }
  added_peopled {s = s} (step {read = read} is) peopled = record {
    each = λ follows.
        let (before, earlier, used) = follows_last s.steps read.step follows in
        use_named s.names read.name (peopled.each earlier) used;
  }

-- Of a trace that is read over users with a person for each: so has each state that its steps lead to, for each name that is known.
pub named-people : (s : Said) (text : List ℕ) {t : Traced} {last : State} → Reads s text t → length s.holdings ≡ length s.users → Follows (policy_of s) s.holdings t.steps last → length last ≡ length t.names
unfolding read_trace untraced
named-people s text {t} reads people follows =
    (text_keeps (judge_line (length s.assigns) (length s.revokes)) 15 (Peopled (policy_of s) s.holdings)
    (λ u v line good peopled. added_peopled (policy_of s) s.holdings (line_adds (length s.assigns) (length s.revokes) u v line good) peopled) 14 (untraced s.users) t text reads (record { each = none })).each follows
  where
    none : {last : State} → Follows (policy_of s) s.holdings [] last → length last ≡ length s.users
    none Follows.none = people

-- At most 64 names are known, where there are no more users.
pub names_most : (s : Said) (text : List ℕ) {t : Traced} → Reads s text t → length s.users ≤ 64 → length t.names ≤ 64
unfolding read_trace untraced
names_most s text {t} reads few =
    text_keeps (judge_line assigns revokes) 15 (λ (u : Traced). length u.names ≤ 64) (λ u v line good most. go (line_adds assigns revokes u v line good) most) 14 (untraced s.users) t text reads few
  where
    assigns : ℕ
    assigns = length s.assigns

    revokes : ℕ
    revokes = length s.revokes

    go : {u v : Traced} {line : List ℕ} → Added (length s.assigns) (length s.revokes) u line v → length u.names ≤ 64 → length v.names ≤ 64
    go header most = most
    go {u} {line = line} (step {read = read} is) most = names_within u.names read.step read.name most (line_range (length s.assigns) (length s.revokes) u.names line is).1
