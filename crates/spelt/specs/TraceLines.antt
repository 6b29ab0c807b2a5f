-- The lines of a trace: each is judged good exactly when it is spelt so, after the lines above it.
use Prim.Native.Nat.{ℕ, suc, ◌-◌, ◌<◌}
use Rattle.std.specs.Prelude.{Bool, cond, not, ◌&&◌, ◌↔◌, ◌≡◌, Result, Ok, leb, eqb, length}
use Rattle.std.proofs.Math.Bool.{true, false, and-eq-true_iff}
use Rattle.std.proofs.Common.{true≢false, sym, ◌∙◌}
use Rattle.std.proofs.lemmas.Bool.{false≢true}
use mathlib.Core.List.{List, [], ◌∷◌, ◌++◌, map, map-append}
use Rattle.std.proofs.Math.Path.{refl, ap, subst, subst⁻¹}
use borrow.Author.Tests.{leb-true, le-leb, ltb-true, lt-ltb, le-ltb, eqb-false, ne_eqb, not-true}
use Rattle.std.proofs.Math.ListN.{length-map}
use native.Mathlib.Omega.{arith}
use Rattle.tables.specs.declared.Name.{Name}
use Rattle.tables.specs.Names.{packed}
use Rattle.text.specs.Forms.{bytes, every, is_name, is_label, number_of}
use Rattle.text.specs.Pieces.{split, onto, same_bytes, parted}
use Rattle.text.specs.PieceLaws.{same_equal, equal_same, split-parted}
use Rattle.fields.specs.Fields.{placed, is_declared}
use Rattle.walking.specs.declared.Fault.{Fault}
use Rattle.walking.specs.Texts.{Judged, goes, ends, bad}
use Rattle.writing.specs.Written.{decimal}
use Rattle.spelling.specs.TypingText.{label_text}
use Rattle.steps.specs.declared.Step.{Step}
use Rattle.steps.specs.Places.{At}
use Rattle.steps.proofs.PlaceLaws.{at_listed}
use Rattle.traces.specs.declared.TraceLine.{TraceLine}
use Rattle.traces.specs.TraceLines.{Line, two_fields, three_fields, four_fields, line_of, is_step, step_named, step_formed, step_known, step_within, step_said, no_name, name_brought, nameless, comes_to, judged, trace_line}
use Rattle.traces.specs.TraceLineLaws.{comes_cases}
use Rattle.traces.specs.TraceLines as lines
use Rattle.traces.specs.TraceText.{Traced, untraced, begun, with_name, stepped, header_line, answered, later_line, judge_line}
use Rattle.rereading.specs.Cuts.{free, free_name}
use Rattle.rereading.specs.Joined.{Apart}
use Rattle.rereading.specs.Rows.{tab, newline, label_name, label_form, label_back, label_same}
use Rattle.spelt.specs.Names.{Names}
use Rattle.spelt.specs.NamesExact.{listed_passes, placed_exact, declared_at, declared_exact, unknown_last, unknown_exact, names_more}
use Rattle.spelt.specs.LinesExact.{parted-fields, parted-free}
use Rattle.spelt.specs.Numbers.{Digits, number_digits, digits_number, digits_free}
use Rattle.spelt.specs.Trace.{StepLine, StepSpelt, assign, revoke, join, join_again, leave}

-- ---- a step line by its fields

-- which fields make which kind of line
data Kind : List (List ℕ) → Line → Type 0 where
  is_assign : {actor number user : List ℕ} → Kind (bytes "assign" ∷ actor ∷ number ∷ user ∷ []) (lines.assign actor number user)
  is_revoke : {actor number user : List ℕ} → Kind (bytes "revoke" ∷ actor ∷ number ∷ user ∷ []) (lines.revoke actor number user)
  is_join : {name clearance : List ℕ} → Kind (bytes "join" ∷ name ∷ clearance ∷ []) (lines.join name clearance)
  is_leave : {name : List ℕ} → Kind (bytes "leave" ∷ name ∷ []) (lines.leave name)
  is_other : {fields : List (List ℕ)} → Kind fields lines.other

kind : (fields : List (List ℕ)) → Kind fields (line_of fields)
unfolding line_of two_fields three_fields four_fields
kind [] = is_other
kind (w ∷ []) = is_other
kind (w ∷ a ∷ []) = go (same_bytes w (bytes "leave")) refl
  where
    go : (x : Bool) → same_bytes w (bytes "leave") ≡ x → Kind (w ∷ a ∷ []) (cond x (lines.leave a) lines.other)
    go true same = subst⁻¹ (λ (v : List ℕ). Kind (v ∷ a ∷ []) (lines.leave a)) (same_equal w (bytes "leave") same) is_leave
    go false same = is_other
kind (w ∷ a ∷ b ∷ []) = go (same_bytes w (bytes "join")) refl
  where
    go : (x : Bool) → same_bytes w (bytes "join") ≡ x → Kind (w ∷ a ∷ b ∷ []) (cond x (lines.join a b) lines.other)
    go true same = subst⁻¹ (λ (v : List ℕ). Kind (v ∷ a ∷ b ∷ []) (lines.join a b)) (same_equal w (bytes "join") same) is_join
    go false same = is_other
kind (w ∷ a ∷ b ∷ c ∷ []) = go (same_bytes w (bytes "assign")) (same_bytes w (bytes "revoke")) refl refl
  where
    go : (x y : Bool) → same_bytes w (bytes "assign") ≡ x → same_bytes w (bytes "revoke") ≡ y → Kind (w ∷ a ∷ b ∷ c ∷ []) (cond x (lines.assign a b c) (cond y (lines.revoke a b c) lines.other))
    go true y same other = subst⁻¹ (λ (v : List ℕ). Kind (v ∷ a ∷ b ∷ c ∷ []) (lines.assign a b c)) (same_equal w (bytes "assign") same) is_assign
    go false true same other = subst⁻¹ (λ (v : List ℕ). Kind (v ∷ a ∷ b ∷ c ∷ []) (lines.revoke a b c)) (same_equal w (bytes "revoke") other) is_revoke
    go false false same other = is_other
kind (w ∷ a ∷ b ∷ c ∷ d ∷ more) = is_other

-- ---- what a good line says

-- A trace whose header was read, with these names known and after these steps.
abbrev pub tracing : List (List ℕ) → List Step → Traced
tracing names steps = record { started = true; names = map packed names; steps = steps }

-- A line adds a step: it is spelt so, and these names are known after it.
pub record Adds (assigns revokes : ℕ) (names : List (List ℕ)) (steps : List Step) (line : List ℕ) (t : Traced) : Type 0 where
  pub step : Step
  pub more : List (List ℕ)
  pub spelt : StepSpelt assigns revokes names line step more
  pub leads : t ≡ tracing more (steps ++ (step ∷ []))

module _ {users : List (List ℕ)} (all : Names users) where
  -- ---- a step that is read is spelt so

  step_read : {rules : ℕ} {word line : List ℕ} (actor number user : List ℕ) → line ≡ parted 9 (word ∷ actor ∷ number ∷ user ∷ []) → is_step actor number user ≡ true → step_named rules (map packed users) actor number user ≡ true
      → StepLine users rules word line (placed (map packed users) actor) (number_of number - 1) (placed (map packed users) user)
  unfolding is_step step_named
  step_read {rules} {word} actor number user is formed known =
      let table = map packed users in
      let forms = (and-eq-true_iff (is_name actor && is_name user) (not (eqb (number_of number) 0))).0 formed in
      let names = (and-eq-true_iff (is_name actor) (is_name user)).0 forms.0 in
      let some = eqb-false (number_of number) 0 (not-true (eqb (number_of number) 0) forms.1) in
      let digits = digits_number number some in
      let counted = (and-eq-true_iff (is_declared table actor && is_declared table user) (leb (number_of number) rules)).0 known in
      let declared = (and-eq-true_iff (is_declared table actor) (is_declared table user)).0 counted.0 in
      let most = leb-true (number_of number) rules counted.1 in
      let one : number_of number ≡ suc (number_of number - 1) = omega arith in
      record {
        actor_name = actor;
        user_name = user;
        fields = is ∙ ap (λ (n : List ℕ). parted 9 (word ∷ actor ∷ n ∷ user ∷ [])) (digits.0 ∙ ap decimal one);
        is_actor = declared_at all names.0 declared.0;
        is_rule = omega arith;
        is_short = omega (arith, digits.1);
        is_user = declared_at all names.1 declared.1;
      }

  -- ---- a step that is spelt so is read

  module _ {rules actor rule user : ℕ} {word line : List ℕ} (said : StepLine users rules word line actor rule user) where
    digits : Digits (decimal (suc rule)) (suc rule)
    digits = number_digits (suc rule) (omega arith) said.is_short

    actor_form : is_name said.actor_name ≡ true
    actor_form = listed_passes is_name all.forms (at_listed said.is_actor)

    user_form : is_name said.user_name ≡ true
    user_form = listed_passes is_name all.forms (at_listed said.is_user)

    -- its fields have no byte that is below digits and apart from names
    fields_free : {mark : ℕ} → Apart mark → mark < 48 → free mark word ≡ true → every (free mark) (word ∷ said.actor_name ∷ decimal (suc rule) ∷ said.user_name ∷ []) ≡ true
    unfolding every
    fields_free {mark} apart low clear =
        rw (clear, free_name mark said.actor_name apart.letter actor_form, digits_free mark low (decimal (suc rule)) digits.form, free_name mark said.user_name apart.letter user_form)

    -- A step line has the fields that it is spelt from,
    pub step_fields : free 9 word ≡ true → split 9 line ≡ word ∷ said.actor_name ∷ decimal (suc rule) ∷ said.user_name ∷ []
    step_fields clear = ap (split 9) said.fields ∙ parted-fields 9 word (said.actor_name ∷ decimal (suc rule) ∷ said.user_name ∷ []) (fields_free tab (omega arith) clear)

    -- and is one line.
    pub step_clear : free 10 word ≡ true → free 10 line ≡ true
    unfolding free every
    step_clear clear = ap (free 10) said.fields ∙ parted-free 9 10 refl (word ∷ said.actor_name ∷ decimal (suc rule) ∷ said.user_name ∷ []) (fields_free newline (omega arith) clear)

    -- its tests hold, and its numbers are those that it says
    step_formed_lem : is_step said.actor_name (decimal (suc rule)) said.user_name ≡ true
    unfolding is_step
    step_formed_lem = rw (actor_form, user_form, digits.value, ne_eqb (suc rule) 0 (λ e. omega arith))

    step_named_lem : step_named rules (map packed users) said.actor_name (decimal (suc rule)) said.user_name ≡ true
    unfolding step_named
    step_named_lem =
        rw ((declared_exact all actor_form).1 (at_listed said.is_actor), (declared_exact all user_form).1 (at_listed said.is_user), digits.value, le-leb (suc rule) rules said.is_rule)

    step_is : (make : ℕ → ℕ → ℕ → Step)
        → comes_to (is_step said.actor_name (decimal (suc rule)) said.user_name) (step_named rules (map packed users) said.actor_name (decimal (suc rule)) said.user_name) true
        (nameless (make (placed (map packed users) said.actor_name) (number_of (decimal (suc rule)) - 1) (placed (map packed users) said.user_name)))
        ≡ Ok (nameless (make actor rule user))
    unfolding comes_to
    step_is make =
        let less : suc rule - 1 ≡ rule = omega arith in
        rw (step_formed_lem, step_named_lem, ((placed_exact all actor_form actor).1 said.is_actor).0, ((placed_exact all user_form user).1 said.is_user).0, digits.value, less)

-- ---- the fields of a join and of a leave

module _ {mark : ℕ} (apart : Apart mark) (name : List ℕ) (form : is_name name ≡ true) where
  -- no byte that is apart from names is in them
  join_free : (clearance : Bool) → free mark (bytes "join") ≡ true → every (free mark) (bytes "join" ∷ name ∷ label_text clearance ∷ []) ≡ true
  unfolding every
  join_free clearance clear = rw (clear, free_name mark name apart.letter form, free_name mark (label_text clearance) apart.letter (label_name clearance))

  leave_free : free mark (bytes "leave") ≡ true → every (free mark) (bytes "leave" ∷ name ∷ []) ≡ true
  unfolding every
  leave_free clear = rw (clear, free_name mark name apart.letter form)

module _ (assigns revokes : ℕ) {names : List (List ℕ)} (all : Names names) where
  -- ---- a line that is judged good is what it says

  -- A step is spelt so, and with the name that its line brings these names are known.
  record Spelt (line : List ℕ) (step : Step) (name : Name) : Type 0 where
    more : List (List ℕ)
    spelt : StepSpelt assigns revokes names line step more
    knows : with_name (map packed names) step name ≡ map packed more

  join_read : (line name label : List ℕ) → line ≡ parted 9 (bytes "join" ∷ name ∷ label ∷ []) → step_formed (lines.join name label) ≡ true → step_within (map packed names) (lines.join name label) ≡ true
      → Spelt line (step_said (map packed names) (lines.join name label)) (packed name)
  unfolding step_formed step_within step_said with_name is_declared
  join_read line name label is formed within = go (is_declared (map packed names) name) refl
    where
      forms : (is_name name ≡ true) × (is_label label ≡ true)
      forms = (and-eq-true_iff (is_name name) (is_label label)).0 formed

      written : parted 9 (bytes "join" ∷ name ∷ label_text (same_bytes label (bytes "H")) ∷ []) ≡ line
      written = ap (λ (l : List ℕ). parted 9 (bytes "join" ∷ name ∷ l ∷ [])) (label_same label forms.1) ∙ sym is

      go : (b : Bool) → is_declared (map packed names) name ≡ b → Spelt line (Step.Join (placed (map packed names) name) (same_bytes label (bytes "H"))) (packed name)
      go true known = record {
        more = names;
        spelt = subst (λ (l : List ℕ). StepSpelt assigns revokes names l (Step.Join (placed (map packed names) name) (same_bytes label (bytes "H"))) names) written (join_again (declared_at all forms.0 known));
        knows = rw known;
      }
      go false new =
          let last = unknown_last all name new in
          let few : length names < 64 = rw (length-map names packed) at (ltb-true (length (map packed names)) 64 (rw new at within)) in
          record {
            more = names ++ (name ∷ []);
            spelt = subst⁻¹ (λ (place : ℕ). StepSpelt assigns revokes names line (Step.Join place (same_bytes label (bytes "H"))) (names ++ (name ∷ []))) last
                (subst (λ (l : List ℕ). StepSpelt assigns revokes names l (Step.Join (length names) (same_bytes label (bytes "H"))) (names ++ (name ∷ []))) written (join forms.0 ((unknown_exact all forms.0).0 new) few));
            knows = rw new (sym (map-append packed names (name ∷ [])));
          }

  leave_read : (line name : List ℕ) → line ≡ parted 9 (bytes "leave" ∷ name ∷ []) → is_name name ≡ true → is_declared (map packed names) name ≡ true
      → Spelt line (Step.Leave (placed (map packed names) name)) no_name
  unfolding with_name
  leave_read line name is form known = record {
    more = names;
    spelt = subst⁻¹ (λ (l : List ℕ). StepSpelt assigns revokes names l (Step.Leave (placed (map packed names) name)) names) is (leave (declared_at all form known));
    knows = refl;
  }

  -- what a line says of the state that it leads to
  Means : List Step → List ℕ → Judged Traced → Type 0
  Means steps line (goes t) = Adds assigns revokes names steps line t
  Means steps line ends = line ≡ bytes "end"
  Means steps line (bad number) = Unit {0}

  line_spelt : {fields : List (List ℕ)} {f : Line} (line : List ℕ) → Kind fields f → line ≡ parted 9 fields → step_formed f ≡ true → step_known assigns revokes (map packed names) f ≡ true → step_within (map packed names) f ≡ true
      → Spelt line (step_said (map packed names) f) (name_brought f)
  unfolding step_formed step_known step_within step_said name_brought with_name
  line_spelt line (is_assign {actor} {number} {user}) is formed known within = record { more = names; spelt = assign (step_read all actor number user is formed known); knows = refl }
  line_spelt line (is_revoke {actor} {number} {user}) is formed known within = record { more = names; spelt = revoke (step_read all actor number user is formed known); knows = refl }
  line_spelt line (is_join {name} {clearance}) is formed known within = join_read line name clearance is formed within
  line_spelt line (is_leave {name}) is formed known within = leave_read line name is formed known
  line_spelt line is_other is formed known within = absurd (false≢true formed)

  -- a step line after the header
  step_means : (steps : List Step) (line : List ℕ) → Means steps line (answered (tracing names steps) (trace_line assigns revokes (map packed names) line))
  unfolding Means answered trace_line judged
  step_means steps line =
      comes_cases (λ (a : Result TraceLine Fault). Means steps line (answered (tracing names steps) a)) _ _ _ _ (λ fault. tt)
      (λ formed known within. adds (line_spelt line (kind (split 9 line)) (split-parted 9 line) formed known within))
    where
      adds : {step : Step} {name : Name} → Spelt line step name → Adds assigns revokes names steps line (stepped (tracing names steps) step name)
      adds {step} {name} s = record { step = step; more = s.more; spelt = s.spelt; leads = λ i. record { started = true; names = s.knows i; steps = steps ++ (step ∷ []) } }

  line_means : (steps : List Step) (line : List ℕ) → Means steps line (judge_line assigns revokes (tracing names steps) line)
  unfolding Means judge_line later_line
  line_means steps line = go (same_bytes line (bytes "end")) refl
    where
      go : (b : Bool) → same_bytes line (bytes "end") ≡ b → Means steps line (cond b ends (answered (tracing names steps) (trace_line assigns revokes (map packed names) line)))
      go true same = same_equal line (bytes "end") same
      go false same = step_means steps line

  -- A line leads on only where it adds a step.
  pub goes_adds : {steps : List Step} {t : Traced} {line : List ℕ} → judge_line assigns revokes (tracing names steps) line ≡ goes t → Adds assigns revokes names steps line t
  unfolding Means
  goes_adds {steps} {t} {line} is = subst (Means steps line) is (line_means steps line)

  -- ---- a line that is spelt so is judged good

  -- the name that a step's line brings
  record Brings (line : List ℕ) (step : Step) (more : List (List ℕ)) : Type 0 where
    name : Name
    is : trace_line assigns revokes (map packed names) line ≡ Ok (record { step = step; name = name })
    knows : with_name (map packed names) step name ≡ map packed more

  -- by the fields of the line
  by_fields : {fields : List (List ℕ)} (line : List ℕ) {answer : Result TraceLine Fault} → split 9 line ≡ fields → judged assigns revokes (map packed names) (line_of fields) ≡ answer → trace_line assigns revokes (map packed names) line ≡ answer
  unfolding trace_line
  by_fields line cut is = ap (λ (f : List (List ℕ)). judged assigns revokes (map packed names) (line_of f)) cut ∙ is

  -- a name at a place is a name, and is found there
  at_form : {name : List ℕ} {user : ℕ} → At name names user → is_name name ≡ true
  at_form at = listed_passes is_name all.forms (at_listed at)

  join_cut : {name : List ℕ} (clearance : Bool) → is_name name ≡ true → split 9 (parted 9 (bytes "join" ∷ name ∷ label_text clearance ∷ [])) ≡ bytes "join" ∷ name ∷ label_text clearance ∷ []
  unfolding free every
  join_cut {name} clearance form = parted-fields 9 (bytes "join") (name ∷ label_text clearance ∷ []) (join_free tab name form clearance refl)

  leave_cut : {name : List ℕ} → is_name name ≡ true → split 9 (parted 9 (bytes "leave" ∷ name ∷ [])) ≡ bytes "leave" ∷ name ∷ []
  unfolding free every
  leave_cut {name} form = parted-fields 9 (bytes "leave") (name ∷ []) (leave_free tab name form refl)

  -- a step's line is its step
  step_line : {line : List ℕ} {step : Step} {more : List (List ℕ)} → StepSpelt assigns revokes names line step more → Brings line step more
  unfolding line_of two_fields three_fields four_fields same_bytes judged step_formed step_known step_within step_said name_brought with_name free every comes_to
  step_line (assign {line} said) = record { name = no_name; is = by_fields line (step_fields all said refl) (step_is all said Step.Assign); knows = refl }
  step_line (revoke {line} said) = record { name = no_name; is = by_fields line (step_fields all said refl) (step_is all said Step.Revoke); knows = refl }
  step_line (join {name} {clearance} form none few) =
      let new = (unknown_exact all form).1 none in
      let last = unknown_last all name new in
      let room = lt-ltb (length names) 64 few in
      record {
        name = packed name;
        is = by_fields _ (join_cut clearance form) (rw (form, label_form clearance, new, length-map names packed, room, last, label_back clearance));
        knows = rw (length-map names packed, le-ltb (length names) (length names) (omega arith)) (sym (map-append packed names (name ∷ [])));
      }
  step_line (join_again {name} {user} {clearance} at) =
      let form = at_form at in
      let there = (placed_exact all form user).1 at in
      record {
        name = packed name;
        is = by_fields _ (join_cut clearance form) (rw (form, label_form clearance, (declared_exact all form).1 (at_listed at), there.0, label_back clearance));
        knows = rw (length-map names packed, lt-ltb user (length names) there.1);
      }
  step_line (leave {name} {user} at) =
      let form = at_form at in
      record {
        name = no_name;
        is = by_fields _ (leave_cut form) (rw (form, (declared_exact all form).1 (at_listed at), ((placed_exact all form user).1 at).0));
        knows = refl;
      }

  -- and has no LF in it
  pub spelt_clear : {line : List ℕ} {step : Step} {more : List (List ℕ)} → StepSpelt assigns revokes names line step more → free 10 line ≡ true
  unfolding free every
  spelt_clear (assign said) = step_clear all said refl
  spelt_clear (revoke said) = step_clear all said refl
  spelt_clear (join {name} {clearance} form none few) = parted-free 9 10 refl (bytes "join" ∷ name ∷ label_text clearance ∷ []) (join_free newline name form clearance refl)
  spelt_clear (join_again {name} {user} {clearance} at) = parted-free 9 10 refl (bytes "join" ∷ name ∷ label_text clearance ∷ []) (join_free newline name (at_form at) clearance refl)
  spelt_clear (leave {name} at) = parted-free 9 10 refl (bytes "leave" ∷ name ∷ []) (leave_free newline name (at_form at) refl)

  -- the names that are known after it are names, none of them twice
  pub spelt_names : {line : List ℕ} {step : Step} {more : List (List ℕ)} → StepSpelt assigns revokes names line step more → Names more
  spelt_names (assign said) = all
  spelt_names (revoke said) = all
  spelt_names (join form none few) = names_more all form none
  spelt_names (join_again at) = all
  spelt_names (leave at) = all

  -- it is not `end`, which is no step
  not_end : (line : List ℕ) {read : TraceLine} → trace_line assigns revokes (map packed names) line ≡ Ok read → (b : Bool) → same_bytes line (bytes "end") ≡ b → b ≡ false
  unfolding trace_line line_of judged step_formed comes_to split onto
  not_end line is true same = absurd (true≢false (cc (ap (trace_line assigns revokes (map packed names)) (same_equal line (bytes "end") same))))
  not_end line is false same = refl

  -- A line that is spelt so leads on.
  pub spelt_goes : (steps : List Step) {line : List ℕ} {step : Step} {more : List (List ℕ)} → StepSpelt assigns revokes names line step more
      → judge_line assigns revokes (tracing names steps) line ≡ goes (tracing more (steps ++ (step ∷ [])))
  unfolding judge_line later_line answered
  spelt_goes steps {line} {step} spelt =
      let brings = step_line spelt in
      rw (not_end line brings.is (same_bytes line (bytes "end")) refl, brings.is) (λ i. goes (record { started = true; names = brings.knows i; steps = steps ++ (step ∷ []) }))

  -- A line ends the trace exactly when its bytes are `end`.
  pub end_exact : (steps : List Step) (line : List ℕ) → judge_line assigns revokes (tracing names steps) line ≡ ends ↔ line ≡ bytes "end"
  unfolding Means judge_line later_line
  end_exact steps line = (
    λ is. subst (Means steps line) is (line_means steps line),
    λ e. rw (e, equal_same (bytes "end")),
  )

-- ---- the header

-- The first line leads on exactly when it is the header, and never ends the trace.
pub header_goes : (assigns revokes : ℕ) (users : List Name) (line : List ℕ) (t : Traced) → judge_line assigns revokes (untraced users) line ≡ goes t ↔ ((line ≡ bytes "trace\t1") × (t ≡ begun (untraced users)))
unfolding judge_line untraced header_line same_bytes
header_goes assigns revokes users line t = (λ is. go (same_bytes line (bytes "trace\t1")) refl is, λ (first, leads). rw first (ap goes (sym leads)))
  where
    go : (b : Bool) → same_bytes line (bytes "trace\t1") ≡ b → cond b (goes (begun (untraced users))) (bad 15) ≡ goes t → (line ≡ bytes "trace\t1") × (t ≡ begun (untraced users))
    go true same is = (same_equal line (bytes "trace\t1") same, cc)
    go false same is = absurd (true≢false (cc))

pub header_ends : (assigns revokes : ℕ) (users : List Name) (line : List ℕ) → judge_line assigns revokes (untraced users) line ≡ ends → ⊥
unfolding judge_line untraced header_line
header_ends assigns revokes users line is = go (same_bytes line (bytes "trace\t1")) is
  where
    go : (b : Bool) → cond b (goes (begun (untraced users))) (bad 15) ≡ ends → ⊥
    go true e = true≢false (cc)
    go false e = true≢false (cc)
