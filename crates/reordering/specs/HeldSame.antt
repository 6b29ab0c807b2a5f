-- Has lines that are good in one order are good in every order, and lead to the same.
use Rattle.std.specs.Prelude.{ℕ, true, false, ◌≡◌, refl}
use Rattle.std.proofs.Math.Bool.{not, ◌&&◌, and-eq-true_iff}
use Rattle.std.proofs.Common.{true≢false, sym, ap, ap₂, subst, ◌∙◌}
use mathlib.Core.List.Memᴰ.{head as front}
use mathlib.Core.List.Memᴰ.{tail as later}
use mathlib.Core.List.{List, [], ◌∷◌, ◌++◌, Memᴰ as Listed}
use borrow.Author.Tests.{not-true}
use Rattle.roles.specs.Sets.{has_role}
use Rattle.model.specs.Policy.{person}
use Rattle.text.specs.Forms.{bytes, is_name}
use Rattle.text.specs.Pieces.{split, same_bytes}
use Rattle.fields.specs.Fields.{placed, is_declared}
use Rattle.walking.specs.Texts.{Judged, goes, ends, bad}
use Rattle.walking.specs.TextLaws.{goes_one, goes_bad}
use Rattle.walking.specs.Turns.{test, in_turn}
use Rattle.walking.specs.TurnLaws.{turn_passes, turn_good}
use Rattle.lines.specs.declared.Entry.{Entry}
use Rattle.lines.specs.Lines.{one_field, two_fields, three_fields, five_fields, line_of, asked, tests, in_order, has_kind}
use Rattle.lines.specs.Lines as kind
use Rattle.reading.specs.Policy.{Said, at_stage, say_holdings, counts_of, kind_of, noted, added, is_new, leads, line_asked, line_tests, judge_line}
use Rattle.reordering.specs.Alike.{Inserted, Reordered, HasLine}
use Rattle.reordering.specs.Orders.{reordered_back, reordered_listed}
use Rattle.reordering.specs.Grants.{granted_swap, new_before, new_after}

-- ---- a has line that is good

-- A line whose first field is `has` is a has line of two fields more, or has no kind.
data HasKind : kind.Line → Type 0 where
  has : (holder held : List ℕ) → HasKind (kind.has holder held)
  none : HasKind kind.other

has_kind_lem : (rest : List (List ℕ)) → HasKind (line_of (bytes "has" ∷ rest))
unfolding line_of one_field two_fields three_fields five_fields same_bytes
has_kind_lem [] = none
has_kind_lem (a ∷ []) = none
has_kind_lem (a ∷ b ∷ []) = has a b
has_kind_lem (a ∷ b ∷ c ∷ []) = none
has_kind_lem (a ∷ b ∷ c ∷ d ∷ []) = none
has_kind_lem (a ∷ b ∷ c ∷ d ∷ e ∷ more) = none

-- What is asked of it and of the lines above.
record Fits (s : Said) (holder held : List ℕ) : Type 0 where
  order : in_order s.stage has_kind ≡ true
  form : (is_name holder && is_name held) ≡ true
  known : (is_declared s.users holder && is_declared s.roles held) ≡ true
  new : has_role (person s.holdings (placed s.users holder)).roles (placed s.roles held) ≡ false

-- What it leads to.
unfoldable with_pair : Said → (holder held : List ℕ) → Said
with_pair s holder held = added s (Entry.Has (placed s.users holder) (placed s.roles held))

-- a line by its kind
unfoldable judge_kind : Said → kind.Line → Judged Said
judge_kind s f =
    let a = asked (counts_of s) s.roles s.users f in
    in_turn bad (tests a.formed a.within a.known ++ (test 11 (is_new s.holdings a.says) ∷ [])) (leads s a.says)

by_kind : (s : Said) (line : List ℕ) {f : kind.Line} → line_of (split 9 line) ≡ f → judge_line s line ≡ judge_kind s f
unfolding judge_line line_tests line_asked judge_kind
by_kind s line is = ap (judge_kind s) is

module _ (s : Said) (holder held : List ℕ) where
  fits_goes : Fits s holder held → judge_kind s (kind.has holder held) ≡ goes (with_pair s holder held)
  unfolding judge_kind asked tests counts_of is_new leads kind_of with_pair
  fits_goes fits = turn_passes bad _ _ (ap₂ ◌&&◌ fits.order fits.form, (refl, (fits.known, (ap not fits.new, tt))))

  goes_fits : {t : Said} → judge_kind s (kind.has holder held) ≡ goes t → Fits s holder held × (with_pair s holder held ≡ t)
  unfolding judge_kind asked tests counts_of is_new leads kind_of with_pair
  goes_fits {t} is =
      let (passed, on) = turn_good bad _ _ (goes t) (λ k e. goes_bad e) is in
      let (order, form) = (and-eq-true_iff (in_order s.stage has_kind) (is_name holder && is_name held)).0 passed.0 in
      (record { order = order; form = form; known = passed.1.1.0; new = not-true _ passed.1.1.1.0 }, goes_one on)

-- it is not `end`
bad_ends : {number : ℕ} {answer : Judged Said} → bad number ≡ answer → answer ≡ ends → ⊥
bad_ends e is = true≢false (cc)

goes_not_ends : {t : Said} → goes t ≡ ends → ⊥
goes_not_ends e = true≢false (cc)

pair_on : (s : Said) (holder held : List ℕ) → judge_kind s (kind.has holder held) ≡ ends → ⊥
unfolding judge_kind asked tests counts_of is_new leads kind_of
pair_on s holder held is = goes_not_ends (turn_good bad _ _ ends (λ k e. bad_ends e refl) is).1

has_on : (s : Said) {f : kind.Line} → HasKind f → judge_kind s f ≡ ends → ⊥
unfolding judge_kind asked tests in_turn
has_on s (has holder held) is = pair_on s holder held is
has_on s none is = bad_ends refl is

pub has_no_end : (s : Said) (line : List ℕ) → HasLine line → judge_line s line ≡ ends → ⊥
has_no_end s line h is = has_on s (has_kind_lem h.rest) (sym (by_kind s line (ap line_of h.first_field)) ∙ is)

-- ---- two has lines change places

pairs_swap : (s : Said) (holder held holder' held' : List ℕ) → with_pair (with_pair s holder' held') holder held ≡ with_pair (with_pair s holder held) holder' held'
unfolding with_pair added noted kind_of
pairs_swap s holder held holder' held' = λ i. at_stage has_kind (say_holdings (granted_swap s.holdings (placed s.users holder') (placed s.roles held') (placed s.users holder) (placed s.roles held) i) s)

pairs_fit : (s : Said) (holder held holder' held' : List ℕ) → Fits s holder held → Fits (with_pair s holder held) holder' held' → Fits s holder' held' × Fits (with_pair s holder' held') holder held
unfolding with_pair added noted kind_of in_order
pairs_fit s holder held holder' held' one two =
    let user = placed s.users holder in
    let role = placed s.roles held in
    let user' = placed s.users holder' in
    let role' = placed s.roles held' in (
      record { order = one.order; form = two.form; known = two.known; new = new_before s.holdings user role user' role' two.new },
      record { order = refl; form = one.form; known = one.known; new = new_after s.holdings user role user' role' one.new two.new },
    )

kinds_swap : (s u v : Said) {f g : kind.Line} → HasKind f → HasKind g → judge_kind s f ≡ goes u → judge_kind u g ≡ goes v → (w : Said) × (judge_kind s g ≡ goes w) × (judge_kind w f ≡ goes v)
unfolding judge_kind asked tests in_turn
kinds_swap s u v none g one two = absurd (goes_bad one)
kinds_swap s u v (has holder held) none one two = absurd (goes_bad two)
kinds_swap s u v (has holder held) (has holder' held') one two =
    let (fits, is) = goes_fits s holder held one in
    let (fits', is') = goes_fits (with_pair s holder held) holder' held' (subst (λ (x : Said). judge_kind x (kind.has holder' held') ≡ goes v) (sym is) two) in
    let (before, after) = pairs_fit s holder held holder' held' fits fits' in (
      with_pair s holder' held',
      fits_goes s holder' held' before,
      fits_goes (with_pair s holder' held') holder held after ∙ ap goes (pairs_swap s holder held holder' held' ∙ is'),
    )

lines_swap : (s u v : Said) (line line' : List ℕ) → HasLine line → HasLine line' → judge_line s line ≡ goes u → judge_line u line' ≡ goes v → (w : Said) × (judge_line s line' ≡ goes w) × (judge_line w line ≡ goes v)
lines_swap s u v line line' h h' one two =
    let is = ap line_of h.first_field in
    let is' = ap line_of h'.first_field in
    let (w, before, after) = kinds_swap s u v (has_kind_lem h.rest) (has_kind_lem h'.rest) (sym (by_kind s line is) ∙ one) (sym (by_kind u line' is') ∙ two) in
    (w, by_kind s line' is' ∙ before, by_kind w line is ∙ after)

-- ---- has lines in another order

-- Lines that lead from what was said above them to what is said with them.
pub data Led : Said → List (List ℕ) → Said → Type 0 where
  done : {s : Said} → Led s [] s
  next : {s t u : Said} {line : List ℕ} {lines : List (List ℕ)} → judge_line s line ≡ goes t → Led t lines u → Led s (line ∷ lines) u

swap_front : {s t : Said} {line line' : List ℕ} {lines : List (List ℕ)} → HasLine line → HasLine line' → Led s (line ∷ line' ∷ lines) t → Led s (line' ∷ line ∷ lines) t
swap_front {s} {t} {line} {line'} h h' (next {t = u} one (next {t = v} two below)) =
    let (w, before, after) = lines_swap s u v line line' h h' one two in next before (next after below)

-- one of them first, and the others after it
led_front : {line : List ℕ} {s t : Said} {others all : List (List ℕ)} → Inserted line others all → HasLine line → ((x : List ℕ) → Listed x others → HasLine x) → Led s all t → Led s (line ∷ others) t
led_front Inserted.here h each led = led
led_front (Inserted.there {y = y} below) h each (next one led) = swap_front (each y (front refl)) h (next one (led_front below h (λ x listed. each x (later listed)) led))

led_rest : {s t : Said} {line : List ℕ} {rest others : List (List ℕ)} → ((u : Said) → Led u others t → Led u rest t) → Led s (line ∷ others) t → Led s (line ∷ rest) t
led_rest below (next {t = u} one led) = next one (below u led)

pub held_same : {s t : Said} {held held' : List (List ℕ)} → Reordered held held' → ((x : List ℕ) → Listed x held → HasLine x) → Led s held' t → Led s held t
held_same Reordered.none each led = led
held_same {t = t} (Reordered.put {x = line} {rest = rest} order at) each led =
    led_rest (λ u below. held_same order (λ x listed. each x (later listed)) below)
    (led_front at (each line (front refl)) (λ x listed. each x (later (reordered_listed (reordered_back order) listed))) led)
