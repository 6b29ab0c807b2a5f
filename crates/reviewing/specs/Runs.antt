-- Entries one after another, each good after those above it: what they lead to, and that their lines are read so.
use Rattle.std.specs.Prelude.{ℕ, suc, ◌≤◌, ◌≡◌}
use mathlib.Core.List.{List, [], ◌∷◌, ◌++◌, append_assoc}
use Rattle.std.proofs.Math.Path.{ap}
use Rattle.std.proofs.Common.{subst, ◌∙◌, arith}
use Rattle.text.specs.Forms.{bytes}
use Rattle.text.specs.Pieces.{split}
use Rattle.tables.specs.declared.Name.{Name}
use Rattle.walking.specs.Texts.{Reading, read_lines}
use Rattle.lines.specs.declared.Entry.{Entry}
use Rattle.lines.specs.Lines.{header_kind}
use Rattle.reading.specs.Policy.{Said, at_stage, added, judge_line}
use Rattle.inscribing.specs.LineText.{line_text, lines_text}
use Rattle.rereading.specs.Back.{line_goes}
use Rattle.reviewing.specs.Lines.{Taken, Ready}

-- Entries lead from what is said above them to what is said with them.
pub data Goods (roles users : List Name) : Said → List Entry → Said → Type 0 where
  done : {s : Said} → Goods roles users s [] s
  more : {s t : Said} {e : Entry} {entries : List Entry} → Taken roles users s e → Goods roles users (added s e) entries t → Goods roles users s (e ∷ entries) t

module _ {roles users : List Name} where
  -- Two runs of entries are one,
  pub goods_join : {s t u : Said} {first second : List Entry} → Goods roles users s first t → Goods roles users t second u → Goods roles users s (first ++ second) u
  goods_join done later = later
  goods_join (more taken below) later = more taken (goods_join below later)

  -- and reading their lines goes on from what they lead to.
  pub goods_read : {s t : Said} {entries : List Entry} (rest : List Entry) {answer : Reading Said} → Goods roles users s entries t
      → ((number : ℕ) → read_lines judge_line 11 t number (split 10 (lines_text roles users rest)) ≡ answer) → (number : ℕ) → read_lines judge_line 11 s number (split 10 (lines_text roles users (entries ++ rest))) ≡ answer
  unfolding lines_text
  goods_read rest done last number = last number
  goods_read rest (more {s} {t} {e} {entries} taken below) last number =
      let text = lines_text roles users (entries ++ rest) in
      ap (λ (l : List ℕ). read_lines judge_line 11 s number (split 10 l)) (append_assoc (line_text roles users e) (bytes "\n") text)
      ∙ line_goes judge_line 11 s number (line_text roles users e) taken.unbroken text taken.adds
      ∙ goods_read rest below last (suc number)

-- ---- the same, from any stage in order

-- Entries up to a kind, from a stage: they lead to a stage up to that kind.
pub record Ways (roles users : List Name) (kind from : ℕ) (x : Said) (entries : List Entry) (y : Said) : Type 0 where
  pub to : ℕ
  pub least : header_kind ≤ to
  pub most : to ≤ kind
  pub goods : Goods roles users (at_stage from x) entries (at_stage to y)

-- From any stage up to that kind.
pub record Through (roles users : List Name) (kind : ℕ) (x : Said) (entries : List Entry) (y : Said) : Type 0 where
  pub ways : (from : ℕ) → header_kind ≤ from → from ≤ kind → Ways roles users kind from x entries y

module _ {roles users : List Name} where
  -- no entry, and entries after others
  pub through_none : {kind : ℕ} {x : Said} → Through roles users kind x [] x
  through_none = record { ways = λ from least most. record { to = from; least = least; most = most; goods = done } }

  pub ways_join : {kind later from : ℕ} {x y z : Said} {first second : List Entry} → Ways roles users kind from x first y → kind ≤ later → Through roles users later y second z
      → Ways roles users later from x (first ++ second) z
  ways_join w up on =
      let v = on.ways w.to w.least (omega (arith, w.most)) in
      record { to = v.to; least = v.least; most = v.most; goods = goods_join w.goods v.goods }

  pub through_join : {kind : ℕ} {x y z : Said} {first second : List Entry} → Through roles users kind x first y → Through roles users kind y second z → Through roles users kind x (first ++ second) z
  through_join one two = record { ways = λ from least most. ways_join (one.ways from least most) (omega arith) two }

  -- an entry that leads to a kind, and from any stage up to it
  pub one_goods : {s t : Said} {e : Entry} → Taken roles users s e → added s e ≡ t → Goods roles users s (e ∷ []) t
  one_goods {s} {t} {e} taken leads = more taken (subst (λ (u : Said). Goods roles users (added s e) [] u) leads done)

  pub through_one : {kind : ℕ} {x y : Said} {e : Entry} → header_kind ≤ kind → ((from : ℕ) → Ready (at_stage from x) kind → Taken roles users (at_stage from x) e) → ((from : ℕ) → added (at_stage from x) e ≡ at_stage kind y)
      → Through roles users kind x (e ∷ []) y
  through_one {kind} after taken leads = record {
    ways = λ from least most. record { to = kind; least = after; most = omega arith; goods = one_goods (taken from (record { least = least; most = most })) (leads from) };
  }
