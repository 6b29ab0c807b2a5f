-- The lines that are written of what is said: those of each block, those before and after the has lines, and all of them.
use Rattle.std.specs.Prelude.{ℕ, zero, suc, ◌≤◌, Bool, cond, List, [], ◌∷◌, ◌++◌, map, ◌≡◌, refl, eqb}
use Rattle.std.proofs.lemmas.List.{map-append}
use Rattle.std.proofs.Common.{append_assoc, sym, ap, ap₂, ◌∙◌, ne_eqb, arith}
use Rattle.text.specs.Forms.{bytes}
use Rattle.text.specs.Pieces.{split, onto}
use Rattle.tables.specs.declared.Name.{Name}
use Rattle.lines.specs.declared.Entry.{Entry}
use Rattle.reading.specs.Policy.{Said, nothing}
use Rattle.showing.specs.Fields.{field}
use Rattle.rereading.specs.Cuts.{cut_first}
use Rattle.drafting.specs.declared.Block.{Block}
use Rattle.inscribing.specs.LineText.{line_text, lines_text}
use Rattle.drafting.specs.PolicyText.{block_size, element, first_of, block_of, entries_of, policy_text}
use Rattle.reviewing.specs.Runs.{Goods, done, more}
use Rattle.reordering.specs.Picked.{gathered}

-- ---- the blocks

-- an element's lines
abbrev pub element_lines : Said → Block → ℕ → List (List ℕ)
element_lines s block place = map (line_text s.roles s.users) (element s block place)

-- and those of all elements
unfoldable pub written : Said → Block → List (List ℕ)
written s block = gathered (element_lines s block) (block_size s block)

first_lines : (s : Said) (block : Block) (count : ℕ) → map (line_text s.roles s.users) (first_of s block count) ≡ gathered (element_lines s block) count
unfolding first_of gathered
first_lines s block zero = refl
first_lines s block (suc count) =
    map-append (line_text s.roles s.users) (first_of s block count) (element s block count) ∙ ap (λ (l : List (List ℕ)). l ++ element_lines s block count) (first_lines s block count)

block_lines : (s : Said) (block : Block) → map (line_text s.roles s.users) (block_of s block) ≡ written s block
unfolding block_of written
block_lines s block = first_lines s block (block_size s block)

-- ---- around the has lines

abbrev header_line : List ℕ
header_line = bytes "arbac" ++ field (bytes "1")

-- the header, once it is read
unfoldable pub headed : ℕ → List (List ℕ)
headed stage = cond (eqb stage 0) [] (header_line ∷ [])

pub headed-past : (stage : ℕ) → 10 ≤ stage → headed stage ≡ header_line ∷ []
unfolding headed
headed-past stage past = ap (λ (b : Bool). cond b [] (header_line ∷ [])) (ne_eqb stage 0 (λ none. absurd (omega (arith, past, none))))

-- The header, the roles and the users,
unfoldable pub before_of : Said → List (List ℕ)
before_of s = headed s.stage ++ written s Block.Roles ++ written s Block.Users

-- and the rules and goals.
unfoldable pub after_of : Said → List (List ℕ)
after_of s = written s Block.Assigns ++ written s Block.Revokes ++ written s Block.Goals

-- ---- the whole

-- entries that are good lines are cut into their lines
goods_split : {roles users : List Name} {s t : Said} {entries : List Entry} → Goods roles users s entries t → (rest : List Entry)
    → split 10 (lines_text roles users (entries ++ rest)) ≡ map (line_text roles users) entries ++ split 10 (lines_text roles users rest)
unfolding lines_text
goods_split done rest = refl
goods_split {roles} {users} (more {e = e} {entries = entries} taken below) rest =
    let text = lines_text roles users (entries ++ rest) in
    ap (split 10) (append_assoc (line_text roles users e) (bytes "\n") text) ∙ cut_first 10 (line_text roles users e) text taken.unbroken
    ∙ ap (λ (l : List (List ℕ)). line_text roles users e ∷ l) (goods_split below rest)

-- the last line, and what is past it
end_split : (roles users : List Name) → split 10 (lines_text roles users (Entry.End ∷ [])) ≡ bytes "end" ∷ [] ∷ []
unfolding lines_text line_text split onto
end_split roles users = refl

-- the blocks and the header, as lines
blocks_lines : (s : Said) → 10 ≤ s.stage
    → map (line_text s.roles s.users) ((Entry.Header ∷ []) ++ block_of s Block.Roles ++ block_of s Block.Users ++ block_of s Block.Has ++ block_of s Block.Assigns ++ block_of s Block.Revokes ++ block_of s Block.Goals)
    ≡ before_of s ++ written s Block.Has ++ after_of s
unfolding before_of after_of line_text
blocks_lines s past =
    let line = line_text s.roles s.users in
    let one = (Entry.Header ∷ []) ++ block_of s Block.Roles in
    let two = one ++ block_of s Block.Users in
    let three = two ++ block_of s Block.Has in
    let four = three ++ block_of s Block.Assigns in
    let five = four ++ block_of s Block.Revokes in
    map-append line five (block_of s Block.Goals) ∙ ap₂ ◌++◌ (map-append line four (block_of s Block.Revokes) ∙ ap₂ ◌++◌ (map-append line three (block_of s Block.Assigns) ∙ ap₂ ◌++◌
    (map-append line two (block_of s Block.Has) ∙ ap₂ ◌++◌ (map-append line one (block_of s Block.Users) ∙ ap₂ ◌++◌ (map-append line (Entry.Header ∷ []) (block_of s Block.Roles) ∙ ap₂ ◌++◌ (sym (headed-past s.stage past)) (block_lines s Block.Roles))
    (block_lines s Block.Users)) (block_lines s Block.Has)) (block_lines s Block.Assigns)) (block_lines s Block.Revokes)) (block_lines s Block.Goals)
    ∙ regroup (headed s.stage ++ written s Block.Roles ++ written s Block.Users ++ written s Block.Has) (written s Block.Assigns) (written s Block.Revokes) (written s Block.Goals)
  where
    regroup : (a b d e : List (List ℕ)) → a ++ b ++ d ++ e ≡ a ++ (b ++ d ++ e)
    regroup a b d e = ap (λ (l : List (List ℕ)). l ++ e) (append_assoc a b d) ∙ append_assoc a (b ++ d) e

-- The text is its lines, and nothing past the last LF.
pub text_lines : (s : Said) → 10 ≤ s.stage
    → Goods s.roles s.users nothing ((Entry.Header ∷ []) ++ block_of s Block.Roles ++ block_of s Block.Users ++ block_of s Block.Has ++ block_of s Block.Assigns ++ block_of s Block.Revokes ++ block_of s Block.Goals) s
    → split 10 (policy_text s) ≡ before_of s ++ written s Block.Has ++ (after_of s ++ (bytes "end" ∷ [] ∷ []))
unfolding policy_text entries_of
text_lines s past goods =
    goods_split goods (Entry.End ∷ []) ∙ ap₂ ◌++◌ (blocks_lines s past) (end_split s.roles s.users) ∙ append_assoc (before_of s ++ written s Block.Has) (after_of s) (bytes "end" ∷ [] ∷ [])
