-- The sets of a policy that is read are words of 64 bits.
use Rattle.std.specs.Prelude.{ℕ, List, ◌≡◌}
use Rattle.model.specs.Sized.{SizedPolicy}
use Rattle.walking.specs.Texts.{read}
use Rattle.reading.specs.Policy.{Said, policy_of, read_policy}
use Rattle.reading.specs.Sound.{read_sound}

pub read_sized : (text : List ℕ) {s : Said} → read_policy text ≡ read s → SizedPolicy (policy_of s)
unfolding policy_of
read_sized text is =
    let sound = read_sound text is in
    record {
      assigns = λ {rule} m. let over = sound.assigns.each rule m in record { positive = over.positive.sized; negative = over.negative.sized };
      goals = λ {goal} m. (sound.goals.each goal m).sized;
    }
