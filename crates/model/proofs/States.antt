-- What a state is after one person of it is another and after somebody joins, and what a run keeps.
use Rattle.std.specs.Prelude.{ℕ, ◌<◌, [], ◌∷◌, ◌≡◌, length, set}
use Rattle.std.proofs.Math.Path.{subst⁻¹}
use Rattle.std.proofs.Common.{length-set, length-append, get_or-set_same, get_or-set_other, arith}
use Rattle.std.proofs.Math.ListN.{get_or-append}
use Rattle.std.proofs.Math.Seq.{get_or-append_seam}
use Rattle.std.proofs.Math.Decide.{ℕ_discrete}
use Rattle.model.specs.declared.Person.{Person}
use Rattle.model.specs.Policy.{Label, State, newcomer, nobody, person, joined, Runs}

-- What holds of everybody, and of the one who is set, holds of everybody afterwards;
pub everyone : (Good : Person → Type 0) (σ : State) (user : ℕ) {p : Person} → ((other : ℕ) → other < length σ → Good (person σ other)) → Good p
    → (other : ℕ) → other < length (set σ user p) → Good (person (set σ user p) other)
unfolding person
everyone Good σ user {p} old new other there = go (ℕ_discrete other user)
  where
    before : other < length σ
    before = rw (length-set σ user p) at there

    go : Dec (other ≡ user) → Good (person (set σ user p) other)
    go (yes same) = rw same (subst⁻¹ Good (get_or-set_same σ user p nobody (rw same at before)) new)
    go (no apart) = subst⁻¹ Good (get_or-set_other σ user other p nobody apart) (old other before)

-- and so what holds of everybody, and of one who joins.
pub everyone-joined : (Good : Person → Type 0) (σ : State) (clearance : Label) → ((other : ℕ) → other < length σ → Good (person σ other)) → Good (newcomer clearance)
    → (other : ℕ) → other < length (joined σ clearance) → Good (person (joined σ clearance) other)
unfolding person joined
everyone-joined Good σ clearance old new other there = go (ℕ_discrete other (length σ))
  where
    go : Dec (other ≡ length σ) → Good (person (joined σ clearance) other)
    go (yes same) = rw same (subst⁻¹ Good (get_or-append_seam σ (newcomer clearance) [] nobody) new)
    go (no apart) =
        let before : other < length σ = omega (arith, there, apart, length-append σ (newcomer clearance ∷ [])) in
        subst⁻¹ Good (get_or-append σ (newcomer clearance ∷ []) nobody other before) (old other before)

module _ {S : State → State → Type 0} where
  -- What every step keeps a run keeps.
  pub runs_keep : (Good : State → Type 0) → ((σ τ : State) → Good σ → S σ τ → Good τ) → {σ τ : State} → Good σ → Runs S σ τ → Good τ
  runs_keep Good keeps good Runs.stay = good
  runs_keep Good keeps good (Runs.next run step) = keeps _ _ (runs_keep Good keeps good run) step

  -- A run goes on with one from its end.
  pub runs_on : {σ τ υ : State} → Runs S σ τ → Runs S τ υ → Runs S σ υ
  runs_on run Runs.stay = run
  runs_on run (Runs.next more step) = Runs.next (runs_on run more) step
