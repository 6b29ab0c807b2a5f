-- Who has left is gone for good: not present and without roles, in every state that a run leads to.
use Rattle.std.specs.Prelude.{ℕ, ◌<◌, true, false, [], ◌∷◌, ◌≡◌, length, set}
use Rattle.std.proofs.lemmas.Bool.{false≢true}
use Rattle.std.proofs.Common.{sym, subst, ◌∙◌, length-set, get_or-set_same, arith}
use Rattle.std.proofs.Math.Path.{ap}
use Rattle.std.proofs.Math.ListN.{length-append, get_or-append}
use Rattle.std.proofs.Math.Seq.{get_or-set_other}
use Rattle.roles.specs.Sets.{empty_set}
use Rattle.model.specs.declared.Person.{Person}
use Rattle.model.specs.Policy.{Policy, State, newcomer, nobody, person, Present, granted, revoked, Step, leaver, joined, departed, Move, Run}
use Rattle.model.proofs.States.{runs_keep}

-- The user was here, is not present and holds nothing.
pub record Gone (user : ℕ) (σ : State) : Type 0 where
  pub listed : user < length σ
  pub away : (person σ user).present ≡ false
  pub idle : (person σ user).roles ≡ empty_set

-- Who leaves is gone.
pub leave_gone : {σ : State} {user : ℕ} → Present σ user → Gone user (departed σ user)
unfolding person departed leaver
leave_gone {σ} {user} here =
    let same = get_or-set_same σ user (leaver (person σ user)) nobody here.listed in
    record {
      listed = rw (length-set σ user (leaver (person σ user))) here.listed;
      away = ap (λ (p : Person). p.present) same;
      idle = ap (λ (p : Person). p.roles) same;
    }

module _ {user : ℕ} where
  -- a present person who is set is another
  apart : {σ : State} {other : ℕ} → Gone user σ → Present σ other → user ≡ other → ⊥
  apart {σ} gone here same = false≢true (sym gone.away ∙ subst (λ (k : ℕ). (person σ k).present ≡ true) (sym same) here.here)

  set_gone : {σ : State} {other : ℕ} (p : Person) → Gone user σ → Present σ other → Gone user (set σ other p)
  unfolding person
  set_gone {σ} {other} p gone here =
      let stays = get_or-set_other σ other user p nobody (apart gone here) in
      record { listed = rw (length-set σ other p) gone.listed; away = ap (λ (q : Person). q.present) stays ∙ gone.away; idle = ap (λ (q : Person). q.roles) stays ∙ gone.idle }

  step_gone : {P : Policy} {σ τ : State} → Gone user σ → Step P σ τ → Gone user τ
  unfolding granted revoked
  step_gone gone (Step.assign listed can fresh) = set_gone _ gone can.user_present
  step_gone gone (Step.revoke listed can held) = set_gone _ gone can.user_present

  move_gone : {P : Policy} {σ τ : State} → Gone user σ → Move P σ τ → Gone user τ
  unfolding joined departed person
  move_gone gone (Move.step step) = step_gone gone step
  move_gone {σ = σ} gone (Move.join clearance) =
      let stays = get_or-append σ (newcomer clearance ∷ []) nobody user gone.listed in
      record {
        listed = omega (arith, gone.listed, length-append σ (newcomer clearance ∷ []));
        away = ap (λ (q : Person). q.present) stays ∙ gone.away;
        idle = ap (λ (q : Person). q.roles) stays ∙ gone.idle;
      }
  move_gone gone (Move.leave here) = set_gone _ gone here

  -- Nobody comes back.
  pub gone_stays : {P : Policy} {σ τ : State} → Gone user σ → Run P σ τ → Gone user τ
  gone_stays gone run = runs_keep (Gone user) (λ σ τ. move_gone) gone run
