-- The witness as a run: seven steps of one call `run`, none of which is a swap or a CSR write of ssp, so that the promise of a run (`run_keeps`)
-- speaks of something too.
-- Assumes nothing.
use mathlib.Core.Bool.{true, false}
use mathlib.Core.Path.{◌≡◌, refl, ap, ◌∙◌}
use Prim.Native.Nat.{ℕ, zero, suc}
use native.Mathlib.Omega.{arith}
use Rattle.std.specs.Option.{is_some}
use Rattle.step_effect.specs.declared.Effect.{Effect}
use Rattle.step_meaning.specs.declared.Source.TheVariants.{Fetch}
use Rattle.step_hart.proofs.Longer.{run_longer}
use Rattle.step_hart.specs.Run.{Run, after, stayed, once, run_from, run_of}
use Rattle.step_hart.specs.Step.{outcome_of, plan_of, step_from}
use Rattle.run_call.specs.Call.{run_refusal_of, taken_with, run_call_of}
use Rattle.theorem_shadow.specs.Promise.{NoSwap, NoPointerWrite, Promise}
use Rattle.theorem_shadow.proofs.Runs.{effect_after, Undisturbed, run_events, run_keeps}
use Rattle.theorem_shadow.proofs.Witness.{memory₀, memory₁, memory₂, memory₃, map₀, hart₀, hart₁, hart₂, hart₃, hart₄, hart₅, hart₆, hart₇, starts}
use Rattle.theorem_shadow.proofs.Witness.{effects, sort_of, no_swap, no_pointer_write}

-- n steps
abbrev steps : ℕ → Run
steps n = run_of n hart₀ memory₀ map₀

-- one step more, whose effect is known
further : (n : ℕ) (r : Run) (e : Effect) → steps n ≡ r → r.trapped ≡ false → plan_of Fetch r.hart r.memory map₀ ≡ e
    → steps (suc n) ≡ after r.count (once (outcome_of e r.hart r.memory))
unfolding step_from
further n r e a t p = run_longer n hart₀ memory₀ map₀ ∙ rw (a, t, p)

ran₀ : steps 0 ≡ stayed hart₀ memory₀
unfolding run_from
ran₀ = refl

ran₁ : steps 1 ≡ record { hart = hart₁; memory = memory₁; count = 1; trapped = false; cause = 0 }
ran₁ = further 0 _ _ ran₀ refl effects.first

ran₂ : steps 2 ≡ record { hart = hart₂; memory = memory₂; count = 2; trapped = false; cause = 0 }
ran₂ = further 1 _ _ ran₁ refl effects.second

ran₃ : steps 3 ≡ record { hart = hart₃; memory = memory₂; count = 3; trapped = false; cause = 0 }
ran₃ = further 2 _ _ ran₂ refl effects.third

ran₄ : steps 4 ≡ record { hart = hart₄; memory = memory₂; count = 4; trapped = false; cause = 0 }
ran₄ = further 3 _ _ ran₃ refl effects.fourth

ran₅ : steps 5 ≡ record { hart = hart₅; memory = memory₂; count = 5; trapped = false; cause = 0 }
ran₅ = further 4 _ _ ran₄ refl effects.fifth

ran₆ : steps 6 ≡ record { hart = hart₆; memory = memory₃; count = 6; trapped = false; cause = 0 }
ran₆ = further 5 _ _ ran₅ refl effects.sixth

-- the whole run
pub ran : run_of 7 hart₀ memory₀ map₀ ≡ record { hart = hart₇; memory = memory₃; count = 7; trapped = true; cause = 18 }
ran = further 6 _ _ ran₆ refl effects.seventh

-- as a call
pub called : run_call_of 7 hart₀ memory₀ map₀ ≡ taken_with (record { hart = hart₇; memory = memory₃; count = 7; trapped = true; cause = 18 })
unfolding run_call_of run_refusal_of
called = rw starts.accepted (ap taken_with ran)

calm : (k : ℕ) (r : Run) (e : Effect) → steps k ≡ r → plan_of Fetch r.hart r.memory map₀ ≡ e → sort_of e ≡ 0
    → NoSwap (effect_after k hart₀ memory₀ map₀) × NoPointerWrite (effect_after k hart₀ memory₀ map₀)
calm k r e a p z =
    rw (a, p) (no_swap e (λ o. absurd (omega (arith, z, o))), no_pointer_write e (λ o. absurd (omega (arith, z, o))))

pub undisturbed : Undisturbed 7 hart₀ memory₀ map₀
undisturbed zero l t = calm 0 _ _ ran₀ effects.first refl
undisturbed (suc zero) l t = calm 1 _ _ ran₁ effects.second refl
undisturbed (suc (suc zero)) l t = calm 2 _ _ ran₂ effects.third refl
undisturbed (suc (suc (suc zero))) l t = calm 3 _ _ ran₃ effects.fourth refl
undisturbed (suc (suc (suc (suc zero)))) l t = calm 4 _ _ ran₄ effects.fifth refl
undisturbed (suc (suc (suc (suc (suc zero))))) l t = calm 5 _ _ ran₅ effects.sixth refl
undisturbed (suc (suc (suc (suc (suc (suc zero)))))) l t = calm 6 _ _ ran₆ effects.seventh refl
undisturbed (suc (suc (suc (suc (suc (suc (suc k))))))) l t = absurd (omega arith)

-- so the promise holds of what the call leaves
pub kept : Promise map₀ hart₀ memory₀ (run_events 7 hart₀ memory₀ map₀)
    (run_call_of 7 hart₀ memory₀ map₀).answer.hart (run_call_of 7 hart₀ memory₀ map₀).memory (is_some (run_call_of 7 hart₀ memory₀ map₀).answer.trap)
kept = run_keeps map₀ hart₀ memory₀ 7 starts (omega arith) undisturbed
