-- The law behind reading an F: the operands of a block.
use Rattle.std.proofs.Common.{◌≡◌, ℕ, suc, ◌+◌, ◌-◌, ◌≤◌, List, [], ◌∷◌, map, get_or, length, take, drop, sym, ap, ap₂, ◌∙◌, arith, length-drop, refl}
use lib.Seq.{get_or-drop}
use Rattle.model.specs.declared.Block.{Block}
use Rattle.model.specs.Base.{below}
use Rattle.model.specs.Commands.{number, block_of_f}
use Rattle.model.proofs.Lists.{by_entries}

module _ (job : List ℕ) (at : ℕ) where
  byte : (k i : ℕ) → k ≡ at + i → get_or job k 0 ≡ get_or (drop at job) i 0
  byte k i e = ap (λ (n : ℕ). get_or job n 0) e ∙ sym (get_or-drop at job i 0)

  vertex_bytes : at + 35 ≤ length job → take 32 (drop (at + 1) job) ≡ map (λ i. get_or (drop at job) (suc i) 0) (below 32)
  vertex_bytes l = by_entries (λ i. get_or (drop at job) (suc i) 0) (drop (at + 1) job) 0 32 (omega (arith, length-drop (at + 1) job))
      (λ i m. sym (byte (at + 1 + i) (suc (0 + i)) (omega arith)) ∙ sym (get_or-drop (at + 1) job i 0))

  pub block_read : (vertices : List ℕ) (weight : ℕ) → at + 35 ≤ length job → vertices ≡ take 32 (drop (at + 1) job)
      → weight ≡ number (get_or job (at + 33) 0 ∷ get_or job (at + 33 + 1) 0 ∷ [])
      → ◌≡◌ {A = Block} (record { outputs = get_or job at 0; vertices = vertices; weight = weight }) (block_of_f (drop at job))
  block_read vertices weight l e f =
      rw (byte at 0 (omega arith), e ∙ vertex_bytes l, f ∙ ap₂ (λ (x y : ℕ). number (x ∷ y ∷ [])) (byte (at + 33) 33 refl) (byte (at + 33 + 1) 34 (omega arith)))
