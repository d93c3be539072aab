-- `rows::covering::covers` meets its contract.
use Rattle.std.proofs.Common.{rules, ◌≡◌, ℕ, ◌<◌, length, slice_index, bit_and, Bool, true, false, ◌↔◌, IsTrue, refl, sym}
use Rattle.bits.specs.Bits.{Decides}
use Rattle.bits.proofs.Decide.{says_true, says_false, true_is_not_false}
use Rattle.rows.specs.Covers.{Cover}
use Rattle.rows.proofs.covering.covers.Goals as goal

-- an answer that is true just where P holds
decides_where : (P : Type 0) (b : Bool) → (IsTrue b ↔ P) → Decides P b
decides_where P true h = says_true P (h.0 refl)
decides_where P false h = says_false P (λ p. true_is_not_false (sym (h.1 p)))

pub returns : goal.returns
unfolding Cover
returns c =
    let met : IsTrue c.all.result ↔ ((k : ℕ) → k < length c.args.rows.now → bit_and (slice_index c.args.rows.now k) c.args.m ≡ 0 → ⊥) = search rules in
    decides_where _ _ met
